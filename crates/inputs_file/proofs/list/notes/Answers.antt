use Rattle.std.proofs.Common.{◌≡◌, ◌∙◌, ◌++◌, ◌∷◌, [], map, sym}
use Rattle.std.proofs.lemmas.List.{map_push}
use Rattle.std.proofs.lemmas.Result.{err_from_is_err_and}
use Rattle.inputs_file.specs.declared.field.Field.TheVariants as fields
use Rattle.inputs_file.specs.Reading.{pair_at, all_at}
use Rattle.inputs_file.specs.View.{note_view}
use Rattle.inputs_file.proofs.FileLaws.{note_long, note_shrinks}
use Rattle.inputs_file.proofs.Lists.{goes_on, ends, is_done}
use Rattle.inputs_file.proofs.list.notes.Goals as goal

pub returns-in_err-note : goal.returns-in_err-note
returns-in_err-note c =
    let p = err_from_is_err_and c.from_residual.result c.from_residual.ensures.1 in
    rw (p.1, p.2) (ends c.in_err-note.field-0.0 (pair_at fields.Note) fields.Note note_long (map note_view c.loop-alloc.notes.items) c.loop-alloc.rest.now (all_at (pair_at fields.Note) fields.Note c.args.bytes.now) (sym c.begins.ensures ∙ c.loop-alloc-test.true) c.in_err-note.ensures c.loop-alloc.invariant)

pub loop-alloc-smaller : goal.loop-alloc-smaller
loop-alloc-smaller c = note_shrinks c.loop-alloc.rest.now (note_view c.in_ok-note.note) c.in_ok-note.after.now c.in_ok-note.ensures

pub loop-alloc-preserved : goal.loop-alloc-preserved
loop-alloc-preserved c =
    let pushed : map note_view c.push.new.self.items ≡ map note_view c.loop-alloc.notes.items ++ note_view c.in_ok-note.note ∷ [] = rw c.in_ok-push.ensures.items (map_push note_view c.loop-alloc.notes.items c.in_ok-note.note) in
    rw pushed (goes_on (pair_at fields.Note) fields.Note note_long note_shrinks (map note_view c.loop-alloc.notes.items) c.loop-alloc.rest.now (note_view c.in_ok-note.note) c.in_ok-note.after.now
    (all_at (pair_at fields.Note) fields.Note c.args.bytes.now) (sym c.begins.ensures ∙ c.loop-alloc-test.true) c.in_ok-note.ensures c.loop-alloc.invariant)

pub returns : goal.returns
returns c = is_done (pair_at fields.Note) fields.Note (map note_view c.loop-alloc.notes.items) c.loop-alloc.rest.now (all_at (pair_at fields.Note) fields.Note c.args.bytes.now) (sym c.begins.ensures ∙ c.loop-alloc-test.false) c.loop-alloc.invariant
