-- `journal::writing::write_line` meets its contract: the head, the seed and the outcome are stored one behind the other, and together are the line.
-- Assumes nothing.
use Rattle.std.proofs.Common.{ℕ, ◌≤◌, List, Bool, true, false, not, ◌||◌, ◌≡◌, sym, ◌∙◌, ltb, length, rules}
use Rattle.journal.specs.declared.Line.{Line}
use Rattle.journal.specs.Line.{writable}
use Rattle.journal.specs.Writing.{refuses_line}
use Rattle.journal.proofs.Fits.{line_fits}
use Rattle.journal.proofs.Refused.{line_refused}
use Rattle.journal.proofs.Parts.{refuses_line_by_test, taken_line_has_room_and_is_writable, line_stored}
use Rattle.journal.proofs.writing.write_line.Goals as goal

-- what the test says
refuses_line_by_result : (l : Line) (out : List ℕ) (w b : Bool) → w ≡ writable l → (ltb (length out) 256 || not w) ≡ b → refuses_line l out ≡ b
refuses_line_by_result l out w b e h = sym (refuses_line_by_test l out w e) ∙ h

-- a buffer of 256 bytes has room for every part
room_for_256_bytes : (l : Line) (out : List ℕ) (w : Bool) → w ≡ writable l → (ltb (length out) 256 || not w) ≡ false → 256 ≤ length out
room_for_256_bytes l out w e h = (taken_line_has_room_and_is_writable l out (refuses_line_by_result l out w false e h)).0

pub returns-then-out-is_writable : goal.returns-then-out-is_writable
returns-then-out-is_writable c =
    let w = c.is_writable in
    let r = line_refused c.args.line c.args.out.now (refuses_line_by_result c.args.line c.args.out.now w.result true w.ensures c.if-out-is_writable.true) in
    record { reply = r.0; written = r.1; fits = line_fits c.args.line _ c.well_formed.0 }

pub put_head-at-requires : goal.put_head-at-requires
put_head-at-requires c =
    let w = c.is_writable in
    let r = room_for_256_bytes c.args.line c.args.out.now w.result w.ensures c.if-out-is_writable.false in
    search rules

pub put_reals-requires : goal.put_reals-requires
put_reals-requires c =
    let w = c.is_writable in
    let r = room_for_256_bytes c.args.line c.args.out.now w.result w.ensures c.if-out-is_writable.false in
    search rules

pub put_outcome-requires : goal.put_outcome-requires
put_outcome-requires c =
    let w = c.is_writable in
    let r = room_for_256_bytes c.args.line c.args.out.now w.result w.ensures c.if-out-is_writable.false in
    search rules

pub returns : goal.returns
returns c =
    let w = c.is_writable in
    let a = c.args in
    let s = line_stored a.line a.out.now _ _ _ (refuses_line_by_result a.line a.out.now w.result false w.ensures c.if-out-is_writable.false)
    c.put_head-at.result c.put_outcome.result c.into-numbers.result
    c.put_head-at.ensures.0 c.into-numbers.ensures c.put_head-at.ensures.1 c.put_reals.ensures
    c.put_outcome.ensures.0 c.put_outcome.ensures.1 in
    record { reply = s.0; written = s.1; fits = line_fits a.line _ c.well_formed.0 }
