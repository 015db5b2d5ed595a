-- `journal::writing::put_minuses` meets its contract: the sixteen bytes that are copied are the eight fields. Assumes nothing.
use Rattle.std.proofs.Common.{◌+◌, ◌-◌, List, ℕ, sym, ◌∙◌, arith, [], replicate, ◌∷◌}
use Rattle.std.proofs.lemmas.Slice.{put_mid-paste}
use lib.Seq.{sets-eq, length-sets}
use Rattle.journal.specs.Steps.{comma_fields}
use Rattle.journal.proofs.writing.put_minuses.Goals as goal

abbrev minuses : List ℕ
minuses = comma_fields (replicate 8 (45 ∷ []))

pub returns : goal.returns
unfolding comma_fields
returns c =
    let a = c.args in
    let now = put_mid-paste a.at (a.at + 16 - a.at) a.out.now c.copy_from_slice.new.self minuses 16 c.copy_from_slice.ensures.after (omega arith) (omega arith)
    ∙ sym (sets-eq minuses a.out.now a.at (omega arith)) in
    record { now_is = now; same_long = rw now (length-sets a.out.now a.at minuses) }
