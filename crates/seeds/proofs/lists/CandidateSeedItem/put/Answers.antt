-- `put` of a seed meets its contract. Assumes nothing.
use Rattle.std.proofs.Common.{◌≡◌, ◌∙◌, ◌+◌, ◌-◌, ◌*◌, arith}
use Rattle.std.proofs.lemmas.Slice.{put_mid-paste}
use lib.Seq.{sets-eq}
use Rattle.seeds.specs.Layout.{six}
use Rattle.seeds.proofs.lists.CandidateSeedItem.put.Goals as goal

pub returns : goal.returns
returns c =
    let a = c.args in
    let f : c.copy_from_slice.new.self ≡ six a.self = c.copy_from_slice.ensures.after ∙ c.into-numbers.ensures in
    put_mid-paste (6 * a.i) (6 * a.i + 6 - 6 * a.i) a.seeds.now c.copy_from_slice.new.self (six a.self) 6 f (omega arith) (omega arith)
    ∙ rw (sets-eq (six a.self) a.seeds.now (6 * a.i) (omega arith))
