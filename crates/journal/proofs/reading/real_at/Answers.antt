-- `journal::reading::real_at` meets its contract: sixteen bytes are the digits, however many follow. Assumes nothing.
use Rattle.std.proofs.Common.{◌≡◌, ap, ◌∙◌, take, rules}
use Rattle.journal.specs.Reading.{real_at}
use Rattle.journal.proofs.Bytes.{real_at_of_front}
use Rattle.journal.proofs.reading.real_at.Goals as goal

pub returns-in-Some : goal.returns-in-Some
unfolding real_at
returns-in-Some c =
    let d : c.in-Some.digits.now ≡ take 16 c.args.s.now = search rules in
    let e : c.from_bits.result ≡ real_at c.in-Some.digits.now = search rules in
    e ∙ ap real_at d ∙ real_at_of_front c.args.s.now
