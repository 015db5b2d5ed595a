-- `replay::resume::is_cut_line` meets its contract: no newline is found where none is counted. Assumes nothing.
use Rattle.std.proofs.Common.{◌≡◌, eqb, length, rules}
use Rattle.std.specs.List.{list_any}
use Rattle.replay.specs.ReplayLaws.{cut_line_by_search}
use Rattle.replay.proofs.resume.is_cut_line.Goals as goal

pub returns : goal.returns
returns c =
    let s = c.args.rest.now in
    let e : c.is_empty.result ≡ eqb (length s) 0 = search rules in
    let f : c.contains.result ≡ list_any (λ b. eqb b 10) s = search rules in
    rw (e, f) (cut_line_by_search s)
