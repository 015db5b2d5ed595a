-- A run that crosses the C boundary and comes back is the run that it was, and so is a line. Assumes nothing.
use Rattle.std.specs.Prelude.{ℕ, ◌≡◌, refl, Bool, true, false, Ok, Err}
use Rattle.seeds.specs.declared.CandidateSeed.{CandidateSeed}
use Rattle.search.specs.declared.run.Run.{Run}
use Rattle.journal.specs.declared.Line.{Line}
use Rattle.score.specs.declared.outcome.SkipReason.{SkipReason}
use Rattle.score.specs.declared.outcome.SkipReason.TheVariants.{HostFailed, BadCamera, NoMean, NoNumber}
use Rattle.journal.specs.Outcome.{Recorded}
use Rattle.capi_records.specs.Record.{flag_of, is_set, run_from, flat_run}
use Rattle.capi_records.specs.Journal.{line_from, flat_fields, flat_line}
use Rattle.capi_records.specs.Theorem.{ComesBack}

pub flag_comes_back : (b : Bool) → is_set (flag_of b) ≡ b
flag_comes_back true = refl
flag_comes_back false = refl

pub run_back : (r : Run) → run_from (flat_run r) ≡ r
run_back r = simp (flag_comes_back r.options.one_axis, flag_comes_back r.place.over, flag_comes_back r.waiting.is_waiting, flag_comes_back r.round_best.found, flag_comes_back r.run_best.found, flag_comes_back r.last.found)

reason_comes_back : (n r : ℕ) (s : CandidateSeed) (q : SkipReason) → line_from (flat_fields n r s (Err q)) ≡ Ok (record { number = n; round = r; seed = s; outcome = Err q })
reason_comes_back n r s HostFailed = refl
reason_comes_back n r s BadCamera = refl
reason_comes_back n r s NoMean = refl
reason_comes_back n r s NoNumber = refl

fields_come_back : (n r : ℕ) (s : CandidateSeed) (o : Recorded) → line_from (flat_fields n r s o) ≡ Ok (record { number = n; round = r; seed = s; outcome = o })
fields_come_back n r s (Ok f) = refl
fields_come_back n r s (Err q) = reason_comes_back n r s q

-- a line comes back as it was
pub line_back : (l : Line) → line_from (flat_line l) ≡ Ok l
line_back l = fields_come_back l.number l.round l.seed l.outcome

pub comes_back : ComesBack
comes_back = record { run_back = run_back; line_back = line_back }
