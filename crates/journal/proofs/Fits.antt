-- What a program knows of a line that it holds: each number is a value of the format. Assumes nothing.
use Rattle.std.proofs.Common.{Ok, Err, List}
use Rattle.std.specs.Bool.{passes}
use mir.Val.{Val}
use denote.Laws.{Is}
use denote.Struct.Laws as LL
use denote.Enum.Laws as EL
use denote.Param.Laws.{struct_told, enum_told}
use Rattle.common.specs.Each.{All}
use Rattle.camera.specs.contracts.intrinsics.FxFyCxCy as K
use Rattle.camera.proofs.intrinsics.FxFyCxCy.TheLaws as K'
use Rattle.camera.specs.contracts.sensor.ScheimpflugParams as P
use Rattle.camera.proofs.sensor.ScheimpflugParams.TheLaws as P'
use Rattle.seeds.specs.declared.CandidateSeed.{CandidateSeed}
use Rattle.seeds.specs.contracts.CandidateSeed as C
use Rattle.seeds.proofs.CandidateSeed.TheLaws as C'
use Rattle.seeds.specs.Layout.{six}
use Rattle.journal.specs.Line.{eight, recorded_numbers, Fits, LineFits}
use Rattle.journal.specs.declared.ScoredFields.{ScoredFields}
use Rattle.journal.specs.Outcome.{Recorded}
use Rattle.journal.specs.declared.Line.{Line}
use Rattle.journal.specs.contracts.ScoredFields as R
use Rattle.journal.proofs.ScoredFields.TheLaws as R'
use Rattle.std.specs.contracts.result.Result as O
use Rattle.std.proofs.result.Result.TheLaws as O'
use Rattle.score.specs.contracts.outcome.SkipReason as S
use Rattle.score.proofs.outcome.SkipReason.TheLaws as S'
use Rattle.journal.specs.contracts.Line as N
use Rattle.journal.proofs.Line.TheLaws as N'

seed_numbers_fit : (s : CandidateSeed) (vs : List Val) → Is C.the_row s vs → All Fits (six s)
seed_numbers_fit s vs g =
    let f = LL.owed C.the_type C'.the_laws s vs g in
    let k = LL.owed K.the_type K'.the_laws s.reference_k _ f.0 in
    let p = LL.owed P.the_type P'.the_laws s.sensor _ f.1.0 in
    (passes _ k.0.1, (passes _ k.1.0.1, (passes _ k.1.1.0.1, (passes _ k.1.1.1.0.1, (passes _ p.0.1, (passes _ p.1.0.1, tt))))))

scored_numbers_fit : (r : ScoredFields) (vs : List Val) → Is R.the_row r vs → All Fits (eight r)
scored_numbers_fit r vs g =
    let f = LL.owed R.the_type R'.the_laws r vs g in
    let k = LL.owed K.the_type K'.the_laws r.k _ f.1.1.0 in
    (passes _ f.0.1, (passes _ f.1.0.1, (passes _ k.0.1, (passes _ k.1.0.1, (passes _ k.1.1.0.1, (passes _ k.1.1.1.0.1, (passes _ f.1.1.1.0.1, (passes _ f.1.1.1.1.0.1, tt))))))))

-- what a line records: its type's laws
recorded_laws : EL.Laws (O.the_type R.the_row S.the_row)
recorded_laws = O'.the_laws R.the_row S.the_row R'.the_row_laws S'.the_row_laws (struct_told R.the_type R'.the_laws) (enum_told S.the_type S'.the_laws)

outcome_numbers_fit : (o : Recorded) (vs : List Val) → Is (O.the_row R.the_row S.the_row) o vs → All Fits (recorded_numbers o)
outcome_numbers_fit (Ok r) vs g = scored_numbers_fit r _ (EL.owed (O.the_type R.the_row S.the_row) recorded_laws (Ok r) vs g).0
outcome_numbers_fit (Err n) vs g = tt

pub line_fits : (l : Line) (vs : List Val) → Is N.the_row l vs → LineFits l
line_fits l vs g =
    let f = LL.owed N.the_type N'.the_laws l vs g in
    record { seed_fits = seed_numbers_fit l.seed _ f.1.1.0; outcome_fits = outcome_numbers_fit l.outcome _ f.1.1.1.0 }
