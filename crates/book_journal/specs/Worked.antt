-- A run of two candidates and its journal, worked out: what replay and resume say of the journal whole, damaged and
-- cut. `proofs/Worked.antt` proves it by computing. Definitions only.
use Rattle.std.specs.Prelude.{ℕ, ◌≡◌, false, List, [], ◌∷◌, ◌++◌, take, replicate, Float, Ok, Err}
use Rattle.std.specs.Float.{binary64}
use Rattle.std.specs.Float.Ieee.{of_bits, neg}
use Rattle.camera.specs.declared.intrinsics.FxFyCxCy.{FxFyCxCy}
use Rattle.seeds.specs.declared.CandidateSeed.{CandidateSeed}
use Rattle.seeds.specs.Layout.{six}
use Rattle.common.specs.declared.Refusal.TheVariants.{ListTooShort, NothingScored, NotALine, NotTheRun}
use Rattle.score.specs.declared.outcome.SkipReason.TheVariants.{HostFailed, NoNumber}
use Rattle.journal.specs.declared.Line.{Line}
use Rattle.journal.specs.Line.{journal_bytes}
use Rattle.replay.specs.declared.Standing.TheVariants.{Winner, Unfinished}
use Rattle.replay.specs.declared.ReplayRefusal.TheVariants.{Refused, At}
use Rattle.replay.specs.declared.WalkEnd.TheVariants as walk_end
use Rattle.replay.specs.declared.EndedBy.TheVariants as by
use Rattle.replay.specs.declared.KeptLines.{KeptLines}
use Rattle.book.specs.Book.{Inputs}
use Rattle.book_journal.specs.Replay.{walked, replay_of}
use Rattle.book_journal.specs.Resume.{kept_lines_of}

abbrev bits : ℕ → Float
bits n = of_bits binary64 n

abbrev f0 : Float
f0 = bits 0

abbrev f1 : Float
f1 = bits 0x3ff0_0000_0000_0000

-- 0.25 and 0.5
abbrev quarter : Float
quarter = bits 0x3fd0_0000_0000_0000

abbrev half : Float
half = bits 0x3fe0_0000_0000_0000

abbrev camera : FxFyCxCy
camera = record { fx = f1; fy = f1; cx = f0; cy = f0 }

abbrev seed_of : Float → CandidateSeed
seed_of x = record { reference_k = camera; sensor = record { tilt_x = x; tilt_y = f0 } }

-- two typed tilts about x, 0 and 0.25, and one about y, 0
abbrev inputs_with : ℕ → Inputs
inputs_with rounds = record { views = 3; rounds = rounds; step = quarter; max = half; one_axis = false; share = 0; xs = f0 ∷ quarter ∷ []; ys = f0 ∷ []; decomposition = []; base = camera; center = record { x = f0; y = f0 } }

abbrev given : Inputs
given = inputs_with 0

abbrev buffer : List Float
buffer = replicate 54 f1

-- the first candidate was skipped for reason 1; the second has the mean 1, and so the score 1.015625
abbrev first : Line
first = record { number = 0; round = 0; seed = seed_of f0; outcome = Err HostFailed }

abbrev score : Float
score = bits 0x3ff0_4000_0000_0000

abbrev second_with : ℕ → ℕ → CandidateSeed → Float → Float → Line
second_with n r s mean value = record { number = n; round = r; seed = s; outcome = Ok (record { score = value; mean = mean; k = camera; p1 = f0; p2 = f0 }) }

abbrev second : Line
second = second_with 1 0 (seed_of quarter) f1 score

-- the seed of the second line with another camera
abbrev other_seed : CandidateSeed
other_seed = record { reference_k = record { fx = f1; fy = f1; cx = f0; cy = f1 }; sensor = record { tilt_x = quarter; tilt_y = f0 } }

-- the score that a mean of −1 gives, −0.984375
abbrev below : Float
below = bits 0xbfef_8000_0000_0000

abbrev whole : List ℕ
whole = journal_bytes (first ∷ second ∷ [])

pub record Replays : Type 0 where
  -- the winner; Unfinished with the next seed; 11 where nothing is scored
  pub its_winner : (replay_of given buffer whole).reply ≡ Ok (Winner 1 score)
  pub unfinished_run : (replay_of given buffer (journal_bytes (first ∷ []))).reply ≡ Ok (Unfinished (seed_of quarter))
  pub none_scored : (replay_of given buffer (journal_bytes (first ∷ record { number = 1; round = 0; seed = seed_of quarter; outcome = Err NoNumber } ∷ []))).reply ≡ Err (Refused NothingScored)
  -- 30 on the second line: another number, another round, another camera in the seed, another score, a mean below 0
  pub other_number : (replay_of given buffer (journal_bytes (first ∷ second_with 2 0 (seed_of quarter) f1 score ∷ []))).reply ≡ Err (At NotTheRun 2)
  pub other_round : (replay_of given buffer (journal_bytes (first ∷ second_with 1 1 (seed_of quarter) f1 score ∷ []))).reply ≡ Err (At NotTheRun 2)
  pub other_camera : (replay_of given buffer (journal_bytes (first ∷ second_with 1 0 other_seed f1 score ∷ []))).reply ≡ Err (At NotTheRun 2)
  pub other_score : (replay_of given buffer (journal_bytes (first ∷ second_with 1 0 (seed_of quarter) f1 f1 ∷ []))).reply ≡ Err (At NotTheRun 2)
  pub mean_below : (replay_of given buffer (journal_bytes (first ∷ second_with 1 0 (seed_of quarter) (bits 0xbff0_0000_0000_0000) below ∷ []))).reply ≡ Err (At NotTheRun 2)
  -- behind the end: a line is 30, other bytes are 29
  pub line_behind : (replay_of given buffer (journal_bytes (first ∷ second ∷ second ∷ []))).reply ≡ Err (At NotTheRun 3)
  pub bytes_behind : (replay_of given buffer (whole ++ 120 ∷ 10 ∷ [])).reply ≡ Err (At NotALine 3)
  -- with a round to follow: the first seed of the list around the winner comes next, and its first two seeds stand in
  -- front of the lent list
  pub next_seed : (replay_of (inputs_with 1) buffer whole).reply ≡ Ok (Unfinished (record { reference_k = camera; sensor = record { tilt_x = f0; tilt_y = neg quarter } }))
  pub next_list_lem : take 12 (replay_of (inputs_with 1) buffer whole).list ≡ f1 ∷ f1 ∷ f0 ∷ f0 ∷ f0 ∷ neg quarter ∷ f1 ∷ f1 ∷ f0 ∷ f0 ∷ f0 ∷ f0 ∷ []
  -- after a 30 on the first line round 0's list stands in the lent list, and behind it what stood there before
  pub first_list_lem : take 14 (replay_of given buffer (journal_bytes (second ∷ []))).list ≡ six (seed_of f0) ++ six (seed_of quarter) ++ (f1 ∷ f1 ∷ [])
  -- Start's own refusal comes first, and leaves the lent list
  pub too_short : replay_of given [] (120 ∷ []) ≡ record { reply = Err (Refused ListTooShort); list = [] }

-- what Resume reports on these bytes
abbrev kept_lines_in : List ℕ → KeptLines
kept_lines_in bs = kept_lines_of bs (walked given buffer bs)

pub record KeepsLines : Type 0 where
  -- the journal whole, and cut behind its first line, which has 124 bytes
  pub all_kept : kept_lines_in whole ≡ record { lines = 2; kept = 368; dropped = 0; ended_by = by.WalkEnded walk_end.AllTaken }
  pub after_newline : kept_lines_in (take 124 whole) ≡ record { lines = 1; kept = 124; dropped = 0; ended_by = by.WalkEnded walk_end.AllTaken }
  -- without its last byte, and without its last two
  pub cut_line : kept_lines_in (take 367 whole) ≡ record { lines = 1; kept = 124; dropped = 243; ended_by = by.MissingNewline }
  pub cut_line_again : kept_lines_in (take 366 whole) ≡ record { lines = 1; kept = 124; dropped = 242; ended_by = by.MissingNewline }
  -- behind the end a part of a line, and a line; and, in place of the journal, bytes that don't begin with a line
  pub part_behind : kept_lines_in (whole ++ 48 ∷ []) ≡ record { lines = 2; kept = 368; dropped = 1; ended_by = by.MissingNewline }
  pub line_behind : kept_lines_in (journal_bytes (first ∷ second ∷ first ∷ [])) ≡ record { lines = 2; kept = 368; dropped = 124; ended_by = by.WalkEnded walk_end.NotTheRun }
  pub bytes_behind : kept_lines_in (120 ∷ 10 ∷ 48 ∷ 44 ∷ 48 ∷ []) ≡ record { lines = 0; kept = 0; dropped = 5; ended_by = by.WalkEnded walk_end.NotALine }

pub record WorkedRight : Type 0 where
  pub replays : Replays
  pub keeps_lines : KeepsLines
