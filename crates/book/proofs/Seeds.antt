-- What holds of each seed of a round: of round 0's, and of those in the list around a candidate. Assumes nothing.
use Rattle.std.proofs.Common.{ℕ, ◌≤◌, ◌<◌, arith, ◌≡◌, true, List, ◌∷◌, length}
use Rattle.std.specs.Float.Ieee.{of_bits, eq}
use Rattle.common.specs.All.{all_right, all_map}
use Rattle.common.specs.Each.{All}
use Rattle.float.specs.Literals.{plus_zero}
use Rattle.camera.specs.declared.sensor.ScheimpflugParams.{ScheimpflugParams}
use Rattle.seeds.specs.declared.CandidateSeed.{CandidateSeed}
use Rattle.seeds.specs.Rules.{in_bound, untilted_y, offsets, y_offsets}
use Rattle.seeds.specs.AnyOffsets.{most_seeds}
use Rattle.seeds.specs.Theorem.{AtOffsets}
use Rattle.seeds.proofs.AnyOffsets.{most_seeds_le_nine, list_over_run_offsets, later_list_le_most_seeds, untilted_around}
use Rattle.score.specs.declared.best.Candidate.{Candidate}
use Rattle.score.specs.Best.{chosen, best_of}
use Rattle.score.proofs.Order.{chosen_is_best}
use Rattle.book.specs.Book.{Inputs, step_of, list_around}

-- the tilts are within the bound; in a one-axis run the tilt about y is a zero, and +0 in later rounds
pub record Seeded (i : Inputs) (r : ℕ) (s : CandidateSeed) : Type 0 where
  pub within : in_bound i.max s.sensor ≡ true
  pub untilted : i.one_axis ≡ true → untilted_y s.sensor ≡ true
  pub later : i.one_axis ≡ true → 0 < r → s.sensor.tilt_y ≡ plus_zero

plus_zero_untilted : (t : ScheimpflugParams) → t.tilt_y ≡ plus_zero → untilted_y t ≡ true
unfolding untilted_y eq of_bits
plus_zero_untilted t e = rw e

-- ---- the best of some candidates is one of them
pub best_has_property_of_all : (P : Candidate → Type 0) (ws : List Candidate) (w : Candidate) → All P ws → best_of ws ≡ chosen w → P w
best_has_property_of_all P ws w h e = let l = chosen_is_best ws w e in (all_right P l.before (w ∷ l.behind) (rw l.split at h)).0

-- ---- the list around a candidate
module _ (i : Inputs) (r : ℕ) (w : Candidate) where
  pub list_around_seeded : (i.one_axis ≡ true → untilted_y w.sensor ≡ true) → All (Seeded i r) (list_around i r w)
  unfolding list_around
  list_around_seeded h =
      let s = step_of r i.step in
      all_map (AtOffsets (offsets s) (y_offsets i.one_axis s) w.sensor w.camera.k i.max) (Seeded i r)
      (λ t a.
      let zero : i.one_axis ≡ true → t.sensor.tilt_y ≡ plus_zero = λ e. untilted_around (offsets s) s w.sensor w.camera.k i.max t (h e) (rw e at a) in
      record { within = a.is_in_bound; untilted = λ e. plus_zero_untilted t.sensor (zero e); later = λ e p. zero e })
      (list_around i r w) (list_over_run_offsets i.one_axis s w.sensor w.camera.k i.max).made

  pub list_around_few : length (list_around i r w) ≤ most_seeds i.one_axis
  unfolding list_around
  list_around_few = later_list_le_most_seeds i.one_axis (step_of r i.step) w.sensor w.camera.k i.max

  pub list_around_le_nine : length (list_around i r w) ≤ 9
  list_around_le_nine = let h = list_around_few in let n = most_seeds_le_nine i.one_axis in omega arith
