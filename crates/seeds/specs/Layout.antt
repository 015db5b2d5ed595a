-- How records of floats lie in a list of numbers, one after the other from the front: a seed's six numbers, a pair of tilts' two. Definitions only.
use Rattle.std.specs.Prelude.{ℕ, zero, suc, ◌+◌, ◌*◌, ◌/◌, ◌≡◌, List, [], ◌∷◌, ◌++◌, length, get_or, drop, Float}
use Rattle.std.specs.Float.{nan}
use Rattle.camera.specs.declared.sensor.ScheimpflugParams.{ScheimpflugParams}
use Rattle.seeds.specs.declared.CandidateSeed.{CandidateSeed}

module _ {A : Type 0} where
  -- the records' numbers, in order
  unfoldable pub laid : (A → List Float) → List A → List Float
  laid numbers [] = []
  laid numbers (x ∷ xs) = numbers x ++ laid numbers xs

  -- the first n records of a list, w numbers each
  unfoldable pub read_from : (List Float → A) → ℕ → ℕ → List Float → List A
  read_from first w zero l = []
  read_from first w (suc n) l = first l ∷ read_from first w n (drop w l)

  -- the list l with records written to its front, its tail unchanged
  abbrev pub written_by : (A → List Float) → ℕ → List A → List Float → List Float
  written_by numbers w xs l = laid numbers xs ++ drop (w * length xs) l

  -- what a list operation leaves of a lent list, l before and m after, and how many records it says there are
  pub record Leaves (numbers : A → List Float) (w : ℕ) (xs : List A) (l m : List Float) (count : ℕ) : Type 0 where
    pub count_is : count ≡ length xs
    pub list_is : m ≡ written_by numbers w xs l

-- ---- a seed: fx, fy, cx, cy, tilt_x, tilt_y
abbrev pub six : CandidateSeed → List Float
six s = s.reference_k.fx ∷ s.reference_k.fy ∷ s.reference_k.cx ∷ s.reference_k.cy ∷ s.sensor.tilt_x ∷ s.sensor.tilt_y ∷ []

abbrev pub flat : List CandidateSeed → List Float
flat ss = laid six ss

-- the seed in place i
abbrev pub seed_at : List Float → ℕ → CandidateSeed
seed_at l i = record {
  reference_k = record { fx = get_or l (6 * i) nan; fy = get_or l (6 * i + 1) nan; cx = get_or l (6 * i + 2) nan; cy = get_or l (6 * i + 3) nan };
  sensor = record { tilt_x = get_or l (6 * i + 4) nan; tilt_y = get_or l (6 * i + 5) nan };
}

-- the first n seeds, and all of a list in sixes
abbrev pub seeds_of : ℕ → List Float → List CandidateSeed
seeds_of n l = read_from (λ m. seed_at m 0) 6 n l

abbrev pub all_seeds : List Float → List CandidateSeed
all_seeds l = seeds_of (length l / 6) l

-- the list l with the seeds ss written to its front, its tail unchanged
abbrev pub written : List CandidateSeed → List Float → List Float
written ss l = written_by six 6 ss l

-- ---- a pair of tilts, likewise
abbrev pub two : ScheimpflugParams → List Float
two t = t.tilt_x ∷ t.tilt_y ∷ []

abbrev pub tilts_at : List Float → ℕ → ScheimpflugParams
tilts_at l i = record { tilt_x = get_or l (2 * i) nan; tilt_y = get_or l (2 * i + 1) nan }

abbrev pub tilts_of : ℕ → List Float → List ScheimpflugParams
tilts_of n l = read_from (λ m. tilts_at m 0) 2 n l
