-- The conditions on which Start refuses, in their order, as plain facts of the inputs (docs/SPECIFICATION.md, 6.2).
-- Definitions only.
use Rattle.std.specs.Prelude.{ℕ, ◌/◌, ◌%◌, ◌<◌, ◌≡◌, ◌⊎◌, true, false, List, [], ◌∷◌, length, Float}
use Rattle.std.specs.Float.Ieee.{neg, lt, le, eq}
use Rattle.common.specs.declared.Refusal.{Refusal}
use Rattle.common.specs.declared.Refusal.TheVariants as refusal
use Rattle.float.specs.Float.{is_finite}
use Rattle.float.specs.Literals.{plus_zero, half₆₄}
use Rattle.seeds.specs.declared.CandidateSeed.{CandidateSeed}
use Rattle.seeds.specs.Layout.{all_seeds}
use Rattle.book.specs.Book.{Inputs, demand}

-- a refusal, and where it holds
pub data Condition : Type 1 where
  ◌provided◌ : Refusal → Type 0 → Condition

infix 5 ◌provided◌
-- r is the refusal of the first condition that holds; no condition holds
abbrev pub FirstHolds : List Condition → Refusal → Type 0
FirstHolds [] r = ⊥
FirstHolds ((s provided C) ∷ cs) r = (C × (r ≡ s)) ⊎ ((C → ⊥) × FirstHolds cs r)

abbrev pub NoneHolds : List Condition → Type 0
NoneHolds [] = Unit {0}
NoneHolds ((s provided C) ∷ cs) = (C → ⊥) × NoneHolds cs

-- ---- the facts that the conditions are made of
abbrev pub Some : {A : Type 0} → (A → Type 0) → List A → Type 0
Some P [] = ⊥
Some P (x ∷ xs) = P x ⊎ Some P xs

abbrev pub NotFinite : Float → Type 0
NotFinite x = is_finite x ≡ false

abbrev pub NotAboveZero : Float → Type 0
NotAboveZero x = lt plus_zero x ≡ false

-- below −max, above max, or NaN
abbrev pub Beyond : Float → Float → Type 0
Beyond max t = (le (neg max) t ≡ false) ⊎ (le t max ≡ false)

abbrev pub NotPositive : Float → Type 0
NotPositive x = NotFinite x ⊎ NotAboveZero x

-- a non-finite number, a focal length not above 0, or a tilt beyond the bound
abbrev pub BadSeed : Float → CandidateSeed → Type 0
BadSeed max s =
    let k = s.reference_k in
    let t = s.sensor in
    (((((NotPositive k.fx ⊎ NotPositive k.fy) ⊎ NotFinite k.cx) ⊎ NotFinite k.cy) ⊎ NotFinite t.tilt_x) ⊎ NotFinite t.tilt_y)
    ⊎ (Beyond max t.tilt_x ⊎ Beyond max t.tilt_y)

-- more typed tilts, decomposition seeds or rounds than a run can have, or a decomposition that isn't in sixes
abbrev pub TooMany : ℕ → ℕ → ℕ → ℕ → Type 0
TooMany x y decomposition rounds = ((((16 < x) ⊎ (16 < y)) ⊎ (256 < decomposition / 6)) ⊎ (16 < rounds)) ⊎ (decomposition % 6 ≡ 0 → ⊥)

-- a bound above 0.5; a share above 100 per cent
abbrev pub BoundTooLarge : Float → Type 0
BoundTooLarge max = lt half₆₄ max ≡ true

abbrev pub ShareTooLarge : ℕ → Type 0
ShareTooLarge share = 100 < share

-- a single value that is a zero of either sign; a seed whose tilt about y is no zero
abbrev pub OnlyZero : List Float → Type 0
OnlyZero ys = (y : Float) × (ys ≡ y ∷ []) × (eq y plus_zero ≡ true)

abbrev pub TiltedY : CandidateSeed → Type 0
TiltedY s = eq s.sensor.tilt_y plus_zero ≡ false

-- ---- the conditions where n numbers are lent: 1 to 8, a bound above 0.5 (27), a one-axis run whose typed y tilts (31)
-- or decomposition (32) have another tilt about y than 0, and a share above 100 per cent (33)
abbrev pub conditions : Inputs → ℕ → List Condition
conditions i n =
    (refusal.TooFewViews provided (i.views < 3))
    ∷ (refusal.NoTilts provided ((i.xs ≡ []) ⊎ (i.ys ≡ [])))
    ∷ (refusal.BadBound provided (NotPositive i.max))
    ∷ (refusal.BadStep provided ((0 < i.rounds) × NotPositive i.step))
    ∷ (refusal.TooMany provided (TooMany (length i.xs) (length i.ys) (length i.decomposition) i.rounds))
    ∷ (refusal.BadSeed provided (Some (BadSeed i.max) (all_seeds i.decomposition)))
    ∷ (refusal.TiltNotFinite provided (Some NotFinite i.xs ⊎ Some NotFinite i.ys))
    ∷ (refusal.ListTooShort provided (n < demand i))
    ∷ (refusal.TiltTooLarge provided (BoundTooLarge i.max))
    ∷ (refusal.TiltsOffAxis provided ((i.one_axis ≡ true) × (OnlyZero i.ys → ⊥)))
    ∷ (refusal.SeedOffAxis provided ((i.one_axis ≡ true) × Some TiltedY (all_seeds i.decomposition)))
    ∷ (refusal.ShareTooLarge provided (ShareTooLarge i.share))
    ∷ []
