-- Start refuses exactly where one of its conditions holds, with the first that does. Assumes nothing.
use Rattle.std.proofs.Common.{ℕ, ◌/◌, ◌%◌, ◌<◌, arith, ◌≡◌, refl, sym, ap, ◌∙◌, ◌⊎◌, inl, inr, ⊎_elim, Bool, true, false, not, ◌&&◌, ◌||◌, true≢false, List, [], ◌∷◌, ltb-true, ltb-false, eqb-true, ne_eqb, ltb, eqb, length, Float, Ok, Err}
use Rattle.std.specs.Float.Ieee.{neg, lt, le, eq}
use borrow.Author.Tests.{eqb-false}
use lib.Dec.{eqb-suc-zero}
use Rattle.common.specs.Each.{every}
use Rattle.common.specs.Checks.{Check, ◌when◌, first_refusal}
use Rattle.common.specs.declared.Refusal.{Refusal}
use Rattle.common.specs.declared.Refusal.TheVariants as refusal
use Rattle.float.specs.Float.{is_finite, within}
use Rattle.float.specs.Literals.{plus_zero, half₆₄}
use Rattle.seeds.specs.declared.CandidateSeed.{CandidateSeed}
use Rattle.seeds.specs.Rules.{in_bound, untilted_y}
use Rattle.float.proofs.Bound.{within_order}
use Rattle.seeds.specs.Layout.{all_seeds}
use Rattle.search.specs.Start.{positive, good_seed, only_zero, untilted_seed, too_many, demand_of, start_checks}
use Rattle.book.specs.Book.{Inputs, demand}
use Rattle.book.specs.Conditions.{Condition, ◌provided◌, FirstHolds, NoneHolds, Some, NotFinite, NotPositive, Beyond, BadSeed, TooMany, BoundTooLarge, ShareTooLarge, OnlyZero, TiltedY, conditions}
use Rattle.book.specs.Theorem.{options_of}

-- ---- a test decides a fact
pub record Decides (c : Bool) (C : Type 0) : Type 0 where
  pub holds : c ≡ true → C
  pub fails : c ≡ false → C → ⊥

decides_false : (b : Bool) → Decides (not b) (b ≡ false)
decides_false true = record { holds = λ e. sym e; fails = λ e h. true≢false h }
decides_false false = record { holds = λ e. refl; fails = λ e h. true≢false e }

decides_true : (b : Bool) → Decides b (b ≡ true)
decides_true b = record { holds = λ e. e; fails = λ e h. true≢false (sym h ∙ e) }

decides_or : (a b : Bool) {A B : Type 0} → Decides a A → Decides b B → Decides (a || b) (A ⊎ B)
decides_or true b p q = record { holds = λ e. inl (p.holds refl); fails = λ e. absurd (true≢false e) }
decides_or false b p q = record { holds = λ e. inr (q.holds e); fails = λ e. ⊎_elim (p.fails refl) (q.fails e) }

decides_and : (a b : Bool) {A B : Type 0} → Decides a A → Decides b B → Decides (a && b) (A × B)
decides_and true b p q = record { holds = λ e. (p.holds refl, q.holds e); fails = λ e h. q.fails e h.1 }
decides_and false b p q = record { holds = λ e. absurd (true≢false (sym e)); fails = λ e h. p.fails refl h.0 }

decides_negation : (a : Bool) {A : Type 0} → Decides a A → Decides (not a) (A → ⊥)
decides_negation true p = record { holds = λ e. absurd (true≢false (sym e)); fails = λ e h. h (p.holds refl) }
decides_negation false p = record { holds = λ e. p.fails refl; fails = λ e. absurd (true≢false e) }

-- a conjunction fails where one of its parts does
decides_not_and : (a b : Bool) {A B : Type 0} → Decides (not a) A → Decides (not b) B → Decides (not (a && b)) (A ⊎ B)
decides_not_and true b p q = record { holds = λ e. inr (q.holds e); fails = λ e. ⊎_elim (p.fails refl) (q.fails e) }
decides_not_and false b p q = record { holds = λ e. inl (p.holds refl); fails = λ e. absurd (true≢false e) }

decides_lt : (a b : ℕ) → Decides (ltb a b) (a < b)
decides_lt a b = record { holds = ltb-true a b; fails = λ e h. let k = ltb-false a b e in omega arith }

decides_not_equal : (a b : ℕ) → Decides (not (eqb a b)) (a ≡ b → ⊥)
decides_not_equal a b = go (eqb a b) refl
  where
    go : (c : Bool) → eqb a b ≡ c → Decides (not c) (a ≡ b → ⊥)
    go true e = record { holds = λ h. absurd (true≢false (sym h)); fails = λ h k. k (eqb-true a b e) }
    go false e = record { holds = λ h. eqb-false a b e; fails = λ h. absurd (true≢false h) }

decides_empty : {A : Type 0} (xs : List A) → Decides (eqb (length xs) 0) (xs ≡ [])
decides_empty [] = record { holds = λ e. refl; fails = λ e. absurd (true≢false e) }
decides_empty (x ∷ xs) = record { holds = λ e. absurd (true≢false (sym e ∙ eqb-suc-zero (length xs))); fails = λ e h. let z : ◌≡◌ {A = ℕ} 0 1 = cc in omega arith }

decides_some : {A : Type 0} (p : A → Bool) (P : A → Type 0) → ((x : A) → Decides (not (p x)) (P x)) → (xs : List A) → Decides (not (every p xs)) (Some P xs)
unfolding every
decides_some p P d [] = record { holds = λ e. absurd (true≢false (sym e)); fails = λ e h. h }
decides_some p P d (x ∷ xs) = decides_not_and (p x) (every p xs) (d x) (decides_some p P d xs)

-- ---- a list of tests decides a list of conditions
abbrev DecideAll : List Check → List Condition → Type 0
DecideAll [] [] = Unit {0}
DecideAll [] (c ∷ cs) = ⊥
DecideAll (t ∷ ts) [] = ⊥
DecideAll ((r when c) ∷ ts) ((s provided C) ∷ cs) = (r ≡ s) × Decides c C × DecideAll ts cs

pub first_refused_holds : (ts : List Check) (cs : List Condition) → DecideAll ts cs → (r : Refusal) → first_refusal ts ≡ Err r → FirstHolds cs r
first_refused_holds [] [] d r e = cc
first_refused_holds [] (c ∷ cs) d r e = absurd d
first_refused_holds (t ∷ ts) [] d r e = absurd d
first_refused_holds ((s when true) ∷ ts) ((q provided C) ∷ cs) d r e = let k : s ≡ r = cc in inl (d.1.holds refl, sym k ∙ d.0)
first_refused_holds ((s when false) ∷ ts) ((q provided C) ∷ cs) d r e = inr (d.1.fails refl, first_refused_holds ts cs d.2 r e)

pub first_holding_refused : (ts : List Check) (cs : List Condition) → DecideAll ts cs → (r : Refusal) → FirstHolds cs r → first_refusal ts ≡ Err r
first_holding_refused [] [] d r h = absurd h
first_holding_refused [] (c ∷ cs) d r h = absurd d
first_holding_refused (t ∷ ts) [] d r h = absurd d
first_holding_refused ((s when true) ∷ ts) ((q provided C) ∷ cs) d r h = ⊎_elim (λ p. ap Err (d.0 ∙ sym p.1)) (λ p. absurd (p.0 (d.1.holds refl))) h
first_holding_refused ((s when false) ∷ ts) ((q provided C) ∷ cs) d r h = ⊎_elim (λ p. absurd (d.1.fails refl p.0)) (λ p. first_holding_refused ts cs d.2 r p.1) h

pub none_refused_where_none_holds : (ts : List Check) (cs : List Condition) → DecideAll ts cs → NoneHolds cs → first_refusal ts ≡ Ok tt
none_refused_where_none_holds [] [] d h = refl
none_refused_where_none_holds [] (c ∷ cs) d h = absurd d
none_refused_where_none_holds (t ∷ ts) [] d h = absurd d
none_refused_where_none_holds ((s when true) ∷ ts) ((q provided C) ∷ cs) d h = absurd (h.0 (d.1.holds refl))
none_refused_where_none_holds ((s when false) ∷ ts) ((q provided C) ∷ cs) d h = none_refused_where_none_holds ts cs d.2 h.1

pub none_holds_where_none_refused : (ts : List Check) (cs : List Condition) → DecideAll ts cs → first_refusal ts ≡ Ok tt → NoneHolds cs
none_holds_where_none_refused [] [] d e = tt
none_holds_where_none_refused [] (c ∷ cs) d e = absurd d
none_holds_where_none_refused (t ∷ ts) [] d e = absurd d
none_holds_where_none_refused ((s when true) ∷ ts) ((q provided C) ∷ cs) d e = cc
none_holds_where_none_refused ((s when false) ∷ ts) ((q provided C) ∷ cs) d e = (d.1.fails refl, none_holds_where_none_refused ts cs d.2 e)

-- ---- Start's tests
decides_not_positive : (x : Float) → Decides (not (positive x)) (NotPositive x)
decides_not_positive x = decides_not_and (is_finite x) (lt plus_zero x) (decides_false (is_finite x)) (decides_false (lt plus_zero x))

decides_beyond : (max t : Float) → Decides (not (within max t)) (Beyond max t)
decides_beyond max t = rw (within_order max t) (decides_not_and (le (neg max) t) (le t max) (decides_false (le (neg max) t)) (decides_false (le t max)))

decides_bad_seed : (max : Float) (s : CandidateSeed) → Decides (not (good_seed max s)) (BadSeed max s)
unfolding good_seed in_bound
decides_bad_seed max s =
    let k = s.reference_k in
    let t = s.sensor in
    let focal = positive k.fx && positive k.fy in
    let x = focal && is_finite k.cx in
    let centre = x && is_finite k.cy in
    let u = centre && is_finite t.tilt_x in
    let finite = u && is_finite t.tilt_y in
    decides_not_and finite (in_bound max t)
    (decides_not_and u (is_finite t.tilt_y)
    (decides_not_and centre (is_finite t.tilt_x)
    (decides_not_and x (is_finite k.cy)
    (decides_not_and focal (is_finite k.cx) (decides_not_and (positive k.fx) (positive k.fy) (decides_not_positive k.fx) (decides_not_positive k.fy)) (decides_false (is_finite k.cx)))
    (decides_false (is_finite k.cy)))
    (decides_false (is_finite t.tilt_x)))
    (decides_false (is_finite t.tilt_y)))
    (decides_not_and (within max t.tilt_x) (within max t.tilt_y) (decides_beyond max t.tilt_x) (decides_beyond max t.tilt_y))

decides_too_many : (x y d rounds : ℕ) → Decides (too_many x y d rounds) (TooMany x y d rounds)
unfolding too_many
decides_too_many x y d rounds =
    let a = ltb 16 x || ltb 16 y in
    let b = a || ltb 256 (d / 6) in
    let c = b || ltb 16 rounds in
    decides_or c (not (eqb (d % 6) 0)) (decides_or b (ltb 16 rounds) (decides_or a (ltb 256 (d / 6)) (decides_or (ltb 16 x) (ltb 16 y) (decides_lt 16 x) (decides_lt 16 y)) (decides_lt 256 (d / 6))) (decides_lt 16 rounds)) (decides_not_equal (d % 6) 0)

decides_below_demand : (i : Inputs) (n : ℕ) → Decides (ltb n (demand_of (length i.decomposition / 6) (length i.xs) (length i.ys))) (n < demand i)
unfolding demand demand_of
decides_below_demand i n = decides_lt n (demand i)

pub decides_only_zero : (ys : List Float) → Decides (only_zero ys) (OnlyZero ys)
unfolding only_zero
decides_only_zero [] = record { holds = λ e. absurd (true≢false (sym e)); fails = λ e h. let z : ◌≡◌ {A = ℕ} 0 1 = cc in omega arith }
decides_only_zero (y ∷ []) = record { holds = λ e. (y, refl, e); fails = λ e h. let s : y ≡ h.0 = cc in absurd (true≢false (sym h.2 ∙ rw s at e)) }
decides_only_zero (y ∷ z ∷ zs) =
    let e = ne_eqb (length (y ∷ z ∷ zs)) 1 (λ q. omega arith) in
    record { holds = λ h. absurd (true≢false (sym h ∙ rw e)); fails = λ h k. let z : ◌≡◌ {A = ℕ} 0 1 = cc in omega arith }

decides_tilted_y : (s : CandidateSeed) → Decides (not (untilted_seed s)) (TiltedY s)
unfolding untilted_y
decides_tilted_y s = decides_false (eq s.sensor.tilt_y plus_zero)

decides_above_half : (max : Float) → Decides (lt half₆₄ max) (BoundTooLarge max)
decides_above_half max = decides_true (lt half₆₄ max)

decides_above_all : (share : ℕ) → Decides (ltb 100 share) (ShareTooLarge share)
decides_above_all share = decides_lt 100 share

options_decided : (i : Inputs)
    → DecideAll
    ((refusal.TiltsOffAxis when (i.one_axis && not (only_zero i.ys))) ∷ (refusal.SeedOffAxis when (i.one_axis && not (every untilted_seed (all_seeds i.decomposition)))) ∷ (refusal.ShareTooLarge when ltb 100 i.share) ∷ [])
    ((refusal.TiltsOffAxis provided ((i.one_axis ≡ true) × (OnlyZero i.ys → ⊥))) ∷ (refusal.SeedOffAxis provided ((i.one_axis ≡ true) × Some TiltedY (all_seeds i.decomposition))) ∷ (refusal.ShareTooLarge provided (ShareTooLarge i.share)) ∷ [])
options_decided i =
    let axis = decides_true i.one_axis in (
      refl,
      decides_and i.one_axis (not (only_zero i.ys)) axis (decides_negation (only_zero i.ys) (decides_only_zero i.ys)),
      (
        refl,
        decides_and i.one_axis (not (every untilted_seed (all_seeds i.decomposition))) axis (decides_some untilted_seed TiltedY decides_tilted_y (all_seeds i.decomposition)),
        (refl, decides_above_all i.share, tt),
      ),
    )

pub start_decided : (i : Inputs) (n : ℕ) → DecideAll (start_checks i.views (options_of i) i.xs i.ys i.decomposition n) (conditions i n)
start_decided i n =
    ((
      refl,
      decides_lt i.views 3,
      (
        refl,
        decides_or (eqb (length i.xs) 0) (eqb (length i.ys) 0) (decides_empty i.xs) (decides_empty i.ys),
        (
          refl,
          decides_not_positive i.max,
          (
            refl,
            decides_and (ltb 0 i.rounds) (not (positive i.step)) (decides_lt 0 i.rounds) (decides_not_positive i.step),
            (
              refl,
              decides_too_many (length i.xs) (length i.ys) (length i.decomposition) i.rounds,
              (
                refl,
                decides_some (good_seed i.max) (BadSeed i.max) (decides_bad_seed i.max) (all_seeds i.decomposition),
                (
                  refl,
                  decides_not_and (every is_finite i.xs) (every is_finite i.ys) (decides_some is_finite NotFinite (λ x. decides_false (is_finite x)) i.xs) (decides_some is_finite NotFinite (λ x. decides_false (is_finite x)) i.ys),
                  (refl, decides_below_demand i n, (refl, decides_above_half i.max, options_decided i)),
                ),
              ),
            ),
          ),
        ),
      ),
    ))
