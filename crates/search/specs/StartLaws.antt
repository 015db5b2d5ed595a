-- What Start can rely on where none of its refusals holds: sizes within their limits, good seeds, a list that is long enough, a bound of at most 0.5, and in a one-axis
-- run no tilt about y, a share of at most 100. Assumes nothing.
use Rattle.std.specs.Prelude.{ℕ, ◌+◌, ◌*◌, ◌/◌, ◌≤◌, ◌≡◌, refl, Bool, true, false, not, ◌&&◌, ◌||◌, cond, List, [], ◌∷◌, ◌++◌, ltb, eqb, length, Float, Result, Ok, Err, ⊤}
use Rattle.std.proofs.Common.{sym, ap, ◌∙◌, le_refl, le_of_lt, ltb-true, ltb-false}
use Rattle.std.proofs.lemmas.Bool.{not-false}
use Rattle.std.specs.Float.Ieee.{lt}
use Rattle.common.specs.Each.{every}
use Rattle.common.specs.Tests.{both_false}
use Rattle.common.specs.declared.Refusal.{Refusal}
use Rattle.common.specs.declared.Refusal.TheVariants.{TooFewViews, NoTilts, BadBound, BadStep, TooMany, BadSeed, TiltNotFinite, ListTooShort, TiltTooLarge, TiltsOffAxis, SeedOffAxis, ShareTooLarge}
use Rattle.common.specs.Checks.{Check, ◌when◌, first_refusal}
use Rattle.common.specs.ChecksLaws.{refuses_none}
use Rattle.float.specs.Float.{is_finite}
use Rattle.float.specs.Literals.{half₆₄}
use Rattle.camera.specs.declared.math.Pt2.{Pt2}
use Rattle.camera.specs.declared.intrinsics.FxFyCxCy.{FxFyCxCy}
use Rattle.seeds.specs.Layout.{all_seeds, written}
use Rattle.search.specs.Start.{positive, good_seed, only_zero, untilted_seed, too_many, demand_of, start_demand, options_checks, lists_checks, start_refusal, start_seeds, opening, start_reply, start_list}
use Rattle.search.specs.declared.run.Options.{Options}

pub record Sizes (x y d rounds : ℕ) : Type 0 where
  pub x_max : x ≤ 16
  pub y_max : y ≤ 16
  pub decomposition_max : d / 6 ≤ 256
  pub rounds_max : rounds ≤ 16

pub sizes_if_not_too_many : (x y d rounds : ℕ) → too_many x y d rounds ≡ false → Sizes x y d rounds
unfolding too_many
sizes_if_not_too_many x y d rounds h =
    let a = ltb 16 x || ltb 16 y in
    let b = a || ltb 256 (d / 6) in
    let h1 = both_false (b || ltb 16 rounds) _ h in
    let h2 = both_false b (ltb 16 rounds) h1.0 in
    let h3 = both_false a (ltb 256 (d / 6)) h2.0 in
    let h4 = both_false (ltb 16 x) (ltb 16 y) h3.0 in
    record {
      x_max = ltb-false 16 x h4.0;
      y_max = ltb-false 16 y h4.1;
      decomposition_max = ltb-false 256 (d / 6) h3.1;
      rounds_max = ltb-false 16 rounds h2.1;
    }

pub demand_covers_round_0 : (d x y : ℕ) → 6 * (d + x * y) ≤ demand_of d x y
unfolding demand_of
demand_covers_round_0 d x y = go (6 * (d + x * y)) (ltb (6 * (d + x * y)) 54) refl
  where
    go : (n : ℕ) (b : Bool) → ltb n 54 ≡ b → n ≤ cond b 54 n
    go n true h = le_of_lt (ltb-true n 54 h)
    go n false h = le_refl n

-- the first five refusals, and then the rest
first_five : (a b c d e : Bool) (p q r s t : Refusal) (rest : Result ⊤ Refusal)
    → ◌≡◌ {A = Result ⊤ Refusal} (cond a (Err p) (cond b (Err q) (cond c (Err r) (cond d (Err s) (cond e (Err t) rest)))))
    (elim (first_refusal ((p when a) ∷ (q when b) ∷ (r when c) ∷ (s when d) ∷ (t when e) ∷ [])) [ Ok _ ↦ rest | Err refusal ↦ Err refusal ])
first_five true b c d e p q r s t rest = refl
first_five false true c d e p q r s t rest = refl
first_five false false true d e p q r s t rest = refl
first_five false false false true e p q r s t rest = refl
first_five false false false false true p q r s t rest = refl
first_five false false false false false p q r s t rest = refl

-- ---- checks in front of others: their refusal where they refuse, else the others'
refused_by_first_checks : (cs ds : List Check) (e : Refusal) → first_refusal cs ≡ Err e → first_refusal (cs ++ ds) ≡ Err e
refused_by_first_checks [] ds e h = cc
refused_by_first_checks ((r when true) ∷ cs) ds e h = h
refused_by_first_checks ((r when false) ∷ cs) ds e h = refused_by_first_checks cs ds e h

refused_by_rest_if_first_pass : (cs ds : List Check) → first_refusal cs ≡ Ok tt → first_refusal (cs ++ ds) ≡ first_refusal ds
refused_by_rest_if_first_pass [] ds h = refl
refused_by_rest_if_first_pass ((r when true) ∷ cs) ds h = cc
refused_by_rest_if_first_pass ((r when false) ∷ cs) ds h = refused_by_rest_if_first_pass cs ds h

first_checks_pass_if_all_do : (cs ds : List Check) → first_refusal (cs ++ ds) ≡ Ok tt → first_refusal cs ≡ Ok tt
first_checks_pass_if_all_do [] ds h = refl
first_checks_pass_if_all_do ((r when true) ∷ cs) ds h = cc
first_checks_pass_if_all_do ((r when false) ∷ cs) ds h = first_checks_pass_if_all_do cs ds h

module _ (views : ℕ) (options : Options) (xs ys decomposition : List Float) (n : ℕ) where
  -- the refusals of the options, and the others
  abbrev pub options_refusal : Result ⊤ Refusal
  options_refusal = first_refusal (options_checks views options (length xs) (length ys) (length decomposition))

  abbrev pub lists_refusal : Result ⊤ Refusal
  lists_refusal = first_refusal (lists_checks views options xs ys decomposition n)

  first : start_refusal views options xs ys decomposition n ≡ elim options_refusal [ Ok _ ↦ lists_refusal | Err refusal ↦ Err refusal ]
  first =
      first_five (ltb views 3) (eqb (length xs) 0 || eqb (length ys) 0) (not (positive options.max_abs_tilt)) (ltb 0 options.refine_rounds && not (positive options.refine_step)) (too_many (length xs) (length ys) (length decomposition) options.refine_rounds) TooFewViews NoTilts BadBound BadStep TooMany lists_refusal

  pub options_refused : (e : Refusal) → options_refusal ≡ Err e → start_refusal views options xs ys decomposition n ≡ Err e
  options_refused e h = refused_by_first_checks (options_checks views options (length xs) (length ys) (length decomposition)) (lists_checks views options xs ys decomposition n) e h

  pub options_passed : options_refusal ≡ Ok tt → start_refusal views options xs ys decomposition n ≡ lists_refusal
  options_passed h = refused_by_rest_if_first_pass (options_checks views options (length xs) (length ys) (length decomposition)) (lists_checks views options xs ys decomposition n) h

  pub sizes_if_options_pass : options_refusal ≡ Ok tt → Sizes (length xs) (length ys) (length decomposition) options.refine_rounds
  sizes_if_options_pass h =
      let h1 = (refuses_none (ltb views 3) TooFewViews _ h).1 in
      let h2 = (refuses_none (eqb (length xs) 0 || eqb (length ys) 0) NoTilts _ h1).1 in
      let h3 = (refuses_none (not (positive options.max_abs_tilt)) BadBound _ h2).1 in
      let h4 = (refuses_none (ltb 0 options.refine_rounds && not (positive options.refine_step)) BadStep _ h3).1 in
      sizes_if_not_too_many _ _ _ _ (refuses_none (too_many (length xs) (length ys) (length decomposition) options.refine_rounds) TooMany _ h4).0

holds_where_set : (a b : Bool) → (a && not b) ≡ false → a ≡ true → b ≡ true
holds_where_set a b h e = not-false b (rw e at h)

pub record StartPassed (views : ℕ) (options : Options) (xs ys decomposition : List Float) (n : ℕ) : Type 0 where
  pub sizes : Sizes (length xs) (length ys) (length decomposition) options.refine_rounds
  pub good_seeds : every (good_seed options.max_abs_tilt) (all_seeds decomposition) ≡ true
  pub demand_fits : start_demand views options xs ys decomposition ≤ n
  pub bound_small : lt half₆₄ options.max_abs_tilt ≡ false
  pub one_y : options.one_axis ≡ true → only_zero ys ≡ true
  pub untilted_seeds : options.one_axis ≡ true → every untilted_seed (all_seeds decomposition) ≡ true
  pub share_most : options.min_counted ≤ 100

pub start_passed : (views : ℕ) (options : Options) (xs ys decomposition : List Float) (n : ℕ)
    → start_refusal views options xs ys decomposition n ≡ Ok tt → StartPassed views options xs ys decomposition n
start_passed views options xs ys decomposition n h =
    let first = first_checks_pass_if_all_do (options_checks views options (length xs) (length ys) (length decomposition)) (lists_checks views options xs ys decomposition n) h in
    let h6 = refuses_none (not (every (good_seed options.max_abs_tilt) (all_seeds decomposition))) BadSeed _ (sym (options_passed views options xs ys decomposition n first) ∙ h) in
    let h7 = (refuses_none (not (every is_finite xs && every is_finite ys)) TiltNotFinite _ h6.1).1 in
    let h8 = refuses_none (ltb n (start_demand views options xs ys decomposition)) ListTooShort _ h7 in
    let h9 = refuses_none (lt half₆₄ options.max_abs_tilt) TiltTooLarge _ h8.1 in
    let h10 = refuses_none (options.one_axis && not (only_zero ys)) TiltsOffAxis _ h9.1 in
    let h11 = refuses_none (options.one_axis && not (every untilted_seed (all_seeds decomposition))) SeedOffAxis _ h10.1 in
    let h12 = (refuses_none (ltb 100 options.min_counted) ShareTooLarge _ h11.1).0 in
    record {
      sizes = sizes_if_options_pass views options xs ys decomposition n first;
      good_seeds = not-false _ h6.0;
      demand_fits = ltb-false n _ h8.0;
      bound_small = h9.0;
      one_y = holds_where_set options.one_axis (only_zero ys) h10.0;
      untilted_seeds = holds_where_set options.one_axis (every untilted_seed (all_seeds decomposition)) h11.0;
      share_most = ltb-false 100 _ h12;
    }

-- ---- what Start gives where one of its refusals holds, and where none does
module _ (views : ℕ) (options : Options) (xs ys decomposition : List Float) (base : FxFyCxCy) (center : Pt2) (l : List Float) where
  pub start_refused : (e : Refusal) → start_refusal views options xs ys decomposition (length l) ≡ Err e
      → (start_reply views options xs ys decomposition base center l ≡ Err e) × (start_list views options xs ys decomposition base center l ≡ l)
  unfolding start_reply start_list
  start_refused e h = (
    ap (λ (r : Result ⊤ Refusal). elim r [ Ok _ ↦ Ok (opening views options xs ys decomposition base center (length (start_seeds views options xs ys decomposition base center))) | Err why ↦ Err why ]) h,
    ap (λ (r : Result ⊤ Refusal). elim r [ Ok _ ↦ written (start_seeds views options xs ys decomposition base center) l | Err why ↦ l ]) h,
  )

  pub start_accepted : start_refusal views options xs ys decomposition (length l) ≡ Ok tt
      → (start_reply views options xs ys decomposition base center l ≡ Ok (opening views options xs ys decomposition base center (length (start_seeds views options xs ys decomposition base center))))
      × (start_list views options xs ys decomposition base center l ≡ written (start_seeds views options xs ys decomposition base center) l)
  unfolding start_reply start_list
  start_accepted h = (
    ap (λ (r : Result ⊤ Refusal). elim r [ Ok _ ↦ Ok (opening views options xs ys decomposition base center (length (start_seeds views options xs ys decomposition base center))) | Err why ↦ Err why ]) h,
    ap (λ (r : Result ⊤ Refusal). elim r [ Ok _ ↦ written (start_seeds views options xs ys decomposition base center) l | Err why ↦ l ]) h,
  )
