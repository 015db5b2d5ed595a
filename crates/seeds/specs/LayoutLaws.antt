-- Laws of records that lie in a list of numbers: what is written is read back, and what more is written to the same list. Assumes nothing.
use Rattle.std.specs.Prelude.{◌≡◌, get_or, take, Float}
use Rattle.std.proofs.Math.Path.{refl, sym, ap}
use Rattle.std.proofs.Common.{◌∙◌, mul-le-mul_left, mul-zero, take-append-drop, drop-cons, drop-drop, take-add, take-suc}
use mathlib.Core.List.{List, [], ◌∷◌, ◌++◌, append_assoc, append-nil}
use Prim.Native.Nat.{ℕ, zero, suc, ◌+◌, ◌*◌, ◌-◌, ◌≤◌, ◌<◌}
use Rattle.std.proofs.Math.Nat.{mul-suc}
use native.Mathlib.Omega.{arith}
use Rattle.std.proofs.Math.ListN.{length, drop, length-append, length-drop}
use Rattle.std.proofs.Math.Seq.{drop_at, sets-eq}
use Rattle.std.proofs.lemmas.List.Edits.{sets}
use Rattle.seeds.specs.declared.CandidateSeed.{CandidateSeed}
use Rattle.seeds.specs.Layout.{laid, read_from, written_by, six, flat, seed_at, two, tilts_at}

-- a way to lay records out, w numbers each, and to read the first one back
pub record Layout {A : Type 0} (numbers : A → List Float) (first : List Float → A) (w : ℕ) : Type 0 where
  pub wide : (a : A) → length (numbers a) ≡ w
  pub own : (a : A) (l : List Float) → first (numbers a ++ l) ≡ a
  pub back : (l : List Float) → w ≤ length l → numbers (first l) ≡ take w l

-- ---- the first n records of a list
module _ {A : Type 0} (first : List Float → A) (w : ℕ) where
  pub read_length : (n : ℕ) (l : List Float) → length (read_from first w n l) ≡ n
  unfolding read_from
  read_length zero l = refl
  read_length (suc n) l = ap suc (read_length n (drop w l))

  read_at : (n i : ℕ) (l : List Float) (d : A) → i < n → get_or (read_from first w n l) i d ≡ first (drop (w * i) l)
  unfolding read_from
  read_at zero i l d h = absurd (omega arith)
  read_at (suc n) zero l d h = rw (mul-zero w)
  read_at (suc n) (suc i) l d h =
      let e : w + w * i ≡ w * suc i = omega (arith, mul-suc w i) in
      read_at n i (drop w l) d (omega arith) ∙ ap first (drop-drop (w * i) w l ∙ ap (λ (k : ℕ). drop k l) e)

  module _ (n i : ℕ) (l : List Float) (h : i < n) where
    place_lt_read_length : i < length (read_from first w n l)
    place_lt_read_length = rw read_length h

    pub read_drop : drop i (read_from first w n l) ≡ first (drop (w * i) l) ∷ drop (suc i) (read_from first w n l)
    read_drop = drop-cons (read_from first w n l) i (first (drop (w * i) l)) place_lt_read_length ∙ rw (read_at n i l (first (drop (w * i) l)) h)

    pub read_take : take (suc i) (read_from first w n l) ≡ take i (read_from first w n l) ++ (first (drop (w * i) l) ∷ [])
    read_take = take-suc (read_from first w n l) i (first (drop (w * i) l)) place_lt_read_length ∙ rw (read_at n i l (first (drop (w * i) l)) h)

module _ {A : Type 0} {numbers : A → List Float} {first : List Float → A} {w : ℕ} (y : Layout numbers first w) where
  pub laid_length : (xs : List A) → length (laid numbers xs) ≡ w * length xs
  unfolding laid
  laid_length [] = sym (mul-zero w)
  laid_length (x ∷ xs) = omega (arith, length-append (numbers x) (laid numbers xs), y.wide x, laid_length xs, mul-suc w (length xs))

  pub laid_append : (xs ys : List A) → laid numbers (xs ++ ys) ≡ laid numbers xs ++ laid numbers ys
  unfolding laid
  laid_append [] ys = refl
  laid_append (x ∷ xs) ys = rw (laid_append xs ys, append_assoc)

  -- what is written is read back
  pub read_written : (xs : List A) (t : List Float) → read_from first w (length xs) (laid numbers xs ++ t) ≡ xs
  unfolding laid read_from
  read_written [] t = refl
  read_written (x ∷ xs) t =
      rw (append_assoc, y.own x (laid numbers xs ++ t), drop_at (numbers x) (laid numbers xs ++ t) w (y.wide x)) (ap (λ (zs : List A). x ∷ zs) (read_written xs t))

  pub laid_read : (n : ℕ) (l : List Float) → w * n ≤ length l → laid numbers (read_from first w n l) ≡ take (w * n) l
  unfolding laid read_from
  laid_read zero l h = rw (mul-zero w)
  laid_read (suc n) l h =
      let e : w * suc n ≡ w + w * n = omega (arith, mul-suc w n) in
      let f : w ≤ length l = omega arith in
      let g : w * n ≤ length (drop w l) = rw length-drop (omega arith) in
      rw (y.back l f, laid_read n (drop w l) g, e) (sym (take-add w (w * n) l))

  -- a list with its own first records written to it
  pub written_own : (n : ℕ) (l : List Float) → w * n ≤ length l → written_by numbers w (read_from first w n l) l ≡ l
  written_own n l h = rw (read_length first w n l, laid_read n l h) (take-append-drop (w * n) l)

  -- a longer list written over a shorter one
  pub written_over : (xs ys : List A) (l : List Float) → length xs ≤ length ys → written_by numbers w ys (written_by numbers w xs l) ≡ written_by numbers w ys l
  written_over xs ys l h =
      let a = w * length xs in
      let b = w * length ys in
      let k : a ≤ b = mul-le-mul_left w h in
      let e : a + (b - a) ≡ b = omega arith in
      let f : drop b (laid numbers xs ++ drop a l) ≡ drop b l =
      ap (λ (n : ℕ). drop n (laid numbers xs ++ drop a l)) (sym e)
      ∙ sym (drop-drop (b - a) a (laid numbers xs ++ drop a l))
      ∙ ap (drop (b - a)) (drop_at (laid numbers xs) (drop a l) a (laid_length xs))
      ∙ drop-drop (b - a) a l
      ∙ ap (λ (n : ℕ). drop n l) e
      in
      ap (λ (r : List Float). laid numbers ys ++ r) f

  -- one more record stored behind the first n
  pub set_record_is_written_behind : (n : ℕ) (l : List Float) (a : A) → w * n + w ≤ length l
      → sets l (w * n) (numbers a) ≡ written_by numbers w (read_from first w n l ++ (a ∷ [])) l
  unfolding laid
  set_record_is_written_behind n l a h =
      let f : w * n + length (numbers a) ≡ w * n + w = ap (λ (k : ℕ). w * n + k) (y.wide a) in
      let g : length (read_from first w n l ++ (a ∷ [])) ≡ suc n = omega (arith, length-append (read_from first w n l) (a ∷ []), read_length first w n l) in
      let e : w * suc n ≡ w * n + w = mul-suc w n in
      sets-eq (numbers a) l (w * n) (omega arith)
      ∙ rw (f, g, e, laid_append (read_from first w n l) (a ∷ []), laid_read n l (omega arith), append-nil) (refl)

-- ---- seeds and pairs of tilts are laid out so
pub seeds_layout : Layout six (λ l. seed_at l 0) 6
seeds_layout = record { wide = λ s. refl; own = λ s l. refl; back = six_back }
  where
    six_back : (l : List Float) → 6 ≤ length l → six (seed_at l 0) ≡ take 6 l
    six_back [] h = absurd (omega arith)
    six_back (a ∷ []) h = absurd (omega arith)
    six_back (a ∷ b ∷ []) h = absurd (omega arith)
    six_back (a ∷ b ∷ c ∷ []) h = absurd (omega arith)
    six_back (a ∷ b ∷ c ∷ d ∷ []) h = absurd (omega arith)
    six_back (a ∷ b ∷ c ∷ d ∷ e ∷ []) h = absurd (omega arith)
    six_back (a ∷ b ∷ c ∷ d ∷ e ∷ f ∷ l) h = refl

pub tilts_layout : Layout two (λ l. tilts_at l 0) 2
tilts_layout = record { wide = λ t. refl; own = λ t l. refl; back = two_back }
  where
    two_back : (l : List Float) → 2 ≤ length l → two (tilts_at l 0) ≡ take 2 l
    two_back [] h = absurd (omega arith)
    two_back (a ∷ []) h = absurd (omega arith)
    two_back (a ∷ b ∷ l) h = refl

-- ---- the record in place i, as a loop over a list reads it

pub flat_length : (ss : List CandidateSeed) → length (flat ss) ≡ 6 * length ss
flat_length ss = laid_length seeds_layout ss
