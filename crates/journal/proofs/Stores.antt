-- Runs of stores to a buffer, one after the other. Assumes nothing.
use Rattle.std.proofs.Common.{ℕ, suc, ◌+◌, ◌-◌, ◌/◌, ◌%◌, ◌<◌, ◌≤◌, ◌≡◌, refl, sym, ap, ◌∙◌, subst, List, [], ◌∷◌, ◌++◌, map, add-zero, zero-add, add-one, arith, length, set, get_or, drop, length-append, drop_of_length-le}
use lib.Seq.{sets, sets-eq, set_comm}
use Rattle.std.proofs.lemmas.List.{at_drop_more}
use Rattle.journal.specs.Line.{digit_byte, digits}
use Rattle.journal.specs.Steps.{comma_fields, Stored}
use Rattle.journal.proofs.DigitLaws.{digits_length}

-- ---- one after the other
-- one run behind another
pub sets_append : (vs ws l : List ℕ) (i j : ℕ) → i + length vs ≡ j → sets l i (vs ++ ws) ≡ sets (sets l i vs) j ws
sets_append [] ws l i j e = ap (λ (k : ℕ). sets l k ws) (sym (add-zero i) ∙ e)
sets_append (v ∷ vs) ws l i j e = sets_append vs ws (set l i v) (suc i) j (omega arith)

pub stored_append : (vs ws l m n : List ℕ) (i j : ℕ) → Stored l i vs m → Stored m j ws n → i + length vs ≡ j → Stored l i (vs ++ ws) n
stored_append vs ws l m n i j a b e = record {
  now_is = b.now_is ∙ ap (λ (k : List ℕ). sets k j ws) a.now_is ∙ sym (sets_append vs ws l i j e);
  same_long = b.same_long ∙ a.same_long;
}

-- the same bytes by another name
pub stored_same_bytes : (l : List ℕ) (i : ℕ) (vs ws m : List ℕ) → vs ≡ ws → Stored l i vs m → Stored l i ws m
stored_same_bytes l i vs ws m e s = subst (λ (b : List ℕ). Stored l i b m) e s

-- from the front on
pub stored_front : (vs l m : List ℕ) → length vs ≤ length l → Stored l 0 vs m → m ≡ vs ++ drop (length vs) l
stored_front vs l m h s = s.now_is ∙ sets-eq vs l 0 (omega arith) ∙ ap (λ (k : ℕ). vs ++ drop k l) (zero-add (length vs))

-- a store behind a run may come first
set_behind_may_come_first : (vs l : List ℕ) (i j a : ℕ) → i + length vs ≤ j → set (sets l i vs) j a ≡ sets (set l j a) i vs
set_behind_may_come_first [] l i j a h = refl
set_behind_may_come_first (v ∷ vs) l i j a h =
    set_behind_may_come_first vs (set l i v) (suc i) j a (omega arith) ∙ ap (λ (m : List ℕ). sets m (suc i) vs) (set_comm l i j v a (λ e. omega arith))

-- digits from the lowest up: the last one stored, then the others
pub sets_digits_suc : (l : List ℕ) (at base w n : ℕ) → sets (set l (at + w) (digit_byte (n % base))) at (digits base w (n / base)) ≡ sets l at (digits base (suc w) n)
unfolding digits
sets_digits_suc l at base w n =
    let e = digits_length base w (n / base) in
    sym (sets_append (digits base w (n / base)) (digit_byte (n % base) ∷ []) l at (at + w) (ap (λ (k : ℕ). at + k) e)
    ∙ set_behind_may_come_first (digits base w (n / base)) l at (at + w) (digit_byte (n % base)) (omega arith))

-- a turn of the loop that stores digits
pub sets_digits_turn : (l whole : List ℕ) (at base i n b : ℕ) → 0 < i → b ≡ digit_byte (n % base) → sets l at (digits base i n) ≡ whole
    → sets (set l (at + (i - 1)) b) at (digits base (i - 1) (n / base)) ≡ whole
sets_digits_turn l whole at base i n b h e w =
    let k : suc (i - 1) ≡ i = omega arith in
    ap (λ (c : ℕ). sets (set l (at + (i - 1)) c) at (digits base (i - 1) (n / base))) e
    ∙ sets_digits_suc l at base (i - 1) n ∙ ap (λ (m : ℕ). sets l at (digits base m n)) k ∙ w

pub sets_no_digits : (l whole : List ℕ) (at base i n : ℕ) → i ≡ 0 → sets l at (digits base i n) ≡ whole → l ≡ whole
unfolding digits
sets_no_digits l whole at base i n e w = rw e at w

-- ---- fields behind commas
-- a field stored, then those behind it
pub sets_comma_field : (f : List ℕ) (fs : List (List ℕ)) (l : List ℕ) (i j : ℕ) → i + 1 + length f ≡ j → sets (sets (set l i 44) (i + 1) f) j (comma_fields fs) ≡ sets l i (comma_fields (f ∷ fs))
unfolding comma_fields
sets_comma_field f fs l i j e = rw add-one (sym (sets_append f (comma_fields fs) (set l i 44) (suc i) j (omega arith)))

-- one field for each of some values
module _ {A : Type 0} (field : A → List ℕ) (xs : List A) (i : ℕ) where
  -- a turn of a loop that stores them: the i-th, then those behind it
  pub sets_fields_turn : (l whole : List ℕ) (position next : ℕ) (z : A) → i < length xs → position + 1 + length (field (get_or xs i z)) ≡ next
      → sets l position (comma_fields (map field (drop i xs))) ≡ whole
      → (m : List ℕ) → m ≡ sets (set l position 44) (position + 1) (field (get_or xs i z))
      → sets m next (comma_fields (map field (drop (i + 1) xs))) ≡ whole
  sets_fields_turn l whole position next z h e w m s =
      rw s (sets_comma_field (field (get_or xs i z)) (map field (drop (i + 1) xs)) l position next e
      ∙ sym (at_drop_more (λ (ys : List A). sets l position (comma_fields (map field ys))) xs i z h) ∙ w)

  -- the place behind them all, in a turn and at the end
  pub fields_end_after_turn : (position next end : ℕ) (z : A) → i < length xs → position + 1 + length (field (get_or xs i z)) ≡ next
      → position + length (comma_fields (map field (drop i xs))) ≡ end → next + length (comma_fields (map field (drop (i + 1) xs))) ≡ end
  unfolding comma_fields
  fields_end_after_turn position next end z h e w =
      let x = get_or xs i z in
      let f : position + length (comma_fields (map field (x ∷ drop (i + 1) xs))) ≡ end = sym (at_drop_more (λ (ys : List A). position + length (comma_fields (map field ys))) xs i z h) ∙ w in
      omega (arith, e, length-append (field x) (comma_fields (map field (drop (i + 1) xs))))

  pub place_is_fields_end : (position end : ℕ) → length xs ≤ i → position + length (comma_fields (map field (drop i xs))) ≡ end → position ≡ end
  unfolding comma_fields
  place_is_fields_end position end h w = let f : position + 0 ≡ end = rw (drop_of_length-le xs h) at w in omega arith

  -- behind the last none is left to store
  pub all_fields_stored : (l out : List ℕ) (at position : ℕ) → length xs ≤ i → sets l position (comma_fields (map field (drop i xs))) ≡ sets out at (comma_fields (map field xs))
      → length l ≡ length out → Stored out at (comma_fields (map field xs)) l
  unfolding comma_fields
  all_fields_stored l out at position h w e = record { now_is = rw (drop_of_length-le xs h) at w; same_long = e }
