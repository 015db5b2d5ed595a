-- The theorems on specs/Steps.antt: rows added one by one, some at a time, and by their flags. Assumes nothing.
use Rattle.std.specs.Prelude.{◌≡◌, ℕ, zero, suc, ◌+◌, ◌*◌, ◌%◌, ◌^◌, ◌<◌, ◌≤◌, Bool, true, false, cond, ◌&&◌, List, [], ◌∷◌, ◌++◌, length, drop, take, ◌==◌, slice_index, slice_index_or, refl, Float}
use Rattle.std.proofs.Common.{◌/◌, min, sym, ap, ap₂, subst, ◌∙◌, arith, get_or, mod-eq_of_lt, add-one, drop-cons, ⊎_elim, eq-or-lt_of_le}
use Rattle.std.proofs.Math.Seq.{drop-length}
use Rattle.std.proofs.lemmas.List.{get_or-take, get_or-drop, take_all, take_at, drop_at}
use Rattle.std.specs.Float.{nan, inf, fin, binary64}
use Rattle.std.specs.Simd.{first_chunks}
use Rattle.std.specs.Float.Ieee.{of_bits, add, div}
use Rattle.std.proofs.lemmas.Bool.{false≢true}
use Rattle.float.specs.Binary64.{◌+₆₄◌}
use Rattle.float.specs.Float.{is_finite}
use Rattle.float.specs.Literals.{plus_zero, infinity}
use Rattle.camera.specs.Matrix.{Matrix}
use Rattle.camera.specs.Math.{point_at}
use Rattle.score.specs.Rows.{rows_of, row_error, is_counted, counted_errors, no_errors, summed, error_sum}
use Rattle.score.specs.declared.pinhole.PinholeCamera.{PinholeCamera}
use Rattle.score.specs.declared.errors.Row.{Row}
use Rattle.score.specs.declared.errors.ErrorSum.{ErrorSum}
use Rattle.score.specs.Steps.{add_error, with_row, row_at, add_rows, add_errors, one_in_front, in_front, Errors}

-- ---- row by row: s has the errors of the first i rows, and adding those of the rest to it gives the whole
pub record SumOfFirstRows (c : PinholeCamera) (h : Matrix) (rows : List Row) (i : ℕ) (s : ErrorSum) : Type 0 where
  few : s.count ≤ i
  rest : summed s (counted_errors c h (drop i rows)) ≡ error_sum c h rows

-- ---- how many rows there are
-- as many as the flags, where there are four numbers for each
pub rows_length_by_flags : (ns : List Float) (fs : List ℕ) → 4 * length fs ≤ length ns → length (rows_of ns fs) ≡ length fs
unfolding rows_of
rows_length_by_flags [] [] h = refl
rows_length_by_flags (x ∷ []) [] h = refl
rows_length_by_flags (x ∷ y ∷ []) [] h = refl
rows_length_by_flags (x ∷ y ∷ u ∷ []) [] h = refl
rows_length_by_flags (x ∷ y ∷ u ∷ v ∷ ns) [] h = refl
rows_length_by_flags [] (f ∷ fs) h = absurd (omega arith)
rows_length_by_flags (x ∷ []) (f ∷ fs) h = absurd (omega arith)
rows_length_by_flags (x ∷ y ∷ []) (f ∷ fs) h = absurd (omega arith)
rows_length_by_flags (x ∷ y ∷ u ∷ []) (f ∷ fs) h = absurd (omega arith)
rows_length_by_flags (x ∷ y ∷ u ∷ v ∷ ns) (f ∷ fs) h = ap suc (rows_length_by_flags ns fs (omega arith))

-- none where the numbers make no row, or there is no flag
no_rows_below_four_numbers : (ns : List Float) (fs : List ℕ) → length ns < 4 → rows_of ns fs ≡ []
unfolding rows_of
no_rows_below_four_numbers [] fs h = refl
no_rows_below_four_numbers (x ∷ []) fs h = refl
no_rows_below_four_numbers (x ∷ y ∷ []) fs h = refl
no_rows_below_four_numbers (x ∷ y ∷ u ∷ []) fs h = refl
no_rows_below_four_numbers (x ∷ y ∷ u ∷ v ∷ ns) fs h = absurd (omega arith)

no_rows_without_flags : (ns : List Float) → rows_of ns [] ≡ []
unfolding rows_of
no_rows_without_flags [] = refl
no_rows_without_flags (x ∷ []) = refl
no_rows_without_flags (x ∷ y ∷ []) = refl
no_rows_without_flags (x ∷ y ∷ u ∷ []) = refl
no_rows_without_flags (x ∷ y ∷ u ∷ v ∷ ns) = refl

-- the same ones where the lists are cut to the fewer of them
rows_of_cut_lists : (ns : List Float) (fs : List ℕ) (n : ℕ) → 4 * n ≤ length ns → n ≤ length fs → (n < length fs → length ns < 4 * n + 4) → rows_of (take (4 * n) ns) (take n fs) ≡ rows_of ns fs
unfolding rows_of
rows_of_cut_lists ns [] zero a b c = sym (no_rows_without_flags ns)
rows_of_cut_lists ns (f ∷ fs) zero a b c = sym (no_rows_below_four_numbers ns (f ∷ fs) (c (omega arith)))
rows_of_cut_lists ns [] (suc n) a b c = absurd (omega arith)
rows_of_cut_lists [] (f ∷ fs) (suc n) a b c = absurd (omega arith)
rows_of_cut_lists (x ∷ []) (f ∷ fs) (suc n) a b c = absurd (omega arith)
rows_of_cut_lists (x ∷ y ∷ []) (f ∷ fs) (suc n) a b c = absurd (omega arith)
rows_of_cut_lists (x ∷ y ∷ u ∷ []) (f ∷ fs) (suc n) a b c = absurd (omega arith)
rows_of_cut_lists (x ∷ y ∷ u ∷ v ∷ ns) (f ∷ fs) (suc n) a b c =
    let e : 4 * suc n ≡ suc (suc (suc (suc (4 * n)))) = omega arith in
    rw (e, rows_of_cut_lists ns fs n (omega arith) (omega arith) (λ h. omega (arith, c (omega (arith, h)))))

pub rows_of_lists_cut_to_fewer : (ns : List Float) (fs : List ℕ) → rows_of (take (4 * min (length ns / 4) (length fs)) ns) (take (min (length ns / 4) (length fs)) fs) ≡ rows_of ns fs
rows_of_lists_cut_to_fewer ns fs = rows_of_cut_lists ns fs (min (length ns / 4) (length fs)) (omega arith) (omega arith) (λ h. omega (arith, h))

-- ---- each row is the one that stands at its place
index_past_four : (x y u v : Float) (ns : List Float) (n m : ℕ) → n ≡ suc (suc (suc (suc m))) → slice_index_or (x ∷ y ∷ u ∷ v ∷ ns) n nan ≡ slice_index_or ns m nan
index_past_four x y u v ns n m e = rw e

row_at_is_row_of : (ns : List Float) (fs : List ℕ) (i : ℕ) (r : Row) → i < length (rows_of ns fs) → slice_index_or (rows_of ns fs) i r ≡ row_at ns fs i
unfolding rows_of row_at
row_at_is_row_of [] fs i r h = absurd (omega arith)
row_at_is_row_of (x ∷ []) fs i r h = absurd (omega arith)
row_at_is_row_of (x ∷ y ∷ []) fs i r h = absurd (omega arith)
row_at_is_row_of (x ∷ y ∷ u ∷ []) fs i r h = absurd (omega arith)
row_at_is_row_of (x ∷ y ∷ u ∷ v ∷ ns) [] i r h = absurd (omega arith)
row_at_is_row_of (x ∷ y ∷ u ∷ v ∷ ns) (f ∷ fs) zero r h = refl
row_at_is_row_of (x ∷ y ∷ u ∷ v ∷ ns) (f ∷ fs) (suc i) r h =
    let p = index_past_four x y u v ns in
    simp (p (4 * suc i) (4 * i) (omega arith), p (4 * suc i + 1) (4 * i + 1) (omega arith), p (4 * suc i + 2) (4 * i + 2) (omega arith), p (4 * suc i + 2 + 1) (4 * i + 2 + 1) (omega arith))
    (row_at_is_row_of ns fs i r (omega arith))

-- so are the four numbers that an iterator over the fours gives
chunk_at_is_four_numbers : (ns : List Float) (i : ℕ) → i < length ns / 4
    → get_or (first_chunks 4 (length ns / 4) ns) i [] ≡ slice_index_or ns (4 * i) nan ∷ slice_index_or ns (4 * i + 1) nan ∷ slice_index_or ns (4 * i + 2) nan ∷ slice_index_or ns (4 * i + 2 + 1) nan ∷ []
chunk_at_is_four_numbers [] i h = absurd (omega (arith, h))
chunk_at_is_four_numbers (x ∷ []) i h = absurd (omega (arith, h))
chunk_at_is_four_numbers (x ∷ y ∷ []) i h = absurd (omega (arith, h))
chunk_at_is_four_numbers (x ∷ y ∷ u ∷ []) i h = absurd (omega (arith, h))
chunk_at_is_four_numbers (x ∷ y ∷ u ∷ v ∷ ns) zero h = let more : suc (suc (suc (suc (length ns)))) / 4 ≡ suc (length ns / 4) = omega arith in rw more refl
chunk_at_is_four_numbers (x ∷ y ∷ u ∷ v ∷ ns) (suc i) h =
    let more : suc (suc (suc (suc (length ns)))) / 4 ≡ suc (length ns / 4) = omega arith in
    let p = index_past_four x y u v ns in
    rw (more, p (4 * suc i) (4 * i) (omega arith), p (4 * suc i + 1) (4 * i + 1) (omega arith), p (4 * suc i + 2) (4 * i + 2) (omega arith), p (4 * suc i + 2 + 1) (4 * i + 2 + 1) (omega arith))
    (chunk_at_is_four_numbers ns i (omega (arith, h, more)))

-- ---- a list's part, n from place m on
index_of_part : {A : Type 0} (m n : ℕ) (xs : List A) (d : A) (q k : ℕ) → q < n → m + q ≡ k → slice_index_or (take n (drop m xs)) q d ≡ slice_index_or xs k d
index_of_part m n xs d q k l e = get_or-take n (drop m xs) q d l ∙ get_or-drop m xs q d ∙ ap (λ (i : ℕ). slice_index_or xs i d) e

-- ---- none of the rows, and one more of them: what each turn of a loop adds
pub add_rows_zero : (s : ErrorSum) (c : PinholeCamera) (h : Matrix) (ns : List Float) (fs : List ℕ) → add_rows s c h ns fs 0 ≡ s
unfolding add_rows
add_rows_zero s c h ns fs = refl

pub add_rows_suc : (s : ErrorSum) (c : PinholeCamera) (h : Matrix) (ns : List Float) (fs : List ℕ) (j : ℕ)
    → add_rows s c h ns fs (j + 1) ≡ with_row c h (add_rows s c h ns fs j) (row_at ns fs j)
unfolding add_rows
add_rows_suc s c h ns fs j = rw (add-one j)

pub ruleset add_rows_turns = (add_rows_zero, add_rows_suc)

-- ---- no error, and one more of them, added by the rows' flags alone
pub add_errors_zero : (s : ErrorSum) (fs : List ℕ) (es : List Float) → add_errors s fs es 0 ≡ s
unfolding add_errors
add_errors_zero s fs es = refl

pub add_errors_suc : (s : ErrorSum) (fs : List ℕ) (es : List Float) (j : ℕ)
    → add_errors s fs es (j + 1) ≡ add_error (add_errors s fs es j) (slice_index fs j == 1) (slice_index_or es j nan)
unfolding add_errors
add_errors_suc s fs es j = rw (add-one j)

pub ruleset add_errors_turns = (add_errors_zero, add_errors_suc)

-- ---- blocks of rows
-- row j of the rows that are cut out after the first m is row m + j of all
row_at_of_part : (ns : List Float) (fs : List ℕ) (m n j : ℕ) → j < n → row_at (take (4 * n) (drop (4 * m) ns)) (take n (drop m fs)) j ≡ row_at ns fs (m + j)
unfolding row_at
row_at_of_part ns fs m n j l =
    let at : (q k : ℕ) → q < 4 * n → 4 * m + q ≡ k → slice_index_or (take (4 * n) (drop (4 * m) ns)) q nan ≡ slice_index_or ns k nan = index_of_part (4 * m) (4 * n) ns nan in
    simp (index_of_part m n fs 0 j (m + j) l refl, at (4 * j) (4 * (m + j)) (omega arith) (omega arith), at (4 * j + 1) (4 * (m + j) + 1) (omega arith) (omega arith), at (4 * j + 2) (4 * (m + j) + 2) (omega arith) (omega arith), at (4 * j + 2 + 1) (4 * (m + j) + 2 + 1) (omega arith) (omega arith))

pub add_rows_of_part : (s : ErrorSum) (c : PinholeCamera) (h : Matrix) (ns : List Float) (fs : List ℕ) (m n k : ℕ) → k ≤ n
    → add_rows (add_rows s c h ns fs m) c h (take (4 * n) (drop (4 * m) ns)) (take n (drop m fs)) k ≡ add_rows s c h ns fs (m + k)
unfolding add_rows
add_rows_of_part s c h ns fs m n zero l = let e : m + 0 ≡ m = omega arith in rw e
add_rows_of_part s c h ns fs m n (suc j) l =
    let e : m + suc j ≡ suc (m + j) = omega arith in
    rw (e, add_rows_of_part s c h ns fs m n j (omega arith), row_at_of_part ns fs m n j (omega arith))

-- two parts of the lists, one behind the other
pub add_rows_append : (s : ErrorSum) (c : PinholeCamera) (h : Matrix) (xs ns : List Float) (ys fs : List ℕ) → length xs ≡ 4 * length ys → length ns ≡ 4 * length fs
    → add_rows (add_rows s c h xs ys (length ys)) c h ns fs (length fs) ≡ add_rows s c h (xs ++ ns) (ys ++ fs) (length ys + length fs)
add_rows_append s c h xs ns ys fs e f =
    let n = length ys in
    let k = length fs in
    let z : 0 + n ≡ n = omega arith in
    let first : add_rows s c h xs ys n ≡ add_rows s c h (xs ++ ns) (ys ++ fs) n =
    rw (z, add_rows_zero s c h (xs ++ ns) (ys ++ fs), take_at xs ns (4 * n) e, take_at ys fs n refl) at (add_rows_of_part s c h (xs ++ ns) (ys ++ fs) 0 n n (omega arith)) in
    let rest : add_rows (add_rows s c h (xs ++ ns) (ys ++ fs) n) c h ns fs k ≡ add_rows s c h (xs ++ ns) (ys ++ fs) (n + k) =
    rw (drop_at xs ns (4 * n) e, drop_at ys fs n refl, take_all (4 * k) ns (omega arith), take_all k fs (omega arith)) at (add_rows_of_part s c h (xs ++ ns) (ys ++ fs) n k k (omega arith)) in
    rw first rest

-- a sum is finite only where both of its terms are
finite_sum_has_finite_terms : (x y : Float) → is_finite (x +₆₄ y) ≡ true → (is_finite x ≡ true) × (is_finite y ≡ true)
unfolding add is_finite
finite_sum_has_finite_terms nan y h = absurd (false≢true h)
finite_sum_has_finite_terms (inf s) nan h = absurd (false≢true h)
finite_sum_has_finite_terms (inf true) (inf true) h = absurd (false≢true h)
finite_sum_has_finite_terms (inf true) (inf false) h = absurd (false≢true h)
finite_sum_has_finite_terms (inf false) (inf true) h = absurd (false≢true h)
finite_sum_has_finite_terms (inf false) (inf false) h = absurd (false≢true h)
finite_sum_has_finite_terms (inf s) (fin t n d) h = absurd (false≢true h)
finite_sum_has_finite_terms (fin s m e) nan h = absurd (false≢true h)
finite_sum_has_finite_terms (fin s m e) (inf t) h = absurd (false≢true h)
finite_sum_has_finite_terms (fin s m e) (fin t n d) h = (refl, refl)

-- so where it is finite, what was added counts by its flag alone
finite_sum_counts_by_flag : (s : ErrorSum) (v : Bool) (e : Float) → is_finite (add_error s v e).sum ≡ true → (is_finite s.sum ≡ true) × (add_error s v e ≡ add_error s (v && is_finite e) e)
unfolding add_error
finite_sum_counts_by_flag s true e h = let t = finite_sum_has_finite_terms s.sum e h in (t.0, rw t.1 refl)
finite_sum_counts_by_flag s false e h = (h, refl)

pub add_errors_is_add_rows : (s : ErrorSum) (c : PinholeCamera) (h : Matrix) (ns : List Float) (fs : List ℕ) (es : List Float) (n : ℕ)
    → Errors c h ns n es → is_finite (add_errors s fs es n).sum ≡ true → add_errors s fs es n ≡ add_rows s c h ns fs n
unfolding add_errors add_rows with_row row_at is_counted row_error
add_errors_is_add_rows s c h ns fs es zero errors finite = refl
add_errors_is_add_rows s c h ns fs es (suc j) errors finite =
    let t = finite_sum_counts_by_flag (add_errors s fs es j) (slice_index fs j == 1) (slice_index_or es j nan) finite in
    t.1 ∙ rw (errors j (omega arith), add_errors_is_add_rows s c h ns fs es j (λ k l. errors k (omega (arith, l))) t.0) refl

-- ---- how many rows lie in front
pub one_in_front_le_one : (flag : ℕ) → one_in_front flag ≤ 1
unfolding one_in_front
one_in_front_le_one flag = go (flag == 1)
  where
    go : (v : Bool) → cond v 1 0 ≤ 1
    go true = omega arith
    go false = omega arith

pub in_front_le_rows : (fs : List ℕ) (n : ℕ) → in_front fs n ≤ n
unfolding in_front
in_front_le_rows fs zero = omega arith
in_front_le_rows fs (suc j) = omega (arith, in_front_le_rows fs j, one_in_front_le_one (slice_index fs j))

pub in_front_zero : (fs : List ℕ) → in_front fs 0 ≡ 0
unfolding in_front
in_front_zero fs = refl

pub in_front_suc : (fs : List ℕ) (j : ℕ) → in_front fs (j + 1) ≡ in_front fs j + one_in_front (slice_index fs j)
unfolding in_front
in_front_suc fs j = rw (add-one j)

-- what the loop over the flags of a block rests on
pub ruleset in_front_turns = (in_front_zero, in_front_suc, one_in_front_le_one, in_front_le_rows, get_or-take, get_or-drop)

-- where all of them lie in front, each does
last_in_front_if_all_are : (v : Bool) (m j : ℕ) → m ≤ j → m + cond v 1 0 ≡ suc j → (v ≡ true) × (m ≡ j)
last_in_front_if_all_are true m j l e = (refl, omega (arith, e))
last_in_front_if_all_are false m j l e = absurd (omega (arith, e))

pub each_in_front_if_all_are : (fs : List ℕ) (n j : ℕ) → in_front fs n ≡ n → j < n → (slice_index fs j == 1) ≡ true
unfolding in_front one_in_front
each_in_front_if_all_are fs zero j all h = absurd (omega arith)
each_in_front_if_all_are fs (suc m) j all h =
    let step = last_in_front_if_all_are (slice_index fs m == 1) (in_front fs m) m (in_front_le_rows fs m) all in
    ⊎_elim (λ e. rw e step.0) (λ l. each_in_front_if_all_are fs m j step.1 l) (eq-or-lt_of_le {n = j} {m = m} (omega arith))

-- where none of them does, nothing is added
last_not_in_front_if_none_is : (v : Bool) (m : ℕ) → m + cond v 1 0 ≡ 0 → (v ≡ false) × (m ≡ 0)
last_not_in_front_if_none_is true m e = absurd (omega (arith, e))
last_not_in_front_if_none_is false m e = (refl, omega (arith, e))

pub none_in_front_adds_nothing : (s : ErrorSum) (c : PinholeCamera) (h : Matrix) (ns : List Float) (fs : List ℕ) (n : ℕ) → in_front fs n ≡ 0 → s ≡ add_rows s c h ns fs n
unfolding add_rows with_row row_at is_counted add_error in_front one_in_front
none_in_front_adds_nothing s c h ns fs zero none = refl
none_in_front_adds_nothing s c h ns fs (suc j) none =
    let step = last_not_in_front_if_none_is (slice_index fs j == 1) (in_front fs j) none in
    rw step.0 (none_in_front_adds_nothing s c h ns fs j step.1)

with_row_is_first_summed : (s : ErrorSum) (c : PinholeCamera) (h : Matrix) (r : Row) (rs : List Row)
    → s.count + 1 < 2 ^ 64 → summed (with_row c h s r) (counted_errors c h rs) ≡ summed s (counted_errors c h (r ∷ rs))
unfolding with_row add_error counted_errors summed
with_row_is_first_summed s c h r rs small =
    let e = row_error c h r in
    let es = counted_errors c h rs in
    elim (is_counted c h r) as (λ (v : Bool). summed (cond v (record { sum = s.sum +₆₄ e; count = (s.count + 1) % 2 ^ 64 }) s) es ≡ summed s (cond v (e ∷ es) es)) [
      | true ↦ rw (mod-eq_of_lt small)
      | false ↦ refl
    ]

with_row_count_le_suc : (c : PinholeCamera) (h : Matrix) (s : ErrorSum) (r : Row) → (with_row c h s r).count ≤ s.count + 1
unfolding with_row add_error
with_row_count_le_suc c h s r = go (is_counted c h r)
  where
    go : (v : Bool) → (cond v (record { sum = s.sum +₆₄ row_error c h r; count = (s.count + 1) % 2 ^ 64 }) s).count ≤ s.count + 1
    go true = omega arith
    go false = omega arith

sum_of_first_rows_suc : (c : PinholeCamera) (h : Matrix) (rows : List Row) (i : ℕ) (s : ErrorSum) (r : Row)
    → i < length rows → i + 1 < 2 ^ 64 → slice_index_or rows i r ≡ r → SumOfFirstRows c h rows i s → SumOfFirstRows c h rows (i + 1) (with_row c h s r)
sum_of_first_rows_suc c h rows i s r below small at p =
    record {
      few = omega (arith, with_row_count_le_suc c h s r);
      rest = rw (add-one i) (with_row_is_first_summed s c h r (drop (suc i) rows) (omega arith) ∙ (rw (drop-cons rows i r below, at) at p.rest));
    }

-- one more of the fours and of the flags is one more row
pub with_row_of_four_numbers : (s z : ErrorSum) (c : PinholeCamera) (h : Matrix) (ns : List Float) (fs : List ℕ) (k : ℕ) (four : List Float) (flag : ℕ)
    → s ≡ add_rows z c h ns fs k → k < length ns / 4 → four ≡ get_or (first_chunks 4 (length ns / 4) ns) k [] → flag ≡ slice_index fs k
    → let r : Row = record { ideal = point_at four 0; seen = point_at four 2; flag = flag } in with_row c h s r ≡ add_rows z c h ns fs (k + 1)
unfolding row_at
with_row_of_four_numbers s z c h ns fs k four flag e below f g = rw (add_rows_suc z c h ns fs k, e, f ∙ chunk_at_is_four_numbers ns k below, g)

sum_of_first_rows : (c : PinholeCamera) (h : Matrix) (ns : List Float) (fs : List ℕ) (n : ℕ)
    → n ≤ length (rows_of ns fs) → n < 2 ^ 64 → SumOfFirstRows c h (rows_of ns fs) n (add_rows no_errors c h ns fs n)
unfolding add_rows error_sum
sum_of_first_rows c h ns fs zero inside small = record { few = omega arith; rest = refl }
sum_of_first_rows c h ns fs (suc k) inside small =
    let s = add_rows no_errors c h ns fs k in
    let r = row_at ns fs k in
    let below : k < length (rows_of ns fs) = omega arith in
    subst (λ (j : ℕ). SumOfFirstRows c h (rows_of ns fs) j (with_row c h s r)) (add-one k)
    (sum_of_first_rows_suc c h (rows_of ns fs) k s r below (omega arith) (row_at_is_row_of ns fs k r below) (sum_of_first_rows c h ns fs k (omega arith) (omega arith)))

pub add_rows_is_error_sum : (c : PinholeCamera) (h : Matrix) (ns : List Float) (fs : List ℕ) (n : ℕ) → n ≡ length (rows_of ns fs) → n < 2 ^ 64
    → add_rows no_errors c h ns fs n ≡ error_sum c h (rows_of ns fs)
unfolding counted_errors summed
add_rows_is_error_sum c h ns fs n e small = rw e (rw drop-length at (sum_of_first_rows c h ns fs (length (rows_of ns fs)) (omega arith) (rw e at small)).rest)

-- the same for lists of equally many rows, from a sum and count of 0
pub add_rows_from_zero_is_error_sum : (s : ErrorSum) (c : PinholeCamera) (h : Matrix) (ns : List Float) (fs : List ℕ) (n : ℕ) → s.sum ≡ plus_zero → s.count ≡ 0 → length ns ≡ 4 * length fs → n ≡ length fs → n < 2 ^ 64
    → add_rows s c h ns fs n ≡ error_sum c h (rows_of ns fs)
add_rows_from_zero_is_error_sum s c h ns fs n p q four e small =
    let none : s ≡ no_errors = ap₂ (λ x m. record { sum = x; count = m }) p q in
    rw none (add_rows_is_error_sum c h ns fs n (e ∙ sym (rows_length_by_flags ns fs (omega arith))) small)

-- infinity by its bits, which core's constant has
pub infinity_bits : of_bits binary64 0x7ff0_0000_0000_0000 ≡ infinity
unfolding div of_bits
infinity_bits = refl
