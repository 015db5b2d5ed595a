-- Each line has one reading, and each reading one line. Assumes nothing.
use Prim.Native.Nat.{ℕ, zero, suc, ◌+◌, ◌<◌, ◌≤◌}
use Rattle.std.specs.Prelude.{◌≡◌, true, false, ◌&&◌, leb, ltb, eqb, length, get_or, drop, Float, Ok, Err, Option, Some, None}
use Rattle.std.specs.Option.{option_map}
use Rattle.std.proofs.Math.Path.{refl, sym}
use Rattle.std.proofs.Common.{ap, ap₂, subst, ◌∙◌, arith, length-append, length-drop, drop-drop}
use Rattle.std.proofs.Math.Bool.{true≢false}
use mathlib.Core.List.{List, [], ◌∷◌, ◌++◌, map, append_assoc}
use borrow.Author.Tests.{leb-true, lt-ltb, ltb-true, ltb-false, eq-eqb, eqb-true}
use Rattle.std.proofs.Math.Seq.{drop_at, drop-append_seam}
use Rattle.std.proofs.lemmas.Option.{same_Some}
use Rattle.std.specs.Float.Ieee.Bits.{of_bits-fits}
use Rattle.common.specs.Each.{All}
use Rattle.common.specs.Tests.{case, both_true}
use Rattle.seeds.specs.Layout.{six, seed_at}
use Rattle.score.specs.declared.outcome.SkipReason.{SkipReason}
use Rattle.score.specs.declared.outcome.SkipReason.TheVariants.{HostFailed, BadCamera, NoMean, NoNumber}
use Rattle.journal.specs.Outcome.{Recorded}
use Rattle.journal.specs.declared.Line.{Line}
use Rattle.journal.specs.declared.Read.TheVariants.{Got}
use Rattle.journal.specs.Line.{decimal_width, decimal, real, reason_letter, eight, outcome_fields, rest_of_line, line_bytes, recordable, writable, Fits, recorded_numbers, LineFits, Writable}
use Rattle.journal.specs.Reading.{real_at, reals, scored_at, reason_of, outcome_at, from_round, from_seed, line_with, unchecked_line, begins, of_form, read_line}
use Rattle.journal.proofs.DigitLaws.{decimal_width_read_back, decimal_read_back, decimal_length, decimal_width_fits}
use Rattle.journal.proofs.FieldLaws.{rest_of_line_cons_append, reals_read_back, drop_past_reals, rest_width, rest_of_line_length, rest_width_of_reals}
use Rattle.journal.specs.Theorem.{LineAt, Correct}

-- ---- what was written is what the bytes would be
reason_read_back : (r : SkipReason) → (eqb (reason_letter r) 83 ≡ false) × (reason_of (reason_letter r) ≡ Some r)
unfolding reason_letter reason_of
reason_read_back HostFailed = (refl, refl)
reason_read_back BadCamera = (refl, refl)
reason_read_back NoMean = (refl, refl)
reason_read_back NoNumber = (refl, refl)

outcome_read_back : (o : Recorded) (s : List ℕ) → All Fits (recorded_numbers o) → outcome_at (rest_of_line (outcome_fields o) ++ s) ≡ Some o
unfolding outcome_at outcome_fields rest_of_line
outcome_read_back (Ok r) s k = ap (λ (l : List Float). Some (Ok (scored_at l))) (reals_read_back [] s (eight r) k)
outcome_read_back (Err r) s k = let e = reason_read_back r in rw (e.0, e.1)

pub drop_past_comma : (f s : List ℕ) (n : ℕ) → length f ≡ n → drop (n + 1) (f ++ 44 ∷ s) ≡ s
drop_past_comma f s n e = sym (drop-drop 1 n (f ++ 44 ∷ s)) ∙ ap (drop 1) (drop_at f (44 ∷ s) n e)

module _ (n r : ℕ) (hn : n < 1000) (hr : r < 1000) where
  unchecked_line_at_seed : (t : List ℕ) (o : Recorded) → outcome_at (drop 102 (44 ∷ t)) ≡ Some o
      → unchecked_line (decimal n ++ 44 ∷ (decimal r ++ 44 ∷ t)) ≡ Some (record { number = n; round = r; seed = seed_at (reals 6 (44 ∷ t)) 0; outcome = o })
  unfolding unchecked_line from_round from_seed
  unchecked_line_at_seed t o h =
      let x : List ℕ = decimal r ++ 44 ∷ t in
      let w = decimal_width_read_back n hn x in
      let p = drop_past_comma (decimal n) x (decimal_width n) (decimal_length n) in
      let v = decimal_width_read_back r hr t in
      let d = drop_at (decimal r) (44 ∷ t) (decimal_width r) (decimal_length r) in
      rw (w, p, v, d, h, w, decimal_read_back n hn x, p, v, decimal_read_back r hr t, d)

  unchecked_line_of_head : (u t : List ℕ) (o : Recorded) → u ≡ 44 ∷ t → outcome_at (drop 102 u) ≡ Some o
      → unchecked_line (decimal n ++ 44 ∷ (decimal r ++ u)) ≡ Some (record { number = n; round = r; seed = seed_at (reals 6 u) 0; outcome = o })
  unchecked_line_of_head u t o e h = rw e (unchecked_line_at_seed t o (rw e at h))

-- the bytes of a line in front of others
line_bytes_append : (l : Line) (s : List ℕ) → line_bytes l ++ s ≡ decimal l.number ++ 44 ∷ (decimal l.round ++ (rest_of_line (map real (six l.seed) ++ outcome_fields l.outcome) ++ s))
unfolding line_bytes
line_bytes_append l s =
    append_assoc (decimal l.number) (rest_of_line (decimal l.round ∷ (map real (six l.seed) ++ outcome_fields l.outcome))) s
    ∙ ap (λ (r : List ℕ). decimal l.number ++ r) (rest_of_line_cons_append (decimal l.round) (map real (six l.seed) ++ outcome_fields l.outcome) s)

-- what the writer takes
pub writable_bounds : (l : Line) → Writable l → (l.number ≤ 655) × (l.round ≤ 16) × (recordable l.outcome ≡ true)
unfolding writable
writable_bounds l can =
    let a = both_true (leb l.number 655 && leb l.round 16) (recordable l.outcome) can in
    let b = both_true (leb l.number 655) (leb l.round 16) a.0 in
    (leb-true l.number 655 b.0, leb-true l.round 16 b.1, a.1)

module _ (l : Line) (ok : LineFits l) (can : Writable l) (s : List ℕ) where
  abbrev rest : List ℕ
  rest = rest_of_line (map real (six l.seed) ++ outcome_fields l.outcome) ++ s

  pub unchecked_line_read_back : unchecked_line (line_bytes l ++ s) ≡ Some l
  unchecked_line_read_back =
      let bounds = writable_bounds l can in
      let fs = outcome_fields l.outcome in
      let q = rest_of_line_cons_append (real l.seed.reference_k.fx) (drop 1 (map real (six l.seed)) ++ fs) s in
      let a : reals 6 rest ≡ six l.seed = reals_read_back fs s (six l.seed) ok.seed_fits in
      let b : drop 102 rest ≡ rest_of_line fs ++ s = drop_past_reals fs s (six l.seed) in
      let c : outcome_at (drop 102 rest) ≡ Some l.outcome = ap outcome_at b ∙ outcome_read_back l.outcome s ok.outcome_fits in
      ap unchecked_line (line_bytes_append l s) ∙ unchecked_line_of_head l.number l.round (omega arith) (omega arith) rest _ l.outcome q c ∙ rw a

-- ---- beginning with
begins_with_itself : (w s : List ℕ) → begins w (w ++ s) ≡ true
unfolding begins
begins_with_itself [] s = refl
begins_with_itself (c ∷ w) s = rw (eq-eqb c c refl) (begins_with_itself w s)

pub begins_is_append : (w s : List ℕ) → begins w s ≡ true → s ≡ w ++ drop (length w) s
unfolding begins
begins_is_append [] s h = refl
begins_is_append (c ∷ w) [] h = absurd (true≢false (sym h))
begins_is_append (c ∷ w) (d ∷ s) h =
    let p = both_true (eqb c d) (begins w s) h in
    rw (eqb-true c d p.0) (ap (λ (r : List ℕ). d ∷ r) (begins_is_append w s p.1))

-- ---- of the form: the bytes begin with a line that can be written
pub line_is_of_form : (l : Line) → LineFits l → Writable l → (s : List ℕ) → of_form (line_bytes l ++ s) l ≡ true
unfolding of_form
line_is_of_form l ok can s = rw (can, begins_with_itself (line_bytes l) s)

pub record Begins (s : List ℕ) (l : Line) : Type 0 where
  pub can_be_written : Writable l
  pub line_fits : LineFits l
  pub written_so : s ≡ line_bytes l ++ drop (length (line_bytes l)) s

reals_fits : (n : ℕ) (s : List ℕ) → All Fits (reals n s)
unfolding reals real_at
reals_fits zero s = tt
reals_fits (suc n) s = (of_bits-fits _ _, reals_fits n (drop 17 s))

skipped_fits : (k : Option SkipReason) (o : Recorded) → option_map Err k ≡ Some o → All Fits (recorded_numbers o)
skipped_fits None o h = cc
skipped_fits (Some r) o h = subst (λ (q : Recorded). All Fits (recorded_numbers q)) (same_Some (Err r) o h) tt

outcome_fits : (s : List ℕ) (o : Recorded) → outcome_at s ≡ Some o → All Fits (recorded_numbers o)
unfolding outcome_at reals
outcome_fits s o h =
    case (eqb (get_or s 1 0) 83)
    (λ e. subst (λ (q : Recorded). All Fits (recorded_numbers q)) (same_Some _ o (rw e at h)) (reals_fits 8 (drop 2 s)))
    (λ e. skipped_fits (reason_of (get_or s 1 0)) o (rw e at h))

pub unchecked_fits : (s : List ℕ) (l : Line) → unchecked_line s ≡ Some l → LineFits l
unfolding unchecked_line
unchecked_fits s l h = by_outcome (outcome_at (drop 102 (from_seed s))) refl h
  where
    by_outcome : (o : Option Recorded) → outcome_at (drop 102 (from_seed s)) ≡ o → option_map (line_with s) o ≡ Some l → LineFits l
    by_outcome None u e = cc
    by_outcome (Some o) u e = unfold reals in
        subst LineFits (same_Some (line_with s o) l e) (record { seed_fits = reals_fits 6 (from_seed s); outcome_fits = outcome_fits (drop 102 (from_seed s)) o u })

pub begins_if_of_form : (s : List ℕ) (l : Line) → unchecked_line s ≡ Some l → of_form s l ≡ true → Begins s l
unfolding of_form
begins_if_of_form s l u h =
    let p = both_true (writable l) (begins (line_bytes l) s) h in
    record { can_be_written = p.0; line_fits = unchecked_fits s l u; written_so = begins_is_append (line_bytes l) s p.1 }

-- ---- how long a line is
outcome_width_bounds : (o : Recorded) → (19 ≤ rest_width (outcome_fields o)) × (rest_width (outcome_fields o) ≤ 139)
unfolding outcome_fields rest_width
outcome_width_bounds (Ok r) = omega (arith, rest_width_of_reals (eight r) [])
outcome_width_bounds (Err r) = (omega arith, omega arith)

pub line_length : (l : Line) → length (line_bytes l) ≡ decimal_width l.number + (suc (decimal_width l.round) + (102 + rest_width (outcome_fields l.outcome)))
unfolding line_bytes rest_width
line_length l =
    let fs = map real (six l.seed) ++ outcome_fields l.outcome in
    omega (
      arith,
      length-append (decimal l.number) (rest_of_line (decimal l.round ∷ fs)),
      decimal_length l.number,
      decimal_length l.round,
      rest_of_line_length (decimal l.round ∷ fs),
      rest_width_of_reals (six l.seed) (outcome_fields l.outcome),
    )

round_width_le_two : (r : ℕ) → r ≤ 16 → decimal_width r ≤ 2
unfolding decimal_width
round_width_le_two r h = case (ltb r 10) (λ e. rw e (omega arith)) (λ e. rw (e, lt-ltb r 100 (omega arith)) (omega arith))

pub line_length_bounds : (l : Line) → Writable l → (124 ≤ length (line_bytes l)) × (length (line_bytes l) ≤ 247)
line_length_bounds l can =
    let b = writable_bounds l can in
    let d = decimal_width_fits l.number (omega arith) in
    let e = decimal_width_fits l.round (omega arith) in
    let f = round_width_le_two l.round b.1 in
    let g = outcome_width_bounds l.outcome in
    let h = line_length l in
    (omega arith, omega arith)

-- ---- each line has one reading
-- no line's bytes begin another's
pub line_injective : (l m : Line) → LineFits l → Writable l → LineFits m → Writable m → (s t : List ℕ) → line_bytes l ++ s ≡ line_bytes m ++ t → (l ≡ m) × (s ≡ t)
line_injective l m a b c d s t e =
    let p : l ≡ m = same_Some l m (sym (unchecked_line_read_back l a b s) ∙ ap unchecked_line e ∙ unchecked_line_read_back m c d t) in
    (p, sym (drop-append_seam (line_bytes l) s) ∙ ap₂ (λ (k : Line) (r : List ℕ). drop (length (line_bytes k)) r) p e ∙ drop-append_seam (line_bytes m) t)

pub written_line_is_read_at : (s : List ℕ) (at : ℕ) (l : Line) (rest : List ℕ) → LineFits l → Writable l → drop at s ≡ line_bytes l ++ rest → read_line s at ≡ Got l (at + length (line_bytes l))
unfolding read_line
written_line_is_read_at s at l rest ok can e =
    let k : at < length s = omega (arith, ap length e, length-drop at s, length-append (line_bytes l) rest, line_length_bounds l can) in
    rw (lt-ltb at (length s) k, e, unchecked_line_read_back l ok can rest, e, line_is_of_form l ok can rest)

pub written_line_is_read : (l : Line) → LineFits l → Writable l → (before rest : List ℕ)
    → read_line (before ++ (line_bytes l ++ rest)) (length before) ≡ Got l (length before + length (line_bytes l))
written_line_is_read l ok can before rest = written_line_is_read_at (before ++ (line_bytes l ++ rest)) (length before) l rest ok can (drop-append_seam before (line_bytes l ++ rest))

-- ---- each reading has one line
module _ (s : List ℕ) (at : ℕ) where
  line_at_if_of_form : (l : Line) → unchecked_line (drop at s) ≡ Some l → of_form (drop at s) l ≡ true → LineAt s at (at + length (line_bytes l)) l
  line_at_if_of_form l u h =
      let b = begins_if_of_form (drop at s) l u h in
      record { can_be_written = b.can_be_written; line_fits = b.line_fits; next_is = refl; bytes_are = b.written_so ∙ ap (λ (r : List ℕ). line_bytes l ++ r) (drop-drop (length (line_bytes l)) at s) }

  -- bytes that begin with a line would be that line, and of its form
  line_in_front_is_of_form : (l : Line) (rest : List ℕ) → LineFits l → Writable l → drop at s ≡ line_bytes l ++ rest → (unchecked_line (drop at s) ≡ Some l) × (of_form (drop at s) l ≡ true)
  line_in_front_is_of_form l rest ok can q = (ap unchecked_line q ∙ unchecked_line_read_back l ok can rest, ap (λ (t : List ℕ). of_form t l) q ∙ line_is_of_form l ok can rest)

  pub read_correct : Correct s at (read_line s at)
  unfolding read_line
  read_correct = case (ltb at (length s)) (λ e. by_line (unchecked_line (drop at s)) refl e) (λ e. rw e (ltb-false at (length s) e))
    where
      by_line : (o : Option Line) → unchecked_line (drop at s) ≡ o → ltb at (length s) ≡ true → Correct s at (read_line s at)
      by_line None u e = unfold read_line in
          rw (e, u) (refl, ltb-true at (length s) e, λ l rest ok can q. let p : ◌≡◌ {A = Option Line} None (Some l) = sym u ∙ (line_in_front_is_of_form l rest ok can q).0 in cc)
      by_line (Some l) u e = unfold read_line in
          case (of_form (drop at s) l)
          (λ f. rw (e, u, f) (line_at_if_of_form l u f))
          (λ f. rw (e, u, f) (
            refl,
            ltb-true at (length s) e,
            λ m rest ok can q.
                let p = line_in_front_is_of_form m rest ok can q in
                true≢false (sym p.1 ∙ ap (λ (k : Line). of_form (drop at s) k) (sym (same_Some l m (sym u ∙ p.0))) ∙ f),
          ))

  pub line_that_is_read_stands_there : (l : Line) (next : ℕ) → read_line s at ≡ Got l next → LineAt s at next l
  line_that_is_read_stands_there l next e = rw e at read_correct
