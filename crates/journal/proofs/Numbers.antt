-- A line has one newline, its last byte. So the number that NotALine carries is one more than the number of lines before it, and a line that
-- was cut off has no newline. Assumes nothing.
use Rattle.std.specs.Prelude.{Ok, Err, ℕ, zero, suc, ◌+◌, ◌/◌, ◌%◌, ◌<◌, ◌≡◌, refl, List, [], ◌∷◌, ◌++◌, map, ltb, Float, length, take, drop, replicate}
use Rattle.std.proofs.Common.{sym, ap, ◌∙◌, append_assoc, append-nil, arith, ne_eqb, length-append, take-append-drop, take-add, take_at}
use Rattle.std.proofs.lemmas.List.{take-append-le}
use Rattle.common.specs.Each.{All}
use Rattle.common.specs.All.{all_append}
use Rattle.common.specs.Tests.{case}
use Rattle.seeds.specs.Layout.{six}
use Rattle.float.specs.Float.{bits_of}
use Rattle.score.specs.declared.outcome.SkipReason.{SkipReason}
use Rattle.score.specs.declared.outcome.SkipReason.TheVariants.{HostFailed, BadCamera, NoMean, NoNumber}
use Rattle.journal.specs.Outcome.{Recorded}
use Rattle.journal.specs.declared.Line.{Line}
use Rattle.journal.specs.declared.Read.{Read}
use Rattle.journal.specs.declared.Read.TheVariants.{Got, End, NotALine}
use Rattle.journal.specs.Line.{digit_byte, digits, decimal, real, reason_letter, eight, outcome_fields, rest_of_line, line_bytes, journal_bytes}
use Rattle.journal.specs.Reading.{newlines, line_number_of, read_line, refused, Lines, goes_on, read_all, read_journal}
use Rattle.journal.specs.Steps.{comma_fields}
use Rattle.journal.proofs.FieldLaws.{rest_of_line_append}
use Rattle.journal.specs.Theorem.{LineAt, Correct}
use Rattle.journal.proofs.Unique.{read_correct}

-- ---- no newline in a field
pub newlines_append : (s t : List ℕ) → newlines (s ++ t) ≡ newlines s + newlines t
unfolding newlines
newlines_append [] t = omega arith
newlines_append (c ∷ s) t = omega (arith, newlines_append s t)

other_byte_no_newline : (c : ℕ) → (c ≡ 10 → ⊥) → newlines (c ∷ []) ≡ 0
unfolding newlines
other_byte_no_newline c h = simp (ne_eqb c 10 h)

digit_no_newline : (d : ℕ) → newlines (digit_byte d ∷ []) ≡ 0
unfolding digit_byte
digit_no_newline d = case (ltb d 10) (λ e. rw e (other_byte_no_newline (48 + d) (λ h. omega arith))) (λ e. rw e (other_byte_no_newline (87 + d) (λ h. omega arith)))

digits_no_newline : (base w n : ℕ) → newlines (digits base w n) ≡ 0
unfolding digits newlines
digits_no_newline base zero n = refl
digits_no_newline base (suc w) n = newlines_append (digits base w (n / base)) (digit_byte (n % base) ∷ []) ∙ rw (digits_no_newline base w (n / base), digit_no_newline (n % base))

abbrev pub NoNewline : List ℕ → Type 0
NoNewline f = newlines f ≡ 0

pub decimal_no_newline : (n : ℕ) → NoNewline (decimal n)
unfolding decimal
decimal_no_newline n = digits_no_newline 10 _ n

reals_no_newline : (xs : List Float) → All NoNewline (map real xs)
unfolding real
reals_no_newline [] = tt
reals_no_newline (x ∷ xs) = (digits_no_newline 16 16 (bits_of x), reals_no_newline xs)

reason_no_newline : (r : SkipReason) → NoNewline (reason_letter r ∷ [])
unfolding reason_letter newlines
reason_no_newline HostFailed = refl
reason_no_newline BadCamera = refl
reason_no_newline NoMean = refl
reason_no_newline NoNumber = refl

minuses_no_newline : (n : ℕ) → All NoNewline (replicate n (45 ∷ []))
unfolding newlines
minuses_no_newline zero = tt
minuses_no_newline (suc n) = (refl, minuses_no_newline n)

outcome_no_newline : (o : Recorded) → All NoNewline (outcome_fields o)
unfolding outcome_fields newlines
outcome_no_newline (Ok r) = (refl, reals_no_newline (eight r))
outcome_no_newline (Err r) = (reason_no_newline r, minuses_no_newline 8)

-- ---- the newline at the end, and no other
rest_of_line_ends_with_newline : (fs : List (List ℕ)) → rest_of_line fs ≡ comma_fields fs ++ (10 ∷ [])
unfolding rest_of_line
rest_of_line_ends_with_newline fs = ap rest_of_line (sym (append-nil fs)) ∙ rest_of_line_append fs []

comma_fields_no_newline : (fs : List (List ℕ)) → All NoNewline fs → NoNewline (comma_fields fs)
unfolding comma_fields newlines
comma_fields_no_newline [] h = refl
comma_fields_no_newline (f ∷ fs) h = omega (arith, newlines_append f (comma_fields fs), h.0, comma_fields_no_newline fs h.1)

-- fields, of which the first has no comma before it
module _ (f : List ℕ) (fs : List (List ℕ)) where
  pub fields_end_with_newline : f ++ rest_of_line fs ≡ (f ++ comma_fields fs) ++ (10 ∷ [])
  fields_end_with_newline = ap (λ (r : List ℕ). f ++ r) (rest_of_line_ends_with_newline fs) ∙ sym (append_assoc f (comma_fields fs) (10 ∷ []))

  pub fields_no_newline : NoNewline f → All NoNewline fs → NoNewline (f ++ comma_fields fs)
  fields_no_newline h a = newlines_append f (comma_fields fs) ∙ rw (h, comma_fields_no_newline fs a)

-- a line without its last byte
unfoldable pub line_front : Line → List ℕ
line_front l = decimal l.number ++ comma_fields (decimal l.round ∷ map real (six l.seed) ++ outcome_fields l.outcome)

pub line_ends_with_newline : (l : Line) → line_bytes l ≡ line_front l ++ (10 ∷ [])
unfolding line_bytes line_front
line_ends_with_newline l = fields_end_with_newline (decimal l.number) (decimal l.round ∷ map real (six l.seed) ++ outcome_fields l.outcome)

pub line_front_no_newline : (l : Line) → newlines (line_front l) ≡ 0
unfolding line_front
line_front_no_newline l =
    let fs = decimal l.round ∷ map real (six l.seed) ++ outcome_fields l.outcome in
    let a : All NoNewline fs = (decimal_no_newline l.round, all_append NoNewline (map real (six l.seed)) (outcome_fields l.outcome) (reals_no_newline (six l.seed)) (outcome_no_newline l.outcome)) in
    fields_no_newline (decimal l.number) fs (decimal_no_newline l.number) a

pub line_has_one_newline : (l : Line) → newlines (line_bytes l) ≡ 1
unfolding newlines
line_has_one_newline l = ap newlines (line_ends_with_newline l) ∙ newlines_append (line_front l) (10 ∷ []) ∙ rw (line_front_no_newline l)

-- a line that was cut off after k bytes has no newline
take_no_newline : (k : ℕ) (s : List ℕ) → NoNewline s → NoNewline (take k s)
take_no_newline k s h = omega (arith, newlines_append (take k s) (drop k s), ap newlines (take-append-drop k s))

pub cut_line_no_newline : (l : Line) (k : ℕ) → k < length (line_bytes l) → newlines (take k (line_bytes l)) ≡ 0
cut_line_no_newline l k h =
    let a = length-append (line_front l) (10 ∷ []) in
    let b = ap length (line_ends_with_newline l) in
    ap (λ (s : List ℕ). newlines (take k s)) (line_ends_with_newline l) ∙ ap newlines (take-append-le k (line_front l) (10 ∷ []) (omega arith)) ∙ take_no_newline k (line_front l) (line_front_no_newline l)

-- ---- the number of a line
-- behind a journal's lines stands the line whose number is one more than theirs
journal_newlines_eq_lines : (ls : List Line) → newlines (journal_bytes ls) ≡ length ls
unfolding journal_bytes newlines
journal_newlines_eq_lines [] = refl
journal_newlines_eq_lines (l ∷ ls) = omega (arith, newlines_append (line_bytes l) (journal_bytes ls), line_has_one_newline l, journal_newlines_eq_lines ls)

pub line_number_behind_lines : (ls : List Line) (rest : List ℕ) → line_number_of (journal_bytes ls ++ rest) (length (journal_bytes ls)) ≡ suc (length ls)
line_number_behind_lines ls rest = omega (arith, ap newlines (take_at (journal_bytes ls) rest (length (journal_bytes ls)) refl), journal_newlines_eq_lines ls)

pub next_number : (s : List ℕ) (at next : ℕ) (l : Line) → LineAt s at next l → line_number_of s next ≡ line_number_of s at + 1
next_number s at next l h =
    let n = length (line_bytes l) in
    let a : take n (drop at s) ≡ line_bytes l = ap (take n) h.bytes_are ∙ take_at (line_bytes l) (drop next s) n refl in
    let b : take next s ≡ take at s ++ line_bytes l = ap (λ (k : ℕ). take k s) h.next_is ∙ take-add at n s ∙ ap (λ (t : List ℕ). take at s ++ t) a in
    omega (arith, ap newlines b, newlines_append (take at s) (line_bytes l), line_has_one_newline l)

-- the number that NotALine carries: one for each line that was read, on from the first one's
abbrev Numbered : List ℕ → ℕ → Lines → Type 0
Numbered s at r = (k : ℕ) → r.ending ≡ refused k → k ≡ line_number_of s at + length r.lines

read_numbered : (n : ℕ) (s : List ℕ) (at : ℕ) → Numbered s at (read_all n s at)
unfolding read_all goes_on
read_numbered zero s at = λ k h. let z : ◌≡◌ {A = ℕ} 0 1 = cc in absurd (omega arith)
read_numbered (suc n) s at = one (read_line s at) (read_correct s at) (read_numbered n s)
  where
    one : (r : Read) → Correct s at r → ((next : ℕ) → Numbered s next (read_all n s next)) → Numbered s at (goes_on (read_all n s) r)
    one End t ih = λ k h. let z : ◌≡◌ {A = ℕ} 0 1 = cc in absurd (omega arith)
    one (NotALine m) t ih = λ k h. let z : m ≡ k = cc in omega (arith, t.0)
    one (Got l next) t ih = λ k h. omega (arith, ih next k h, next_number s at next l t)

pub whole_numbered : (s : List ℕ) (k : ℕ) → (read_journal s).ending ≡ refused k → k ≡ suc (length (read_journal s).lines)
unfolding newlines
whole_numbered s k h = omega (arith, read_numbered (suc (length s)) s 0 k h)
