-- Any bytes are whole lines and a rest that doesn't begin with a line, in one way alone: the reader gives these lines
-- and stops at the rest. So a journal that was cut off anywhere has lost only the line that was cut. Assumes nothing.
use Prim.Native.Nat.{ℕ, zero, suc, ◌+◌, ◌-◌, ◌≤◌}
use Rattle.std.specs.Prelude.{◌≡◌, refl, ltb, drop}
use Rattle.std.proofs.Math.Path.{sym, ap}
use Rattle.std.proofs.Common.{ap₂, ◌∙◌, ltb-true, ltb-false, length-append, length-drop, drop_of_length-le}
use mathlib.Core.List.{List, [], ◌∷◌, ◌++◌, append_assoc, append-nil}
use native.Mathlib.Omega.{arith}
use Rattle.std.proofs.Math.ListN.{length, take}
use Rattle.std.proofs.lemmas.List.{take-append-le}
use Rattle.std.proofs.Math.Seq.{take-append-add}
use Rattle.common.specs.Each.{All}
use Rattle.common.specs.Tests.{case}
use Rattle.journal.specs.declared.Line.{Line}
use Rattle.journal.specs.declared.Read.{Read}
use Rattle.journal.specs.declared.Read.TheVariants.{Got, End, NotALine}
use Rattle.journal.specs.Line.{line_bytes, LineFits, Writable, journal_bytes}
use Rattle.journal.specs.Reading.{newlines, read_line, Ending, ended, refused, unread, Lines, goes_on, read_all, read_journal}
use Rattle.journal.specs.Theorem.{Correct}
use Rattle.journal.proofs.Unique.{read_correct, line_length_bounds, line_injective}
use Rattle.journal.proofs.Numbers.{newlines_append, line_has_one_newline, cut_line_no_newline}
use Rattle.journal.proofs.Whole.{whole_stops}
use Rattle.journal.specs.Theorem.{NoLine}

-- what was read of s, and the rest
pub record Front (s : List ℕ) (r : Lines) : Type 0 where
  pub lines_fit : All LineFits r.lines
  pub can_be_written : All Writable r.lines
  pub rest : List ℕ
  pub bytes_are : s ≡ journal_bytes r.lines ++ rest
  pub none_there : (r.ending ≡ unread → ⊥) → NoLine rest
  pub at_end : r.ending ≡ ended → rest ≡ []
  pub before_end : (k : ℕ) → r.ending ≡ refused k → rest ≡ [] → ⊥

no_line_in_empty : NoLine []
no_line_in_empty l rest ok can e = let b = line_length_bounds l can in omega (arith, ap length e, length-append (line_bytes l) rest)

read_all_front : (n : ℕ) (s : List ℕ) (at : ℕ) → Front (drop at s) (read_all n s at)
unfolding read_all goes_on journal_bytes
read_all_front zero s at = record {
  lines_fit = tt;
  can_be_written = tt;
  rest = drop at s;
  bytes_are = refl;
  none_there = λ h. absurd (h refl);
  at_end = λ h. let z : ◌≡◌ {A = ℕ} 0 1 = cc in absurd (omega arith);
  before_end = λ k h e. let z : ◌≡◌ {A = ℕ} 0 1 = cc in omega arith;
}
read_all_front (suc n) s at = one (read_line s at) (read_correct s at) (read_all_front n s)
  where
    one : (r : Read) → Correct s at r → ((next : ℕ) → Front (drop next s) (read_all n s next)) → Front (drop at s) (goes_on (read_all n s) r)
    one End t ih = record {
      lines_fit = tt;
      can_be_written = tt;
      rest = [];
      bytes_are = drop_of_length-le s t;
      none_there = λ h. no_line_in_empty;
      at_end = λ h. refl;
      before_end = λ k h e. let z : ◌≡◌ {A = ℕ} 0 1 = cc in omega arith;
    }
    one (NotALine m) t ih = record {
      lines_fit = tt;
      can_be_written = tt;
      rest = drop at s;
      bytes_are = refl;
      none_there = λ h. t.2;
      at_end = λ h. let z : ◌≡◌ {A = ℕ} 0 1 = cc in absurd (omega arith);
      before_end = λ j h e. let q = t.1 in omega (arith, ap length e, length-drop at s);
    }
    one (Got l next) t ih =
        let w = ih next in
        record {
          lines_fit = (t.line_fits, w.lines_fit);
          can_be_written = (t.can_be_written, w.can_be_written);
          rest = w.rest;
          bytes_are = t.bytes_are ∙ ap (λ (r : List ℕ). line_bytes l ++ r) w.bytes_are ∙ sym (append_assoc (line_bytes l) (journal_bytes (read_all n s next).lines) w.rest);
          none_there = w.none_there;
          at_end = w.at_end;
          before_end = w.before_end;
        }

-- ---- of any bytes
pub whole_front : (s : List ℕ) → Front s (read_journal s)
whole_front s = read_all_front (suc (length s)) s 0

pub whole_rest_has_no_line : (s : List ℕ) → NoLine (whole_front s).rest
whole_rest_has_no_line s = (whole_front s).none_there (whole_stops s)

-- ---- in one way alone: lines that stand in front are those that are read first
pub record Further (ls ms : List Line) (r q : List ℕ) : Type 0 where
  pub more : List Line
  pub lines_are : ms ≡ ls ++ more
  pub rest_is : r ≡ journal_bytes more ++ q

fronts_agree : (ls ms : List Line) (r q : List ℕ) → All LineFits ls → All Writable ls → All LineFits ms → All Writable ms → NoLine q
    → journal_bytes ls ++ r ≡ journal_bytes ms ++ q → Further ls ms r q
unfolding journal_bytes
fronts_agree [] ms r q f c g d n e = record { more = ms; lines_are = refl; rest_is = e }
fronts_agree (l ∷ ls) [] r q f c g d n e = absurd (n l (journal_bytes ls ++ r) f.0 c.0 (sym e ∙ append_assoc (line_bytes l) (journal_bytes ls) r))
fronts_agree (l ∷ ls) (m ∷ ms) r q f c g d n e =
    let p : line_bytes l ++ (journal_bytes ls ++ r) ≡ line_bytes m ++ (journal_bytes ms ++ q) = sym (append_assoc (line_bytes l) (journal_bytes ls) r) ∙ e ∙ append_assoc (line_bytes m) (journal_bytes ms) q in
    let h = line_injective l m f.0 c.0 g.0 d.0 (journal_bytes ls ++ r) (journal_bytes ms ++ q) p in
    let t = fronts_agree ls ms r q f.1 c.1 g.1 d.1 n h.1 in
    record { more = t.more; lines_are = ap₂ (λ (k : Line) (ks : List Line). k ∷ ks) (sym h.0) t.lines_are; rest_is = t.rest_is }

module _ (ls : List Line) (rest : List ℕ) (ok : All LineFits ls) (can : All Writable ls) where
  -- whatever stands behind them
  pub front_read_first : Further ls (read_journal (journal_bytes ls ++ rest)).lines rest (whole_front (journal_bytes ls ++ rest)).rest
  front_read_first =
      let w = whole_front (journal_bytes ls ++ rest) in
      fronts_agree ls (read_journal (journal_bytes ls ++ rest)).lines rest w.rest ok can w.lines_fit w.can_be_written (whole_rest_has_no_line (journal_bytes ls ++ rest)) w.bytes_are

  -- where no line begins there
  module _ (none : NoLine rest) where
    front_and_rest_are_the_only_ones : ((read_journal (journal_bytes ls ++ rest)).lines ≡ ls) × ((whole_front (journal_bytes ls ++ rest)).rest ≡ rest)
    front_and_rest_are_the_only_ones = none_more front_read_first.more front_read_first.lines_are front_read_first.rest_is
      where
        all_fit : (ms : List Line) → (read_journal (journal_bytes ls ++ rest)).lines ≡ ls ++ ms → All LineFits (ls ++ ms) × All Writable (ls ++ ms)
        all_fit ms e = let w = whole_front (journal_bytes ls ++ rest) in (rw e at w.lines_fit, rw e at w.can_be_written)

        behind : (ks ms : List Line) → All LineFits (ks ++ ms) × All Writable (ks ++ ms) → All LineFits ms × All Writable ms
        behind [] ms h = h
        behind (k ∷ ks) ms h = behind ks ms (h.0.1, h.1.1)

        none_more : (ms : List Line) → (read_journal (journal_bytes ls ++ rest)).lines ≡ ls ++ ms → rest ≡ journal_bytes ms ++ (whole_front (journal_bytes ls ++ rest)).rest
            → ((read_journal (journal_bytes ls ++ rest)).lines ≡ ls) × ((whole_front (journal_bytes ls ++ rest)).rest ≡ rest)
        none_more [] e q = unfold journal_bytes in (e ∙ append-nil ls, sym q)
        none_more (m ∷ ms) e q = unfold journal_bytes in
            let h = behind ls (m ∷ ms) (all_fit (m ∷ ms) e) in
            absurd (none m (journal_bytes ms ++ (whole_front (journal_bytes ls ++ rest)).rest) h.0.0 h.1.0 (q ∙ append_assoc (line_bytes m) (journal_bytes ms) (whole_front (journal_bytes ls ++ rest)).rest))

    pub front_lines_read_back : (read_journal (journal_bytes ls ++ rest)).lines ≡ ls
    front_lines_read_back = front_and_rest_are_the_only_ones.0

    pub front_ended : rest ≡ [] → (read_journal (journal_bytes ls ++ rest)).ending ≡ ended
    front_ended e = by_ending (read_journal (journal_bytes ls ++ rest)).ending refl
      where
        by_ending : (x : Ending) → (read_journal (journal_bytes ls ++ rest)).ending ≡ x → x ≡ ended
        by_ending ended h = refl
        by_ending (refused k) h = absurd ((whole_front (journal_bytes ls ++ rest)).before_end k h (front_and_rest_are_the_only_ones.1 ∙ e))
        by_ending unread h = absurd (whole_stops (journal_bytes ls ++ rest) h)

-- ---- a journal that was cut off
-- bytes without a newline are no line
pub no_newline_no_line : (s : List ℕ) → newlines s ≡ 0 → NoLine s
no_newline_no_line s h l rest ok can e = omega (arith, ap newlines e, newlines_append (line_bytes l) rest, line_has_one_newline l)

-- after `at` bytes: whole lines, and a part of the next one, without its newline
pub record Cut (ls : List Line) (at : ℕ) : Type 0 where
  pub whole : ℕ
  pub part : List ℕ
  pub no_more : whole ≤ length ls
  pub cut_is : take at (journal_bytes ls) ≡ journal_bytes (take whole ls) ++ part
  pub no_newline : newlines part ≡ 0

pub cut_journal_is_lines_and_part : (ls : List Line) (at : ℕ) → Cut ls at
unfolding journal_bytes newlines
cut_journal_is_lines_and_part [] zero = record { whole = 0; part = []; no_more = omega arith; cut_is = refl; no_newline = refl }
cut_journal_is_lines_and_part [] (suc at) = record { whole = 0; part = []; no_more = omega arith; cut_is = refl; no_newline = refl }
cut_journal_is_lines_and_part (l ∷ ls) at =
    case (ltb at (length (line_bytes l)))
    (λ e.
    let h = ltb-true at (length (line_bytes l)) e in
    record { whole = 0; part = take at (line_bytes l); no_more = omega arith; cut_is = take-append-le at (line_bytes l) (journal_bytes ls) (omega arith); no_newline = cut_line_no_newline l at h })
    (λ e. more l ls at (ltb-false at (length (line_bytes l)) e) (cut_journal_is_lines_and_part ls (at - length (line_bytes l))))
  where
    more : (l : Line) (ls : List Line) (at : ℕ) → length (line_bytes l) ≤ at → Cut ls (at - length (line_bytes l)) → Cut (l ∷ ls) at
    more l ls at h c = unfold journal_bytes in
        let k : length (line_bytes l) + (at - length (line_bytes l)) ≡ at = omega arith in
        record {
          whole = suc c.whole;
          part = c.part;
          no_more = let m = c.no_more in omega arith;
          cut_is = ap (λ (n : ℕ). take n (line_bytes l ++ journal_bytes ls)) (sym k) ∙ take-append-add (line_bytes l) (journal_bytes ls) (at - length (line_bytes l))
              ∙ ap (λ (r : List ℕ). line_bytes l ++ r) c.cut_is ∙ sym (append_assoc (line_bytes l) (journal_bytes (take c.whole ls)) c.part);
          no_newline = c.no_newline;
        }

-- ---- journals, one behind the other
pub journal_bytes_append : (ls ms : List Line) → journal_bytes (ls ++ ms) ≡ journal_bytes ls ++ journal_bytes ms
unfolding journal_bytes
journal_bytes_append [] ms = refl
journal_bytes_append (l ∷ ls) ms = ap (λ (z : List ℕ). line_bytes l ++ z) (journal_bytes_append ls ms) ∙ sym (append_assoc (line_bytes l) (journal_bytes ls) (journal_bytes ms))
