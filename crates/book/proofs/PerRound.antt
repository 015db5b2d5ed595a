-- A later round hands out at most as many seeds as its list has. Assumes nothing.
use Rattle.std.proofs.Common.{ℕ, suc, ◌≤◌, ◌<◌, arith, ◌≡◌, refl, List, [], ◌∷◌, ◌++◌, map, append-nil, eqb-true, ne_eqb, eqb, length}
use mathlib.Core.List.{map-append}
use borrow.Author.Tests.{eqb-false}
use lib.ListN.{length-map}
use Rattle.common.specs.Tests.{case}
use Rattle.common.specs.All.{all_map}
use Rattle.common.specs.Each.{All}
use Rattle.seeds.specs.declared.CandidateSeed.{CandidateSeed}
use Rattle.seeds.specs.Merge.{keep}
use Rattle.seeds.proofs.MergeLaws.{keep_append, keep_length}
use Rattle.seeds.specs.AnyOffsets.{most_seeds}
use Rattle.book.specs.Book.{Entry, Book, with_round}
use Rattle.book.specs.Trace.{Handing, handed_in_round, handing_of}
use Rattle.book.proofs.Planned.{Planned}

-- a property of handed-out seeds, from the same of their entries
pub all_of_handed_entries : (P : Handing → Type 0) (es : List Entry) → All (λ e. P (handing_of e)) es → All P (map handing_of es)
all_of_handed_entries P [] h = tt
all_of_handed_entries P (e ∷ es) h = (h.0, all_of_handed_entries P es h.1)

-- ---- a round's handings
handed_in_round_none : (k : ℕ) (hs : List Handing) → All (λ h. h.round ≡ k → ⊥) hs → handed_in_round k hs ≡ []
unfolding handed_in_round keep
handed_in_round_none k [] a = refl
handed_in_round_none k (h ∷ hs) a = rw (ne_eqb h.round k a.0) (handed_in_round_none k hs a.1)

handed_in_round_append : (k : ℕ) (xs ys : List Handing) → handed_in_round k (xs ++ ys) ≡ handed_in_round k xs ++ handed_in_round k ys
unfolding handed_in_round
handed_in_round_append k xs ys = keep_append (λ (h : Handing). eqb h.round k) xs ys

handed_in_round_length_le : (k : ℕ) (hs : List Handing) → length (handed_in_round k hs) ≤ length hs
unfolding handed_in_round
handed_in_round_length_le k hs = keep_length (λ (h : Handing). eqb h.round k) hs

-- xs were handed out in rounds before round n, ys in round n
few_in_round_of_both : (k n most : ℕ) (xs ys : List Handing) → All (λ h. h.round < n) xs → All (λ h. h.round ≡ n) ys
    → length (handed_in_round k xs) ≤ most → (n ≡ k → length ys ≤ most) → length (handed_in_round k (xs ++ ys)) ≤ most
few_in_round_of_both k n most xs ys past this few own =
    case (eqb n k)
    (λ t.
    let e = eqb-true n k t in
    let none = handed_in_round_none k xs (all_map (λ h. h.round < n) (λ h. h.round ≡ k → ⊥) (λ h p q. omega arith) xs past) in
    let l = handed_in_round_length_le k ys in
    let m = own e in
    rw (handed_in_round_append k xs ys, none) (omega arith))
    (λ t.
    let f = eqb-false n k t in
    let none = handed_in_round_none k ys (all_map (λ h. h.round ≡ n) (λ h. h.round ≡ k → ⊥) (λ h p q. f (omega arith)) ys this) in
    rw (handed_in_round_append k xs ys, none, append-nil) few)

-- ---- of a book: this round's list, and the rounds before
pub record FewPerRound (b : Book) : Type 0 where
  pub listed : 0 < b.round → length b.list ≤ most_seeds b.inputs.one_axis
  pub before : (k : ℕ) → length (handed_in_round (suc k) (map handing_of b.earlier)) ≤ most_seeds b.inputs.one_axis

-- ws are the seeds that this round handed out, at most as many as its list has
pub few_handed_in_later_rounds : (b : Book) (ws : List Handing) → FewPerRound b → Planned b → All (λ h. h.round ≡ b.round) ws → length ws ≤ length b.list
    → (k : ℕ) → length (handed_in_round (suc k) (map handing_of b.earlier ++ ws)) ≤ most_seeds b.inputs.one_axis
few_handed_in_later_rounds b ws h p this most k =
    few_in_round_of_both (suc k) b.round (most_seeds b.inputs.one_axis) (map handing_of b.earlier) ws
    (all_of_handed_entries (λ h. h.round < b.round) b.earlier p.past) this (h.before k)
    (λ e. let l = h.listed (omega arith) in omega arith)

pub few_per_round_of_next_round : (b : Book) (ss : List CandidateSeed) → FewPerRound b → Planned b → length b.answered ≡ length b.list → length ss ≤ most_seeds b.inputs.one_axis
    → FewPerRound (with_round b ss)
unfolding with_round
few_per_round_of_next_round b ss h p full few = record {
  listed = λ r. few;
  before = λ k.
      rw (map-append handing_of b.earlier b.answered)
      (few_handed_in_later_rounds b (map handing_of b.answered) h p (all_of_handed_entries (λ h. h.round ≡ b.round) b.answered p.this) (let e = length-map b.answered handing_of in omega arith) k);
}
