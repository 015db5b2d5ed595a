-- How many seeds a later round's list has, and that in a one-axis run its tilts about y are zeros. Assumes nothing.
use Rattle.std.proofs.Common.{ℕ, ◌<◌, arith, ◌≡◌, ap, subst, ◌∙◌, true, false, List, ◌++◌, length, Float}
use Rattle.std.specs.Float.Ieee.{lt, le, eq}
use Rattle.common.specs.All.{all_map}
use Rattle.common.specs.Each.{All}
use Rattle.float.specs.Literals.{plus_zero, half₆₄}
use Rattle.seeds.specs.declared.CandidateSeed.{CandidateSeed}
use Rattle.seeds.specs.Rules.{untilted_y}
use Rattle.seeds.specs.Layout.{flat}
use Rattle.score.specs.Floor.{seeds_between}
use Rattle.score.specs.declared.best.Candidate.{Candidate}
use Rattle.seeds.specs.Admissible.{seed_count, least_step, most_step}
use Rattle.seeds.proofs.Exact.{round_length}
use Rattle.book.specs.Book.{Inputs, demand, Book, entries, step_of, offsets_x, offsets_y, list_around}
use Rattle.book.specs.Rounds.{LaterRound}
use Rattle.book.proofs.Made.{later_list_around_centre}
use Rattle.book.proofs.Lists.{Front, seeds_between_of_front}
use Rattle.book.proofs.Seeds.{Seeded}
use Rattle.book.proofs.Good.{Core, Good}
use Rattle.book.proofs.RunOf.{State}

-- ---- the list around a candidate
list_around_length : (i : Inputs) (r : ℕ) (w : Candidate) → lt half₆₄ i.max ≡ false → le least_step (step_of r i.step) ≡ true → le (step_of r i.step) most_step ≡ true
    → length (list_around i r w) ≡ seed_count (offsets_x i r) (offsets_y i r) w.sensor i.max
unfolding list_around
list_around_length i r w h l u = round_length i.one_axis (step_of r i.step) w.sensor w.camera.k i.max h l u

-- ---- the book's list, which stands in front of the lent list
book_later_round : (b : Book) (l : List Float) → Core b → Front (demand b.inputs) b.list l → 0 < b.round → LaterRound b.inputs (entries b) b.round (length b.list) l
book_later_round b l h f p =
    let a = later_list_around_centre b h.planned h.made p in
    record {
      centre = a.centre;
      is_best = a.is_best;
      total_is = ap length a.list_is;
      behind = f.tail;
      list_is = f.list_is ∙ ap (λ (ss : List CandidateSeed). flat ss ++ f.tail) a.list_is;
      exactly = λ s u. ap length a.list_is ∙ list_around_length b.inputs b.round a.centre h.sized.small_bound s u;
    }

pub later_round : (i : Inputs) (b : Book) (l : List Float) → State i b l → 0 < b.round → LaterRound i (entries b) b.round (length b.list) l
later_round i b l s p = subst (λ (j : Inputs). LaterRound j (entries b) b.round (length b.list) l) s.good.inputs_are (book_later_round b l s.good.core s.there p)

-- ---- in a one-axis run the tilts about y in the lent list are zeros
abbrev Untilted : CandidateSeed → Type 0
Untilted s = eq s.sensor.tilt_y plus_zero ≡ true

book_list_untilted : (i : Inputs) (b : Book) → Good i b → i.one_axis ≡ true → All Untilted b.list
book_list_untilted i b g one =
    all_map (Seeded i b.round) Untilted (λ s h. unfold untilted_y in h.untilted one) b.list
    (subst (λ (j : Inputs). All (Seeded j b.round) b.list) g.inputs_are g.core.seeds)

pub listed_untilted : (i : Inputs) (b : Book) (l : List Float) → State i b l → i.one_axis ≡ true → All Untilted (seeds_between l 0 (length b.list))
listed_untilted i b l s one = rw (seeds_between_of_front b.list l 0 s.there (omega arith)) (book_list_untilted i b s.good one)
