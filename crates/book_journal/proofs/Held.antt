-- All numbers in a run's book are those of binary64, its seeds' and its outcomes', where those of Start's inputs and of
-- the host's findings are. Assumes nothing.
use Rattle.std.proofs.Common.{ℕ, zero, suc, ◌-◌, ◌/◌, arith, ◌≡◌, refl, ap, subst, ⊎_elim, false, not, ◌&&◌, cond, List, [], ◌∷◌, ◌++◌, append-nil, ltb, eqb, pos, length, get_or, drop, Float, Ok, Err}
use Rattle.std.specs.Float.{nan, binary64}
use Rattle.std.specs.Float.Ieee.{of_bits, lt, neg, of_int}
use mathlib.Core.List.Memᴰ
use mathlib.Core.List.{Memᴰ}
use lib.Ieee.Bits.{of_bits-fits}
use lib.Ieee.Fits.{add-fits, div-fits, neg-fits, nan-fits, cond-fits}
use Rattle.common.specs.Tests.{case}
use Rattle.common.specs.All.{all_append, all_left, all_right}
use Rattle.common.specs.Each.{All}
use Rattle.float.specs.Binary64.{◌+₆₄◌, ◌/₆₄◌}
use Rattle.float.specs.Float.{clamp_of}
use Rattle.float.specs.Literals.{infinity}
use Rattle.camera.specs.declared.math.Pt2.{Pt2}
use Rattle.camera.specs.declared.intrinsics.FxFyCxCy.{FxFyCxCy}
use Rattle.camera.specs.declared.sensor.ScheimpflugParams.{ScheimpflugParams}
use Rattle.seeds.specs.declared.CandidateSeed.{CandidateSeed}
use Rattle.seeds.specs.Rules.{tilts, seed_with}
use Rattle.seeds.specs.Layout.{read_from, six, seed_at, all_seeds}
use Rattle.seeds.proofs.Facts.{initial_list_all, next_list_all}
use Rattle.score.specs.declared.pinhole.PinholeCamera.{PinholeCamera}
use Rattle.score.specs.Camera.{tangential_bound, damped, damped_camera}
use Rattle.score.specs.declared.errors.ErrorSum.{ErrorSum}
use Rattle.score.specs.Rows.{mean_of}
use Rattle.score.specs.declared.outcome.SolvedCamera.{SolvedCamera}
use Rattle.score.specs.declared.outcome.Finding.{Finding}
use Rattle.score.specs.declared.outcome.Finding.TheVariants.{Failed, Solved}
use Rattle.score.specs.declared.outcome.Scoring.{Scoring}
use Rattle.score.specs.Reasons.{Outcome}
use Rattle.score.specs.Evaluation.{solved_at, mean_with, scoring_of, evaluated, outcome_of, finding_refusal}
use Rattle.score.proofs.Outcomes.{scored_passed_tests}
use Rattle.score.specs.declared.best.Candidate.{Candidate}
use Rattle.score.specs.Best.{Chosen, nothing, chosen, best_of}
use Rattle.score.proofs.Order.{chosen_is_best}
use Rattle.journal.specs.declared.Line.{Line}
use Rattle.journal.specs.Line.{Fits, recorded_numbers, LineFits}
use Rattle.journal.specs.Outcome.{recorded_as, outcome_in}
use Rattle.book.specs.Calls.{Call, next, seed, answer, ask, progress, stop, last, counts}
use Rattle.book.specs.Book.{Inputs, demand, Entry, Book, entries, no_seed, current, scored_of, round_best_of, run_best_of, or_else, first_list, list_around, opened, with_waiting, with_entry, with_round, with_end, book_enter, BookLeft, book_call, after}
use Rattle.book.proofs.Cases.{case_result}
use Rattle.book.proofs.Moves.{entry, Closing, close_round_by, enter_by_round_end, entered_by, Moves, stays, hands, enters, call_moves}
use Rattle.book.proofs.Good.{Good, get_or_of_all}
use Rattle.book_journal.specs.Replay.{walked}
use Rattle.book_journal.specs.History.{Opening, fresh, from, opened_by, History, book_at, AllFit, four, InputsFit, FindingFits, CallFits}
use Rattle.book_journal.proofs.Standing.{score_of_fits, recorded_comes_back}
use Rattle.book_journal.proofs.Walk.{walked_keeps}

-- ---- numbers in lists
get_or_fits : (xs : List Float) (k : ℕ) (d : Float) → AllFit xs → Fits d → Fits (get_or xs k d)
get_or_fits [] k d h e = e
get_or_fits (x ∷ xs) zero d h e = h.0
get_or_fits (x ∷ xs) (suc k) d h e = get_or_fits xs k d h.1 e

drop_fits : (n : ℕ) (xs : List Float) → AllFit xs → AllFit (drop n xs)
drop_fits zero xs h = h
drop_fits (suc n) [] h = tt
drop_fits (suc n) (x ∷ xs) h = drop_fits n xs h.1

mem_fits : (xs : List Float) (x : Float) → AllFit xs → Memᴰ x xs → Fits x
mem_fits [] x h m = absurd (Memᴰ.not-nil m)
mem_fits (y ∷ xs) x h m = ⊎_elim (λ e. rw e h.0) (λ t. mem_fits xs x h.1 t) (Memᴰ.cases_cons m)

-- ---- a seed's six numbers
abbrev pub SeedFits : CandidateSeed → Type 0
SeedFits s = AllFit (six s)

read_seeds_fit : (n : ℕ) (l : List Float) → AllFit l → All SeedFits (read_from (λ m. seed_at m 0) 6 n l)
unfolding read_from
read_seeds_fit zero l h = tt
read_seeds_fit (suc n) l h =
    let f : (k : ℕ) → Fits (get_or l k nan) = λ k. get_or_fits l k nan h (nan-fits binary64) in
    ((f 0, (f 1, (f 2, (f 3, (f 4, (f 5, tt)))))), read_seeds_fit n (drop 6 l) (drop_fits 6 l h))

seed_with_fits : (k : FxFyCxCy) (x y : Float) → AllFit (four k) → Fits x → Fits y → SeedFits (seed_with k (tilts x y))
seed_with_fits k x y h f g = (h.0, (h.1.0, (h.1.1.0, (h.1.1.1.0, (f, (g, tt))))))

-- ---- round 0's list
first_list_fits : (i : Inputs) → InputsFit i → All SeedFits (first_list i)
unfolding first_list
first_list_fits i all =
    let before = all_left Fits (four i.base ++ i.xs ++ i.ys) i.decomposition all in
    let typed = all_left Fits (four i.base ++ i.xs) i.ys before in
    initial_list_all SeedFits (all_seeds i.decomposition) i.xs i.ys i.base i.max
    (read_seeds_fit (length i.decomposition / 6) i.decomposition (all_right Fits (four i.base ++ i.xs ++ i.ys) i.decomposition all))
    (λ x y m n b.
    seed_with_fits i.base x y (all_left Fits (four i.base) i.xs typed)
    (mem_fits i.xs x (all_right Fits (four i.base) i.xs typed) m)
    (mem_fits i.ys y (all_right Fits (four i.base ++ i.xs) i.ys before) n))

-- ---- a later round's list
list_around_fits : (i : Inputs) (r : ℕ) (w : Candidate) → AllFit (four w.camera.k) → All SeedFits (list_around i r w)
unfolding list_around
list_around_fits i r w h =
    next_list_all SeedFits _ _ w.sensor w.camera.k i.max
    (λ dx dy m n b. seed_with_fits w.camera.k (w.sensor.tilt_x +₆₄ dx) (w.sensor.tilt_y +₆₄ dy) h (add-fits binary64 w.sensor.tilt_x dx) (add-fits binary64 w.sensor.tilt_y dy))

-- ---- the numbers of an outcome, as its line has them
abbrev pub OutcomeFits : Outcome → Type 0
OutcomeFits o = AllFit (recorded_numbers (recorded_as o))

tangential_bound_fits : Fits tangential_bound
tangential_bound_fits = of_bits-fits binary64 0x3fa9_9999_9999_999a

clamp_fits : (x : Float) → Fits x → Fits (clamp_of x (neg tangential_bound) tangential_bound)
unfolding clamp_of
clamp_fits x h =
    cond-fits binary64 (lt x (neg tangential_bound)) (neg tangential_bound) (cond (lt tangential_bound x) tangential_bound x) (neg-fits binary64 tangential_bound tangential_bound_fits)
    (cond-fits binary64 (lt tangential_bound x) tangential_bound x tangential_bound_fits h)

mean_of_fits : (e : ErrorSum) → Fits (mean_of e)
unfolding mean_of
mean_of_fits e =
    cond-fits binary64 (eqb e.count 0) infinity (e.sum /₆₄ of_int binary64 (pos e.count))
    (div-fits binary64 (of_bits binary64 0x3ff0_0000_0000_0000) (of_bits binary64 0)) (div-fits binary64 e.sum (of_int binary64 (pos e.count)))

mean_with_fits : (s : SolvedCamera) (rows : List Float) (flags : List ℕ) → Fits (mean_with s rows flags)
unfolding mean_with
mean_with_fits s rows flags = mean_of_fits _

module _ (c : PinholeCamera) (t : ScheimpflugParams) (center : Pt2) (rows : List Float) (flags : List ℕ) (h : FindingFits (Solved c)) where
  abbrev solved : SolvedCamera
  solved = solved_at c t

  scoring_fits : OutcomeFits (Ok (scoring_of solved t center rows flags))
  unfolding scoring_of damped
  scoring_fits = (
    score_of_fits (mean_with solved rows flags) (damped_camera c) t center,
    (
      mean_with_fits solved rows flags,
      (
        h.0,
        (
          h.1.0,
          (
            h.1.1.0,
            (
              h.1.1.1.0,
              (clamp_fits c.dist.p1 h.1.1.1.1.0, (clamp_fits c.dist.p2 h.1.1.1.1.1.0, tt)),
            ),
          ),
        ),
      ),
    ),
  )

  evaluated_fits : (share : ℕ) → OutcomeFits (evaluated share solved t center rows flags)
  evaluated_fits share = go (evaluated share solved t center rows flags) refl
    where
      go : (o : Outcome) → evaluated share solved t center rows flags ≡ o → OutcomeFits o
      go (Err reason) e = tt
      go (Ok g) e = subst (λ (x : Scoring). OutcomeFits (Ok x)) (scored_passed_tests share solved t center rows flags g e).is scoring_fits

outcome_of_finding_fits : (share : ℕ) (f : Finding) (t : ScheimpflugParams) (center : Pt2) (rows : List Float) (flags : List ℕ) → FindingFits f → OutcomeFits (outcome_of share f t center rows flags)
unfolding outcome_of
outcome_of_finding_fits share Failed t center rows flags h = tt
outcome_of_finding_fits share (Solved c) t center rows flags h = evaluated_fits c t center rows flags h share

-- the entries that a call adds
pub no_entries_ne_entry : (b : Book) (o : Outcome) → [] ≡ entry b o ∷ [] → ⊥
no_entries_ne_entry b o e = let z : ◌≡◌ {A = ℕ} 0 1 = cc in omega arith

entry_outcome_injective : (b : Book) (o p : Outcome) → entry b o ∷ [] ≡ entry b p ∷ [] → o ≡ p
entry_outcome_injective b o p e = let q : entry b o ≡ entry b p = cc in ap (λ (x : Entry). x.outcome) q

entered_outcome_fits : (b : Book) (c : Call) (o : Outcome) → CallFits c → entered_by b c ≡ entry b o ∷ [] → OutcomeFits o
unfolding entered_by
entered_outcome_fits b (next n) o k e = absurd (no_entries_ne_entry b o e)
entered_outcome_fits b (seed n) o k e = absurd (no_entries_ne_entry b o e)
entered_outcome_fits b (answer n f rows flags) o k e =
    case (b.waits && not (ltb n (demand b.inputs)))
    (λ t. case_result (finding_refusal f (current b).sensor rows flags)
    (λ u z. rw (entry_outcome_injective b (outcome_of b.inputs.share f (current b).sensor b.inputs.center rows flags) o (simp (t, z) at e)) at (outcome_of_finding_fits b.inputs.share f (current b).sensor b.inputs.center rows flags k))
    (λ r z. absurd (no_entries_ne_entry b o (simp (t, z) at e))))
    (λ t. absurd (no_entries_ne_entry b o (simp t at e)))
entered_outcome_fits b ask o k e = absurd (no_entries_ne_entry b o e)
entered_outcome_fits b progress o k e = absurd (no_entries_ne_entry b o e)
entered_outcome_fits b (stop n) o k e = absurd (no_entries_ne_entry b o e)
entered_outcome_fits b last o k e = absurd (no_entries_ne_entry b o e)
entered_outcome_fits b counts o k e = absurd (no_entries_ne_entry b o e)

-- ---- the numbers of a book
abbrev pub EntryFits : Entry → Type 0
EntryFits e = OutcomeFits e.outcome

pub record BookFits (b : Book) : Type 0 where
  pub seeds : All SeedFits b.list
  pub held : All EntryFits (entries b)

pub current_fits : (i : Inputs) (b : Book) → Good i b → b.over ≡ false → BookFits b → SeedFits (current b)
current_fits i b g o h = get_or_of_all SeedFits no_seed b.list (length b.answered) h.seeds (g.room o)

-- the camera that the next list lies around
abbrev CameraFits : Candidate → Type 0
CameraFits w = AllFit (four w.camera.k)

scored_cameras_fit : (es : List Entry) → All EntryFits es → All CameraFits (scored_of es)
unfolding scored_of
scored_cameras_fit [] h = tt
scored_cameras_fit (e ∷ es) h =
    let r = scored_cameras_fit es h.1 in
    case_result e.outcome
    (λ s q. let k : OutcomeFits (Ok s) = rw q at h.0 in let f = k.1.1 in simp (scored_of, q) ((f.0, (f.1.0, (f.1.1.0, (f.1.1.1.0, tt)))), r))
    (λ reason q. simp (scored_of, q) r)

best_camera_fits : (es : List Entry) (w : Candidate) → All EntryFits es → best_of (scored_of es) ≡ chosen w → CameraFits w
best_camera_fits es w h e =
    let l = chosen_is_best (scored_of es) w e in
    (all_right CameraFits l.before (w ∷ l.behind) (rw l.split at (scored_cameras_fit es h))).0

property_of_or_else : (P : Candidate → Type 0) (a c : Chosen) (w : Candidate) → (a ≡ chosen w → P w) → (c ≡ chosen w → P w) → or_else a c ≡ chosen w → P w
property_of_or_else P nothing c w f g e = g e
property_of_or_else P (chosen v) c w f g e = f e

next_centre_fits : (b : Book) (w : Candidate) → BookFits b → or_else (round_best_of b) (run_best_of b) ≡ chosen w → CameraFits w
unfolding round_best_of run_best_of
next_centre_fits b w h =
    property_of_or_else CameraFits (best_of (scored_of b.answered)) (best_of (scored_of (entries b))) w
    (best_camera_fits b.answered w (all_right EntryFits b.earlier b.answered h.held))
    (best_camera_fits (entries b) w h.held)

-- ---- it holds at the start, and stays
pub opened_book_fits : (i : Inputs) → InputsFit i → BookFits (opened i)
unfolding opened
opened_book_fits i f = record { seeds = first_list_fits i f; held = tt }

waiting_keeps_book_fits : (b : Book) → BookFits b → BookFits (with_waiting b)
unfolding with_waiting
waiting_keeps_book_fits b h = record { seeds = h.seeds; held = h.held }

end_keeps_book_fits : (b : Book) → BookFits b → BookFits (with_end b)
unfolding with_end
end_keeps_book_fits b h = record { seeds = h.seeds; held = h.held }

next_round_book_fits : (b : Book) (ss : List CandidateSeed) → All SeedFits ss → BookFits b → BookFits (with_round b ss)
unfolding with_round
next_round_book_fits b ss f h = record { seeds = f; held = rw append-nil h.held }

entry_keeps_book_fits : (b : Book) (o : Outcome) → OutcomeFits o → BookFits b → BookFits (with_entry b o)
unfolding with_entry
entry_keeps_book_fits b o k h = record {
  seeds = h.seeds;
  held = all_append EntryFits b.earlier (b.answered ++ entry b o ∷ []) (all_left EntryFits b.earlier b.answered h.held)
      (all_append EntryFits b.answered (entry b o ∷ []) (all_right EntryFits b.earlier b.answered h.held) (k, tt));
}

closing_keeps_book_fits : Closing (λ k b. BookFits b) BookFits
closing_keeps_book_fits = record {
  ends = λ k b r h. end_keeps_book_fits b h;
  skips = λ k b w e q h. next_round_book_fits b [] tt h;
  opens = λ k b w s ss e q h. next_round_book_fits b (s ∷ ss) (rw q at (list_around_fits b.inputs (suc b.round) w (next_centre_fits b w h e))) h;
}

pub enter_keeps_book_fits : (b : Book) (o : Outcome) → OutcomeFits o → BookFits b → BookFits (book_enter b o)
enter_keeps_book_fits b o k h =
    let z = entry_keeps_book_fits b o k h in
    enter_by_round_end BookFits b o (λ e. z) (λ e. close_round_by closing_keeps_book_fits ((with_entry b o).inputs.rounds - (with_entry b o).round) (with_entry b o) z)

-- ---- calls, a walk, a history
call_keeps_book_fits : (b : Book) (c : Call) → CallFits c → BookFits b → BookFits (book_call b c).book
call_keeps_book_fits b c k h = go (book_call b c) (call_moves b c)
  where
    go : (d : BookLeft) → Moves b c d → BookFits d.book
    go d (stays e n) = rw e h
    go d (hands o w e n) = rw e (waiting_keeps_book_fits b h)
    go d (enters o w s e n) = rw e (enter_keeps_book_fits b o (entered_outcome_fits b c o k n) h)

calls_keep_book_fits : (b : Book) (cs : List Call) → All CallFits cs → BookFits b → BookFits (after b cs)
unfolding after
calls_keep_book_fits b [] k h = h
calls_keep_book_fits b (c ∷ cs) k h = calls_keep_book_fits (book_call b c).book cs k.1 (call_keeps_book_fits b c k.0 h)

pub taken_line_keeps_book_fits : (b : Book) (m : Line) → LineFits m → BookFits b → BookFits (book_enter b (outcome_in m.outcome))
taken_line_keeps_book_fits b m ok h = enter_keeps_book_fits b (outcome_in m.outcome) (rw (recorded_comes_back m.outcome) ok.outcome_fits) h

pub walked_book_fits : (i : Inputs) → InputsFit i → (l : List Float) (bs : List ℕ) → BookFits (walked i l bs).book
walked_book_fits i f l bs = walked_keeps (λ b k. BookFits b) (λ b k m ok can h t. taken_line_keeps_book_fits b m ok h) i l bs (opened_book_fits i f)

opening_book_fits : (i : Inputs) (o : Opening) → InputsFit i → BookFits (opened_by i o)
opening_book_fits i fresh f = opened_book_fits i f
opening_book_fits i (from bs) f = walked_book_fits i f [] bs

pub history_book_fits : (i : Inputs) (h : History i) → InputsFit i → All CallFits h.calls → BookFits (book_at h)
history_book_fits i h f k = calls_keep_book_fits (opened_by i h.opening) h.calls k (opening_book_fits i h.opening f)
