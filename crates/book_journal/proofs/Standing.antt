-- An outcome that may be entered can stand as a line's, and its line gives it back; a line that is read and follows a
-- book is that of the entry which it makes. Assumes nothing.
use Rattle.std.proofs.Common.{◌≡◌, refl, sym, ap, ◌∙◌, true, false, not, ◌&&◌, true≢false, List, [], ◌∷◌, eqb-true, eq-eqb, eqb, leb, Float, Ok, Err}
use Rattle.std.proofs.lemmas.Bool.{and_from}
use Rattle.std.specs.Float.{binary64}
use Rattle.std.specs.Float.Ieee.{of_bits, lt, is_nan}
use borrow.Author.Tests.{not-true}
use lib.Ieee.Fits.{add-fits}
use Rattle.common.specs.Tests.{both_true}
use Rattle.float.specs.Binary64.{◌+₆₄◌}
use Rattle.float.specs.Float.{bits_of, is_finite, within}
use Rattle.float.specs.Bits.{reading_bits_gives_value}
use Rattle.float.specs.Literals.{plus_zero}
use Rattle.camera.specs.declared.math.Pt2.{Pt2}
use Rattle.camera.specs.declared.sensor.ScheimpflugParams.{ScheimpflugParams}
use Rattle.seeds.specs.declared.CandidateSeed.{CandidateSeed}
use Rattle.seeds.specs.Layout.{six, seed_at}
use Rattle.score.specs.declared.pinhole.PinholeCamera.{PinholeCamera}
use Rattle.score.specs.Camera.{tangential_bound, valid_camera}
use Rattle.score.specs.Penalties.{distortion_penalty, tilt_penalty, centre_penalty, score_of}
use Rattle.score.specs.declared.outcome.Scoring.{Scoring}
use Rattle.score.specs.Reasons.{Outcome}
use Rattle.score.specs.Facts.{ScoredFacts}
use Rattle.score.proofs.Facts.{valid_numbers}
use Rattle.journal.specs.declared.ScoredFields.{ScoredFields}
use Rattle.journal.specs.Outcome.{Recorded}
use Rattle.journal.specs.declared.Line.{Line}
use Rattle.journal.specs.Line.{recordable, writable, Writable, Fits, recorded_numbers, LineFits}
use Rattle.journal.specs.Outcome.{fields_of, recorded_as, scoring_in, outcome_in}
use Rattle.replay.specs.Stand.{same_real, same_reals, is_mean, can_be_scored, can_stand}
use Rattle.book.specs.Book.{Inputs, Book, number, current, line_of}
use Rattle.book.proofs.Moves.{entry, Stands}
use Rattle.book_journal.specs.Replay.{follows}
use Rattle.book_journal.specs.History.{AllFit}

-- ---- bit by bit
same_real_is_equal : (x y : Float) → Fits x → Fits y → same_real x y ≡ true → x ≡ y
unfolding same_real
same_real_is_equal x y f g h = sym (reading_bits_gives_value x f) ∙ ap (of_bits binary64) (eqb-true (bits_of x) (bits_of y) h) ∙ reading_bits_gives_value y g

same_real_of_equal : (x y : Float) → x ≡ y → same_real x y ≡ true
unfolding same_real
same_real_of_equal x y e = eq-eqb (bits_of x) (bits_of y) (ap bits_of e)

same_reals_are_equal : (xs ys : List Float) → AllFit xs → AllFit ys → same_reals xs ys ≡ true → xs ≡ ys
unfolding same_reals
same_reals_are_equal [] [] f g h = refl
same_reals_are_equal [] (y ∷ ys) f g h = absurd (true≢false (sym h))
same_reals_are_equal (x ∷ xs) [] f g h = absurd (true≢false (sym h))
same_reals_are_equal (x ∷ xs) (y ∷ ys) f g h =
    let p = both_true (same_real x y) (same_reals xs ys) h in
    rw (same_real_is_equal x y f.0 g.0 p.0) (ap (λ (z : List Float). y ∷ z) (same_reals_are_equal xs ys f.1 g.1 p.1))

same_reals_refl : (xs : List Float) → same_reals xs xs ≡ true
unfolding same_reals
same_reals_refl [] = refl
same_reals_refl (x ∷ xs) = and_from _ _ (same_real_of_equal x x refl) (same_reals_refl xs)

same_seed_is_equal : (s t : CandidateSeed) → AllFit (six s) → AllFit (six t) → same_reals (six s) (six t) ≡ true → s ≡ t
same_seed_is_equal s t f g h = ap (λ (l : List Float). seed_at l 0) (same_reals_are_equal (six s) (six t) f g h)

-- ---- of an outcome that may be entered: its line gives it back, and can stand
scoring_comes_back : (s : Scoring) → s.camera.dist.k1 ≡ plus_zero → s.camera.dist.k2 ≡ plus_zero → s.camera.dist.k3 ≡ plus_zero → scoring_in (fields_of s) ≡ s
scoring_comes_back s e f g =
    let d = s.camera.dist in
    let with : Float → Float → Float → Scoring = λ a b c. record { camera = record { k = s.camera.k; dist = record { k1 = a; k2 = b; k3 = c; p1 = d.p1; p2 = d.p2 } }; mean = s.mean; score = s.score } in
    ap (λ (a : Float). with a plus_zero plus_zero) (sym e) ∙ ap (λ (b : Float). with d.k1 b plus_zero) (sym f) ∙ ap (λ (c : Float). with d.k1 d.k2 c) (sym g)

pub outcome_comes_back : (i : Inputs) (t : ScheimpflugParams) (o : Outcome) → Stands i t o → outcome_in (recorded_as o) ≡ o
outcome_comes_back i t (Err reason) h = refl
outcome_comes_back i t (Ok s) h = ap Ok (scoring_comes_back s h.k1_zero h.k2_zero h.k3_zero)

scored_can_stand : (center : Pt2) (t : ScheimpflugParams) (s : Scoring) → ScoredFacts t center s → can_stand center t (recorded_as (Ok s)) ≡ true
unfolding can_be_scored is_mean within
scored_can_stand center t s f =
    let c : (scoring_in (fields_of s)).camera ≡ s.camera = ap (λ (z : Scoring). z.camera) (scoring_comes_back s f.k1_zero f.k2_zero f.k3_zero) in
    and_from _ _
    (and_from _ _ (and_from _ _ (and_from _ _ (ap valid_camera c ∙ f.camera_valid) f.p1_within) f.p2_within) (and_from _ _ f.mean_finite (ap not f.mean_not_below)))
    (same_real_of_equal s.score (score_of s.mean (scoring_in (fields_of s)).camera t center) (f.score_is ∙ ap (λ (x : PinholeCamera). score_of s.mean x t center) (sym c)))

outcome_can_stand : (i : Inputs) (t : ScheimpflugParams) (o : Outcome) → Stands i t o → can_stand i.center t (recorded_as o) ≡ true
outcome_can_stand i t (Err reason) h = refl
outcome_can_stand i t (Ok s) h = scored_can_stand i.center t s h

-- ---- what can stand may be entered
pub score_of_fits : (mean : Float) (c : PinholeCamera) (t : ScheimpflugParams) (center : Pt2) → Fits (score_of mean c t center)
unfolding score_of
score_of_fits mean c t center = add-fits binary64 (mean +₆₄ distortion_penalty c.dist +₆₄ tilt_penalty t) (centre_penalty c.k center)

standing_fields_scored_facts : (center : Pt2) (t : ScheimpflugParams) (m : ScoredFields) → is_nan m.score ≡ false → AllFit (recorded_numbers (Ok m)) → can_stand center t (Ok m) ≡ true
    → ScoredFacts t center (scoring_in m)
unfolding can_be_scored is_mean within
standing_fields_scored_facts center t m n f h =
    let c = (scoring_in m).camera in
    let score = both_true (valid_camera c && within tangential_bound m.p1 && within tangential_bound m.p2 && is_mean m.mean) (same_real m.score (score_of m.mean c t center)) h in
    let means = both_true (valid_camera c && within tangential_bound m.p1 && within tangential_bound m.p2) (is_mean m.mean) score.0 in
    let mean = both_true (is_finite m.mean) (not (lt m.mean plus_zero)) means.1 in
    let small2 = both_true (valid_camera c && within tangential_bound m.p1) (within tangential_bound m.p2) means.0 in
    let small1 = both_true (valid_camera c) (within tangential_bound m.p1) small2.0 in
    let numbers = valid_numbers c small1.0 in
    record {
      camera_valid = small1.0;
      fx_finite = numbers.fx_finite;
      fy_finite = numbers.fy_finite;
      fx_above = numbers.fx_above;
      fy_above = numbers.fy_above;
      k1_zero = refl;
      k2_zero = refl;
      k3_zero = refl;
      p1_finite = numbers.p1_finite;
      p2_finite = numbers.p2_finite;
      p1_within = small1.1;
      p2_within = small2.1;
      mean_finite = mean.0;
      mean_not_below = not-true (lt m.mean plus_zero) mean.1;
      score_is = same_real_is_equal m.score (score_of m.mean c t center) f.0 (score_of_fits m.mean c t center) score.1;
      score_number = n;
    }

recorded_outcome_stands : (i : Inputs) (t : ScheimpflugParams) (r : Recorded) → recordable r ≡ true → AllFit (recorded_numbers r) → can_stand i.center t r ≡ true → Stands i t (outcome_in r)
unfolding recordable
recorded_outcome_stands i t (Err reason) w f h = tt
recorded_outcome_stands i t (Ok m) w f h = standing_fields_scored_facts i.center t m (not-true (is_nan m.score) w) f h

pub recorded_comes_back : (r : Recorded) → recorded_as (outcome_in r) ≡ r
recorded_comes_back (Ok m) = refl
recorded_comes_back (Err reason) = refl

-- ---- a line, and the book that it may follow
writable_is_recordable : (l : Line) → Writable l → recordable l.outcome ≡ true
unfolding writable
writable_is_recordable l h = (both_true (leb l.number 655 && leb l.round 16) (recordable l.outcome) h).1

module _ (b : Book) where
  -- the line of an entry follows the book in which it is entered
  pub entry_follows : (o : Outcome) → b.over ≡ false → Stands b.inputs (current b).sensor o → follows b (line_of (entry b o)) ≡ true
  unfolding follows
  entry_follows o g s =
      and_from _ _ (and_from _ _ (and_from _ _ (and_from _ _ (ap not g) (eq-eqb (number b) (number b) refl)) (eq-eqb b.round b.round refl)) (same_reals_refl (six (current b)))) (outcome_can_stand b.inputs (current b).sensor o s)

  -- and a line that follows is that of the entry which it makes
  pub record Follower (m : Line) : Type 0 where
    pub going : b.over ≡ false
    pub stands : Stands b.inputs (current b).sensor (outcome_in m.outcome)
    pub line_is : AllFit (six (current b)) → line_of (entry b (outcome_in m.outcome)) ≡ m

  pub following_line_is_of_entry : (m : Line) → LineFits m → Writable m → follows b m ≡ true → Follower m
  unfolding follows
  following_line_is_of_entry m s w h =
      let p = both_true (not b.over && eqb m.number (number b) && eqb m.round b.round && same_reals (six m.seed) (six (current b))) (can_stand b.inputs.center (current b).sensor m.outcome) h in
      let q = both_true (not b.over && eqb m.number (number b) && eqb m.round b.round) (same_reals (six m.seed) (six (current b))) p.0 in
      let r = both_true (not b.over && eqb m.number (number b)) (eqb m.round b.round) q.0 in
      let u = both_true (not b.over) (eqb m.number (number b)) r.0 in
      record {
        going = not-true b.over u.0;
        stands = recorded_outcome_stands b.inputs (current b).sensor m.outcome (writable_is_recordable m w) s.outcome_fits p.1;
        line_is = λ f.
            let e = same_seed_is_equal m.seed (current b) s.seed_fits f q.1 in
            let n = eqb-true m.number (number b) u.1 in
            let o = eqb-true m.round b.round r.1 in
            rw (← n, ← o, ← e, recorded_comes_back m.outcome);
      }
