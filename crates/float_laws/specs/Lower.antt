-- The lower of two numbers, as `min_of` takes it: it is one of them, and nothing that isn't below the two is below it.
-- Assumes nothing.
use Rattle.std.specs.Prelude.{◌≡◌, false, ◌⊎◌, Float}
use Rattle.std.proofs.Common.{sym, ◌∙◌, true≢false, inl, inr}
use Rattle.std.specs.Float.Ieee.{lt, is_nan}
use Rattle.common.specs.Tests.{case}
use Rattle.float.specs.Float.{min_of}
use Rattle.float.specs.Order.{lt_irrefl}
use Rattle.float_laws.specs.NotBelow.{not_below_trans, lt_trans}

pub min_is_not_nan : (p q : Float) → is_nan p ≡ false → is_nan q ≡ false → is_nan (min_of p q) ≡ false
unfolding min_of
min_is_not_nan p q n o = rw n (case (lt q p) (λ l. rw l o) (λ l. rw l n))

pub not_below_min_by_first : (p q x : Float) → is_nan p ≡ false → lt x p ≡ false → lt x (min_of p q) ≡ false
unfolding min_of
not_below_min_by_first p q x n h =
    rw n (case (lt q p) (λ l. rw l (case (lt x q) (λ k. absurd (true≢false (sym (lt_trans x q p n k l) ∙ h))) (λ k. k))) (λ l. rw l h))

pub second_not_below_min : (p q : Float) → is_nan p ≡ false → lt q (min_of p q) ≡ false
unfolding min_of
second_not_below_min p q n = rw n (case (lt q p) (λ l. rw l (lt_irrefl q)) (λ l. rw l l))

pub min_is_one_of_both : (p q : Float) → (min_of p q ≡ p) ⊎ (min_of p q ≡ q)
unfolding min_of
min_is_one_of_both p q = case (is_nan p) (λ n. inr (rw n)) (λ n. case (lt q p) (λ l. inr (rw (n, l))) (λ l. inl (rw (n, l))))

pub min_assoc : (p q r : Float) → is_nan p ≡ false → is_nan q ≡ false → min_of (min_of p q) r ≡ min_of p (min_of q r)
unfolding min_of
min_assoc p q r n o =
    case (lt q p)
    (λ l. case (lt r q) (λ k. rw (l, n, o, k, lt_trans r q p n k l)) (λ k. rw (l, n, o, k, l)))
    (λ l. case (lt r q) (λ k. rw (l, n, o, k, n)) (λ k. rw (l, n, o, k, n, l, not_below_trans r q p o k l)))
