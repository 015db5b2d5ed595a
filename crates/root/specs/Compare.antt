-- What `compare` says where one number is below the other. Assumes nothing.
use Rattle.std.specs.Prelude.{◌≡◌, refl, not, T}
use Rattle.std.proofs.Common.{sym, subst, le_trans, le_of_eq, lt_of_lt_of_le, lt_irrefl, arith, leb→le, eqb→eq}
use Prim.Native.Nat.{ℕ, ◌≤◌, ◌<◌, compare, Ordering}
use Rattle.std.proofs.Math.Dec.{is_le, compare_is_eq, nleb→lt}

pub compare_lt : (a b : ℕ) → a < b → compare a b ≡ Ordering.lt
compare_lt a b h = go (compare a b) refl
  where
    go : (o : Ordering) → compare a b ≡ o → compare a b ≡ Ordering.lt
    go Ordering.lt e = e
    go Ordering.eq e = absurd (lt_irrefl a (subst (λ (x : ℕ). a < x) (sym (eqb→eq a b (subst (λ (o : Ordering). T (compare_is_eq o)) (sym e) tt))) h))
    go Ordering.gt e = absurd (lt_irrefl a (lt_of_lt_of_le h (le_trans (nle e) (le_of_eq refl))))
      where
        nle : compare a b ≡ Ordering.gt → b ≤ a
        nle e = le_trans (omega arith) (nleb→lt a b (subst (λ (o : Ordering). T (not (is_le o))) (sym e) tt))

pub compare_gt : (a b : ℕ) → b < a → compare a b ≡ Ordering.gt
compare_gt a b h = go (compare a b) refl
  where
    le : (o : Ordering) → compare a b ≡ o → T (is_le o) → a ≤ b
    le o e t = leb→le a b (subst (λ (p : Ordering). T (is_le p)) (sym e) t)

    go : (o : Ordering) → compare a b ≡ o → compare a b ≡ Ordering.gt
    go Ordering.lt e = absurd (lt_irrefl b (lt_of_lt_of_le h (le Ordering.lt e tt)))
    go Ordering.eq e = absurd (lt_irrefl b (lt_of_lt_of_le h (le Ordering.eq e tt)))
    go Ordering.gt e = e
