-- The tilted sensor's matrix from numbers that are known up to a small error: its elements, and its determinant.
-- Assumes nothing. The exact numbers: A and B are the cosines about the two axes, P and Q the sines.
use Rattle.std.specs.Prelude.{◌≡◌, false, [], ◌∷◌, ℕ, ◌+◌, ◌*◌, ◌^◌, T, Float}
use Rattle.std.proofs.Common.{sym, ap, ◌∙◌, subst, add_assoc, add_comm, add-zero, zero-add, add-mul, mul_assoc, mul_comm, mul_left_comm, mul-one, zero-mul, arith}
use Rattle.std.proofs.Math.Nat.{add_left_comm}
use Rattle.std.specs.Float.{binary64}
use Rattle.std.specs.Float.Ieee.{of_bits, mul, sub}
use Rattle.float.specs.Literals.{plus_zero, one₆₄}
use Rattle.camera.specs.Matrix.{Matrix, at, product_of, determinant_of, minor_of, first_other, second_other}
use Rattle.camera.specs.Sensor.{rot_x, rot_y, proj_z}
use Rattle.float_laws.specs.Fraction.{Fraction, signed, opposite, ◌⊕◌, ◌⊗◌, Near, near_same, near_refl, times_comm, times_assoc, times_one}
use Rattle.float_laws.specs.Rounded.{within}
use Rattle.float_laws.specs.Known.{Known, tested, product, ◌under◌, mul_known, add_known, neg_known, sub_known, nothing, known_nothing, known_weaken, zero_mul_known, mul_zero_known, add_zero_known, zero_add_known}

one_known : Known 0 1024 one₆₄ (signed false 1 1)
unfolding of_bits
one_known = record { near = within (near_refl (2 ^ 53) (signed false 1 1)); some = omega arith; small = omega arith }

zero_known : Known 0 0 plus_zero nothing
unfolding of_bits
zero_known = record { near = within (near_refl (2 ^ 53) nothing); some = omega arith; small = omega arith }

-- x times 1, and 1 times x
mul_one_known : {k n : ℕ} {x : Float} {X : Fraction} → Known k n x X → T (tested (product k 0 n 1024 n)) → Known (1 + (2 * 0 + 2 * k)) n (mul binary64 x one₆₄) X
mul_one_known {k} {n} {x} {X} g t = subst (Known (1 + (2 * 0 + 2 * k)) n (mul binary64 x one₆₄)) (times_one X) (mul_known n g one_known t)

one_mul_known : {k n : ℕ} {x : Float} {X : Fraction} → Known k n x X → T (tested (product 0 k 1024 n n)) → Known (1 + (2 * k + 2 * 0)) n (mul binary64 one₆₄ x) X
one_mul_known {k} {n} {x} {X} g t = subst (Known (1 + (2 * k + 2 * 0)) n (mul binary64 one₆₄ x)) (times_comm (signed false 1 1) X ∙ times_one X) (mul_known n one_known g t)

-- ---- the rotation
pub record Rotation (A B P Q : Fraction) (r : Matrix) : Type 0 where
  pub r00 : Known 5 1028 (at r 0 0) B
  pub r01 : Known 5 261 (at r 0 1) (opposite Q ⊗ opposite P)
  pub r02 : Known 5 519 (at r 0 2) (opposite Q ⊗ A)
  pub r10 : Known 5 0 (at r 1 0) nothing
  pub r11 : Known 5 1028 (at r 1 1) A
  pub r12 : Known 5 516 (at r 1 2) P
  pub r20 : Known 5 516 (at r 2 0) Q
  pub r21 : Known 5 519 (at r 2 1) (B ⊗ opposite P)
  pub r22 : Known 5 1033 (at r 2 2) (B ⊗ A)

pub rotation_known : {A B P Q : Fraction} {sx cx sy cy : Float} → Known 0 516 sx P → Known 0 1028 cx A → Known 0 516 sy Q → Known 0 1028 cy B → Rotation A B P Q (product_of (rot_y sy cy) (rot_x sx cx))
unfolding product_of
rotation_known u a v b =
    let z = zero_known in
    let zz = zero_mul_known z z tt in
    let nv = neg_known v in
    let nu = neg_known u in
    record {
      r00 = add_zero_known (add_zero_known (mul_one_known b tt) zz tt) (mul_zero_known nv z tt) tt;
      r01 = zero_add_known (add_zero_known (mul_zero_known b z tt) (zero_mul_known z a tt) tt) (mul_known 261 nv nu tt) tt;
      r02 = zero_add_known (add_zero_known (mul_zero_known b z tt) (zero_mul_known z u tt) tt) (mul_known 519 nv a tt) tt;
      r10 = add_zero_known (add_zero_known (mul_one_known z tt) (mul_zero_known one_known z tt) tt) zz tt;
      r11 = add_zero_known (zero_add_known zz (one_mul_known a tt) tt) (zero_mul_known z nu tt) tt;
      r12 = add_zero_known (zero_add_known zz (one_mul_known u tt) tt) (zero_mul_known z a tt) tt;
      r20 = add_zero_known (add_zero_known (mul_one_known v tt) zz tt) (mul_zero_known b z tt) tt;
      r21 = zero_add_known (add_zero_known (mul_zero_known v z tt) (zero_mul_known z a tt) tt) (mul_known 519 b nu tt) tt;
      r22 = zero_add_known (add_zero_known (mul_zero_known v z tt) (zero_mul_known z u tt) tt) (mul_known 1033 b a tt) tt;
    }

-- ---- two products that cancel
products_cancel_in_numbers : (p n d P N D : ℕ) → ((p * P + n * N) * (D * d) + (N * p + P * n) * (d * D)) * 1 + 0 * (d * D * (D * d)) ≡ 0 * (d * D * (D * d)) + ((p * N + n * P) * (D * d) + (N * n + P * p) * (d * D)) * 1
products_cancel_in_numbers p n d P N D = simp (mul-one, zero-mul, add-zero, zero-add, add-mul, mul_assoc, mul_comm, mul_left_comm, add_assoc, add_comm, add_left_comm)

products_cancel : (x y : Fraction) → Near (2 ^ 53) 0 ((x ⊗ y) ⊕ (opposite y ⊗ x)) nothing
products_cancel x y = near_same (2 ^ 53) ((x ⊗ y) ⊕ (opposite y ⊗ x)) nothing (products_cancel_in_numbers x.plus x.minus x.den y.plus y.minus y.den)

factors_exchanged : (b a n m : Fraction) → (b ⊗ a) ⊗ (n ⊗ m) ≡ (b ⊗ m) ⊗ (n ⊗ a)
factors_exchanged b a n m =
    times_assoc b a (n ⊗ m)
    ∙ ap (λ (z : Fraction). b ⊗ z) (times_comm a (n ⊗ m) ∙ ap (λ (z : Fraction). z ⊗ a) (times_comm n m) ∙ times_assoc m n a)
    ∙ sym (times_assoc b m (n ⊗ a))

-- ---- the product with the projection: above the diagonal it is 0
pub record Projected (A B P Q : Fraction) (h : Matrix) : Type 0 where
  pub h00 : Known 70 1300 (at h 0 0) (((B ⊗ A) ⊗ B) ⊕ (opposite (opposite Q ⊗ A) ⊗ Q))
  pub h01 : Known 70 0 (at h 0 1) nothing
  pub h02 : Known 70 0 (at h 0 2) nothing
  pub h10 : Known 70 261 (at h 1 0) (opposite P ⊗ Q)
  pub h11 : Known 70 1300 (at h 1 1) (((B ⊗ A) ⊗ A) ⊕ (opposite P ⊗ (B ⊗ opposite P)))
  pub h12 : Known 70 0 (at h 1 2) nothing
  pub h20 : Known 70 516 (at h 2 0) Q
  pub h21 : Known 70 519 (at h 2 1) (B ⊗ opposite P)
  pub h22 : Known 70 1033 (at h 2 2) (B ⊗ A)

pub projection_known : {A B P Q : Fraction} {r : Matrix} → Rotation A B P Q r → Projected A B P Q (product_of (proj_z r) r)
unfolding product_of
projection_known {A} {B} {P} {Q} {r} k =
    let z = zero_known in
    let n02 = neg_known k.r02 in
    let n12 = neg_known k.r12 in
    record {
      h00 = known_weaken 70 (add_known (add_zero_known (mul_known 1038 k.r22 k.r00 tt) (zero_mul_known z k.r10 tt) tt) (mul_known 262 n02 k.r20 tt) tt) tt;
      h01 = known_weaken 70 (known_nothing (subst (λ (y : Fraction). Near (2 ^ 53) 0 (y ⊕ (opposite (opposite Q ⊗ A) ⊗ (B ⊗ opposite P))) nothing) (sym (factors_exchanged B A (opposite Q) (opposite P))) (products_cancel (B ⊗ opposite P) (opposite Q ⊗ A)))
          (add_known (add_zero_known (mul_known 264 k.r22 k.r01 tt) (zero_mul_known z k.r11 tt) tt) (mul_known 264 n02 k.r21 tt) tt)) tt;
      h02 = known_weaken 70 (known_nothing (products_cancel (B ⊗ A) (opposite Q ⊗ A)) (add_known (add_zero_known (mul_known 524 k.r22 k.r02 tt) (zero_mul_known z k.r12 tt) tt) (mul_known 524 n02 k.r22 tt) tt)) tt;
      h10 = known_weaken 70 (zero_add_known (add_zero_known (zero_mul_known z k.r00 tt) (mul_zero_known k.r22 k.r10 tt) tt) (mul_known 261 n12 k.r20 tt) tt) tt;
      h11 = known_weaken 70 (add_known (zero_add_known (zero_mul_known z k.r01 tt) (mul_known 1038 k.r22 k.r11 tt) tt) (mul_known 262 n12 k.r21 tt) tt) tt;
      h12 = known_weaken 70 (known_nothing (products_cancel (B ⊗ A) P) (add_known (zero_add_known (zero_mul_known z k.r02 tt) (mul_known 521 k.r22 k.r12 tt) tt) (mul_known 521 n12 k.r22 tt) tt)) tt;
      h20 = known_weaken 70 (zero_add_known (add_zero_known (zero_mul_known z k.r00 tt) (zero_mul_known z k.r10 tt) tt) (one_mul_known k.r20 tt) tt) tt;
      h21 = known_weaken 70 (zero_add_known (add_zero_known (zero_mul_known z k.r01 tt) (zero_mul_known z k.r11 tt) tt) (one_mul_known k.r21 tt) tt) tt;
      h22 = known_weaken 70 (zero_add_known (add_zero_known (zero_mul_known z k.r02 tt) (zero_mul_known z k.r12 tt) tt) (one_mul_known k.r22 tt) tt) tt;
    }

-- ---- the determinant: the product of the diagonal
abbrev pub Diagonal : Fraction → Fraction → Fraction → Fraction → Fraction
Diagonal A B P Q = (((B ⊗ A) ⊗ B) ⊕ (opposite (opposite Q ⊗ A) ⊗ Q)) ⊗ ((((B ⊗ A) ⊗ A) ⊕ (opposite P ⊗ (B ⊗ opposite P))) ⊗ (B ⊗ A))

sub_zero_known : {k l n : ℕ} {x y : Float} {X : Fraction} → Known k n x X → Known l 0 y nothing → T (tested ((n + 0 under 1792) ∷ (k + l under 2 ^ 40) ∷ [])) → Known (1 + (k + l)) n (sub binary64 x y) X
unfolding sub
sub_zero_known g h t = add_zero_known g (neg_known h) t

pub determinant_known : {A B P Q : Fraction} (h : Matrix) → Projected A B P Q h → Known 10000 1666 (determinant_of h) (Diagonal A B P Q)
unfolding determinant_of minor_of first_other second_other
determinant_known h k =
    let m00 = sub_zero_known (mul_known 1312 k.h11 k.h22 tt) (zero_mul_known k.h12 k.h21 tt) tt in
    let m01 = sub_zero_known (mul_known 264 k.h10 k.h22 tt) (zero_mul_known k.h12 k.h20 tt) tt in
    let m02 = sub_known (mul_known 133 k.h10 k.h21 tt) (mul_known 656 k.h11 k.h20 tt) tt in
    let d = add_zero_known (sub_zero_known (mul_known 1666 k.h00 m00 tt) (zero_mul_known k.h01 m01 tt) tt) (zero_mul_known k.h02 m02 tt) tt in
    known_weaken 10000 d tt
