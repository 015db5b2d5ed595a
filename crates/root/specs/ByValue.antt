-- What depends on a value's number alone: its root, its bits, and, among the values of a format, the value itself.
-- Assumes nothing.
use Rattle.std.specs.Prelude.{◌≡◌, refl, Bool, true, false, cond, ℕ, zero, suc, ◌+◌, ◌-◌, ◌*◌, ◌/◌, ◌^◌, ◌<◌, T, Float}
use Rattle.std.proofs.Common.{sym, ap, ◌∙◌, subst, true≢false, lt_irrefl, zero-mul, zero-add, mul-pos, mul_assoc, mul-div_cancel}
use Rattle.std.proofs.lemmas.Bool.{false≢true}
use Rattle.std.specs.Float.{nan, inf, fin, Format}
use Rattle.std.specs.Float.Ieee.{prec, low, hid, top, up, down, size, fits, to_bits, of_bits}
use Rattle.std.specs.Float.Ieee.Fits.{down_pos}
use Rattle.std.specs.Float.Ieee.Exact.{HasValue}
use Rattle.std.specs.Float.Ieee.Bits.{of_bits-to_bits}
use Rattle.root.specs.Root.{root_of, root}

-- ---- the root of a / 2 ^ low, so of a times the smallest value
zero_has_no_positive_value : (z a b : ℕ) → 0 < a → 0 < b → zero * z ≡ a * b → ⊥
zero_has_no_positive_value z a b A B h = lt_irrefl 0 (subst (λ (x : ℕ). 0 < x) (sym h ∙ zero-mul z) (mul-pos A B))

pub root_value : (f : Format) (x : Float) (a : ℕ) → HasValue x false a (2 ^ low f) → 0 < a → root f x ≡ root_of f (a * 2 ^ low f)
unfolding root
root_value f nan a h p = absurd h
root_value f (inf s) a h p = absurd h
root_value f (fin s zero e) a h p = absurd (zero_has_no_positive_value (up e * 2 ^ low f) a (down e) p (down_pos e) (sym (mul_assoc 0 (up e) (2 ^ low f)) ∙ h.1))
root_value f (fin true (suc m) e) a h p = absurd (true≢false h.0)
root_value f (fin false (suc m) e) a h p = ap (λ (x : ℕ). root_of f (x * 2 ^ low f)) (ap (λ (x : ℕ). x / down e) h.1 ∙ mul-div_cancel a (down_pos e))

pub root_below : (f : Format) (x : Float) (a : ℕ) → HasValue x true a (2 ^ low f) → 0 < a → root f x ≡ nan
unfolding root
root_below f nan a h p = absurd h
root_below f (inf s) a h p = absurd h
root_below f (fin s zero e) a h p = absurd (zero_has_no_positive_value (up e * 2 ^ low f) a (down e) p (down_pos e) (sym (mul_assoc 0 (up e) (2 ^ low f)) ∙ h.1))
root_below f (fin true (suc m) e) a h p = refl
root_below f (fin false (suc m) e) a h p = absurd (false≢true h.0)

-- ---- bits
pub to_bits_of_value : (f : Format) (x : Float) (a : ℕ) → HasValue x false a (2 ^ low f) → to_bits f x ≡ (size a - prec f) * hid f + a / 2 ^ (size a - prec f)
unfolding to_bits
to_bits_of_value f nan a h = absurd h
to_bits_of_value f (inf s) a h = absurd h
to_bits_of_value f (fin s m e) a h =
    ap (λ (n : ℕ). cond s (top f) 0 + (size n - prec f) * hid f + n / 2 ^ (size n - prec f)) (ap (λ (x : ℕ). x / down e) h.1 ∙ mul-div_cancel a (down_pos e))
    ∙ ap (λ (b : Bool). cond b (top f) 0 + (size a - prec f) * hid f + a / 2 ^ (size a - prec f)) h.0
    ∙ ap (λ (x : ℕ). x + a / 2 ^ (size a - prec f)) (zero-add ((size a - prec f) * hid f))

-- the same value, and both written as the format writes it
pub value_unique : (f : Format) (x y : Float) (a : ℕ) → T (fits f x) → T (fits f y) → HasValue x false a (2 ^ low f) → HasValue y false a (2 ^ low f) → x ≡ y
value_unique f x y a p q h k = sym (of_bits-to_bits f x p) ∙ ap (of_bits f) (to_bits_of_value f x a h ∙ sym (to_bits_of_value f y a k)) ∙ of_bits-to_bits f y q
