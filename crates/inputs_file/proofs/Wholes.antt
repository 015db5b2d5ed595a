-- Whole numbers.
use Rattle.std.proofs.Common.{◌≡◌, ℕ, ◌^◌, Bool, true, false, cond, ltb, ◌&&◌, List, Option, Some, None, Ok, Err, refl, sym, subst}
use Rattle.std.specs.Prelude.{decimal}
use Rattle.std.specs.Str.{bytes_eq}
use Rattle.std.specs.Str.Parse.{digits_value, ParsesUnsigned}
use Rattle.std.proofs.lemmas.Bool.{lt-ltb, ltb-true}
use Rattle.std.proofs.lemmas.Fmt.{parse-decimal, decimal_is_IsNumeral}
use Rattle.std.proofs.lemmas.Slice.Eq.{bytes_eq-Decides}
use Rattle.inputs_file.specs.Grammar.{IsWhole}
use Rattle.inputs_file.specs.Values.{whole_of}

pub whole_again : (text : List ℕ) (n : ℕ) → IsWhole text n → whole_of text ≡ Some n
unfolding whole_of
whole_again text n is =
    let value : digits_value 10 text ≡ n = rw is.spelled ((decimal_is_IsNumeral n is.bound).1) in
    let same : bytes_eq (decimal n) text ≡ true = (bytes_eq-Decides (decimal n) text).1 (sym is.spelled) in
    rw (value, lt-ltb n (2 ^ 64) is.bound, same) refl

chosen : (b c : Bool) (m n : ℕ) → cond (b && c) (Some m) None ≡ Some n → (b ≡ true) × (c ≡ true) × (m ≡ n)
chosen true true m n e = (refl, refl, cc)
chosen true false m n e = absurd cc
chosen false c m n e = absurd cc

pub whole_found : (text : List ℕ) (n : ℕ) → whole_of text ≡ Some n → IsWhole text n
unfolding whole_of
whole_found text n e =
    let m = digits_value 10 text in
    let parts = chosen (ltb m (2 ^ 64)) (bytes_eq (decimal m) text) m n e in
    subst (IsWhole text) parts.2 (record { spelled = sym ((bytes_eq-Decides (decimal m) text).0 parts.1); bound = ltb-true m (2 ^ 64) parts.0 })

-- a text that writes no number is none's
pub whole_none : (text : List ℕ) → ((n : ℕ) → IsWhole text n → ⊥) → whole_of text ≡ None
whole_none text none = by_cases (whole_of text) refl
  where
    by_cases : (o : Option ℕ) → whole_of text ≡ o → o ≡ None
    by_cases None e = refl
    by_cases (Some n) e = absurd (none n (whole_found text n e))

-- a number's own text is parsed as it, and as nothing else
pub parsed_ok : (text : List ℕ) (m n : ℕ) → ParsesUnsigned {E = Unit {0}} 64 10 text (Ok m) → IsWhole text n → m ≡ n
parsed_ok text m n parses is = cc (parse-decimal {E = Unit {0}} 64 n text (Ok m) is.bound is.bound is.spelled parses)

pub parsed_err : (text : List ℕ) (n : ℕ) → ParsesUnsigned {E = Unit {0}} 64 10 text (Err tt) → IsWhole text n → ⊥
parsed_err text n parses is = absurd cc (parse-decimal {E = Unit {0}} 64 n text (Err tt) is.bound is.bound is.spelled parses)
