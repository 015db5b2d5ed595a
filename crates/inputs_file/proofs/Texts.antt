-- Texts.
use Rattle.std.proofs.Common.{◌≡◌, ℕ, Bool, true, false, List, Some, None, refl}
use Rattle.std.specs.Prelude.{IsUtf8}
use Rattle.std.specs.Str.{is_utf8}
use Rattle.std.proofs.lemmas.Str.{IsUtf8-from_is_utf8, is_utf8-from_IsUtf8}
use Rattle.inputs_file.specs.Values.{utf8_of}

pub utf8_holds : (bytes : List ℕ) → IsUtf8 bytes → utf8_of bytes ≡ Some bytes
utf8_holds bytes h = rw (is_utf8-from_IsUtf8 bytes h) refl

pub utf8_fails : (bytes : List ℕ) → ¬ (IsUtf8 bytes) → utf8_of bytes ≡ None
utf8_fails bytes h = by_cases (is_utf8 bytes) refl
  where
    by_cases : (b : Bool) → is_utf8 bytes ≡ b → utf8_of bytes ≡ None
    by_cases true e = absurd (h (IsUtf8-from_is_utf8 bytes e))
    by_cases false e = rw e refl
