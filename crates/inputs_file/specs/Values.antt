-- The value that a line's text says, or None.
use Rattle.std.specs.Prelude.{ℕ, ◌^◌, Bool, true, false, List, [], ◌∷◌, length, codes, Option, Some, None, if◌then◌else◌, ◌==◌, ◌&&◌, ◌||◌, not, nat_eq, nat_lt, decimal, drop}
use Rattle.std.specs.Option.{option_map, option_and_then}
use Rattle.std.specs.List.{list_all, starts_with}
use Rattle.std.specs.Str.{is_utf8, bytes_eq}
use Rattle.std.specs.Str.Parse.{digits_value}
use Rattle.std.specs.Float.{binary64}
use Rattle.std.specs.Float.Ieee.{Float, is_nan}
use Rattle.std.specs.Float.Parse.{parse_float}
use Rattle.inputs_file.specs.Grammar.{is_plain, is_lower_hex, bits_text, sum_text}

-- what stands before the first c, and what stands behind it
unfoldable pub cut : ℕ → List ℕ → Option (List ℕ × List ℕ)
cut c [] = None
cut c (b ∷ bs) = if b == c then Some ([], bs) else option_map (λ x. (b ∷ x.0, x.1)) (cut c bs)

abbrev pub utf8_of : List ℕ → Option (List ℕ)
utf8_of bytes = if is_utf8 bytes then Some bytes else None

abbrev pub text_of : List ℕ → Option (List ℕ)
text_of bytes = if list_all is_plain bytes then utf8_of bytes else None

-- two texts around the first space
unfoldable pub pair_of : List ℕ → Option (List ℕ × List ℕ)
pair_of text =
    option_and_then (λ parts. option_and_then (λ first. option_map (λ second. (first, second)) (text_of parts.1)) (text_of parts.0)) (cut 32 text)

unfoldable pub whole_of : List ℕ → Option ℕ
whole_of text =
    let n = digits_value 10 text in
    if nat_lt n (2 ^ 64) && bytes_eq (decimal n) text then Some n else None

-- whether x is spelled with these digits and decimals
abbrev pub is_spelled : List ℕ → List ℕ → Float → Bool
is_spelled digits decimals x = bytes_eq digits (bits_text x) && (not (is_nan x) || bytes_eq decimals (codes "NaN"))

unfoldable pub real_of : List ℕ → Option Float
real_of text =
    option_and_then (λ parts. option_and_then (λ x. if is_spelled parts.0 parts.1 x then Some x else None) (parse_float binary64 parts.1)) (cut 32 text)

unfoldable pub flag_of : List ℕ → Option Bool
flag_of text = if bytes_eq text (codes "yes") then Some true else (if bytes_eq text (codes "no") then Some false else None)

unfoldable pub digest_of : List ℕ → Option (List ℕ)
digest_of text = if length text == 64 && list_all is_lower_hex text then utf8_of text else None

-- a file's name, or None where the host has the views itself
unfoldable pub origin_of : List ℕ → Option (Option (List ℕ))
origin_of text =
    if bytes_eq text (codes "built-in") then Some None
    else (if starts_with nat_eq text (codes "file ") then option_map (λ name. Some name) (text_of (drop 5 text)) else None)

-- whether the text is the checksum of the bytes above it
abbrev pub sum_of : List ℕ → List ℕ → Option (Unit {0})
sum_of above text = if bytes_eq text (sum_text above) then Some tt else None
