-- Each kind of text: its value is what it says.
use Rattle.std.proofs.Common.{◌≡◌, ℕ, zero, suc, ◌/◌, ◌%◌, ◌<◌, Bool, true, false, cond, not, ◌&&◌, ◌||◌, ◌==◌, List, [], ◌∷◌, ◌++◌, length, drop, Option, Some, None, refl, ap, subst, ◌∙◌, arith}
use Rattle.std.specs.Prelude.{codes, slice_index, nat_eq}
use Rattle.std.specs.Option.{option_map, option_and_then}
use Rattle.std.specs.List.{list_all, starts_with}
use Rattle.std.specs.Str.{is_utf8, bytes_eq}
use Rattle.std.specs.Int.{w64, to_be_bytes}
use Rattle.std.specs.Float.{binary64}
use Rattle.std.specs.Float.Ieee.{to_bits, is_nan}
use Rattle.std.specs.Float.Parse.{parse_float}
use Rattle.std.proofs.lemmas.Bool.{and_parts}
use Rattle.std.proofs.lemmas.Bool.Decides.{nat_tests, Decides-eqb}
use Rattle.std.proofs.lemmas.List.Elements.{All-weaker}
use Rattle.std.proofs.lemmas.List.Sums.{AllPass-from_list_all, list_all-from_AllPass}
use Rattle.std.proofs.lemmas.Slice.Eq.{bytes_eq-Decides}
use Rattle.std.proofs.lemmas.Str.{IsUtf8-from_is_utf8, is_utf8-from_IsUtf8, IsUtf8-from_ascii}
use Rattle.std.proofs.lemmas.Str.Ascii.{IsAscii-from_all}
use Rattle.hex.specs.Hex.{lower_digits, encode_with}
use Rattle.inputs_file.specs.Grammar.{is_plain, Lacks, IsText, IsPair, IsWhole, bits_text, IsReal, IsFlag, is_lower_hex, IsDigest, sum_text, IsSum, IsOrigin}
use Rattle.inputs_file.specs.Values.{cut, utf8_of, text_of, pair_of, whole_of, is_spelled, real_of, flag_of, origin_of, digest_of, sum_of}
use Rattle.inputs_file.proofs.Cuts.{cut_found, cut_again}
use Rattle.inputs_file.proofs.Wholes.{whole_found, whole_again}
use Rattle.inputs_file.proofs.LineLaws.{Values, begins_is}

-- a test that was passed
test_ok : {A : Type 0} (b : Bool) (o : Option A) (x : A) → cond b o None ≡ Some x → (b ≡ true) × (o ≡ Some x)
test_ok true o x e = (refl, e)
test_ok false o x e = absurd cc

some_is : {A : Type 0} (x y : A) → Some x ≡ Some y → x ≡ y
some_is x y e = cc

map_ok : {A B : Type 0} (f : A → B) (o : Option A) (y : B) → option_map f o ≡ Some y → (x : A) × (o ≡ Some x) × (f x ≡ y)
map_ok f None y e = absurd cc
map_ok f (Some x) y e = (x, refl, some_is (f x) y e)

bind_ok : {A B : Type 0} (f : A → Option B) (o : Option A) (y : B) → option_and_then f o ≡ Some y → (x : A) × (o ≡ Some x) × (f x ≡ Some y)
bind_ok f None y e = absurd cc
bind_ok f (Some x) y e = (x, refl, e)

bytes_same : (xs : List ℕ) → bytes_eq xs xs ≡ true
bytes_same xs = (bytes_eq-Decides xs xs).1 refl

-- ---- texts

pub text_values : Values text_of IsText
text_values = record {
  found = λ text x e.
      let plain = test_ok (list_all is_plain text) (utf8_of text) x e in
      let utf8 = test_ok (is_utf8 text) (Some text) x plain.1 in
      subst (IsText text) (some_is text x utf8.1) (record { same = refl; plain = AllPass-from_list_all is_plain text plain.0; utf8 = IsUtf8-from_is_utf8 text utf8.0 });
  again = λ text x is. ap text_of is.same ∙ rw (list_all-from_AllPass is_plain x is.plain, is_utf8-from_IsUtf8 x is.utf8) refl;
}

pub pair_values : Values pair_of IsPair
unfolding pair_of
pair_values = record {
  found = λ text x e.
      let parts = bind_ok (λ parts. option_and_then (λ first. option_map (λ second. (first, second)) (text_of parts.1)) (text_of parts.0)) (cut 32 text) x e in
      let front = parts.0.0 in
      let behind = parts.0.1 in
      let one = bind_ok (λ first. option_map (λ second. (first, second)) (text_of behind)) (text_of front) x parts.2 in
      let two = map_ok (λ second. (one.0, second)) (text_of behind) x one.2 in
      let joined = cut_found 32 text parts.0 parts.1 in
      let first = text_values.found front one.0 one.1 in
      let second = text_values.found behind two.0 two.1 in
      subst (IsPair text) two.2 (record {
        joined = joined.0 ∙ ap (λ (t : List ℕ). t ++ 32 ∷ behind) first.same ∙ ap (λ (t : List ℕ). one.0 ++ 32 ∷ t) second.same;
        word = subst (Lacks 32) first.same joined.1;
        first = record { same = refl; plain = first.plain; utf8 = first.utf8 };
        second = record { same = refl; plain = second.plain; utf8 = second.utf8 };
      });
  again = λ text x is. rw (is.joined, cut_again 32 x.0 x.1 is.word, text_values.again x.0 x.0 is.first, text_values.again x.1 x.1 is.second) refl;
}

-- ---- numbers

pub whole_values : Values whole_of IsWhole
whole_values = record { found = whole_found; again = whole_again }

lacks_at : (c : ℕ) (xs : List ℕ) (k : ℕ) → Lacks c xs → (0 == c) ≡ false → (slice_index xs k == c) ≡ false
lacks_at c [] k lacks none = none
lacks_at c (x ∷ xs) zero lacks none = lacks.0
lacks_at c (x ∷ xs) (suc k) lacks none = lacks_at c xs k lacks.1 none

digits_lack : Lacks 32 lower_digits
digits_lack = (refl, (refl, (refl, (refl, (refl, (refl, (refl, (refl, (refl, (refl, (refl, (refl, (refl, (refl, (refl, (refl, tt))))))))))))))))

-- hexadecimal digits have no space
hex_lacks : (bytes : List ℕ) → Lacks 32 (encode_with lower_digits bytes)
unfolding encode_with
hex_lacks [] = tt
hex_lacks (b ∷ bytes) = (lacks_at 32 lower_digits (b / 16) digits_lack refl, (lacks_at 32 lower_digits (b % 16) digits_lack refl, hex_lacks bytes))

or_implies : (n m : Bool) → (not n || m) ≡ true → n ≡ true → m ≡ true
or_implies true m e h = e
or_implies false m e h = absurd cc

implies_or : (n m : Bool) → (n ≡ true → m ≡ true) → (not n || m) ≡ true
implies_or true m h = h refl
implies_or false m h = refl

pub real_values : Values real_of IsReal
unfolding real_of
real_values = record {
  found = λ text x e.
      let parts = bind_ok (λ parts. option_and_then (λ x. cond (is_spelled parts.0 parts.1 x) (Some x) None) (parse_float binary64 parts.1)) (cut 32 text) x e in
      let digits = parts.0.0 in
      let decimals = parts.0.1 in
      let read = bind_ok (λ x. cond (is_spelled digits decimals x) (Some x) None) (parse_float binary64 decimals) x parts.2 in
      let y = read.0 in
      let test = test_ok (is_spelled digits decimals y) (Some y) x read.2 in
      let both = and_parts (bytes_eq digits (bits_text y)) (not (is_nan y) || bytes_eq decimals (codes "NaN")) test.0 in
      let joined = cut_found 32 text parts.0 parts.1 in
      subst (IsReal text) (some_is y x test.1) (record {
        decimals = decimals;
        spelled = joined.0 ∙ ap (λ (t : List ℕ). t ++ 32 ∷ decimals) ((bytes_eq-Decides digits (bits_text y)).0 both.0);
        reads_back = read.1;
        nan = λ h. (bytes_eq-Decides decimals (codes "NaN")).0 (or_implies (is_nan y) (bytes_eq decimals (codes "NaN")) both.1 h);
      });
  again = λ text x is.
      let nan : (not (is_nan x) || bytes_eq is.decimals (codes "NaN")) ≡ true = implies_or (is_nan x) (bytes_eq is.decimals (codes "NaN")) (λ h. (bytes_eq-Decides is.decimals (codes "NaN")).1 (is.nan h)) in
      let spelled : is_spelled (bits_text x) is.decimals x ≡ true = rw (bytes_same (bits_text x)) nan in
      rw (is.spelled, cut_again 32 (bits_text x) is.decimals (hex_lacks (to_be_bytes w64 (to_bits binary64 x))), is.reads_back, spelled) refl;
}

-- ---- words

pub flag_values : Values flag_of IsFlag
unfolding flag_of
flag_values = record {
  found = λ text x e. by_cases text x (bytes_eq text (codes "yes")) refl (bytes_eq text (codes "no")) refl e;
  again = again;
}
  where
    by_cases : (text : List ℕ) (x : Bool) (y : Bool) → bytes_eq text (codes "yes") ≡ y → (n : Bool) → bytes_eq text (codes "no") ≡ n → cond y (Some true) (cond n (Some false) None) ≡ Some x → IsFlag text x
    by_cases text x true is n rest e = subst (IsFlag text) (some_is true x e) ((bytes_eq-Decides text (codes "yes")).0 is)
    by_cases text x false is true says e = subst (IsFlag text) (some_is false x e) ((bytes_eq-Decides text (codes "no")).0 says)
    by_cases text x false is false says e = absurd cc

    again : (text : List ℕ) (x : Bool) → IsFlag text x → flag_of text ≡ Some x
    again text true is = ap flag_of is ∙ refl
    again text false is = ap flag_of is ∙ refl

pub origin_values : Values origin_of IsOrigin
unfolding origin_of
origin_values = record {
  found = λ text x e. by_cases text x (bytes_eq text (codes "built-in")) refl (starts_with nat_eq text (codes "file ")) refl e;
  again = again;
}
  where
    by_cases : (text : List ℕ) (x : Option (List ℕ)) (own : Bool) → bytes_eq text (codes "built-in") ≡ own → (file : Bool) → starts_with nat_eq text (codes "file ") ≡ file
        → cond own (Some None) (cond file (option_map (λ name. Some name) (text_of (drop 5 text))) None) ≡ Some x → IsOrigin text x
    by_cases text x true is file begins e = subst (IsOrigin text) (some_is None x e) ((bytes_eq-Decides text (codes "built-in")).0 is)
    by_cases text x false is true begins e =
        let name = map_ok (λ (name : List ℕ). Some name) (text_of (drop 5 text)) x e in
        let said = text_values.found (drop 5 text) name.0 name.1 in
        subst (IsOrigin text) name.2 ((begins_is text (codes "file ")).0 begins ∙ ap (λ (t : List ℕ). codes "file " ++ t) said.same, record { same = refl; plain = said.plain; utf8 = said.utf8 })
    by_cases text x false is false begins e = absurd cc

    again : (text : List ℕ) (x : Option (List ℕ)) → IsOrigin text x → origin_of text ≡ Some x
    again text None is = ap origin_of is ∙ refl
    again text (Some name) is = ap origin_of is.0 ∙ ap (λ (o : Option (List ℕ)). option_map (λ (name : List ℕ). Some name) o) (text_values.again name name is.1)

-- ---- checksums

hex_is_ascii : (b : ℕ) → is_lower_hex b ≡ true → b < 128
hex_is_ascii b h = grind (arith, nat_tests)

pub digest_values : Values digest_of IsDigest
unfolding digest_of
digest_values = record {
  found = λ text x e.
      let test = test_ok ((length text == 64) && list_all is_lower_hex text) (utf8_of text) x e in
      let both = and_parts (length text == 64) (list_all is_lower_hex text) test.0 in
      let utf8 = test_ok (is_utf8 text) (Some text) x test.1 in
      subst (IsDigest text) (some_is text x utf8.1) (record { same = refl; len = (Decides-eqb (length text) 64).0 both.0; digits = AllPass-from_list_all is_lower_hex text both.1 });
  again = λ text x is.
      let ascii = IsAscii-from_all x (All-weaker (λ b. is_lower_hex b ≡ true) (λ b. b < 128) hex_is_ascii x is.digits) in
      ap digest_of is.same ∙ rw (is.len, list_all-from_AllPass is_lower_hex x is.digits, is_utf8-from_IsUtf8 x (IsUtf8-from_ascii x ascii)) refl;
}

pub sum_values : (above : List ℕ) → Values (sum_of above) (IsSum above)
sum_values above = record {
  found = λ text x e. (bytes_eq-Decides text (sum_text above)).0 (test_ok (bytes_eq text (sum_text above)) (Some tt) x e).0;
  again = λ text x is. rw ((bytes_eq-Decides text (sum_text above)).1 is) refl;
}
