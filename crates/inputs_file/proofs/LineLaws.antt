-- What is read is spelled so, and what is spelled so is read: for a line, for lines one after the other, and for as many as there are.
use Rattle.std.proofs.Common.{◌≡◌, ℕ, zero, suc, ◌<◌, ◌≤◌, Bool, true, false, cond, List, [], ◌∷◌, ◌++◌, length, drop, Option, Some, None, Result, Ok, Err, refl, sym, ap, subst, ◌∙◌, append_assoc, arith, length-append}
use Rattle.std.specs.Prelude.{nat_eq}
use Rattle.std.specs.Option.{option_map, option_and_then, ok_or}
use Rattle.std.specs.List.{starts_with}
use Rattle.std.proofs.lemmas.Bool.Decides.{Decides-eqb}
use Rattle.std.proofs.lemmas.List.{drop_at}
use Rattle.std.proofs.lemmas.Slice.Eq.{starts_is}
use Rattle.inputs_file.specs.declared.field.Field.{Field}
use Rattle.inputs_file.specs.declared.fault.Stop.{Stop}
use Rattle.inputs_file.specs.Grammar.{start_of, Lacks, IsLine, Joined, ◌<>◌, Each}
use Rattle.inputs_file.specs.Values.{cut}
use Rattle.inputs_file.specs.Reading.{stop, line_at, field_at, ◌>>◌, mapped, many_at, all_at}
use Rattle.inputs_file.proofs.Cuts.{cut_found, cut_again}

-- a reader takes what the language has, where what follows may follow
pub record Reads {A : Type 0} (at : List ℕ → Result (A × List ℕ) Stop) (L : A → List ℕ → Type 0) (Next : List ℕ → Type 0) : Type 0 where
  pub found : (bytes : List ℕ) (x : A) (rest : List ℕ) → at bytes ≡ Ok (x, rest) → (front : List ℕ) × L x front × (bytes ≡ front ++ rest)
  pub again : (x : A) (front rest : List ℕ) → L x front → Next rest → at (front ++ rest) ≡ Ok (x, rest)

-- a text's value is what the text says
pub record Values {A : Type 0} (value : List ℕ → Option A) (Says : List ℕ → A → Type 0) : Type 0 where
  pub found : (text : List ℕ) (x : A) → value text ≡ Some x → Says text x
  pub again : (text : List ℕ) (x : A) → Says text x → value text ≡ Some x

abbrev pub Anything : List ℕ → Type 0
Anything bytes = Unit {0}

-- ---- a line

pub begins_is : (bytes start : List ℕ) → (starts_with nat_eq bytes start ≡ true → bytes ≡ start ++ drop (length start) bytes) × ((rest : List ℕ) → bytes ≡ start ++ rest → starts_with nat_eq bytes start ≡ true)
begins_is bytes start = starts_is (λ a b. Decides-eqb a b) bytes start (starts_with nat_eq bytes start) refl

line_found : (start bytes : List ℕ) (x : List ℕ × List ℕ) → line_at start bytes ≡ Some x → (bytes ≡ start ++ (x.0 ++ 10 ∷ x.1)) × Lacks 10 x.0
unfolding line_at
line_found start bytes x e = by_cases (starts_with nat_eq bytes start) refl e
  where
    by_cases : (b : Bool) → starts_with nat_eq bytes start ≡ b → cond b (cut 10 (drop (length start) bytes)) None ≡ Some x → (bytes ≡ start ++ (x.0 ++ 10 ∷ x.1)) × Lacks 10 x.0
    by_cases false is h = absurd cc
    by_cases true is h =
        let parts = cut_found 10 (drop (length start) bytes) x h in
        ((begins_is bytes start).0 is ∙ ap (λ (t : List ℕ). start ++ t) parts.0, parts.1)

line_again : (start text rest : List ℕ) → Lacks 10 text → line_at start (start ++ (text ++ 10 ∷ rest)) ≡ Some (text, rest)
unfolding line_at
line_again start text rest lacks = rw ((begins_is (start ++ (text ++ 10 ∷ rest)) start).1 (text ++ 10 ∷ rest) refl, drop_at start (text ++ 10 ∷ rest) (length start) refl) (cut_again 10 text rest lacks)

abbrev pub done : {A : Type 0} → A → Result A Stop
done x = Ok x

pub ok_is : {A : Type 0} (x y : A) → done x ≡ done y → x ≡ y
ok_is x y e = cc

abbrev valued : {A : Type 0} → Option A → List ℕ → Option (A × List ℕ)
valued o rest = option_map (λ x. (x, rest)) o

value_found : {A : Type 0} (o : Option A) (s : Stop) (behind rest : List ℕ) (x : A) → ok_or (valued o behind) s ≡ Ok (x, rest) → (o ≡ Some x) × (behind ≡ rest)
value_found None s behind rest x e = absurd cc
value_found {A = A} (Some y) s behind rest x e =
    let same : (y, behind) ≡ (x, rest) = ok_is (y, behind) (x, rest) e in
    (ap (λ (p : A × List ℕ). Some p.0) same, ap (λ (p : A × List ℕ). p.1) same)

pub field_reads : {A : Type 0} (value : List ℕ → Option A) (Says : List ℕ → A → Type 0) → Values value Says → (f : Field) → Reads (field_at value f) (IsLine Says f) Anything
unfolding field_at
field_reads {A = A} value Says values f = record {
  found = λ bytes x rest e. by_cases bytes x rest (line_at (start_of f) bytes) refl e;
  again = λ x front rest line _.
      let regrouped : front ++ rest ≡ start_of f ++ (line.text ++ 10 ∷ rest) = rw line.spelled (simp append_assoc) in
      rw (regrouped, line_again (start_of f) line.text rest line.one_line, values.again line.text x line.says) refl;
}
  where
    by_cases : (bytes : List ℕ) (x : A) (rest : List ℕ) (o : Option (List ℕ × List ℕ)) → line_at (start_of f) bytes ≡ o
        → ok_or {T = A × List ℕ} (option_and_then (λ line. option_map (λ y. (y, line.1)) (value line.0)) o) (stop f bytes) ≡ Ok (x, rest)
        → (front : List ℕ) × IsLine Says f x front × (bytes ≡ front ++ rest)
    by_cases bytes x rest None is e = absurd cc
    by_cases bytes x rest (Some line) is e =
        let parts = value_found (value line.0) (stop f bytes) line.1 rest x e in
        let spelled = line_found (start_of f) bytes line is in (
          start_of f ++ (line.0 ++ 10 ∷ []),
          record { text = line.0; says = values.found line.0 x parts.0; one_line = spelled.1; spelled = refl },
          spelled.0 ∙ rw parts.1 (simp append_assoc),
        )

-- ---- one after the other

-- what the reader returned stands at the front
abbrev pub Finds : {A : Type 0} → (List ℕ → Result (A × List ℕ) Stop) → (A → List ℕ → Type 0) → Type 0
Finds {A = A} at L = (bytes : List ℕ) (x : A) (rest : List ℕ) → at bytes ≡ Ok (x, rest) → (front : List ℕ) × L x front × (bytes ≡ front ++ rest)

abbrev pub second_step : {A B : Type 0} → A → Result (B × List ℕ) Stop → Result ((A × B) × List ℕ) Stop
second_step x (Ok y) = Ok ((x, y.0), y.1)
second_step x (Err s) = Err s

abbrev pub first_step : {A B : Type 0} → (List ℕ → Result (B × List ℕ) Stop) → Result (A × List ℕ) Stop → Result ((A × B) × List ℕ) Stop
first_step q (Ok x) = second_step x.0 (q x.1)
first_step q (Err s) = Err s

abbrev pub map_step : {A B : Type 0} → (A → B) → Result (A × List ℕ) Stop → Result (B × List ℕ) Stop
map_step f (Ok x) = Ok (f x.0, x.1)
map_step f (Err s) = Err s

pub then_found : {A B : Type 0} (p : List ℕ → Result (A × List ℕ) Stop) (q : List ℕ → Result (B × List ℕ) Stop) (L : A → List ℕ → Type 0) (M : B → List ℕ → Type 0)
    → Finds p L → Finds q M → Finds (p >> q) (λ z. L z.0 <> M z.1)
then_found {A = A} {B = B} p q L M first second bytes z rest e = by_cases (p bytes) refl e
  where
    second_case : (x : A) (behind : List ℕ) → p bytes ≡ Ok (x, behind) → (r : Result (B × List ℕ) Stop) → q behind ≡ r → second_step x r ≡ Ok (z, rest)
        → (front : List ℕ) × Joined (L z.0) (M z.1) front × (bytes ≡ front ++ rest)
    second_case x behind is (Err s) other h = absurd cc
    second_case x behind is (Ok y) other h =
        let one = first bytes x behind is in
        let two = second behind y.0 y.1 other in
        subst (λ (w : (A × B) × List ℕ). (front : List ℕ) × Joined (L w.0.0) (M w.0.1) front × (bytes ≡ front ++ w.1)) (ok_is ((x, y.0), y.1) (z, rest) h) (
          one.0 ++ two.0,
          record { front = one.0; rest = two.0; first = one.1; second = two.1; joined = refl },
          one.2 ∙ ap (λ (t : List ℕ). one.0 ++ t) two.2 ∙ sym (append_assoc one.0 two.0 y.1),
        )

    by_cases : (r : Result (A × List ℕ) Stop) → p bytes ≡ r → first_step q r ≡ Ok (z, rest) → (front : List ℕ) × Joined (L z.0) (M z.1) front × (bytes ≡ front ++ rest)
    by_cases (Err s) is h = absurd cc
    by_cases (Ok x) is h = second_case x.0 x.1 is (q x.1) refl h

pub then_again : {A B : Type 0} (p : List ℕ → Result (A × List ℕ) Stop) (q : List ℕ → Result (B × List ℕ) Stop) (bytes : List ℕ) (x : A) (behind : List ℕ) (y : B) (rest : List ℕ)
    → p bytes ≡ Ok (x, behind) → q behind ≡ Ok (y, rest) → (p >> q) bytes ≡ Ok ((x, y), rest)
then_again p q bytes x behind y rest first second = ap (first_step q) first ∙ ap (second_step x) second

pub then_reads : {A B : Type 0} {p : List ℕ → Result (A × List ℕ) Stop} {q : List ℕ → Result (B × List ℕ) Stop} {L : A → List ℕ → Type 0} {M : B → List ℕ → Type 0} {F N : List ℕ → Type 0}
    → Reads p L F → Reads q M N → ((y : B) (front rest : List ℕ) → M y front → N rest → F (front ++ rest)) → Reads (p >> q) (λ z. L z.0 <> M z.1) N
then_reads {p = p} {q = q} {L = L} {M = M} first second follows = record {
  found = λ bytes z rest e. then_found p q L M first.found second.found bytes z rest e;
  again = λ z front rest j next.
      let regrouped : front ++ rest ≡ j.front ++ (j.rest ++ rest) = ap (λ (t : List ℕ). t ++ rest) j.joined ∙ append_assoc j.front j.rest rest in
      ap (p >> q) regrouped
      ∙ then_again p q (j.front ++ (j.rest ++ rest)) z.0 (j.rest ++ rest) z.1 rest
      (first.again z.0 j.front (j.rest ++ rest) j.first (follows z.1 j.rest rest j.second next)) (second.again z.1 j.rest rest j.second next);
}

-- where the first may be followed by anything
pub free_reads : {A B : Type 0} {p : List ℕ → Result (A × List ℕ) Stop} {q : List ℕ → Result (B × List ℕ) Stop} {L : A → List ℕ → Type 0} {M : B → List ℕ → Type 0} {N : List ℕ → Type 0}
    → Reads p L Anything → Reads q M N → Reads (p >> q) (λ z. L z.0 <> M z.1) N
free_reads first second = then_reads first second (λ y front rest m n. tt)

pub mapped_found : {A B : Type 0} (f : A → B) (p : List ℕ → Result (A × List ℕ) Stop) (L : A → List ℕ → Type 0) → Finds p L → Finds (mapped f p) (λ y front. (x : A) × (f x ≡ y) × L x front)
mapped_found {A = A} {B = B} f p L found bytes y rest e = by_cases (p bytes) refl e
  where
    by_cases : (r : Result (A × List ℕ) Stop) → p bytes ≡ r → map_step f r ≡ Ok (y, rest) → (front : List ℕ) × ((x : A) × (f x ≡ y) × L x front) × (bytes ≡ front ++ rest)
    by_cases (Err s) is h = absurd cc
    by_cases (Ok x) is h =
        let one = found bytes x.0 x.1 is in
        subst (λ (w : B × List ℕ). (front : List ℕ) × ((x : A) × (f x ≡ w.0) × L x front) × (bytes ≡ front ++ w.1)) (ok_is (f x.0, x.1) (y, rest) h) (one.0, (x.0, refl, one.1), one.2)

pub mapped_reads : {A B : Type 0} {p : List ℕ → Result (A × List ℕ) Stop} {L : A → List ℕ → Type 0} {N : List ℕ → Type 0} (f : A → B) (g : B → A)
    → ((x : A) → g (f x) ≡ x) → ((y : B) → f (g y) ≡ y) → Reads p L N → Reads (mapped f p) (λ y. L (g y)) N
mapped_reads {A = A} {B = B} {p = p} {L = L} f g back forth reads = record {
  found = λ bytes y rest e.
      let one = mapped_found f p L reads.found bytes y rest e in
      (one.0, subst (λ (a : A). L a one.0) (sym (back one.1.0) ∙ ap g one.1.1) one.1.2, one.2);
  again = λ y front rest l next. ap (map_step f) (reads.again (g y) front rest l next) ∙ ap (λ (b : B). done (b, rest)) (forth y);
}

-- ---- as many as there are

-- no such line is next
abbrev pub NotNext : Field → List ℕ → Type 0
NotNext f bytes = starts_with nat_eq bytes (start_of f) ≡ false

-- each piece of a language begins so
abbrev pub Starts : {A : Type 0} → (A → List ℕ → Type 0) → Field → Type 0
Starts {A = A} L f = (x : A) (front : List ℕ) → L x front → (tail : List ℕ) × (front ≡ start_of f ++ tail)

abbrev pub consed : {A : Type 0} → A × List A → List A
consed x = x.0 ∷ x.1

many_found : {A : Type 0} (item : List ℕ → Result (A × List ℕ) Stop) (L : A → List ℕ → Type 0) (f : Field) → Finds item L → (n : ℕ) → Finds (many_at item f n) (Each L)
unfolding many_at
many_found {A = A} item L f found zero bytes xs rest e =
    subst (λ (w : List A × List ℕ). (front : List ℕ) × Each L w.0 front × (bytes ≡ front ++ w.1)) (ok_is ([], bytes) (xs, rest) e) ([], refl, refl)
many_found {A = A} item L f found (suc n) bytes xs rest e = by_cases (many_found item L f found n) (starts_with nat_eq bytes (start_of f)) e
  where
    by_cases : Finds (many_at item f n) (Each L) → (b : Bool) → cond b (mapped consed (item >> many_at item f n) bytes) (Ok ([], bytes)) ≡ Ok (xs, rest)
        → (front : List ℕ) × Each L xs front × (bytes ≡ front ++ rest)
    by_cases below true h =
        let one = mapped_found consed (item >> many_at item f n) (λ z. L z.0 <> Each L z.1) (then_found item (many_at item f n) L (Each L) found below) bytes xs rest h in
        (one.0, subst (λ (ys : List A). Each L ys one.0) one.1.1 one.1.2, one.2)
    by_cases below false h =
        subst (λ (w : List A × List ℕ). (front : List ℕ) × Each L w.0 front × (bytes ≡ front ++ w.1)) (ok_is ([], bytes) (xs, rest) h) ([], refl, refl)

many_again : {A : Type 0} (item : List ℕ → Result (A × List ℕ) Stop) (L : A → List ℕ → Type 0) (f : Field) → 0 < length (start_of f) → Starts L f → Reads item L Anything
    → (n : ℕ) (xs : List A) (front rest : List ℕ) → Each L xs front → NotNext f rest → length (front ++ rest) ≤ n → many_at item f n (front ++ rest) ≡ Ok (xs, rest)
unfolding many_at
many_again item L f long starts reads zero [] front rest each not_next enough = rw each refl
many_again item L f long starts reads zero (x ∷ xs) front rest j not_next enough =
    let begun = starts x j.front j.first in
    absurd (omega (arith, length-append front rest, ap length j.joined, length-append j.front j.rest, ap length begun.1, length-append (start_of f) begun.0))
many_again item L f long starts reads (suc n) [] front rest each not_next enough = rw (each, not_next) refl
many_again item L f long starts reads (suc n) (x ∷ xs) front rest j not_next enough =
    let begun = starts x j.front j.first in
    let behind = j.rest ++ rest in
    let regrouped : front ++ rest ≡ j.front ++ behind = ap (λ (t : List ℕ). t ++ rest) j.joined ∙ append_assoc j.front j.rest rest in
    let begins : starts_with nat_eq (j.front ++ behind) (start_of f) ≡ true = (begins_is (j.front ++ behind) (start_of f)).1 (begun.0 ++ behind) (ap (λ (t : List ℕ). t ++ behind) begun.1 ∙ append_assoc (start_of f) begun.0 behind) in
    let fits : length behind ≤ n = omega (arith, length-append front rest, ap length j.joined, length-append j.front j.rest, ap length begun.1, length-append (start_of f) begun.0, length-append j.rest rest) in
    let one = then_again item (many_at item f n) (j.front ++ behind) x behind xs rest (reads.again x j.front behind j.first tt) (many_again item L f long starts reads n xs j.rest rest j.second not_next fits) in
    rw (regrouped, begins) (ap (map_step consed) one)

pub all_reads : {A : Type 0} {item : List ℕ → Result (A × List ℕ) Stop} {L : A → List ℕ → Type 0} (f : Field) → 0 < length (start_of f) → Starts L f → Reads item L Anything → Reads (all_at item f) (Each L) (NotNext f)
all_reads {item = item} {L = L} f long starts reads = record {
  found = λ bytes xs rest e. many_found item L f reads.found (length bytes) bytes xs rest e;
  again = λ xs front rest each not_next. many_again item L f long starts reads (length (front ++ rest)) xs front rest each not_next (omega arith);
}

pub line_starts : {A : Type 0} (Says : List ℕ → A → Type 0) (f : Field) → Starts (IsLine Says f) f
line_starts Says f x front line = (line.text ++ 10 ∷ [], line.spelled)
