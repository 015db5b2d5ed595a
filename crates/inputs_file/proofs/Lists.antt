-- Reading as many lines as there are, as a loop does.
use Rattle.std.proofs.Common.{◌≡◌, ℕ, zero, suc, ◌<◌, ◌≤◌, Bool, true, false, cond, List, [], ◌∷◌, ◌++◌, length, drop, Result, Ok, Err, refl, sym, ap, ◌∙◌, append_assoc, arith, length-append}
use Rattle.std.specs.Prelude.{nat_eq}
use Rattle.std.specs.List.{starts_with}
use Rattle.std.proofs.lemmas.List.{append-nil}
use Rattle.inputs_file.specs.declared.field.Field.{Field}
use Rattle.inputs_file.specs.declared.fault.Stop.{Stop}
use Rattle.inputs_file.specs.declared.fault.Unread.{Unread}
use Rattle.inputs_file.specs.declared.fault.Unread.TheVariants as unread
use Rattle.inputs_file.specs.Grammar.{start_of}
use Rattle.inputs_file.specs.Reading.{Fails, ◌>>◌, mapped, many_at, all_at}
use Rattle.inputs_file.proofs.LineLaws.{Reads, Anything, Starts, begins_is, consed, first_step, second_step, map_step}

-- reading leaves less
abbrev pub Shrinks : {A : Type 0} → (List ℕ → Result (A × List ℕ) Stop) → Type 0
Shrinks {A = A} item = (bytes : List ℕ) (x : A) (rest : List ℕ) → item bytes ≡ Ok (x, rest) → length rest < length bytes

pub item_shrinks : {A : Type 0} (item : List ℕ → Result (A × List ℕ) Stop) (L : A → List ℕ → Type 0) (f : Field) → 0 < length (start_of f) → Starts L f → Reads item L Anything → Shrinks item
item_shrinks item L f long starts reads bytes x rest e =
    let one = reads.found bytes x rest e in
    let begun = starts x one.0 one.1 in
    omega (arith, ap length one.2, length-append one.0 rest, ap length begun.1, length-append (start_of f) begun.0)

-- what was read before, and what is still read
abbrev pub with_front : {A : Type 0} → List A → Result (List A × List ℕ) Stop → Result (List A × List ℕ) Stop
with_front front (Ok x) = Ok (front ++ x.0, x.1)
with_front front (Err s) = Err s

begun_is_long : (f : Field) (bytes : List ℕ) → 0 < length (start_of f) → starts_with nat_eq bytes (start_of f) ≡ true → 0 < length bytes
begun_is_long f bytes long begins =
    let joined = (begins_is bytes (start_of f)).0 begins in
    omega (arith, ap length joined, length-append (start_of f) (drop (length (start_of f)) bytes))

-- more steps than bytes change nothing
enough : {A : Type 0} (item : List ℕ → Result (A × List ℕ) Stop) (f : Field) → 0 < length (start_of f) → Shrinks item
    → (n m : ℕ) (bytes : List ℕ) → length bytes ≤ n → length bytes ≤ m → many_at item f n bytes ≡ many_at item f m bytes
unfolding many_at
enough item f long shrinks zero zero bytes le le' = refl
enough {A = A} item f long shrinks zero (suc m) bytes le le' = by_cases (starts_with nat_eq bytes (start_of f)) refl
  where
    by_cases : (b : Bool) → starts_with nat_eq bytes (start_of f) ≡ b → Ok ([], bytes) ≡ cond b (mapped consed (item >> many_at item f m) bytes) (Ok ([], bytes))
    by_cases true is = absurd (omega (arith, begun_is_long f bytes long is))
    by_cases false is = refl
enough {A = A} item f long shrinks (suc n) zero bytes le le' = by_cases (starts_with nat_eq bytes (start_of f)) refl
  where
    by_cases : (b : Bool) → starts_with nat_eq bytes (start_of f) ≡ b → cond b (mapped consed (item >> many_at item f n) bytes) (Ok ([], bytes)) ≡ Ok ([], bytes)
    by_cases true is = absurd (omega (arith, begun_is_long f bytes long is))
    by_cases false is = refl
enough {A = A} item f long shrinks (suc n) (suc m) bytes le le' = further (λ rest l l'. enough item f long shrinks n m rest l l') (item bytes) refl
  where
    same : (b : Bool) (x y : Result (List A × List ℕ) Stop) → x ≡ y → cond b x (Ok ([], bytes)) ≡ cond b y (Ok ([], bytes))
    same b x y e = ap (λ (z : Result (List A × List ℕ) Stop). cond b z (Ok ([], bytes))) e

    further : ((rest : List ℕ) → length rest ≤ n → length rest ≤ m → many_at item f n rest ≡ many_at item f m rest) → (r : Result (A × List ℕ) Stop) → item bytes ≡ r
        → cond (starts_with nat_eq bytes (start_of f)) (mapped consed (item >> many_at item f n) bytes) (Ok ([], bytes)) ≡ cond (starts_with nat_eq bytes (start_of f)) (mapped consed (item >> many_at item f m) bytes) (Ok ([], bytes))
    further below (Err s) is = same (starts_with nat_eq bytes (start_of f)) (mapped consed (item >> many_at item f n) bytes) (mapped consed (item >> many_at item f m) bytes)
        (ap (λ (r : Result (A × List ℕ) Stop). map_step consed (first_step (many_at item f n) r)) is ∙ sym (ap (λ (r : Result (A × List ℕ) Stop). map_step consed (first_step (many_at item f m) r)) is))
    further below (Ok x) is = same (starts_with nat_eq bytes (start_of f)) (mapped consed (item >> many_at item f n) bytes) (mapped consed (item >> many_at item f m) bytes)
        (ap (λ (r : Result (A × List ℕ) Stop). map_step consed (first_step (many_at item f n) r)) is
        ∙ ap (λ (r : Result (List A × List ℕ) Stop). map_step consed (second_step x.0 r)) (below x.1 (omega (arith, shrinks bytes x.0 x.1 is)) (omega (arith, shrinks bytes x.0 x.1 is)))
        ∙ sym (ap (λ (r : Result (A × List ℕ) Stop). map_step consed (first_step (many_at item f m) r)) is))

-- where a line is next
unrolled : {A : Type 0} (item : List ℕ → Result (A × List ℕ) Stop) (f : Field) (bytes : List ℕ) (k : ℕ) → length bytes ≡ suc k → starts_with nat_eq bytes (start_of f) ≡ true
    → all_at item f bytes ≡ map_step consed (first_step (many_at item f k) (item bytes))
unfolding many_at
unrolled item f bytes k len begins = rw (len, begins) refl

pred : ℕ → ℕ
pred zero = zero
pred (suc n) = n

suc_pred : (n : ℕ) → 0 < n → n ≡ suc (pred n)
unfolding pred
suc_pred zero h = absurd (omega arith)
suc_pred (suc n) h = refl

pub goes_on : {A : Type 0} (item : List ℕ → Result (A × List ℕ) Stop) (f : Field) → 0 < length (start_of f) → Shrinks item
    → (front : List A) (rest : List ℕ) (x : A) (after : List ℕ) (total : Result (List A × List ℕ) Stop)
    → starts_with nat_eq rest (start_of f) ≡ true → item rest ≡ Ok (x, after) → with_front front (all_at item f rest) ≡ total → with_front (front ++ x ∷ []) (all_at item f after) ≡ total
goes_on {A = A} item f long shrinks front rest x after total begins read so_far =
    let k = pred (length rest) in
    let len : length rest ≡ suc k = suc_pred (length rest) (begun_is_long f rest long begins) in
    let one : all_at item f rest ≡ map_step consed (second_step x (many_at item f k after)) = unrolled item f rest k len begins ∙ ap (λ (r : Result (A × List ℕ) Stop). map_step consed (first_step (many_at item f k) r)) read in
    let two : many_at item f k after ≡ all_at item f after = enough item f long shrinks k (length after) after (omega (arith, shrinks rest x after read)) (omega arith) in
    let three : all_at item f rest ≡ map_step consed (second_step x (all_at item f after)) = one ∙ ap (λ (r : Result (List A × List ℕ) Stop). map_step consed (second_step x r)) two in
    sym (ap (with_front front) three ∙ regroup (all_at item f after)) ∙ so_far
  where
    regroup : (r : Result (List A × List ℕ) Stop) → with_front front (map_step consed (second_step x r)) ≡ with_front (front ++ x ∷ []) r
    regroup (Ok y) = ap (λ (ys : List A). Ok (ys, y.1)) (simp append_assoc)
    regroup (Err s) = refl

pub ends : {A : Type 0} (e : Unread) (item : List ℕ → Result (A × List ℕ) Stop) (f : Field) → 0 < length (start_of f)
    → (front : List A) (rest : List ℕ) (total : Result (List A × List ℕ) Stop) → starts_with nat_eq rest (start_of f) ≡ true → Fails e (item rest) → with_front front (all_at item f rest) ≡ total → Fails e total
ends unread.Memory item f long front rest total begins fails so_far = tt
ends {A = A} (unread.Stop s) item f long front rest total begins fails so_far =
    let k = pred (length rest) in
    let len : length rest ≡ suc k = suc_pred (length rest) (begun_is_long f rest long begins) in
    sym so_far ∙ ap (with_front front) (unrolled item f rest k len begins ∙ ap (λ (r : Result (A × List ℕ) Stop). map_step consed (first_step (many_at item f k) r)) fails)

none_next : {A : Type 0} (item : List ℕ → Result (A × List ℕ) Stop) (f : Field) (bytes : List ℕ) (n : ℕ) → starts_with nat_eq bytes (start_of f) ≡ false → many_at item f n bytes ≡ Ok ([], bytes)
unfolding many_at
none_next item f bytes zero begins = refl
none_next item f bytes (suc n) begins = rw begins refl

-- where no line is next
pub is_done : {A : Type 0} (item : List ℕ → Result (A × List ℕ) Stop) (f : Field) (front : List A) (rest : List ℕ) (total : Result (List A × List ℕ) Stop)
    → starts_with nat_eq rest (start_of f) ≡ false → with_front front (all_at item f rest) ≡ total → total ≡ Ok (front, rest)
is_done {A = A} item f front rest total begins so_far = sym so_far ∙ ap (with_front front) (none_next item f rest (length rest) begins) ∙ ap (λ (xs : List A). Ok (xs, rest)) (append-nil front)
