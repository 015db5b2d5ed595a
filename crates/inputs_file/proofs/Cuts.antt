-- Where a byte first stands.
use Rattle.std.proofs.Common.{◌≡◌, ◌≢◌, ℕ, zero, suc, ◌<◌, false, ◌==◌, List, [], ◌∷◌, ◌++◌, length, get_or, take, drop, Option, Some, None, refl, ap, subst, arith, inl, inr}
use Rattle.std.specs.Option.{option_map}
use Rattle.std.proofs.lemmas.Bool.Decides.{eqb_tells, Decides-eqb}
use Rattle.inputs_file.specs.Grammar.{Lacks}
use Rattle.inputs_file.specs.Values.{cut}

-- at its first place
pub cut_at : (c : ℕ) (bytes : List ℕ) (k : ℕ) → k < length bytes → get_or bytes k 0 ≡ c → ((j : ℕ) → j < k → get_or bytes j 0 ≢ c) → cut c bytes ≡ Some (take k bytes, drop (suc k) bytes)
unfolding cut
cut_at c [] k lt here before = absurd (omega arith)
cut_at c (b ∷ bs) zero lt here before =
    elim (eqb_tells b c) [
      | inl t ↦ rw t.0 refl
      | inr f ↦ absurd (f.1 here)
    ]
cut_at c (b ∷ bs) (suc k) lt here before =
    elim (eqb_tells b c) [
      | inl t ↦ absurd (before 0 (omega arith) t.1)
      | inr f ↦ rw (f.0, cut_at c bs k (omega arith) here (λ j h. before (suc j) (omega arith))) refl
    ]

-- where it stands nowhere
pub cut_nowhere : (c : ℕ) (bytes : List ℕ) → ((j : ℕ) → j < length bytes → get_or bytes j 0 ≢ c) → cut c bytes ≡ None
unfolding cut
cut_nowhere c [] none = refl
cut_nowhere c (b ∷ bs) none =
    elim (eqb_tells b c) [
      | inl t ↦ absurd (none 0 (omega arith) t.1)
      | inr f ↦ rw (f.0, cut_nowhere c bs (λ j h. none (suc j) (omega arith))) refl
    ]

-- what is cut is joined again, and the front lacks the byte
pub cut_found : (c : ℕ) (bytes : List ℕ) (x : List ℕ × List ℕ) → cut c bytes ≡ Some x → (bytes ≡ x.0 ++ c ∷ x.1) × Lacks c x.0
unfolding cut
cut_found c [] x e = absurd cc
cut_found c (b ∷ bs) x e =
    elim (eqb_tells b c) [
      | inl t ↦
          let is : Some ([], bs) ≡ Some x = rw t.0 at e in
          let same : ([], bs) ≡ x = cc in
          subst (λ (y : List ℕ × List ℕ). (b ∷ bs ≡ y.0 ++ c ∷ y.1) × Lacks c y.0) same (ap (λ (h : ℕ). h ∷ bs) t.1, tt)
      | inr f ↦ further b f.0 (λ y is. cut_found c bs y is) (cut c bs) refl (rw f.0 at e)
    ]
  where
    further : (h : ℕ) → (h == c) ≡ false → ((y : List ℕ × List ℕ) → cut c bs ≡ Some y → (bs ≡ y.0 ++ c ∷ y.1) × Lacks c y.0) → (o : Option (List ℕ × List ℕ)) → cut c bs ≡ o → option_map (λ y. (h ∷ y.0, y.1)) o ≡ Some x → (h ∷ bs ≡ x.0 ++ c ∷ x.1) × Lacks c x.0
    further h ne below None is e = absurd cc
    further h ne below (Some y) is e =
        let same : (h ∷ y.0, y.1) ≡ x = cc in
        let rest = below y is in
        subst (λ (z : List ℕ × List ℕ). (h ∷ bs ≡ z.0 ++ c ∷ z.1) × Lacks c z.0) same (ap (λ (t : List ℕ). h ∷ t) rest.0, (ne, rest.1))

-- and what was joined is cut
pub cut_again : (c : ℕ) (front rest : List ℕ) → Lacks c front → cut c (front ++ c ∷ rest) ≡ Some (front, rest)
unfolding cut
cut_again c [] rest lacks = rw ((Decides-eqb c c).1 refl) refl
cut_again c (b ∷ bs) rest lacks = rw (lacks.0, cut_again c bs rest lacks.1) refl
