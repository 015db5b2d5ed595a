-- A run that is over has tried every typed pair within the bound. Assumes nothing.
use Rattle.std.proofs.Common.{ℕ, zero, suc, ◌≡◌, refl, sym, ap, ◌∙◌, ⊎_elim, true, List, [], ◌∷◌, map, Float}
use Rattle.std.specs.Float.Ieee.{neg, le}
use mathlib.Core.List.{Memᴰ}
use Rattle.float.specs.Float.{is_finite}
use Rattle.seeds.specs.declared.CandidateSeed.{CandidateSeed}
use Rattle.seeds.specs.Rules.{tilts}
use Rattle.seeds.specs.Layout.{six, all_seeds, seed_at}
use Rattle.seeds.proofs.Tried.{every_tilt_tried}
use Rattle.score.specs.Reasons.{Outcome}
use Rattle.book.specs.Book.{Inputs, Entry, Book, entries, first_list}
use Rattle.book.specs.Trace.{Handing, handing_of}
use Rattle.book.specs.Named.{outcomes_in, plan, handings_of, handings}
use Rattle.book.specs.Theorem.{TiltTried}
use Rattle.book.proofs.Planned.{answered_round_planned_through}
use Rattle.book.proofs.Good.{Good}

abbrev handing_with : ℕ → ℕ → CandidateSeed → Handing
handing_with r n s = record { round = r; number = n; part = six s }

-- ---- each seed of a list is handed out
listed_seed_handed_out : (r n : ℕ) (ss : List CandidateSeed) {s : CandidateSeed} → Memᴰ s ss → (m : ℕ) × Memᴰ (handing_with r m s) (handings_of r n ss)
unfolding handings_of
listed_seed_handed_out r n [] m = absurd (mathlib.Core.List.Memᴰ.not-nil m)
listed_seed_handed_out r n (t ∷ ss) {s} m =
    ⊎_elim
    (λ e. (n, mathlib.Core.List.Memᴰ.head (ap (handing_with r n) e)))
    (λ k. let p = listed_seed_handed_out r (suc n) ss k in (p.0, mathlib.Core.List.Memᴰ.tail p.1))
    (mathlib.Core.List.Memᴰ.cases_cons m)

-- round 0's seeds are handed out first
first_round_among_handings : (i : Inputs) (os : ℕ → List Outcome) (r : ℕ) {h : Handing} → Memᴰ h (handings_of 0 0 (first_list i)) → Memᴰ h (handings i os (suc r))
unfolding handings plan
first_round_among_handings i os zero m = m
first_round_among_handings i os (suc r) m = mathlib.Core.List.Memᴰ.append_left _ (first_round_among_handings i os r m)

-- ---- each handed-out seed was answered
seed_at_six : (s : CandidateSeed) → seed_at (six s) 0 ≡ s
seed_at_six s = refl

six_injective : (s t : CandidateSeed) → six s ≡ six t → s ≡ t
six_injective s t e = sym (seed_at_six s) ∙ ap (λ (l : List Float). seed_at l 0) e ∙ seed_at_six t

entry_of_handing : (e : Entry) (n : ℕ) (s : CandidateSeed) → handing_of e ≡ handing_with 0 n s → e ≡ record { number = n; round = 0; seed = s; outcome = e.outcome }
entry_of_handing e n s h =
    let a : e.round ≡ 0 = ap (λ (x : Handing). x.round) h in
    let b : e.number ≡ n = ap (λ (x : Handing). x.number) h in
    let c : e.seed ≡ s = six_injective e.seed s (ap (λ (x : Handing). x.part) h) in
    rw (a, b, c)

handed_seed_answered : (es : List Entry) (n : ℕ) (s : CandidateSeed) → Memᴰ (handing_with 0 n s) (map handing_of es)
    → (o : Outcome) × Memᴰ (record { number = n; round = 0; seed = s; outcome = o }) es
handed_seed_answered es n s m = let p = mathlib.Core.List.Memᴰ.of_map handing_of es m in (p.0.outcome, rw (entry_of_handing p.0 n s p.2) at p.1)

-- ---- a book that is over
pub every_typed_tilt_tried : (i : Inputs) (b : Book) → Good i b → b.over ≡ true → (x y : Float) → Memᴰ x i.xs → Memᴰ y i.ys
    → le (neg i.max) x ≡ true → le x i.max ≡ true → le (neg i.max) y ≡ true → le y i.max ≡ true
    → TiltTried i (map handing_of (entries b)) (entries b) (tilts x y)
unfolding first_list
every_typed_tilt_tried i b g o x y mx my lx hx ly hy =
    let f : is_finite i.max ≡ true = ap (λ (j : Inputs). is_finite j.max) (sym g.inputs_are) ∙ g.core.sized.finite_bound in
    let t = every_tilt_tried (all_seeds i.decomposition) i.xs i.ys i.base i.max f x y mx my lx hx ly hy in
    let os = outcomes_in (entries b) in
    let d : map handing_of (entries b) ≡ handings i os (suc b.round) = (answered_round_planned_through b g.core.planned (g.full o)).handings_are ∙ ap (λ (j : Inputs). handings j os (suc b.round)) g.inputs_are in
    let q = listed_seed_handed_out 0 0 (first_list i) t.listed in
    let h : Memᴰ (handing_with 0 q.0 t.seed) (map handing_of (entries b)) = rw d (first_round_among_handings i os b.round q.1) in
    let a = handed_seed_answered (entries b) q.0 t.seed h in
    record { by = t; number = q.0; outcome = a.0; handed_out = h; answered = a.1 }
