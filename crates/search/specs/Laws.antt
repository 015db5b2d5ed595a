-- What a sound record's numbers can be, where its waiting seed stands, and how long a list it takes. Assumes nothing.
use Rattle.std.specs.Prelude.{ℕ, ◌+◌, ◌*◌, ◌≤◌, ◌<◌, ◌≡◌, refl, Bool, true, false, ◌&&◌, cond, leb, ltb, eqb, Result, Ok, Err, ⊤}
use Rattle.std.proofs.Common.{sym, ◌∙◌, true≢false, arith, leb-true, ltb-true, ltb-false, eqb-true, le-leb, eq-eqb, ne_eqb}
use Rattle.common.specs.Tests.{case, both_true}
use Rattle.common.specs.declared.Refusal.{Refusal}
use Rattle.common.specs.declared.Refusal.TheVariants.{ListShortened}
use Rattle.common.specs.ChecksLaws.{refuses_none}
use Rattle.journal.specs.declared.Counts.{Counts}
use Rattle.journal.specs.Report.{total}
use Rattle.search.specs.Record.{sound, has_place, add_up, list_refusal}
use Rattle.search.specs.declared.run.Run.{Run}
use Rattle.search.specs.declared.run.Place.{Place}
use Rattle.search.specs.declared.run.Waiting.{Waiting}

-- ---- the five counts add up to a number of at most 656
add_up_gives_total : (c : Counts) (n : ℕ) → add_up c n ≡ true → (n ≤ 656) × (total c ≡ n)
unfolding add_up
add_up_gives_total c n h = let k = both_true (leb n 656) (eqb (total c) n) h in (leb-true _ _ k.0, eqb-true _ _ k.1)

pub add_up_true : (c : Counts) (n : ℕ) → n ≤ 656 → total c ≡ n → add_up c n ≡ true
unfolding add_up
add_up_true c n h e = simp (le-leb n 656 h, eq-eqb (total c) n e)

-- a sum that is the total where one of the two is at most 656 can stand for it
pub add_up_by_another_sum : (c : Counts) (n sum : ℕ) → ltb 656 sum ≡ ltb 656 (total c) → (sum ≤ 656 → sum ≡ total c) → (leb n 656 && eqb sum n) ≡ add_up c n
unfolding add_up
add_up_by_another_sum c n sum e f =
    case (ltb 656 sum)
    (λ t.
    let p = ltb-true 656 sum t in
    let q = ltb-true 656 (total c) (sym e ∙ t) in
    case (leb n 656) (λ u. let k = leb-true n 656 u in simp (u, ne_eqb sum n (λ z. omega arith), ne_eqb (total c) n (λ z. omega arith))) (λ u. simp u))
    (λ t. rw (f (ltb-false 656 sum t)))

-- ---- what a sound record's numbers are
pub record Bounds (r : Run) : Type 0 where
  pub share_max : r.options.min_counted ≤ 100
  pub rounds_max : r.options.refine_rounds ≤ 16
  pub round_max : r.place.round ≤ r.options.refine_rounds
  pub number_max : r.place.number ≤ 656
  pub counts_sum : total r.counts ≡ r.place.number
  pub len_max : r.place.len ≤ 512
  pub list_fits : 6 * r.place.len ≤ r.place.demand
  pub demand_min : 54 ≤ r.place.demand
  pub demand_max : r.place.demand ≤ 3072
  pub has_place_lem : has_place r.place r.waiting ≡ true

pub bounds_of_sound : (r : Run) → sound r ≡ true → Bounds r
unfolding sound
bounds_of_sound r h =
    let p = r.place in
    let s = leb r.options.min_counted 100 in
    let a = s && leb r.options.refine_rounds 16 in
    let b = a && leb p.round r.options.refine_rounds in
    let c = b && add_up r.counts p.number in
    let d = c && leb (6 * p.len) p.demand in
    let e = d && leb 54 p.demand in
    let f = e && leb p.demand 3072 in
    let h0 = both_true (leb p.len 512) (f && has_place p r.waiting) h in
    let h1 = both_true f (has_place p r.waiting) h0.1 in
    let h2 = both_true e (leb p.demand 3072) h1.0 in
    let h3 = both_true d (leb 54 p.demand) h2.0 in
    let h4 = both_true c (leb (6 * p.len) p.demand) h3.0 in
    let h5 = both_true b (add_up r.counts p.number) h4.0 in
    let h8 = add_up_gives_total r.counts p.number h5.1 in
    let h6 = both_true a (leb p.round r.options.refine_rounds) h5.0 in
    let h7 = both_true s (leb r.options.refine_rounds 16) h6.0 in
    record {
      share_max = leb-true _ _ h7.0;
      rounds_max = leb-true _ _ h7.1;
      round_max = leb-true _ _ h6.1;
      number_max = h8.0;
      counts_sum = h8.1;
      len_max = leb-true _ _ h0.0;
      list_fits = leb-true _ _ h4.1;
      demand_min = leb-true _ _ h3.1;
      demand_max = leb-true _ _ h2.1;
      has_place_lem = h1.1;
    }

-- an open run has a seed in its place
open_place_within_list : (p : Place) (w : Waiting) → has_place p w ≡ true → p.over ≡ false → p.at < p.len
unfolding has_place
open_place_within_list p w h e = ltb-true p.at p.len (rw e at h)

-- where a seed waits, the run is open
open_while_seed_waits : (p : Place) (w : Waiting) → has_place p w ≡ true → w.is_waiting ≡ true → p.over ≡ false
unfolding has_place
open_while_seed_waits p w h e = go p.over refl
  where
    go : (x : Bool) → p.over ≡ x → p.over ≡ false
    go false k = k
    go true k = absurd (true≢false (sym (rw (k, e) at h)))

pub open_run_at_lt_len : (r : Run) → Bounds r → r.place.over ≡ false → r.place.at < r.place.len
open_run_at_lt_len r b = open_place_within_list r.place r.waiting b.has_place_lem

pub waiting_run_at_lt_len : (r : Run) → Bounds r → r.waiting.is_waiting ≡ true → r.place.at < r.place.len
waiting_run_at_lt_len r b h = open_run_at_lt_len r b (open_while_seed_waits r.place r.waiting b.has_place_lem h)

-- ---- a list that isn't refused is as long as the run demands; one that is, is shorter, and the refusal is 10
pub accepted_list_has_demand : (r : Run) (n : ℕ) → list_refusal r n ≡ Ok tt → r.place.demand ≤ n
accepted_list_has_demand r n h = ltb-false n r.place.demand (refuses_none _ ListShortened _ h).0

err_of_cond : (b : Bool) (r e : Refusal) → ◌≡◌ {A = Result ⊤ Refusal} (cond b (Err r) (Ok tt)) (Err e) → (b ≡ true) × (e ≡ r)
err_of_cond true r e h = (refl, cc)
err_of_cond false r e h = cc

pub refused_list_is_short : (r : Run) (n : ℕ) (e : Refusal) → list_refusal r n ≡ Err e → (n < r.place.demand) × (e ≡ ListShortened)
refused_list_is_short r n e h = let k = err_of_cond (ltb n r.place.demand) ListShortened e h in (ltb-true n r.place.demand k.0, k.1)

-- ---- the six numbers of the seed in place lie within the list
pub seed_in_place_within_list : (r : Run) (n : ℕ) → Bounds r → r.place.at < r.place.len → r.place.demand ≤ n → 6 * r.place.at + 6 ≤ n
seed_in_place_within_list r n b h k = omega (arith, b.list_fits)
