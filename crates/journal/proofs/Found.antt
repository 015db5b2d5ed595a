-- What the parser finds, by what the writer made of the line that the bytes would be. Assumes nothing.
use Rattle.std.proofs.Common.{ℕ, ap₂, Result, Ok, Err, Some, None, ◌+◌, ◌<◌, ◌≤◌, ◌≡◌, sym, ap, ◌∙◌, Bool, true, false, not, List, ◌++◌, arith, le-ltb, lt-ltb, eq-eqb, ne_eqb, length, get_or, take, drop, length-append, length-take, length-drop, take_at}
use Rattle.common.specs.Tests.{case}
use Rattle.seeds.specs.declared.CandidateSeed.{CandidateSeed}
use Rattle.seeds.specs.Layout.{seed_at}
use Rattle.journal.specs.declared.ScoredFields.{ScoredFields}
use Rattle.score.specs.declared.outcome.SkipReason.{SkipReason}
use Rattle.common.specs.declared.Refusal.{Refusal}
use Rattle.common.specs.declared.Refusal.TheVariants.{NotWritable}
use Rattle.journal.specs.declared.Line.{Line}
use Rattle.journal.specs.declared.Read.TheVariants.{Got, End, NotALine}
use Rattle.journal.specs.Outcome.{Recorded}
use Rattle.journal.specs.Line.{line_bytes, writable}
use Rattle.journal.specs.Reading.{number_at, decimal_width_at, reals, scored_at, reason_of, outcome_at, from_round, from_seed, unchecked_line, begins, of_form, line_number_of, read_line}
use Rattle.journal.proofs.Unique.{begins_is_append}
use Rattle.journal.specs.Writing.{refuses_line, write_reply, write_into}

-- ---- what the writer's reply tells
refuses_only_if_not_writable : (l : Line) (o : List ℕ) → length o ≡ 256 → refuses_line l o ≡ not (writable l)
unfolding refuses_line
refuses_only_if_not_writable l o h = simp (le-ltb (length o) 256 (omega arith))

module _ (l : Line) (o m : List ℕ) (n : ℕ) (big : length o ≡ 256) where
  pub record WroteLine : Type 0 where
    pub can : writable l ≡ true
    pub long : n ≡ length (line_bytes l)
    pub front : take n m ≡ line_bytes l

  pub wrote_line_if_ok : (w : Result ℕ Refusal) → w ≡ write_reply l o → m ≡ write_into l o → w ≡ Ok n → WroteLine
  unfolding write_reply write_into
  wrote_line_if_ok w s t e = case (writable l) (λ c.
      let r : refuses_line l o ≡ false = refuses_only_if_not_writable l o big ∙ simp c in
      let a : ◌≡◌ {A = Result ℕ Refusal} (Ok n) (Ok (length (line_bytes l))) = sym e ∙ s ∙ simp r in
      let b : n ≡ length (line_bytes l) = cc in
      let d : m ≡ line_bytes l ++ drop (length (line_bytes l)) o = t ∙ simp r in
      record { can = c; long = b; front = ap (take n) d ∙ take_at (line_bytes l) (drop (length (line_bytes l)) o) n (sym b) })
      (λ c.
      let r : refuses_line l o ≡ true = refuses_only_if_not_writable l o big ∙ simp c in
      let a : ◌≡◌ {A = Result ℕ Refusal} (Ok n) (Err NotWritable) = sym e ∙ s ∙ simp r in
      cc)

-- the part of the buffer that holds the line
module _ (l : Line) (o m : List ℕ) (n : ℕ) (big : length o ≡ 256) (d : WroteLine l o m n big) where
  pub front_has_n_bytes : n ≡ length (take n m)
  front_has_n_bytes = d.long ∙ sym (ap length d.front)

  pub front_within_buffer : n ≤ length m
  front_within_buffer = omega (arith, front_has_n_bytes, length-take n m)

pub not_writable_if_refused : (l : Line) (o : List ℕ) (k : Refusal) → length o ≡ 256 → (w : Result ℕ Refusal) → w ≡ write_reply l o → w ≡ Err k → writable l ≡ false
unfolding write_reply
not_writable_if_refused l o k big w s e = case (writable l) (λ c.
    let r : refuses_line l o ≡ false = refuses_only_if_not_writable l o big ∙ simp c in
    let a : ◌≡◌ {A = Result ℕ Refusal} (Err k) (Ok (length (line_bytes l))) = sym e ∙ s ∙ simp r in
    cc)
    (λ c. c)

-- ---- the parser's answers
module _ (s : List ℕ) (at : ℕ) where
  pub read_line_is_end : length s ≤ at → End ≡ read_line s at
  unfolding read_line
  read_line_is_end h = simp (le-ltb at (length s) h)

  pub not_of_form_without_outcome : at < length s → None ≡ unchecked_line (drop at s) → NotALine (line_number_of s at) ≡ read_line s at
  unfolding read_line
  not_of_form_without_outcome h e = rw (lt-ltb at (length s) h, ← e)

  module _ (l : Line) (h : at < length s) (e : Some l ≡ unchecked_line (drop at s)) where
    pub not_of_form_if_not_writable : writable l ≡ false → NotALine (line_number_of s at) ≡ read_line s at
    unfolding read_line of_form
    not_of_form_if_not_writable c = rw (lt-ltb at (length s) h, ← e, c)

    module _ (o m : List ℕ) (n : ℕ) (big : length o ≡ 256) (d : WroteLine l o m n big) where
      begins_with_line_bytes : (b : Bool) → b ≡ begins (take n m) (drop at s) → begins (line_bytes l) (drop at s) ≡ b
      begins_with_line_bytes b f = sym (f ∙ ap (λ (w : List ℕ). begins w (drop at s)) d.front)

      pub got_if_bytes_begin_so : (b : Bool) → b ≡ begins (take n m) (drop at s) → b ≡ true → Got l (at + n) ≡ read_line s at
      unfolding read_line of_form
      got_if_bytes_begin_so b f t = rw (lt-ltb at (length s) h, ← e, d.can, begins_with_line_bytes b f, t, d.long)

      pub not_of_form_if_bytes_differ : (b : Bool) → b ≡ begins (take n m) (drop at s) → b ≡ false → NotALine (line_number_of s at) ≡ read_line s at
      unfolding read_line of_form
      not_of_form_if_bytes_differ b f t = rw (lt-ltb at (length s) h, ← e, d.can, begins_with_line_bytes b f, t)

      -- the place behind the line lies in the journal
      pub place_behind_line_in_journal : (b : Bool) → b ≡ begins (take n m) (drop at s) → b ≡ true → at + n ≤ length s
      place_behind_line_in_journal b f t =
          let w = line_bytes l in
          let p = begins_is_append w (drop at s) (begins_with_line_bytes b f ∙ t) in
          omega (arith, ap length p, d.long, length-append w (drop (length w) (drop at s)), length-drop at s)

-- ---- the parts of what the bytes would be
module _ (s : List ℕ) (c : ℕ) (e : c ≡ get_or s 1 0) where
  pub outcome_at_of_scored : (r : ScoredFields) (t : List ℕ) → c ≡ 83 → t ≡ drop 2 s → r ≡ scored_at (reals 8 t) → Some (Ok r) ≡ outcome_at s
  unfolding outcome_at
  outcome_at_of_scored r t h g f = rw (f, g, ← e, eq-eqb c 83 h)

  pub no_outcome_without_reason : (c ≡ 83 → ⊥) → None ≡ reason_of c → None ≡ outcome_at s
  unfolding outcome_at
  no_outcome_without_reason h f = rw (← e, ne_eqb c 83 h, ← f)

  pub outcome_at_of_skipped : (r : SkipReason) → (c ≡ 83 → ⊥) → Some r ≡ reason_of c → Some (Err r) ≡ outcome_at s
  unfolding outcome_at
  outcome_at_of_skipped r h f = rw (← e, ne_eqb c 83 h, ← f)

-- u from the round on, t from the comma before the seed on, v from the comma before the outcome on
module _ (s u t v : List ℕ) (a b : ℕ) (ea : a ≡ decimal_width_at s) (eu : u ≡ drop (a + 1) s) (eb : b ≡ decimal_width_at u) (et : t ≡ drop b u) (ev : v ≡ drop 102 t) where
  from_round_by_places : u ≡ from_round s
  unfolding from_round
  from_round_by_places = eu ∙ ap (λ (k : ℕ). drop (k + 1) s) ea

  from_seed_by_places : t ≡ from_seed s
  unfolding from_seed
  from_seed_by_places = et ∙ ap₂ (λ (k : ℕ) (w : List ℕ). drop k w) (eb ∙ ap decimal_width_at from_round_by_places) from_round_by_places

  outcome_at_by_places : outcome_at (drop 102 (from_seed s)) ≡ outcome_at v
  outcome_at_by_places = ap outcome_at (sym (ev ∙ ap (drop 102) from_seed_by_places))

  pub no_unchecked_line_without_outcome : None ≡ outcome_at v → None ≡ unchecked_line s
  unfolding unchecked_line
  no_unchecked_line_without_outcome eo = rw (outcome_at_by_places, ← eo)

  pub unchecked_line_of_parts : (n r : ℕ) (d : CandidateSeed) (o : Recorded) → n ≡ number_at 10 a s → r ≡ number_at 10 b u → d ≡ seed_at (reals 6 t) 0 → Some o ≡ outcome_at v
      → Some (record { number = n; round = r; seed = d; outcome = o }) ≡ unchecked_line s
  unfolding unchecked_line
  unchecked_line_of_parts n r d o en er ed eo = rw (outcome_at_by_places, ← eo, ← from_round_by_places, ← from_seed_by_places, ← ea, ← eb, en, er, ed)
