-- Lines that belong together, and the file.
use Rattle.std.proofs.Common.{◌≡◌, ℕ, ◌-◌, ◌<◌, ◌≤◌, Bool, true, false, cond, List, [], ◌∷◌, ◌++◌, length, take, drop, Option, Some, None, Result, Ok, Err, refl, sym, ap, subst, ◌∙◌, append_assoc, arith, length-append, ◌⊎◌, inl, inr}
use Rattle.std.specs.Prelude.{nat_eq}
use Rattle.std.specs.List.{starts_with, AllByRecursion}
use Rattle.std.specs.Float.Ieee.{Float}
use Rattle.std.proofs.lemmas.List.{append-nil, take_at}
use Rattle.inputs_file.specs.declared.field.Field.{Field}
use Rattle.inputs_file.specs.declared.field.Field.TheVariants as field
use Rattle.inputs_file.specs.declared.fault.Stop.{Stop}
use Rattle.inputs_file.specs.declared.stored.Seed.{Seed}
use Rattle.inputs_file.specs.Grammar.{start_of, IsLine, Joined, ◌<>◌, Each, IsText, IsPair, IsWhole, IsReal, IsFlag, IsDigest, IsSum, IsOrigin, unnamed_head, named_head, IsOpening, IsViewsFile, AreOptions, IsBase, IsCentre, IsSeed, Stored, IsBody, IsFile}
use Rattle.inputs_file.specs.Theorem.{OneReading}
use Rattle.inputs_file.specs.Values.{origin_of, digest_of, flag_of, sum_of}
use Rattle.inputs_file.specs.Reading.{stop, field_at, text_at, pair_at, whole_at, real_at, ◌>>◌, mapped, opening_at, file_of, views_file_at, options_of, options_at, base_of, base_at, centre_of, centre_at, seed_of, seed_at, all_at, stored_of, body_at, ended, closed, file_at}
use Rattle.inputs_file.proofs.TextLaws.{text_values, pair_values, whole_values, real_values, flag_values, origin_values, digest_values, sum_values}
use Rattle.inputs_file.proofs.LineLaws.{Reads, Anything, begins_is, ok_is, map_step, then_found, then_again, mapped_found, field_reads, then_reads, free_reads, mapped_reads, NotNext, Starts, all_reads, line_starts}
use Rattle.inputs_file.proofs.Lists.{Shrinks, item_shrinks}

pub text_reads : (f : Field) → Reads (text_at f) (IsLine IsText f) Anything
text_reads f = field_reads _ IsText text_values f

pub pair_reads : (f : Field) → Reads (pair_at f) (IsLine IsPair f) Anything
pair_reads f = field_reads _ IsPair pair_values f

pub whole_reads : (f : Field) → Reads (whole_at f) (IsLine IsWhole f) Anything
whole_reads f = field_reads _ IsWhole whole_values f

pub real_reads : (f : Field) → Reads (real_at f) (IsLine IsReal f) Anything
real_reads f = field_reads _ IsReal real_values f

pub options_reads : Reads options_at AreOptions Anything
unfolding options_at
options_reads = mapped_reads options_of
    (λ o. (o.rounds, (o.step, (o.bound, (o.one_axis, o.min_counted))))) (λ x. refl) (λ o. refl)
    (free_reads (whole_reads field.Rounds) (free_reads (real_reads field.Step) (free_reads (real_reads field.Bound) (free_reads (field_reads flag_of IsFlag flag_values field.OneAxis) (whole_reads field.MinCounted)))))

pub base_reads : Reads base_at IsBase Anything
unfolding base_at
base_reads = mapped_reads base_of (λ k. (k.fx, (k.fy, (k.cx, k.cy)))) (λ x. refl) (λ k. refl)
    (free_reads (real_reads field.BaseFx) (free_reads (real_reads field.BaseFy) (free_reads (real_reads field.BaseCx) (real_reads field.BaseCy))))

pub centre_reads : Reads centre_at IsCentre Anything
unfolding centre_at
centre_reads = mapped_reads centre_of (λ c. (c.x, c.y)) (λ x. refl) (λ c. refl) (free_reads (real_reads field.CentreX) (real_reads field.CentreY))

pub seed_reads : Reads seed_at IsSeed Anything
unfolding seed_at
seed_reads = mapped_reads seed_of
    (λ s. (s.fx, (s.fy, (s.cx, (s.cy, (s.tilt_x, s.tilt_y)))))) (λ x. refl) (λ s. refl)
    (free_reads (real_reads field.SeedFx) (free_reads (real_reads field.SeedFy) (free_reads (real_reads field.SeedCx) (free_reads (real_reads field.SeedCy) (free_reads (real_reads field.SeedTiltX) (real_reads field.SeedTiltY))))))

seed_starts : Starts IsSeed field.SeedFx
seed_starts s front j =
    let begun = line_starts IsReal field.SeedFx s.fx j.front j.first in
    (begun.0 ++ j.rest, j.joined ∙ ap (λ (t : List ℕ). t ++ j.rest) begun.1 ∙ append_assoc (start_of field.SeedFx) begun.0 j.rest)

-- ---- the library and the host

opening_found : (bytes : List ℕ) (x : List ℕ × Option (List ℕ × List ℕ)) (rest : List ℕ) → opening_at bytes ≡ Ok (x, rest) → (front : List ℕ) × IsOpening x front × (bytes ≡ front ++ rest)
unfolding opening_at
opening_found bytes x rest e = by_cases (starts_with nat_eq bytes unnamed_head) refl (starts_with nat_eq bytes named_head) refl e
  where
    named : List ℕ → Result ((List ℕ × Option (List ℕ × List ℕ)) × List ℕ) Stop
    named = text_at field.Library >> mapped (λ host. Some host) (pair_at field.Host)

    joins : (head behind front : List ℕ) → bytes ≡ head ++ behind → behind ≡ front ++ rest → bytes ≡ (head ++ front) ++ rest
    joins head behind front one two = one ∙ ap (λ (t : List ℕ). head ++ t) two ∙ sym (append_assoc head front rest)

    by_cases : (u : Bool) → starts_with nat_eq bytes unnamed_head ≡ u → (n : Bool) → starts_with nat_eq bytes named_head ≡ n
        → cond u (mapped (λ library. (library, None)) (text_at field.Library) (drop 20 bytes)) (cond n ((text_at field.Library >> mapped (λ host. Some host) (pair_at field.Host)) (drop 20 bytes)) (Err (stop field.Head bytes))) ≡ Ok (x, rest)
        → (front : List ℕ) × IsOpening x front × (bytes ≡ front ++ rest)
    by_cases true is n other h =
        let one = mapped_found (λ library. (library, None)) (text_at field.Library) (IsLine IsText field.Library) (text_reads field.Library).found (drop 20 bytes) x rest h in (
          unnamed_head ++ one.0,
          subst (λ (y : List ℕ × Option (List ℕ × List ℕ)). IsOpening y (unnamed_head ++ one.0)) one.1.1 (record { front = unnamed_head; rest = one.0; first = refl; second = one.1.2; joined = refl }),
          joins unnamed_head (drop 20 bytes) one.0 ((begins_is bytes unnamed_head).0 is) one.2,
        )
    by_cases false is true other h =
        let one = then_found (text_at field.Library) (mapped (λ host. Some host) (pair_at field.Host)) (IsLine IsText field.Library) (λ y front. (host : List ℕ × List ℕ) × (Some host ≡ y) × IsLine IsPair field.Host host front)
        (text_reads field.Library).found (mapped_found (λ host. Some host) (pair_at field.Host) (IsLine IsPair field.Host) (pair_reads field.Host).found) (drop 20 bytes) x rest h in
        let j = one.1 in (
          named_head ++ one.0,
          subst (λ (o : Option (List ℕ × List ℕ)). IsOpening (x.0, o) (named_head ++ one.0)) j.second.1
              (record { front = named_head; rest = one.0; first = refl; second = record { front = j.front; rest = j.rest; first = j.first; second = j.second.2; joined = j.joined }; joined = refl }),
          joins named_head (drop 20 bytes) one.0 ((begins_is bytes named_head).0 other) one.2,
        )
    by_cases false is false other h = absurd cc

opening_again : (x : List ℕ × Option (List ℕ × List ℕ)) (front rest : List ℕ) → IsOpening x front → opening_at (front ++ rest) ≡ Ok (x, rest)
unfolding opening_at
opening_again (library, None) front rest l =
    let regrouped : front ++ rest ≡ unnamed_head ++ (l.rest ++ rest) = ap (λ (t : List ℕ). t ++ rest) (l.joined ∙ ap (λ (t : List ℕ). t ++ l.rest) l.first) ∙ append_assoc unnamed_head l.rest rest in
    ap opening_at regrouped ∙ ap (map_step (λ (library : List ℕ). (library, None))) ((text_reads field.Library).again library l.rest rest l.second tt)
opening_again (library, Some host) front rest l =
    let j = l.second in
    let regrouped : front ++ rest ≡ named_head ++ (j.front ++ (j.rest ++ rest)) = ap (λ (t : List ℕ). t ++ rest) (l.joined ∙ ap (λ (t : List ℕ). t ++ l.rest) l.first ∙ ap (λ (t : List ℕ). named_head ++ t) j.joined)
    ∙ append_assoc named_head (j.front ++ j.rest) rest ∙ ap (λ (t : List ℕ). named_head ++ t) (append_assoc j.front j.rest rest) in
    ap opening_at regrouped ∙ then_again (text_at field.Library) (mapped (λ host. Some host) (pair_at field.Host)) (j.front ++ (j.rest ++ rest)) library (j.rest ++ rest) (Some host) rest
    ((text_reads field.Library).again library j.front (j.rest ++ rest) j.first tt) (ap (map_step (λ (host : List ℕ × List ℕ). Some host)) ((pair_reads field.Host).again host j.rest rest j.second tt))

pub opening_reads : Reads opening_at IsOpening Anything
opening_reads = record { found = opening_found; again = λ x front rest l _. opening_again x front rest l }

-- ---- where the views come from

origin_reads : Reads (field_at origin_of field.ViewsFrom) (IsLine IsOrigin field.ViewsFrom) Anything
origin_reads = field_reads origin_of IsOrigin origin_values field.ViewsFrom

digest_reads : Reads (field_at digest_of field.ViewsSha256) (IsLine IsDigest field.ViewsSha256) Anything
digest_reads = field_reads digest_of IsDigest digest_values field.ViewsSha256

abbrev origin_step : Result (Option (List ℕ) × List ℕ) Stop → Result (Option (List ℕ × List ℕ) × List ℕ) Stop
origin_step (Ok x) = file_of x.0 x.1
origin_step (Err s) = Err s

views_file_found : (bytes : List ℕ) (x : Option (List ℕ × List ℕ)) (rest : List ℕ) → views_file_at bytes ≡ Ok (x, rest) → (front : List ℕ) × IsViewsFile x front × (bytes ≡ front ++ rest)
unfolding views_file_at
views_file_found bytes x rest e = by_cases (field_at origin_of field.ViewsFrom bytes) refl e
  where
    of_file : (o : Option (List ℕ)) (behind : List ℕ) → field_at origin_of field.ViewsFrom bytes ≡ Ok (o, behind) → file_of o behind ≡ Ok (x, rest) → (front : List ℕ) × IsViewsFile x front × (bytes ≡ front ++ rest)
    of_file None behind is h =
        let line = origin_reads.found bytes None behind is in
        subst (λ (w : Option (List ℕ × List ℕ) × List ℕ). (front : List ℕ) × IsViewsFile w.0 front × (bytes ≡ front ++ w.1)) (ok_is (None, behind) (x, rest) h) line
    of_file (Some name) behind is h =
        let line = origin_reads.found bytes (Some name) behind is in
        let sum = mapped_found (λ sum. Some (name, sum)) (field_at digest_of field.ViewsSha256) (IsLine IsDigest field.ViewsSha256) digest_reads.found behind x rest h in (
          line.0 ++ sum.0,
          subst (λ (y : Option (List ℕ × List ℕ)). IsViewsFile y (line.0 ++ sum.0)) sum.1.1 (record { front = line.0; rest = sum.0; first = line.1; second = sum.1.2; joined = refl }),
          line.2 ∙ ap (λ (t : List ℕ). line.0 ++ t) sum.2 ∙ sym (append_assoc line.0 sum.0 rest),
        )

    by_cases : (r : Result (Option (List ℕ) × List ℕ) Stop) → field_at origin_of field.ViewsFrom bytes ≡ r → origin_step r ≡ Ok (x, rest) → (front : List ℕ) × IsViewsFile x front × (bytes ≡ front ++ rest)
    by_cases (Err s) is h = absurd cc
    by_cases (Ok y) is h = of_file y.0 y.1 is h

views_file_again : (x : Option (List ℕ × List ℕ)) (front rest : List ℕ) → IsViewsFile x front → views_file_at (front ++ rest) ≡ Ok (x, rest)
unfolding views_file_at
views_file_again None front rest l = ap origin_step (origin_reads.again None front rest l tt)
views_file_again (Some file) front rest j =
    let regrouped : front ++ rest ≡ j.front ++ (j.rest ++ rest) = ap (λ (t : List ℕ). t ++ rest) j.joined ∙ append_assoc j.front j.rest rest in
    ap views_file_at regrouped ∙ ap origin_step (origin_reads.again (Some file.0) j.front (j.rest ++ rest) j.first tt)
    ∙ ap (map_step (λ (sum : List ℕ). Some (file.0, sum))) (digest_reads.again file.1 j.rest rest j.second tt)

pub views_file_reads : Reads views_file_at IsViewsFile Anything
views_file_reads = record { found = views_file_found; again = λ x front rest l _. views_file_again x front rest l }

-- ---- each reader of an item leaves less

pub real_shrinks : (f : Field) → 0 < length (start_of f) → Shrinks (real_at f)
real_shrinks f long = item_shrinks (real_at f) (IsLine IsReal f) f long (line_starts IsReal f) (real_reads f)

pub seed_long : 0 < length (start_of field.SeedFx)
unfolding start_of
seed_long = omega arith

pub note_long : 0 < length (start_of field.Note)
unfolding start_of
note_long = omega arith

pub tilt_x_long : 0 < length (start_of field.TiltX)
unfolding start_of
tilt_x_long = omega arith

pub tilt_y_long : 0 < length (start_of field.TiltY)
unfolding start_of
tilt_y_long = omega arith

pub seed_shrinks : Shrinks seed_at
seed_shrinks = item_shrinks seed_at IsSeed field.SeedFx seed_long seed_starts seed_reads

pub note_shrinks : Shrinks (pair_at field.Note)
note_shrinks = item_shrinks (pair_at field.Note) (IsLine IsPair field.Note) field.Note note_long (line_starts IsPair field.Note) (pair_reads field.Note)

-- ---- the lists, and what may follow each

-- one of these lines is next
abbrev BeginsAmong : List Field → List ℕ → Type 0
BeginsAmong [] bytes = ⊥
BeginsAmong (f ∷ fs) bytes = ((tail : List ℕ) × (bytes ≡ start_of f ++ tail)) ⊎ BeginsAmong fs bytes

each_among : {A : Type 0} (L : A → List ℕ → Type 0) (f : Field) (fs : List Field) → Starts L f → (xs : List A) (front rest : List ℕ) → Each L xs front → BeginsAmong fs rest → BeginsAmong (f ∷ fs) (front ++ rest)
each_among L f fs starts [] front rest each among = inr (subst (BeginsAmong fs) (sym (ap (λ (t : List ℕ). t ++ rest) each)) among)
each_among L f fs starts (x ∷ xs) front rest j among =
    let begun = starts x j.front j.first in
    let behind = j.rest ++ rest in
    inl (begun.0 ++ behind, ap (λ (t : List ℕ). t ++ rest) j.joined ∙ append_assoc j.front j.rest rest ∙ ap (λ (t : List ℕ). t ++ behind) begun.1 ∙ append_assoc (start_of f) begun.0 behind)

not_among : (f : Field) (fs : List Field) → AllByRecursion (λ g. (tail : List ℕ) → NotNext f (start_of g ++ tail)) fs → (bytes : List ℕ) → BeginsAmong fs bytes → NotNext f bytes
not_among f [] others bytes among = absurd among
not_among f (g ∷ fs) others bytes among = elim among [
  | inl t ↦ subst (NotNext f) (sym t.1) (others.0 t.0)
  | inr r ↦ not_among f fs others.1 bytes r
]

abbrev below_notes : List Field
below_notes = field.Sha256 ∷ []

abbrev below_seeds : List Field
below_seeds = field.Note ∷ below_notes

abbrev below_tilts : List Field
below_tilts = field.SeedFx ∷ below_seeds

after_seeds : (z : List Seed × List (List ℕ × List ℕ)) (front rest : List ℕ) → Joined (Each IsSeed z.0) (Each (IsLine IsPair field.Note) z.1) front → BeginsAmong below_notes rest → BeginsAmong below_tilts (front ++ rest)
after_seeds z front rest j among =
    let notes = each_among (IsLine IsPair field.Note) field.Note below_notes (line_starts IsPair field.Note) z.1 j.rest rest j.second among in
    let seeds = each_among IsSeed field.SeedFx below_seeds seed_starts z.0 j.front (j.rest ++ rest) j.first notes in
    subst (BeginsAmong below_tilts) (sym (ap (λ (t : List ℕ). t ++ rest) j.joined ∙ append_assoc j.front j.rest rest)) seeds

after_tilts : (z : List Float × (List Seed × List (List ℕ × List ℕ))) (front rest : List ℕ) → Joined (Each (IsLine IsReal field.TiltY) z.0) (Each IsSeed z.1.0 <> Each (IsLine IsPair field.Note) z.1.1) front
    → BeginsAmong below_notes rest → BeginsAmong (field.TiltY ∷ below_tilts) (front ++ rest)
after_tilts z front rest j among =
    let seeds = after_seeds z.1 j.rest rest j.second among in
    let tilts = each_among (IsLine IsReal field.TiltY) field.TiltY below_tilts (line_starts IsReal field.TiltY) z.0 j.front (j.rest ++ rest) j.first seeds in
    subst (BeginsAmong (field.TiltY ∷ below_tilts)) (sym (ap (λ (t : List ℕ). t ++ rest) j.joined ∙ append_assoc j.front j.rest rest)) tilts

not_note : (rest : List ℕ) → BeginsAmong below_notes rest → NotNext field.Note rest
unfolding start_of
not_note = not_among field.Note below_notes (λ t. refl, tt)

not_seed : (rest : List ℕ) → BeginsAmong below_seeds rest → NotNext field.SeedFx rest
unfolding start_of
not_seed = not_among field.SeedFx below_seeds (λ t. refl, (λ t. refl, tt))

not_tilt_y : (rest : List ℕ) → BeginsAmong below_tilts rest → NotNext field.TiltY rest
unfolding start_of
not_tilt_y = not_among field.TiltY below_tilts (λ t. refl, (λ t. refl, (λ t. refl, tt)))

not_tilt_x : (rest : List ℕ) → BeginsAmong (field.TiltY ∷ below_tilts) rest → NotNext field.TiltX rest
unfolding start_of
not_tilt_x = not_among field.TiltX (field.TiltY ∷ below_tilts) (λ t. refl, (λ t. refl, (λ t. refl, (λ t. refl, tt))))

tilts_read : (f : Field) → 0 < length (start_of f) → Reads (all_at (real_at f) f) (Each (IsLine IsReal f)) (NotNext f)
tilts_read f long = all_reads f long (line_starts IsReal f) (real_reads f)

notes_read : Reads (all_at (pair_at field.Note) field.Note) (Each (IsLine IsPair field.Note)) (BeginsAmong below_notes)
notes_read =
    let reads = all_reads field.Note note_long (line_starts IsPair field.Note) (pair_reads field.Note) in
    record { found = reads.found; again = λ xs front rest each among. reads.again xs front rest each (not_note rest among) }

seeds_read : Reads (all_at seed_at field.SeedFx >> all_at (pair_at field.Note) field.Note) (λ z. Each IsSeed z.0 <> Each (IsLine IsPair field.Note) z.1) (BeginsAmong below_notes)
seeds_read = then_reads (all_reads field.SeedFx seed_long seed_starts seed_reads) notes_read
    (λ ns front rest each among. not_seed (front ++ rest) (each_among (IsLine IsPair field.Note) field.Note below_notes (line_starts IsPair field.Note) ns front rest each among))

lists_read : Reads (all_at (real_at field.TiltX) field.TiltX >> all_at (real_at field.TiltY) field.TiltY >> all_at seed_at field.SeedFx >> all_at (pair_at field.Note) field.Note)
    (λ z. Each (IsLine IsReal field.TiltX) z.0 <> Each (IsLine IsReal field.TiltY) z.1.0 <> Each IsSeed z.1.1.0 <> Each (IsLine IsPair field.Note) z.1.1.1) (BeginsAmong below_notes)
lists_read = then_reads (tilts_read field.TiltX tilt_x_long)
    (then_reads (tilts_read field.TiltY tilt_y_long) seeds_read (λ z front rest j among. not_tilt_y (front ++ rest) (after_seeds z front rest j among)))
    (λ z front rest j among. not_tilt_x (front ++ rest) (after_tilts z front rest j among))

pub body_reads : Reads body_at IsBody (BeginsAmong below_notes)
unfolding body_at
body_reads = mapped_reads stored_of
    (λ s. ((s.library, s.host), (s.date, (s.views_file, (s.views, (s.options, (s.base, (s.centre, (s.tilt_x, (s.tilt_y, (s.seeds, s.notes)))))))))))
    (λ x. refl) (λ s. refl)
    (free_reads opening_reads (free_reads (text_reads field.Date) (free_reads views_file_reads (free_reads (whole_reads field.Views) (free_reads options_reads (free_reads base_reads (free_reads centre_reads lists_read)))))))

-- ---- the file

sum_reads : (above : List ℕ) → Reads (field_at (sum_of above) field.Sha256) (IsLine (IsSum above) field.Sha256) Anything
sum_reads above = field_reads (sum_of above) (IsSum above) (sum_values above) field.Sha256

-- what is left is a part
pub body_leaves : (bytes : List ℕ) (s : Stored) (rest : List ℕ) → body_at bytes ≡ Ok (s, rest) → length rest ≤ length bytes
body_leaves bytes s rest e =
    let one = body_reads.found bytes s rest e in
    omega (arith, ap length one.2, length-append one.0 rest)

above_last : (above last : List ℕ) → take (length (above ++ last) - length last) (above ++ last) ≡ above
above_last above last = take_at above last (length (above ++ last) - length last) (omega (arith, length-append above last))

above_is : (bytes above last : List ℕ) → bytes ≡ above ++ last → take (length bytes - length last) bytes ≡ above
above_is bytes above last joined = ap (λ (t : List ℕ). take (length t - length last) t) joined ∙ above_last above last

abbrev sum_step : Stored → Result (Unit {0} × List ℕ) Stop → Result Stored Stop
sum_step s (Ok x) = ended s x.1
sum_step s (Err e) = Err e

abbrev file_step : List ℕ → Result (Stored × List ℕ) Stop → Result Stored Stop
file_step bytes (Ok x) = closed (take (length bytes - length x.1) bytes) x.0 x.1
file_step bytes (Err e) = Err e

pub file_found : (bytes : List ℕ) (s : Stored) → file_at bytes ≡ Ok s → IsFile bytes s
unfolding file_at
file_found bytes s e = by_cases (body_at bytes) refl e
  where
    at_end : (t : Stored) (rest above last behind : List ℕ) → IsBody t above → bytes ≡ above ++ rest → IsLine (IsSum above) field.Sha256 tt last → rest ≡ last ++ behind → ended t behind ≡ Ok s → IsFile bytes s
    at_end t rest above last [] body joined sum closes h =
        record { above = above; last = last; body = subst (λ (u : Stored). IsBody u above) (ok_is t s h) body; sum = sum; whole = joined ∙ ap (λ (r : List ℕ). above ++ r) (closes ∙ append-nil last) }
    at_end t rest above last (b ∷ behind) body joined sum closes h = absurd cc

    at_sum : (t : Stored) (rest above : List ℕ) → IsBody t above → bytes ≡ above ++ rest → (r : Result (Unit {0} × List ℕ) Stop) → field_at (sum_of above) field.Sha256 rest ≡ r → sum_step t r ≡ Ok s → IsFile bytes s
    at_sum t rest above body joined (Err d) is h = absurd cc
    at_sum t rest above body joined (Ok x) is h =
        let line = (sum_reads above).found rest x.0 x.1 is in
        at_end t rest above line.0 x.1 body joined line.1 line.2 h

    by_cases : (r : Result (Stored × List ℕ) Stop) → body_at bytes ≡ r → file_step bytes r ≡ Ok s → IsFile bytes s
    by_cases (Err d) is h = absurd cc
    by_cases (Ok x) is h =
        let one = body_reads.found bytes x.0 x.1 is in
        let taken : take (length bytes - length x.1) bytes ≡ one.0 = above_is bytes one.0 x.1 one.2 in
        at_sum x.0 x.1 one.0 one.1 one.2 (field_at (sum_of one.0) field.Sha256 x.1) refl (subst (λ (a : List ℕ). closed a x.0 x.1 ≡ Ok s) taken h)

pub file_again : (bytes : List ℕ) (s : Stored) → IsFile bytes s → file_at bytes ≡ Ok s
unfolding file_at
file_again bytes s is =
    let above = is.above in
    let last = is.last in
    let body : body_at (above ++ last) ≡ Ok (s, last) = body_reads.again s above last is.body (inl (line_starts (IsSum above) field.Sha256 tt last is.sum)) in
    let sum : field_at (sum_of above) field.Sha256 last ≡ Ok (tt, []) = ap (field_at (sum_of above) field.Sha256) (sym (append-nil last)) ∙ (sum_reads above).again tt last [] is.sum tt in
    ap file_at is.whole ∙ ap (file_step (above ++ last)) body ∙ ap (λ (a : List ℕ). closed a s last) (above_last above last) ∙ ap (sum_step s) sum

pub one_reading : OneReading
one_reading = λ bytes s t one other. ok_is s t (sym (file_again bytes s one) ∙ file_again bytes t other)
