-- Reading from the front, line by line, with the first fault that is met.
use Rattle.std.specs.Prelude.{◌≡◌, ℕ, zero, suc, ◌+◌, ◌-◌, Bool, List, [], ◌∷◌, length, Option, Some, None, Result, Ok, Err, if◌then◌else◌, ◌==◌, nat_eq, take, drop, count_by}
use Rattle.std.specs.Option.{option_map, option_and_then, ok_or}
use Rattle.std.specs.List.{starts_with}
use Rattle.std.specs.Float.Ieee.{Float}
use Rattle.inputs_file.specs.declared.field.Field.{Field}
use Rattle.inputs_file.specs.declared.field.Field.TheVariants as field
use Rattle.inputs_file.specs.declared.fault.Stop.{Stop}
use Rattle.inputs_file.specs.declared.fault.Fault.{Fault}
use Rattle.inputs_file.specs.declared.fault.ReadError.{ReadError}
use Rattle.inputs_file.specs.declared.fault.ReadError.TheVariants as errors
use Rattle.inputs_file.specs.declared.fault.Unread.{Unread}
use Rattle.inputs_file.specs.declared.fault.Unread.TheVariants as unread
use Rattle.inputs_file.specs.declared.stored.Options.{Options}
use Rattle.inputs_file.specs.declared.stored.Camera.{Camera}
use Rattle.inputs_file.specs.declared.stored.Centre.{Centre}
use Rattle.inputs_file.specs.declared.stored.Seed.{Seed}
use Rattle.inputs_file.specs.Grammar.{Stored, start_of, unnamed_head, named_head}
use Rattle.inputs_file.specs.Values.{cut, text_of, pair_of, whole_of, real_of, flag_of, origin_of, digest_of, sum_of}

-- What a function returned, seen by view, is what reading gives, unless memory ran out.
abbrev pub Fails : {Y : Type 0} → Unread → Result Y Stop → Type 0
Fails unread.Memory read = Unit {0}
Fails (unread.Stop s) read = read ≡ Err s

abbrev pub Gives : {X Y : Type 0} → (X → Y) → Result X Unread → Result Y Stop → Type 0
Gives view (Ok x) read = read ≡ Ok (view x)
Gives view (Err e) read = Fails e read

-- this was expected where these bytes are left
abbrev pub stop : Field → List ℕ → Stop
stop f bytes = record { expected = f; left = length bytes }

-- the text of the first line, if it begins so, and the lines behind it
unfoldable pub line_at : List ℕ → List ℕ → Option (List ℕ × List ℕ)
line_at start bytes = if starts_with nat_eq bytes start then cut 10 (drop (length start) bytes) else None

-- the value that the first line says, and the lines behind it
unfoldable pub field_at : {A : Type 0} → (List ℕ → Option A) → Field → List ℕ → Result (A × List ℕ) Stop
field_at value f bytes = ok_or (option_and_then (λ line. option_map (λ x. (x, line.1)) (value line.0)) (line_at (start_of f) bytes)) (stop f bytes)

-- one after the other
infixr 10 ◌>>◌
abbrev pub ◌>>◌ : {A B : Type 0} → (List ℕ → Result (A × List ℕ) Stop) → (List ℕ → Result (B × List ℕ) Stop) → List ℕ → Result ((A × B) × List ℕ) Stop
(p >> q) bytes = elim (p bytes) [
  | Ok x ↦ elim (q x.1) [ Ok y ↦ Ok ((x.0, y.0), y.1) | Err s ↦ Err s ]
  | Err s ↦ Err s
]

-- and what is made of the value
abbrev pub mapped : {A B : Type 0} → (A → B) → (List ℕ → Result (A × List ℕ) Stop) → List ℕ → Result (B × List ℕ) Stop
mapped f p bytes = elim (p bytes) [ Ok x ↦ Ok (f x.0, x.1) | Err s ↦ Err s ]

abbrev pub text_at : Field → List ℕ → Result (List ℕ × List ℕ) Stop
text_at = field_at text_of

abbrev pub pair_at : Field → List ℕ → Result ((List ℕ × List ℕ) × List ℕ) Stop
pair_at = field_at pair_of

abbrev pub whole_at : Field → List ℕ → Result (ℕ × List ℕ) Stop
whole_at = field_at whole_of

abbrev pub real_at : Field → List ℕ → Result (Float × List ℕ) Stop
real_at = field_at real_of

-- the library and the host: the first line says whether the host is named
unfoldable pub opening_at : List ℕ → Result ((List ℕ × Option (List ℕ × List ℕ)) × List ℕ) Stop
opening_at bytes =
    if starts_with nat_eq bytes unnamed_head then mapped (λ library. (library, None)) (text_at field.Library) (drop 20 bytes)
    else (if starts_with nat_eq bytes named_head then (text_at field.Library >> mapped (λ host. Some host) (pair_at field.Host)) (drop 20 bytes)
    else Err (stop field.Head bytes))

-- where the views come from: a file's checksum follows its name
abbrev pub file_of : Option (List ℕ) → List ℕ → Result (Option (List ℕ × List ℕ) × List ℕ) Stop
file_of None bytes = Ok (None, bytes)
file_of (Some name) bytes = mapped (λ sum. Some (name, sum)) (field_at digest_of field.ViewsSha256) bytes

unfoldable pub views_file_at : List ℕ → Result (Option (List ℕ × List ℕ) × List ℕ) Stop
views_file_at bytes = elim (field_at origin_of field.ViewsFrom bytes) [ Ok x ↦ file_of x.0 x.1 | Err s ↦ Err s ]

abbrev pub options_of : ℕ × (Float × (Float × (Bool × ℕ))) → Options
options_of x = record { rounds = x.0; step = x.1.0; bound = x.1.1.0; one_axis = x.1.1.1.0; min_counted = x.1.1.1.1 }

unfoldable pub options_at : List ℕ → Result (Options × List ℕ) Stop
options_at = mapped options_of
    (whole_at field.Rounds >> real_at field.Step >> real_at field.Bound >> field_at flag_of field.OneAxis >> whole_at field.MinCounted)

abbrev pub base_of : Float × (Float × (Float × Float)) → Camera
base_of x = record { fx = x.0; fy = x.1.0; cx = x.1.1.0; cy = x.1.1.1 }

unfoldable pub base_at : List ℕ → Result (Camera × List ℕ) Stop
base_at = mapped base_of
    (real_at field.BaseFx >> real_at field.BaseFy >> real_at field.BaseCx >> real_at field.BaseCy)

abbrev pub centre_of : Float × Float → Centre
centre_of x = record { x = x.0; y = x.1 }

unfoldable pub centre_at : List ℕ → Result (Centre × List ℕ) Stop
centre_at = mapped centre_of (real_at field.CentreX >> real_at field.CentreY)

abbrev pub seed_of : Float × (Float × (Float × (Float × (Float × Float)))) → Seed
seed_of x = record { fx = x.0; fy = x.1.0; cx = x.1.1.0; cy = x.1.1.1.0; tilt_x = x.1.1.1.1.0; tilt_y = x.1.1.1.1.1 }

unfoldable pub seed_at : List ℕ → Result (Seed × List ℕ) Stop
seed_at = mapped seed_of
    (real_at field.SeedFx >> real_at field.SeedFy >> real_at field.SeedCx >> real_at field.SeedCy >> real_at field.SeedTiltX >> real_at field.SeedTiltY)

-- as many as begin with this line, at most n
unfoldable pub many_at : {A : Type 0} → (List ℕ → Result (A × List ℕ) Stop) → Field → ℕ → List ℕ → Result (List A × List ℕ) Stop
many_at item f zero bytes = Ok ([], bytes)
many_at item f (suc n) bytes = if starts_with nat_eq bytes (start_of f) then mapped (λ x. x.0 ∷ x.1) (item >> many_at item f n) bytes else Ok ([], bytes)

-- as many as there are
abbrev pub all_at : {A : Type 0} → (List ℕ → Result (A × List ℕ) Stop) → Field → List ℕ → Result (List A × List ℕ) Stop
all_at item f bytes = many_at item f (length bytes) bytes

abbrev pub stored_of : (List ℕ × Option (List ℕ × List ℕ)) × (List ℕ × (Option (List ℕ × List ℕ) × (ℕ × (Options × (Camera × (Centre × (List Float × (List Float × (List Seed × List (List ℕ × List ℕ)))))))))) → Stored
stored_of x = record { library = x.0.0; host = x.0.1; date = x.1.0; views_file = x.1.1.0; views = x.1.1.1.0; options = x.1.1.1.1.0; base = x.1.1.1.1.1.0; centre = x.1.1.1.1.1.1.0; tilt_x = x.1.1.1.1.1.1.1.0; tilt_y = x.1.1.1.1.1.1.1.1.0; seeds = x.1.1.1.1.1.1.1.1.1.0; notes = x.1.1.1.1.1.1.1.1.1.1 }

-- all lines but the last
unfoldable pub body_at : List ℕ → Result (Stored × List ℕ) Stop
body_at = mapped stored_of
    (opening_at >> text_at field.Date >> views_file_at >> whole_at field.Views >> options_at >> base_at >> centre_at
    >> all_at (real_at field.TiltX) field.TiltX >> all_at (real_at field.TiltY) field.TiltY >> all_at seed_at field.SeedFx >> all_at (pair_at field.Note) field.Note)

-- nothing is left
abbrev pub ended : Stored → List ℕ → Result Stored Stop
ended stored [] = Ok stored
ended stored (b ∷ bytes) = Err (stop field.End (b ∷ bytes))

-- the last line, below these
abbrev pub closed : List ℕ → Stored → List ℕ → Result Stored Stop
closed above stored bytes = elim (field_at (sum_of above) field.Sha256 bytes) [ Ok x ↦ ended stored x.1 | Err s ↦ Err s ]

unfoldable pub file_at : List ℕ → Result Stored Stop
file_at bytes = elim (body_at bytes) [ Ok x ↦ closed (take (length bytes - length x.1) bytes) x.0 x.1 | Err s ↦ Err s ]

-- the line where reading stopped
abbrev pub fault_in : List ℕ → Stop → Fault
fault_in bytes s = record { line = 1 + count_by (λ b. b == 10) (take (length bytes - s.left) bytes); expected = s.expected }

-- a file's inputs, or its first fault
abbrev pub reading : List ℕ → Result Stored Fault
reading bytes = elim (file_at bytes) [ Ok x ↦ Ok x | Err s ↦ Err (fault_in bytes s) ]

-- What the public function returned, seen by view, is this, unless memory ran out.
abbrev pub Refuses : {Y : Type 0} → ReadError → Result Y Fault → Type 0
Refuses errors.Memory read = Unit {0}
Refuses (errors.Fault f) read = read ≡ Err f

abbrev pub Answers : {X Y : Type 0} → (X → Y) → Result X ReadError → Result Y Fault → Type 0
Answers view (Ok x) read = read ≡ Ok (view x)
Answers view (Err e) read = Refuses e read
