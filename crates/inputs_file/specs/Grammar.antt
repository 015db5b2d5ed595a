-- Which bytes are a file of inputs, and what they say.
use Rattle.std.specs.Prelude.{◌≡◌, ℕ, ◌<◌, ◌^◌, Bool, true, false, List, [], ◌∷◌, ◌++◌, length, codes, Option, Some, None, IsUtf8, ◌==◌, ◌&&◌, ◌||◌, not, nat_le, decimal}
use Rattle.std.specs.List.{AllPass, AllByRecursion}
use Rattle.std.specs.Int.{w64, to_be_bytes}
use Rattle.std.specs.Float.{binary64}
use Rattle.std.specs.Float.Ieee.{Float, to_bits, is_nan}
use Rattle.std.specs.Float.Parse.{parse_float}
use Rattle.hex.specs.Hex.{encode_lower}
use Rattle.sha2.specs.Sha256.{sha256}
use Rattle.inputs_file.specs.declared.field.Field.{Field}
use Rattle.inputs_file.specs.declared.field.Field.TheVariants as field
use Rattle.inputs_file.specs.declared.stored.Options.{Options}
use Rattle.inputs_file.specs.declared.stored.Camera.{Camera}
use Rattle.inputs_file.specs.declared.stored.Centre.{Centre}
use Rattle.inputs_file.specs.declared.stored.Seed.{Seed}

-- how a line begins: its name and a space
unfoldable pub start_of : Field → List ℕ
start_of field.Head = codes "jinnychair inputs "
start_of field.Library = codes "library "
start_of field.Host = codes "host "
start_of field.Date = codes "date "
start_of field.ViewsFrom = codes "views-from "
start_of field.ViewsSha256 = codes "views-sha256 "
start_of field.Views = codes "views "
start_of field.Rounds = codes "rounds "
start_of field.Step = codes "step "
start_of field.Bound = codes "bound "
start_of field.OneAxis = codes "one-axis "
start_of field.MinCounted = codes "min-counted "
start_of field.BaseFx = codes "base-fx "
start_of field.BaseFy = codes "base-fy "
start_of field.BaseCx = codes "base-cx "
start_of field.BaseCy = codes "base-cy "
start_of field.CentreX = codes "centre-x "
start_of field.CentreY = codes "centre-y "
start_of field.TiltX = codes "tilt-x "
start_of field.TiltY = codes "tilt-y "
start_of field.SeedFx = codes "seed-fx "
start_of field.SeedFy = codes "seed-fy "
start_of field.SeedCx = codes "seed-cx "
start_of field.SeedCy = codes "seed-cy "
start_of field.SeedTiltX = codes "seed-tilt-x "
start_of field.SeedTiltY = codes "seed-tilt-y "
start_of field.Note = codes "note "
start_of field.Sha256 = codes "sha256 "
start_of field.End = []

-- What a line says: each is a relation between its text, which stands behind its name, and a value.

-- neither a control byte nor the byte 127
abbrev pub is_plain : ℕ → Bool
is_plain b = nat_le 32 b && not (b == 127)

-- the byte stands nowhere
abbrev pub Lacks : ℕ → List ℕ → Type 0
Lacks c bytes = AllByRecursion (λ b. (b == c) ≡ false) bytes

pub record IsText (text said : List ℕ) : Type 0 where
  pub same : text ≡ said
  pub plain : AllPass is_plain said
  pub utf8 : IsUtf8 said

-- two texts around a space, the first without one
pub record IsPair (text : List ℕ) (said : List ℕ × List ℕ) : Type 0 where
  pub joined : text ≡ said.0 ++ 32 ∷ said.1
  pub word : Lacks 32 said.0
  pub first : IsText said.0 said.0
  pub second : IsText said.1 said.1

pub record IsWhole (text : List ℕ) (n : ℕ) : Type 0 where
  pub spelled : text ≡ decimal n
  pub bound : n < 2 ^ 64

-- a real's bits in 16 digits
abbrev pub bits_text : Float → List ℕ
bits_text x = encode_lower (to_be_bytes w64 (to_bits binary64 x))

-- its bits, a space, and decimals that are read back to it
pub record IsReal (text : List ℕ) (x : Float) : Type 0 where
  pub decimals : List ℕ
  pub spelled : text ≡ bits_text x ++ 32 ∷ decimals
  pub reads_back : parse_float binary64 decimals ≡ Some x
  pub nan : is_nan x ≡ true → decimals ≡ codes "NaN"

abbrev pub IsFlag : List ℕ → Bool → Type 0
IsFlag text true = text ≡ codes "yes"
IsFlag text false = text ≡ codes "no"

-- a digit, the letters in lower case
abbrev pub is_lower_hex : ℕ → Bool
is_lower_hex b = (nat_le 48 b && nat_le b 57) || (nat_le 97 b && nat_le b 102)

-- a SHA-256
pub record IsDigest (text said : List ℕ) : Type 0 where
  pub same : text ≡ said
  pub len : length said ≡ 64
  pub digits : AllPass is_lower_hex said

-- a SHA-256 in digits
abbrev pub sum_text : List ℕ → List ℕ
sum_text above = encode_lower (sha256 above)

abbrev pub IsSum : List ℕ → List ℕ → Unit {0} → Type 0
IsSum above text said = text ≡ sum_text above

-- the views are the host's own, or in a file of this name
abbrev pub IsOrigin : List ℕ → Option (List ℕ) → Type 0
IsOrigin text None = text ≡ codes "built-in"
IsOrigin text (Some name) = (text ≡ codes "file " ++ name) × IsText name name

-- Which bytes are lines that say something.

-- a line: how it begins, a text without a newline, and a newline
pub record IsLine {A : Type 0} (Says : List ℕ → A → Type 0) (f : Field) (said : A) (bytes : List ℕ) : Type 0 where
  pub text : List ℕ
  pub says : Says text said
  pub one_line : Lacks 10 text
  pub spelled : bytes ≡ start_of f ++ (text ++ 10 ∷ [])

-- bytes of the first kind, and behind them bytes of the second
pub record Joined (P Q : List ℕ → Type 0) (bytes : List ℕ) : Type 0 where
  pub front : List ℕ
  pub rest : List ℕ
  pub first : P front
  pub second : Q rest
  pub joined : bytes ≡ front ++ rest

infixr 10 ◌<>◌
abbrev pub ◌<>◌ : (List ℕ → Type 0) → (List ℕ → Type 0) → List ℕ → Type 0
(P <> Q) bytes = Joined P Q bytes

-- bytes for each of the values, in their order
abbrev pub Each : {A : Type 0} → (A → List ℕ → Type 0) → List A → List ℕ → Type 0
Each L [] bytes = bytes ≡ []
Each L (x ∷ xs) bytes = Joined (L x) (Each L xs) bytes

-- the first line, where the host isn't named and where it is
abbrev pub unnamed_head : List ℕ
unnamed_head = codes "jinnychair inputs 1\n"

abbrev pub named_head : List ℕ
named_head = codes "jinnychair inputs 2\n"

abbrev pub Are : List ℕ → List ℕ → Type 0
Are text bytes = bytes ≡ text

-- the first line, the library, and the host, if it is named
abbrev pub IsOpening : List ℕ × Option (List ℕ × List ℕ) → List ℕ → Type 0
IsOpening (library, None) = Are unnamed_head <> IsLine IsText field.Library library
IsOpening (library, Some host) = Are named_head <> IsLine IsText field.Library library <> IsLine IsPair field.Host host

-- where the views come from; a file has its name and its checksum
abbrev pub IsViewsFile : Option (List ℕ × List ℕ) → List ℕ → Type 0
IsViewsFile None = IsLine IsOrigin field.ViewsFrom None
IsViewsFile (Some file) = IsLine IsOrigin field.ViewsFrom (Some file.0) <> IsLine IsDigest field.ViewsSha256 file.1

abbrev pub AreOptions : Options → List ℕ → Type 0
AreOptions o = IsLine IsWhole field.Rounds o.rounds <> IsLine IsReal field.Step o.step <> IsLine IsReal field.Bound o.bound
    <> IsLine IsFlag field.OneAxis o.one_axis <> IsLine IsWhole field.MinCounted o.min_counted

abbrev pub IsBase : Camera → List ℕ → Type 0
IsBase k = IsLine IsReal field.BaseFx k.fx <> IsLine IsReal field.BaseFy k.fy <> IsLine IsReal field.BaseCx k.cx <> IsLine IsReal field.BaseCy k.cy

abbrev pub IsCentre : Centre → List ℕ → Type 0
IsCentre c = IsLine IsReal field.CentreX c.x <> IsLine IsReal field.CentreY c.y

abbrev pub IsSeed : Seed → List ℕ → Type 0
IsSeed s = IsLine IsReal field.SeedFx s.fx <> IsLine IsReal field.SeedFy s.fy <> IsLine IsReal field.SeedCx s.cx
    <> IsLine IsReal field.SeedCy s.cy <> IsLine IsReal field.SeedTiltX s.tilt_x <> IsLine IsReal field.SeedTiltY s.tilt_y

-- what a file says: the inputs, without where they lie in memory
pub record Stored : Type 0 where
  pub library : List ℕ
  pub host : Option (List ℕ × List ℕ)
  pub date : List ℕ
  pub views_file : Option (List ℕ × List ℕ)
  pub views : ℕ
  pub options : Options
  pub base : Camera
  pub centre : Centre
  pub tilt_x : List Float
  pub tilt_y : List Float
  pub seeds : List Seed
  pub notes : List (List ℕ × List ℕ)

-- all lines but the last
abbrev pub IsBody : Stored → List ℕ → Type 0
IsBody s = IsOpening (s.library, s.host) <> IsLine IsText field.Date s.date <> IsViewsFile s.views_file
    <> IsLine IsWhole field.Views s.views <> AreOptions s.options <> IsBase s.base <> IsCentre s.centre
    <> Each (IsLine IsReal field.TiltX) s.tilt_x <> Each (IsLine IsReal field.TiltY) s.tilt_y
    <> Each IsSeed s.seeds <> Each (IsLine IsPair field.Note) s.notes

-- the bytes are a file that says s: the last line has the checksum of all lines above it
pub record IsFile (bytes : List ℕ) (s : Stored) : Type 0 where
  pub above : List ℕ
  pub last : List ℕ
  pub body : IsBody s above
  pub sum : IsLine (IsSum above) field.Sha256 tt last
  pub whole : bytes ≡ above ++ last
