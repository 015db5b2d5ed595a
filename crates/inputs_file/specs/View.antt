-- What is read, without where it lies in memory.
use Rattle.std.specs.Prelude.{ℕ, List, map, Option, String, string_bytes}
use Rattle.std.specs.Option.{option_map}
use Rattle.inputs_file.specs.declared.stored.HostVersion.{HostVersion}
use Rattle.inputs_file.specs.declared.stored.ViewsFile.{ViewsFile}
use Rattle.inputs_file.specs.declared.stored.Note.{Note}
use Rattle.inputs_file.specs.declared.stored.StoredInputs.{StoredInputs}
use Rattle.inputs_file.specs.Grammar.{Stored}

abbrev pub host_view : HostVersion → List ℕ × List ℕ
host_view h = (string_bytes h.name, string_bytes h.version)

abbrev pub opening_view : {Z : Type 0} → String Z × Option HostVersion → List ℕ × Option (List ℕ × List ℕ)
opening_view x = (string_bytes x.0, option_map host_view x.1)

abbrev pub file_view : ViewsFile → List ℕ × List ℕ
file_view f = (string_bytes f.name, string_bytes f.sha256)

abbrev pub views_file_view : Option ViewsFile → Option (List ℕ × List ℕ)
views_file_view file = option_map file_view file

abbrev pub note_view : Note → List ℕ × List ℕ
note_view n = (string_bytes n.name, string_bytes n.text)

abbrev pub view : StoredInputs → Stored
view s = record {
  library = string_bytes s.library;
  host = option_map host_view s.host;
  date = string_bytes s.date;
  views_file = option_map file_view s.views_file;
  views = s.views;
  options = s.options;
  base = s.base;
  centre = s.centre;
  tilt_x = s.tilt_x.items;
  tilt_y = s.tilt_y.items;
  seeds = s.seeds.items;
  notes = map note_view s.notes.items;
}
