-- A list of named files as names and bytes.
use Rattle.std.specs.Prelude.{ℕ, Bool, List, map, string_bytes, bytes_eq}
use Rattle.io_edges.specs.declared.memory_files.NamedFile.{NamedFile}

-- the bytes of the name, and the bytes of the file
abbrev pub entry_of : NamedFile → List ℕ × List ℕ
entry_of file = (string_bytes file.name, file.bytes.items)

abbrev pub entries : List NamedFile → List (List ℕ × List ℕ)
entries files = map entry_of files

abbrev pub has_name : List ℕ → NamedFile → Bool
has_name name file = bytes_eq (string_bytes file.name) name
