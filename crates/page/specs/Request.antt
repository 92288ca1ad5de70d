-- What a page asks, as bytes.
use Rattle.std.specs.Prelude.{◌≡◌, ◌≢◌, ◌<◌, ◌^◌, ℕ, List, [], ◌∷◌, ◌++◌, length, flat_map, IsTrue}
use Rattle.std.specs.Int.{to_le_bytes, w32}
use Rattle.std.specs.Str.{IsUtf8}
use Rattle.io_edges.specs.Files.{names_differ}
use Rattle.page.specs.Answer.{field}

-- fields one after another, after their number
abbrev pub counted : List (List ℕ) → List ℕ
counted parts = to_le_bytes w32 (length parts) ++ flat_map field parts

-- the name of a file and its bytes
abbrev pub file_bytes : List ℕ × List ℕ → List ℕ
file_bytes file = field file.0 ++ field file.1

-- files one after another, after their number
abbrev pub counted_files : List (List ℕ × List ℕ) → List ℕ
counted_files files = to_le_bytes w32 (length files) ++ flat_map file_bytes files

-- the words of a command, the files, the bytes of the input, and the name of the file that is wanted
abbrev pub request_bytes : (words : List (List ℕ)) (files : List (List ℕ × List ℕ)) (input wanted : List ℕ) → List ℕ
request_bytes words files input wanted = counted words ++ (counted_files files ++ (field input ++ field wanted))

-- ---- bytes that are none

-- each of some things is such
abbrev pub AllOf : {A : Type 0} → (A → Type 0) → List A → Type 0
AllOf Good [] = Unit {0}
AllOf Good (it ∷ others) = Good it × AllOf Good others

-- the name of a file is a text
abbrev pub IsNamed : List ℕ × List ℕ → Type 0
IsNamed file = IsUtf8 file.0

-- whatever it is
abbrev pub Any : {A : Type 0} → A → Type 0
Any it = Unit {0}

-- fewer than 2^32 bytes, of which the first spell no such thing
abbrev pub HasNo : {A : Type 0} → (A → List ℕ) → (A → Type 0) → List ℕ → Type 0
HasNo {A} code Good bytes = length bytes < 2 ^ 32 → (it : A) (rest : List ℕ) → Good it → bytes ≢ code it ++ rest

-- The bytes of no words, files, input and name; of fewer than 2^32 bytes.
abbrev pub IsNoRequest : List ℕ → Type 0
IsNoRequest bytes = length bytes < 2 ^ 32 → (words : List (List ℕ)) (files : List (List ℕ × List ℕ)) (input wanted : List ℕ)
    → AllOf IsUtf8 words → AllOf IsNamed files → IsTrue (names_differ files) → IsUtf8 wanted → bytes ≢ request_bytes words files input wanted
