-- What a page is told of a command, as bytes.
use Rattle.std.specs.Prelude.{ℕ, List, ◌++◌, length, Option, Some, None}
use Rattle.std.specs.Int.{to_le_bytes, w32}

-- bytes after their length, a number of four bytes
abbrev pub field : List ℕ → List ℕ
field bytes = to_le_bytes w32 (length bytes) ++ bytes

-- the status, and what the output and the error output took
abbrev pub told : (status : ℕ) → (printed errors : List ℕ) → List ℕ
told status printed errors = (to_le_bytes w32 status ++ field printed) ++ field errors

-- the same, and the bytes of a file where there is one
abbrev pub answer_bytes : (status : ℕ) → (printed errors : List ℕ) → (file : Option (List ℕ)) → List ℕ
answer_bytes status printed errors None = told status printed errors
answer_bytes status printed errors (Some file) = told status printed errors ++ field file
