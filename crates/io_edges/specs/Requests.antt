-- What was asked of files: their calls in order, each with how it came out.
use Rattle.std.specs.Prelude.{◌≡◌, ℕ, List, [], ◌∷◌, ◌++◌, Option, Some, None, Result, Ok, Err, IfSome}
use Rattle.io_edges.specs.declared.files.FileError.{FileError}

-- a call for a name, with the bytes that were to be written, and why it failed, where it did
pub data Request : Type 0 where
  ReadOf : (name : List ℕ) → (failed : Option FileError) → Request
  WriteOf : (name bytes : List ℕ) → (failed : Option FileError) → Request

-- why a call failed, where it did
abbrev pub failed_in : {T : Type 0} → Result T FileError → Option FileError
failed_in (Ok done) = None
failed_in (Err error) = Some error

-- the requests are those of before and this one, where they are told
abbrev pub Requested : (before now : Option (List Request)) → Request → Type 0
Requested before now request = IfSome before (λ requests. now ≡ Some (requests ++ request ∷ []))
