-- What the calls of files do. Files are a finite map from names to bytes, written as a list of both
-- in which the first with a name counts.
use Rattle.std.specs.Prelude.{◌≡◌, ◌≢◌, ℕ, ◌+◌, ◌-◌, ◌^◌, ◌<◌, ◌≤◌, min, Bool, true, ◌&&◌, is_none, List, [], ◌∷◌, ◌++◌, length, Option, Some, None, IsSome, Result, Err, IsErrOf, OnOk, IfSome, IsTrue, bytes_eq, if◌then◌else◌}
use Rattle.io_edges.specs.declared.files.FileError.{FileError}
use Rattle.io_edges.specs.declared.files.FileError.TheVariants.{Failed, TooLong}
use Rattle.io_edges.specs.declared.files.TheConstants.{MAX_FILE}

-- one more, in a count of 64 bits that stays at its last value
abbrev pub one_more : ℕ → ℕ
one_more count = min (count + 1) (2 ^ 64 - 1)

-- a count of faults has gone up, or stands at its last value
abbrev pub Rose : ℕ → ℕ → Type 0
Rose before now = one_more before ≤ now

-- the count of faults never falls, and `Failed` is answered only where it rose
pub record HasCause {T : Type 0} (before now : ℕ) (result : Result T FileError) : Type 0 where
  pub later : before ≤ now
  pub failed : IsErrOf result Failed → Rose before now

-- the bytes under a name
abbrev pub content : List (List ℕ × List ℕ) → List ℕ → Option (List ℕ)
content [] name = None
content (file ∷ files) name = if bytes_eq file.0 name then Some file.1 else content files name

-- no two files have one name
abbrev pub names_differ : List (List ℕ × List ℕ) → Bool
names_differ [] = true
names_differ (file ∷ files) = is_none (content files file.0) && names_differ files

-- a file that is not too long was appended, one that is was refused, and there is always a file
abbrev pub ReadsFrom : Option (List ℕ) → List ℕ → List ℕ → Result (Unit {0}) FileError → Type 0
ReadsFrom None old new result = OnOk result ⊥ × (IsErrOf result TooLong → ⊥)
ReadsFrom (Some bytes) old new result =
    OnOk result ((length bytes ≤ MAX_FILE) × (new ≡ old ++ bytes)) × (IsErrOf result TooLong → MAX_FILE < length bytes)

-- a read of a name made `new` of `old`, where the files tell what they hold
abbrev pub Reads : Option (List (List ℕ × List ℕ)) → List ℕ → List ℕ → List ℕ → Result (Unit {0}) FileError → Type 0
Reads held name old new result = IfSome held (λ files. ReadsFrom (content files name) old new result)

-- after an `Ok` the name has these bytes, and every other name has what it had
pub record Replaces {E : Type 0} (name bytes : List ℕ) (old new : List (List ℕ × List ℕ)) (result : Result (Unit {0}) E) : Type 0 where
  pub written : OnOk result (content new name ≡ Some bytes)
  pub others : (other : List ℕ) → other ≢ name → content new other ≡ content old other

-- a write of the bytes under a name; files that tell what they hold go on to, and no others do
abbrev pub Writes : Option (List (List ℕ × List ℕ)) → Option (List (List ℕ × List ℕ)) → List ℕ → List ℕ → Result (Unit {0}) FileError → Type 0
Writes None new name bytes result = new ≡ None
Writes (Some old) new name bytes result =
    (after : List (List ℕ × List ℕ)) × (new ≡ Some after) × Replaces name bytes old after result

-- steady files stay so, and do not fail at a name that they hold
abbrev pub ReadsSteadily : Bool → Bool → Option (List (List ℕ × List ℕ)) → List ℕ → Result (Unit {0}) FileError → Type 0
ReadsSteadily before now held name result =
    IsTrue before → IsTrue now × IfSome held (λ files. IsSome (content files name) → result ≢ Err Failed)

-- steady files stay so, and do not fail
abbrev pub WritesSteadily : Bool → Bool → Result (Unit {0}) FileError → Type 0
WritesSteadily before now result = IsTrue before → IsTrue now × (result ≢ Err Failed)
