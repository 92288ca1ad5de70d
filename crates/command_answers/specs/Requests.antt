-- What a command asks of the files: reads of names in order, and then a write, where there is one.
use Rattle.std.specs.Prelude.{◌≡◌, List, [], ◌∷◌, ◌++◌, ℕ, Option, Some, None, Result, Ok, Err, IfSome}
use Rattle.io_edges.specs.declared.files.FileError.{FileError}
use Rattle.io_edges.specs.Requests.{Request, ReadOf, WriteOf}
use Rattle.command_line.specs.Line.{Task}
use Rattle.refusals.specs.declared.refusal.Refusal.{Refusal}
use Rattle.refusals.specs.declared.refusal.Refusal.TheVariants.{File, TooLong}
use Rattle.refusals.specs.Statuses.{of_files}

-- what is to be asked for: the file of a name, to be read or to be written
pub data Want : Type 0 where
  Read : (name : List ℕ) → Want
  Write : (name : List ℕ) → Want

abbrev pub map_wants : Option (List ℕ) → List Want
map_wants None = []
map_wants (Some name) = Read name ∷ []

-- the file of a task, and then its map, where it names one
abbrev pub task_wants : Task → List Want
task_wants task = Read task.file ∷ map_wants task.map

-- a request for what is wanted
abbrev pub IsFor : Want → Request → Type 0
IsFor (Read name) (ReadOf asked failed) = asked ≡ name
IsFor (Write name) (WriteOf asked bytes failed) = asked ≡ name
IsFor want request = ⊥

abbrev pub failure_of : Request → Option FileError
failure_of (ReadOf name failed) = failed
failure_of (WriteOf name bytes failed) = failed

abbrev pub IsOk : {T : Type 0} → Result T Refusal → Type 0
IsOk (Ok x) = Unit {0}
IsOk (Err refusal) = ⊥

-- a refusal that is not only the files': of what was read, of the output, or want of memory
abbrev pub IsElsewhere : Refusal → Type 0
IsElsewhere File = ⊥
IsElsewhere TooLong = ⊥
IsElsewhere refusal = Unit {0}

abbrev pub IsNotOfFiles : {T : Type 0} → Result T Refusal → Type 0
IsNotOfFiles (Ok x) = Unit {0}
IsNotOfFiles (Err refusal) = IsElsewhere refusal

abbrev pub IsRefusedElsewhere : {T : Type 0} → Result T Refusal → Type 0
IsRefusedElsewhere (Ok x) = ⊥
IsRefusedElsewhere (Err refusal) = IsElsewhere refusal

-- The requests are for what is wanted, in order and once each. One that failed is the last, and the answer is its fault. Where fewer
-- are made than are wanted, the answer is a refusal of what was read, or want of memory. Of an answer after all of them `After` holds.
pub data Asked {T : Type 0} (After : Result T Refusal → Type 0) : List Want → List Request → Result T Refusal → Type 0 where
  all_went : {answer : Result T Refusal} → After answer → Asked After [] [] answer
  refused : {want : Want} {wants : List Want} {answer : Result T Refusal} → IsRefusedElsewhere answer → Asked After (want ∷ wants) [] answer
  failed : {want : Want} {wants : List Want} {request : Request} {answer : Result T Refusal} (error : FileError) → IsFor want request → failure_of request ≡ Some error
      → answer ≡ Err (of_files error) → Asked After (want ∷ wants) (request ∷ []) answer
  went : {want : Want} {wants : List Want} {request : Request} {requests : List Request} {answer : Result T Refusal} → IsFor want request → failure_of request ≡ None
      → Asked After wants requests answer → Asked After (want ∷ wants) (request ∷ requests) answer

-- what was asked for goes on by requests of which this holds, where it is told
abbrev pub GoesOn : (before now : Option (List Request)) → (List Request → Type 0) → Type 0
GoesOn before now P = IfSome before (λ log. (requests : List Request) × (now ≡ Some (log ++ requests)) × P requests)

-- these wants were asked for
abbrev pub Asks : {T : Type 0} → (After : Result T Refusal → Type 0) → (before now : Option (List Request)) → List Want → Result T Refusal → Type 0
Asks After before now wants answer = GoesOn before now (λ requests. Asked After wants requests answer)
