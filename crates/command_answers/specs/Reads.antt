-- The files that a command reads, and the one that it writes.
use Rattle.std.specs.Prelude.{◌≡◌, ◌≢◌, ℕ, List, [], length, Option, Some, None, IsSome, IfOk, Vec, Result, Ok, Err, nat_lt, if◌then◌else◌}
use Rattle.io_edges.specs.Files.{content}
use Rattle.io_edges.specs.declared.files.TheConstants.{MAX_FILE}
use Rattle.command_line.specs.Line.{Task}
use Rattle.refusals.specs.declared.refusal.Refusal.{Refusal}
use Rattle.refusals.specs.declared.refusal.Refusal.TheVariants.{TooLong, Memory, File}
use Rattle.command_answers.specs.declared.files.TaskFiles.{TaskFiles}
use Rattle.command_answers.specs.Answer.{HeldFiles, Expected}

-- what follows where nothing was refused
abbrev pub and_then : {T U : Type 0} → Result T Refusal → (T → Result U Refusal) → Result U Refusal
and_then (Ok x) next = next x
and_then (Err refusal) next = Err refusal

-- ---- the files that are read

-- the bytes of a file: one that is not held cannot be read, and one that is too long is refused
abbrev pub bytes_of : Option (List ℕ) → Result (List ℕ) Refusal
bytes_of None = Err File
bytes_of (Some bytes) = if nat_lt MAX_FILE (length bytes) then Err TooLong else Ok bytes

abbrev pub file_of : HeldFiles → List ℕ → Result (List ℕ) Refusal
file_of held name = bytes_of (content held name)

-- the text of a page map, which is empty where none is named
abbrev pub map_of : HeldFiles → Option (List ℕ) → Result (List ℕ) Refusal
map_of held None = Ok []
map_of held (Some name) = file_of held name

-- the bytes of a task's file, and the text of its map, which is read after it
abbrev pub task_files : HeldFiles → Task → Result (List ℕ × List ℕ) Refusal
task_files held task = and_then (file_of held task.file) (λ file. and_then (map_of held task.map) (λ map. Ok (file, map)))

-- what is wanted once something was read
abbrev pub AfterRead : {T : Type 0} → Result T Refusal → (T → Expected → Type 0) → Expected → Type 0
AfterRead (Ok x) next work = next x work
AfterRead (Err refusal) next work = work ≡ Err refusal

-- the bytes that a read answers
abbrev pub bytes_in : {A B : Type 0} → Result (Vec A B) Refusal → Result (List A) Refusal
bytes_in (Ok bytes) = Ok bytes.items
bytes_in (Err refusal) = Err refusal

-- the same of the files of a task
abbrev pub files_in : Result TaskFiles Refusal → Result (List ℕ × List ℕ) Refusal
files_in (Ok read) = Ok (read.file.items, read.map.items)
files_in (Err refusal) = Err refusal

-- a refusal of a read
abbrev pub IsOfRead : {T : Type 0} → Result T Refusal → Type 0
IsOfRead (Err TooLong) = Unit {0}
IsOfRead (Err Memory) = Unit {0}
IsOfRead (Err File) = Unit {0}
IsOfRead (Err refusal) = ⊥
IsOfRead (Ok x) = Unit {0}

-- a file that is named is held
abbrev pub IsMapHeld : HeldFiles → Option (List ℕ) → Type 0
IsMapHeld held None = Unit {0}
IsMapHeld held (Some name) = IsSome (content held name)

-- the files of a task are held: the map only where the file before it can be read
abbrev pub IsTaskHeld : HeldFiles → Task → Type 0
IsTaskHeld held task = IsSome (content held task.file) × IfOk (file_of held task.file) (λ file. IsMapHeld held task.map)

-- ---- the file that is written

-- every other name has what it had
abbrev pub ChangesOnly : HeldFiles → HeldFiles → List ℕ → Type 0
ChangesOnly old new to = (name : List ℕ) → name ≢ to → content new name ≡ content old name
