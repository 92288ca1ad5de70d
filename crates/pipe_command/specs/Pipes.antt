-- What `pipe` comes to: the runs of the lines of a script, each over the pages of one map as those before left them.
use Rattle.std.specs.Prelude.{ℕ, ◌+◌, List, [], ◌∷◌, ◌++◌, map, Option, Some, None, IsSome, IfOk, Result, Ok, Err, codes, decimal}
use Rattle.std.specs.List.{AllByRecursion}
use Rattle.io_edges.specs.Files.{content}
use Rattle.guest_types.specs.Memory.{Memory}
use Rattle.machine_model.specs.Load.{Image}
use Rattle.machine_model.specs.OutcomeText.{outcome_text, line_feed}
use Rattle.machine_model.specs.Run.{Outcome, image_run}
use Rattle.map_text.specs.Mapping.{map_of as pages_of}
use Rattle.command_line.specs.Line.{Task, Extent}
use Rattle.pipe_script.specs.declared.fault.PipeFault.{PipeFault}
use Rattle.pipe_script.specs.Script.{ScriptEntry, script_of}
use Rattle.pipe_run.specs.PipeRun.{Line, Runs, runs_of, misfit}
use Rattle.refusals.specs.declared.refusal.Refusal.{Refusal}
use Rattle.refusals.specs.declared.refusal.Refusal.TheVariants.{Usage, TooManyLive, Kernel, Asm, Pipe}
use Rattle.refusals.specs.declared.refusal.Done.{Done}
use Rattle.refusals.specs.declared.refusal.Done.TheVariants as done
use Rattle.command_answers.specs.Answer.{HeldFiles, Expected, Answer}
use Rattle.command_answers.specs.Requests.{Want, Read, task_wants}
use Rattle.command_answers.specs.Reads.{and_then, file_of, task_files, IsTaskHeld}
use Rattle.command_answers.specs.Works.{program_of, mapped, done_by, dump_of}

-- ---- the lines

abbrev pub read_as : Result (List ScriptEntry) PipeFault → Result (List ScriptEntry) Refusal
read_as (Ok entries) = Ok entries
read_as (Err fault) = Err (Pipe fault)

-- the `run` lines of a script
abbrev pub entries_of : List ℕ → Result (List ScriptEntry) Refusal
entries_of script = read_as (script_of script)

abbrev pub fitted : Image → Option PipeFault → Result Image Refusal
fitted image None = Ok image
fitted image (Some fault) = Err (Pipe fault)

-- the image of a line, where the map fits beside it
abbrev pub image_in : (pages : Memory) → (line : ℕ) → (bytes : List ℕ) → Result Image Refusal
image_in pages line bytes = and_then (program_of bytes) (λ image. fitted image (misfit line image.pages pages))

-- the same of a line's file
abbrev pub image_of : HeldFiles → (pages : Memory) → ScriptEntry → Result Image Refusal
image_of held pages entry = and_then (file_of held entry.file) (image_in pages entry.line)

-- the lines with one more, by the image of its file
abbrev pub with_line : HeldFiles → (pages : Memory) → List Line → ScriptEntry → Result (List Line) Refusal
with_line held pages before entry = and_then (image_of held pages entry) (λ image. Ok (before ++ record { image = image; args = entry.args } ∷ []))

-- the images and the arguments of the lines; the first line that is refused tells why
unfoldable pub lines_of : HeldFiles → (pages : Memory) → List ScriptEntry → Result (List Line) Refusal
lines_of held pages [] = Ok []
lines_of held pages (entry ∷ entries) =
    and_then (image_of held pages entry) (λ image.
    and_then (lines_of held pages entries) (λ lines.
    Ok (record { image = image; args = entry.args } ∷ lines)))

-- the pages of a map beside no image
abbrev pub map_alone : List ℕ → Result Memory Refusal
map_alone text = mapped (pages_of text [])

-- the lines of a script, and the pages of a map
abbrev pub script_loaded : HeldFiles → (script map : List ℕ) → Result (List Line × Memory) Refusal
script_loaded held script map =
    and_then (entries_of script) (λ entries.
    and_then (map_alone map) (λ pages.
    and_then (lines_of held pages entries) (λ lines.
    Ok (lines, pages))))

-- the run of a line over the pages of the map
abbrev pub line_run : Line → (pages : Memory) → (vl steps : ℕ) → Outcome
line_run line pages vl steps = image_run line.image line.args pages vl steps

-- ---- the text

-- the number of a line, and what came of it
abbrev pub run_text : ℕ → Outcome → List ℕ
run_text n outcome = codes "run " ++ (decimal n ++ (line_feed ++ outcome_text outcome))

-- the same of lines, the first of which has this number
unfoldable pub runs_text : ℕ → List Outcome → List ℕ
runs_text n [] = []
runs_text n (outcome ∷ outcomes) = run_text n outcome ++ runs_text (n + 1) outcomes

-- how the last of some lines came out
unfoldable pub last_done : List Outcome → Done
last_done [] = done.Ended
last_done (outcome ∷ []) = done_by outcome
last_done (first ∷ outcome ∷ outcomes) = last_done (outcome ∷ outcomes)

-- the text of the lines that ran, and the dump of the map's pages after them
abbrev pub piped : Option Extent → Runs → Expected
piped dump runs = Ok (record { how = last_done runs.outcomes; text = runs_text 1 runs.outcomes ++ dump_of dump runs.pages })

-- ---- the command

-- a script over the pages of a map
abbrev pub pipe_files : HeldFiles → (vl : ℕ) → Task → (script map : List ℕ) → Expected
pipe_files held vl task script map = and_then (script_loaded held script map) (λ loaded. piped task.dump (runs_of loaded.0 loaded.1 vl task.steps))

abbrev pub expected_of_pipe : HeldFiles → (vl : ℕ) → Task → Expected
expected_of_pipe held vl task = and_then (task_files held task) (λ files. pipe_files held vl task files.0 files.1)

-- ---- the files that are asked for

abbrev pub entry_want : ScriptEntry → Want
entry_want entry = Read entry.file

abbrev pub lines_wants : List ScriptEntry → List Want
lines_wants entries = map entry_want entries

-- the files of the lines, where the script is read
abbrev pub entries_wants : Result (List ScriptEntry) PipeFault → List Want
entries_wants (Ok entries) = lines_wants entries
entries_wants (Err fault) = []

-- the script and the map, and then the files of the script's lines
abbrev pub wants_after : Result (List ℕ × List ℕ) Refusal → List Want
wants_after (Ok files) = entries_wants (script_of files.0)
wants_after (Err refusal) = []

abbrev pub pipe_wants : HeldFiles → Task → List Want
pipe_wants held task = task_wants task ++ wants_after (task_files held task)

-- ---- the answers

-- no answer of other commands: no kernel is read and no text of words
abbrev pub IsOfPipe : Answer → Type 0
IsOfPipe (Err Usage) = ⊥
IsOfPipe (Err (TooManyLive class need)) = ⊥
IsOfPipe (Err (Kernel fault)) = ⊥
IsOfPipe (Err (Asm fault)) = ⊥
IsOfPipe answer = Unit {0}

-- the files of the lines are held
abbrev pub AreHeld : HeldFiles → List ScriptEntry → Type 0
AreHeld held entries = AllByRecursion (λ entry. IsSome (content held entry.file)) entries

-- the script and the map are held, and the files that the script names
abbrev pub IsPipeHeld : HeldFiles → Task → Type 0
IsPipeHeld held task = IsTaskHeld held task × IfOk (task_files held task) (λ files. IfOk (script_of files.0) (AreHeld held))
