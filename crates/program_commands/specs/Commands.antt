-- What the commands on programs come to: `list`, `run`, `debug` and `asm`.
use Rattle.std.specs.Prelude.{◌≡◌, ℕ, List, [], Option, Some, None, IfSome, Result, Ok, Err, nat_lt, if◌then◌else◌}
use Rattle.io_edges.specs.Files.{content}
use Rattle.guest_types.specs.Memory.{Memory}
use Rattle.guest_types.specs.EarlyLoads.{StopList, Each, never}
use Rattle.machine_model.specs.Load.{Image}
use Rattle.machine_model.specs.Run.{start, free_start, run}
use Rattle.machine_model.specs.Written.{file_of as file_of_words}
use Rattle.map_text.specs.Mapping.{map_of as pages_of}
use Rattle.sve_asm.specs.declared.fault.AsmFault.{AsmFault}
use Rattle.sve_asm.specs.Lines.{words_of}
use Rattle.command_line.specs.Line.{Task}
use Rattle.sve_debug.specs.Replies.{started}
use Rattle.sve_debug.specs.Sessions.{session_text}
use Rattle.refusals.specs.declared.refusal.Refusal.{Refusal}
use Rattle.refusals.specs.declared.refusal.Refusal.TheVariants.{Usage, TooManyLive, Kernel, Elf, Map, Asm, Pipe, Memory as NoMemory, Output}
use Rattle.refusals.specs.declared.refusal.Done.TheVariants as done
use Rattle.command_answers.specs.Answer.{HeldFiles, Expected, Answer}
use Rattle.command_answers.specs.Reads.{and_then, file_of, task_files}
use Rattle.command_answers.specs.Works.{ended, program_of, mapped, success_of}
use Rattle.program_commands.specs.Listing.{listing_of}

-- ---- programs beside the pages of a map

-- the pages of a map beside those of an image
abbrev pub beside : Image → List ℕ → Result Memory Refusal
beside image text = mapped (pages_of text image.pages)

-- what comes of a program and the pages of a map beside it
unfoldable pub with_program : (bytes map : List ℕ) → (Image → Memory → Expected) → Expected
with_program bytes map next = and_then (program_of bytes) (λ image. and_then (beside image map) (next image))

-- ---- list

unfoldable pub list_program : List ℕ → Expected
list_program bytes = and_then (program_of bytes) (λ image. ended (listing_of image))

abbrev pub expected_of_list : HeldFiles → List ℕ → Expected
expected_of_list held from = and_then (file_of held from) list_program

-- ---- run

-- the stop list of a run: one free element of each so many, or none; a line gives no number less than 1
abbrev pub stops_of : Option ℕ → StopList
stops_of None = never
stops_of (Some every) = if nat_lt every 1 then never else Each every 0

-- the machine's run of a program with some pages and a stop list
abbrev pub ran : ℕ → StopList → Task → Image → Memory → Expected
ran vl stops task image pages = success_of task.dump (run task.steps 0 (free_start image task.args pages vl stops))

unfoldable pub run_program : ℕ → StopList → Task → (bytes map : List ℕ) → Expected
run_program vl stops task bytes map = with_program bytes map (ran vl stops task)

abbrev pub expected_of_run : HeldFiles → ℕ → StopList → Task → Expected
expected_of_run held vl stops task = and_then (task_files held task) (λ files. run_program vl stops task files.0 files.1)

-- ---- debug

-- a session on a program with some pages, over the bytes of the input
abbrev pub debugged : ℕ → Task → (input : List ℕ) → Image → Memory → Expected
debugged vl task input image pages = ended (session_text (started (start image task.args pages vl)) input)

unfoldable pub debug_program : ℕ → Task → (bytes map input : List ℕ) → Expected
debug_program vl task bytes map input = with_program bytes map (debugged vl task input)

abbrev pub expected_of_debug : HeldFiles → (input : List ℕ) → ℕ → Task → Expected
expected_of_debug held input vl task = and_then (task_files held task) (λ files. debug_program vl task files.0 files.1 input)

-- ---- asm

-- by the words of a text
abbrev pub assembled_by : Result (List ℕ) AsmFault → Expected
assembled_by (Ok words) = ended []
assembled_by (Err fault) = Err (Asm fault)

unfoldable pub assemble_text : List ℕ → Expected
assemble_text text = assembled_by (words_of text)

abbrev pub expected_of_asm : HeldFiles → List ℕ → Expected
expected_of_asm held from = and_then (file_of held from) assemble_text

-- a refusal of a text of words is the wanted one, or want of memory
abbrev pub RefusesAsm : Expected → Refusal → Type 0
RefusesAsm wanted NoMemory = Unit {0}
RefusesAsm wanted (Asm fault) = wanted ≡ Err (Asm fault)
RefusesAsm wanted refusal = ⊥

-- the file of the words of a text
pub record AssemblesTo (text file : List ℕ) : Type 0 where
  pub words : List ℕ
  pub spelled : words_of text ≡ Ok words
  pub is_file : file ≡ file_of_words words

-- the one name has the file of the words of the text that the other had
abbrev pub IsAssembled : (old new : HeldFiles) (from to : List ℕ) → Type 0
IsAssembled old new from to = IfSome (content old from) (λ text. (file : List ℕ) × (content new to ≡ Some file) × AssemblesTo text file)

-- ---- the answers of each command

-- no answer of other commands: a listing does not stop, spends no steps, and reads no kernel, map or text of words
abbrev pub IsOfList : Answer → Type 0
IsOfList (Ok how) = how ≡ done.Ended
IsOfList (Err Usage) = ⊥
IsOfList (Err (TooManyLive class need)) = ⊥
IsOfList (Err (Kernel fault)) = ⊥
IsOfList (Err (Map fault)) = ⊥
IsOfList (Err (Asm fault)) = ⊥
IsOfList (Err (Pipe fault)) = ⊥
IsOfList (Err refusal) = Unit {0}

abbrev pub IsOfRun : Answer → Type 0
IsOfRun (Err Usage) = ⊥
IsOfRun (Err (TooManyLive class need)) = ⊥
IsOfRun (Err (Kernel fault)) = ⊥
IsOfRun (Err (Asm fault)) = ⊥
IsOfRun (Err (Pipe fault)) = ⊥
IsOfRun answer = Unit {0}

abbrev pub IsOfDebug : Answer → Type 0
IsOfDebug (Ok how) = how ≡ done.Ended
IsOfDebug (Err Usage) = ⊥
IsOfDebug (Err (TooManyLive class need)) = ⊥
IsOfDebug (Err (Kernel fault)) = ⊥
IsOfDebug (Err (Asm fault)) = ⊥
IsOfDebug (Err (Pipe fault)) = ⊥
IsOfDebug (Err refusal) = Unit {0}

abbrev pub IsOfAsm : Answer → Type 0
IsOfAsm (Ok how) = how ≡ done.Ended
IsOfAsm (Err Usage) = ⊥
IsOfAsm (Err (TooManyLive class need)) = ⊥
IsOfAsm (Err (Kernel fault)) = ⊥
IsOfAsm (Err (Elf fault)) = ⊥
IsOfAsm (Err (Map fault)) = ⊥
IsOfAsm (Err (Pipe fault)) = ⊥
IsOfAsm (Err Output) = ⊥
IsOfAsm (Err refusal) = Unit {0}
