-- Machines and debuggers that are about to begin.
use Rattle.std.specs.Prelude.{◌≡◌, ℕ, List, Option, None, IfSome, IfOk, Ok}
use Rattle.guest_types.specs.Memory.{Memory}
use Rattle.guest_types.specs.EarlyLoads.{StopList}
use Rattle.machine_model.specs.Debugged.{View, is_never}
use Rattle.machine_model.specs.Load.{Image, load}
use Rattle.machine_model.specs.Machine.{State}
use Rattle.machine_model.specs.Run.{start, free_start}
use Rattle.map_text.specs.Mapping.{map_of as pages_of}
use Rattle.command_line.specs.Line.{Task}
use Rattle.sve_debug.specs.DebuggerState.{DebuggerState, Stands}
use Rattle.sve_debug.specs.Replies.{started}
use Rattle.sve_debug.specs.Sessions.{session_text, AsItCame, IsWithin}
use Rattle.program_commands.specs.Commands.{debug_program}
use Rattle.command_answers.specs.Answer.{HeldFiles}
use Rattle.command_answers.specs.Reads.{task_files}
use Rattle.command_answers.specs.Works.{ended}

-- The machine stands at the start of the program in a file, beside the pages of a map, with a stop list, and has done no step.
pub record BeginsProgram (vl : ℕ) (stops : StopList) (task : Task) (bytes map : List ℕ) (machine : View) : Type 0 where
  pub image : Image
  pub pages : Memory
  pub loads : load bytes ≡ Ok image
  pub maps : pages_of map image.pages ≡ Ok pages
  pub state : machine.state ≡ free_start image task.args pages vl stops
  pub steps : machine.steps ≡ 0
  pub over : machine.over ≡ None
  pub quiet : machine.quiet ≡ is_never stops

-- The debugger stands for a session that has begun, and what that answers to an input is what is wanted.
pub record BeginsSession (vl : ℕ) (task : Task) (bytes map : List ℕ) (debugger : DebuggerState) : Type 0 where
  pub begin : State
  pub image : Image
  pub pages : Memory
  pub loads : load bytes ≡ Ok image
  pub maps : pages_of map image.pages ≡ Ok pages
  pub at_start : begin ≡ start image task.args pages vl
  pub stands : Stands debugger begin (started begin)
  pub wanted : (input : List ℕ) → debug_program vl task bytes map input ≡ ended (session_text (started begin) input)

-- The program of some bytes was loaded beside the pages of a map, and a session on it from its start has answered each line that was
-- ended: the output has gained the replies to these lines, and of the input nothing else was taken but a part of one more.
pub record AnswersAsItCame (vl : ℕ) (task : Task) (bytes map input : List ℕ) (left old new : Option (List ℕ)) : Type 0 where
  pub image : Image
  pub pages : Memory
  pub loads : load bytes ≡ Ok image
  pub maps : pages_of map image.pages ≡ Ok pages
  pub came : AsItCame (started (start image task.args pages vl)) input left old new

-- the same of the files of a task
abbrev pub DebugsAsItCame : HeldFiles → ℕ → Task → (input : List ℕ) → (left old new : Option (List ℕ)) → Type 0
DebugsAsItCame held vl task input left old new = IfOk (task_files held task) (λ files. AnswersAsItCame vl task files.0 files.1 input left old new)

-- The input of a session may be asked for its next bytes: the files of the task were read, the program was loaded, fewer bytes than
-- the most were taken, and each line that they ended is answered. Of files or an input that tell nothing, it may always be asked.
abbrev pub DebugsInTime : Option HeldFiles → ℕ → Task → (input left old new : Option (List ℕ)) → Type 0
DebugsInTime held vl task input left old new =
    IfSome input (λ bytes. IfSome held (λ h. (files : List ℕ × List ℕ) × (task_files h task ≡ Ok files) × IsWithin bytes left × AnswersAsItCame vl task files.0 files.1 bytes left old new))
