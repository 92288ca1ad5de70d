-- What `run` prints of a file that is faithful to a kernel, as one that `compile` wrote is.
use Rattle.std.specs.Prelude.{◌≡◌, ℕ, ◌≤◌, List, ◌++◌, Option, Some, Ok}
use Rattle.guest_types.specs.EarlyLoads.{StopList}
use Rattle.guest_types.specs.Memory.{Memory, merged}
use Rattle.io_edges.specs.Files.{content}
use Rattle.machine_model.specs.Load.{Image, load}
use Rattle.machine_model.specs.OutcomeText.{outcome_text}
use Rattle.machine_model.specs.Run.{Outcome, End, free_start, suppressed, memory_left}
use Rattle.map_text.specs.Mapping.{map_of as pages_of}
use Rattle.kernel_tree.specs.Plain.{Program}
use Rattle.kernel_meaning.specs.ScalarRun as scalar
use Rattle.kernel_meaning.specs.ScalarRun.{begun, scalar_run}
use Rattle.kernel_front.specs.Verdict.{Sound, IsVerdict}
use Rattle.dependence.specs.Bound.{free_bound}
use Rattle.close_bound.specs.CloseBound.{close_bound}
use Rattle.promises.specs.Faithful.{Stops, IsFaithful, IsEmpty, IsAny, bound_steps, end_steps}
use Rattle.command_line.specs.Line.{Words, Task, RunLine, line_of}
use Rattle.refusals.specs.declared.refusal.Done.TheVariants as done
use Rattle.command_answers.specs.Answer.{HeldFiles, Expected}
use Rattle.command_answers.specs.Reads.{file_of, map_of}
use Rattle.command_answers.specs.Works.{dump_of}
use Rattle.program_commands.specs.Commands.{stops_of, expected_of_run}
use Rattle.compile_command.specs.Compiles.{IsCompiled}

-- Where the scalar loop ends, the text is its result and the steps, and then the dump of its memory. Where it faults, the program
-- stopped at a read or a write, and each byte of the memory that is dumped is that of the scalar loop, but for those near the fault.
abbrev pub Answers : Program → (vl : ℕ) → Task → scalar.Run → Expected → Type 0
Answers k vl task (scalar.End memory result m) work =
    (steps : ℕ) × (work ≡ Ok (record { how = done.Ended; text = outcome_text (End memory result steps) ++ dump_of task.dump memory }))
Answers k vl task (scalar.Fault memory m) work =
    (outcome : Outcome) × Stops k task.args vl memory m outcome
    × (work ≡ Ok (record { how = done.Stopped; text = outcome_text outcome ++ dump_of task.dump (memory_left outcome) }))

-- how many steps are enough, where m iterations are begun and q free elements suppressed
abbrev pub Steps : Type 0
Steps = Program → (args : List ℕ) (vl m q : ℕ) → ℕ

-- so many are enough for a run over these pages beside the image's, where the kernel begins m iterations
unfoldable pub enough_for : Steps → Program → (vl : ℕ) (suppress : Option ℕ) → Task → Image → (pages : Memory) → (m : ℕ) → ℕ
enough_for within k vl suppress task image pages m = within k task.args vl m (suppressed task.steps (free_start image task.args pages vl (stops_of suppress)))

-- The length, the number of a stop list and the task are those of a call of `run`. Its file is loaded; the map's text
-- gives these pages beside the image; and the most steps are at least so many.
pub record IsRun (held : HeldFiles) (vl : ℕ) (suppress : Option ℕ) (task : Task) (file : List ℕ) (image : Image) (pages : Memory) (needed : ℕ) : Type 0 where
  pub words : Words
  pub spelled : line_of words ≡ Some (RunLine vl suppress task)
  pub loads : load file ≡ Ok image
  pub map : List ℕ
  pub map_read : map_of held task.map ≡ Ok map
  pub maps : pages_of map image.pages ≡ Ok pages
  pub enough : needed ≤ task.steps

-- What is wanted of `run` for a file that is faithful to a kernel is what the kernel's scalar loop comes to: with the stop lists and
-- within the bound of which the promise speaks. The most steps are enough for the kernel's run and what the stop list suppresses.
abbrev pub FaithfulWithin : Steps → (StopList → Type 0) → Type 0
FaithfulWithin within IsAllowed =
    (k : Program) (held : HeldFiles) (vl : ℕ) (suppress : Option ℕ) (task : Task) (file : List ℕ) (image : Image)
    (pages : Memory) (work : Expected)
    → IsFaithful within IsAllowed k file → IsAllowed (stops_of suppress) → file_of held task.file ≡ Ok file
    → let run = scalar_run k task.args (merged image.pages pages) in
    IsRun held vl suppress task file image pages (enough_for within k vl suppress task image pages (begun run))
    → work ≡ expected_of_run held vl (stops_of suppress) task → Answers k vl task run work

-- The same of the file that `compile` left at status 0 under one name, where the text of a kernel stood under the other.
abbrev pub CompiledWithin : Steps → (StopList → Type 0) → Type 0
CompiledWithin within IsAllowed =
    (old new held : HeldFiles) (from to text : List ℕ) (k : Program) (vl : ℕ) (suppress : Option ℕ) (task : Task)
    (file : List ℕ) (image : Image) (pages : Memory) (work : Expected)
    → content old from ≡ Some text → IsVerdict text (Sound k)
    → IsCompiled old new from to → content new to ≡ Some file → IsAllowed (stops_of suppress) → content held task.file ≡ Some file
    → let run = scalar_run k task.args (merged image.pages pages) in
    IsRun held vl suppress task file image pages (enough_for within k vl suppress task image pages (begun run))
    → work ≡ expected_of_run held vl (stops_of suppress) task → Answers k vl task run work

-- without a stop list, within the bound that counts chunks; and with every one, within the bound that counts the free elements that are
-- suppressed too, within the close one, and within the one that counts iterations alone
pub record OfEach (Within : Steps → (StopList → Type 0) → Type 0) : Type 0 where
  pub plain : Within bound_steps IsEmpty
  pub free : Within free_bound IsAny
  pub close : Within close_bound IsAny
  pub ends : Within end_steps IsAny

abbrev pub FaithfulRuns : Type 0
FaithfulRuns = OfEach FaithfulWithin

abbrev pub CompiledRuns : Type 0
CompiledRuns = OfEach CompiledWithin
