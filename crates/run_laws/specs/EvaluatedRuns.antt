-- What `eval` of a kernel and `run` of a file that is faithful to it have in common: where `eval` ends, `run` ends with the same result.
use Rattle.std.specs.Prelude.{◌≡◌, ℕ, ◌≤◌, List, ◌++◌, Option, Some, Ok, IsOkAnd}
use Rattle.guest_types.specs.EarlyLoads.{StopList}
use Rattle.guest_types.specs.Memory.{Memory, byte_at, merged}
use Rattle.io_edges.specs.Files.{content}
use Rattle.machine_model.specs.Load.{Image}
use Rattle.machine_model.specs.OutcomeText.{outcome_text}
use Rattle.machine_model.specs.Run.{End}
use Rattle.kernel_tree.specs.Plain.{Program}
use Rattle.kernel_meaning.specs.ScalarRun.{begun, scalar_run}
use Rattle.kernel_meaning.specs.declared.outcome.ScalarOutcome.TheVariants as scalar
use Rattle.scalar_text.specs.ScalarText.{scalar_text}
use Rattle.kernel_front.specs.Verdict.{Sound, IsVerdict}
use Rattle.promises.specs.Faithful.{IsFaithful}
use Rattle.command_line.specs.Line.{Task}
use Rattle.refusals.specs.declared.refusal.Done.TheVariants as done
use Rattle.command_answers.specs.Answer.{HeldFiles, Expected}
use Rattle.command_answers.specs.Reads.{file_of, map_of}
use Rattle.command_answers.specs.Works.{dump_of}
use Rattle.program_commands.specs.Commands.{stops_of, expected_of_run}
use Rattle.kernel_commands.specs.Commands.{ExpectsEval}
use Rattle.compile_command.specs.Compiles.{IsCompiled}
use Rattle.run_laws.specs.CompiledRuns.{Steps, enough_for, IsRun, OfEach}

-- the command is done, and what it ran came to an end
abbrev pub HasEnded : Expected → Type 0
HasEnded work = IsOkAnd work (λ success. success.how ≡ done.Ended)

-- A call of `eval` that ended. It has the text of the kernel, and the arguments and the map's text of a call of `run`.
pub record IsEval (k : Program) (held : HeldFiles) (task : Task) (running : HeldFiles) (run : Task) (work : Expected) : Type 0 where
  pub text : List ℕ
  pub stands : content held task.file ≡ Some text
  pub sound : IsVerdict text (Sound k)
  pub map : map_of held task.map ≡ map_of running run.map
  pub args : task.args ≡ run.args
  pub wanted : ExpectsEval held task work
  pub ended : HasEnded work

-- Both ended, with one result. The memory is what `eval` leaves of the map's pages. `run` leaves the same of them, each byte as `eval` does,
-- and the image's pages as they were loaded; and it takes no more steps than are enough.
pub record BothEnd (image : Image) (enough : ℕ) (eval run : Task) (evaluated ran : Expected) : Type 0 where
  pub memory : Memory
  pub result : ℕ
  pub m : ℕ
  pub steps : ℕ
  pub is_evaluated : evaluated ≡ Ok (record { how = done.Ended; text = scalar_text (scalar.End result m) ++ dump_of eval.dump memory })
  pub is_run : ran ≡ Ok (record { how = done.Ended; text = outcome_text (End (merged image.pages memory) result steps) ++ dump_of run.dump (merged image.pages memory) })
  pub same : (a b : ℕ) → byte_at memory a ≡ Some b → byte_at (merged image.pages memory) a ≡ Some b
  pub few : steps ≤ enough

-- The file is faithful to the kernel, with the stop lists and within the bound of which the promise speaks; `eval` ended; and the most steps
-- of `run` are enough for the iterations that `eval` began and what the stop list suppresses.
abbrev pub FaithfulAgrees : Steps → (StopList → Type 0) → Type 0
FaithfulAgrees within IsAllowed =
    (k : Program) (evals held : HeldFiles) (vl : ℕ) (suppress : Option ℕ) (eval task : Task) (file : List ℕ)
    (image : Image) (pages : Memory) (evaluated ran : Expected)
    → IsFaithful within IsAllowed k file → IsAllowed (stops_of suppress) → file_of held task.file ≡ Ok file
    → let needed = enough_for within k vl suppress task image pages (begun (scalar_run k task.args pages)) in
    IsEval k evals eval held task evaluated → IsRun held vl suppress task file image pages needed
    → ran ≡ expected_of_run held vl (stops_of suppress) task
    → BothEnd image needed eval task evaluated ran

-- The same of the file that `compile` left at status 0 under one name, where the text of the kernel stood under the other.
abbrev pub CompiledAgrees : Steps → (StopList → Type 0) → Type 0
CompiledAgrees within IsAllowed =
    (old new evals held : HeldFiles) (from to text : List ℕ) (k : Program) (vl : ℕ) (suppress : Option ℕ)
    (eval task : Task) (file : List ℕ) (image : Image) (pages : Memory) (evaluated ran : Expected)
    → content old from ≡ Some text → IsVerdict text (Sound k)
    → IsCompiled old new from to → content new to ≡ Some file → IsAllowed (stops_of suppress) → content held task.file ≡ Some file
    → let needed = enough_for within k vl suppress task image pages (begun (scalar_run k task.args pages)) in
    IsEval k evals eval held task evaluated → IsRun held vl suppress task file image pages needed
    → ran ≡ expected_of_run held vl (stops_of suppress) task
    → BothEnd image needed eval task evaluated ran

abbrev pub FaithfulEvaluated : Type 0
FaithfulEvaluated = OfEach FaithfulAgrees

abbrev pub CompiledEvaluated : Type 0
CompiledEvaluated = OfEach CompiledAgrees
