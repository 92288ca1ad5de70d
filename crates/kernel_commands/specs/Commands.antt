-- What the commands on kernels come to that need no compiler: `check` and `eval`.
use Rattle.std.specs.Prelude.{◌≡◌, ℕ, List, [], ◌++◌, Option, Ok, Err, nat_le, if◌then◌else◌}
use Rattle.guest_types.specs.Memory.{Memory}
use Rattle.kernel_meaning.specs.ScalarRun.{Run, scalar_run, first_leave}
use Rattle.kernel_meaning.specs.ScalarRun as meaning
use Rattle.kernel_meaning.specs.declared.outcome.ScalarOutcome.{ScalarOutcome}
use Rattle.kernel_meaning.specs.declared.outcome.ScalarOutcome.TheVariants as scalar
use Rattle.scalar_text.specs.ScalarText.{scalar_text}
use Rattle.map_text.specs.Mapping.{map_of as pages_of}
use Rattle.kernel_tree.specs.Plain.{Program}
use Rattle.check_text.specs.CheckText.{check_text}
use Rattle.command_line.specs.Line.{Task, Extent}
use Rattle.refusals.specs.declared.refusal.Refusal.{Refusal}
use Rattle.refusals.specs.declared.refusal.Refusal.TheVariants.{Usage, TooManyLive, Kernel, Elf, Map, Asm, Pipe, Memory as NoMemory}
use Rattle.refusals.specs.declared.refusal.Done.{Done}
use Rattle.refusals.specs.declared.refusal.Done.TheVariants as done
use Rattle.command_answers.specs.Answer.{HeldFiles, Expected, Answer}
use Rattle.command_answers.specs.Reads.{and_then, file_of, task_files, AfterRead}
use Rattle.command_answers.specs.Works.{ended, mapped, dump_of}
use Rattle.kernel_commands.specs.Kernels.{ByVerdict}

-- ---- check

abbrev pub checked : Program → Expected
checked k = ended (check_text k)

abbrev pub CheckExpects : List ℕ → Expected → Type 0
CheckExpects text work = ByVerdict checked text work

-- what is wanted of `check` for the file under a name
abbrev pub ExpectsCheck : HeldFiles → List ℕ → Expected → Type 0
ExpectsCheck held from work = AfterRead (file_of held from) CheckExpects work

-- ---- eval

-- how a kernel's run comes out of at most so many iterations
abbrev pub outcome_by : (limit : ℕ) → Run → ScalarOutcome
outcome_by limit (meaning.End memory result n) = if nat_le n limit then scalar.End result n else scalar.Spent
outcome_by limit (meaning.Fault memory n) = if nat_le n limit then scalar.Fault n else scalar.Spent

-- the memory that is left, where `first` is what the first iterations leave
abbrev pub left_by : (limit : ℕ) → Run → (first : Memory) → Memory
left_by limit (meaning.End memory result n) first = if nat_le n limit then memory else first
left_by limit (meaning.Fault memory n) first = if nat_le n limit then memory else first

abbrev pub scalar_done : ScalarOutcome → Done
scalar_done (scalar.End result n) = done.Ended
scalar_done (scalar.Fault n) = done.Stopped
scalar_done scalar.Spent = done.Spent

abbrev pub scalar_success : Option Extent → ScalarOutcome → Memory → Expected
scalar_success dump outcome memory = Ok (record { how = scalar_done outcome; text = scalar_text outcome ++ dump_of dump memory })

-- the run of a kernel over some pages
abbrev pub eval_over : Task → Program → Memory → Expected
eval_over task k pages =
    scalar_success task.dump (outcome_by task.steps (scalar_run k task.args pages))
    (left_by task.steps (scalar_run k task.args pages) (first_leave k task.args task.steps pages))

-- the run of a kernel over the pages of a map alone
unfoldable pub eval_kernel : Task → List ℕ → Program → Expected
eval_kernel task map k = and_then (mapped (pages_of map [])) (eval_over task k)

abbrev pub EvalExpects : Task → (text map : List ℕ) → Expected → Type 0
EvalExpects task text map work = ByVerdict (eval_kernel task map) text work

-- what is wanted of `eval` for the files of a task
abbrev pub ExpectsEval : HeldFiles → Task → Expected → Type 0
ExpectsEval held task work = AfterRead (task_files held task) (λ files. EvalExpects task files.0 files.1) work

-- ---- refusals

-- a refusal of a kernel's text is wanted wherever something is, or it is want of memory
abbrev pub RefusesText : (Expected → Type 0) → Refusal → Type 0
RefusesText W NoMemory = Unit {0}
RefusesText W (TooManyLive class need) = (work : Expected) → W work → W (Err (TooManyLive class need))
RefusesText W (Kernel fault) = (work : Expected) → W work → W (Err (Kernel fault))
RefusesText W refusal = ⊥

-- The same of `eval`, whose map may be refused too.
abbrev pub RefusesEval : (Expected → Type 0) → Refusal → Type 0
RefusesEval W (Map fault) = W (Err (Map fault))
RefusesEval W (TooManyLive class need) = ⊥
RefusesEval W refusal = RefusesText W refusal

-- ---- the answers of each command

-- no answer of other commands: a check does not stop, and loads neither a program nor a map
abbrev pub IsOfCheck : Answer → Type 0
IsOfCheck (Ok how) = how ≡ done.Ended
IsOfCheck (Err Usage) = ⊥
IsOfCheck (Err (TooManyLive class need)) = ⊥
IsOfCheck (Err (Elf fault)) = ⊥
IsOfCheck (Err (Map fault)) = ⊥
IsOfCheck (Err (Asm fault)) = ⊥
IsOfCheck (Err (Pipe fault)) = ⊥
IsOfCheck (Err refusal) = Unit {0}

abbrev pub IsOfEval : Answer → Type 0
IsOfEval (Err Usage) = ⊥
IsOfEval (Err (TooManyLive class need)) = ⊥
IsOfEval (Err (Elf fault)) = ⊥
IsOfEval (Err (Asm fault)) = ⊥
IsOfEval (Err (Pipe fault)) = ⊥
IsOfEval answer = Unit {0}
