-- Which files each command asks for, in order, and what may be answered once all of them came.
use Rattle.std.specs.Prelude.{◌≡◌, ℕ, List, [], ◌∷◌, Option, Some, None}
use Rattle.io_edges.specs.Requests.{Request}
use Rattle.command_line.specs.Line.{Line, CompileLine, CheckLine, EvalLine, ListLine, RunLine, DebugLine, SweepLine, AsmLine, ObjectLine, PipeLine}
use Rattle.command_answers.specs.Answer.{HeldFiles, Answer, status_of}
use Rattle.command_answers.specs.Requests.{Want, Read, Write, IsOk, IsNotOfFiles, Asks, task_wants}
use Rattle.pipe_command.specs.Pipes.{pipe_wants}

-- the files that are read, and the one that is written; those of a pipe are named by its script
abbrev pub wants_of : HeldFiles → Option Line → List Want
wants_of held None = []
wants_of held (Some (CompileLine from to)) = Read from ∷ Write to ∷ []
wants_of held (Some (CheckLine from)) = Read from ∷ []
wants_of held (Some (EvalLine task)) = task_wants task
wants_of held (Some (ListLine from)) = Read from ∷ []
wants_of held (Some (RunLine vl suppress task)) = task_wants task
wants_of held (Some (DebugLine vl task)) = task_wants task
wants_of held (Some (SweepLine number to)) = Write to ∷ []
wants_of held (Some (AsmLine from to)) = Read from ∷ Write to ∷ []
wants_of held (Some (ObjectLine from to)) = Read from ∷ Write to ∷ []
wants_of held (Some (PipeLine vl task)) = pipe_wants held task

-- a command that ends by writing its file is done then; any other may be refused, or its output may fail
abbrev pub AfterAll : Option Line → Answer → Type 0
AfterAll (Some (CompileLine from to)) answer = IsOk answer
AfterAll (Some (AsmLine from to)) answer = IsOk answer
AfterAll (Some (ObjectLine from to)) answer = IsOk answer
AfterAll line answer = IsNotOfFiles answer

-- what a line asks for, up to its answer
abbrev pub AsksOf : Option Line → HeldFiles → (before now : Option (List Request)) → Answer → Type 0
AsksOf line held before now answer = Asks (AfterAll line) before now (wants_of held line) answer

-- the same, up to its status
abbrev pub AsksTo : Option Line → HeldFiles → (before now : Option (List Request)) → (status : ℕ) → Type 0
AsksTo line held before now status = (answer : Answer) × (status_of answer ≡ status) × AsksOf line held before now answer
