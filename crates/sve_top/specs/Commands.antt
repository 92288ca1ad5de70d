-- What is wanted of each command, what its call answers, and what it leaves.
use Rattle.std.specs.Prelude.{◌≡◌, ◌⊎◌, ℕ, List, Option, Some, None, IfSome, IsSome, Err}
use Rattle.io_edges.specs.Files.{Rose, content}
use Rattle.command_line.specs.Line.{Line, CompileLine, CheckLine, EvalLine, ListLine, RunLine, DebugLine, SweepLine, AsmLine, ObjectLine, PipeLine}
use Rattle.refusals.specs.declared.refusal.Refusal.TheVariants.{Usage, Memory}
use Rattle.command_answers.specs.Answer.{HeldFiles, Expected, Answer, status_of}
use Rattle.command_answers.specs.Reads.{IsTaskHeld, ChangesOnly}
use Rattle.command_answers.specs.Works.{WhereExpected}
use Rattle.program_commands.specs.Ready.{DebugsAsItCame, DebugsInTime}
use Rattle.program_commands.specs.Commands.{expected_of_list, stops_of, expected_of_run, expected_of_debug, expected_of_asm, IsAssembled, IsOfList, IsOfRun, IsOfDebug, IsOfAsm}
use Rattle.pipe_command.specs.Pipes.{expected_of_pipe, IsOfPipe, IsPipeHeld}
use Rattle.kernel_commands.specs.Commands.{ExpectsCheck, ExpectsEval, IsOfCheck, IsOfEval}
use Rattle.compile_command.specs.Compiles.{ExpectsCompile, IsCompiled, IsOfCompile}
use Rattle.object_command.specs.Objects.{IsObjectOf}
use Rattle.sweep_command.specs.Swept.{IsSwept, SweptBy, IsOfSweep}

-- ---- what is wanted

-- What a command is to come to, by what the files hold and the bytes of the input, which count for `debug` alone. There is one such
-- work (the laws `some_expected` and `one_expected`), but for `sweep`: what that prints is of the file that it compiled.
abbrev pub Expects : HeldFiles → (input : List ℕ) → Option Line → Expected → Type 0
Expects held input None work = work ≡ Err Usage
Expects held input (Some (CompileLine from to)) work = ExpectsCompile held from work
Expects held input (Some (CheckLine from)) work = ExpectsCheck held from work
Expects held input (Some (EvalLine task)) work = ExpectsEval held task work
Expects held input (Some (ListLine from)) work = work ≡ expected_of_list held from
Expects held input (Some (RunLine vl suppress task)) work = work ≡ expected_of_run held vl (stops_of suppress) task
Expects held input (Some (DebugLine vl task)) work = work ≡ expected_of_debug held input vl task
Expects held input (Some (SweepLine number to)) work = ⊥
Expects held input (Some (AsmLine from to)) work = work ≡ expected_of_asm held from
Expects held input (Some (ObjectLine from to)) work = ExpectsCompile held from work
Expects held input (Some (PipeLine vl task)) work = work ≡ expected_of_pipe held vl task

-- what is wanted is settled by the files and the input
abbrev pub IsSettled : Option Line → Type 0
IsSettled (Some (SweepLine number to)) = ⊥
IsSettled line = Unit {0}

-- these are the bytes of the input, where they count
abbrev pub IsInput : Option Line → (left : Option (List ℕ)) → (input : List ℕ) → Type 0
IsInput (Some (DebugLine vl task)) left input = left ≡ Some input
IsInput line left input = Unit {0}

-- the same where the files tell what they hold, and the input its bytes
abbrev pub WhereTold : Option HeldFiles → (left : Option (List ℕ)) → Option Line → (Expected → Type 0) → Type 0
WhereTold held left line P = (input : List ℕ) → IsInput line left input → IfSome held (λ h. WhereExpected (Expects h input line) P)

-- ---- what comes of which command

-- the answers of a command
abbrev pub IsOf : Option Line → Answer → Type 0
IsOf None answer = (answer ≡ Err Usage) ⊎ (answer ≡ Err Memory)
IsOf (Some (CompileLine from to)) answer = IsOfCompile answer
IsOf (Some (CheckLine from)) answer = IsOfCheck answer
IsOf (Some (EvalLine task)) answer = IsOfEval answer
IsOf (Some (ListLine from)) answer = IsOfList answer
IsOf (Some (RunLine vl suppress task)) answer = IsOfRun answer
IsOf (Some (DebugLine vl task)) answer = IsOfDebug answer
IsOf (Some (SweepLine number to)) answer = IsOfSweep answer
IsOf (Some (AsmLine from to)) answer = IsOfAsm answer
IsOf (Some (ObjectLine from to)) answer = IsOfCompile answer
IsOf (Some (PipeLine vl task)) answer = IsOfPipe answer

-- the status is that of one of the command's answers
abbrev pub IsListed : Option Line → ℕ → Type 0
IsListed line status = (answer : Answer) × IsOf line answer × (status ≡ status_of answer)

-- the streams that a command uses: the count of the output rose, or for `debug` that of the output or of the input
abbrev pub StreamRose : Option Line → (out_before out_now in_before in_now : ℕ) → Type 0
StreamRose (Some (DebugLine vl task)) out_before out_now in_before in_now = Rose out_before out_now ⊎ Rose in_before in_now
StreamRose line out_before out_now in_before in_now = Rose out_before out_now

-- none of them failed
abbrev pub NoneRose : Option Line → (out_before out_now in_before in_now : ℕ) → Type 0
NoneRose line out_before out_now in_before in_now = StreamRose line out_before out_now in_before in_now → ⊥

-- commands that leave the input alone
abbrev pub IsUnread : Option Line → Type 0
IsUnread (Some (DebugLine vl task)) = ⊥
IsUnread line = Unit {0}

-- When the input may be asked for: for `debug` where its program was loaded and each line that was ended is answered, and else never.
abbrev pub InTime : Option Line → Option HeldFiles → (input left old new : Option (List ℕ)) → Type 0
InTime (Some (DebugLine vl task)) held input left old new = DebugsInTime held vl task input left old new
InTime line held input left old new = ⊥

-- commands that write no file
abbrev pub OnlyReads : Option Line → Type 0
OnlyReads (Some (CompileLine from to)) = ⊥
OnlyReads (Some (SweepLine number to)) = ⊥
OnlyReads (Some (AsmLine from to)) = ⊥
OnlyReads (Some (ObjectLine from to)) = ⊥
OnlyReads line = Unit {0}

-- words that put nothing on the output
abbrev pub IsSilent : Option Line → Type 0
IsSilent None = Unit {0}
IsSilent (Some (CompileLine from to)) = Unit {0}
IsSilent (Some (AsmLine from to)) = Unit {0}
IsSilent (Some (ObjectLine from to)) = Unit {0}
IsSilent line = ⊥

-- ---- what is left of the files and the output

-- at status 0 the one file is faithful to the kernel that the other held, and for `sweep` to that of the number; for `asm` it is that of the words, and for `object` the object of the kernel
abbrev pub Compiled : HeldFiles → HeldFiles → Line → Type 0
Compiled old new (CompileLine from to) = IsCompiled old new from to
Compiled old new (SweepLine number to) = IsSwept number new to
Compiled old new (AsmLine from to) = IsAssembled old new from to
Compiled old new (ObjectLine from to) = IsObjectOf old new from to
Compiled old new line = Unit {0}

-- every name but that of the file which `compile`, `sweep`, `asm` or `object` writes has what it had
abbrev pub OthersKept : HeldFiles → HeldFiles → Option Line → Type 0
OthersKept old new (Some (CompileLine from to)) = ChangesOnly old new to
OthersKept old new (Some (SweepLine number to)) = ChangesOnly old new to
OthersKept old new (Some (AsmLine from to)) = ChangesOnly old new to
OthersKept old new (Some (ObjectLine from to)) = ChangesOnly old new to
OthersKept old new line = (name : List ℕ) → content new name ≡ content old name

-- what a sweep leaves at each status
abbrev pub Swept : Option Line → Option HeldFiles → (old new : Option (List ℕ)) → (status : ℕ) → Type 0
Swept (Some (SweepLine number to)) held old new status = SweptBy number to held old new status
Swept line held old new status = Unit {0}

-- Where `debug` failed and no output did, the input failed, and the lines that were ended are answered.
abbrev pub AsItComes : Option Line → Option HeldFiles → (input left old new : Option (List ℕ)) → (before now : ℕ) → (has_failed : Type 0) → Type 0
AsItComes (Some (DebugLine vl task)) held input left old new before now has_failed =
    has_failed → (Rose before now → ⊥) → IfSome input (λ bytes. IfSome held (λ h. DebugsAsItCame h vl task bytes left old new))
AsItComes line held input left old new before now has_failed = Unit {0}

-- the files that are read are held: the map only where the file before it can be read; for `pipe` also those that the script names
abbrev pub IsHeld : HeldFiles → Line → Type 0
IsHeld held (CompileLine from to) = IsSome (content held from)
IsHeld held (CheckLine from) = IsSome (content held from)
IsHeld held (EvalLine task) = IsTaskHeld held task
IsHeld held (ListLine from) = IsSome (content held from)
IsHeld held (RunLine vl suppress task) = IsTaskHeld held task
IsHeld held (DebugLine vl task) = IsTaskHeld held task
IsHeld held (SweepLine number to) = Unit {0}
IsHeld held (AsmLine from to) = IsSome (content held from)
IsHeld held (ObjectLine from to) = IsSome (content held from)
IsHeld held (PipeLine vl task) = IsPipeHeld held task
