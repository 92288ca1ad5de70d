-- What a command comes to, and what its call answers.
use Rattle.std.specs.Prelude.{◌≡◌, ℕ, ◌⊎◌, List, [], Option, Result, Ok, Err}
use Rattle.io_edges.specs.Files.{Rose}
use Rattle.refusals.specs.declared.refusal.Refusal.{Refusal}
use Rattle.refusals.specs.declared.refusal.Refusal.TheVariants.{Memory, File, Output}
use Rattle.refusals.specs.declared.refusal.Done.{Done}
use Rattle.refusals.specs.Statuses.{status_of_done, status_of_refusal}

abbrev pub HeldFiles : Type 0
HeldFiles = List (List ℕ × List ℕ)

-- how a command is done, and the text that it puts on the output
pub record Success : Type 0 where
  pub how : Done
  pub text : List ℕ

-- what a command comes to, where memory is ample and no file and no output fails
abbrev pub Expected : Type 0
Expected = Result Success Refusal

-- what a call answers
abbrev pub Answer : Type 0
Answer = Result Done Refusal

abbrev pub answer_of : Expected → Answer
answer_of (Ok success) = Ok success.how
answer_of (Err refusal) = Err refusal

-- a command that is refused has no text
abbrev pub expected_text : Expected → List ℕ
expected_text (Ok success) = success.text
expected_text (Err refusal) = []

abbrev pub status_of : Answer → ℕ
status_of (Ok how) = status_of_done how
status_of (Err refusal) = status_of_refusal refusal

-- ---- what may come in place of the answer that is wanted

-- The answer is the one wanted. Only want of memory and a failure of the files, whose count of faults then rose, may come instead.
abbrev pub IsFileAnswer : {T : Type 0} → (before now : ℕ) (wanted result : Result T Refusal) → Type 0
IsFileAnswer before now wanted result = (result ≡ wanted) ⊎ ((result ≡ Err Memory) ⊎ ((result ≡ Err File) × Rose before now))

-- a command that is done, and not one that is refused
abbrev pub IsDone : Answer → Type 0
IsDone (Ok how) = Unit {0}
IsDone (Err refusal) = ⊥

-- The same, or a failure of an output or an input, whose count of faults then rose. That comes only in place of a command that is done:
-- one that is to be refused puts nothing on an output, and reads no input.
abbrev pub IsAnswer : (before now : ℕ) (rose : Type 0) (wanted result : Answer) → Type 0
IsAnswer before now rose wanted result = IsFileAnswer before now wanted result ⊎ ((result ≡ Err Output) × rose × IsDone wanted)

-- the same of the status
abbrev pub IsStatus : (before now : ℕ) (rose : Type 0) (wanted : Answer) (result : ℕ) → Type 0
IsStatus before now rose wanted result =
    (result ≡ status_of wanted) ⊎ ((result ≡ 7) ⊎ (((result ≡ 8) × Rose before now) ⊎ ((result ≡ 9) × rose × IsDone wanted)))

-- an answer before the first write of a file, unless memory was short
abbrev pub IsKept : Answer → Type 0
IsKept (Ok how) = ⊥
IsKept (Err Memory) = ⊥
IsKept (Err File) = ⊥
IsKept (Err Output) = ⊥
IsKept (Err refusal) = Unit {0}

-- an answer before the first byte of output, unless memory was short
abbrev pub IsQuiet : Answer → Type 0
IsQuiet (Ok how) = ⊥
IsQuiet (Err Memory) = ⊥
IsQuiet (Err Output) = ⊥
IsQuiet (Err refusal) = Unit {0}

-- ---- what a command leaves

-- a refusal, and not a command that is done
abbrev pub IsRefusal : Expected → Type 0
IsRefusal (Ok success) = ⊥
IsRefusal (Err refusal) = Unit {0}

-- a command that is to be refused changes no file, whatever its status
abbrev pub Unwritten : Expected → Option HeldFiles → Option HeldFiles → Type 0
Unwritten work old new = IsRefusal work → new ≡ old
