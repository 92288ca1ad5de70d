-- What a call of `top` comes to where nothing is in its way but want of memory.
use Rattle.std.specs.Prelude.{◌≡◌, ◌⊎◌, ℕ, List, ◌++◌, Option, Some, IfSome}
use Rattle.command_line.specs.Line.{Line, SweepLine}
use Rattle.command_answers.specs.Answer.{HeldFiles, Expected, answer_of, expected_text, status_of}
use Rattle.sve_top.specs.Commands.{Expects}
use Rattle.command_answers.specs.Works.{SomeExpected}

-- the status is that of the work, and the output gained the whole of its text; or memory was short
abbrev pub ComesTo : Expected → Option (List ℕ) → Option (List ℕ) → ℕ → Type 0
ComesTo work old new status =
    (status ≡ 7) ⊎ ((status ≡ status_of (answer_of work)) × IfSome old (λ bytes. new ≡ Some (bytes ++ expected_text work)))

-- the command comes to the work that is wanted of it, and a sweep is done or memory was short
abbrev pub Completes : HeldFiles → (input : List ℕ) → Option Line → Option (List ℕ) → Option (List ℕ) → ℕ → Type 0
Completes held input (Some (SweepLine number to)) old new status = (status ≡ 0) ⊎ (status ≡ 7)
Completes held input line old new status = SomeExpected (Expects held input line) (λ work. ComesTo work old new status)
