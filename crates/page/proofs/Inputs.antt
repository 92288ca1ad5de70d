-- What a call of `top` does over things in memory that are new.
use Rattle.std.proofs.Common.{◌≡◌, ℕ, List, [], Some, subst}
use Rattle.std.specs.Prelude.{Option, None, IfSome}
use Rattle.command_line.specs.Line.{Line, CompileLine, CheckLine, EvalLine, ListLine, RunLine, DebugLine, SweepLine, AsmLine, ObjectLine, PipeLine}
use Rattle.command_answers.specs.Answer.{HeldFiles}
use Rattle.command_answers.specs.Works.{SomeExpected}
use Rattle.sve_top.specs.Asked.{asked}
use Rattle.sve_top.specs.Commands.{IsInput, IsSettled, Expects, IsHeld, NoneRose}
use Rattle.sve_top.specs.Complete.{Completes}
use Rattle.sve_top.specs.Does.{Outside, Does, outside}

-- what is left are these bytes, whatever command reads them
pub is_input : (line : Option Line) (left : Option (List ℕ)) (bytes : List ℕ) → left ≡ Some bytes → IsInput line left bytes
is_input None left bytes is = tt
is_input (Some (CompileLine from to)) left bytes is = tt
is_input (Some (CheckLine from)) left bytes is = tt
is_input (Some (EvalLine task)) left bytes is = tt
is_input (Some (ListLine from)) left bytes is = tt
is_input (Some (RunLine vl suppress task)) left bytes is = tt
is_input (Some (DebugLine vl task)) left bytes is = is
is_input (Some (SweepLine number to)) left bytes is = tt
is_input (Some (AsmLine from to)) left bytes is = tt
is_input (Some (ObjectLine from to)) left bytes is = tt
is_input (Some (PipeLine vl task)) left bytes is = tt

-- what a line is to come to, where its things have failed so often and taken these bytes
abbrev pub DoesFrom : (input : List ℕ) → Outside → (status : ℕ) → Option Line → HeldFiles
    → (of_files of_out of_err of_in : ℕ) → (printed errors : List ℕ) → Type 0
DoesFrom input after status line held of_files of_out of_err of_in printed errors = IsSettled line → SomeExpected (Expects held input line)
    (λ work. Does line work (outside (Some held) of_files (Some printed) of_out (Some errors) of_err of_in) after status)

-- the same where they are known
pub anew : (input : List ℕ) (after : Outside) (status : ℕ) (line given : Option Line) (files held : HeldFiles)
    (of_files of_out of_err of_in : ℕ) (printed errors : List ℕ)
    → given ≡ line → held ≡ files → of_files ≡ 0 → of_out ≡ 0 → of_err ≡ 0 → of_in ≡ 0 → printed ≡ [] → errors ≡ []
    → DoesFrom input after status given held of_files of_out of_err of_in printed errors
    → DoesFrom input after status line files 0 0 0 0 [] []
anew input after status line given files held of_files of_out of_err of_in printed errors e1 e2 e3 e4 e5 e6 e7 e8 does =
    let From = DoesFrom input after status in
    subst (λ it. From it files 0 0 0 0 [] []) e1
    (subst (λ it. From given it 0 0 0 0 [] []) e2
    (subst (λ it. From given held it 0 0 0 [] []) e3
    (subst (λ it. From given held of_files it 0 0 [] []) e4
    (subst (λ it. From given held of_files of_out it 0 [] []) e5
    (subst (λ it. From given held of_files of_out of_err it [] []) e6
    (subst (λ it. From given held of_files of_out of_err of_in it []) e7
    (subst (λ it. From given held of_files of_out of_err of_in printed it) e8 does)))))))

-- that it comes to the whole of it, where its things have failed so often and taken these bytes
abbrev pub CompletesFrom : (input printed : List ℕ) (of_out of_in status : ℕ) → Option Line → HeldFiles → (out_before in_before : ℕ) → (taken : List ℕ) → Type 0
CompletesFrom input printed of_out of_in status line held out_before in_before taken =
    NoneRose line out_before of_out in_before of_in → IfSome line (λ it. IsHeld held it) → Completes held input line (Some taken) (Some printed) status

-- the same where they are known
pub completes_anew : (input printed : List ℕ) (of_out of_in status : ℕ) (line given : Option Line) (files held : HeldFiles)
    (out_before in_before : ℕ) (taken : List ℕ) → given ≡ line → held ≡ files → out_before ≡ 0 → in_before ≡ 0 → taken ≡ []
    → CompletesFrom input printed of_out of_in status given held out_before in_before taken
    → CompletesFrom input printed of_out of_in status line files 0 0 []
completes_anew input printed of_out of_in status line given files held out_before in_before taken e1 e2 e3 e4 e5 completes =
    let From = CompletesFrom input printed of_out of_in status in
    subst (λ it. From it files 0 0 []) e1
    (subst (λ it. From given it 0 0 []) e2
    (subst (λ it. From given held it 0 []) e3
    (subst (λ it. From given held out_before it []) e4
    (subst (λ it. From given held out_before in_before it) e5 completes))))
