-- What a command asks of the files, by its line and its status.
use Rattle.std.proofs.Common.{◌≡◌, ℕ, List, [], Option, Some, None, Result, Ok, Err, refl, sym, subst}
use Rattle.std.specs.Prelude.{IfSome}
use Rattle.io_edges.specs.Requests.{Request}
use Rattle.command_line.specs.Line.{Line, CompileLine, CheckLine, EvalLine, ListLine, RunLine, DebugLine, SweepLine, AsmLine, ObjectLine, PipeLine}
use Rattle.refusals.specs.declared.refusal.Refusal.TheVariants.{Usage, Memory}
use Rattle.command_answers.specs.Answer.{HeldFiles, Answer, status_of}
use Rattle.command_answers.specs.Requests.{Asked, refused, all_went, IsRefusedElsewhere, IsNotOfFiles}
use Rattle.command_answers.proofs.Asks.{none_asked, nothing_asks}
use Rattle.sve_top.specs.Requested.{wants_of, AfterAll, AsksOf, AsksTo}

-- want of memory before anything is asked for
short_of : (line : Option Line) (held : HeldFiles) (now : Option (List Request)) (answer : Answer) → answer ≡ Err Memory → AsksOf line held now now answer
short_of None held now answer e = nothing_asks now _ Memory answer tt e
short_of (Some (CompileLine from to)) held now answer e = none_asked now _ (refused (subst IsRefusedElsewhere (sym e) tt))
short_of (Some (CheckLine from)) held now answer e = nothing_asks now _ Memory answer tt e
short_of (Some (EvalLine task)) held now answer e = nothing_asks now _ Memory answer tt e
short_of (Some (ListLine from)) held now answer e = nothing_asks now _ Memory answer tt e
short_of (Some (RunLine vl suppress task)) held now answer e = nothing_asks now _ Memory answer tt e
short_of (Some (DebugLine vl task)) held now answer e = nothing_asks now _ Memory answer tt e
short_of (Some (SweepLine number to)) held now answer e = nothing_asks now _ Memory answer tt e
short_of (Some (AsmLine from to)) held now answer e = none_asked now _ (refused (subst IsRefusedElsewhere (sym e) tt))
short_of (Some (ObjectLine from to)) held now answer e = none_asked now _ (refused (subst IsRefusedElsewhere (sym e) tt))
short_of (Some (PipeLine vl task)) held now answer e = nothing_asks now _ Memory answer tt e

pub short_asked : (line : Option Line) (held : Option HeldFiles) (now : Option (List Request)) (answer : Answer) → answer ≡ Err Memory → IfSome held (λ h. AsksOf line h now now answer)
short_asked line None now answer e = tt
short_asked line (Some h) now answer e = short_of line h now answer e

-- words that are no command ask for nothing
pub none_wanted : (held : Option HeldFiles) (now : Option (List Request)) → IfSome held (λ h. AsksOf None h now now (Err Usage))
none_wanted None now = tt
none_wanted (Some h) now = nothing_asks now [] Usage (Err Usage) tt refl

pub to_status : (line : Option Line) (held : Option HeldFiles) (before now : Option (List Request)) (answer : Answer) (status : ℕ) → status ≡ status_of answer → IfSome held (λ h. AsksOf line h before now answer) → IfSome held (λ h. AsksTo line h before now status)
to_status line None before now answer status e a = tt
to_status line (Some h) before now answer status e a = (answer, sym e, a)
