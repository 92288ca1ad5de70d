-- What is told of a command by its line.
use Rattle.std.proofs.Common.{◌≡◌, ◌≢◌, List, ℕ, Option, Some, None, Ok, Err, sym, ap, ◌∙◌, subst}
use Rattle.std.specs.Prelude.{IfSome, IsErrAnd}
use Rattle.command_line.specs.Line.{Line, DebugLine, SweepLine}
use Rattle.refusals.specs.declared.refusal.Refusal.TheVariants.{Memory, Output}
use Rattle.command_answers.specs.Answer.{HeldFiles, Expected, Answer, status_of}
use Rattle.sweep_command.proofs.Sweeps.{memory_swept}
use Rattle.sve_top.proofs.Told.{is_output}
use Rattle.sve_top.specs.Commands.{WhereTold, Swept, AsItComes}

-- what holds where the bytes of the input are told
pub of_told : (left : Option (List ℕ)) (input : List ℕ) (P : List ℕ → Type 0) → left ≡ Some input → IfSome left P → P input
of_told left input P e h = subst (λ o. IfSome o P) e h

-- what holds of each work holds of one that is wanted, whatever the line
pub of_every_line : (held : Option HeldFiles) (left : Option (List ℕ)) (line : Option Line) (P : Expected → Type 0) → ((work : Expected) → P work) → WhereTold held left line P
of_every_line None left line P all = λ input taken. tt
of_every_line (Some h) left line P all = λ input taken. λ work w. (work, w, all work)

-- want of memory before the words were read, whatever they are
pub nothing_swept : (line : Option Line) (held : Option HeldFiles) (printed : Option (List ℕ)) (result : Answer) → IsErrAnd result (λ r. r ≡ Memory) → Swept line held printed printed (status_of result)
nothing_swept (Some (SweepLine number to)) held printed result is = memory_swept number to held printed result is
nothing_swept other held printed result is = tt

not_memory : (result : Answer) → IsErrAnd result (λ r. r ≡ Memory) → result ≢ Err Output
not_memory (Ok how) is e = absurd is
not_memory (Err r) is e = absurd (differ (ap (λ x. Err x) (sym is) ∙ e))
  where
    differ : ◌≡◌ {A = Answer} (Err Memory) (Err Output) → ⊥
    differ e = absurd cc

-- want of memory before the words were read is no failure of an output
pub no_session : (line : Option Line) (held : Option HeldFiles) (input left old new : Option (List ℕ)) (before now : ℕ) (result : Answer) → IsErrAnd result (λ r. r ≡ Memory) → AsItComes line held input left old new before now (result ≡ Err Output)
no_session (Some (DebugLine vl task)) held input left old new before now result is = λ e. absurd (not_memory result is e)
no_session other held input left old new before now result is = tt

-- the same by the status
pub by_status : (line : Option Line) (held : Option HeldFiles) (input left old new : Option (List ℕ)) (before now s : ℕ) (result : Answer) → s ≡ status_of result → AsItComes line held input left old new before now (result ≡ Err Output) → AsItComes line held input left old new before now (s ≡ 9)
by_status (Some (DebugLine vl task)) held input left old new before now s result is h = λ e. h (is_output s result is e)
by_status other held input left old new before now s result is h = tt
