-- What a command comes to where nothing is in its way but want of memory.
use mathlib.Core.Logic.{⊎_elim}
use Rattle.std.proofs.Common.{◌≡◌, ◌≢◌, ◌⊎◌, ℕ, zero, suc, List, [], ◌++◌, take, Option, Some, None, Ok, Err, inl, inr, refl, sym, ap, ◌∙◌, subst}
use Rattle.std.specs.Prelude.{IfSome, IsTrue}
use Rattle.command_line.specs.Line.{Line, SweepLine}
use Rattle.refusals.specs.declared.refusal.Refusal.TheVariants.{Usage, Memory, File, Output}
use Rattle.refusals.specs.declared.refusal.Done.{Done}
use Rattle.refusals.specs.declared.refusal.Done.TheVariants as done
use Rattle.command_answers.specs.Answer.{HeldFiles, Expected, Answer, answer_of, expected_text, status_of}
use Rattle.refusals.specs.Statuses.{status_of_done}
use Rattle.sve_top.specs.Commands.{Expects, IsSettled, IsInput, IsOf, IsHeld}
use Rattle.command_answers.specs.Works.{SomeExpected}
use Rattle.sweep_command.specs.Swept.{IsOfSweep}
use Rattle.sve_top.specs.Does.{Outside, StreamsRose, Does}
use Rattle.command_answers.specs.Outputs.{PrintsBy, is_done}
use Rattle.sve_top.specs.Complete.{ComesTo, Completes}

-- only a file that failed gives 8
not_eight : (result : Answer) → result ≢ Err File → status_of result ≢ 8
not_eight (Err File) ne e = ne refl
not_eight (Ok done.Ended) ne e = absurd cc
not_eight other ne e = absurd cc

take_none : (n : ℕ) → ◌≡◌ {A = List ℕ} (take n []) []
take_none zero = refl
take_none (suc n) = refl

-- where the status is that of the work, the output gained the whole text: a refusal has none
whole_text : (work : Expected) (old new : Option (List ℕ)) (s : ℕ) → s ≡ status_of (answer_of work) → PrintsBy old new (expected_text work) s → IfSome old (λ bytes. new ≡ Some (bytes ++ expected_text work))
whole_text work None new s is prints = tt
whole_text (Ok success) (Some bytes) new s is prints = prints.0 (subst (λ n. IsTrue (is_done n)) (sym is) (told success.how))
  where
    told : (how : Done) → IsTrue (is_done (status_of_done how))
    told done.Ended = refl
    told other = refl
whole_text (Err refusal) (Some bytes) new s is prints = prints.1.2 ∙ ap (λ t. Some (bytes ++ t)) (take_none prints.1.0)

comes_to : (line : Option Line) (work : Expected) (before after : Outside) (s : ℕ) → s ≢ 8 → (StreamsRose line before after → ⊥) → Does line work before after s → ComesTo work before.printed after.printed s
comes_to line work before after s file stream does =
    ⊎_elim
    (λ e. inr (e, whole_text work before.printed after.printed s e does.prints))
    (⊎_elim (λ e. inl e) (⊎_elim (λ p. absurd (file p.0)) (λ p. absurd (stream p.1))))
    does.status

sweep_ends : (rose : Type 0) (result : Answer) → IsOfSweep result → result ≢ Err File → (result ≡ Err Output → rose) → (rose → ⊥) → (status_of result ≡ 0) ⊎ (status_of result ≡ 7)
sweep_ends rose (Ok how) of file cause none = inl (ap status_of_done of)
sweep_ends rose (Err Memory) of file cause none = inr refl
sweep_ends rose (Err File) of file cause none = absurd (file refl)
sweep_ends rose (Err Output) of file cause none = absurd (none (cause refl))
sweep_ends rose other of file cause none = absurd of

of_work : (held : HeldFiles) (input : List ℕ) (line : Option Line) (before after : Outside) (s : ℕ) → s ≢ 8 → (StreamsRose line before after → ⊥) → SomeExpected (Expects held input line) (λ work. Does line work before after s) → SomeExpected (Expects held input line) (λ work. ComesTo work before.printed after.printed s)
of_work held input line before after s file stream w = (w.0, w.1, comes_to line w.0 before after s file stream w.2)

completes_held : (h : HeldFiles) (input : List ℕ) (line : Option Line) (before after : Outside) (s : ℕ) (result : Answer) → s ≡ status_of result → IsOf line result → result ≢ Err File → (result ≡ Err Output → StreamsRose line before after) → (StreamsRose line before after → ⊥)
    → (IsSettled line → SomeExpected (Expects h input line) (λ work. Does line work before after s)) → Completes h input line before.printed after.printed s
completes_held h input (Some (SweepLine number to)) before after s result is of file cause none does =
    subst (λ n. (n ≡ 0) ⊎ (n ≡ 7)) (sym is) (sweep_ends (StreamsRose (Some (SweepLine number to)) before after) result of file cause none)
completes_held h input other before after s result is of file cause none does = of_work h input other before after s (λ e. not_eight result file (sym is ∙ e)) none (does tt)

-- a line that is no command has no file to fail
no_file : (h : HeldFiles) (line : Option Line) (result : Answer) → IsOf line result → IfSome line (λ l. IsHeld h l → result ≢ Err File) → IfSome line (λ l. IsHeld h l) → result ≢ Err File
no_file h None result of steady held e = ⊎_elim (λ u. absurd (other (sym e ∙ u))) (λ m. absurd (memory (sym e ∙ m))) of
  where
    other : ◌≡◌ {A = Answer} (Err File) (Err Usage) → ⊥
    other e = absurd cc

    memory : ◌≡◌ {A = Answer} (Err File) (Err Memory) → ⊥
    memory e = absurd cc
no_file h (Some line) result of steady held e = steady held e

-- what a command comes to, by what it answers
pub completes : (held : Option HeldFiles) (left : Option (List ℕ)) (line : Option Line) (before after : Outside) (s : ℕ) (result : Answer) → s ≡ status_of result → IsOf line result
    → IfSome line (λ l. IfSome held (λ h. IsHeld h l → result ≢ Err File))
    → (result ≡ Err Output → StreamsRose line before after)
    → ((input : List ℕ) → IsInput line left input → IsSettled line → IfSome held (λ h. SomeExpected (Expects h input line) (λ work. Does line work before after s)))
    → (input : List ℕ) → IsInput line left input → (StreamsRose line before after → ⊥)
    → IfSome held (λ h. IfSome line (λ l. IsHeld h l) → Completes h input line before.printed after.printed s)
completes None left line before after s result is of steady cause does input taken none = tt
completes (Some h) left line before after s result is of steady cause does input taken none =
    λ reads. completes_held h input line before after s result is of (no_file h line result of (at line steady) reads) cause none (does input taken)
  where
    at : (line : Option Line) → IfSome line (λ l. IfSome (Some h) (λ h. IsHeld h l → result ≢ Err File)) → IfSome line (λ l. IsHeld h l → result ≢ Err File)
    at None steady = tt
    at (Some line) steady = steady
