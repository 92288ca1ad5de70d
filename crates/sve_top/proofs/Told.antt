-- What a status tells of the answer that it is of.
use mathlib.Core.Logic.{⊎_elim}
use Rattle.std.proofs.Common.{◌≡◌, ◌≢◌, ◌⊎◌, ◌≤◌, List, [], ℕ, Option, Some, None, Result, Ok, Err, inl, inr, refl, sym, ap, ◌∙◌, subst, arith}
use Rattle.std.specs.Prelude.{IfSome, OnOk}
use Rattle.io_edges.specs.declared.sink.Failed.{Failed}
use Rattle.io_edges.specs.Sink.{PutsText}
use Rattle.command_line.specs.Line.{Line, CompileLine, CheckLine, EvalLine, ListLine, RunLine, DebugLine, SweepLine, AsmLine, ObjectLine, PipeLine}
use Rattle.refusals.specs.declared.refusal.Refusal.{Refusal}
use Rattle.refusals.specs.declared.refusal.Refusal.TheVariants.{Usage, TooManyLive, Kernel, TooLong, Elf, Map, Asm, Pipe, Memory, File, Output}
use Rattle.refusals.specs.declared.refusal.Done.{Done}
use Rattle.refusals.specs.declared.refusal.Done.TheVariants as done
use Rattle.refusals.specs.Lines.{line_of_refusal}
use Rattle.refusals.specs.Statuses.{status_of_done, status_of_refusal}
use Rattle.command_answers.proofs.Statuses.{gains_line}
use Rattle.command_answers.specs.Answer.{HeldFiles, Answer, status_of, IsKept, IsQuiet}
use Rattle.command_answers.specs.Outputs.{Gains, error_line_by}
use Rattle.sve_top.specs.Commands.{IsOf, IsHeld}

-- ---- which answer it is

is_usage : (s : ℕ) (result : Answer) → s ≡ status_of result → s ≡ 2 → result ≡ Err Usage
is_usage s (Err Usage) is e = refl
is_usage s (Ok done.Ended) is e = absurd (omega (arith, is, e))
is_usage s other is e = absurd (omega (arith, is, e))

pub is_file : (s : ℕ) (result : Answer) → s ≡ status_of result → s ≡ 8 → result ≡ Err File
is_file s (Err File) is e = refl
is_file s (Ok done.Ended) is e = absurd (omega (arith, is, e))
is_file s other is e = absurd (omega (arith, is, e))

-- only an output or an input that failed gives 9
pub is_output : (s : ℕ) (result : Answer) → s ≡ status_of result → s ≡ 9 → result ≡ Err Output
is_output s (Err Output) is e = refl
is_output s (Ok done.Ended) is e = absurd (omega (arith, is, e))
is_output s other is e = absurd (omega (arith, is, e))

-- no command is refused as one that is none
line_is_no_usage : (line : Line) → IsOf (Some line) (Err Usage) → ⊥
line_is_no_usage (CompileLine from to) of = of
line_is_no_usage (CheckLine from) of = of
line_is_no_usage (EvalLine task) of = of
line_is_no_usage (ListLine from) of = of
line_is_no_usage (RunLine vl suppress task) of = of
line_is_no_usage (DebugLine vl task) of = of
line_is_no_usage (SweepLine number to) of = of
line_is_no_usage (AsmLine from to) of = of
line_is_no_usage (ObjectLine from to) of = of
line_is_no_usage (PipeLine vl task) of = of

pub no_line : (line : Option Line) (s : ℕ) (result : Answer) → s ≡ status_of result → IsOf line result → s ≡ 2 → line ≡ None
no_line None s result is of e = refl
no_line (Some line) s result is of e = absurd (line_is_no_usage line (subst (IsOf (Some line)) (is_usage s result is e) of))

pub at_zero : (P : Type 0) (s : ℕ) (result : Answer) → s ≡ status_of result → OnOk result P → s ≡ 0 → P
at_zero P s (Ok how) is p e = p
at_zero P s (Err Usage) is p e = absurd (omega (arith, is, e))
at_zero P s (Err other) is p e = absurd (omega (arith, is, e))

status_between_2_and_4 : (s : ℕ) → (s ≡ 2) ⊎ (s ≡ 3) ⊎ (s ≡ 4) → (2 ≤ s) × (s ≤ 4)
status_between_2_and_4 s h = ⊎_elim (λ e. (omega (arith, e), omega (arith, e))) (⊎_elim (λ e. (omega (arith, e), omega (arith, e))) (λ e. (omega (arith, e), omega (arith, e)))) h

pub is_kept : (s : ℕ) (result : Answer) → s ≡ status_of result → (s ≡ 2) ⊎ (s ≡ 3) ⊎ (s ≡ 4) → IsKept result
is_kept s result is h = by result is (status_between_2_and_4 s h)
  where
    by : (r : Answer) → s ≡ status_of r → (2 ≤ s) × (s ≤ 4) → IsKept r
    by (Ok done.Ended) is p = omega (arith, is, p.0)
    by (Ok other) is p = omega (arith, is, p.1)
    by (Err Memory) is p = omega (arith, is, p.1)
    by (Err File) is p = omega (arith, is, p.1)
    by (Err Output) is p = omega (arith, is, p.1)
    by (Err other) is p = tt

quietly : (s : ℕ) → (s ≡ 2) ⊎ (s ≡ 3) ⊎ (s ≡ 4) ⊎ (s ≡ 8) → ((2 ≤ s) × (s ≤ 4)) ⊎ (s ≡ 8)
quietly s h = ⊎_elim (λ e. inl (status_between_2_and_4 s (inl e))) (⊎_elim (λ e. inl (status_between_2_and_4 s (inr (inl e)))) (⊎_elim (λ e. inl (status_between_2_and_4 s (inr (inr e)))) (λ e. inr e))) h

pub is_quiet : (s : ℕ) (result : Answer) → s ≡ status_of result → (s ≡ 2) ⊎ (s ≡ 3) ⊎ (s ≡ 4) ⊎ (s ≡ 8) → IsQuiet result
is_quiet s result is h = by result is (quietly s h)
  where
    by : (r : Answer) → s ≡ status_of r → ((2 ≤ s) × (s ≤ 4)) ⊎ (s ≡ 8) → IsQuiet r
    by (Ok done.Ended) is p = ⊎_elim (λ q. omega (arith, is, q.0)) (λ e. omega (arith, is, e)) p
    by (Ok other) is p = ⊎_elim (λ q. omega (arith, is, q.1)) (λ e. omega (arith, is, e)) p
    by (Err Memory) is p = ⊎_elim (λ q. omega (arith, is, q.1)) (λ e. omega (arith, is, e)) p
    by (Err Output) is p = ⊎_elim (λ q. omega (arith, is, q.1)) (λ e. omega (arith, is, e)) p
    by (Err other) is p = tt

pub not_failed : (line : Option Line) (held : Option HeldFiles) (s : ℕ) (result : Answer) → s ≡ status_of result → IfSome line (λ l. IfSome held (λ h. IsHeld h l → result ≢ Err File)) → IfSome line (λ l. IfSome held (λ h. IsHeld h l → s ≢ 8))
not_failed None held s result is h = tt
not_failed (Some line) None s result is h = tt
not_failed (Some line) (Some held) s result is h = λ reads e. h reads (is_file s result is e)

-- ---- the line on the error output

pub not_done : (s : ℕ) (refusal : Refusal) → s ≡ status_of_refusal refusal → (s ≡ 0) ⊎ (s ≡ 5) ⊎ (s ≡ 6) → ⊥
not_done s Usage is h = ⊎_elim (λ e. omega (arith, is, e)) (⊎_elim (λ e. omega (arith, is, e)) (λ e. omega (arith, is, e))) h
not_done s other is h = ⊎_elim (λ e. omega (arith, is, e)) (⊎_elim (λ e. omega (arith, is, e)) (λ e. omega (arith, is, e))) h

not_refused : (s : ℕ) (how : Done) → s ≡ status_of_done how → (s ≡ 3) ⊎ (s ≡ 4) → ⊥
not_refused s done.Ended is h = ⊎_elim (λ e. omega (arith, is, e)) (λ e. omega (arith, is, e)) h
not_refused s other is h = ⊎_elim (λ e. omega (arith, is, e)) (λ e. omega (arith, is, e)) h

-- a call that is done has no such line
pub no_own_line : (old new : Option (List ℕ)) (x y s : ℕ) (how : Done) → s ≡ status_of_done how → (s ≡ 3) ⊎ (s ≡ 4) → (refusal : Refusal) × (status_of_refusal refusal ≡ s) × Gains old new x y (line_of_refusal refusal)
no_own_line old new x y s how is h = absurd (not_refused s how is h)

error_line_of_refusal : (s : ℕ) (refusal : Refusal) → s ≡ status_of_refusal refusal → s ≢ 3 → s ≢ 4 → error_line_by [] (status_of_refusal refusal) ≡ line_of_refusal refusal
error_line_of_refusal s (TooManyLive class need) is three four = absurd (three is)
error_line_of_refusal s (Kernel fault) is three four = absurd (three is)
error_line_of_refusal s TooLong is three four = absurd (four is)
error_line_of_refusal s (Elf fault) is three four = absurd (four is)
error_line_of_refusal s (Map fault) is three four = absurd (four is)
error_line_of_refusal s (Asm fault) is three four = absurd (four is)
error_line_of_refusal s (Pipe fault) is three four = absurd (four is)
error_line_of_refusal s other is three four = refl

pub line_alike : (old new : Option (List ℕ)) (x y s : ℕ) (refusal : Refusal) (result : Result (Unit {0}) Failed) → s ≡ status_of_refusal refusal → PutsText old new x y (line_of_refusal refusal) result → s ≢ 3 → s ≢ 4 → Gains old new x y (error_line_by [] s)
line_alike old new x y s refusal result is p three four =
    subst (Gains old new x y) (sym (ap (error_line_by []) is ∙ error_line_of_refusal s refusal is three four)) (gains_line old new x y (line_of_refusal refusal) result p)
