use Rattle.std.proofs.Common.{◌≡◌, ◌==◌, ℕ, List, [], ◌∷◌, length, true, Some, None, refl, sym, ap, ◌∙◌, subst, arith}
use Rattle.std.specs.Prelude.{not, OnErr}
use Rattle.std.proofs.lemmas.Result.{IfOk-from_err}
use Rattle.io_edges.specs.Files.{Rose}
use Rattle.std.proofs.lemmas.Bool.{eqb-true}
use Rattle.guest_types.proofs.Errors.{in_error}
use Rattle.sve_debug.specs.DebuggerState.{Stands}
use Rattle.sve_debug.specs.Lines.{command_of}
use Rattle.sve_debug.specs.Replies.{Session, after_command, after_line, is_quit, quits}
use Rattle.io_edges.proofs.Puts.{put_as}
use Rattle.sve_debug.proofs.Told.{told_is, line_is, puts_on, puts_failed}
use Rattle.sve_debug.proofs.debugger.Debugger.command.Goals as goal

no_command : command_of [] ≡ None
unfolding command_of
no_command = refl

empty : (line : List ℕ) → (length line == 0) ≡ true → line ≡ []
empty [] h = refl
empty (b ∷ bytes) h = let none : length (b ∷ bytes) ≡ 0 = eqb-true _ _ h in absurd (omega (arith, none))

stays : (line : List ℕ) (d : Session) → (length line == 0) ≡ true → d ≡ after_line line d
stays line d h = sym (ap (λ l. after_line l d) (empty line h) ∙ ap (λ o. elim o [ Some command ↦ after_command command d | None ↦ d ]) no_command)

on : (line : List ℕ) → (length line == 0) ≡ true → true ≡ not (quits line)
on line h = sym (ap (λ l. not (quits l)) (empty line h) ∙ ap (λ o. not (is_quit o)) no_command)

pub returns-then-is_empty-clause-session : goal.returns-then-is_empty-clause-session
returns-then-is_empty-clause-session g c start d h =
    subst (Stands c.args.self.now start) (stays c.args.line.now d (sym c.is_empty.ensures ∙ c.if-is_empty.true)) h

pub returns-then-is_empty-clause-goes_on : goal.returns-then-is_empty-clause-goes_on
returns-then-is_empty-clause-goes_on g c = on c.args.line.now (sym c.is_empty.ensures ∙ c.if-is_empty.true)

pub returns-in_err-answer-clause-told : goal.returns-in_err-answer-clause-told
returns-in_err-answer-clause-told g c start d h =
    let taken = g.S.Sink.taken in
    let faults = g.S.Sink.faults in
    let command = c.in-Some.command in
    let text = told_is command c.args.self.now c.answer.new.self start d h (c.answer.ensures.session start d h) in
    let whole = line_is c.args.line.now command d (sym c.is_empty.ensures ∙ c.if-is_empty.false) (sym c.command_of.ensures.value ∙ c.in-Some.is) in
    put_as _ _ _ _ _ _ _ (text ∙ whole)
    (puts_failed (taken c.args.out.now) (taken c.answer.new.out) (faults c.args.out.now) (faults c.answer.new.out) _ c.answer.result c.in_err-answer.field-0.0 c.from_residual-in_err-answer.result c.in_err-answer.was c.from_residual-in_err-answer.ensures.0 c.answer.ensures.text)

pub returns-clause-told : goal.returns-clause-told
returns-clause-told g c start d h =
    let taken = g.S.Sink.taken in
    let faults = g.S.Sink.faults in
    let command = c.in-Some.command in
    let text = told_is command c.args.self.now c.answer.new.self start d h (c.answer.ensures.session start d h) in
    let whole = line_is c.args.line.now command d (sym c.is_empty.ensures ∙ c.if-is_empty.false) (sym c.command_of.ensures.value ∙ c.in-Some.is) in
    put_as _ _ _ _ _ _ _ (text ∙ whole)
    (puts_on (taken c.args.out.now) (taken c.answer.new.out) (faults c.args.out.now) (faults c.answer.new.out) _ c.answer.result c.in_ok-answer.field-0 _ c.in_ok-answer.was c.answer.ensures.text)

-- ---- the session and its steps

pub returns-clause-session : goal.returns-clause-session
returns-clause-session g c start d h = subst (Stands c.answer.new.self start) (sym (ap (λ o. elim o [ Some command ↦ after_command command d | None ↦ d ]) (sym c.command_of.ensures.value ∙ c.in-Some.is))) (c.answer.ensures.session start d h)

pub returns-clause-steps : goal.returns-clause-steps
returns-clause-steps g c = c.answer.ensures.steps

pub returns-in_err-answer-clause-session : goal.returns-in_err-answer-clause-session
returns-in_err-answer-clause-session g c start d h = subst (Stands c.answer.new.self start) (sym (ap (λ o. elim o [ Some command ↦ after_command command d | None ↦ d ]) (sym c.command_of.ensures.value ∙ c.in-Some.is))) (c.answer.ensures.session start d h)

pub returns-in_err-answer-clause-steps : goal.returns-in_err-answer-clause-steps
returns-in_err-answer-clause-steps g c = c.answer.ensures.steps

pub returns-in_default-clause-session : goal.returns-in_default-clause-session
returns-in_default-clause-session g c start d h = subst (Stands c.args.self.now start) (sym (ap (λ o. elim o [ Some command ↦ after_command command d | None ↦ d ]) (sym c.command_of.ensures.value ∙ c.in_default.is))) h

pub returns-in_err-put_line-clause-session : goal.returns-in_err-put_line-clause-session
returns-in_err-put_line-clause-session g c start d h = subst (Stands c.args.self.now start) (sym (ap (λ o. elim o [ Some command ↦ after_command command d | None ↦ d ]) (sym c.command_of.ensures.value ∙ c.in_default.is))) h

-- ---- the causes of faults

pub returns-clause-cause : goal.returns-clause-cause
returns-clause-cause g c = record { later = c.answer.ensures.text.cause.later; failed = tt }

pub returns-in_err-answer-clause-cause : goal.returns-in_err-answer-clause-cause
returns-in_err-answer-clause-cause g c = record {
  later = c.answer.ensures.text.cause.later;
  failed =
      in_error c.from_residual-in_err-answer.result
      (subst (λ r. OnErr r (Rose (g.S.Sink.faults c.args.out.now) (g.S.Sink.faults c.answer.new.out))) c.in_err-answer.was c.answer.ensures.text.cause.failed);
}

pub returns-in_err-answer-clause-goes_on : goal.returns-in_err-answer-clause-goes_on
returns-in_err-answer-clause-goes_on g c = IfOk-from_err _ _ c.from_residual-in_err-answer.ensures.0

pub returns-in_err-put_line-clause-goes_on : goal.returns-in_err-put_line-clause-goes_on
returns-in_err-put_line-clause-goes_on g c = IfOk-from_err _ _ c.from_residual.ensures.0

pub returns-in_default-clause-cause : goal.returns-in_default-clause-cause
returns-in_default-clause-cause g c = record { later = c.put_line.ensures.cause.later; failed = tt }
