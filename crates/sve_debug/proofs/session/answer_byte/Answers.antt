use Rattle.std.proofs.Common.{Ok, true, Bool, List, ℕ, ap, ◌∙◌, subst}
use Rattle.std.specs.Prelude.{not}
use Rattle.std.proofs.lemmas.Result.{IfOk-from_err}
use Rattle.sve_debug.specs.DebuggerState.{Stands}
use Rattle.sve_debug.specs.Sessions.{Tells}
use Rattle.sve_debug.specs.declared.session.SessionFault.TheVariants.{Input, Output}
use Rattle.sve_debug.proofs.Told.{ok_no_err}
use Rattle.sve_debug.proofs.ByteAnswers.{ended_after, ended_text, ended_quits, other_after, other_text, other_pending, other_goes_on, tells_cut, tells_nothing}
use Rattle.sve_debug.proofs.session.answer_byte.Goals as goal

-- ---- a line feed

pub returns-in_err-on-clause-session : goal.returns-in_err-on-clause-session
returns-in_err-on-clause-session g c start d h =
    subst (Stands c.tell.new.debugger start) (ended_after c.args.line.now.items c.as_slice.result.now c.args.byte c.as_slice.ensures.value c.if-byte-eq10.true d) (c.tell.ensures.session start d h)

pub returns-in_err-on-clause-line : goal.returns-in_err-on-clause-line
returns-in_err-on-clause-line g c = IfOk-from_err _ _ c.from_residual.ensures.0

pub returns-in_err-on-clause-goes_on : goal.returns-in_err-on-clause-goes_on
returns-in_err-on-clause-goes_on g c = IfOk-from_err _ _ c.from_residual.ensures.0

pub returns-in_err-on-clause-told : goal.returns-in_err-on-clause-told
returns-in_err-on-clause-told g c start d h =
    tells_cut _ _ _ _ c.tell.result c.from_residual.result c.from_residual.ensures.0 (ended_text c.args.line.now.items c.as_slice.result.now c.args.byte c.as_slice.ensures.value c.if-byte-eq10.true d)
    (c.tell.ensures.told start d h)

pub returns-then-byte-eq10-clause-session : goal.returns-then-byte-eq10-clause-session
returns-then-byte-eq10-clause-session g c start d h =
    subst (Stands c.tell.new.debugger start) (ended_after c.args.line.now.items c.as_slice.result.now c.args.byte c.as_slice.ensures.value c.if-byte-eq10.true d) (c.tell.ensures.session start d h)

pub returns-then-byte-eq10-clause-told : goal.returns-then-byte-eq10-clause-told
returns-then-byte-eq10-clause-told g c start d h =
    subst (λ (text : List ℕ). Tells {T = Bool} (g.S.Sink.taken c.args.out.now) (g.S.Sink.taken c.tell.new.out) text (Ok c.in_ok-on.on))
    (ended_text c.args.line.now.items c.as_slice.result.now c.args.byte c.as_slice.ensures.value c.if-byte-eq10.true d) (c.in_ok-on.ensures.told start d h)

pub returns-then-byte-eq10-clause-goes_on : goal.returns-then-byte-eq10-clause-goes_on
returns-then-byte-eq10-clause-goes_on g c =
    c.in_ok-on.ensures.goes_on ∙ ap not (ended_quits c.args.line.now.items c.as_slice.result.now c.args.byte c.as_slice.ensures.value c.if-byte-eq10.true)

-- ---- another byte

pub returns-in_err-push-clause-session : goal.returns-in_err-push-clause-session
returns-in_err-push-clause-session g c start d h = subst (Stands c.args.debugger.now start) (other_after c.args.line.now.items c.args.byte c.if-byte-eq10.false d) h

pub returns-in_err-push-clause-line : goal.returns-in_err-push-clause-line
returns-in_err-push-clause-line g c = IfOk-from_err _ _ c.from_residual-in_err-push.ensures.0

pub returns-in_err-push-clause-goes_on : goal.returns-in_err-push-clause-goes_on
returns-in_err-push-clause-goes_on g c = IfOk-from_err _ _ c.from_residual-in_err-push.ensures.0

pub returns-in_err-push-clause-told : goal.returns-in_err-push-clause-told
returns-in_err-push-clause-told g c start d h =
    tells_nothing (g.S.Sink.taken c.args.out.now) _ c.from_residual-in_err-push.result (other_text c.args.line.now.items c.args.byte c.if-byte-eq10.false d)

pub returns-clause-session : goal.returns-clause-session
returns-clause-session g c start d h = subst (Stands c.args.debugger.now start) (other_after c.args.line.now.items c.args.byte c.if-byte-eq10.false d) h

pub returns-clause-line : goal.returns-clause-line
returns-clause-line g c = c.in_ok-push.ensures.items ∙ other_pending c.args.line.now.items c.args.byte c.if-byte-eq10.false

pub returns-clause-told : goal.returns-clause-told
returns-clause-told g c start d h = tells_nothing {A = Bool} (g.S.Sink.taken c.args.out.now) _ (Ok true) (other_text c.args.line.now.items c.args.byte c.if-byte-eq10.false d)

pub returns-clause-goes_on : goal.returns-clause-goes_on
returns-clause-goes_on g c = ap not (other_goes_on c.args.line.now.items c.args.byte c.if-byte-eq10.false)

-- ---- steps and faults

pub returns-in_err-on-clause-later : goal.returns-in_err-on-clause-later
returns-in_err-on-clause-later g c = c.tell.ensures.later

pub returns-in_err-on-clause-steps : goal.returns-in_err-on-clause-steps
returns-in_err-on-clause-steps g c = c.tell.ensures.steps

pub returns-then-byte-eq10-clause-later : goal.returns-then-byte-eq10-clause-later
returns-then-byte-eq10-clause-later g c = c.tell.ensures.later

pub returns-then-byte-eq10-clause-steps : goal.returns-then-byte-eq10-clause-steps
returns-then-byte-eq10-clause-steps g c = c.tell.ensures.steps

pub returns-then-byte-eq10-clause-output : goal.returns-then-byte-eq10-clause-output
returns-then-byte-eq10-clause-output g c e = absurd (ok_no_err c.in_ok-on.on Output e)

pub returns-then-byte-eq10-clause-input : goal.returns-then-byte-eq10-clause-input
returns-then-byte-eq10-clause-input g c e = ok_no_err c.in_ok-on.on Input e

pub returns-clause-output : goal.returns-clause-output
returns-clause-output g c e = absurd (ok_no_err true Output e)

pub returns-clause-input : goal.returns-clause-input
returns-clause-input g c e = ok_no_err true Input e
