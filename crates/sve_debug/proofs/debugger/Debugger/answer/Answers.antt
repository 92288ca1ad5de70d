use Rattle.std.proofs.Common.{sym, ap, subst, arith}
use Rattle.io_edges.proofs.Puts.{put_as}
use Rattle.sve_debug.specs.DebuggerState.{DebuggerState, Stands, answer_text}
use Rattle.sve_debug.specs.View.{IsWithin}
use Rattle.sve_debug.specs.Replies.{after_command}
use Rattle.sve_debug.proofs.debugger.Debugger.answer.Goals as goal

pub returns-in-Step-clause-session : goal.returns-in-Step-clause-session
returns-in-Step-clause-session g c start d h = subst (λ command. Stands c.take_steps.new.self start (after_command command d)) (sym c.in-Step.is) (c.take_steps.ensures.session start d h)

pub returns-in-Step-clause-text : goal.returns-in-Step-clause-text
returns-in-Step-clause-text g c = put_as _ _ _ _ _ _ _ (sym (ap (λ command. answer_text command c.args.self.now c.take_steps.new.self) c.in-Step.is)) c.put_stand.ensures

pub returns-in-Go-clause-session : goal.returns-in-Go-clause-session
returns-in-Go-clause-session g c start d h = subst (λ command. Stands c.go.new.self start (after_command command d)) (sym c.in-Go.is) (c.go.ensures.session start d h)

pub returns-in-Go-clause-text : goal.returns-in-Go-clause-text
returns-in-Go-clause-text g c = put_as _ _ _ _ _ _ _ (sym (ap (λ command. answer_text command c.args.self.now c.go.new.self) c.in-Go.is)) c.put_stand-in-Go.ensures

pub returns-in-Back-clause-session : goal.returns-in-Back-clause-session
returns-in-Back-clause-session g c start d h = subst (λ command. Stands c.put_back.new.self start (after_command command d)) (sym c.in-Back.is) (c.put_back.ensures.session start d h)

pub returns-in-Back-clause-text : goal.returns-in-Back-clause-text
returns-in-Back-clause-text g c = put_as _ _ _ _ _ _ _ (sym (ap (λ command. answer_text command c.args.self.now c.put_back.new.self) c.in-Back.is)) c.put_back.ensures.text

pub returns-in-Break-clause-text : goal.returns-in-Break-clause-text
returns-in-Break-clause-text g c = put_as _ _ _ _ _ _ _ (sym (ap (λ command. answer_text command c.args.self.now c.put_break.new.self) c.in-Break.is)) c.put_break.ensures.text

pub returns-in-Show-clause-session : goal.returns-in-Show-clause-session
returns-in-Show-clause-session g c start d h = subst (λ command. Stands c.args.self.now start (after_command command d)) (sym c.in-Show.is) (h)

pub returns-in-Show-clause-text : goal.returns-in-Show-clause-text
returns-in-Show-clause-text g c = put_as _ _ _ _ _ _ _ (sym (ap (λ command. answer_text command c.args.self.now c.args.self.now) c.in-Show.is)) c.put_part.ensures

pub returns-in-Quit-clause-session : goal.returns-in-Quit-clause-session
returns-in-Quit-clause-session g c start d h = subst (λ command. Stands c.args.self.now start (after_command command d)) (sym c.in-Quit.is) (h)

-- ---- the steps

pub returns-in-Step-clause-steps : goal.returns-in-Step-clause-steps
returns-in-Step-clause-steps g c =
    let few = subst IsWithin c.in-Step.is c.requires.within in
    omega (arith, few, c.take_steps.ensures.steps)

pub returns-in-Go-clause-steps : goal.returns-in-Go-clause-steps
returns-in-Go-clause-steps g c =
    let few = subst IsWithin c.in-Go.is c.requires.within in
    omega (arith, few, c.go.ensures.steps)

pub returns-in-Back-clause-steps : goal.returns-in-Back-clause-steps
returns-in-Back-clause-steps g c = omega (arith, c.put_back.ensures.steps)

pub returns-in-Break-clause-steps : goal.returns-in-Break-clause-steps
returns-in-Break-clause-steps g c =
    let same = ap (λ (held : DebuggerState). held.machine.steps) c.put_break.ensures.breaks in
    omega (arith, same)
