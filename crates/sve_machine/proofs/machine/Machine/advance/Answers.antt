use Rattle.std.proofs.Common.{ap, ◌∙◌, ◌-◌, arith}
use Rattle.machine_model.specs.Debugged.{View}
use Rattle.a64_machine.specs.Cores.{state_of}
use Rattle.sve_machine.proofs.RunSteps.{quiet_left, leaves_seen}
use Rattle.sve_machine.specs.Pasts.{past_by, rests_of}
use Rattle.sve_machine.proofs.PastLaws.{whole-left}
use Rattle.sve_machine.proofs.machine.Machine.advance.Goals as goal

pub returns-clause-quiet : goal.returns-clause-quiet
returns-clause-quiet c quiet =
    let own = c.self.inside in
    let left = c.go-answer.new in
    quiet_left c.go-answer.result.0 c.args.steps (c.args.steps - c.go-answer.result.1) (state_of own.core own.pages.memory own.vectors) (state_of left.core left.pages.memory left.vectors)
    c.go-answer.ensures.leaves (ap (λ (v : View). v.quiet) c.self.view_is ∙ quiet)

pub go-answer-requires : goal.go-answer-requires
go-answer-requires c = record { decoded = c.self.invariant.decoded }

pub invariant_of-self : goal.invariant_of-self
invariant_of-self c =
    let own = c.self.inside in
    let left = c.go-answer.new in
    whole-left own.pages.memory left.pages.memory own.pages.past left.pages.past own.decoded left.decoded own.history c.go-answer.ensures.decoded c.go-answer.ensures.past c.self.invariant

pub returns-clause-leaves : goal.returns-clause-leaves
returns-clause-leaves c =
    let own = c.self.inside in
    let left = c.go-answer.new in
    leaves_seen c.go-answer.result.0 c.args.steps (c.args.steps - c.go-answer.result.1) _ c.args.self.now (state_of left.core left.pages.memory left.vectors) c.self.view_is c.go-answer.ensures.leaves

pub returns-clause-counted : goal.returns-clause-counted
returns-clause-counted c = omega (arith, ap (λ (v : View). v.steps) c.self.view_is)

pub returns-clause-over : goal.returns-clause-over
returns-clause-over c = c.ending_by-self-inside.ensures

pub returns-clause-past : goal.returns-clause-past
returns-clause-past c = ap (λ ms. past_by ms (rests_of c.self.inside.history)) c.go-answer.ensures.past ∙ ap (λ (v : View). v.past) c.self.view_is
