use Rattle.std.proofs.Common.{◌+◌, sym, ap, ◌∙◌, subst, arith}
use Rattle.machine_model.specs.declared.outcome.Step.{Step as StepAnswer}
use Rattle.machine_model.specs.OneStep.{step}
use Rattle.machine_model.specs.Answers.{IsAnswer}
use Rattle.machine_model.specs.Debugged.{View}
use Rattle.debug_history.specs.Answered.{answer_of}
use Rattle.a64_machine.specs.Cores.{state_of}
use Rattle.sve_machine.proofs.RunSteps.{over_by}
use Rattle.sve_machine.proofs.machine.Machine.step_on.Goals as goal

pub goes_on-requires : goal.goes_on-requires
goes_on-requires c = record { running = c.requires.running }

pub overflow_add-self : goal.overflow_add-self
overflow_add-self c = omega (arith, ap (λ (v : View). v.steps) c.self.view_is, c.goes_on.ensures.steps, c.requires.few)

pub invariant_of-self : goal.invariant_of-self
invariant_of-self c = c.self.invariant

pub returns : goal.returns
returns c =
    let before = c.args.self.now.state in
    let own = c.self.inside in
    record {
      answer =
          subst (λ (a : StepAnswer). IsAnswer (step before) a before (state_of own.core own.pages.memory own.vectors)) (sym c.answer_of.ensures)
          (subst (λ (v : View). IsAnswer (step before) (answer_of v.over) before v.state) (sym c.self.view_is) c.goes_on.ensures.answer);
      steps = ap (λ n. n + 1) (ap (λ (v : View). v.steps) c.self.view_is ∙ c.goes_on.ensures.steps);
      over = over_by own.over c.answer_of.result c.answer_of.ensures;
      quiet = λ quiet. ap (λ (v : View). v.quiet) c.self.view_is ∙ c.goes_on.ensures.quiet quiet;
      past = ap (λ (v : View). v.past) c.self.view_is ∙ c.goes_on.ensures.past;
    }
