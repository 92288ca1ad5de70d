use Rattle.std.proofs.Common.{◌≡◌, ◌-◌, refl, sym, ap, ◌∙◌, subst, arith}
use Rattle.machine_model.specs.Machine.{x_at}
use Rattle.machine_model.specs.Debugged.{View, RunLeaves, outcome_by}
use Rattle.machine_model.specs.Answers.{outcome_of}
use Rattle.sve_machine.proofs.RunSteps.{run_outcome, run_leaves, some_over, none_over, not_over}
use Rattle.sve_machine.proofs.machine.Machine.run.Goals as goal

pub returns-clause-outcome : goal.returns-clause-outcome
returns-clause-outcome c running =
    let before = c.args.self.now in
    let after = c.advance-answer.new.self in
    let done = after.steps - before.steps in
    run_outcome c.advance-answer.result _ c.args.steps before.steps after.steps done before.state after.state c.advance-answer.ensures.leaves
    (ap (λ (v : View). x_at v.state 0) c.self-2.view_is) (omega (arith, c.advance-answer.ensures.counted))
    ∙ ap (λ o. outcome_of o after.state.memory after.state.pc after.steps) (sym c.outcome_at.ensures)

pub returns-clause-leaves : goal.returns-clause-leaves
returns-clause-leaves c running =
    let before = c.args.self.now in
    let after = c.advance-answer.new.self in
    let done = after.steps - before.steps in
    subst (λ o. RunLeaves o c.args.steps before after) (sym c.outcome_at.ensures)
    (run_leaves c.advance-answer.result _ c.args.steps done before after c.advance-answer.ensures.leaves
    (ap (λ (v : View). x_at v.state 0) c.self-2.view_is) (omega (arith, c.advance-answer.ensures.counted)) c.advance-answer.ensures.over)

pub returns-in-Some : goal.returns-in-Some
returns-in-Some c =
    let before = c.args.self.now in
    let ending = c.in-Some.ending in
    let some = sym (ap (λ (v : View). v.over) c.self.view_is) ∙ c.in-Some.is in
    record {
      outcome = λ none. not_over before.over ending some none;
      leaves = λ none. not_over before.over ending some none;
      again =
          some_over (λ e. c.outcome_by.result ≡ outcome_by e c.args.steps before.state) before.over ending some
          (c.outcome_by.ensures before.state (sym (ap (λ (v : View). x_at v.state 0) c.self.view_is)));
      unchanged = some_over (λ e. before ≡ before) before.over ending some refl;
      quiet = λ q. q;
      past = refl;
    }

pub advance-answer-requires : goal.advance-answer-requires
advance-answer-requires c = record { running = sym (ap (λ (v : View). v.over) c.self.view_is) ∙ c.in_default.is; few = c.requires }

pub returns-clause-again : goal.returns-clause-again
returns-clause-again c =
    none_over (λ e. c.outcome_at.result ≡ outcome_by e c.args.steps c.args.self.now.state) c.args.self.now.over (sym (ap (λ (v : View). v.over) c.self.view_is) ∙ c.in_default.is)

pub returns-clause-unchanged : goal.returns-clause-unchanged
returns-clause-unchanged c =
    none_over (λ e. c.advance-answer.new.self ≡ c.args.self.now) c.args.self.now.over (sym (ap (λ (v : View). v.over) c.self.view_is) ∙ c.in_default.is)

pub returns-clause-quiet : goal.returns-clause-quiet
returns-clause-quiet c = c.advance-answer.ensures.quiet

pub returns-clause-past : goal.returns-clause-past
returns-clause-past c = c.advance-answer.ensures.past
