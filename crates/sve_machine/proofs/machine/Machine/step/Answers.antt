use Rattle.std.proofs.Common.{◌≡◌, refl, sym, ap, ◌∙◌}
use Rattle.machine_model.specs.Debugged.{View, answer_by}
use Rattle.sve_machine.proofs.RunSteps.{some_over, none_over, not_over}
use Rattle.sve_machine.proofs.machine.Machine.step.Goals as goal

pub returns-in-Some : goal.returns-in-Some
returns-in-Some c =
    let before = c.args.self.now in
    let ending = c.in-Some.ending in
    let some = sym (ap (λ (v : View). v.over) c.self.view_is) ∙ c.in-Some.is in
    record {
      again = some_over (λ e. c.answer_by.result ≡ answer_by e) before.over ending some c.answer_by.ensures;
      unchanged = some_over (λ e. before ≡ before) before.over ending some refl;
      answer = λ none. not_over before.over ending some none;
      steps = λ none. not_over before.over ending some none;
      over = λ none. not_over before.over ending some none;
      quiet = λ q. q;
      past = refl;
    }

pub step_on-requires : goal.step_on-requires
step_on-requires c = record { running = sym (ap (λ (v : View). v.over) c.self.view_is) ∙ c.in_default.is; few = c.requires }

pub returns : goal.returns
returns c =
    let before = c.args.self.now in
    let none = sym (ap (λ (v : View). v.over) c.self.view_is) ∙ c.in_default.is in
    record {
      again = none_over (λ e. c.step_on.result ≡ answer_by e) before.over none;
      unchanged = none_over (λ e. c.step_on.new.self ≡ before) before.over none;
      answer = λ running. c.step_on.ensures.answer;
      steps = λ running. c.step_on.ensures.steps;
      over = λ running. c.step_on.ensures.over;
      quiet = c.step_on.ensures.quiet;
      past = c.step_on.ensures.past;
    }
