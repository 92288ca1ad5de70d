use Rattle.std.proofs.Common.{sym, subst, ap, ◌∙◌}
use Rattle.std.specs.Option.{is_none}
use Rattle.machine_model.specs.OneStep.{step}
use Rattle.machine_model.specs.Answers.{IsAnswer}
use Rattle.machine_model.specs.Debugged.{View}
use Rattle.debug_history.specs.Answered.{answer_of}
use Rattle.a64_machine.specs.Cores.{state_of, said}
use Rattle.sve_machine.specs.Pasts.{past_by, rests_of}
use Rattle.sve_machine.proofs.PastLaws.{whole-left}
use Rattle.sve_machine.proofs.RunSteps.{one_quiet, answer_went_on, came_to}
use Rattle.sve_machine.proofs.machine.Machine.goes_on.Goals as goal

pub advance-went-requires : goal.advance-went-requires
advance-went-requires g c = record { decoded = c.self.invariant.decoded }

pub invariant_of-self : goal.invariant_of-self
invariant_of-self g c =
    let own = c.self.inside in
    let left = c.advance-went.new in
    whole-left own.pages.memory left.pages.memory own.pages.past left.pages.past own.decoded left.decoded own.history c.advance-went.ensures.decoded c.advance-went.ensures.past c.self.invariant

pub returns-then-went : goal.returns-then-went
returns-then-went g c =
    let own = c.self.inside in
    let left = c.advance-went.new in
    record {
      answer =
          subst (λ (v : View). IsAnswer (step v.state) (answer_of own.over) v.state (state_of left.core left.pages.memory left.vectors)) c.self.view_is
          (answer_went_on own.over c.advance-went.result left.answer (state_of own.core own.pages.memory own.vectors) (state_of left.core left.pages.memory left.vectors) c.if-went.true (ap (λ (v : View). v.over) c.self.view_is ∙ c.requires.running) c.advance-went.ensures.answer);
      steps = ap (λ (v : View). v.steps) c.self.view_is;
      place = c.advance-went.ensures.place ∙ ap (λ (v : View). v.state.pc) c.self.view_is;
      goes_on = ap is_none (sym (ap (λ (v : View). v.over) c.self.view_is ∙ c.requires.running));
      quiet = λ quiet. one_quiet (said c.advance-went.result left.answer) (state_of own.core own.pages.memory own.vectors) (state_of left.core left.pages.memory left.vectors)
          c.advance-went.ensures.answer (ap (λ (v : View). v.quiet) c.self.view_is ∙ quiet);
      past = ap (λ ms. past_by ms (rests_of own.history)) c.advance-went.ensures.past ∙ ap (λ (v : View). v.past) c.self.view_is;
    }

pub invariant_of-self-2 : goal.invariant_of-self-2
invariant_of-self-2 g c =
    let own = c.self.inside in
    let left = c.advance-went.new in
    whole-left own.pages.memory left.pages.memory own.pages.past left.pages.past own.decoded left.decoded own.history c.advance-went.ensures.decoded c.advance-went.ensures.past c.self.invariant

pub returns : goal.returns
returns g c =
    let own = c.self.inside in
    let left = c.advance-went.new in
    record {
      answer =
          subst (λ (v : View). IsAnswer (step v.state) (answer_of c.come_to_end.new.over) v.state (state_of left.core left.pages.memory left.vectors)) c.self.view_is
          (came_to c.come_to_end.new.over c.advance-went.result left.answer (state_of own.core own.pages.memory own.vectors) (state_of left.core left.pages.memory left.vectors) c.if-went.false c.come_to_end.ensures.over c.advance-went.ensures.answer);
      steps = ap (λ (v : View). v.steps) c.self.view_is;
      place = c.advance-went.ensures.place ∙ ap (λ (v : View). v.state.pc) c.self.view_is;
      goes_on = c.come_to_end.ensures.goes_on;
      quiet = λ quiet. one_quiet (said c.advance-went.result left.answer) (state_of own.core own.pages.memory own.vectors) (state_of left.core left.pages.memory left.vectors)
          c.advance-went.ensures.answer (ap (λ (v : View). v.quiet) c.self.view_is ∙ quiet);
      past = ap (λ ms. past_by ms (rests_of own.history)) c.advance-went.ensures.past ∙ ap (λ (v : View). v.past) c.self.view_is;
    }
