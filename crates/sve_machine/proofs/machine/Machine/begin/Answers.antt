use Rattle.std.proofs.Common.{[], ◌∷◌, refl, ap, ap₂, ◌∙◌}
use Rattle.machine_model.specs.Debugged.{Past, View}
use Rattle.sve_machine.specs.Pasts.{past_at, past_by, rests_of}
use Rattle.guest_types.proofs.Errors.{on_error, in_error}
use Rattle.sve_machine.proofs.PastLaws.{now-seen, whole-same, whole-begun}
use Rattle.sve_machine.proofs.machine.Machine.begin.Goals as goal

pub returns-in_err-history : goal.returns-in_err-history
returns-in_err-history c = record {
  now = refl;
  begun = on_error _ _ c.from_residual.ensures.0;
  unchanged = in_error c.from_residual.result refl;
}

pub invariant_of-self : goal.invariant_of-self
invariant_of-self c =
    let own = c.self.inside in
    whole-same own.pages.memory c.begin.new.self.memory own.pages.past c.begin.new.self.past own.decoded own.history c.in_err-begin.ensures.memory c.in_err-begin.ensures.unchanged c.self.invariant

pub returns-in_err-begin : goal.returns-in_err-begin
returns-in_err-begin c =
    let own = c.self.inside in
    record {
      now = now-seen own.core own.pages.memory c.begin.new.self.memory own.vectors own.steps own.over (past_by own.pages.past (rests_of own.history)) (past_by c.begin.new.self.past (rests_of own.history)) c.args.self.now c.in_err-begin.ensures.memory c.self.view_is;
      begun = on_error _ _ c.from_residual-in_err-begin.ensures.0;
      unchanged =
          in_error c.from_residual-in_err-begin.result
          (ap (λ ms. past_by ms (rests_of own.history)) c.in_err-begin.ensures.unchanged ∙ ap (λ (v : View). v.past) c.self.view_is);
    }

pub invariant_of-self-2 : goal.invariant_of-self-2
invariant_of-self-2 c =
    let own = c.self.inside in
    whole-begun own.pages.memory c.begin.new.self.memory c.begin.new.self.past own.decoded c.in_ok-history.history c.snapshot.result c.in_ok-begin.ensures.memory c.in_ok-begin.ensures.begun c.in_ok-history.ensures c.self.invariant.decoded

pub returns : goal.returns
returns c =
    let own = c.self.inside in
    record {
      now = now-seen own.core own.pages.memory c.begin.new.self.memory own.vectors own.steps own.over (past_by own.pages.past (rests_of own.history)) (past_by c.begin.new.self.past c.in_ok-history.history) c.args.self.now c.in_ok-begin.ensures.memory c.self.view_is;
      begun =
          ap₂ past_by c.in_ok-begin.ensures.begun c.in_ok-history.ensures
          ∙ ap (λ (p : Past). p ∷ []) (ap (λ (v : View). past_at v.state.memory c.snapshot.result) c.self.view_is ∙ c.snapshot.ensures);
      unchanged = tt;
    }
