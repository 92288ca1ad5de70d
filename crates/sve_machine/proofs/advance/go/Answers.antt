use Rattle.std.proofs.Common.{◌≡◌, ◌+◌, ◌-◌, ◌∙◌, Some, subst, arith}
use Rattle.machine_model.specs.declared.outcome.Step.TheVariants as answers
use Rattle.machine_model.proofs.Runs.{after_more}
use Rattle.machine_model.specs.Run.{after_steps}
use Rattle.a64_machine.specs.Cores.{state_of}
use Rattle.sve_machine.specs.View.{Last}
use Rattle.sve_machine.proofs.RunSteps.{said_else, more_steps, same_unless_gone, last_is}
use Rattle.sve_machine.proofs.advance.go.Goals as goal

pub loop-left-preserved-then-went : goal.loop-left-preserved-then-went
loop-left-preserved-then-went c =
    let l = c.loop-left in
    let left = c.advance_more-went.new in
    record {
      decoded = c.advance_more-went.ensures.decoded;
      state = more_steps c.args.steps l.left left.more (state_of c.args.core.now c.args.pages.now.memory c.args.vectors.now) _ (state_of left.core left.pages.memory left.vectors) c.advance_more-went.result left.answer
          (omega (arith, c.loop-left-test.true)) l.invariant.few c.if-went.true l.invariant.state c.advance_more-went.ensures.answer c.advance_more-went.ensures.fewer c.advance_more-went.ensures.both;
      past = c.advance_more-went.ensures.past ∙ l.invariant.past;
      few = omega (arith, l.invariant.few, c.advance_more-went.ensures.few);
    }

pub loop-left-preserved : goal.loop-left-preserved
loop-left-preserved c =
    let l = c.loop-left in
    let left = c.advance_more-went.new in
    let same = same_unless_gone left.more (l.left - 1) c.advance_more-went.result c.advance_more-went.ensures.both c.if-went.false in
    let counted : c.args.steps - l.left + 1 ≡ c.args.steps - left.more = omega (arith, l.invariant.few, c.loop-left-test.true, same) in
    record {
      decoded = c.advance_more-went.ensures.decoded;
      state = subst (λ n. after_steps n (state_of c.args.core.now c.args.pages.now.memory c.args.vectors.now) ≡ Some (state_of left.core left.pages.memory left.vectors)) counted
          (after_more (c.args.steps - l.left) _ _ _ l.invariant.state (said_else _ _ _ _ _ c.if-went.false c.in-Went.is (c.advance_more-went.ensures.answer same)));
      past = c.advance_more-went.ensures.past ∙ l.invariant.past;
      few = omega (arith, l.invariant.few, c.advance_more-went.ensures.few);
    }

pub returns-in-Ended-clause-leaves : goal.returns-in-Ended-clause-leaves
returns-in-Ended-clause-leaves c =
    let l = c.loop-left in
    let left = c.advance_more-went.new in
    let start = state_of c.args.core.now c.args.pages.now.memory c.args.vectors.now in
    let after = state_of left.core left.pages.memory left.vectors in
    let same = same_unless_gone left.more (l.left - 1) c.advance_more-went.result c.advance_more-went.ensures.both c.if-went.false in
    let counted : c.args.steps - l.left + 1 ≡ c.args.steps - left.more = omega (arith, l.invariant.few, c.loop-left-test.true, same) in
    subst (λ n. Last answers.Ended c.args.steps n start after) counted
    (last_is answers.Ended c.args.steps (c.args.steps - l.left) start _ after c.advance_more-went.result left.answer (omega (arith, l.invariant.few, c.loop-left-test.true)) l.invariant.state c.if-went.false c.in-Ended.is (c.advance_more-went.ensures.answer same))

pub returns-in-Stopped-clause-leaves : goal.returns-in-Stopped-clause-leaves
returns-in-Stopped-clause-leaves c =
    let l = c.loop-left in
    let left = c.advance_more-went.new in
    let start = state_of c.args.core.now c.args.pages.now.memory c.args.vectors.now in
    let after = state_of left.core left.pages.memory left.vectors in
    let same = same_unless_gone left.more (l.left - 1) c.advance_more-went.result c.advance_more-went.ensures.both c.if-went.false in
    let counted : c.args.steps - l.left + 1 ≡ c.args.steps - left.more = omega (arith, l.invariant.few, c.loop-left-test.true, same) in
    subst (λ n. Last (answers.Stopped c.in-Stopped.stop) c.args.steps n start after) counted
    (last_is (answers.Stopped c.in-Stopped.stop) c.args.steps (c.args.steps - l.left) start _ after c.advance_more-went.result left.answer (omega (arith, l.invariant.few, c.loop-left-test.true)) l.invariant.state c.if-went.false c.in-Stopped.is (c.advance_more-went.ensures.answer same))

pub loop-left-smaller-then-went : goal.loop-left-smaller-then-went
loop-left-smaller-then-went c = omega (arith, c.loop-left-test.true, c.advance_more-went.ensures.few)

pub loop-left-smaller : goal.loop-left-smaller
loop-left-smaller c = omega (arith, c.loop-left-test.true, c.advance_more-went.ensures.few)
