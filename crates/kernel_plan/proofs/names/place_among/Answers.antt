use Rattle.kernel_plan.proofs.Places.{past_all}
use Rattle.kernel_plan.proofs.names.place_among.Goals as goal

pub returns : goal.returns
returns c = past_all c.args.locals.now c.loop-i.i c.args.text.now _ c.loop-i.invariant c.loop-i.far-i c.loop-i-test.false
