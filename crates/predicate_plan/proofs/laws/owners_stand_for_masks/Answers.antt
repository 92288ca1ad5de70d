use Rattle.std.proofs.Common.{refl}
use Rattle.loop_form.specs.View.{program}
use Rattle.predicate_plan.proofs.Owners.{loop_owners_met}
use Rattle.predicate_plan.proofs.laws.owners_stand_for_masks.Goals as goal

pub returns : goal.returns
unfolding program
returns c truth settled = loop_owners_met (program c.args.kernel.now) (program c.args.kernel.now).for_loop truth refl c.right_kinds.ensures.for_loop settled
