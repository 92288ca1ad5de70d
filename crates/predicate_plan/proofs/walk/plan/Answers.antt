use Rattle.std.proofs.Common.{sym, subst}
use Rattle.loop_form.specs.View.{program}
use Rattle.predicate_plan.specs.Masks.{MeetsMasks}
use Rattle.predicate_plan.proofs.Meets.{masks_met}
use Rattle.predicate_plan.proofs.walk.plan.Goals as goal

pub returns-clause-meets : goal.returns-clause-meets
returns-clause-meets c = subst (MeetsMasks (program c.args.kernel.now)) (sym c.in_ok-plan.ensures) (masks_met (program c.args.kernel.now))
