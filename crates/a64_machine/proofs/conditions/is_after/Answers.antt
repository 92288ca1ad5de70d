use Rattle.a64_machine.proofs.AfterCompare.{unequal_after, equal_after, below_after, not_below_after}
use Rattle.a64_machine.proofs.conditions.is_after.Goals as goal

pub returns-in-3855 : goal.returns-in-3855
returns-in-3855 c = unequal_after c.args.left c.args.right c.args.among c.ranges.left.fits c.ranges.right.fits c.in-3855.is

pub returns-in-61680 : goal.returns-in-61680
returns-in-61680 c = equal_after c.args.left c.args.right c.args.among c.ranges.left.fits c.ranges.right.fits c.in-61680.is

pub returns-in-13107 : goal.returns-in-13107
returns-in-13107 c = below_after c.args.left c.args.right c.args.among c.in-13107.is

pub returns-in-52428 : goal.returns-in-52428
returns-in-52428 c = not_below_after c.args.left c.args.right c.args.among c.in-52428.is
