use Rattle.std.specs.Prelude.{length}
use Rattle.loop_lists.proofs.walk.+list_vars.Given as goal

abbrev pub decreases-list_vars : goal.decreases-list_vars
decreases-list_vars l = length l.vars.now
