use Rattle.std.proofs.Common.{◌+◌, ◌-◌, length}
use Rattle.pipe_run.proofs.Commons.{Met}
use Rattle.pipe_run.proofs.fit.have_common.Given as goal

abbrev pub invariant-loop-i : goal.invariant-loop-i
invariant-loop-i l = Met l.image l.pages l.i l.j

abbrev pub decreases-loop-i : goal.decreases-loop-i
decreases-loop-i l = (length l.image - l.i) + (length l.pages - l.j)
