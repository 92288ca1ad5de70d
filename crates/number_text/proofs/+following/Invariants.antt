use Rattle.std.proofs.Common.{length}
use Rattle.number_text.proofs.+following.Given as goal

abbrev pub decreases-following : goal.decreases-following
decreases-following l = length l.front.now
