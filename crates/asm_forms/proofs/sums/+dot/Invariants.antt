use Rattle.std.proofs.Common.{length}
use Rattle.asm_forms.proofs.sums.+dot.Given as goal

abbrev pub decreases-dot : goal.decreases-dot
decreases-dot l = length l.factors.now
