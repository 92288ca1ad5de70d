use Rattle.std.proofs.Common.{length}
use Rattle.asm_forms.proofs.rules.+base_in.Given as goal

abbrev pub decreases-base_in : goal.decreases-base_in
decreases-base_in l = length l.rows.now
