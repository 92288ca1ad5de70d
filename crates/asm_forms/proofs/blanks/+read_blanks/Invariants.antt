use Rattle.std.proofs.Common.{length}
use Rattle.asm_forms.proofs.blanks.+read_blanks.Given as goal

abbrev pub decreases-read_blanks : goal.decreases-read_blanks
decreases-read_blanks l = length l.bytes.now
