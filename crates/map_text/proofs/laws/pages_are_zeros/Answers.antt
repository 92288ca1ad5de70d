use Rattle.map_text.proofs.ByteLaws.{zero_byte, kept_byte}
use Rattle.map_text.proofs.laws.pages_are_zeros.Goals as goal

pub returns-clause-zero : goal.returns-clause-zero
returns-clause-zero c = zero_byte

pub returns-clause-kept : goal.returns-clause-kept
returns-clause-kept c = kept_byte
