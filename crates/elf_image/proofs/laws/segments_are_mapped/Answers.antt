use Rattle.elf_image.proofs.Mapped.{file_byte, zero_byte, perm_there, no_byte}
use Rattle.elf_image.proofs.laws.segments_are_mapped.Goals as goal

pub returns-clause-file : goal.returns-clause-file
returns-clause-file c = file_byte

pub returns-clause-zero : goal.returns-clause-zero
returns-clause-zero c = zero_byte

pub returns-clause-perm : goal.returns-clause-perm
returns-clause-perm c = perm_there

pub returns-clause-none : goal.returns-clause-none
returns-clause-none c = no_byte
