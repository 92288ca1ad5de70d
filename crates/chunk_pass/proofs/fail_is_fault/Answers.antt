use Rattle.chunk_pass.proofs.ChunkFails as laws
use Rattle.chunk_pass.proofs.fail_is_fault.Goals as goal

pub returns : goal.returns
returns c = laws.fail_is_fault
