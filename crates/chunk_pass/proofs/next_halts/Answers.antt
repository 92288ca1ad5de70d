use Rattle.chunk_pass.proofs.ChunkNext as laws
use Rattle.chunk_pass.proofs.next_halts.Goals as goal

pub returns : goal.returns
returns c = laws.next_halts
