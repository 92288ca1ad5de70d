use Rattle.chunk_pass.proofs.ChunkDone as laws
use Rattle.chunk_pass.proofs.fine_is_done.Goals as goal

pub returns : goal.returns
returns c = laws.fine_is_done
