use Rattle.chunk_pass.proofs.PassLaws as laws
use Rattle.chunk_pass.proofs.iteration_passes.Goals as goal

pub returns : goal.returns
returns c = laws.iteration_law
