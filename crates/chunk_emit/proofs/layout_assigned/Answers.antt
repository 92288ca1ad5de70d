use Rattle.chunk_emit.proofs.FitsAssigned as fits
use Rattle.chunk_emit.proofs.layout_assigned.Goals as goal

pub returns : goal.returns
returns c = fits.assigned_of
