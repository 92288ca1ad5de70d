use Rattle.first_fault.proofs.BreakRegions as laws
use Rattle.first_fault.proofs.region_splits.Goals as goal

pub returns : goal.returns
returns c = laws.region_splits
