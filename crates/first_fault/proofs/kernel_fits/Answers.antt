use Rattle.first_fault.proofs.LoopFits as laws
use Rattle.first_fault.proofs.kernel_fits.Goals as goal

pub returns : goal.returns
returns c = laws.kernel_fits
