use Rattle.kernel_tree.specs.Plain.{program_of}
use Rattle.kernel_tree.specs.Checked.{kernel_of}
use Rattle.kernel_tree.proofs.Spelled.{outer_breaks}
use Rattle.kernel_tree.proofs.laws.outer_breaks.Goals as goal

pub returns : goal.returns
returns c = λ l e. outer_breaks (program_of (kernel_of c.args.kernel.now)) l c.args.kernel.now.tree e
