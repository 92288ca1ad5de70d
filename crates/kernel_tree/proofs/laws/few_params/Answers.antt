use Rattle.kernel_tree.specs.Plain.{program_of}
use Rattle.kernel_tree.specs.Checked.{kernel_of}
use Rattle.kernel_tree.proofs.Spelled.{few_params}
use Rattle.kernel_tree.proofs.laws.few_params.Goals as goal

pub returns : goal.returns
returns c = few_params (program_of (kernel_of c.args.kernel.now)) c.args.kernel.now.tree
