use Rattle.kernel_tree.specs.Plain.{program_of}
use Rattle.kernel_tree.specs.Checked.{kernel_of}
use Rattle.kernel_tree.proofs.Names.{bound_param}
use Rattle.kernel_tree.proofs.laws.bound_param.Goals as goal

pub returns : goal.returns
returns c = λ l e. bound_param (program_of (kernel_of c.args.kernel.now)) l c.args.kernel.now.typed e
