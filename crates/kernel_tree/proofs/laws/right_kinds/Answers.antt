use Rattle.kernel_tree.specs.Plain.{program_of}
use Rattle.kernel_tree.specs.Checked.{kernel_of}
use Rattle.kernel_tree.proofs.RightKinds.{kernel-kinds}
use Rattle.kernel_tree.proofs.laws.right_kinds.Goals as goal

pub returns : goal.returns
returns c = kernel-kinds (program_of (kernel_of c.args.kernel.now)) c.args.kernel.now.typed
