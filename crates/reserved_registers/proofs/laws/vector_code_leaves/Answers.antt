use Rattle.kernel_tree.specs.Plain.{program_of}
use Rattle.kernel_tree.specs.Checked.{kernel_of}
use Rattle.kernel_tree.proofs.Spelled.{few_params}
use Rattle.loop_form.specs.View.{program}
use Rattle.reserved_registers.proofs.Passes as theorem
use Rattle.reserved_registers.proofs.laws.vector_code_leaves.Goals as goal

pub returns : goal.returns
unfolding program
returns c =
    let k = program_of (kernel_of c.args.kernel.now) in
    theorem.vector_stays k c.args.regs.now (few_params k c.args.kernel.now.tree) c.requires.fits
