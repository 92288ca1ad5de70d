use Rattle.kernel_tree.specs.Plain.{program_of}
use Rattle.kernel_tree.specs.Checked.{kernel_of}
use Rattle.kernel_tree.proofs.Spelled.{few_params}
use Rattle.loop_form.specs.View.{program}
use Rattle.reserved_registers.proofs.Iterations as theorem
use Rattle.reserved_registers.proofs.laws.scalar_code_leaves.Goals as goal

pub returns : goal.returns
unfolding program
returns c =
    let k = program_of (kernel_of c.args.kernel.now) in
    let few = few_params k c.args.kernel.now.tree in
    record { begin = theorem.begin_stays k c.args.regs.now few c.requires.fits; scalar = theorem.scalar_stays k c.args.regs.now c.args.kernel.now.typed few c.requires.fits }
