use Rattle.kernel_tree.specs.Plain.{program_of}
use Rattle.kernel_tree.specs.Checked.{kernel_of}
use Rattle.kernel_tree.proofs.Spelled.{few_params}
use Rattle.loop_form.specs.View.{program}
use Rattle.loop_code.proofs.KernelRuns as theorem
use Rattle.loop_code.proofs.laws.scalar_runs.Goals as goal

pub returns : goal.returns
unfolding program
returns c =
    let k = program_of (kernel_of c.args.kernel.now) in
    let few = few_params k c.args.kernel.now.tree in
    theorem.scalar_runs _ k (theorem.fits k c.args.regs.now c.args.kernel.now.typed few c.requires.fits)
