use Rattle.kernel_tree.specs.Plain.{program_of}
use Rattle.kernel_tree.specs.Checked.{kernel_of}
use Rattle.kernel_tree.proofs.Spelled.{few_params}
use Rattle.loop_form.specs.View.{program}
use Rattle.loop_code.proofs.KernelRuns.{fits}
use Rattle.loop_code.proofs.BeginRuns as theorem
use Rattle.loop_code.proofs.laws.begin_runs.Goals as goal

pub returns : goal.returns
unfolding program
returns c =
    let k = program_of (kernel_of c.args.kernel.now) in
    let few = few_params k c.args.kernel.now.tree in
    theorem.begin_runs _ k c.args.kernel.now.typed few (fits k c.args.regs.now c.args.kernel.now.typed few c.requires.fits)
