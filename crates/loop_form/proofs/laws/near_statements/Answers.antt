use Rattle.loop_form.specs.View.{program}
use Rattle.kernel_tree.specs.Plain.{program_of}
use Rattle.kernel_tree.specs.Checked.{kernel_of}
use Rattle.loop_form.proofs.Near.{statements-near}
use Rattle.loop_form.proofs.laws.near_statements.Goals as goal

pub returns : goal.returns
unfolding program
returns c = statements-near (program_of (kernel_of c.args.kernel.now)) c.args.kernel.now.typed
