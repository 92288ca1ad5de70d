use Rattle.loop_form.specs.View.{program}
use Rattle.kernel_tree.specs.Plain.{program_of}
use Rattle.kernel_tree.specs.Checked.{kernel_of}
use Rattle.loop_form.proofs.FewItems.{size-small, params-few, vars-few}
use Rattle.loop_form.proofs.laws.few_items.Goals as goal

pub returns : goal.returns
unfolding program
returns c = record {
  size = size-small (program_of (kernel_of c.args.kernel.now)) c.args.kernel.now.typed;
  params = params-few (program_of (kernel_of c.args.kernel.now)) c.args.kernel.now.typed;
  vars = vars-few (program_of (kernel_of c.args.kernel.now)) c.args.kernel.now.typed;
}
