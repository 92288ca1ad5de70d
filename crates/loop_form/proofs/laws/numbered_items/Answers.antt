use Rattle.loop_form.specs.View.{program}
use Rattle.loop_form.proofs.Numbers.{loop-listed, all-listed}
use Rattle.loop_form.proofs.laws.numbered_items.Goals as goal

pub returns : goal.returns
returns c = record {
  count = (all-listed (program c.args.kernel.now)).count;
  all = (all-listed (program c.args.kernel.now)).numbered;
  looped = (loop-listed (program c.args.kernel.now)).numbered;
}
