use Rattle.std.proofs.Common.{arith}
use Rattle.kernel_tree.specs.Plain.{action_of}
use Rattle.kernel_tree.specs.Items.{loop_index}
use Rattle.loop_form.specs.View.{program}
use Rattle.loop_form.proofs.LoopLists.{some_item}
use Rattle.loop_form.proofs.size.count_items.Goals as goal

pub returns-clause-some : goal.returns-clause-some
returns-clause-some c = let a = some_item (loop_index (program c.args.kernel.now)) (action_of c.args.stmt.now) in let e = c.stmt_size.ensures in omega (arith, a, e)
