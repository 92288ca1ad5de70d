use Rattle.kernel_tree.proofs.StatementLists.{choose_else-is}
use Rattle.kernel_tree.proofs.make.choose_else.Goals as goal

pub returns : goal.returns
returns c = choose_else-is c.args.cond c.args.then_part c.args.other
