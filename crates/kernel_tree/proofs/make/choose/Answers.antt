use Rattle.kernel_tree.proofs.StatementLists.{choose-is}
use Rattle.kernel_tree.proofs.make.choose.Goals as goal

pub returns : goal.returns
returns c = choose-is c.args.cond c.args.then_part
