use Rattle.kernel_tree.proofs.OneTree.{tree_once}
use Rattle.kernel_tree.proofs.laws.one_tree.Goals as goal

pub returns : goal.returns
returns c words j k s t = tree_once s k t
