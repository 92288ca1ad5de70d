use Rattle.kernel_syntax.proofs.Decided.{read_or_no_tree}
use Rattle.kernel_syntax.proofs.laws.read_or_no_tree.Goals as goal

pub returns : goal.returns
returns c text e = read_or_no_tree text e
