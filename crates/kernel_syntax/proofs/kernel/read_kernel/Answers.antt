use Rattle.std.proofs.Common.{Result, subst}
use Rattle.kernel_tree.specs.declared.ast.Kernel.{Kernel}
use Rattle.kernel_syntax.specs.declared.fault.ReadFault.{ReadFault}
use Rattle.kernel_syntax.specs.Refusals.{TextGives}
use Rattle.kernel_syntax.proofs.Outcomes.{read_tree, read_within}
use Rattle.kernel_syntax.proofs.kernel.read_kernel.Goals as goal

pub returns-clause-tree : goal.returns-clause-tree
returns-clause-tree c = read_tree c.args.text.now c.read_text.result c.read_text.ensures

pub returns-clause-within : goal.returns-clause-within
returns-clause-within c = read_within c.args.text.now c.read_text.result c.read_text.ensures

pub returns-clause-too_long : goal.returns-clause-too_long
returns-clause-too_long c e = subst (λ (r : Result Kernel ReadFault). TextGives c.args.text.now r) e c.read_text.ensures

pub returns-clause-bad_byte : goal.returns-clause-bad_byte
returns-clause-bad_byte c at e = subst (λ (r : Result Kernel ReadFault). TextGives c.args.text.now r) e c.read_text.ensures

pub returns-clause-too_deep : goal.returns-clause-too_deep
returns-clause-too_deep c token e = subst (λ (r : Result Kernel ReadFault). TextGives c.args.text.now r) e c.read_text.ensures

pub returns-clause-no_tree : goal.returns-clause-no_tree
returns-clause-no_tree c token e = (subst (λ (r : Result Kernel ReadFault). TextGives c.args.text.now r) e c.read_text.ensures).1

pub returns-clause-no_limit : goal.returns-clause-no_limit
returns-clause-no_limit c token e = (subst (λ (r : Result Kernel ReadFault). TextGives c.args.text.now r) e c.read_text.ensures).0

pub returns-clause-place : goal.returns-clause-place
returns-clause-place c token e = (subst (λ (r : Result Kernel ReadFault). TextGives c.args.text.now r) e c.read_text.ensures).2
