use Rattle.std.proofs.Common.{ap, ◌∙◌}
use Rattle.std.proofs.lemmas.Result.{IfOk-from_err}
use Rattle.kernel_tree.specs.Plain.{name_of, term_of}
use Rattle.kernel_tree.specs.Typing.{accumulator_type}
use Rattle.std.specs.Prelude.{option_and_then}
use Rattle.kernel_tree.proofs.Walks.{update_type}
use Rattle.kernel_scope.specs.Scopes.{scope_of}
use Rattle.kernel_plan.specs.Trees.{tree_of}
use Rattle.kernel_plan.proofs.StatementWalks.{updated}
use Rattle.kernel_plan.proofs.statements.resolve_update.Goals as goal

pub returns-in_err-right : goal.returns-in_err-right
returns-in_err-right c = IfOk-from_err _ _ c.from_residual.ensures.0

pub returns-in_err-left : goal.returns-in_err-left
returns-in_err-left c = IfOk-from_err _ _ c.from_residual-in_err-left.ensures.0

pub returns : goal.returns
returns c =
    updated (scope_of c.args.scope.now) (name_of c.args.name.now) c.args.op (term_of c.args.value.now) c.slot-slot.result c.operator.result c.and_then-want.result (tree_of c.in_ok-left.left.value) (tree_of c.in_ok-right.right.value)
    c.slot-slot.ensures c.operator.ensures (update_type c.lookup.result c.and_then-want.result c.and_then-want.ensures ∙ ap (option_and_then accumulator_type) c.lookup.ensures) (ap tree_of c.in_ok-left.ensures.ok) c.in_ok-right.ensures
