use Rattle.std.proofs.lemmas.Result.{IfOk-weaker}
use Rattle.kernel_types.proofs.TypeLists.{then_types}
use Rattle.std.proofs.Common.{arith}
use Rattle.kernel_tree.specs.Items.{term_size}
use Rattle.kernel_tree.specs.Plain.{term_of, accumulator_of}
use Rattle.kernel_tree.proofs.Calls.{on_any}
use Rattle.kernel_scope.specs.Scopes.{scope_of}
use Rattle.kernel_types.proofs.PartWalks.{var_found}
use Rattle.kernel_types.proofs.OperandWalks.{past_item}
use Rattle.kernel_types.proofs.kernels.walk_var.Goals as goal

pub returns-clause-types : goal.returns-clause-types
returns-clause-types c = IfOk-weaker c.declare.result _ _ (λ _ _. then_types c.walk_expr.ensures.types c.end.ensures.types) c.declare.ensures

pub walk_expr-requires : goal.walk_expr-requires
walk_expr-requires c =
    omega arith

pub end-requires : goal.end-requires
end-requires c =
    omega arith

pub returns-clause-scope : goal.returns-clause-scope
returns-clause-scope c =
    c.declare.ensures

pub returns-clause-next : goal.returns-clause-next
returns-clause-next c =
    on_any c.declare.result (past_item c.args.notes.now.next c.walk_expr.new.notes.next c.end.new.notes.next (term_size (scope_of c.args.scope.now).index (term_of c.args.var.now.init)) c.walk_expr.ensures.next c.end.ensures.next)

pub returns-clause-found : goal.returns-clause-found
returns-clause-found c =
    on_any c.declare.result (var_found (scope_of c.args.scope.now) c.args.notes.now.next c.walk_expr.new.notes.next c.args.notes.now.found c.walk_expr.new.notes.found c.end.new.notes.found c.twice-found.result c.is_taken.result (accumulator_of c.args.var.now) c.walk_expr.ensures.next c.walk_expr.ensures.found c.is_taken.ensures c.twice-found.ensures c.end.ensures.found)
