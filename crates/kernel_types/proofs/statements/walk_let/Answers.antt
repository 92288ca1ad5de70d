use Rattle.std.proofs.lemmas.Result.{IfOk-weaker, IfOk-equal}
use Rattle.kernel_types.proofs.TypeLists.{then_types}
use Rattle.std.proofs.Common.{arith, ap, ◌∙◌}
use Rattle.kernel_tree.specs.Plain.{name_of, term_of}
use Rattle.kernel_tree.specs.Items.{term_size}
use Rattle.kernel_tree.specs.Typing.{first, defined}
use Rattle.kernel_tree.proofs.Calls.{on_any}
use Rattle.kernel_scope.specs.Scopes.{scope_of}
use Rattle.kernel_types.proofs.PartWalks.{let_found}
use Rattle.kernel_types.proofs.OperandWalks.{past_item}
use Rattle.kernel_types.proofs.statements.walk_let.Goals as goal

pub returns-clause-types : goal.returns-clause-types
returns-clause-types c =
    let inner = rw (c.first-wanted.ensures, c.own_type.ensures) at c.walk_expr.ensures.types in
    let item = rw (c.first-wanted.ensures, c.own_type.ensures) at c.end.ensures.types in
    IfOk-weaker c.define.result _ _ (λ _ _. then_types inner item) c.define.ensures

pub walk_expr-requires : goal.walk_expr-requires
walk_expr-requires c =
    omega arith

pub end-requires : goal.end-requires
end-requires c =
    omega arith

pub returns-clause-scope : goal.returns-clause-scope
returns-clause-scope c =
    let is = c.first-wanted.ensures ∙ ap (first c.args.ty) c.own_type.ensures in
    IfOk-equal c.define.result _ _ _ c.define.ensures (ap (defined (scope_of c.args.scope.now) (name_of c.args.name.now)) is)

pub returns-clause-next : goal.returns-clause-next
returns-clause-next c =
    on_any c.define.result (past_item c.args.notes.now.next c.walk_expr.new.notes.next c.end.new.notes.next (term_size (scope_of c.args.scope.now).index (term_of c.args.value.now)) c.walk_expr.ensures.next c.end.ensures.next)

pub returns-clause-found : goal.returns-clause-found
returns-clause-found c =
    let is = c.first-wanted.ensures ∙ ap (first c.args.ty) c.own_type.ensures in
    on_any c.define.result (let_found (scope_of c.args.scope.now) c.args.notes.now.next c.walk_expr.new.notes.next c.args.notes.now.found c.walk_expr.new.notes.found c.end.new.notes.found c.sooner-found.result c.twice.result c.untyped.result c.is_taken.result c.first-wanted.result c.args.ty (name_of c.args.name.now) (term_of c.args.value.now) is c.walk_expr.ensures.next c.walk_expr.ensures.found c.is_taken.ensures c.twice.ensures c.untyped.ensures c.sooner-found.ensures c.end.ensures.found)
