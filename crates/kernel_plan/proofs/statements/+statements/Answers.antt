use Rattle.std.proofs.Common.{◌+◌, List, None, refl, sym, ap, ◌∙◌, arith, drop}
use Rattle.std.proofs.Math.ListN.{drop_of_length-le}
use Rattle.std.proofs.lemmas.Result.{IfOk-from_err}
use Rattle.kernel_tree.specs.declared.ast.Stmt.{Stmt}
use Rattle.kernel_tree.specs.Plain.{Define, Put, Update, Choose, Nothing, Else, Leave, name_of, term_of, action_of, block_of}
use Rattle.kernel_tree.specs.Typing as typing
use Rattle.kernel_tree.specs.Typing.{after_action}
use Rattle.kernel_tree.specs.Limits.{block_depth}
use Rattle.kernel_tree.proofs.Calls.{on_any}
use Rattle.kernel_tree.proofs.Walks.{next_statement, no_statement-sym, after_two_blocks}
use Rattle.kernel_tree.proofs.Measures.{four_2_to_1, four_3_to_right_2, four_statement_below, four_blocks_below}
use Rattle.kernel_scope.specs.Scopes.{scope_of, kept}
use Rattle.kernel_plan.specs.declared.step.Step.{Step}
use Rattle.kernel_plan.specs.Trees.{tasks_of, followed}
use Rattle.kernel_plan.specs.Resolve as resolving
use Rattle.kernel_scope.proofs.Growth.{kept-block}
use Rattle.kernel_plan.proofs.SameNames.{resolved-same}
use Rattle.kernel_plan.proofs.StepLists.{if-resolved}
use Rattle.kernel_plan.proofs.ListWalks.{statement_goes_on, followed-done}
use Rattle.kernel_plan.proofs.StatementWalks.{four_block_and_none_below, four_3_to_left_2, as_task, as_scope}
use Rattle.kernel_plan.proofs.statements.+statements.Goals as goal

pub resolve_block-loop-stmt-preserved : goal.resolve_block-loop-stmt-preserved
resolve_block-loop-stmt-preserved t c =
    let l = c.loop-stmt in
    let made = c.in_ok-step.ensures in
    let e = next_statement c.args.block.now l.stmt-index c.stmt-item.result c.loop-stmt-test.true c.stmt-item.is in
    let step = statement_goes_on (scope_of l.scope) (scope_of c.resolve_stmt.new.scope) l.steps.items c.push.new.self.items c.in_ok-step.step (action_of c.stmt-item.result) (block_of (drop (l.stmt-index + 1) c.args.block.now)) (block_of (drop l.stmt-index c.args.block.now)) e made.scope c.in_ok-push.ensures.items made.step in
    record {
      depth = omega (arith, ap block_depth e, l.invariant.depth);
      scope = step.scope ∙ l.invariant.scope;
      steps = step.steps ∙ l.invariant.steps;
    }

pub resolve_inner-returns-clause-scope : goal.resolve_inner-returns-clause-scope
resolve_inner-returns-clause-scope t c =
    let scope = scope_of c.args.scope.now in
    let block = block_of c.args.block.now in
    c.leave.ensures ∙ ap (kept c.visible_count-count.result) c.in_ok-steps.ensures.scope ∙ kept-block scope c.visible_count-count.result block c.visible_count-count.ensures

pub resolve_block-returns-clause-steps : goal.resolve_block-returns-clause-steps
resolve_block-returns-clause-steps t c =
    let l = c.loop-stmt in
    let e = drop_of_length-le c.args.block.now c.loop-stmt-test.false in
    sym (followed-done (tasks_of l.steps.items)) ∙ ap (λ (xs : List Stmt). followed (tasks_of l.steps.items) (resolving.resolved_block (scope_of l.scope) (block_of xs))) (sym e) ∙ l.invariant.steps

pub resolve_if-returns-clause-step : goal.resolve_if-returns-clause-step
resolve_if-returns-clause-step t c =
    let yes = c.in_ok-yes.ensures in
    let no = c.in_ok-no.ensures in
    let visible = ap (λ (s : typing.Scope). s.visible) no.scope ∙ ap (λ (s : typing.Scope). s.visible) yes.scope in
    let index = ap (λ (s : typing.Scope). s.index) no.scope ∙ ap (λ (s : typing.Scope). s.index) yes.scope in
    if-resolved c.in_ok-cond.cond c.in_ok-yes.yes c.in_ok-no.no _ _ _
    (c.in_ok-cond.ensures ∙ resolved-same (scope_of c.args.scope.now) (scope_of c.resolve_inner-2.new.scope) None (term_of c.args.cond.now) visible index)
    yes.steps (no.steps ∙ ap (λ s. resolving.resolved_block s (block_of c.args.other.now)) yes.scope)

-- ---- a statement by its kind

pub resolve_stmt-returns-in-Let : goal.resolve_stmt-returns-in-Let
resolve_stmt-returns-in-Let t c = record {
  step = as_task c.resolve_let.result (scope_of c.args.scope.now) (Define (name_of c.in-Let.name.now) c.in-Let.ty (term_of c.in-Let.value.now)) (action_of c.args.stmt.now) (sym c.in-Let.ensures) c.resolve_let.ensures.step;
  scope = as_scope c.resolve_let.result (scope_of c.args.scope.now) (Define (name_of c.in-Let.name.now) c.in-Let.ty (term_of c.in-Let.value.now)) (action_of c.args.stmt.now) (sym c.in-Let.ensures) (scope_of c.resolve_let.new.scope) c.resolve_let.ensures.scope;
}

pub resolve_stmt-returns-in-Store : goal.resolve_stmt-returns-in-Store
resolve_stmt-returns-in-Store t c = record {
  step = as_task c.resolve_store.result (scope_of c.args.scope.now) (Put (name_of c.in-Store.array.now) (term_of c.in-Store.index.now) (term_of c.in-Store.value.now)) (action_of c.args.stmt.now) (sym c.in-Store.ensures) c.resolve_store.ensures;
  scope = on_any c.resolve_store.result (ap (after_action (scope_of c.args.scope.now)) c.in-Store.ensures);
}

pub resolve_stmt-returns-in-Update : goal.resolve_stmt-returns-in-Update
resolve_stmt-returns-in-Update t c = record {
  step = as_task c.resolve_update.result (scope_of c.args.scope.now) (Update (name_of c.in-Update.name.now) c.in-Update.op (term_of c.in-Update.value.now)) (action_of c.args.stmt.now) (sym c.in-Update.ensures) c.resolve_update.ensures;
  scope = on_any c.resolve_update.result (ap (after_action (scope_of c.args.scope.now)) c.in-Update.ensures);
}

pub resolve_stmt-resolve_if-requires : goal.resolve_stmt-resolve_if-requires
resolve_stmt-resolve_if-requires t c = (four_block_and_none_below t (action_of c.args.stmt.now) (term_of c.in-If.cond.now) (block_of c.in-If.block.now) c.decreases (sym c.in-If.ensures), tt)

pub resolve_stmt-returns-in-If : goal.resolve_stmt-returns-in-If
resolve_stmt-returns-in-If t c = record {
  step = as_task c.resolve_if.result (scope_of c.args.scope.now) (Choose (term_of c.in-If.cond.now) (block_of c.in-If.block.now) Nothing) (action_of c.args.stmt.now) (sym c.in-If.ensures) c.resolve_if.ensures.step;
  scope = as_scope c.resolve_if.result (scope_of c.args.scope.now) (Choose (term_of c.in-If.cond.now) (block_of c.in-If.block.now) Nothing) (action_of c.args.stmt.now) (sym c.in-If.ensures) (scope_of c.resolve_if.new.scope) c.resolve_if.ensures.scope;
}

pub resolve_stmt-resolve_if-requires-in-IfElse : goal.resolve_stmt-resolve_if-requires-in-IfElse
resolve_stmt-resolve_if-requires-in-IfElse t c = (four_blocks_below t (action_of c.args.stmt.now) (term_of c.in-IfElse.cond.now) (block_of c.in-IfElse.block.now) (block_of c.in-IfElse.other.now) c.decreases (sym c.in-IfElse.ensures), tt)

pub resolve_stmt-returns-in-IfElse : goal.resolve_stmt-returns-in-IfElse
resolve_stmt-returns-in-IfElse t c = record {
  step = as_task c.resolve_if-in-IfElse.result (scope_of c.args.scope.now) (Choose (term_of c.in-IfElse.cond.now) (block_of c.in-IfElse.block.now) (Else (block_of c.in-IfElse.other.now))) (action_of c.args.stmt.now) (sym c.in-IfElse.ensures) c.resolve_if-in-IfElse.ensures.step;
  scope = as_scope c.resolve_if-in-IfElse.result (scope_of c.args.scope.now) (Choose (term_of c.in-IfElse.cond.now) (block_of c.in-IfElse.block.now) (Else (block_of c.in-IfElse.other.now))) (action_of c.args.stmt.now) (sym c.in-IfElse.ensures) (scope_of c.resolve_if-in-IfElse.new.scope) c.resolve_if-in-IfElse.ensures.scope;
}

pub resolve_stmt-returns-in-Break : goal.resolve_stmt-returns-in-Break
resolve_stmt-returns-in-Break t c = record {
  step = as_task c.resolve_break.result (scope_of c.args.scope.now) (Leave (term_of c.in-Break.cond.now)) (action_of c.args.stmt.now) (sym c.in-Break.ensures) c.resolve_break.ensures;
  scope = on_any c.resolve_break.result (ap (after_action (scope_of c.args.scope.now)) c.in-Break.ensures);
}

-- ---- a call that failed owes nothing

pub resolve_block-returns-in_err-step : goal.resolve_block-returns-in_err-step
resolve_block-returns-in_err-step t c =
    let failed = c.from_residual.ensures.0 in
    record { steps = IfOk-from_err _ _ failed; scope = IfOk-from_err _ _ failed }

pub resolve_block-returns-in_err-push : goal.resolve_block-returns-in_err-push
resolve_block-returns-in_err-push t c =
    let failed = c.from_residual-in_err-push.ensures.0 in
    record { steps = IfOk-from_err _ _ failed; scope = IfOk-from_err _ _ failed }

pub resolve_if-returns-in_err-yes : goal.resolve_if-returns-in_err-yes
resolve_if-returns-in_err-yes t c =
    let failed = c.from_residual.ensures.0 in
    record { step = IfOk-from_err _ _ failed; scope = IfOk-from_err _ _ failed }

pub resolve_if-returns-in_err-no : goal.resolve_if-returns-in_err-no
resolve_if-returns-in_err-no t c =
    let failed = c.from_residual-in_err-no.ensures.0 in
    record { step = IfOk-from_err _ _ failed; scope = IfOk-from_err _ _ failed }

pub resolve_if-returns-in_err-cond : goal.resolve_if-returns-in_err-cond
resolve_if-returns-in_err-cond t c =
    let failed = c.from_residual-in_err-cond.ensures.0 in
    record { step = IfOk-from_err _ _ failed; scope = IfOk-from_err _ _ failed }

pub resolve_inner-returns-in_err-steps : goal.resolve_inner-returns-in_err-steps
resolve_inner-returns-in_err-steps t c =
    let failed = c.from_residual.ensures.0 in
    record { steps = IfOk-from_err _ _ failed; scope = IfOk-from_err _ _ failed }

-- ---- blocks

pub resolve_block-loop-stmt-init : goal.resolve_block-loop-stmt-init
resolve_block-loop-stmt-init t c = record {
  depth = omega arith;
  scope = refl;
  steps = ap (λ (xs : List Step). followed (tasks_of xs) (resolving.resolved_block (scope_of c.args.scope.now) (block_of c.args.block.now))) c.new-steps.ensures.items;
}

pub resolve_block-resolve_stmt-requires : goal.resolve_block-resolve_stmt-requires
resolve_block-resolve_stmt-requires t c =
    let l = c.loop-stmt in
    let e = next_statement c.args.block.now l.stmt-index c.stmt-item.result c.loop-stmt-test.true c.stmt-item.is in
    (four_statement_below t (block_of c.args.block.now) (block_of (drop l.stmt-index c.args.block.now)) (block_of (drop (l.stmt-index + 1) c.args.block.now)) (action_of c.stmt-item.result) c.decreases l.invariant.depth e, tt)

pub resolve_block-returns-clause-scope : goal.resolve_block-returns-clause-scope
resolve_block-returns-clause-scope t c =
    let l = c.loop-stmt in
    ap (typing.after_block (scope_of l.scope)) (no_statement-sym c.args.block.now l.stmt-index c.loop-stmt-test.false) ∙ l.invariant.scope

pub resolve_inner-resolve_block-requires : goal.resolve_inner-resolve_block-requires
resolve_inner-resolve_block-requires t c = (four_2_to_1 t (block_depth (block_of c.args.block.now)) c.decreases, tt)

pub resolve_inner-returns-clause-steps : goal.resolve_inner-returns-clause-steps
resolve_inner-returns-clause-steps t c = c.in_ok-steps.ensures.steps

pub resolve_if-resolve_inner-requires : goal.resolve_if-resolve_inner-requires
resolve_if-resolve_inner-requires t c = (four_3_to_left_2 t (block_depth (block_of c.args.block.now)) (block_depth (block_of c.args.other.now)) c.decreases, tt)

pub resolve_if-resolve_inner-requires-2 : goal.resolve_if-resolve_inner-requires-2
resolve_if-resolve_inner-requires-2 t c = (four_3_to_right_2 t (block_depth (block_of c.args.block.now)) (block_depth (block_of c.args.other.now)) c.decreases, tt)

pub resolve_if-returns-clause-scope : goal.resolve_if-returns-clause-scope
resolve_if-returns-clause-scope t c = after_two_blocks (scope_of c.args.scope.now) (scope_of c.resolve_inner.new.scope) (scope_of c.resolve_inner-2.new.scope) (term_of c.args.cond.now) (block_of c.args.block.now) (block_of c.args.other.now) c.in_ok-yes.ensures.scope c.in_ok-no.ensures.scope
