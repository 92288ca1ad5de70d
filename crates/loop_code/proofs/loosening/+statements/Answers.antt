use Rattle.std.proofs.Common.{◌≡◌, ◌+◌, drop, refl, sym, ap, ◌∙◌}
use Rattle.std.proofs.lemmas.Result.{on_ok_weaker, IfOk-weaker, IfOk-from_err}
use Rattle.std.specs.Prelude.{◌&&◌}
use Rattle.kernel_tree.specs.Plain.{Block, Define, Put, Update, Choose, Leave, Nothing, name_of, term_of, action_of, block_of}
use Rattle.kernel_tree.specs.Parts.{part_action}
use Rattle.kernel_tree.specs.Limits.{block_depth}
use Rattle.kernel_tree.specs.Typing.{Scope, left, after_action, after_block}
use Rattle.kernel_scope.specs.Scopes.{scope_of, kept}
use Rattle.kernel_scope.proofs.Growth.{kept-block}
use Rattle.scalar_words.specs.View.{looses_of}
use Rattle.loop_code.specs.Loosening.{covers_block}
use Rattle.guest_types.proofs.Errors.{on_error}
use Rattle.kernel_tree.proofs.Walks.{next_statement, no_statement}
use Rattle.kernel_tree.proofs.Measures.{three_2_to_1, three_statement_below}
use Rattle.loop_code.proofs.StatementWalks.{covers_one, covers_two}
use Rattle.loop_code.proofs.WalkParts.{less_deep, same_depth, three_only_block_below, three_first_block_below, three_second_block_below, and_true, covers_on, after_as, covers_as}
use Rattle.loop_code.proofs.loosening.+statements.Goals as goal
use Rattle.loop_code.proofs.loosening.+statements.Goals.{covers_block-then-covered, covers_block-else-covered}

-- ---- a statement by its kind

pub covers_stmt-covers_inner-requires : goal.covers_stmt-covers_inner-requires
covers_stmt-covers_inner-requires t c =
    (three_only_block_below t (action_of c.args.stmt.now) (term_of c.in-If.cond.now) (block_of c.in-If.block.now) c.decreases (sym c.parts.ensures ∙ ap part_action c.in-If.is), tt)

pub covers_stmt-returns-in-If : goal.covers_stmt-returns-in-If
covers_stmt-returns-in-If t c = record {
  scope = on_ok_weaker c.covers_inner.result (after_as (scope_of c.args.scope.now) (scope_of c.covers_inner.new.scope) (action_of c.args.stmt.now) (Choose (term_of c.in-If.cond.now) (block_of c.in-If.block.now) Nothing) (sym c.parts.ensures ∙ ap part_action c.in-If.is)) c.covers_inner.ensures.scope;
  covers =
      IfOk-weaker c.covers_inner.result _ _ (λ v h. covers_one (looses_of c.args.loose.now) (scope_of c.args.scope.now) (action_of c.args.stmt.now) (term_of c.in-If.cond.now) (block_of c.in-If.block.now) c.covers_truth-truth.result v
      (sym c.parts.ensures ∙ ap part_action c.in-If.is) c.covers_truth-truth.ensures h) c.covers_inner.ensures.covers;
}

pub covers_stmt-covers_inner-requires-in-IfElse : goal.covers_stmt-covers_inner-requires-in-IfElse
covers_stmt-covers_inner-requires-in-IfElse t c =
    (three_first_block_below t (action_of c.args.stmt.now) (term_of c.in-IfElse.cond.now) (block_of c.in-IfElse.block.now) (block_of c.in-IfElse.other.now) c.decreases (sym c.parts.ensures ∙ ap part_action c.in-IfElse.is), tt)

pub covers_stmt-covers_inner-requires-in-IfElse-2 : goal.covers_stmt-covers_inner-requires-in-IfElse-2
covers_stmt-covers_inner-requires-in-IfElse-2 t c =
    (three_second_block_below t (action_of c.args.stmt.now) (term_of c.in-IfElse.cond.now) (block_of c.in-IfElse.block.now) (block_of c.in-IfElse.other.now) c.decreases (sym c.parts.ensures ∙ ap part_action c.in-IfElse.is), tt)

pub covers_stmt-returns-in_err-first-in-IfElse : goal.covers_stmt-returns-in_err-first-in-IfElse
covers_stmt-returns-in_err-first-in-IfElse t c =
    let failed = c.from_residual.ensures.0 in
    record { scope = on_error _ _ failed; covers = IfOk-from_err _ _ failed }

pub covers_stmt-returns-in_ok-first-in-IfElse : goal.covers_stmt-returns-in_ok-first-in-IfElse
covers_stmt-returns-in_ok-first-in-IfElse t c = record {
  scope =
      on_ok_weaker c.covers_inner-in-IfElse-2.result (λ p. p
      ∙ ap (λ (r : Scope). left r (after_block r (block_of c.in-IfElse.other.now))) c.in_ok-first-in-IfElse.ensures.scope
      ∙ ap (after_action (scope_of c.args.scope.now)) (ap part_action (sym c.in-IfElse.is) ∙ c.parts.ensures)) c.covers_inner-in-IfElse-2.ensures.scope;
  covers =
      IfOk-weaker c.covers_inner-in-IfElse-2.result _ _ (λ v h. covers_two (looses_of c.args.loose.now) (scope_of c.args.scope.now) (scope_of c.covers_inner-in-IfElse.new.scope) (action_of c.args.stmt.now) (term_of c.in-IfElse.cond.now) (block_of c.in-IfElse.block.now) (block_of c.in-IfElse.other.now) c.covers_truth-truth-in-IfElse.result c.in_ok-first-in-IfElse.first v
      (sym c.parts.ensures ∙ ap part_action c.in-IfElse.is) c.covers_truth-truth-in-IfElse.ensures c.in_ok-first-in-IfElse.ensures.scope c.in_ok-first-in-IfElse.ensures.covers h) c.covers_inner-in-IfElse-2.ensures.covers;
}

pub covers_stmt-returns-in-Let : goal.covers_stmt-returns-in-Let
covers_stmt-returns-in-Let t c =
    let is = sym c.parts.ensures ∙ ap part_action c.in-Let.is in
    record {
      scope = on_ok_weaker c.covers_let.result (after_as (scope_of c.args.scope.now) (scope_of c.covers_let.new.scope) (action_of c.args.stmt.now) (Define (name_of c.in-Let.name.now) c.in-Let.ty (term_of c.in-Let.value.now)) is) c.covers_let.ensures.scope;
      covers = IfOk-weaker c.covers_let.result _ _ (λ v h. covers_as (looses_of c.args.loose.now) (scope_of c.args.scope.now) (action_of c.args.stmt.now) (Define (name_of c.in-Let.name.now) c.in-Let.ty (term_of c.in-Let.value.now)) v is h) c.covers_let.ensures.covers;
    }

pub covers_stmt-returns-in-Store : goal.covers_stmt-returns-in-Store
covers_stmt-returns-in-Store t c =
    let is = sym c.parts.ensures ∙ ap part_action c.in-Store.is in
    record {
      scope = after_as (scope_of c.args.scope.now) (scope_of c.args.scope.now) (action_of c.args.stmt.now) (Put (name_of c.in-Store.array.now) (term_of c.in-Store.index.now) (term_of c.in-Store.value.now)) is refl;
      covers = covers_as (looses_of c.args.loose.now) (scope_of c.args.scope.now) (action_of c.args.stmt.now) (Put (name_of c.in-Store.array.now) (term_of c.in-Store.index.now) (term_of c.in-Store.value.now)) c.covers_store.result is c.covers_store.ensures;
    }

pub covers_stmt-returns-in-Update : goal.covers_stmt-returns-in-Update
covers_stmt-returns-in-Update t c =
    let is = sym c.parts.ensures ∙ ap part_action c.in-Update.is in
    record {
      scope = after_as (scope_of c.args.scope.now) (scope_of c.args.scope.now) (action_of c.args.stmt.now) (Update (name_of c.in-Update.name.now) c.in-Update.op (term_of c.in-Update.value.now)) is refl;
      covers = covers_as (looses_of c.args.loose.now) (scope_of c.args.scope.now) (action_of c.args.stmt.now) (Update (name_of c.in-Update.name.now) c.in-Update.op (term_of c.in-Update.value.now)) c.covers_update.result is c.covers_update.ensures;
    }

pub covers_stmt-returns-in-Break : goal.covers_stmt-returns-in-Break
covers_stmt-returns-in-Break t c =
    let is = sym c.parts.ensures ∙ ap part_action c.in-Break.is in
    record {
      scope = after_as (scope_of c.args.scope.now) (scope_of c.args.scope.now) (action_of c.args.stmt.now) (Leave (term_of c.in-Break.cond.now)) is refl;
      covers = covers_as (looses_of c.args.loose.now) (scope_of c.args.scope.now) (action_of c.args.stmt.now) (Leave (term_of c.in-Break.cond.now)) c.covers_truth.result is c.covers_truth.ensures;
    }

-- ---- a block whose names are visible no more

pub covers_inner-covers_block-requires : goal.covers_inner-covers_block-requires
covers_inner-covers_block-requires t c = (three_2_to_1 t (block_depth (block_of c.args.block.now)) c.decreases, tt)

pub covers_inner-returns-in_err-covered : goal.covers_inner-returns-in_err-covered
covers_inner-returns-in_err-covered t c =
    let failed = c.from_residual.ensures.0 in
    record { scope = on_error _ _ failed; covers = IfOk-from_err _ _ failed }

pub covers_inner-returns : goal.covers_inner-returns
covers_inner-returns t c =
    let scope = scope_of c.args.scope.now in
    let block = block_of c.args.block.now in
    record {
      scope = c.leave.ensures ∙ ap (kept c.visible_count-visible.result) c.in_ok-covered.ensures.scope ∙ kept-block scope c.visible_count-visible.result block c.visible_count-visible.ensures;
      covers = c.in_ok-covered.ensures.covers;
    }

-- ---- the statements of a block, one after another

pub covers_block-loop-stmt-init : goal.covers_block-loop-stmt-init
covers_block-loop-stmt-init t c = record { depth = same_depth (block_depth (block_of c.args.block.now)); scope = refl; covers = refl }

pub covers_block-covers_stmt-requires : goal.covers_block-covers_stmt-requires
covers_block-covers_stmt-requires t c =
    let l = c.loop-stmt in
    let e = next_statement c.args.block.now l.stmt-index c.stmt-item.result c.loop-stmt-test.true c.stmt-item.is in
    (three_statement_below t (block_of c.args.block.now) (block_of (drop l.stmt-index c.args.block.now)) (block_of (drop (l.stmt-index + 1) c.args.block.now)) (action_of c.stmt-item.result) c.decreases l.invariant.depth e, tt)

pub covers_block-loop-stmt-preserved : goal.covers_block-loop-stmt-preserved
covers_block-loop-stmt-preserved t c =
    let l = c.loop-stmt in
    let e = next_statement c.args.block.now l.stmt-index c.stmt-item.result c.loop-stmt-test.true c.stmt-item.is in
    let both : c.if-covered.covered ≡ (l.covered && c.in_ok-here.here) = elim c.if-covered.branch [
      | covers_block-then-covered w ↦ w.covered-is ∙ ap (λ b. b && c.in_ok-here.here) (sym w.if-covered.true)
      | covers_block-else-covered w ↦ w.covered-is ∙ w.if-covered.false ∙ ap (λ b. b && c.in_ok-here.here) (sym w.if-covered.false)
    ] in
    record {
      depth = less_deep (block_of (drop l.stmt-index c.args.block.now)) (block_of (drop (l.stmt-index + 1) c.args.block.now)) (action_of c.stmt-item.result) (block_depth (block_of c.args.block.now)) e l.invariant.depth;
      scope = ap (λ (s : Scope). after_block s (block_of (drop (l.stmt-index + 1) c.args.block.now))) c.in_ok-here.ensures.scope ∙ ap (after_block (scope_of l.scope)) (sym e) ∙ l.invariant.scope;
      covers = covers_on (looses_of c.args.loose.now) (scope_of l.scope) (scope_of c.covers_stmt.new.scope) (action_of c.stmt-item.result) (block_of (drop (l.stmt-index + 1) c.args.block.now)) (block_of (drop l.stmt-index c.args.block.now)) l.covered c.in_ok-here.here c.if-covered.covered e c.in_ok-here.ensures.scope c.in_ok-here.ensures.covers both ∙ l.invariant.covers;
    }

pub covers_block-returns-in_err-here : goal.covers_block-returns-in_err-here
covers_block-returns-in_err-here t c =
    let failed = c.from_residual.ensures.0 in
    record { scope = on_error _ _ failed; covers = IfOk-from_err _ _ failed }

pub covers_block-returns : goal.covers_block-returns
covers_block-returns t c =
    let l = c.loop-stmt in
    let end = sym (no_statement c.args.block.now l.stmt-index c.loop-stmt-test.false) in
    record {
      scope = ap (after_block (scope_of l.scope)) end ∙ l.invariant.scope;
      covers = and_true l.covered ∙ ap (λ (b : Block). l.covered && covers_block (looses_of c.args.loose.now) (scope_of l.scope) b) end ∙ l.invariant.covers;
    }
