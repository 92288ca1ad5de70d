use Rattle.std.proofs.Common.{◌+◌, drop, refl, sym, ap, ◌∙◌}
use Rattle.std.proofs.lemmas.Result.{on_ok_weaker}
use Rattle.kernel_tree.specs.Plain.{Action, Block, Choose, Update, Nothing, name_of, term_of, action_of, block_of}
use Rattle.kernel_tree.specs.Parts.{part_action}
use Rattle.kernel_tree.specs.Limits.{block_depth}
use Rattle.kernel_scope.specs.Scopes.{scope_of, in_body}
use Rattle.scalar_words.specs.View.{looses_of}
use Rattle.loop_code.specs.Loosening.{loosen_action, loosen_block}
use Rattle.guest_types.proofs.Errors.{on_error}
use Rattle.kernel_tree.proofs.Walks.{next_statement, no_statement}
use Rattle.loop_code.proofs.StatementWalks.{loosen_two, loosen_on}
use Rattle.loop_code.proofs.WalkParts.{two_statement_below, less_deep, same_depth, two_only_block_below, two_first_block_below, two_second_block_below, loosen_other, loosen_as}
use Rattle.loop_code.proofs.loosening.+walk.Goals as goal

-- ---- a statement by its kind

pub loosen_stmt-loosen_block-requires : goal.loosen_stmt-loosen_block-requires
loosen_stmt-loosen_block-requires t c =
    (two_only_block_below t (action_of c.args.stmt.now) (term_of c.in-If.cond.now) (block_of c.in-If.block.now) c.decreases (sym c.parts.ensures ∙ ap part_action c.in-If.is), tt)

pub loosen_stmt-returns-in-If : goal.loosen_stmt-returns-in-If
loosen_stmt-returns-in-If t c = record {
  scope = c.loosen_block.ensures.scope;
  loose = on_ok_weaker c.loosen_block.result (loosen_as (in_body (scope_of c.args.scope.now)) (block_of c.args.body.now) (action_of c.args.stmt.now) (Choose (term_of c.in-If.cond.now) (block_of c.in-If.block.now) Nothing) (looses_of c.args.loose.now.items) (looses_of c.loosen_block.new.loose.items) (sym c.parts.ensures ∙ ap part_action c.in-If.is)) c.loosen_block.ensures.loose;
}

pub loosen_stmt-loosen_block-requires-in-IfElse : goal.loosen_stmt-loosen_block-requires-in-IfElse
loosen_stmt-loosen_block-requires-in-IfElse t c =
    (two_first_block_below t (action_of c.args.stmt.now) (term_of c.in-IfElse.cond.now) (block_of c.in-IfElse.block.now) (block_of c.in-IfElse.other.now) c.decreases (sym c.parts.ensures ∙ ap part_action c.in-IfElse.is), tt)

pub loosen_stmt-loosen_block-requires-in-IfElse-2 : goal.loosen_stmt-loosen_block-requires-in-IfElse-2
loosen_stmt-loosen_block-requires-in-IfElse-2 t c =
    (two_second_block_below t (action_of c.args.stmt.now) (term_of c.in-IfElse.cond.now) (block_of c.in-IfElse.block.now) (block_of c.in-IfElse.other.now) c.decreases (sym c.parts.ensures ∙ ap part_action c.in-IfElse.is), tt)

pub loosen_stmt-returns-in_err-loosen_block-in-IfElse : goal.loosen_stmt-returns-in_err-loosen_block-in-IfElse
loosen_stmt-returns-in_err-loosen_block-in-IfElse t c =
    let failed = c.from_residual.ensures.0 in
    record { scope = on_error _ _ failed; loose = on_error _ _ failed }

pub loosen_stmt-returns-in_ok-loosen_block-in-IfElse : goal.loosen_stmt-returns-in_ok-loosen_block-in-IfElse
loosen_stmt-returns-in_ok-loosen_block-in-IfElse t c = record {
  scope = on_ok_weaker c.loosen_block-in-IfElse-2.result (λ p. p ∙ c.in_ok-loosen_block-in-IfElse.ensures.scope) c.loosen_block-in-IfElse-2.ensures.scope;
  loose =
      on_ok_weaker c.loosen_block-in-IfElse-2.result (λ p. loosen_two (scope_of c.args.scope.now) (scope_of c.loosen_block-in-IfElse.new.scope) (block_of c.args.body.now) (action_of c.args.stmt.now) (term_of c.in-IfElse.cond.now) (block_of c.in-IfElse.block.now) (block_of c.in-IfElse.other.now) (looses_of c.args.loose.now.items) (looses_of c.loosen_block-in-IfElse.new.loose.items) (looses_of c.loosen_block-in-IfElse-2.new.loose.items)
      (sym c.parts.ensures ∙ ap part_action c.in-IfElse.is) c.in_ok-loosen_block-in-IfElse.ensures.scope c.in_ok-loosen_block-in-IfElse.ensures.loose p) c.loosen_block-in-IfElse-2.ensures.loose;
}

pub loosen_stmt-returns-in-Update : goal.loosen_stmt-returns-in-Update
loosen_stmt-returns-in-Update t c = record {
  scope = c.loosen_update.ensures.scope;
  loose = on_ok_weaker c.loosen_update.result (loosen_as (in_body (scope_of c.args.scope.now)) (block_of c.args.body.now) (action_of c.args.stmt.now) (Update (name_of c.in-Update.name.now) c.in-Update.op (term_of c.in-Update.value.now)) (looses_of c.args.loose.now.items) (looses_of c.loosen_update.new.loose.items) (sym c.parts.ensures ∙ ap part_action c.in-Update.is)) c.loosen_update.ensures.loose;
}

pub loosen_stmt-returns-in_default : goal.loosen_stmt-returns-in_default
loosen_stmt-returns-in_default t c = record {
  scope = refl;
  loose =
      loosen_other (in_body (scope_of c.args.scope.now)) (block_of c.args.body.now) c.parts.result (looses_of c.args.loose.now.items) c.in_default.not-Update c.in_default.not-If c.in_default.not-IfElse
      ∙ ap (λ (a : Action). loosen_action (in_body (scope_of c.args.scope.now)) (block_of c.args.body.now) a (looses_of c.args.loose.now.items)) c.parts.ensures;
}

-- ---- the statements of a block, one after another

pub loosen_block-loop-stmt-init : goal.loosen_block-loop-stmt-init
loosen_block-loop-stmt-init t c = record { depth = same_depth (block_depth (block_of c.args.block.now)); scope = refl; loose = refl }

pub loosen_block-loosen_stmt-requires : goal.loosen_block-loosen_stmt-requires
loosen_block-loosen_stmt-requires t c =
    let l = c.loop-stmt in
    let e = next_statement c.args.block.now l.stmt-index c.stmt-item.result c.loop-stmt-test.true c.stmt-item.is in
    (two_statement_below t (block_of c.args.block.now) (block_of (drop l.stmt-index c.args.block.now)) (block_of (drop (l.stmt-index + 1) c.args.block.now)) (action_of c.stmt-item.result) c.decreases l.invariant.depth e, tt)

pub loosen_block-loop-stmt-preserved : goal.loosen_block-loop-stmt-preserved
loosen_block-loop-stmt-preserved t c =
    let l = c.loop-stmt in
    let e = next_statement c.args.block.now l.stmt-index c.stmt-item.result c.loop-stmt-test.true c.stmt-item.is in
    record {
      depth = less_deep (block_of (drop l.stmt-index c.args.block.now)) (block_of (drop (l.stmt-index + 1) c.args.block.now)) (action_of c.stmt-item.result) (block_depth (block_of c.args.block.now)) e l.invariant.depth;
      scope = c.in_ok-loosen_stmt.ensures.scope ∙ l.invariant.scope;
      loose = loosen_on (scope_of l.scope) (scope_of c.loosen_stmt.new.scope) (block_of c.args.body.now) (action_of c.stmt-item.result) (block_of (drop (l.stmt-index + 1) c.args.block.now)) (block_of (drop l.stmt-index c.args.block.now)) (looses_of l.loose.items) (looses_of c.loosen_stmt.new.loose.items) c.in_ok-loosen_stmt.ensures.scope e c.in_ok-loosen_stmt.ensures.loose ∙ l.invariant.loose;
    }

pub loosen_block-returns-in_err-loosen_stmt : goal.loosen_block-returns-in_err-loosen_stmt
loosen_block-returns-in_err-loosen_stmt t c =
    let failed = c.from_residual.ensures.0 in
    record { scope = on_error _ _ failed; loose = on_error _ _ failed }

pub loosen_block-returns : goal.loosen_block-returns
loosen_block-returns t c =
    let l = c.loop-stmt in
    record {
      scope = l.invariant.scope;
      loose = ap (λ (b : Block). loosen_block (in_body (scope_of l.scope)) (block_of c.args.body.now) b (looses_of l.loose.items)) (sym (no_statement c.args.block.now l.stmt-index c.loop-stmt-test.false)) ∙ l.invariant.loose;
    }
