use Rattle.std.proofs.Common.{◌+◌, drop, refl, sym, ap, ◌∙◌}
use Rattle.std.proofs.lemmas.Result.{on_ok_weaker}
use Rattle.kernel_tree.specs.Plain.{Action, Block, name_of, term_of, action_of, block_of}
use Rattle.kernel_tree.specs.Parts.{part_action}
use Rattle.kernel_tree.specs.Limits.{block_depth}
use Rattle.kernel_scope.specs.Scopes.{scope_of}
use Rattle.scalar_words.specs.View.{looses_of}
use Rattle.loop_code.specs.Loosening.{with_array, action_arrays, block_arrays}
use Rattle.guest_types.proofs.Errors.{on_error}
use Rattle.kernel_tree.proofs.Walks.{next_statement, no_statement}
use Rattle.loop_code.proofs.StatementWalks.{arrays_one, arrays_two, arrays_on}
use Rattle.loop_code.proofs.WalkParts.{two_statement_below, less_deep, same_depth, two_only_block_below, two_first_block_below, two_second_block_below}
use Rattle.loop_code.proofs.arrays.+statements.Goals as goal

-- ---- a statement by its kind

pub add_stmt-returns-in_err-add_term-in-If : goal.add_stmt-returns-in_err-add_term-in-If
add_stmt-returns-in_err-add_term-in-If t c = on_error _ _ c.from_residual.ensures.0

pub add_stmt-add_block-requires : goal.add_stmt-add_block-requires
add_stmt-add_block-requires t c =
    (two_only_block_below t (action_of c.args.stmt.now) (term_of c.in-If.cond.now) (block_of c.in-If.block.now) c.decreases (sym c.parts.ensures ∙ ap part_action c.in-If.is), tt)

pub add_stmt-returns-in_ok-add_term-in-If : goal.add_stmt-returns-in_ok-add_term-in-If
add_stmt-returns-in_ok-add_term-in-If t c =
    on_ok_weaker c.add_block.result (λ p. arrays_one (scope_of c.args.scope.now) (action_of c.args.stmt.now) (term_of c.in-If.cond.now) (block_of c.in-If.block.now) (looses_of c.args.loose.now.items) (looses_of c.add_term.new.loose.items) (looses_of c.add_block.new.loose.items)
    (sym c.parts.ensures ∙ ap part_action c.in-If.is) c.in_ok-add_term-in-If.ensures p) c.add_block.ensures

pub add_stmt-returns-in_err-add_term-in-IfElse : goal.add_stmt-returns-in_err-add_term-in-IfElse
add_stmt-returns-in_err-add_term-in-IfElse t c = on_error _ _ c.from_residual-in_err-add_term-in-IfElse.ensures.0

pub add_stmt-add_block-requires-in-IfElse : goal.add_stmt-add_block-requires-in-IfElse
add_stmt-add_block-requires-in-IfElse t c =
    (two_first_block_below t (action_of c.args.stmt.now) (term_of c.in-IfElse.cond.now) (block_of c.in-IfElse.block.now) (block_of c.in-IfElse.other.now) c.decreases (sym c.parts.ensures ∙ ap part_action c.in-IfElse.is), tt)

pub add_stmt-returns-in_err-add_block-in-IfElse : goal.add_stmt-returns-in_err-add_block-in-IfElse
add_stmt-returns-in_err-add_block-in-IfElse t c = on_error _ _ c.from_residual-in_err-add_block-in-IfElse.ensures.0

pub add_stmt-add_block-requires-in-IfElse-2 : goal.add_stmt-add_block-requires-in-IfElse-2
add_stmt-add_block-requires-in-IfElse-2 t c =
    (two_second_block_below t (action_of c.args.stmt.now) (term_of c.in-IfElse.cond.now) (block_of c.in-IfElse.block.now) (block_of c.in-IfElse.other.now) c.decreases (sym c.parts.ensures ∙ ap part_action c.in-IfElse.is), tt)

pub add_stmt-returns-in_ok-add_block-in-IfElse : goal.add_stmt-returns-in_ok-add_block-in-IfElse
add_stmt-returns-in_ok-add_block-in-IfElse t c =
    on_ok_weaker c.add_block-in-IfElse-2.result (λ p. arrays_two (scope_of c.args.scope.now) (action_of c.args.stmt.now) (term_of c.in-IfElse.cond.now) (block_of c.in-IfElse.block.now) (block_of c.in-IfElse.other.now) (looses_of c.args.loose.now.items) (looses_of c.add_term-in-IfElse.new.loose.items) (looses_of c.add_block-in-IfElse.new.loose.items) (looses_of c.add_block-in-IfElse-2.new.loose.items)
    (sym c.parts.ensures ∙ ap part_action c.in-IfElse.is) c.in_ok-add_term-in-IfElse.ensures c.in_ok-add_block-in-IfElse.ensures p) c.add_block-in-IfElse-2.ensures

pub add_stmt-returns-in_err-add_term-in-Store : goal.add_stmt-returns-in_err-add_term-in-Store
add_stmt-returns-in_err-add_term-in-Store t c = on_error _ _ c.from_residual-in_err-add_term-in-Store.ensures.0

pub add_stmt-returns-in_ok-add_term-in-Store : goal.add_stmt-returns-in_ok-add_term-in-Store
add_stmt-returns-in_ok-add_term-in-Store t c =
    on_ok_weaker c.add_array.result (λ p. p
    ∙ ap (with_array (scope_of c.args.scope.now) (name_of c.in-Store.array.now)) c.in_ok-add_term-in-Store.ensures
    ∙ ap (λ (a : Action). action_arrays (scope_of c.args.scope.now) a (looses_of c.args.loose.now.items)) (ap part_action (sym c.in-Store.is) ∙ c.parts.ensures)) c.add_array.ensures

-- ---- the statements of a block, one after another

pub add_block-loop-stmt-init : goal.add_block-loop-stmt-init
add_block-loop-stmt-init t c = record { depth = same_depth (block_depth (block_of c.args.block.now)); loose = refl }

pub add_block-add_stmt-requires : goal.add_block-add_stmt-requires
add_block-add_stmt-requires t c =
    let l = c.loop-stmt in
    let e = next_statement c.args.block.now l.stmt-index c.stmt-item.result c.loop-stmt-test.true c.stmt-item.is in
    (two_statement_below t (block_of c.args.block.now) (block_of (drop l.stmt-index c.args.block.now)) (block_of (drop (l.stmt-index + 1) c.args.block.now)) (action_of c.stmt-item.result) c.decreases l.invariant.depth e, tt)

pub add_block-loop-stmt-preserved : goal.add_block-loop-stmt-preserved
add_block-loop-stmt-preserved t c =
    let l = c.loop-stmt in
    let e = next_statement c.args.block.now l.stmt-index c.stmt-item.result c.loop-stmt-test.true c.stmt-item.is in
    record {
      depth = less_deep (block_of (drop l.stmt-index c.args.block.now)) (block_of (drop (l.stmt-index + 1) c.args.block.now)) (action_of c.stmt-item.result) (block_depth (block_of c.args.block.now)) e l.invariant.depth;
      loose = arrays_on (scope_of c.args.scope.now) (action_of c.stmt-item.result) (block_of (drop (l.stmt-index + 1) c.args.block.now)) (block_of (drop l.stmt-index c.args.block.now)) (looses_of l.loose.items) (looses_of c.add_stmt.new.loose.items) e c.in_ok-add_stmt.ensures ∙ l.invariant.loose;
    }

pub add_block-returns-in_err-add_stmt : goal.add_block-returns-in_err-add_stmt
add_block-returns-in_err-add_stmt t c = on_error _ _ c.from_residual.ensures.0

pub add_block-returns : goal.add_block-returns
add_block-returns t c =
    let l = c.loop-stmt in
    ap (λ (b : Block). block_arrays (scope_of c.args.scope.now) b (looses_of l.loose.items)) (sym (no_statement c.args.block.now l.stmt-index c.loop-stmt-test.false)) ∙ l.invariant.loose
