use Rattle.std.proofs.Common.{◌+◌, drop, refl, sym, ap, ◌∙◌}
use Rattle.std.proofs.lemmas.Result.{on_ok_weaker}
use Rattle.kernel_tree.specs.Plain.{Action, Block, name_of, term_of, action_of, block_of}
use Rattle.kernel_tree.specs.Items.{stream_offset}
use Rattle.kernel_tree.specs.Parts.{part_action}
use Rattle.kernel_tree.specs.Limits.{block_depth}
use Rattle.kernel_scope.specs.Scopes.{scope_of}
use Rattle.scalar_words.specs.View.{constants_of, homes_of}
use Rattle.value_code.specs.HeldNumbers.{hold_element}
use Rattle.loop_code.specs.LoopNumbers.{hold_action, hold_block}
use Rattle.guest_types.proofs.Errors.{on_error}
use Rattle.kernel_tree.proofs.Walks.{next_statement, no_statement}
use Rattle.loop_code.proofs.StatementWalks.{hold_one, hold_two, hold_on}
use Rattle.loop_code.proofs.WalkParts.{two_statement_below, less_deep, same_depth, two_only_block_below, two_first_block_below, two_second_block_below}
use Rattle.loop_code.proofs.numbers.+statements.Goals as goal

-- ---- a statement by its kind

pub hold_stmt-returns-in_err-hold_term-in-If : goal.hold_stmt-returns-in_err-hold_term-in-If
hold_stmt-returns-in_err-hold_term-in-If t c = on_error _ _ c.from_residual.ensures.0

pub hold_stmt-hold_block-requires : goal.hold_stmt-hold_block-requires
hold_stmt-hold_block-requires t c =
    (two_only_block_below t (action_of c.args.stmt.now) (term_of c.in-If.cond.now) (block_of c.in-If.block.now) c.decreases (sym c.parts.ensures ∙ ap part_action c.in-If.is), c.requires)

pub hold_stmt-returns-in_ok-hold_term-in-If : goal.hold_stmt-returns-in_ok-hold_term-in-If
hold_stmt-returns-in_ok-hold_term-in-If t c =
    on_ok_weaker c.hold_block.result (λ p. hold_one c.args.params (homes_of c.args.homes.now) (scope_of c.args.scope.now) (action_of c.args.stmt.now) (term_of c.in-If.cond.now) (block_of c.in-If.block.now) (constants_of c.args.constants.now.items) (constants_of c.hold_term.new.constants.items) (constants_of c.hold_block.new.constants.items)
    (sym c.parts.ensures ∙ ap part_action c.in-If.is) c.in_ok-hold_term-in-If.ensures p) c.hold_block.ensures

pub hold_stmt-returns-in_err-hold_term-in-IfElse : goal.hold_stmt-returns-in_err-hold_term-in-IfElse
hold_stmt-returns-in_err-hold_term-in-IfElse t c = on_error _ _ c.from_residual-in_err-hold_term-in-IfElse.ensures.0

pub hold_stmt-hold_block-requires-in-IfElse : goal.hold_stmt-hold_block-requires-in-IfElse
hold_stmt-hold_block-requires-in-IfElse t c =
    (two_first_block_below t (action_of c.args.stmt.now) (term_of c.in-IfElse.cond.now) (block_of c.in-IfElse.block.now) (block_of c.in-IfElse.other.now) c.decreases (sym c.parts.ensures ∙ ap part_action c.in-IfElse.is), c.requires)

pub hold_stmt-returns-in_err-hold_block-in-IfElse : goal.hold_stmt-returns-in_err-hold_block-in-IfElse
hold_stmt-returns-in_err-hold_block-in-IfElse t c = on_error _ _ c.from_residual-in_err-hold_block-in-IfElse.ensures.0

pub hold_stmt-hold_block-requires-in-IfElse-2 : goal.hold_stmt-hold_block-requires-in-IfElse-2
hold_stmt-hold_block-requires-in-IfElse-2 t c =
    (two_second_block_below t (action_of c.args.stmt.now) (term_of c.in-IfElse.cond.now) (block_of c.in-IfElse.block.now) (block_of c.in-IfElse.other.now) c.decreases (sym c.parts.ensures ∙ ap part_action c.in-IfElse.is), c.requires)

pub hold_stmt-returns-in_ok-hold_block-in-IfElse : goal.hold_stmt-returns-in_ok-hold_block-in-IfElse
hold_stmt-returns-in_ok-hold_block-in-IfElse t c =
    on_ok_weaker c.hold_block-in-IfElse-2.result (λ p. hold_two c.args.params (homes_of c.args.homes.now) (scope_of c.args.scope.now) (action_of c.args.stmt.now) (term_of c.in-IfElse.cond.now) (block_of c.in-IfElse.block.now) (block_of c.in-IfElse.other.now) (constants_of c.args.constants.now.items) (constants_of c.hold_term-in-IfElse.new.constants.items) (constants_of c.hold_block-in-IfElse.new.constants.items) (constants_of c.hold_block-in-IfElse-2.new.constants.items)
    (sym c.parts.ensures ∙ ap part_action c.in-IfElse.is) c.in_ok-hold_term-in-IfElse.ensures c.in_ok-hold_block-in-IfElse.ensures p) c.hold_block-in-IfElse-2.ensures

pub hold_stmt-returns-in_err-hold_term-in-Store : goal.hold_stmt-returns-in_err-hold_term-in-Store
hold_stmt-returns-in_err-hold_term-in-Store t c = on_error _ _ c.from_residual-in_err-hold_term-in-Store.ensures.0

pub hold_stmt-returns-in_ok-hold_term-in-Store : goal.hold_stmt-returns-in_ok-hold_term-in-Store
hold_stmt-returns-in_ok-hold_term-in-Store t c =
    on_ok_weaker c.hold_element.result (λ p. p
    ∙ ap (hold_element c.args.params (homes_of c.args.homes.now) (scope_of c.args.scope.now) (name_of c.in-Store.array.now) (stream_offset (scope_of c.args.scope.now).index (term_of c.in-Store.index.now))) c.in_ok-hold_term-in-Store.ensures
    ∙ ap (λ (a : Action). hold_action c.args.params (homes_of c.args.homes.now) (scope_of c.args.scope.now) a (constants_of c.args.constants.now.items)) (ap part_action (sym c.in-Store.is) ∙ c.parts.ensures)) c.hold_element.ensures

pub hold_stmt-returns-in-Update : goal.hold_stmt-returns-in-Update
hold_stmt-returns-in-Update t c =
    on_ok_weaker c.hold_update.result (λ p. p ∙ ap (λ (a : Action). hold_action c.args.params (homes_of c.args.homes.now) (scope_of c.args.scope.now) a (constants_of c.args.constants.now.items)) (ap part_action (sym c.in-Update.is) ∙ c.parts.ensures)) c.hold_update.ensures

pub hold_stmt-hold_term-requires : goal.hold_stmt-hold_term-requires
hold_stmt-hold_term-requires t c = c.requires

pub hold_stmt-hold_term-requires-in-IfElse : goal.hold_stmt-hold_term-requires-in-IfElse
hold_stmt-hold_term-requires-in-IfElse t c = c.requires

pub hold_stmt-hold_term-requires-in-Store : goal.hold_stmt-hold_term-requires-in-Store
hold_stmt-hold_term-requires-in-Store t c = c.requires

pub hold_stmt-hold_element-requires : goal.hold_stmt-hold_element-requires
hold_stmt-hold_element-requires t c = c.requires

pub hold_stmt-hold_update-requires : goal.hold_stmt-hold_update-requires
hold_stmt-hold_update-requires t c = c.requires

pub hold_stmt-hold_term-requires-in-Let : goal.hold_stmt-hold_term-requires-in-Let
hold_stmt-hold_term-requires-in-Let t c = c.requires

-- ---- the statements of a block, one after another

pub hold_block-loop-stmt-init : goal.hold_block-loop-stmt-init
hold_block-loop-stmt-init t c = record { depth = same_depth (block_depth (block_of c.args.block.now)); constants = refl }

pub hold_block-hold_stmt-requires : goal.hold_block-hold_stmt-requires
hold_block-hold_stmt-requires t c =
    let l = c.loop-stmt in
    let e = next_statement c.args.block.now l.stmt-index c.stmt-item.result c.loop-stmt-test.true c.stmt-item.is in
    (two_statement_below t (block_of c.args.block.now) (block_of (drop l.stmt-index c.args.block.now)) (block_of (drop (l.stmt-index + 1) c.args.block.now)) (action_of c.stmt-item.result) c.decreases l.invariant.depth e, c.requires)

pub hold_block-loop-stmt-preserved : goal.hold_block-loop-stmt-preserved
hold_block-loop-stmt-preserved t c =
    let l = c.loop-stmt in
    let e = next_statement c.args.block.now l.stmt-index c.stmt-item.result c.loop-stmt-test.true c.stmt-item.is in
    record {
      depth = less_deep (block_of (drop l.stmt-index c.args.block.now)) (block_of (drop (l.stmt-index + 1) c.args.block.now)) (action_of c.stmt-item.result) (block_depth (block_of c.args.block.now)) e l.invariant.depth;
      constants = hold_on c.args.params (homes_of c.args.homes.now) (scope_of c.args.scope.now) (action_of c.stmt-item.result) (block_of (drop (l.stmt-index + 1) c.args.block.now)) (block_of (drop l.stmt-index c.args.block.now)) (constants_of l.constants.items) (constants_of c.hold_stmt.new.constants.items) e c.in_ok-hold_stmt.ensures ∙ l.invariant.constants;
    }

pub hold_block-returns-in_err-hold_stmt : goal.hold_block-returns-in_err-hold_stmt
hold_block-returns-in_err-hold_stmt t c = on_error _ _ c.from_residual.ensures.0

pub hold_block-returns : goal.hold_block-returns
hold_block-returns t c =
    let l = c.loop-stmt in
    ap (λ (b : Block). hold_block c.args.params (homes_of c.args.homes.now) (scope_of c.args.scope.now) b (constants_of l.constants.items)) (sym (no_statement c.args.block.now l.stmt-index c.loop-stmt-test.false)) ∙ l.invariant.constants
