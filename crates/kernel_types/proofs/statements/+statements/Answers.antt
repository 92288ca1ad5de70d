use Rattle.std.proofs.Common.{◌+◌, refl, sym, ap, ◌∙◌, arith, drop}
use Rattle.std.proofs.lemmas.Result.{IfOk-weaker, IfOk-from_err}
use Rattle.kernel_tree.specs.Plain.{Define, Put, Update, Choose, Leave, Nothing, Else, name_of, term_of, action_of, block_of}
use Rattle.kernel_tree.specs.Limits.{block_depth}
use Rattle.kernel_scope.specs.Scopes.{scope_of, kept}
use Rattle.kernel_scope.proofs.Growth.{kept-block}
use Rattle.kernel_types.proofs.ListWalks.{statement_notes_go_on}
use Rattle.kernel_types.proofs.ChoiceWalks.{one_found, one_types, two_next, two_found, two_types}
use Rattle.kernel_types.proofs.KindWalks.{acted, acted_if, action_room}
use Rattle.kernel_types.proofs.BlockWalks.{four_only_block_below, block_end}
use Rattle.kernel_types.proofs.TypeLists.{then_types}
use Rattle.kernel_types.proofs.OperandWalks.{one_end, past_item, block_next}
use Rattle.kernel_types.proofs.LeastFault.{sooner-none}
use Rattle.kernel_tree.specs.Items.{term_size, block_size}
use Rattle.kernel_tree.proofs.Walks.{next_statement, no_statement, statement_room, after_two_blocks}
use Rattle.kernel_tree.proofs.Measures.{four_statement_below, four_blocks_below}
use Rattle.kernel_types.proofs.statements.+statements.Goals as goal

pub walk_block-loop-stmt-preserved : goal.walk_block-loop-stmt-preserved
walk_block-loop-stmt-preserved t c =
    let l = c.loop-stmt in
    let made = c.in_ok-walk_stmt.ensures in
    let e = next_statement c.args.block.now l.stmt-index c.stmt-item.result c.loop-stmt-test.true c.stmt-item.is in
    let step = statement_notes_go_on (scope_of l.scope) (scope_of c.walk_stmt.new.scope) l.notes c.walk_stmt.new.notes (action_of c.stmt-item.result) (block_of (drop (l.stmt-index + 1) c.args.block.now)) (block_of (drop l.stmt-index c.args.block.now)) e made.scope made.next made.found made.types in
    record {
      depth = omega (arith, ap block_depth e, l.invariant.depth);
      scope = step.scope ∙ l.invariant.scope;
      next = step.next ∙ l.invariant.next;
      found = step.found ∙ l.invariant.found;
      types = λ last k. l.invariant.types last (step.types last k);
    }

pub walk_inner-returns-clause-scope : goal.walk_inner-returns-clause-scope
walk_inner-returns-clause-scope t c =
    let scope = scope_of c.args.scope.now in
    let block = block_of c.args.block.now in
    c.leave.ensures ∙ ap (kept c.visible_count-count.result) c.in_ok-walk_block.ensures.scope ∙ kept-block scope c.visible_count-count.result block c.visible_count-count.ensures

pub walk_if-returns-clause-found : goal.walk_if-returns-clause-found
walk_if-returns-clause-found t c = IfOk-weaker c.walk_inner.result _ _ (λ _ h. one_found (scope_of c.args.scope.now) c.args.notes.now.next c.walk_marked.new.notes.next c.args.notes.now.found c.walk_marked.new.notes.found c.walk_inner.new.notes.found (term_of c.args.cond.now) (block_of c.args.block.now) c.walk_marked.ensures.next c.walk_marked.ensures.found h) c.walk_inner.ensures.found

pub walk_if-returns-clause-types : goal.walk_if-returns-clause-types
walk_if-returns-clause-types t c = IfOk-weaker c.walk_inner.result _ _ (λ _ h. one_types (scope_of c.args.scope.now) (term_of c.args.cond.now) (block_of c.args.block.now) c.walk_marked.ensures.types h) c.walk_inner.ensures.types

pub walk_if_else-returns-clause-scope : goal.walk_if_else-returns-clause-scope
walk_if_else-returns-clause-scope t c = IfOk-weaker c.walk_inner-2.result _ _ (λ _ h. after_two_blocks (scope_of c.args.scope.now) (scope_of c.walk_inner.new.scope) (scope_of c.walk_inner-2.new.scope) (term_of c.args.cond.now) (block_of c.args.block.now) (block_of c.args.other.now) c.in_ok-walk_inner.ensures.scope h) c.walk_inner-2.ensures.scope

pub walk_if_else-returns-clause-next : goal.walk_if_else-returns-clause-next
walk_if_else-returns-clause-next t c = IfOk-weaker c.walk_inner-2.result _ _ (λ _ h. two_next (scope_of c.args.scope.now) (scope_of c.walk_inner.new.scope) c.args.notes.now.next c.walk_marked.new.notes.next c.walk_inner.new.notes.next c.walk_inner-2.new.notes.next (term_of c.args.cond.now) (block_of c.args.block.now) (block_of c.args.other.now) c.in_ok-walk_inner.ensures.scope c.walk_marked.ensures.next c.in_ok-walk_inner.ensures.next h) c.walk_inner-2.ensures.next

pub walk_if_else-returns-clause-found : goal.walk_if_else-returns-clause-found
walk_if_else-returns-clause-found t c = IfOk-weaker c.walk_inner-2.result _ _ (λ _ h. two_found (scope_of c.args.scope.now) (scope_of c.walk_inner.new.scope) c.args.notes.now.next c.walk_marked.new.notes.next c.walk_inner.new.notes.next c.args.notes.now.found c.walk_marked.new.notes.found c.walk_inner.new.notes.found c.walk_inner-2.new.notes.found (term_of c.args.cond.now) (block_of c.args.block.now) (block_of c.args.other.now) c.in_ok-walk_inner.ensures.scope c.walk_marked.ensures.next c.in_ok-walk_inner.ensures.next c.walk_marked.ensures.found c.in_ok-walk_inner.ensures.found h) c.walk_inner-2.ensures.found

pub walk_if_else-returns-clause-types : goal.walk_if_else-returns-clause-types
walk_if_else-returns-clause-types t c = IfOk-weaker c.walk_inner-2.result _ _ (λ _ h. two_types (scope_of c.args.scope.now) (scope_of c.walk_inner.new.scope) (term_of c.args.cond.now) (block_of c.args.block.now) (block_of c.args.other.now) c.in_ok-walk_inner.ensures.scope c.walk_marked.ensures.types c.in_ok-walk_inner.ensures.types h) c.walk_inner-2.ensures.types

pub walk_inner-returns-clause-types : goal.walk_inner-returns-clause-types
walk_inner-returns-clause-types t c = then_types c.in_ok-walk_block.ensures.types c.end.ensures.types

pub walk_if-walk_marked-requires : goal.walk_if-walk_marked-requires
walk_if-walk_marked-requires t c = omega arith

pub walk_if-walk_inner-requires : goal.walk_if-walk_inner-requires
walk_if-walk_inner-requires t c = (omega arith, omega arith)

pub walk_if_else-walk_marked-requires : goal.walk_if_else-walk_marked-requires
walk_if_else-walk_marked-requires t c = omega arith

pub walk_if_else-walk_inner-requires : goal.walk_if_else-walk_inner-requires
walk_if_else-walk_inner-requires t c = (omega arith, omega arith)

pub walk_inner-walk_block-requires : goal.walk_inner-walk_block-requires
walk_inner-walk_block-requires t c = (omega arith, omega arith)

-- ---- a statement by its kind

pub walk_stmt-walk_let-requires : goal.walk_stmt-walk_let-requires
walk_stmt-walk_let-requires t c =
    action_room (scope_of c.args.scope.now).index c.args.notes.now.next (action_of c.args.stmt.now) (Define (name_of c.in-Let.name.now) c.in-Let.ty (term_of c.in-Let.value.now)) (sym c.in-Let.ensures) c.requires

pub walk_stmt-returns-in-Let : goal.walk_stmt-returns-in-Let
walk_stmt-returns-in-Let t c =
    let made = acted_if c.walk_let.result (scope_of c.args.scope.now) (scope_of c.walk_let.new.scope) c.args.notes.now c.walk_let.new.notes (Define (name_of c.in-Let.name.now) c.in-Let.ty (term_of c.in-Let.value.now)) (action_of c.args.stmt.now) (sym c.in-Let.ensures) (record { scope = c.walk_let.ensures.scope; next = c.walk_let.ensures.next; found = c.walk_let.ensures.found; types = c.walk_let.ensures.types }) in
    record { scope = made.scope; next = made.next; found = made.found; types = made.types }

pub walk_stmt-walk_store-requires : goal.walk_stmt-walk_store-requires
walk_stmt-walk_store-requires t c =
    action_room (scope_of c.args.scope.now).index c.args.notes.now.next (action_of c.args.stmt.now) (Put (name_of c.in-Store.array.now) (term_of c.in-Store.index.now) (term_of c.in-Store.value.now)) (sym c.in-Store.ensures) c.requires

pub walk_stmt-returns-in-Store : goal.walk_stmt-returns-in-Store
walk_stmt-returns-in-Store t c =
    let made = acted (scope_of c.args.scope.now) (scope_of c.args.scope.now) c.args.notes.now c.walk_store.new.notes (Put (name_of c.in-Store.array.now) (term_of c.in-Store.index.now) (term_of c.in-Store.value.now)) (action_of c.args.stmt.now) (sym c.in-Store.ensures) (record { scope = refl; next = c.walk_store.ensures.next; found = c.walk_store.ensures.found; types = c.walk_store.ensures.types }) in
    record { scope = made.scope; next = made.next; found = made.found; types = made.types }

pub walk_stmt-walk_update-requires : goal.walk_stmt-walk_update-requires
walk_stmt-walk_update-requires t c =
    action_room (scope_of c.args.scope.now).index c.args.notes.now.next (action_of c.args.stmt.now) (Update (name_of c.in-Update.name.now) c.in-Update.op (term_of c.in-Update.value.now)) (sym c.in-Update.ensures) c.requires

pub walk_stmt-returns-in-Update : goal.walk_stmt-returns-in-Update
walk_stmt-returns-in-Update t c =
    let made = acted (scope_of c.args.scope.now) (scope_of c.args.scope.now) c.args.notes.now c.walk_update.new.notes (Update (name_of c.in-Update.name.now) c.in-Update.op (term_of c.in-Update.value.now)) (action_of c.args.stmt.now) (sym c.in-Update.ensures) (record { scope = refl; next = c.walk_update.ensures.next; found = c.walk_update.ensures.found; types = c.walk_update.ensures.types }) in
    record { scope = made.scope; next = made.next; found = made.found; types = made.types }

pub walk_stmt-walk_if-requires : goal.walk_stmt-walk_if-requires
walk_stmt-walk_if-requires t c =
    (four_only_block_below t (action_of c.args.stmt.now) (term_of c.in-If.cond.now) (block_of c.in-If.block.now) c.decreases (sym c.in-If.ensures), action_room (scope_of c.args.scope.now).index c.args.notes.now.next (action_of c.args.stmt.now) (Choose (term_of c.in-If.cond.now) (block_of c.in-If.block.now) Nothing) (sym c.in-If.ensures) c.requires)

pub walk_stmt-returns-in-If : goal.walk_stmt-returns-in-If
walk_stmt-returns-in-If t c =
    let made = acted_if c.walk_if.result (scope_of c.args.scope.now) (scope_of c.walk_if.new.scope) c.args.notes.now c.walk_if.new.notes (Choose (term_of c.in-If.cond.now) (block_of c.in-If.block.now) Nothing) (action_of c.args.stmt.now) (sym c.in-If.ensures) (record { scope = c.walk_if.ensures.scope; next = c.walk_if.ensures.next; found = c.walk_if.ensures.found; types = c.walk_if.ensures.types }) in
    record { scope = made.scope; next = made.next; found = made.found; types = made.types }

pub walk_stmt-walk_if_else-requires : goal.walk_stmt-walk_if_else-requires
walk_stmt-walk_if_else-requires t c =
    (four_blocks_below t (action_of c.args.stmt.now) (term_of c.in-IfElse.cond.now) (block_of c.in-IfElse.block.now) (block_of c.in-IfElse.other.now) c.decreases (sym c.in-IfElse.ensures), action_room (scope_of c.args.scope.now).index c.args.notes.now.next (action_of c.args.stmt.now) (Choose (term_of c.in-IfElse.cond.now) (block_of c.in-IfElse.block.now) (Else (block_of c.in-IfElse.other.now))) (sym c.in-IfElse.ensures) c.requires)

pub walk_stmt-returns-in-IfElse : goal.walk_stmt-returns-in-IfElse
walk_stmt-returns-in-IfElse t c =
    let made = acted_if c.walk_if_else.result (scope_of c.args.scope.now) (scope_of c.walk_if_else.new.scope) c.args.notes.now c.walk_if_else.new.notes (Choose (term_of c.in-IfElse.cond.now) (block_of c.in-IfElse.block.now) (Else (block_of c.in-IfElse.other.now))) (action_of c.args.stmt.now) (sym c.in-IfElse.ensures) (record { scope = c.walk_if_else.ensures.scope; next = c.walk_if_else.ensures.next; found = c.walk_if_else.ensures.found; types = c.walk_if_else.ensures.types }) in
    record { scope = made.scope; next = made.next; found = made.found; types = made.types }

pub walk_stmt-walk_marked-requires : goal.walk_stmt-walk_marked-requires
walk_stmt-walk_marked-requires t c =
    action_room (scope_of c.args.scope.now).index c.args.notes.now.next (action_of c.args.stmt.now) (Leave (term_of c.in-Break.cond.now)) (sym c.in-Break.ensures) c.requires

pub walk_stmt-returns-in-Break : goal.walk_stmt-returns-in-Break
walk_stmt-returns-in-Break t c =
    let made = acted (scope_of c.args.scope.now) (scope_of c.args.scope.now) c.args.notes.now c.walk_marked.new.notes (Leave (term_of c.in-Break.cond.now)) (action_of c.args.stmt.now) (sym c.in-Break.ensures) (record { scope = refl; next = c.walk_marked.ensures.next; found = c.walk_marked.ensures.found; types = c.walk_marked.ensures.types }) in
    record { scope = made.scope; next = made.next; found = made.found; types = made.types }

-- ---- a call that failed owes nothing

pub walk_if_else-returns-in_err-walk_inner : goal.walk_if_else-returns-in_err-walk_inner
walk_if_else-returns-in_err-walk_inner t c =
    let failed = c.from_residual.ensures.0 in
    record { scope = IfOk-from_err _ _ failed; next = IfOk-from_err _ _ failed; found = IfOk-from_err _ _ failed; types = IfOk-from_err _ _ failed }

pub walk_inner-returns-in_err-walk_block : goal.walk_inner-returns-in_err-walk_block
walk_inner-returns-in_err-walk_block t c =
    let failed = c.from_residual.ensures.0 in
    record { scope = IfOk-from_err _ _ failed; next = IfOk-from_err _ _ failed; found = IfOk-from_err _ _ failed; types = IfOk-from_err _ _ failed }

pub walk_block-returns-in_err-walk_stmt : goal.walk_block-returns-in_err-walk_stmt
walk_block-returns-in_err-walk_stmt t c =
    let failed = c.from_residual.ensures.0 in
    record { scope = IfOk-from_err _ _ failed; next = IfOk-from_err _ _ failed; found = IfOk-from_err _ _ failed; types = IfOk-from_err _ _ failed }

-- ---- the statements of a block, one after another

pub walk_block-loop-stmt-init : goal.walk_block-loop-stmt-init
walk_block-loop-stmt-init t c = record { depth = omega arith; scope = refl; next = refl; found = refl; types = λ last k. k }

pub walk_block-walk_stmt-requires : goal.walk_block-walk_stmt-requires
walk_block-walk_stmt-requires t c =
    let l = c.loop-stmt in
    let x = block_of (drop l.stmt-index c.args.block.now) in
    let more = block_of (drop (l.stmt-index + 1) c.args.block.now) in
    let a = action_of c.stmt-item.result in
    let e = next_statement c.args.block.now l.stmt-index c.stmt-item.result c.loop-stmt-test.true c.stmt-item.is in
    (four_statement_below t (block_of c.args.block.now) x more a c.decreases l.invariant.depth e, statement_room (scope_of l.scope).index (scope_of c.args.scope.now).index (block_of c.args.block.now) x more a c.args.notes.now.next l.notes.next e l.invariant.next c.requires)

pub walk_block-loop-stmt-smaller : goal.walk_block-loop-stmt-smaller
walk_block-loop-stmt-smaller t c = omega arith

pub walk_block-returns : goal.walk_block-returns
walk_block-returns t c =
    let l = c.loop-stmt in
    let x = block_of (drop l.stmt-index c.args.block.now) in
    let made = block_end (scope_of c.args.scope.now) (scope_of l.scope) c.args.notes.now l.notes x (block_of c.args.block.now) (no_statement c.args.block.now l.stmt-index c.loop-stmt-test.false) l.invariant.scope l.invariant.next l.invariant.found l.invariant.types in
    record { scope = made.scope; next = made.next; found = made.found; types = made.types }

pub walk_block-offset_bounds-block-stmt-index : goal.walk_block-offset_bounds-block-stmt-index
walk_block-offset_bounds-block-stmt-index t c = omega arith

-- ---- an `if` with one block, and a block whose names are visible no more

pub walk_if-returns-clause-scope : goal.walk_if-returns-clause-scope
walk_if-returns-clause-scope t c = c.walk_inner.ensures.scope

pub walk_if-returns-clause-next : goal.walk_if-returns-clause-next
walk_if-returns-clause-next t c = IfOk-weaker c.walk_inner.result _ _ (λ _ h. block_next c.args.notes.now.next (term_size (scope_of c.args.scope.now).index (term_of c.args.cond.now)) (block_size (scope_of c.args.scope.now).index (block_of c.args.block.now)) c.walk_marked.new.notes.next c.walk_inner.new.notes.next c.walk_marked.ensures.next h) c.walk_inner.ensures.next

pub walk_inner-end-requires : goal.walk_inner-end-requires
walk_inner-end-requires t c = one_end c.args.notes.now.next (block_size (scope_of c.args.scope.now).index (block_of c.args.block.now)) c.walk_block.new.notes.next c.requires c.in_ok-walk_block.ensures.next

pub walk_inner-returns-clause-next : goal.walk_inner-returns-clause-next
walk_inner-returns-clause-next t c = past_item c.args.notes.now.next c.walk_block.new.notes.next c.end.new.notes.next (block_size (scope_of c.args.scope.now).index (block_of c.args.block.now)) c.in_ok-walk_block.ensures.next c.end.ensures.next

pub walk_inner-returns-clause-found : goal.walk_inner-returns-clause-found
walk_inner-returns-clause-found t c = c.end.ensures.found ∙ sooner-none c.walk_block.new.notes.found ∙ c.in_ok-walk_block.ensures.found
