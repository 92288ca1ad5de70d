use Rattle.std.proofs.Common.{◌≡◌, ◌+◌, ◌<◌, ◌^◌, ◌++◌, List, drop, refl, sym, subst, ap, ◌∙◌, arith}
use Rattle.std.proofs.lemmas.Result.{on_ok_weaker, IfOk-equal}
use Rattle.kernel_tree.specs.Plain.{Action, Block, Choose, Leave, Nothing, Else, term_of, action_of, block_of}
use Rattle.kernel_tree.specs.Kinds.{ActionKinds, BlockKinds}
use Rattle.kernel_tree.specs.Limits.{block_depth}
use Rattle.kernel_tree.specs.Items.{term_size, action_size, block_size}
use Rattle.kernel_tree.specs.Typing.{Scope, left, after_action, after_block}
use Rattle.kernel_scope.specs.Scopes.{scope_of, kept}
use Rattle.kernel_scope.proofs.Growth.{kept-block}
use Rattle.label_fix.specs.DraftRun.{DraftEntry}
use Rattle.scalar_words.specs.Layout.{Layout}
use Rattle.scalar_words.specs.View.{homes_of}
use Rattle.loop_code.specs.Statements.{after_homes, block_homes, action_code, block_code}
use Rattle.loop_code.proofs.Emission.{homes_back}
use Rattle.loop_code.proofs.StatementWalks.{emits_on}
use Rattle.guest_types.proofs.Errors.{on_error}
use Rattle.kernel_tree.proofs.Calls.{on_any}
use Rattle.kernel_tree.proofs.Walks.{next_statement, no_statement, statement_room}
use Rattle.scalar_values.proofs.TermItems.{given_past_two_parts, given_past_label}
use Rattle.loop_code.proofs.WalkParts.{less_deep}
use Rattle.scalar_emit.proofs.StatementCode.{emits_as, item_after_size, if_items, if_else_items, if_is, if_count, if_else_is, if_else_count, first_given, second_given, first_room, second_room, five_statement_below, five_only_block_below, if_else_below, five_first_block_below, five_second_block_below, five_3_to_2, five_inner_below, truth_room, branch_room, block_room, leave_room, left_room, label_given, still_given, exit_again, items_end, labels_end}
use Rattle.scalar_emit.proofs.statements.+statements.Goals as goal

pub emit_block-loop-stmt-preserved : goal.emit_block-loop-stmt-preserved
emit_block-loop-stmt-preserved t c =
    let l = c.loop-stmt in
    let made = c.in_ok-emit_stmt.ensures in
    let e = next_statement c.args.block.now l.stmt-index c.stmt-item.result c.loop-stmt-test.true c.stmt-item.is in
    let step = emits_on l.site.layout (scope_of l.site.scope) (scope_of c.emit_stmt.new.site.scope) (homes_of l.site.homes.items) (homes_of c.emit_stmt.new.site.homes.items) c.args.exit l.item c.emit_stmt.new.item l.draft.labels c.emit_stmt.new.draft.labels l.draft.entries c.emit_stmt.new.draft.entries (action_of c.stmt-item.result) (block_of (drop (l.stmt-index + 1) c.args.block.now)) (block_of (drop l.stmt-index c.args.block.now)) e made.scope made.homes made.item made.emits.labels made.emits.code in
    record {
      exit = still_given c.args.exit l.draft.labels c.emit_stmt.new.draft.labels _ l.invariant.exit made.emits.labels;
      depth = less_deep (block_of (drop l.stmt-index c.args.block.now)) (block_of (drop (l.stmt-index + 1) c.args.block.now)) (action_of c.stmt-item.result) _ e l.invariant.depth;
      kinds = (subst BlockKinds e l.invariant.kinds).1;
      layout = made.layout ∙ l.invariant.layout;
      scope = step.scope ∙ l.invariant.scope;
      homes = ap (λ (L : Layout). block_homes L (homes_of c.emit_stmt.new.site.homes.items) (scope_of c.emit_stmt.new.site.scope) c.emit_stmt.new.item (block_of (drop (l.stmt-index + 1) c.args.block.now))) made.layout ∙ step.homes ∙ l.invariant.homes;
      item = step.item ∙ l.invariant.item;
      labels = step.labels ∙ l.invariant.labels;
      code = λ rest. ap (λ (L : Layout). c.emit_stmt.new.draft.entries ++ block_code L (homes_of c.emit_stmt.new.site.homes.items) (scope_of c.emit_stmt.new.site.scope) c.args.exit c.emit_stmt.new.item c.emit_stmt.new.draft.labels (block_of (drop (l.stmt-index + 1) c.args.block.now)) rest) made.layout ∙ step.code rest ∙ l.invariant.code rest;
    }

pub emit_if_else-land-requires : goal.emit_if_else-land-requires
emit_if_else-land-requires t c = record {
  given = first_given c.in_ok-other.other c.args.draft.now.labels c.label.new.self.labels c.emit_jump.new.draft.labels c.emit_inner.new.draft.labels c.branch_ahead.new.draft.labels _ _ c.in_ok-other.ensures.next c.in_ok-other.ensures.count c.in_ok-emit_jump.ensures.emits.labels c.in_ok-emit_inner.ensures.emits.labels c.in_ok-end.ensures.emits.labels;
  room = first_room (scope_of c.args.site.now.scope).index (term_of c.args.cond.now) (block_of c.args.block.now) (Else (block_of c.args.second.now)) c.args.item.now c.emit_jump.new.item c.emit_inner.new.item c.requires.fits c.in_ok-emit_jump.ensures.item c.in_ok-emit_inner.ensures.item;
}

pub emit_if_else-land-requires-2 : goal.emit_if_else-land-requires-2
emit_if_else-land-requires-2 t c = record {
  given = second_given c.in_ok-end.end c.emit_inner.new.draft.labels c.branch_ahead.new.draft.labels c.land.new.draft.labels c.emit_inner-2.new.draft.labels _ c.in_ok-end.ensures.label c.in_ok-end.ensures.emits.labels c.in_ok-land.ensures.emits.labels c.in_ok-emit_inner-2.ensures.emits.labels;
  room = subst (λ n. n < 2 ^ 32) (sym c.in_ok-emit_inner-2.ensures.item) (second_room (scope_of c.args.site.now.scope) (scope_of c.emit_inner.new.site.scope) (term_of c.args.cond.now) (block_of c.args.block.now) (block_of c.args.second.now) c.args.item.now c.emit_jump.new.item c.emit_inner.new.item c.land.new.item c.requires.fits c.in_ok-emit_jump.ensures.item c.in_ok-emit_inner.ensures.item c.in_ok-land.ensures.item c.in_ok-emit_inner.ensures.scope);
}

-- ---- where a call fails

pub emit_block-returns-in_err-emit_stmt : goal.emit_block-returns-in_err-emit_stmt
emit_block-returns-in_err-emit_stmt t c =
    let failed = c.from_residual.ensures.0 in
    record { layout = on_error _ _ failed; scope = on_error _ _ failed; homes = on_error _ _ failed; item = on_error _ _ failed; emits = on_error _ _ failed }

pub emit_if-returns-in_err-other : goal.emit_if-returns-in_err-other
emit_if-returns-in_err-other t c =
    let failed = c.from_residual.ensures.0 in
    record { layout = on_error _ _ failed; scope = on_error _ _ failed; homes = on_error _ _ failed; item = on_error _ _ failed; emits = on_error _ _ failed }

pub emit_if-returns-in_err-emit_jump : goal.emit_if-returns-in_err-emit_jump
emit_if-returns-in_err-emit_jump t c =
    let failed = c.from_residual-in_err-emit_jump.ensures.0 in
    record { layout = on_error _ _ failed; scope = on_error _ _ failed; homes = on_error _ _ failed; item = on_error _ _ failed; emits = on_error _ _ failed }

pub emit_if-returns-in_err-emit_inner : goal.emit_if-returns-in_err-emit_inner
emit_if-returns-in_err-emit_inner t c =
    let failed = c.from_residual-in_err-emit_inner.ensures.0 in
    record { layout = on_error _ _ failed; scope = on_error _ _ failed; homes = on_error _ _ failed; item = on_error _ _ failed; emits = on_error _ _ failed }

pub emit_if_else-returns-in_err-other : goal.emit_if_else-returns-in_err-other
emit_if_else-returns-in_err-other t c =
    let failed = c.from_residual.ensures.0 in
    record { layout = on_error _ _ failed; scope = on_error _ _ failed; homes = on_error _ _ failed; item = on_error _ _ failed; emits = on_error _ _ failed }

pub emit_if_else-returns-in_err-emit_jump : goal.emit_if_else-returns-in_err-emit_jump
emit_if_else-returns-in_err-emit_jump t c =
    let failed = c.from_residual-in_err-emit_jump.ensures.0 in
    record { layout = on_error _ _ failed; scope = on_error _ _ failed; homes = on_error _ _ failed; item = on_error _ _ failed; emits = on_error _ _ failed }

pub emit_if_else-returns-in_err-emit_inner : goal.emit_if_else-returns-in_err-emit_inner
emit_if_else-returns-in_err-emit_inner t c =
    let failed = c.from_residual-in_err-emit_inner.ensures.0 in
    record { layout = on_error _ _ failed; scope = on_error _ _ failed; homes = on_error _ _ failed; item = on_error _ _ failed; emits = on_error _ _ failed }

pub emit_if_else-returns-in_err-end : goal.emit_if_else-returns-in_err-end
emit_if_else-returns-in_err-end t c =
    let failed = c.from_residual-in_err-end.ensures.0 in
    record { layout = on_error _ _ failed; scope = on_error _ _ failed; homes = on_error _ _ failed; item = on_error _ _ failed; emits = on_error _ _ failed }

pub emit_if_else-returns-in_err-land : goal.emit_if_else-returns-in_err-land
emit_if_else-returns-in_err-land t c =
    let failed = c.from_residual-in_err-land.ensures.0 in
    record { layout = on_error _ _ failed; scope = on_error _ _ failed; homes = on_error _ _ failed; item = on_error _ _ failed; emits = on_error _ _ failed }

pub emit_if_else-returns-in_err-emit_inner-2 : goal.emit_if_else-returns-in_err-emit_inner-2
emit_if_else-returns-in_err-emit_inner-2 t c =
    let failed = c.from_residual-in_err-emit_inner-2.ensures.0 in
    record { layout = on_error _ _ failed; scope = on_error _ _ failed; homes = on_error _ _ failed; item = on_error _ _ failed; emits = on_error _ _ failed }

pub emit_inner-returns-in_err-emit_block : goal.emit_inner-returns-in_err-emit_block
emit_inner-returns-in_err-emit_block t c =
    let failed = c.from_residual.ensures.0 in
    record { layout = on_error _ _ failed; scope = on_error _ _ failed; homes = on_error _ _ failed; item = on_error _ _ failed; emits = on_error _ _ failed }

pub emit_stmt-returns-in_err-emit_jump-in-Break : goal.emit_stmt-returns-in_err-emit_jump-in-Break
emit_stmt-returns-in_err-emit_jump-in-Break t c =
    let failed = c.from_residual.ensures.0 in
    record { layout = on_error _ _ failed; scope = on_error _ _ failed; homes = on_error _ _ failed; item = on_error _ _ failed; emits = on_error _ _ failed }

-- ---- what a statement leaves

pub emit_stmt-returns-in-If : goal.emit_stmt-returns-in-If
emit_stmt-returns-in-If t c = record {
  emits =
      on_ok_weaker c.emit_if.result (λ p. emits_as c.args.site.now.layout (homes_of c.args.site.now.homes.items) (homes_of c.args.site.now.homes.items) (scope_of c.args.site.now.scope) c.args.exit c.args.item.now c.args.draft.now c.emit_if.new.draft _ _ refl c.in-If.ensures p) c.emit_if.ensures.emits;
  layout = c.emit_if.ensures.layout;
  scope = IfOk-equal c.emit_if.result _ _ _ c.emit_if.ensures.scope (ap (after_action (scope_of c.args.site.now.scope)) c.in-If.ensures);
  homes = IfOk-equal c.emit_if.result _ _ _ c.emit_if.ensures.homes (ap (after_homes c.args.site.now.layout (homes_of c.args.site.now.homes.items) (scope_of c.args.site.now.scope) c.args.item.now) c.in-If.ensures);
  item = IfOk-equal c.emit_if.result _ _ _ c.emit_if.ensures.item (ap (λ (a : Action). c.args.item.now + action_size (scope_of c.args.site.now.scope).index a) c.in-If.ensures);
}

pub emit_stmt-returns-in-IfElse : goal.emit_stmt-returns-in-IfElse
emit_stmt-returns-in-IfElse t c = record {
  emits =
      on_ok_weaker c.emit_if_else.result (λ p. emits_as c.args.site.now.layout (homes_of c.args.site.now.homes.items) (homes_of c.args.site.now.homes.items) (scope_of c.args.site.now.scope) c.args.exit c.args.item.now c.args.draft.now c.emit_if_else.new.draft _ _ refl c.in-IfElse.ensures p) c.emit_if_else.ensures.emits;
  layout = c.emit_if_else.ensures.layout;
  scope = IfOk-equal c.emit_if_else.result _ _ _ c.emit_if_else.ensures.scope (ap (after_action (scope_of c.args.site.now.scope)) c.in-IfElse.ensures);
  homes = IfOk-equal c.emit_if_else.result _ _ _ c.emit_if_else.ensures.homes (ap (after_homes c.args.site.now.layout (homes_of c.args.site.now.homes.items) (scope_of c.args.site.now.scope) c.args.item.now) c.in-IfElse.ensures);
  item = IfOk-equal c.emit_if_else.result _ _ _ c.emit_if_else.ensures.item (ap (λ (a : Action). c.args.item.now + action_size (scope_of c.args.site.now.scope).index a) c.in-IfElse.ensures);
}

pub emit_stmt-returns-in-Let : goal.emit_stmt-returns-in-Let
emit_stmt-returns-in-Let t c = record {
  emits =
      on_ok_weaker c.emit_let.result (λ p. emits_as c.args.site.now.layout (homes_of c.args.site.now.homes.items) (homes_of c.args.site.now.homes.items) (scope_of c.args.site.now.scope) c.args.exit c.args.item.now c.args.draft.now c.emit_let.new.draft _ _ refl c.in-Let.ensures p) c.emit_let.ensures.emits;
  layout = c.emit_let.ensures.layout;
  scope = IfOk-equal c.emit_let.result _ _ _ c.emit_let.ensures.scope (ap (after_action (scope_of c.args.site.now.scope)) c.in-Let.ensures);
  homes = IfOk-equal c.emit_let.result _ _ _ c.emit_let.ensures.homes (ap (after_homes c.args.site.now.layout (homes_of c.args.site.now.homes.items) (scope_of c.args.site.now.scope) c.args.item.now) c.in-Let.ensures);
  item = IfOk-equal c.emit_let.result _ _ _ c.emit_let.ensures.item (ap (λ (a : Action). c.args.item.now + action_size (scope_of c.args.site.now.scope).index a) c.in-Let.ensures);
}

pub emit_stmt-returns-in-Store : goal.emit_stmt-returns-in-Store
emit_stmt-returns-in-Store t c = record {
  emits =
      on_ok_weaker c.emit_store.result (λ p. emits_as c.args.site.now.layout (homes_of c.args.site.now.homes.items) (homes_of c.args.site.now.homes.items) (scope_of c.args.site.now.scope) c.args.exit c.args.item.now c.args.draft.now c.emit_store.new.draft _ _ refl c.in-Store.ensures p) c.emit_store.ensures.emits;
  layout = on_any c.emit_store.result refl;
  scope = on_any c.emit_store.result (ap (after_action (scope_of c.args.site.now.scope)) c.in-Store.ensures);
  homes = on_any c.emit_store.result (ap (after_homes c.args.site.now.layout (homes_of c.args.site.now.homes.items) (scope_of c.args.site.now.scope) c.args.item.now) c.in-Store.ensures);
  item = IfOk-equal c.emit_store.result _ _ _ c.emit_store.ensures.item (ap (λ (a : Action). c.args.item.now + action_size (scope_of c.args.site.now.scope).index a) c.in-Store.ensures);
}

pub emit_stmt-returns-in-Update : goal.emit_stmt-returns-in-Update
emit_stmt-returns-in-Update t c = record {
  emits =
      on_ok_weaker c.emit_update.result (λ p. emits_as c.args.site.now.layout (homes_of c.args.site.now.homes.items) (homes_of c.args.site.now.homes.items) (scope_of c.args.site.now.scope) c.args.exit c.args.item.now c.args.draft.now c.emit_update.new.draft _ _ refl c.in-Update.ensures p) c.emit_update.ensures.emits;
  layout = on_any c.emit_update.result refl;
  scope = on_any c.emit_update.result (ap (after_action (scope_of c.args.site.now.scope)) c.in-Update.ensures);
  homes = on_any c.emit_update.result (ap (after_homes c.args.site.now.layout (homes_of c.args.site.now.homes.items) (scope_of c.args.site.now.scope) c.args.item.now) c.in-Update.ensures);
  item = IfOk-equal c.emit_update.result _ _ _ c.emit_update.ensures.item (ap (λ (a : Action). c.args.item.now + action_size (scope_of c.args.site.now.scope).index a) c.in-Update.ensures);
}

pub emit_stmt-returns-in_ok-emit_jump-in-Break : goal.emit_stmt-returns-in_ok-emit_jump-in-Break
emit_stmt-returns-in_ok-emit_jump-in-Break t c = record {
  emits =
      emits_as c.args.site.now.layout (homes_of c.args.site.now.homes.items) (homes_of c.args.site.now.homes.items) (scope_of c.args.site.now.scope) c.args.exit c.args.item.now c.args.draft.now c.emit_jump.new.draft (Leave (term_of c.in-Break.cond.now)) _ refl c.in-Break.ensures c.in_ok-emit_jump-in-Break.ensures.emits;
  layout = refl;
  scope = ap (after_action (scope_of c.args.site.now.scope)) c.in-Break.ensures;
  homes = ap (after_homes c.args.site.now.layout (homes_of c.args.site.now.homes.items) (scope_of c.args.site.now.scope) c.args.item.now) c.in-Break.ensures;
  item = item_after_size c.args.item.now (term_size (scope_of c.args.site.now.scope).index (term_of c.in-Break.cond.now)) c.emit_jump.new.item c.in_ok-emit_jump-in-Break.ensures.item ∙ ap (λ (a : Action). c.args.item.now + action_size (scope_of c.args.site.now.scope).index a) c.in-Break.ensures;
}

-- ---- the statements of a block, one after another

pub emit_block-loop-stmt-init : goal.emit_block-loop-stmt-init
emit_block-loop-stmt-init t c = record {
  exit = c.requires.exit;
  depth = omega arith;
  kinds = c.requires.kinds;
  layout = refl;
  scope = refl;
  homes = refl;
  item = refl;
  labels = refl;
  code = λ rest. refl;
}

pub emit_block-emit_stmt-requires : goal.emit_block-emit_stmt-requires
emit_block-emit_stmt-requires t c =
    let l = c.loop-stmt in
    let x = block_of (drop l.stmt-index c.args.block.now) in
    let more = block_of (drop (l.stmt-index + 1) c.args.block.now) in
    let a = action_of c.stmt-item.result in
    let e = next_statement c.args.block.now l.stmt-index c.stmt-item.result c.loop-stmt-test.true c.stmt-item.is in
    (five_statement_below t (block_of c.args.block.now) x more a c.decreases l.invariant.depth e, (l.invariant.exit, ((subst BlockKinds e l.invariant.kinds).0, statement_room (scope_of l.site.scope).index (scope_of c.args.site.now.scope).index (block_of c.args.block.now) x more a c.args.item.now l.item e l.invariant.item c.requires.fits)))

pub emit_block-loop-stmt-smaller : goal.emit_block-loop-stmt-smaller
emit_block-loop-stmt-smaller t c = omega arith

pub emit_block-returns : goal.emit_block-returns
emit_block-returns t c =
    let l = c.loop-stmt in
    let end = no_statement c.args.block.now l.stmt-index c.loop-stmt-test.false in
    record {
      layout = l.invariant.layout;
      scope = sym (ap (after_block (scope_of l.site.scope)) end) ∙ l.invariant.scope;
      homes = sym (ap (block_homes l.site.layout (homes_of l.site.homes.items) (scope_of l.site.scope) l.item) end) ∙ l.invariant.homes;
      item = items_end (scope_of l.site.scope).index (block_of (drop l.stmt-index c.args.block.now)) l.item _ end l.invariant.item;
      emits =
          record {
            labels = labels_end (scope_of l.site.scope).index (block_of (drop l.stmt-index c.args.block.now)) l.draft.labels _ end l.invariant.labels;
            code = λ rest. ap (λ (b : Block). l.draft.entries ++ block_code l.site.layout (homes_of l.site.homes.items) (scope_of l.site.scope) c.args.exit l.item l.draft.labels b rest) (sym end) ∙ l.invariant.code rest;
          };
    }

-- ---- a block whose names are visible no more

pub emit_inner-emit_block-requires : goal.emit_inner-emit_block-requires
emit_inner-emit_block-requires t c = (five_inner_below t (block_depth (block_of c.args.block.now)) c.decreases, (c.requires.exit, (c.requires.kinds, c.requires.fits)))

pub emit_inner-returns : goal.emit_inner-returns
emit_inner-returns t c = record {
  layout = c.in_ok-emit_block.ensures.layout;
  scope =
      let scope = scope_of c.args.site.now.scope in
      let block = block_of c.args.block.now in
      c.leave.ensures ∙ ap (kept c.visible_count-visible.result) c.in_ok-emit_block.ensures.scope ∙ kept-block scope c.visible_count-visible.result block c.visible_count-visible.ensures;
  homes =
      ap homes_of c.truncate.ensures.items ∙ homes_back c.args.site.now.layout c.args.site.now.homes.items c.emit_block.new.site.homes.items (scope_of c.args.site.now.scope) c.len-known.result c.args.item.now (block_of c.args.block.now) (c.len-known.ensures ∙ c.args.site.now.homes.ok.0) c.in_ok-emit_block.ensures.homes;
  item = c.in_ok-emit_block.ensures.item;
  emits = c.in_ok-emit_block.ensures.emits;
}

-- ---- an `if`

pub emit_if-emit_jump-requires : goal.emit_if-emit_jump-requires
emit_if-emit_jump-requires t c = record {
  given = label_given c.in_ok-other.other c.args.draft.now.labels c.label.new.self.labels c.in_ok-other.ensures.next c.in_ok-other.ensures.count;
  kind = c.requires.cond;
  fits = truth_room (scope_of c.args.site.now.scope).index (term_of c.args.cond.now) (block_of c.args.block.now) Nothing c.args.item.now c.requires.fits;
}

pub emit_if-overflow_add-item : goal.emit_if-overflow_add-item
emit_if-overflow_add-item t c = branch_room (scope_of c.args.site.now.scope).index (term_of c.args.cond.now) (block_of c.args.block.now) Nothing c.args.item.now c.emit_jump.new.item c.requires.fits c.in_ok-emit_jump.ensures.item

pub emit_if-emit_inner-requires : goal.emit_if-emit_inner-requires
emit_if-emit_inner-requires t c = (five_3_to_2 t (block_depth (block_of c.args.block.now)) c.decreases, (given_past_label c.args.exit c.args.draft.now.labels c.label.new.self.labels c.emit_jump.new.draft.labels _ c.requires.exit c.in_ok-other.ensures.count c.in_ok-emit_jump.ensures.emits.labels, (c.requires.block, block_room (scope_of c.args.site.now.scope).index (term_of c.args.cond.now) (block_of c.args.block.now) Nothing c.args.item.now c.emit_jump.new.item c.requires.fits c.in_ok-emit_jump.ensures.item)))

pub emit_if-land-requires : goal.emit_if-land-requires
emit_if-land-requires t c = record {
  given = given_past_two_parts c.in_ok-other.other c.args.draft.now.labels c.label.new.self.labels c.emit_jump.new.draft.labels c.emit_inner.new.draft.labels _ _ c.in_ok-other.ensures.next c.in_ok-other.ensures.count c.in_ok-emit_jump.ensures.emits.labels c.in_ok-emit_inner.ensures.emits.labels;
  room = first_room (scope_of c.args.site.now.scope).index (term_of c.args.cond.now) (block_of c.args.block.now) Nothing c.args.item.now c.emit_jump.new.item c.emit_inner.new.item c.requires.fits c.in_ok-emit_jump.ensures.item c.in_ok-emit_inner.ensures.item;
}

pub emit_if-returns : goal.emit_if-returns
emit_if-returns t c = record {
  emits =
      let L = c.args.site.now.layout in
      let s = scope_of c.args.site.now.scope in
      let hs = homes_of c.args.site.now.homes.items in
      let n = c.args.draft.now.labels in
      let e = term_of c.args.cond.now in
      let blk = block_of c.args.block.now in
      on_ok_weaker c.land.result (λ p. record {
        labels = if_count n c.label.new.self.labels c.emit_jump.new.draft.labels c.emit_inner.new.draft.labels c.land.new.draft.labels _ _ c.in_ok-other.ensures.count c.in_ok-emit_jump.ensures.emits.labels c.in_ok-emit_inner.ensures.emits.labels p.labels;
        code = λ rest. p.code rest
            ∙ c.in_ok-emit_inner.ensures.emits.code _
            ∙ c.in_ok-emit_jump.ensures.emits.code _
            ∙ ap (λ (l : List DraftEntry). c.label.new.self.entries ++ l)
            (if_is L hs hs s c.args.exit c.in_ok-other.other c.args.item.now n c.emit_jump.new.item c.label.new.self.labels c.emit_jump.new.draft.labels e blk rest
            refl c.in_ok-other.ensures.next c.in_ok-other.ensures.count c.in_ok-emit_jump.ensures.item c.in_ok-emit_jump.ensures.emits.labels)
            ∙ ap (λ (l : List DraftEntry). l ++ action_code L hs s c.args.exit c.args.item.now n (Choose e blk Nothing) rest) c.in_ok-other.ensures.entries;
      }) c.land.ensures.emits;
  layout = on_any c.land.result c.in_ok-emit_inner.ensures.layout;
  scope = on_any c.land.result c.in_ok-emit_inner.ensures.scope;
  homes = on_any c.land.result c.in_ok-emit_inner.ensures.homes;
  item = on_ok_weaker c.land.result (if_items c.args.item.now (term_size (scope_of c.args.site.now.scope).index (term_of c.args.cond.now)) (block_size (scope_of c.args.site.now.scope).index (block_of c.args.block.now)) c.emit_jump.new.item c.emit_inner.new.item c.land.new.item c.in_ok-emit_jump.ensures.item c.in_ok-emit_inner.ensures.item) c.land.ensures.item;
}

-- ---- an `if` with a second block

pub emit_if_else-emit_jump-requires : goal.emit_if_else-emit_jump-requires
emit_if_else-emit_jump-requires t c = record {
  given = label_given c.in_ok-other.other c.args.draft.now.labels c.label.new.self.labels c.in_ok-other.ensures.next c.in_ok-other.ensures.count;
  kind = c.requires.cond;
  fits = truth_room (scope_of c.args.site.now.scope).index (term_of c.args.cond.now) (block_of c.args.block.now) (Else (block_of c.args.second.now)) c.args.item.now c.requires.fits;
}

pub emit_if_else-overflow_add-item : goal.emit_if_else-overflow_add-item
emit_if_else-overflow_add-item t c = branch_room (scope_of c.args.site.now.scope).index (term_of c.args.cond.now) (block_of c.args.block.now) (Else (block_of c.args.second.now)) c.args.item.now c.emit_jump.new.item c.requires.fits c.in_ok-emit_jump.ensures.item

pub emit_if_else-emit_inner-requires : goal.emit_if_else-emit_inner-requires
emit_if_else-emit_inner-requires t c = (five_first_block_below t (block_depth (block_of c.args.block.now)) (block_depth (block_of c.args.second.now)) c.decreases, (given_past_label c.args.exit c.args.draft.now.labels c.label.new.self.labels c.emit_jump.new.draft.labels _ c.requires.exit c.in_ok-other.ensures.count c.in_ok-emit_jump.ensures.emits.labels, (c.requires.block, block_room (scope_of c.args.site.now.scope).index (term_of c.args.cond.now) (block_of c.args.block.now) (Else (block_of c.args.second.now)) c.args.item.now c.emit_jump.new.item c.requires.fits c.in_ok-emit_jump.ensures.item)))

pub emit_if_else-branch_ahead-requires : goal.emit_if_else-branch_ahead-requires
emit_if_else-branch_ahead-requires t c = refl

pub emit_if_else-emit_inner-requires-2 : goal.emit_if_else-emit_inner-requires-2
emit_if_else-emit_inner-requires-2 t c = (five_second_block_below t (block_depth (block_of c.args.block.now)) (block_depth (block_of c.args.second.now)) c.decreases, (exit_again c.args.exit c.args.draft.now.labels c.label.new.self.labels c.emit_jump.new.draft.labels c.emit_inner.new.draft.labels c.branch_ahead.new.draft.labels c.land.new.draft.labels _ _ c.requires.exit c.in_ok-other.ensures.count c.in_ok-emit_jump.ensures.emits.labels c.in_ok-emit_inner.ensures.emits.labels c.in_ok-end.ensures.emits.labels c.in_ok-land.ensures.emits.labels, (c.requires.second, second_room (scope_of c.args.site.now.scope) (scope_of c.emit_inner.new.site.scope) (term_of c.args.cond.now) (block_of c.args.block.now) (block_of c.args.second.now) c.args.item.now c.emit_jump.new.item c.emit_inner.new.item c.land.new.item c.requires.fits c.in_ok-emit_jump.ensures.item c.in_ok-emit_inner.ensures.item c.in_ok-land.ensures.item c.in_ok-emit_inner.ensures.scope)))

pub emit_if_else-returns : goal.emit_if_else-returns
emit_if_else-returns t c = record {
  emits =
      let L = c.args.site.now.layout in
      let s = scope_of c.args.site.now.scope in
      let hs = homes_of c.args.site.now.homes.items in
      let n = c.args.draft.now.labels in
      let e = term_of c.args.cond.now in
      let blk = block_of c.args.block.now in
      let second = block_of c.args.second.now in
      let after : (r : List DraftEntry) → c.emit_inner-2.new.draft.entries ++ r ≡ c.land.new.draft.entries ++ block_code L (homes_of c.emit_inner.new.site.homes.items) (scope_of c.emit_inner.new.site.scope) c.args.exit c.land.new.item c.land.new.draft.labels second r =
      λ r. c.in_ok-emit_inner-2.ensures.emits.code r ∙ ap (λ (M : Layout). c.land.new.draft.entries ++ block_code M (homes_of c.emit_inner.new.site.homes.items) (scope_of c.emit_inner.new.site.scope) c.args.exit c.land.new.item c.land.new.draft.labels second r) c.in_ok-emit_inner.ensures.layout in
      on_ok_weaker c.land-2.result (λ p. record {
        labels = if_else_count s (scope_of c.emit_inner.new.site.scope) (after_block s blk) n c.label.new.self.labels c.emit_jump.new.draft.labels c.emit_inner.new.draft.labels c.land.new.draft.labels c.emit_inner-2.new.draft.labels c.land-2.new.draft.labels _ _ second c.in_ok-emit_inner.ensures.scope c.in_ok-other.ensures.count c.in_ok-emit_jump.ensures.emits.labels c.in_ok-emit_inner.ensures.emits.labels (c.in_ok-land.ensures.emits.labels ∙ c.in_ok-end.ensures.emits.labels) c.in_ok-emit_inner-2.ensures.emits.labels p.labels;
        code = λ rest. p.code rest
            ∙ after _
            ∙ c.in_ok-land.ensures.emits.code _
            ∙ c.in_ok-end.ensures.emits.code _
            ∙ c.in_ok-emit_inner.ensures.emits.code _
            ∙ c.in_ok-emit_jump.ensures.emits.code _
            ∙ ap (λ (l : List DraftEntry). c.label.new.self.entries ++ l)
            (if_else_is L hs hs (homes_of c.emit_inner.new.site.homes.items) s (scope_of c.emit_inner.new.site.scope) c.args.exit c.in_ok-other.other c.in_ok-end.end c.args.item.now n c.emit_jump.new.item c.emit_inner.new.item c.land.new.item c.label.new.self.labels c.emit_jump.new.draft.labels c.emit_inner.new.draft.labels c.land.new.draft.labels e blk second rest
            refl c.in_ok-emit_inner.ensures.homes c.in_ok-emit_inner.ensures.scope c.in_ok-other.ensures.next c.in_ok-other.ensures.count c.in_ok-emit_jump.ensures.item c.in_ok-emit_jump.ensures.emits.labels c.in_ok-emit_inner.ensures.item c.in_ok-emit_inner.ensures.emits.labels c.in_ok-end.ensures.label c.in_ok-land.ensures.item (c.in_ok-land.ensures.emits.labels ∙ c.in_ok-end.ensures.emits.labels))
            ∙ ap (λ (l : List DraftEntry). l ++ action_code L hs s c.args.exit c.args.item.now n (Choose e blk (Else second)) rest) c.in_ok-other.ensures.entries;
      }) c.land-2.ensures.emits;
  layout = on_any c.land-2.result (c.in_ok-emit_inner-2.ensures.layout ∙ c.in_ok-emit_inner.ensures.layout);
  scope = on_any c.land-2.result (c.in_ok-emit_inner-2.ensures.scope ∙ ap (λ (r : Scope). left r (after_block r (block_of c.args.second.now))) c.in_ok-emit_inner.ensures.scope);
  homes = on_any c.land-2.result (c.in_ok-emit_inner-2.ensures.homes ∙ c.in_ok-emit_inner.ensures.homes);
  item = on_ok_weaker c.land-2.result (if_else_items (scope_of c.args.site.now.scope) (scope_of c.emit_inner.new.site.scope) (after_block (scope_of c.args.site.now.scope) (block_of c.args.block.now)) (block_of c.args.second.now) c.args.item.now (term_size (scope_of c.args.site.now.scope).index (term_of c.args.cond.now)) (block_size (scope_of c.args.site.now.scope).index (block_of c.args.block.now)) c.emit_jump.new.item c.emit_inner.new.item c.land.new.item c.emit_inner-2.new.item c.land-2.new.item c.in_ok-emit_inner.ensures.scope c.in_ok-emit_jump.ensures.item c.in_ok-emit_inner.ensures.item c.in_ok-land.ensures.item c.in_ok-emit_inner-2.ensures.item) c.land-2.ensures.item;
}

-- ---- what a statement asks of its parts

pub emit_stmt-emit_if-requires : goal.emit_stmt-emit_if-requires
emit_stmt-emit_if-requires t c =
    let is = sym c.in-If.ensures in
    let kinds = subst ActionKinds is c.requires.kinds in
    (five_only_block_below t (action_of c.args.stmt.now) (term_of c.in-If.cond.now) (block_of c.in-If.block.now) c.decreases is, (c.requires.exit, (kinds.0, (kinds.1, subst (λ (a : Action). c.args.item.now + action_size (scope_of c.args.site.now.scope).index a < 2 ^ 32) is c.requires.fits))))

pub emit_stmt-emit_if_else-requires : goal.emit_stmt-emit_if_else-requires
emit_stmt-emit_if_else-requires t c =
    let is = sym c.in-IfElse.ensures in
    let kinds = subst ActionKinds is c.requires.kinds in
    (if_else_below t (action_of c.args.stmt.now) (term_of c.in-IfElse.cond.now) (block_of c.in-IfElse.block.now) (block_of c.in-IfElse.other.now) c.decreases is, (c.requires.exit, (kinds.0, (kinds.1, (kinds.2, subst (λ (a : Action). c.args.item.now + action_size (scope_of c.args.site.now.scope).index a < 2 ^ 32) is c.requires.fits)))))

pub emit_stmt-emit_let-requires : goal.emit_stmt-emit_let-requires
emit_stmt-emit_let-requires t c = record {
  kind = subst ActionKinds (sym c.in-Let.ensures) c.requires.kinds;
  fits = subst (λ (a : Action). c.args.item.now + action_size (scope_of c.args.site.now.scope).index a < 2 ^ 32) (sym c.in-Let.ensures) c.requires.fits;
}

pub emit_stmt-emit_store-requires : goal.emit_stmt-emit_store-requires
emit_stmt-emit_store-requires t c = record {
  kind = subst ActionKinds (sym c.in-Store.ensures) c.requires.kinds;
  fits = subst (λ (a : Action). c.args.item.now + action_size (scope_of c.args.site.now.scope).index a < 2 ^ 32) (sym c.in-Store.ensures) c.requires.fits;
}

pub emit_stmt-emit_update-requires : goal.emit_stmt-emit_update-requires
emit_stmt-emit_update-requires t c = record {
  kind = subst ActionKinds (sym c.in-Update.ensures) c.requires.kinds;
  fits = subst (λ (a : Action). c.args.item.now + action_size (scope_of c.args.site.now.scope).index a < 2 ^ 32) (sym c.in-Update.ensures) c.requires.fits;
}

pub emit_stmt-emit_jump-requires : goal.emit_stmt-emit_jump-requires
emit_stmt-emit_jump-requires t c = record {
  given = c.requires.exit;
  kind = subst ActionKinds (sym c.in-Break.ensures) c.requires.kinds;
  fits = leave_room (scope_of c.args.site.now.scope).index (action_of c.args.stmt.now) (term_of c.in-Break.cond.now) c.args.item.now c.in-Break.ensures c.requires.fits;
}

pub emit_stmt-overflow_add-item : goal.emit_stmt-overflow_add-item
emit_stmt-overflow_add-item t c = left_room (scope_of c.args.site.now.scope).index (action_of c.args.stmt.now) (term_of c.in-Break.cond.now) c.args.item.now c.emit_jump.new.item c.in-Break.ensures c.requires.fits c.in_ok-emit_jump-in-Break.ensures.item

pub emit_block-offset_bounds-block-stmt-index : goal.emit_block-offset_bounds-block-stmt-index
emit_block-offset_bounds-block-stmt-index t c = omega arith
