use Rattle.std.proofs.Common.{◌≡◌, ◌-◌, ◌++◌, List, length, take, drop, sym, ap, ◌∙◌, subst, arith, refl}
use Rattle.kernel_tree.specs.Plain.{Define, Put, Update, Choose, Leave, Nothing, Else, name_of, term_of, action_of, block_of}
use Rattle.kernel_tree.specs.Parts.{part_action}
use Rattle.kernel_tree.specs.Items.{loop_index, action_size, block_size}
use Rattle.loop_form.specs.declared.visible.Visible.{Visible}
use Rattle.loop_form.specs.LoopItems.{block_items}
use Rattle.loop_form.specs.LoopView.{view, env_of, scope_of}
use Rattle.loop_form.specs.Near.{NearAction, NearBlock}
use Rattle.loop_form.specs.View.{program}
use Rattle.std.proofs.lemmas.List.{take_all}
use Rattle.kernel_tree.proofs.Walks.{opened, empty_below_one}
use Rattle.loop_items.proofs.StatementAppends.{kept_names, action_as, condition_as, if_made, if_else_made, block_made}
use Rattle.loop_items.proofs.loop_statements.+loop_statements.Goals as goal

-- ---- the statements of a block

pub list_block-returns-in_default : goal.list_block-returns-in_default
list_block-returns-in_default t c = record { names = take_all (length c.args.names.now.items) c.args.names.now.items (omega arith); kept = λ short. short; items = λ short taken rest. ap (λ b. (view c.args.listed.now.items.items) ++ block_items (scope_of (loop_index (program c.args.at.kernel.now)) c.args.names.now.items taken) c.args.at.mask c.args.at.from (env_of c.args.names.now.items) (block_of b) rest) (sym (empty_below_one c.args.block.now c.in_default.len_below)) }

pub list_block-list_stmt-requires : goal.list_block-list_stmt-requires
list_block-list_stmt-requires t c =
    let size = ap (block_size (loop_index (program c.args.at.kernel.now))) (ap block_of (opened c.args.block.now c.stmt-item.result c.in-len1-up.len_at_least c.stmt-item.is)) in
    let near = subst (NearBlock (loop_index (program c.args.at.kernel.now))) (ap block_of (opened c.args.block.now c.stmt-item.result c.in-len1-up.len_at_least c.stmt-item.is)) c.requires.near in
    (omega arith, (omega arith, near.0))

pub list_block-count_items-requires : goal.list_block-count_items-requires
list_block-count_items-requires t c =
    let size = ap (block_size (loop_index (program c.args.at.kernel.now))) (ap block_of (opened c.args.block.now c.stmt-item.result c.in-len1-up.len_at_least c.stmt-item.is)) in
    omega arith

pub list_block-declare-requires : goal.list_block-declare-requires
list_block-declare-requires t c =
    let size = ap (block_size (loop_index (program c.args.at.kernel.now))) (ap block_of (opened c.args.block.now c.stmt-item.result c.in-len1-up.len_at_least c.stmt-item.is)) in
    omega arith

pub list_block-list_block-requires : goal.list_block-list_block-requires
list_block-list_block-requires t c =
    let size = ap (block_size (loop_index (program c.args.at.kernel.now))) (ap block_of (opened c.args.block.now c.stmt-item.result c.in-len1-up.len_at_least c.stmt-item.is)) in
    let near = subst (NearBlock (loop_index (program c.args.at.kernel.now))) (ap block_of (opened c.args.block.now c.stmt-item.result c.in-len1-up.len_at_least c.stmt-item.is)) c.requires.near in
    (omega arith, (omega arith, near.1))

pub list_block-returns : goal.list_block-returns
list_block-returns t c = record { names = kept_names _ _ _ _ c.list_stmt.ensures.names c.declare.ensures.names c.list_block.ensures.names; kept = λ short. c.list_stmt.ensures.kept (c.declare.ensures.kept (c.list_block.ensures.kept short)); items = λ short taken rest. block_made (loop_index (program c.args.at.kernel.now)) c.args.names.now.items taken c.args.at.mask c.args.at.from (view c.args.listed.now.items.items) (action_of c.stmt-item.result) (block_of (take (length c.args.block.now - 1) (drop 1 c.args.block.now))) (block_of c.args.block.now) c.count_items.result c.list_stmt.new.names.items c.declare.new.names.items (view c.list_stmt.new.listed.items.items) (view c.list_block.new.listed.items.items) rest (λ more. c.list_block.ensures.items short more rest) (c.list_stmt.ensures.items (c.declare.ensures.kept (c.list_block.ensures.kept short)) taken) c.list_stmt.ensures.names (c.declare.ensures.declares (c.list_block.ensures.kept short)) c.count_items.ensures.size (ap block_of (opened c.args.block.now c.stmt-item.result c.in-len1-up.len_at_least c.stmt-item.is)) }

pub list_inner-list_block-requires : goal.list_inner-list_block-requires
list_inner-list_block-requires t c = (omega arith, (c.requires.fits, c.requires.near))

pub list_inner-returns : goal.list_inner-returns
list_inner-returns t c = record { names = c.truncate.ensures.items ∙ ap (λ n. take n c.list_block.new.names.items) (c.len-outer.ensures ∙ c.args.names.now.ok.0) ∙ c.list_block.ensures.names; kept = c.list_block.ensures.kept; items = c.list_block.ensures.items }

-- ---- a statement by its kind

pub list_stmt-list_let-requires : goal.list_stmt-list_let-requires
list_stmt-list_let-requires t c =
    let is : action_of c.args.stmt.now ≡ Define (name_of c.in-Let.name.now) c.in-Let.ty (term_of c.in-Let.value.now) = sym c.parts.ensures ∙ ap part_action c.in-Let.is in
    let size = ap (action_size (loop_index (program c.args.at.kernel.now))) is in
    let near = subst (NearAction (loop_index (program c.args.at.kernel.now))) is c.requires.near in
    record { fits = omega arith; near = near }

pub list_stmt-returns-in-Let : goal.list_stmt-returns-in-Let
list_stmt-returns-in-Let t c =
    let is : action_of c.args.stmt.now ≡ Define (name_of c.in-Let.name.now) c.in-Let.ty (term_of c.in-Let.value.now) = sym c.parts.ensures ∙ ap part_action c.in-Let.is in
    record { names = refl {A = List Visible}; kept = c.list_let.ensures.kept; items = λ short taken rest. action_as (loop_index (program c.args.at.kernel.now)) taken c.args.at.mask c.args.at.from (view c.args.listed.now.items.items) c.args.names.now.items c.deref.result.now c.deref.ensures.value (Define (name_of c.in-Let.name.now) c.in-Let.ty (term_of c.in-Let.value.now)) (action_of c.args.stmt.now) (view c.list_let.new.listed.items.items) rest (c.list_let.ensures.items short taken rest) is }

pub list_stmt-list_store-requires : goal.list_stmt-list_store-requires
list_stmt-list_store-requires t c =
    let is : action_of c.args.stmt.now ≡ Put (name_of c.in-Store.array.now) (term_of c.in-Store.index.now) (term_of c.in-Store.value.now) = sym c.parts.ensures ∙ ap part_action c.in-Store.is in
    let size = ap (action_size (loop_index (program c.args.at.kernel.now))) is in
    let near = subst (NearAction (loop_index (program c.args.at.kernel.now))) is c.requires.near in
    record { fits = omega arith; near = near }

pub list_stmt-returns-in-Store : goal.list_stmt-returns-in-Store
list_stmt-returns-in-Store t c =
    let is : action_of c.args.stmt.now ≡ Put (name_of c.in-Store.array.now) (term_of c.in-Store.index.now) (term_of c.in-Store.value.now) = sym c.parts.ensures ∙ ap part_action c.in-Store.is in
    record { names = refl {A = List Visible}; kept = c.list_store.ensures.kept; items = λ short taken rest. action_as (loop_index (program c.args.at.kernel.now)) taken c.args.at.mask c.args.at.from (view c.args.listed.now.items.items) c.args.names.now.items c.deref-in-Store.result.now c.deref-in-Store.ensures.value (Put (name_of c.in-Store.array.now) (term_of c.in-Store.index.now) (term_of c.in-Store.value.now)) (action_of c.args.stmt.now) (view c.list_store.new.listed.items.items) rest (c.list_store.ensures.items short taken rest) is }

pub list_stmt-list_update-requires : goal.list_stmt-list_update-requires
list_stmt-list_update-requires t c =
    let is : action_of c.args.stmt.now ≡ Update (name_of c.in-Update.name.now) c.in-Update.op (term_of c.in-Update.value.now) = sym c.parts.ensures ∙ ap part_action c.in-Update.is in
    let size = ap (action_size (loop_index (program c.args.at.kernel.now))) is in
    let near = subst (NearAction (loop_index (program c.args.at.kernel.now))) is c.requires.near in
    record { fits = omega arith; near = near }

pub list_stmt-returns-in-Update : goal.list_stmt-returns-in-Update
list_stmt-returns-in-Update t c =
    let is : action_of c.args.stmt.now ≡ Update (name_of c.in-Update.name.now) c.in-Update.op (term_of c.in-Update.value.now) = sym c.parts.ensures ∙ ap part_action c.in-Update.is in
    record { names = refl {A = List Visible}; kept = c.list_update.ensures.kept; items = λ short taken rest. action_as (loop_index (program c.args.at.kernel.now)) taken c.args.at.mask c.args.at.from (view c.args.listed.now.items.items) c.args.names.now.items c.deref-in-Update.result.now c.deref-in-Update.ensures.value (Update (name_of c.in-Update.name.now) c.in-Update.op (term_of c.in-Update.value.now)) (action_of c.args.stmt.now) (view c.list_update.new.listed.items.items) rest (c.list_update.ensures.items short taken rest) is }

pub list_stmt-list_if-requires : goal.list_stmt-list_if-requires
list_stmt-list_if-requires t c =
    let is : action_of c.args.stmt.now ≡ Choose (term_of c.in-If.cond.now) (block_of c.in-If.block.now) Nothing = sym c.parts.ensures ∙ ap part_action c.in-If.is in
    let size = ap (action_size (loop_index (program c.args.at.kernel.now))) is in
    let near = subst (NearAction (loop_index (program c.args.at.kernel.now))) is c.requires.near in
    (omega arith, (omega arith, near))

pub list_stmt-returns-in-If : goal.list_stmt-returns-in-If
list_stmt-returns-in-If t c =
    let is : action_of c.args.stmt.now ≡ Choose (term_of c.in-If.cond.now) (block_of c.in-If.block.now) Nothing = sym c.parts.ensures ∙ ap part_action c.in-If.is in
    record { names = c.list_if.ensures.names; kept = c.list_if.ensures.kept; items = λ short taken rest. action_as (loop_index (program c.args.at.kernel.now)) taken c.args.at.mask c.args.at.from (view c.args.listed.now.items.items) c.args.names.now.items c.args.names.now.items refl (Choose (term_of c.in-If.cond.now) (block_of c.in-If.block.now) Nothing) (action_of c.args.stmt.now) (view c.list_if.new.listed.items.items) rest (c.list_if.ensures.items short taken rest) is }

pub list_stmt-list_if_else-requires : goal.list_stmt-list_if_else-requires
list_stmt-list_if_else-requires t c =
    let is : action_of c.args.stmt.now ≡ Choose (term_of c.in-IfElse.cond.now) (block_of c.in-IfElse.block.now) (Else (block_of c.in-IfElse.other.now)) = sym c.parts.ensures ∙ ap part_action c.in-IfElse.is in
    let size = ap (action_size (loop_index (program c.args.at.kernel.now))) is in
    let near = subst (NearAction (loop_index (program c.args.at.kernel.now))) is c.requires.near in
    (omega arith, (omega arith, near))

pub list_stmt-returns-in-IfElse : goal.list_stmt-returns-in-IfElse
list_stmt-returns-in-IfElse t c =
    let is : action_of c.args.stmt.now ≡ Choose (term_of c.in-IfElse.cond.now) (block_of c.in-IfElse.block.now) (Else (block_of c.in-IfElse.other.now)) = sym c.parts.ensures ∙ ap part_action c.in-IfElse.is in
    record { names = c.list_if_else.ensures.names; kept = c.list_if_else.ensures.kept; items = λ short taken rest. action_as (loop_index (program c.args.at.kernel.now)) taken c.args.at.mask c.args.at.from (view c.args.listed.now.items.items) c.args.names.now.items c.args.names.now.items refl (Choose (term_of c.in-IfElse.cond.now) (block_of c.in-IfElse.block.now) (Else (block_of c.in-IfElse.other.now))) (action_of c.args.stmt.now) (view c.list_if_else.new.listed.items.items) rest (c.list_if_else.ensures.items short taken rest) is }

pub list_stmt-list_break-requires : goal.list_stmt-list_break-requires
list_stmt-list_break-requires t c =
    let is : action_of c.args.stmt.now ≡ Leave (term_of c.in-Break.cond.now) = sym c.parts.ensures ∙ ap part_action c.in-Break.is in
    let size = ap (action_size (loop_index (program c.args.at.kernel.now))) is in
    let near = subst (NearAction (loop_index (program c.args.at.kernel.now))) is c.requires.near in
    record { fits = omega arith; near = near }

pub list_stmt-returns-in-Break : goal.list_stmt-returns-in-Break
list_stmt-returns-in-Break t c =
    let is : action_of c.args.stmt.now ≡ Leave (term_of c.in-Break.cond.now) = sym c.parts.ensures ∙ ap part_action c.in-Break.is in
    record { names = refl {A = List Visible}; kept = c.list_break.ensures.kept; items = λ short taken rest. action_as (loop_index (program c.args.at.kernel.now)) taken c.args.at.mask c.args.at.from (view c.args.listed.now.items.items) c.args.names.now.items c.deref-in-Break.result.now c.deref-in-Break.ensures.value (Leave (term_of c.in-Break.cond.now)) (action_of c.args.stmt.now) (view c.list_break.new.listed.items.items) rest (c.list_break.ensures.items short taken rest) is }

-- ---- `if`

pub list_if-expr_size-requires : goal.list_if-expr_size-requires
list_if-expr_size-requires t c = omega arith

pub list_if-list_truth-first-requires : goal.list_if-list_truth-first-requires
list_if-list_truth-first-requires t c = record { fits = omega arith; near = c.requires.near.0 }

pub list_if_else-expr_size-requires : goal.list_if_else-expr_size-requires
list_if_else-expr_size-requires t c = omega arith

pub list_if_else-list_truth-first-requires : goal.list_if_else-list_truth-first-requires
list_if_else-list_truth-first-requires t c = record { fits = omega arith; near = c.requires.near.0 }

pub list_if-list_inner-requires : goal.list_if-list_inner-requires
list_if-list_inner-requires t c = (omega arith, (omega arith, c.requires.near.1.0))

pub list_if_else-list_inner-requires : goal.list_if_else-list_inner-requires
list_if_else-list_inner-requires t c = (omega arith, (omega arith, c.requires.near.1.0))

pub list_if_else-list_inner-requires-2 : goal.list_if_else-list_inner-requires-2
list_if_else-list_inner-requires-2 t c = (omega arith, (omega arith, c.requires.near.1.1))

pub list_if_else-statements_size-requires : goal.list_if_else-statements_size-requires
list_if_else-statements_size-requires t c = omega arith

pub list_if-returns : goal.list_if-returns
list_if-returns t c = record { names = c.list_inner.ensures.names; kept = λ short. c.list_truth-first.ensures.kept (c.list_inner.ensures.kept short); items = λ short taken rest. if_made (scope_of (loop_index (program c.args.at.kernel.now)) c.args.names.now.items taken) c.args.at.mask c.args.at.from (env_of c.args.names.now.items) (view c.args.listed.now.items.items) (term_of c.args.cond.now) (block_of c.args.block.now) c.expr_size.result c.list_truth-first.result (view c.list_truth-first.new.listed.items.items) (view c.list_inner.new.listed.items.items) rest (c.list_inner.ensures.items short taken rest) (condition_as (loop_index (program c.args.at.kernel.now)) taken c.args.at.mask c.args.at.from (view c.args.listed.now.items.items) c.args.names.now.items c.deref.result.now c.deref.ensures.value (term_of c.args.cond.now) (view c.list_truth-first.new.listed.items.items) (c.list_truth-first.ensures.items (c.list_inner.ensures.kept short) taken)) c.expr_size.ensures c.list_truth-first.ensures.item }

pub list_if_else-returns : goal.list_if_else-returns
list_if_else-returns t c = record { names = c.list_inner-2.ensures.names ∙ c.list_inner.ensures.names; kept = λ short. c.list_truth-first.ensures.kept (c.list_inner.ensures.kept (c.append.ensures.kept (c.list_inner-2.ensures.kept short))); items = λ short taken rest. if_else_made (loop_index (program c.args.at.kernel.now)) c.args.names.now.items taken c.args.at.mask c.args.at.from (view c.args.listed.now.items.items) (term_of c.args.cond.now) (block_of c.args.block.now) (block_of c.args.other.now) c.expr_size.result c.statements_size.result c.list_truth-first.result c.list_inner.new.names.items (view c.list_truth-first.new.listed.items.items) (view c.list_inner.new.listed.items.items) (view c.append.new.listed.items.items) (view c.list_inner-2.new.listed.items.items) rest (λ more. c.list_inner-2.ensures.items short more rest) (c.append.ensures.items (c.list_inner-2.ensures.kept short)) (c.list_inner.ensures.items (c.append.ensures.kept (c.list_inner-2.ensures.kept short)) taken) (condition_as (loop_index (program c.args.at.kernel.now)) taken c.args.at.mask c.args.at.from (view c.args.listed.now.items.items) c.args.names.now.items c.deref.result.now c.deref.ensures.value (term_of c.args.cond.now) (view c.list_truth-first.new.listed.items.items) (c.list_truth-first.ensures.items (c.list_inner.ensures.kept (c.append.ensures.kept (c.list_inner-2.ensures.kept short))) taken)) c.list_inner.ensures.names c.expr_size.ensures c.statements_size.ensures c.list_truth-first.ensures.item }

-- ---- sums that fit

pub list_block-overflow_add-next : goal.list_block-overflow_add-next
list_block-overflow_add-next t c =
    let size = ap (block_size (loop_index (program c.args.at.kernel.now))) (ap block_of (opened c.args.block.now c.stmt-item.result c.in-len1-up.len_at_least c.stmt-item.is)) in
    record { fits = omega arith }

pub list_if-overflow_add-inner : goal.list_if-overflow_add-inner
list_if-overflow_add-inner t c = record { fits = omega arith }

pub list_if-overflow_add-inner-2 : goal.list_if-overflow_add-inner-2
list_if-overflow_add-inner-2 t c = record { fits = omega arith }

pub list_if_else-overflow_add-inner : goal.list_if_else-overflow_add-inner
list_if_else-overflow_add-inner t c = record { fits = omega arith }

pub list_if_else-overflow_add-inner-2 : goal.list_if_else-overflow_add-inner-2
list_if_else-overflow_add-inner-2 t c = record { fits = omega arith }

pub list_if_else-overflow_add-other_side : goal.list_if_else-overflow_add-other_side
list_if_else-overflow_add-other_side t c = record { fits = omega arith }

pub list_if_else-overflow_add-other_side-2 : goal.list_if_else-overflow_add-other_side-2
list_if_else-overflow_add-other_side-2 t c = record { fits = omega arith }
