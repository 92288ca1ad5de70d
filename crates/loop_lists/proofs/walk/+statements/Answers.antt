use Rattle.std.proofs.Common.{◌≡◌, ℕ, ◌+◌, ◌-◌, List, ◌++◌, length, take, drop, sym, ap, ◌∙◌, arith}
use Rattle.arrayvec.specs.ArrayVec.{array_vec_len}
use Rattle.kernel_tree.specs.Plain.{Define, Put, Update, Choose, Leave, Nothing, Else, name_of, term_of, action_of, block_of}
use Rattle.kernel_tree.specs.Parts.{part_action}
use Rattle.kernel_tree.specs.Items.{loop_index, action_size, block_size}
use Rattle.kernel_tree.proofs.Walks.{opened, empty_below_one}
use Rattle.loop_form.specs.Entries.{action_entries, block_entries}
use Rattle.loop_form.specs.View.{program, entries_view}
use Rattle.loop_lists.proofs.Lists.{append_of_empty}
use Rattle.loop_lists.proofs.Steps.{two_parts}
use Rattle.loop_lists.proofs.StatementWalks.{statement_listed, statement_counted, then_listed, if_listed, if_else_listed}
use Rattle.loop_lists.proofs.walk.+statements.Goals as goal

-- ---- the statements of a block

pub list_block-returns-in_default-clause-items : goal.list_block-returns-in_default-clause-items
list_block-returns-in_default-clause-items t c = append_of_empty _ _ (ap (λ b. block_entries (program c.args.at.kernel.now) c.args.at.from (block_of b)) (empty_below_one c.args.block.now c.in_default.len_below))

pub list_block-returns-in_default-clause-len : goal.list_block-returns-in_default-clause-len
list_block-returns-in_default-clause-len t c =
    let none = ap (λ b. block_size (loop_index (program c.args.at.kernel.now)) (block_of b)) (empty_below_one c.args.block.now c.in_default.len_below) in
    omega (arith, none)

pub list_block-slice_bounds-rest-count : goal.list_block-slice_bounds-rest-count
list_block-slice_bounds-rest-count t c = c.in-len1-up.len_at_least

pub list_block-bounds-block-0 : goal.list_block-bounds-block-0
list_block-bounds-block-0 t c = c.in-len1-up.len_at_least

pub list_block-slice_bounds-rest-start : goal.list_block-slice_bounds-rest-start
list_block-slice_bounds-rest-start t c = c.in-len1-up.len_at_least

pub list_block-slice_bounds-rest-end : goal.list_block-slice_bounds-rest-end
list_block-slice_bounds-rest-end t c = omega arith

pub list_block-count_items-requires : goal.list_block-count_items-requires
list_block-count_items-requires t c =
    let whole = ap (λ b. block_size (loop_index (program c.args.at.kernel.now)) (block_of b)) (opened c.args.block.now c.stmt-item.result c.in-len1-up.len_at_least c.stmt-item.is) in
    omega arith

pub list_block-overflow_add-next : goal.list_block-overflow_add-next
list_block-overflow_add-next t c =
    let whole = ap (λ b. block_size (loop_index (program c.args.at.kernel.now)) (block_of b)) (opened c.args.block.now c.stmt-item.result c.in-len1-up.len_at_least c.stmt-item.is) in
    record { fits = omega arith }

pub list_block-list_stmt-requires : goal.list_block-list_stmt-requires
list_block-list_stmt-requires t c =
    let whole = ap (λ b. block_size (loop_index (program c.args.at.kernel.now)) (block_of b)) (opened c.args.block.now c.stmt-item.result c.in-len1-up.len_at_least c.stmt-item.is) in
    (omega arith, (omega arith, omega arith))

pub list_block-list_block-requires : goal.list_block-list_block-requires
list_block-list_block-requires t c =
    let whole = ap (λ b. block_size (loop_index (program c.args.at.kernel.now)) (block_of b)) (opened c.args.block.now c.stmt-item.result c.in-len1-up.len_at_least c.stmt-item.is) in
    (omega arith, (omega arith, omega arith))

pub list_block-returns-clause-items : goal.list_block-returns-clause-items
list_block-returns-clause-items t c =
    let rest = block_of (take (length c.args.block.now - 1) (drop 1 c.args.block.now)) in
    let whole = ap (λ b. block_entries (program c.args.at.kernel.now) c.args.at.from (block_of b)) (opened c.args.block.now c.stmt-item.result c.in-len1-up.len_at_least c.stmt-item.is) in
    two_parts (entries_view c.args.entries.now.items) (entries_view c.list_stmt.new.entries.items) (entries_view c.list_block.new.entries.items) (action_entries (program c.args.at.kernel.now) c.args.at.from (action_of c.stmt-item.result)) (block_entries (program c.args.at.kernel.now) (c.args.at.from + action_size (loop_index (program c.args.at.kernel.now)) (action_of c.stmt-item.result)) rest) c.list_stmt.ensures.items (c.list_block.ensures.items ∙ ap (λ n. entries_view c.list_stmt.new.entries.items ++ block_entries (program c.args.at.kernel.now) (c.args.at.from + n) rest) c.count_items.ensures.size)
    ∙ ap (λ l. entries_view c.args.entries.now.items ++ l) (sym whole)

pub list_block-returns-clause-len : goal.list_block-returns-clause-len
list_block-returns-clause-len t c =
    let whole = ap (λ b. block_size (loop_index (program c.args.at.kernel.now)) (block_of b)) (opened c.args.block.now c.stmt-item.result c.in-len1-up.len_at_least c.stmt-item.is) in
    omega arith

-- ---- a statement by its kind

pub list_stmt-list_ended-requires-clause-following : goal.list_stmt-list_ended-requires-clause-following
list_stmt-list_ended-requires-clause-following t c = c.requires.following

pub list_stmt-list_ended-requires-clause-fits : goal.list_stmt-list_ended-requires-clause-fits
list_stmt-list_ended-requires-clause-fits t c =
    let is = sym c.parts.ensures ∙ ap part_action c.in-Let.is in
    let size = ap (action_size (loop_index (program c.args.at.kernel.now))) is in
    omega (arith, size, c.requires.fits)

pub list_stmt-list_ended-requires-in-Store-clause-following : goal.list_stmt-list_ended-requires-in-Store-clause-following
list_stmt-list_ended-requires-in-Store-clause-following t c = c.requires.following

pub list_stmt-list_ended-requires-in-Store-clause-fits : goal.list_stmt-list_ended-requires-in-Store-clause-fits
list_stmt-list_ended-requires-in-Store-clause-fits t c =
    let is = sym c.parts.ensures ∙ ap part_action c.in-Store.is in
    let size = ap (action_size (loop_index (program c.args.at.kernel.now))) is in
    omega (arith, size, c.requires.fits)

pub list_stmt-list_ended-requires-in-Update-clause-following : goal.list_stmt-list_ended-requires-in-Update-clause-following
list_stmt-list_ended-requires-in-Update-clause-following t c = c.requires.following

pub list_stmt-list_ended-requires-in-Update-clause-fits : goal.list_stmt-list_ended-requires-in-Update-clause-fits
list_stmt-list_ended-requires-in-Update-clause-fits t c =
    let is = sym c.parts.ensures ∙ ap part_action c.in-Update.is in
    let size = ap (action_size (loop_index (program c.args.at.kernel.now))) is in
    omega (arith, size, c.requires.fits)

pub list_stmt-list_ended-requires-in-Break-clause-following : goal.list_stmt-list_ended-requires-in-Break-clause-following
list_stmt-list_ended-requires-in-Break-clause-following t c = c.requires.following

pub list_stmt-list_ended-requires-in-Break-clause-fits : goal.list_stmt-list_ended-requires-in-Break-clause-fits
list_stmt-list_ended-requires-in-Break-clause-fits t c =
    let is = sym c.parts.ensures ∙ ap part_action c.in-Break.is in
    let size = ap (action_size (loop_index (program c.args.at.kernel.now))) is in
    omega (arith, size, c.requires.fits)

pub list_stmt-list_if-requires : goal.list_stmt-list_if-requires
list_stmt-list_if-requires t c =
    let is = sym c.parts.ensures ∙ ap part_action c.in-If.is in
    let size = ap (action_size (loop_index (program c.args.at.kernel.now))) is in
    (omega (arith, size), (c.requires.following, omega (arith, size)))

pub list_stmt-list_if_else-requires : goal.list_stmt-list_if_else-requires
list_stmt-list_if_else-requires t c =
    let is = sym c.parts.ensures ∙ ap part_action c.in-IfElse.is in
    let size = ap (action_size (loop_index (program c.args.at.kernel.now))) is in
    (omega (arith, size), (c.requires.following, omega (arith, size)))

pub list_stmt-returns-in-Let-clause-items : goal.list_stmt-returns-in-Let-clause-items
list_stmt-returns-in-Let-clause-items t c =
    let is : action_of c.args.stmt.now ≡ Define (name_of c.in-Let.name.now) c.in-Let.ty (term_of c.in-Let.value.now) = sym c.parts.ensures ∙ ap part_action c.in-Let.is in
    statement_listed (program c.args.at.kernel.now) c.args.at.from (Define c.text.result.now c.in-Let.ty (term_of c.in-Let.value.now)) (action_of c.args.stmt.now) (entries_view c.args.entries.now.items) (entries_view c.list_ended.new.entries.items) c.list_ended.ensures.items (is ∙ ap (λ (x : List ℕ). Define x c.in-Let.ty (term_of c.in-Let.value.now)) (sym c.text.ensures))

pub list_stmt-returns-in-Let-clause-len : goal.list_stmt-returns-in-Let-clause-len
list_stmt-returns-in-Let-clause-len t c =
    let is : action_of c.args.stmt.now ≡ Define (name_of c.in-Let.name.now) c.in-Let.ty (term_of c.in-Let.value.now) = sym c.parts.ensures ∙ ap part_action c.in-Let.is in
    statement_counted (loop_index (program c.args.at.kernel.now)) (Define (name_of c.in-Let.name.now) c.in-Let.ty (term_of c.in-Let.value.now)) (action_of c.args.stmt.now) (array_vec_len c.args.entries.now) (array_vec_len c.list_ended.new.entries) c.list_ended.ensures.len is

pub list_stmt-returns-in-Store-clause-items : goal.list_stmt-returns-in-Store-clause-items
list_stmt-returns-in-Store-clause-items t c =
    let is : action_of c.args.stmt.now ≡ Put (name_of c.in-Store.array.now) (term_of c.in-Store.index.now) (term_of c.in-Store.value.now) = sym c.parts.ensures ∙ ap part_action c.in-Store.is in
    statement_listed (program c.args.at.kernel.now) c.args.at.from (Put c.text-array.result.now (term_of c.in-Store.index.now) (term_of c.in-Store.value.now)) (action_of c.args.stmt.now) (entries_view c.args.entries.now.items) (entries_view c.list_ended-in-Store.new.entries.items) c.list_ended-in-Store.ensures.items (is ∙ ap (λ (x : List ℕ). Put x (term_of c.in-Store.index.now) (term_of c.in-Store.value.now)) (sym c.text-array.ensures))

pub list_stmt-returns-in-Store-clause-len : goal.list_stmt-returns-in-Store-clause-len
list_stmt-returns-in-Store-clause-len t c =
    let is : action_of c.args.stmt.now ≡ Put (name_of c.in-Store.array.now) (term_of c.in-Store.index.now) (term_of c.in-Store.value.now) = sym c.parts.ensures ∙ ap part_action c.in-Store.is in
    statement_counted (loop_index (program c.args.at.kernel.now)) (Put (name_of c.in-Store.array.now) (term_of c.in-Store.index.now) (term_of c.in-Store.value.now)) (action_of c.args.stmt.now) (array_vec_len c.args.entries.now) (array_vec_len c.list_ended-in-Store.new.entries) c.list_ended-in-Store.ensures.len is

pub list_stmt-returns-in-Update-clause-items : goal.list_stmt-returns-in-Update-clause-items
list_stmt-returns-in-Update-clause-items t c =
    let is : action_of c.args.stmt.now ≡ Update (name_of c.in-Update.name.now) c.in-Update.op (term_of c.in-Update.value.now) = sym c.parts.ensures ∙ ap part_action c.in-Update.is in
    statement_listed (program c.args.at.kernel.now) c.args.at.from (Update c.text-name.result.now c.in-Update.op (term_of c.in-Update.value.now)) (action_of c.args.stmt.now) (entries_view c.args.entries.now.items) (entries_view c.list_ended-in-Update.new.entries.items) c.list_ended-in-Update.ensures.items (is ∙ ap (λ (x : List ℕ). Update x c.in-Update.op (term_of c.in-Update.value.now)) (sym c.text-name.ensures))

pub list_stmt-returns-in-Update-clause-len : goal.list_stmt-returns-in-Update-clause-len
list_stmt-returns-in-Update-clause-len t c =
    let is : action_of c.args.stmt.now ≡ Update (name_of c.in-Update.name.now) c.in-Update.op (term_of c.in-Update.value.now) = sym c.parts.ensures ∙ ap part_action c.in-Update.is in
    statement_counted (loop_index (program c.args.at.kernel.now)) (Update (name_of c.in-Update.name.now) c.in-Update.op (term_of c.in-Update.value.now)) (action_of c.args.stmt.now) (array_vec_len c.args.entries.now) (array_vec_len c.list_ended-in-Update.new.entries) c.list_ended-in-Update.ensures.len is

pub list_stmt-returns-in-If-clause-items : goal.list_stmt-returns-in-If-clause-items
list_stmt-returns-in-If-clause-items t c =
    let is : action_of c.args.stmt.now ≡ Choose (term_of c.in-If.cond.now) (block_of c.in-If.block.now) Nothing = sym c.parts.ensures ∙ ap part_action c.in-If.is in
    statement_listed (program c.args.at.kernel.now) c.args.at.from (Choose (term_of c.in-If.cond.now) (block_of c.in-If.block.now) Nothing) (action_of c.args.stmt.now) (entries_view c.args.entries.now.items) (entries_view c.list_if.new.entries.items) c.list_if.ensures.items is

pub list_stmt-returns-in-If-clause-len : goal.list_stmt-returns-in-If-clause-len
list_stmt-returns-in-If-clause-len t c =
    let is : action_of c.args.stmt.now ≡ Choose (term_of c.in-If.cond.now) (block_of c.in-If.block.now) Nothing = sym c.parts.ensures ∙ ap part_action c.in-If.is in
    statement_counted (loop_index (program c.args.at.kernel.now)) (Choose (term_of c.in-If.cond.now) (block_of c.in-If.block.now) Nothing) (action_of c.args.stmt.now) (array_vec_len c.args.entries.now) (array_vec_len c.list_if.new.entries) c.list_if.ensures.len is

pub list_stmt-returns-in-IfElse-clause-items : goal.list_stmt-returns-in-IfElse-clause-items
list_stmt-returns-in-IfElse-clause-items t c =
    let is : action_of c.args.stmt.now ≡ Choose (term_of c.in-IfElse.cond.now) (block_of c.in-IfElse.block.now) (Else (block_of c.in-IfElse.other.now)) = sym c.parts.ensures ∙ ap part_action c.in-IfElse.is in
    statement_listed (program c.args.at.kernel.now) c.args.at.from (Choose (term_of c.in-IfElse.cond.now) (block_of c.in-IfElse.block.now) (Else (block_of c.in-IfElse.other.now))) (action_of c.args.stmt.now) (entries_view c.args.entries.now.items) (entries_view c.list_if_else.new.entries.items) c.list_if_else.ensures.items is

pub list_stmt-returns-in-IfElse-clause-len : goal.list_stmt-returns-in-IfElse-clause-len
list_stmt-returns-in-IfElse-clause-len t c =
    let is : action_of c.args.stmt.now ≡ Choose (term_of c.in-IfElse.cond.now) (block_of c.in-IfElse.block.now) (Else (block_of c.in-IfElse.other.now)) = sym c.parts.ensures ∙ ap part_action c.in-IfElse.is in
    statement_counted (loop_index (program c.args.at.kernel.now)) (Choose (term_of c.in-IfElse.cond.now) (block_of c.in-IfElse.block.now) (Else (block_of c.in-IfElse.other.now))) (action_of c.args.stmt.now) (array_vec_len c.args.entries.now) (array_vec_len c.list_if_else.new.entries) c.list_if_else.ensures.len is

pub list_stmt-returns-in-Break-clause-items : goal.list_stmt-returns-in-Break-clause-items
list_stmt-returns-in-Break-clause-items t c =
    let is : action_of c.args.stmt.now ≡ Leave (term_of c.in-Break.cond.now) = sym c.parts.ensures ∙ ap part_action c.in-Break.is in
    statement_listed (program c.args.at.kernel.now) c.args.at.from (Leave (term_of c.in-Break.cond.now)) (action_of c.args.stmt.now) (entries_view c.args.entries.now.items) (entries_view c.list_ended-in-Break.new.entries.items) c.list_ended-in-Break.ensures.items is

pub list_stmt-returns-in-Break-clause-len : goal.list_stmt-returns-in-Break-clause-len
list_stmt-returns-in-Break-clause-len t c =
    let is : action_of c.args.stmt.now ≡ Leave (term_of c.in-Break.cond.now) = sym c.parts.ensures ∙ ap part_action c.in-Break.is in
    statement_counted (loop_index (program c.args.at.kernel.now)) (Leave (term_of c.in-Break.cond.now)) (action_of c.args.stmt.now) (array_vec_len c.args.entries.now) (array_vec_len c.list_ended-in-Break.new.entries) c.list_ended-in-Break.ensures.len is

-- ---- `if`

pub list_then-expr_size-requires : goal.list_then-expr_size-requires
list_then-expr_size-requires t c = omega arith

pub list_then-overflow_add-first : goal.list_then-overflow_add-first
list_then-overflow_add-first t c = record { fits = omega arith }

pub list_then-overflow_add-following : goal.list_then-overflow_add-following
list_then-overflow_add-following t c = record { fits = omega arith }

pub list_then-statements_size-requires : goal.list_then-statements_size-requires
list_then-statements_size-requires t c = omega arith

pub list_then-overflow_add-following-2 : goal.list_then-overflow_add-following-2
list_then-overflow_add-following-2 t c = record { fits = omega arith }

pub list_then-list_expr-requires-clause-following : goal.list_then-list_expr-requires-clause-following
list_then-list_expr-requires-clause-following t c = c.requires.following

pub list_then-list_expr-requires-clause-fits : goal.list_then-list_expr-requires-clause-fits
list_then-list_expr-requires-clause-fits t c = omega arith

pub list_then-put-requires : goal.list_then-put-requires
list_then-put-requires t c = omega arith

pub list_then-overflow_add-first-2 : goal.list_then-overflow_add-first-2
list_then-overflow_add-first-2 t c = record { fits = omega arith }

pub list_then-list_block-requires : goal.list_then-list_block-requires
list_then-list_block-requires t c = (omega arith, (omega arith, omega arith))

pub list_then-returns-clause-following : goal.list_then-returns-clause-following
list_then-returns-clause-following t c = omega arith

pub list_then-returns-clause-items : goal.list_then-returns-clause-items
list_then-returns-clause-items t c = then_listed (program c.args.at.kernel.now) c.args.at.from (entries_view c.args.entries.now.items) (entries_view c.list_block.new.entries.items) (term_of c.args.cond.now) (block_of c.args.block.now) c.expr_size.result c.statements_size.result (entries_view c.list_expr.new.entries.items) (entries_view c.put.new.entries.items) c.expr_size.ensures c.statements_size.ensures c.list_expr.ensures.items c.put.ensures.items c.list_block.ensures.items

pub list_then-returns-clause-len : goal.list_then-returns-clause-len
list_then-returns-clause-len t c = omega arith

pub list_if-list_then-end-requires : goal.list_if-list_then-end-requires
list_if-list_then-end-requires t c = (omega arith, (omega arith, omega arith))

pub list_if-put-requires : goal.list_if-put-requires
list_if-put-requires t c = omega arith

pub list_if-returns-clause-items : goal.list_if-returns-clause-items
list_if-returns-clause-items t c = if_listed (program c.args.at.kernel.now) c.args.at.from (entries_view c.args.entries.now.items) (entries_view c.put.new.entries.items) (term_of c.args.cond.now) (block_of c.args.block.now) c.list_then-end.result (entries_view c.list_then-end.new.entries.items) c.list_then-end.ensures.following c.list_then-end.ensures.items c.put.ensures.items

pub list_if-returns-clause-len : goal.list_if-returns-clause-len
list_if-returns-clause-len t c = omega arith

pub list_if_else-list_then-place-requires : goal.list_if_else-list_then-place-requires
list_if_else-list_then-place-requires t c = (omega arith, (omega arith, omega arith))

pub list_if_else-statements_size-requires : goal.list_if_else-statements_size-requires
list_if_else-statements_size-requires t c = omega arith

pub list_if_else-overflow_add-end : goal.list_if_else-overflow_add-end
list_if_else-overflow_add-end t c = record { fits = omega arith }

pub list_if_else-overflow_add-end-2 : goal.list_if_else-overflow_add-end-2
list_if_else-overflow_add-end-2 t c = record { fits = omega arith }

pub list_if_else-put-requires : goal.list_if_else-put-requires
list_if_else-put-requires t c = omega arith

pub list_if_else-overflow_add-place : goal.list_if_else-overflow_add-place
list_if_else-overflow_add-place t c = record { fits = omega arith }

pub list_if_else-list_block-requires : goal.list_if_else-list_block-requires
list_if_else-list_block-requires t c = (omega arith, (omega arith, omega arith))

pub list_if_else-put-requires-2 : goal.list_if_else-put-requires-2
list_if_else-put-requires-2 t c = omega arith

pub list_if_else-returns-clause-items : goal.list_if_else-returns-clause-items
list_if_else-returns-clause-items t c = if_else_listed (program c.args.at.kernel.now) c.args.at.from (entries_view c.args.entries.now.items) (entries_view c.put-2.new.entries.items) (term_of c.args.cond.now) (block_of c.args.block.now) (block_of c.args.other.now) c.list_then-place.result c.statements_size.result (entries_view c.list_then-place.new.entries.items) (entries_view c.put.new.entries.items) (entries_view c.list_block.new.entries.items) c.list_then-place.ensures.following c.statements_size.ensures c.list_then-place.ensures.items c.put.ensures.items c.list_block.ensures.items c.put-2.ensures.items

pub list_if_else-returns-clause-len : goal.list_if_else-returns-clause-len
list_if_else-returns-clause-len t c = omega arith
