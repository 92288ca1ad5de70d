use Rattle.std.proofs.Common.{List, ◌++◌, length, sym, ap, ap₂, ◌∙◌, arith, subst}
use Rattle.std.specs.Prelude.{option_map}
use Rattle.kernel_tree.specs.Plain.{for_loop_of}
use Rattle.kernel_tree.specs.Items.{loop_index, index_of, for_loop_size}
use Rattle.loop_form.specs.declared.entry.Entry.{Entry}
use Rattle.loop_form.specs.Entries.{for_loop_entries}
use Rattle.loop_form.specs.Near.{AreNear}
use Rattle.loop_form.specs.View.{program, entries_view}
use Rattle.loop_lists.proofs.Trees.{same_loop}
use Rattle.loop_lists.proofs.entry_list.loop_entries.Goals as goal

pub list_for_loop-requires-clause-following : goal.list_for_loop-requires-clause-following
list_for_loop-requires-clause-following c =
    let none = ap length c.new-entries.ensures in
    omega (arith, none)

pub list_for_loop-requires-clause-fits : goal.list_for_loop-requires-clause-fits
list_for_loop-requires-clause-fits c =
    let size = ap for_loop_size (same_loop c.args.kernel.now c.kernel.result.now c.kernel.ensures) in
    omega (arith, size, c.first_item.ensures, c.few_items.ensures.size)

pub list_for_loop-requires-clause-index : goal.list_for_loop-requires-clause-index
list_for_loop-requires-clause-index c = sym (ap (option_map index_of) (same_loop c.args.kernel.now c.kernel.result.now c.kernel.ensures))

pub returns-clause-items : goal.returns-clause-items
returns-clause-items c =
    let k = program c.args.kernel.now in
    c.list_for_loop.ensures.items
    ∙ ap (λ (es : List Entry). entries_view es ++ for_loop_entries k c.first_item.result (option_map for_loop_of c.kernel.result.now.body)) c.new-entries.ensures
    ∙ ap₂ (for_loop_entries k) c.first_item.ensures (same_loop c.args.kernel.now c.kernel.result.now c.kernel.ensures)

pub returns-clause-near : goal.returns-clause-near
returns-clause-near c =
    let k = program c.args.kernel.now in
    let items =
    c.list_for_loop.ensures.items
    ∙ ap (λ (es : List Entry). entries_view es ++ for_loop_entries k c.first_item.result (option_map for_loop_of c.kernel.result.now.body)) c.new-entries.ensures
    ∙ ap₂ (for_loop_entries k) c.first_item.ensures (same_loop c.args.kernel.now c.kernel.result.now c.kernel.ensures) in
    subst (AreNear (loop_index k)) (sym items) c.near_offsets.ensures

pub returns-clause-small : goal.returns-clause-small
returns-clause-small c =
    let none = ap length c.new-entries.ensures in
    let size = ap for_loop_size (same_loop c.args.kernel.now c.kernel.result.now c.kernel.ensures) in
    omega (arith, none, size, c.list_for_loop.ensures.len, c.few_items.ensures.size)
