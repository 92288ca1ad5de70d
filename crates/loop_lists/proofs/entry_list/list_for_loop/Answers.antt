use Rattle.std.proofs.Common.{◌+◌, List, ◌∷◌, ◌++◌, sym, ap, ap₂, ◌∙◌, arith}
use Rattle.std.specs.Prelude.{option_map}
use Rattle.kernel_tree.specs.declared.ast.Stmt.{Stmt}
use Rattle.kernel_tree.specs.Plain.{block_of, for_loop_of}
use Rattle.kernel_tree.specs.Items.{index_of, block_size, for_loop_size}
use Rattle.loop_form.specs.declared.item.ItemKind.TheVariants as kind
use Rattle.loop_form.specs.Entries.{IsPlain, entry, block_entries, for_loop_entries}
use Rattle.loop_form.specs.View.{program, entries_view}
use Rattle.loop_lists.proofs.Lists.{append_of_empty}
use Rattle.loop_lists.proofs.Steps.{two_parts}
use Rattle.loop_lists.proofs.entry_list.list_for_loop.Goals as goal

pub put-requires : goal.put-requires
put-requires c =
    let size = ap (λ o. for_loop_size (option_map for_loop_of o)) c.in-Some.is in
    omega (arith, size, c.requires.fits, c.requires.following)

pub overflow_add-at : goal.overflow_add-at
overflow_add-at c =
    let size = ap (λ o. for_loop_size (option_map for_loop_of o)) c.in-Some.is in
    record { fits = omega (arith, size, c.requires.fits) }

pub list_block-requires-clause-following : goal.list_block-requires-clause-following
list_block-requires-clause-following c = omega (arith, c.put.ensures.len, c.requires.following)

pub list_block-requires-clause-fits : goal.list_block-requires-clause-fits
list_block-requires-clause-fits c =
    let size = ap (λ o. for_loop_size (option_map for_loop_of o)) c.in-Some.is in
    let index = c.requires.index ∙ ap (λ o. option_map index_of (option_map for_loop_of o)) c.in-Some.is in
    let block = ap₂ block_size index (ap block_of c.deref.ensures.value) in
    omega (arith, size, block, c.requires.fits)

pub returns-in-Some-clause-items : goal.returns-in-Some-clause-items
returns-in-Some-clause-items c =
    let k = program c.args.kernel.now in
    let old = entries_view c.args.entries.now.items in
    two_parts old (entries_view c.put.new.entries.items) (entries_view c.list_block.new.entries.items) _ _ c.put.ensures.items c.list_block.ensures.items
    ∙ ap (λ (b : List Stmt). old ++ entry k c.args.from (IsPlain kind.For) c.args.from ∷ block_entries k (c.args.from + 1) (block_of b)) c.deref.ensures.value
    ∙ sym (ap (λ o. old ++ for_loop_entries k c.args.from (option_map for_loop_of o)) c.in-Some.is)

pub returns-in-Some-clause-len : goal.returns-in-Some-clause-len
returns-in-Some-clause-len c =
    let size = ap (λ o. for_loop_size (option_map for_loop_of o)) c.in-Some.is in
    let index = c.requires.index ∙ ap (λ o. option_map index_of (option_map for_loop_of o)) c.in-Some.is in
    let block = ap₂ block_size index (ap block_of c.deref.ensures.value) in
    omega (arith, size, block, c.put.ensures.len, c.list_block.ensures.len)

pub returns-in_default-clause-items : goal.returns-in_default-clause-items
returns-in_default-clause-items c = append_of_empty _ _ (ap (λ o. for_loop_entries (program c.args.kernel.now) c.args.from (option_map for_loop_of o)) c.in_default.is)

pub returns-in_default-clause-len : goal.returns-in_default-clause-len
returns-in_default-clause-len c =
    let none = ap (λ o. for_loop_size (option_map for_loop_of o)) c.in_default.is in
    omega (arith, none)
