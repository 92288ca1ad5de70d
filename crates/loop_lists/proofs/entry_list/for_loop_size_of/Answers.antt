use Rattle.std.proofs.Common.{sym, ap, ap₂, ◌∙◌, arith}
use Rattle.std.specs.Prelude.{option_map}
use Rattle.kernel_tree.specs.Plain.{block_of, for_loop_of}
use Rattle.kernel_tree.specs.Items.{index_of, block_size, for_loop_size}
use Rattle.loop_lists.proofs.entry_list.for_loop_size_of.Goals as goal

pub statements_size-requires : goal.statements_size-requires
statements_size-requires c =
    let size = ap (λ o. for_loop_size (option_map for_loop_of o)) c.in-Some.is in
    let index = c.requires.index ∙ ap (λ o. option_map index_of (option_map for_loop_of o)) c.in-Some.is in
    let block = ap₂ block_size index (ap block_of c.deref.ensures.value) in
    omega (arith, size, block, c.requires.fits)

pub overflow_add-result : goal.overflow_add-result
overflow_add-result c =
    let size = ap (λ o. for_loop_size (option_map for_loop_of o)) c.in-Some.is in
    let index = c.requires.index ∙ ap (λ o. option_map index_of (option_map for_loop_of o)) c.in-Some.is in
    let block = ap₂ block_size index (ap block_of c.deref.ensures.value) in
    record { fits = omega (arith, size, block, c.statements_size.ensures, c.requires.fits) }

pub returns-in-None : goal.returns-in-None
returns-in-None c = sym (ap (λ o. for_loop_size (option_map for_loop_of o)) c.in-None.is)

pub returns-in-Some : goal.returns-in-Some
returns-in-Some c =
    let size = ap (λ o. for_loop_size (option_map for_loop_of o)) c.in-Some.is in
    let index = c.requires.index ∙ ap (λ o. option_map index_of (option_map for_loop_of o)) c.in-Some.is in
    let block = ap₂ block_size index (ap block_of c.deref.ensures.value) in
    omega (arith, size, block, c.statements_size.ensures)
