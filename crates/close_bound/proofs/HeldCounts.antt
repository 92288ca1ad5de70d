-- A kernel holds no more values throughout its loop than it has items.
use Rattle.std.proofs.Common.{ℕ, ◌+◌, ◌≤◌, List, [], ◌∷◌, ◌++◌, length, Option, Some, None, arith, length-append}
use Rattle.std.specs.Prelude.{map, filter, option_map}
use Rattle.std.proofs.lemmas.List.{length-map}
use Rattle.kernel_tree.specs.Plain.{PlainLoop, Program}
use Rattle.kernel_tree.specs.Items.{index_of, loop_index, loop_start, size_of}
use Rattle.reg_assign.specs.declared.interval.RegClass.TheVariants.{Z}
use Rattle.loop_form.specs.declared.item.ItemKind.TheVariants as kind
use Rattle.loop_form.specs.Entries.{IsPlain, Entry, entry, block_entries, for_loop_entries, loop_entries}
use Rattle.loop_form.specs.Needs.{scalars, is_named_scalar, scalar_of, constants, index_held, is_updated, accumulating_of, throughout}
use Rattle.loop_form.proofs.FewItems.{vars-small}
use Rattle.loop_form.proofs.Numbers.{loop-listed}
use Rattle.loop_form.proofs.IntervalLaws.{index-few as index_few, filter-few as filter_few, constants-few}

-- the first item of a loop is no literal, so there is room for the loop variable
first_few : (k : Program) (b : ℕ) (l : PlainLoop) → length (constants [] (for_loop_entries k b (Some l))) + 1 ≤ length (for_loop_entries k b (Some l))
unfolding constants
first_few k b l = let c = constants-few (entry k b (IsPlain kind.For) b ∷ []) (block_entries k (b + 1) l.body) in omega (arith, c)

loop_few : (k : Program) (b : ℕ) (o : Option PlainLoop) → length (constants [] (for_loop_entries k b o)) + length (index_held (for_loop_entries k b o) (option_map index_of o)) ≤ length (for_loop_entries k b o)
loop_few k b None = let c = constants-few [] [] in omega (arith, c)
loop_few k b (Some l) = let c = first_few k b l in let i = index_few (for_loop_entries k b (Some l)) (Some l.index) in omega (arith, c, i)

pub few_held : (k : Program) → length (throughout k Z) ≤ size_of k
few_held k =
    let es : List Entry = loop_entries k in
    let a = length-map (filter (is_named_scalar es) k.params) scalar_of in
    let b = filter_few (is_named_scalar es) k.params in
    let c = loop_few k (loop_start k) k.for_loop in
    let d = length-map (filter (is_updated es) k.vars) accumulating_of in
    let e = filter_few (is_updated es) k.vars in
    let f = (loop-listed k).count in
    let g = vars-small (loop_index k) k.vars in
    let h = length-append (scalars es k.params) (constants [] es ++ (index_held es (loop_index k) ++ map accumulating_of (filter (is_updated es) k.vars))) in
    let i = length-append (constants [] es) (index_held es (loop_index k) ++ map accumulating_of (filter (is_updated es) k.vars)) in
    let j = length-append (index_held es (loop_index k)) (map accumulating_of (filter (is_updated es) k.vars)) in
    omega (arith, a, b, c, d, e, f, g, h, i, j)
