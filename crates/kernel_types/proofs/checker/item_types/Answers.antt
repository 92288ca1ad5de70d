use Rattle.std.proofs.Common.{◌≤◌, arith}
use Rattle.kernel_tree.specs.Plain.{program_of}
use Rattle.kernel_tree.specs.Items.{size_of}
use Rattle.kernel_tree.specs.Limits.{depth_of, most_items, most_depth}
use Rattle.kernel_types.proofs.Bounds.{few_items, few_levels}
use Rattle.kernel_types.proofs.FirstFault.{fails_first, fails_never, too_large, too_deep}
use Rattle.kernel_types.proofs.checker.item_types.Goals as goal

pub kernel_size-size-requires : goal.kernel_size-size-requires
kernel_size-size-requires c = few_items (program_of c.args.kernel.now) c.requires.short

pub kernel_depth-depth-requires : goal.kernel_depth-depth-requires
kernel_depth-depth-requires c = few_levels (program_of c.args.kernel.now) c.requires.short

pub returns-in-Some-clause-refused : goal.returns-in-Some-clause-refused
returns-in-Some-clause-refused c =
    let k = program_of c.args.kernel.now in
    let small : size_of k ≤ most_items = omega (arith, c.kernel_size-size.ensures, c.if-size-gt-MOST_ITEMS.false) in
    let flat : depth_of k ≤ most_depth = omega (arith, c.kernel_depth-depth.ensures, c.if-depth-gt-MOST_DEPTH.false) in
    fails_first k c.in_ok-notes.notes.found c.in-Some.found c.type_fault.result small flat c.in_ok-notes.ensures.found c.in-Some.is c.type_fault.ensures

pub returns-then-size-gt-MOST_ITEMS-clause-refused : goal.returns-then-size-gt-MOST_ITEMS-clause-refused
returns-then-size-gt-MOST_ITEMS-clause-refused c =
    too_large (program_of c.args.kernel.now) c.kernel_size-size.result c.kernel_size-size.ensures c.if-size-gt-MOST_ITEMS.true

pub returns-then-depth-gt-MOST_DEPTH-clause-refused : goal.returns-then-depth-gt-MOST_DEPTH-clause-refused
returns-then-depth-gt-MOST_DEPTH-clause-refused c =
    too_deep (program_of c.args.kernel.now) c.kernel_size-size.result c.kernel_depth-depth.result c.kernel_size-size.ensures c.if-size-gt-MOST_ITEMS.false c.kernel_depth-depth.ensures c.if-depth-gt-MOST_DEPTH.true

pub returns-in-None-clause-ok : goal.returns-in-None-clause-ok
returns-in-None-clause-ok c =
    let k = program_of c.args.kernel.now in
    let small : size_of k ≤ most_items = omega (arith, c.kernel_size-size.ensures, c.if-size-gt-MOST_ITEMS.false) in
    let flat : depth_of k ≤ most_depth = omega (arith, c.kernel_depth-depth.ensures, c.if-depth-gt-MOST_DEPTH.false) in
    fails_never k c.in_ok-notes.notes.found small flat c.in_ok-notes.ensures.found c.in-None.is
