use Rattle.std.proofs.Common.{ap, arith}
use Rattle.kernel_tree.specs.Items.{loop_index, vars_size}
use Rattle.loop_form.specs.View.{program}
use Rattle.loop_lists.proofs.Trees.{params_counted, vars_listed}
use Rattle.loop_lists.proofs.entry_list.first_item.Goals as goal

pub overflow_cast-result : goal.overflow_cast-result
overflow_cast-result c =
    let count = params_counted c.args.kernel.now c.kernel-tree.result.now c.kernel-tree.ensures c.len.result c.len.ensures in
    record { fits = omega (arith, count, c.few_items.ensures.params) }

pub vars_size_of-requires : goal.vars_size_of-requires
vars_size_of-requires c =
    let vars = ap (vars_size (loop_index (program c.args.kernel.now))) (vars_listed c.args.kernel.now c.kernel-tree.result.now c.kernel-tree.ensures c.deref.result.now c.deref.ensures.value) in
    omega (arith, vars, c.few_items.ensures.size)

pub overflow_add-result : goal.overflow_add-result
overflow_add-result c =
    let count = params_counted c.args.kernel.now c.kernel-tree.result.now c.kernel-tree.ensures c.len.result c.len.ensures in
    let vars = ap (vars_size (loop_index (program c.args.kernel.now))) (vars_listed c.args.kernel.now c.kernel-tree.result.now c.kernel-tree.ensures c.deref.result.now c.deref.ensures.value) in
    record { fits = omega (arith, count, vars, c.vars_size_of.ensures, c.few_items.ensures.size) }

pub returns : goal.returns
returns c =
    let count = params_counted c.args.kernel.now c.kernel-tree.result.now c.kernel-tree.ensures c.len.result c.len.ensures in
    let vars = ap (vars_size (loop_index (program c.args.kernel.now))) (vars_listed c.args.kernel.now c.kernel-tree.result.now c.kernel-tree.ensures c.deref.result.now c.deref.ensures.value) in
    omega (arith, count, vars, c.vars_size_of.ensures)
