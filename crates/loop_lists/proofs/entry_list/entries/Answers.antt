use Rattle.std.proofs.Common.{◌+◌, ◌++◌, length, sym, ap, ap₂, ◌∙◌, arith}
use Rattle.std.specs.Prelude.{option_map}
use Rattle.std.proofs.lemmas.List.{length-map}
use Rattle.kernel_tree.specs.Plain.{parameter_of}
use Rattle.kernel_tree.specs.Items.{loop_index, index_of, vars_size, for_loop_size, answer_size}
use Rattle.loop_form.specs.Entries.{params_entries, vars_entries, for_loop_entries, answer_entries}
use Rattle.loop_form.specs.View.{program, entries_view}
use Rattle.loop_lists.proofs.Steps.{four_parts}
use Rattle.loop_lists.proofs.Trees.{params_counted, params_listed, vars_listed, same_loop, same_answer}
use Rattle.loop_lists.proofs.entry_list.entries.Goals as goal

pub overflow_cast-vars : goal.overflow_cast-vars
overflow_cast-vars c =
    let count = params_counted c.args.kernel.now c.kernel-tree.result.now c.kernel-tree.ensures c.len-vars.result c.len-vars.ensures in
    record { fits = omega (arith, count, c.few_items.ensures.params) }

pub for_loop_size_of-requires-clause-fits : goal.for_loop_size_of-requires-clause-fits
for_loop_size_of-requires-clause-fits c =
    let loop = ap for_loop_size (same_loop c.args.kernel.now c.kernel-tree.result.now c.kernel-tree.ensures) in
    omega (arith, loop, c.few_items.ensures.size)

pub for_loop_size_of-requires-clause-index : goal.for_loop_size_of-requires-clause-index
for_loop_size_of-requires-clause-index c = sym (ap (option_map index_of) (same_loop c.args.kernel.now c.kernel-tree.result.now c.kernel-tree.ensures))

pub overflow_add-end : goal.overflow_add-end
overflow_add-end c =
    let loop = ap for_loop_size (same_loop c.args.kernel.now c.kernel-tree.result.now c.kernel-tree.ensures) in
    record { fits = omega (arith, loop, c.first_item-start.ensures, c.for_loop_size_of.ensures, c.few_items.ensures.size) }

pub list_params-requires : goal.list_params-requires
list_params-requires c =
    let none = ap length c.new-entries.ensures in
    let params = ap length (params_listed c.args.kernel.now c.kernel-tree.result.now c.kernel-tree.ensures c.deref.result.now c.deref.ensures.value) in
    let mapped = length-map c.deref.result.now parameter_of in
    omega (arith, none, params, mapped, c.few_items.ensures.params)

pub list_vars-requires-clause-following : goal.list_vars-requires-clause-following
list_vars-requires-clause-following c =
    let none = ap length c.new-entries.ensures in
    let params = ap length (params_listed c.args.kernel.now c.kernel-tree.result.now c.kernel-tree.ensures c.deref.result.now c.deref.ensures.value) in
    let mapped = length-map c.deref.result.now parameter_of in
    let count = params_counted c.args.kernel.now c.kernel-tree.result.now c.kernel-tree.ensures c.len-vars.result c.len-vars.ensures in
    omega (arith, none, params, mapped, count, c.list_params.ensures.len)

pub list_vars-requires-clause-fits : goal.list_vars-requires-clause-fits
list_vars-requires-clause-fits c =
    let count = params_counted c.args.kernel.now c.kernel-tree.result.now c.kernel-tree.ensures c.len-vars.result c.len-vars.ensures in
    let vars = ap (vars_size (loop_index (program c.args.kernel.now))) (vars_listed c.args.kernel.now c.kernel-tree.result.now c.kernel-tree.ensures c.deref-2.result.now c.deref-2.ensures.value) in
    omega (arith, count, vars, c.few_items.ensures.size)

pub list_for_loop-requires-clause-following : goal.list_for_loop-requires-clause-following
list_for_loop-requires-clause-following c =
    let none = ap length c.new-entries.ensures in
    let params = ap length (params_listed c.args.kernel.now c.kernel-tree.result.now c.kernel-tree.ensures c.deref.result.now c.deref.ensures.value) in
    let mapped = length-map c.deref.result.now parameter_of in
    let vars = ap (vars_size (loop_index (program c.args.kernel.now))) (vars_listed c.args.kernel.now c.kernel-tree.result.now c.kernel-tree.ensures c.deref-2.result.now c.deref-2.ensures.value) in
    omega (arith, none, params, mapped, vars, c.first_item-start.ensures, c.list_params.ensures.len, c.list_vars.ensures.len)

pub list_for_loop-requires-clause-fits : goal.list_for_loop-requires-clause-fits
list_for_loop-requires-clause-fits c =
    let loop = ap for_loop_size (same_loop c.args.kernel.now c.kernel-tree.result.now c.kernel-tree.ensures) in
    omega (arith, loop, c.first_item-start.ensures, c.few_items.ensures.size)

pub list_for_loop-requires-clause-index : goal.list_for_loop-requires-clause-index
list_for_loop-requires-clause-index c = sym (ap (option_map index_of) (same_loop c.args.kernel.now c.kernel-tree.result.now c.kernel-tree.ensures))

pub list_answer-requires-clause-following : goal.list_answer-requires-clause-following
list_answer-requires-clause-following c =
    let none = ap length c.new-entries.ensures in
    let params = ap length (params_listed c.args.kernel.now c.kernel-tree.result.now c.kernel-tree.ensures c.deref.result.now c.deref.ensures.value) in
    let mapped = length-map c.deref.result.now parameter_of in
    let vars = ap (vars_size (loop_index (program c.args.kernel.now))) (vars_listed c.args.kernel.now c.kernel-tree.result.now c.kernel-tree.ensures c.deref-2.result.now c.deref-2.ensures.value) in
    let loop = ap for_loop_size (same_loop c.args.kernel.now c.kernel-tree.result.now c.kernel-tree.ensures) in
    omega (arith, none, params, mapped, vars, loop, c.first_item-start.ensures, c.for_loop_size_of.ensures, c.list_params.ensures.len, c.list_vars.ensures.len, c.list_for_loop.ensures.len)

pub list_answer-requires-clause-fits : goal.list_answer-requires-clause-fits
list_answer-requires-clause-fits c =
    let loop = ap for_loop_size (same_loop c.args.kernel.now c.kernel-tree.result.now c.kernel-tree.ensures) in
    let answer = ap (answer_size (loop_index (program c.args.kernel.now))) (same_answer c.args.kernel.now c.kernel-tree.result.now c.kernel-tree.ensures) in
    omega (arith, loop, answer, c.first_item-start.ensures, c.for_loop_size_of.ensures, c.few_items.ensures.size)

pub returns-clause-items : goal.returns-clause-items
returns-clause-items c =
    let k = program c.args.kernel.now in
    let count = params_counted c.args.kernel.now c.kernel-tree.result.now c.kernel-tree.ensures c.len-vars.result c.len-vars.ensures in
    let end = ap₂ (λ a b. a + b) c.first_item-start.ensures (c.for_loop_size_of.ensures ∙ ap for_loop_size (same_loop c.args.kernel.now c.kernel-tree.result.now c.kernel-tree.ensures)) in
    four_parts (entries_view c.new-entries.result.items) (entries_view c.list_params.new.entries.items) (entries_view c.list_vars.new.entries.items) (entries_view c.list_for_loop.new.entries.items) (entries_view c.list_answer.new.entries.items) _ _ _ _
    (ap entries_view c.new-entries.ensures)
    (c.list_params.ensures.items ∙ ap (λ l. entries_view c.new-entries.result.items ++ params_entries k 0 l) (params_listed c.args.kernel.now c.kernel-tree.result.now c.kernel-tree.ensures c.deref.result.now c.deref.ensures.value))
    (c.list_vars.ensures.items ∙ ap₂ (λ n l. entries_view c.list_params.new.entries.items ++ vars_entries k n l) count (vars_listed c.args.kernel.now c.kernel-tree.result.now c.kernel-tree.ensures c.deref-2.result.now c.deref-2.ensures.value))
    (c.list_for_loop.ensures.items ∙ ap₂ (λ n o. entries_view c.list_vars.new.entries.items ++ for_loop_entries k n o) c.first_item-start.ensures (same_loop c.args.kernel.now c.kernel-tree.result.now c.kernel-tree.ensures))
    (c.list_answer.ensures.items ∙ ap₂ (λ n o. entries_view c.list_for_loop.new.entries.items ++ answer_entries k n o) end (same_answer c.args.kernel.now c.kernel-tree.result.now c.kernel-tree.ensures))

pub returns-clause-len : goal.returns-clause-len
returns-clause-len c =
    let none = ap length c.new-entries.ensures in
    let params = ap length (params_listed c.args.kernel.now c.kernel-tree.result.now c.kernel-tree.ensures c.deref.result.now c.deref.ensures.value) in
    let mapped = length-map c.deref.result.now parameter_of in
    let vars = ap (vars_size (loop_index (program c.args.kernel.now))) (vars_listed c.args.kernel.now c.kernel-tree.result.now c.kernel-tree.ensures c.deref-2.result.now c.deref-2.ensures.value) in
    let loop = ap for_loop_size (same_loop c.args.kernel.now c.kernel-tree.result.now c.kernel-tree.ensures) in
    let answer = ap (answer_size (loop_index (program c.args.kernel.now))) (same_answer c.args.kernel.now c.kernel-tree.result.now c.kernel-tree.ensures) in
    omega (arith, none, params, mapped, vars, loop, answer, c.list_params.ensures.len, c.list_vars.ensures.len, c.list_for_loop.ensures.len, c.list_answer.ensures.len)

pub returns-clause-small : goal.returns-clause-small
returns-clause-small c =
    let none = ap length c.new-entries.ensures in
    let params = ap length (params_listed c.args.kernel.now c.kernel-tree.result.now c.kernel-tree.ensures c.deref.result.now c.deref.ensures.value) in
    let mapped = length-map c.deref.result.now parameter_of in
    let vars = ap (vars_size (loop_index (program c.args.kernel.now))) (vars_listed c.args.kernel.now c.kernel-tree.result.now c.kernel-tree.ensures c.deref-2.result.now c.deref-2.ensures.value) in
    let loop = ap for_loop_size (same_loop c.args.kernel.now c.kernel-tree.result.now c.kernel-tree.ensures) in
    let answer = ap (answer_size (loop_index (program c.args.kernel.now))) (same_answer c.args.kernel.now c.kernel-tree.result.now c.kernel-tree.ensures) in
    omega (arith, none, params, mapped, vars, loop, answer, c.list_params.ensures.len, c.list_vars.ensures.len, c.list_for_loop.ensures.len, c.list_answer.ensures.len, c.few_items.ensures.size)
