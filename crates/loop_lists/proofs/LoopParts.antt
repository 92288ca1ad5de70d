-- The items of the loop are no more than all items of the kernel.
use Rattle.std.proofs.Common.{◌≤◌, ◌++◌, length, arith, length-append}
use Rattle.kernel_tree.specs.Plain.{Program}
use Rattle.kernel_tree.specs.Items.{loop_end}
use Rattle.loop_form.specs.Entries.{params_entries, vars_entries, answer_entries, loop_entries, entries_of}

pub no_more_in_loop : (k : Program) → length (loop_entries k) ≤ length (entries_of k)
no_more_in_loop k =
    let params = params_entries k 0 k.params in
    let vars = vars_entries k (length k.params) k.vars in
    let looped = loop_entries k in
    let answer = answer_entries k (loop_end k) k.answer in
    omega (arith, length-append params (vars ++ (looped ++ answer)), length-append vars (looped ++ answer), length-append looped answer)
