use Rattle.std.proofs.Common.{◌+◌, ◌-◌, ◌++◌, ◌∙◌, length, take, drop, ap, arith}
use Rattle.kernel_tree.specs.Plain.{accumulators_of}
use Rattle.kernel_tree.specs.Items.{loop_index, vars_size}
use Rattle.kernel_tree.proofs.Walks.{opened, empty_below_one}
use Rattle.loop_form.specs.Entries.{vars_entries}
use Rattle.loop_form.specs.View.{program, entries_view}
use Rattle.loop_lists.proofs.Lists.{append_of_empty, followed}
use Rattle.loop_lists.proofs.walk.+list_vars.Goals as goal

pub returns-in_default-clause-items : goal.returns-in_default-clause-items
returns-in_default-clause-items t c =
    append_of_empty _ _ (ap (λ vs. vars_entries (program c.args.at.kernel.now) c.args.at.from (accumulators_of vs)) (empty_below_one c.args.vars.now c.in_default.len_below))

pub returns-in_default-clause-len : goal.returns-in_default-clause-len
returns-in_default-clause-len t c =
    let none = ap (λ vs. vars_size (loop_index (program c.args.at.kernel.now)) (accumulators_of vs)) (empty_below_one c.args.vars.now c.in_default.len_below) in
    omega (arith, none)

pub slice_bounds-rest-count : goal.slice_bounds-rest-count
slice_bounds-rest-count t c = c.in-len1-up.len_at_least

pub bounds-vars-0 : goal.bounds-vars-0
bounds-vars-0 t c = c.in-len1-up.len_at_least

pub slice_bounds-rest-start : goal.slice_bounds-rest-start
slice_bounds-rest-start t c = c.in-len1-up.len_at_least

pub slice_bounds-rest-end : goal.slice_bounds-rest-end
slice_bounds-rest-end t c = omega arith

pub expr_size-requires : goal.expr_size-requires
expr_size-requires t c =
    let whole = ap (λ vs. vars_size (loop_index (program c.args.at.kernel.now)) (accumulators_of vs)) (opened c.args.vars.now c.var-item.result c.in-len1-up.len_at_least c.var-item.is) in
    omega (arith, whole, c.requires.fits)

pub overflow_add-next : goal.overflow_add-next
overflow_add-next t c =
    let whole = ap (λ vs. vars_size (loop_index (program c.args.at.kernel.now)) (accumulators_of vs)) (opened c.args.vars.now c.var-item.result c.in-len1-up.len_at_least c.var-item.is) in
    record { fits = omega (arith, whole, c.requires.fits, c.expr_size.ensures) }

pub overflow_add-next-2 : goal.overflow_add-next-2
overflow_add-next-2 t c =
    let whole = ap (λ vs. vars_size (loop_index (program c.args.at.kernel.now)) (accumulators_of vs)) (opened c.args.vars.now c.var-item.result c.in-len1-up.len_at_least c.var-item.is) in
    record { fits = omega (arith, whole, c.requires.fits, c.expr_size.ensures) }

pub list_ended-requires-clause-following : goal.list_ended-requires-clause-following
list_ended-requires-clause-following t c = c.requires.following

pub list_ended-requires-clause-fits : goal.list_ended-requires-clause-fits
list_ended-requires-clause-fits t c =
    let whole = ap (λ vs. vars_size (loop_index (program c.args.at.kernel.now)) (accumulators_of vs)) (opened c.args.vars.now c.var-item.result c.in-len1-up.len_at_least c.var-item.is) in
    omega (arith, whole, c.requires.fits)

pub list_vars-requires : goal.list_vars-requires
list_vars-requires t c =
    let parts = opened c.args.vars.now c.var-item.result c.in-len1-up.len_at_least c.var-item.is in
    let whole = ap (λ vs. vars_size (loop_index (program c.args.at.kernel.now)) (accumulators_of vs)) parts in
    let fewer = ap length parts in
    (omega (arith, c.decreases, fewer), (omega (arith, c.requires.following, c.list_ended.ensures.len, c.expr_size.ensures), omega (arith, whole, c.requires.fits, c.expr_size.ensures)))

pub returns-clause-items : goal.returns-clause-items
returns-clause-items t c =
    let k = program c.args.at.kernel.now in
    let rest = accumulators_of (take (length c.args.vars.now - 1) (drop 1 c.args.vars.now)) in
    let whole = ap (λ vs. vars_entries k c.args.at.from (accumulators_of vs)) (opened c.args.vars.now c.var-item.result c.in-len1-up.len_at_least c.var-item.is) in
    followed (entries_view c.args.entries.now.items) (entries_view c.list_ended.new.entries.items) _ _ _ _ _
    c.list_ended.ensures.items (c.list_vars.ensures.items ∙ ap (λ n. entries_view c.list_ended.new.entries.items ++ vars_entries k (c.args.at.from + n + 1) rest) c.expr_size.ensures) whole

pub returns-clause-len : goal.returns-clause-len
returns-clause-len t c =
    let whole = ap (λ vs. vars_size (loop_index (program c.args.at.kernel.now)) (accumulators_of vs)) (opened c.args.vars.now c.var-item.result c.in-len1-up.len_at_least c.var-item.is) in
    omega (arith, whole, c.list_ended.ensures.len, c.list_vars.ensures.len)
