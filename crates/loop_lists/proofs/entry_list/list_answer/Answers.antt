use Rattle.std.proofs.Common.{◌++◌, sym, ap, ◌∙◌, arith}
use Rattle.std.specs.Prelude.{option_map}
use Rattle.kernel_tree.specs.Plain.{returned_of}
use Rattle.kernel_tree.specs.Items.{loop_index, answer_size}
use Rattle.loop_form.specs.Entries.{answer_entries}
use Rattle.loop_form.specs.View.{program, entries_view}
use Rattle.loop_lists.proofs.Lists.{append_of_empty}
use Rattle.loop_lists.proofs.entry_list.list_answer.Goals as goal

pub list_ended-requires-clause-following : goal.list_ended-requires-clause-following
list_ended-requires-clause-following c = c.requires.following

pub list_ended-requires-clause-fits : goal.list_ended-requires-clause-fits
list_ended-requires-clause-fits c =
    let size = ap (λ o. answer_size (loop_index (program c.args.kernel.now)) (option_map returned_of o)) c.in-Some.is in
    omega (arith, size, c.requires.fits)

pub returns-in-Some-clause-items : goal.returns-in-Some-clause-items
returns-in-Some-clause-items c =
    c.list_ended.ensures.items ∙ sym (ap (λ o. entries_view c.args.entries.now.items ++ answer_entries (program c.args.kernel.now) c.args.from (option_map returned_of o)) c.in-Some.is)

pub returns-in-Some-clause-len : goal.returns-in-Some-clause-len
returns-in-Some-clause-len c =
    let size = ap (λ o. answer_size (loop_index (program c.args.kernel.now)) (option_map returned_of o)) c.in-Some.is in
    omega (arith, size, c.list_ended.ensures.len)

pub returns-in_default-clause-items : goal.returns-in_default-clause-items
returns-in_default-clause-items c = append_of_empty _ _ (ap (λ o. answer_entries (program c.args.kernel.now) c.args.from (option_map returned_of o)) c.in_default.is)

pub returns-in_default-clause-len : goal.returns-in_default-clause-len
returns-in_default-clause-len c =
    let none = ap (λ o. answer_size (loop_index (program c.args.kernel.now)) (option_map returned_of o)) c.in_default.is in
    omega (arith, none)
