use Rattle.std.proofs.Common.{◌≡◌, length, ap, sym, arith, subst}
use Rattle.std.proofs.lemmas.List.{length-map}
use Rattle.kernel_tree.specs.Items.{loop_index}
use Rattle.loop_form.specs.Entries.{loop_entries}
use Rattle.loop_form.specs.Near.{AreNear}
use Rattle.loop_form.specs.View.{program, entry_of, entries_view}
use Rattle.loop_lists.proofs.LoopParts.{no_more_in_loop}
use Rattle.loop_lists.proofs.entry_list.few_looped.Goals as goal

pub returns-clause-small : goal.returns-clause-small
returns-clause-small c =
    let k = program c.args.kernel.now in
    let looped : length (entries_view c.args.looped.now) ≡ length (loop_entries k) = ap length c.requires in
    let viewed = length-map c.args.looped.now entry_of in
    omega (arith, looped, viewed, no_more_in_loop k, c.numbered_items.ensures.count, c.few_items.ensures.size)

pub returns-clause-near : goal.returns-clause-near
returns-clause-near c = subst (AreNear (loop_index (program c.args.kernel.now))) (sym c.requires) c.near_offsets.ensures
