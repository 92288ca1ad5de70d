use Rattle.std.proofs.Common.{◌≡◌, length, ap, arith}
use Rattle.std.proofs.lemmas.List.{length-map}
use Rattle.loop_form.specs.Entries.{entries_of}
use Rattle.loop_form.specs.View.{program, entry_of, entries_view}
use Rattle.loop_lists.proofs.entry_list.item_count.Goals as goal

pub overflow_cast-result : goal.overflow_cast-result
overflow_cast-result c =
    let k = program c.args.kernel.now in
    let all : length (entries_view c.args.all.now) ≡ length (entries_of k) = ap length c.requires in
    let viewed = length-map c.args.all.now entry_of in
    omega (arith, all, viewed, c.numbered_items.ensures.count, c.few_items.ensures.size)

pub returns : goal.returns
returns c =
    let k = program c.args.kernel.now in
    let all : length (entries_view c.args.all.now) ≡ length (entries_of k) = ap length c.requires in
    let viewed = length-map c.args.all.now entry_of in
    omega (arith, all, viewed, c.numbered_items.ensures.count)
