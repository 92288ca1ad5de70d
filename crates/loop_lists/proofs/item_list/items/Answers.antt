use Rattle.std.proofs.Common.{◌+◌, ◌++◌, map, drop, refl, ap}
use Rattle.std.proofs.lemmas.Result.{IfOk-from_err}
use Rattle.kernel_tree.proofs.Walks.{next_item}
use Rattle.loop_form.specs.Listing.{item_of}
use Rattle.loop_form.specs.View.{entry_of, entries_view}
use Rattle.loop_form.proofs.LoopLists.{one-more}
use Rattle.loop_lists.proofs.Loops.{all_put}
use Rattle.loop_lists.proofs.item_list.items.Goals as goal

pub loop-entry-preserved : goal.loop-entry-preserved
loop-entry-preserved c =
    let l = c.loop-entry in
    let all = c.args.all.now in
    let e = next_item all l.entry-index c.entry-item.result c.loop-entry-test.true c.entry-item.is in
    one-more entry_of (item_of (entries_view all)) (drop (l.entry-index + 1) all) (drop l.entry-index all) c.entry-item.result c.push.new.self.items l.items.items (map (item_of (entries_view all)) (entries_view all)) c.item.result e c.in_ok-push.ensures.items c.item.ensures l.invariant

pub loop-entry-init : goal.loop-entry-init
loop-entry-init c = ap (λ is. is ++ map (item_of (entries_view c.args.all.now)) (entries_view c.args.all.now)) c.new-items.ensures.items

pub returns : goal.returns
returns c = all_put (λ es. map (item_of (entries_view c.args.all.now)) (entries_view es)) c.args.all.now c.loop-entry.entry-index c.loop-entry.items.items _ refl c.loop-entry-test.false c.loop-entry.invariant

pub returns-in_err-push : goal.returns-in_err-push
returns-in_err-push c = IfOk-from_err c.from_residual.result _ c.from_residual.ensures.0
