use Rattle.std.proofs.Common.{◌++◌, ap, arith}
use Rattle.std.proofs.lemmas.Result.{IfOk-from_err}
use Rattle.loop_form.specs.Places.{places_from}
use Rattle.loop_form.specs.View.{entries_view}
use Rattle.loop_lists.proofs.Steps.{few_more, more_places, all_places}
use Rattle.loop_lists.proofs.places.places_from.Goals as goal

pub loop-entry-preserved : goal.loop-entry-preserved
loop-entry-preserved c =
    let l = c.loop-entry in
    record {
      small = few_more l.next c.args.first l.entry-index c.from-next.result _ c.from-next.ensures l.invariant.small;
      places = more_places c.args.class (entries_view c.args.all.now) c.args.some.now l.entry-index c.entry-item.result l.next c.from-next.result c.is_some-is_made.result c.then_some.result c.last_use_if_made.result _ _ _ c.loop-entry-test.true c.entry-item.is c.last_use_if_made.ensures c.is_some-is_made.ensures c.then_some.ensures c.from-next.ensures c.in_ok-push.ensures.items l.invariant.places;
    }

pub returns : goal.returns
returns c = all_places c.args.class (entries_view c.args.all.now) c.args.some.now c.loop-entry.entry-index c.loop-entry.next _ _ c.loop-entry-test.false c.loop-entry.invariant.places

pub loop-entry-init : goal.loop-entry-init
loop-entry-init c = record {
  small = omega arith;
  places = ap (λ l. l ++ places_from c.args.class (entries_view c.args.all.now) c.args.first (entries_view c.args.some.now)) c.new-places.ensures.items;
}

pub returns-in_err-push : goal.returns-in_err-push
returns-in_err-push c = IfOk-from_err c.from_residual.result _ c.from_residual.ensures.0

pub overflow_add-next : goal.overflow_add-next
overflow_add-next c =
    let l = c.loop-entry in
    let few = few_more l.next c.args.first l.entry-index c.from-next.result c.is_some-is_made.result c.from-next.ensures l.invariant.small in
    record { fits = omega (arith, few, c.requires, c.loop-entry-test.true) }
