use Rattle.std.proofs.Common.{◌+◌, ap, sym, ◌∙◌, drop, arith}
use Rattle.std.specs.Prelude.{slice_index_or}
use Rattle.loop_form.specs.LoopView.{view_of, view}
use Rattle.loop_form.specs.LoopItems.{Item}
use Rattle.chunk_emit.proofs.StepCode.{no_item, at_place}
use Rattle.first_fault.specs.View.{size_from}
use Rattle.first_fault.proofs.Sizes.{at_item}
use Rattle.first_fault.proofs.break_region.break_region.Goals as goal

pub loop-item-preserved : goal.loop-item-preserved
loop-item-preserved c =
    let l = c.loop-item in
    let it : Item = view_of (slice_index_or c.args.items.now l.item-index no_item) in
    let same = l.invariant.place in
    record {
      place = omega (arith, same);
      size = ap (λ n. size_from n (l.place + 1) (view (drop (l.item-index + 1) c.args.items.now))) c.with_item-size.ensures
          ∙ at_item l.size l.place it (view (drop (l.item-index + 1) c.args.items.now)) ∙ ap (size_from l.size l.place) (sym (at_place c.args.items.now l.item-index no_item c.loop-item-test.true)) ∙ l.invariant.size;
    }
