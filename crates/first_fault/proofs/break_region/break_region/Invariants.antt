use Rattle.std.proofs.Common.{◌≡◌, drop}
use Rattle.loop_form.specs.LoopView.{view}
use Rattle.first_fault.specs.View.{region_size, size_from}
use Rattle.first_fault.proofs.break_region.break_region.Given as goal

abbrev pub invariant-loop-item : goal.invariant-loop-item
invariant-loop-item l = record {
  place : l.place ≡ l.item-index;
  size : size_from l.size l.place (view (drop l.item-index l.items)) ≡ region_size (view l.items);
}
