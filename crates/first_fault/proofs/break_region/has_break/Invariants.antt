use Rattle.std.proofs.Common.{◌≡◌, drop}
use Rattle.std.specs.List.{list_any}
use Rattle.loop_form.specs.LoopView.{view}
use Rattle.first_fault.specs.BreakRegion.{is_loop_break}
use Rattle.first_fault.proofs.break_region.has_break.Given as goal

abbrev pub invariant-loop-item : goal.invariant-loop-item
invariant-loop-item l = list_any is_loop_break (view (drop l.item-index l.items)) ≡ list_any is_loop_break (view l.items)
