use Rattle.std.proofs.Common.{◌≡◌, drop}
use Rattle.guest_types.specs.declared.length.Width.TheVariants.{B}
use Rattle.loop_form.specs.Lanes.{widest}
use Rattle.loop_form.specs.View.{program, entries_view}
use Rattle.loop_lists.proofs.widest_type.widest_of.Given as goal

abbrev pub invariant-loop-entry : goal.invariant-loop-entry
invariant-loop-entry l = widest (program l.fn.kernel) l.width (entries_view (drop l.entry-index l.entries)) ≡ widest (program l.fn.kernel) B (entries_view l.entries)
