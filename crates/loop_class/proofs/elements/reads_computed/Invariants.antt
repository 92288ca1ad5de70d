use Rattle.std.proofs.Common.{◌≡◌, drop}
use Rattle.loop_form.specs.View.{program, entries_view}
use Rattle.dependence.specs.Classes.{computed_index}
use Rattle.loop_class.proofs.elements.reads_computed.Given as goal

abbrev pub invariant-loop-entry : goal.invariant-loop-entry
invariant-loop-entry l = record {
  place : l.following ≡ l.entry-index;
  rest : computed_index (program l.fn.kernel) (entries_view l.entries) (entries_view (drop l.entry-index l.entries)) ≡ computed_index (program l.fn.kernel) (entries_view l.entries) (entries_view l.entries);
}
