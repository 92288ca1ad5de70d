use Rattle.std.proofs.Common.{◌≡◌, ◌++◌, drop}
use Rattle.std.specs.Prelude.{filter_map}
use Rattle.loop_form.specs.Needs.{span_of}
use Rattle.loop_form.specs.View.{entries_view}
use Rattle.loop_lists.proofs.values.push_spans.Given as goal

abbrev pub invariant-loop-entry : goal.invariant-loop-entry
invariant-loop-entry l = l.spans.items ++ filter_map (span_of l.fn.class (entries_view l.fn.all)) (entries_view (drop l.entry-index l.some)) ≡ l.fn.spans.items ++ filter_map (span_of l.fn.class (entries_view l.fn.all)) (entries_view l.some)
