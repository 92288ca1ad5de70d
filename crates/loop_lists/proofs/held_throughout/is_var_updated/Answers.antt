use Rattle.std.proofs.Common.{List, ℕ, ap, ◌∙◌}
use Rattle.std.specs.List.{list_any}
use Rattle.loop_form.specs.Needs.{updates}
use Rattle.loop_form.specs.View.{entry_of, entries_view}
use Rattle.loop_lists.proofs.Steps.{any_past, list_any_of_next, any_none}
use Rattle.loop_lists.proofs.held_throughout.is_var_updated.Goals as goal

pub loop-entry-preserved : goal.loop-entry-preserved
loop-entry-preserved c = any_past entry_of (updates c.text-name.result.now) c.args.entries.now c.loop-entry.entry-index c.entry-item.result _ _ c.loop-entry-test.true c.entry-item.is c.is_update_of.ensures c.if-is_update_of.false c.loop-entry.invariant

pub returns : goal.returns
returns c = any_none entry_of (updates c.text-name.result.now) c.args.entries.now c.loop-entry.entry-index _ c.loop-entry-test.false c.loop-entry.invariant ∙ ap (λ (x : List ℕ). list_any (updates x) (entries_view c.args.entries.now)) c.text-name.ensures

pub returns-then-is_update_of : goal.returns-then-is_update_of
returns-then-is_update_of c = list_any_of_next entry_of (updates c.text-name.result.now) c.args.entries.now c.loop-entry.entry-index c.entry-item.result _ _ c.loop-entry-test.true c.entry-item.is c.is_update_of.ensures c.if-is_update_of.true c.loop-entry.invariant ∙ ap (λ (x : List ℕ). list_any (updates x) (entries_view c.args.entries.now)) c.text-name.ensures
