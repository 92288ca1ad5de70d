use Rattle.loop_form.specs.Listing.{names}
use Rattle.loop_form.specs.View.{entry_of}
use Rattle.loop_lists.proofs.Steps.{any_past, list_any_of_next, any_none}
use Rattle.loop_lists.proofs.held_throughout.is_named.Goals as goal

pub loop-entry-preserved : goal.loop-entry-preserved
loop-entry-preserved c = any_past entry_of (names c.args.name.now) c.args.entries.now c.loop-entry.entry-index c.entry-item.result _ _ c.loop-entry-test.true c.entry-item.is c.is_name.ensures c.if-is_name.false c.loop-entry.invariant

pub returns : goal.returns
returns c = any_none entry_of (names c.args.name.now) c.args.entries.now c.loop-entry.entry-index _ c.loop-entry-test.false c.loop-entry.invariant

pub returns-then-is_name : goal.returns-then-is_name
returns-then-is_name c = list_any_of_next entry_of (names c.args.name.now) c.args.entries.now c.loop-entry.entry-index c.entry-item.result _ _ c.loop-entry-test.true c.entry-item.is c.is_name.ensures c.if-is_name.true c.loop-entry.invariant
