use Rattle.std.proofs.Common.{ap, ◌∙◌}
use Rattle.std.specs.Option.{option_and_then}
use Rattle.std.proofs.lemmas.Bool.{eq-eqb, ne_eqb}
use Rattle.loop_form.specs.Reaches.{has_number, reach_of}
use Rattle.loop_form.specs.View.{program, entry_of}
use Rattle.loop_lists.proofs.Steps.{find_past, find_here, find_none}
use Rattle.loop_lists.proofs.reached.reach_among.Goals as goal

pub loop-entry-preserved : goal.loop-entry-preserved
loop-entry-preserved c = find_past entry_of (has_number c.args.item) c.args.entries.now c.loop-entry.entry-index c.entry-item.result _ c.loop-entry-test.true c.entry-item.is (ne_eqb _ _ c.if-entry-item.false) c.loop-entry.invariant

pub returns : goal.returns
returns c = ap (option_and_then (reach_of (program c.args.kernel.now))) (find_none entry_of (has_number c.args.item) c.args.entries.now c.loop-entry.entry-index _ c.loop-entry-test.false c.loop-entry.invariant)

pub returns-then-entry-item : goal.returns-then-entry-item
returns-then-entry-item c = c.entry_reach.ensures ∙ ap (option_and_then (reach_of (program c.args.kernel.now))) (find_here entry_of (has_number c.args.item) c.args.entries.now c.loop-entry.entry-index c.entry-item.result _ c.loop-entry-test.true c.entry-item.is (eq-eqb _ _ c.if-entry-item.true) c.loop-entry.invariant)
