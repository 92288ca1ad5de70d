use Rattle.std.proofs.Common.{ap, ◌∙◌}
use Rattle.std.specs.Prelude.{ℤ}
use Rattle.std.specs.Int.{w128}
use Rattle.std.specs.List.{list_any}
use Rattle.std.proofs.lemmas.Int.{to_z-of_z}
use Rattle.loop_form.specs.Needs.{is_constant}
use Rattle.loop_form.specs.View.{entry_of, entries_view}
use Rattle.loop_lists.proofs.Steps.{any_past, list_any_of_next, any_none}
use Rattle.loop_lists.proofs.held_throughout.occurs.Goals as goal

pub loop-entry-preserved : goal.loop-entry-preserved
loop-entry-preserved c = any_past entry_of (is_constant c.args.ty _) c.args.before.now c.loop-entry.entry-index c.entry-item.result _ _ c.loop-entry-test.true c.entry-item.is c.is_constant_of.ensures c.if-is_constant_of.false c.loop-entry.invariant

pub returns : goal.returns
returns c = any_none entry_of (is_constant c.args.ty _) c.args.before.now c.loop-entry.entry-index _ c.loop-entry-test.false c.loop-entry.invariant ∙ ap (λ (v : ℤ). list_any (is_constant c.args.ty v) (entries_view c.args.before.now)) (to_z-of_z w128 c.args.value c.ranges.value)

pub returns-then-is_constant_of : goal.returns-then-is_constant_of
returns-then-is_constant_of c =
    list_any_of_next entry_of (is_constant c.args.ty _) c.args.before.now c.loop-entry.entry-index c.entry-item.result _ _ c.loop-entry-test.true c.entry-item.is c.is_constant_of.ensures c.if-is_constant_of.true c.loop-entry.invariant
    ∙ ap (λ (v : ℤ). list_any (is_constant c.args.ty v) (entries_view c.args.before.now)) (to_z-of_z w128 c.args.value c.ranges.value)
