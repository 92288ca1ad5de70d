use Rattle.std.proofs.Common.{◌≡◌, drop}
use Rattle.loop_form.specs.LoopItems.{operand_at}
use Rattle.loop_form.specs.LoopView.{env_of}
use Rattle.loop_items.proofs.visible.operand_of.Given as goal

abbrev pub invariant-loop-visible : goal.invariant-loop-visible
invariant-loop-visible l = operand_at (env_of (drop l.visible-index l.names)) l.name ≡ operand_at (env_of l.names) l.name
