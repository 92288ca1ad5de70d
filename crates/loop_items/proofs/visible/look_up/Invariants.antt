use Rattle.std.proofs.Common.{◌≡◌, drop}
use Rattle.std.specs.List.{find}
use Rattle.kernel_tree.specs.Typing.{has_name}
use Rattle.loop_form.specs.LoopView.{locals}
use Rattle.loop_items.proofs.visible.look_up.Given as goal

abbrev pub invariant-loop-visible : goal.invariant-loop-visible
invariant-loop-visible l = find (has_name l.name) (locals (drop l.visible-index l.names)) ≡ find (has_name l.name) (locals l.names)
