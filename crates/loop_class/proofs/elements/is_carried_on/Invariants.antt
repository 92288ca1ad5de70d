use Rattle.std.proofs.Common.{◌≡◌, drop}
use Rattle.std.specs.List.{list_any}
use Rattle.dependence.specs.Classes.{is_carried}
use Rattle.loop_class.proofs.elements.is_carried_on.Given as goal

abbrev pub invariant-loop-stream : goal.invariant-loop-stream
invariant-loop-stream l = list_any (is_carried l.fn.width l.fn.earlier) (drop l.stream-index l.later) ≡ list_any (is_carried l.fn.width l.fn.earlier) l.later
