use Rattle.std.proofs.Common.{◌≡◌, drop}
use Rattle.dependence.specs.Classes.{carried}
use Rattle.loop_class.proofs.elements.carries.Given as goal

abbrev pub invariant-loop-stream : goal.invariant-loop-stream
invariant-loop-stream l = record {
  place : l.following ≡ l.stream-index;
  rest : carried l.fn.width (drop l.stream-index l.streams) ≡ carried l.fn.width l.streams;
}
