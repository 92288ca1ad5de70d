use Rattle.std.proofs.Common.{◌≡◌, drop}
use Rattle.machine_model.specs.Load.{first_bad}
use Rattle.elf_image.proofs.segments.first_bad.Given as goal

abbrev pub invariant-loop-index : goal.invariant-loop-index
invariant-loop-index l = first_bad l.size l.index (drop l.index l.segments) ≡ first_bad l.size 0 l.segments
