use Rattle.std.proofs.Common.{◌≡◌}
use Rattle.machine_model.specs.Load.{segments_from}
use Rattle.elf_image.proofs.segments.read_all.Given as goal

abbrev pub invariant-loop-index : goal.invariant-loop-index
invariant-loop-index l = l.segments.items ≡ segments_from l.bytes l.at l.index
