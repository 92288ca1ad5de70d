use Rattle.std.proofs.Common.{◌≡◌, take, flat_map}
use Rattle.machine_model.specs.Load.{pages_of}
use Rattle.elf_image.proofs.pages.pages_of_all.Given as goal

abbrev pub invariant-loop-segment : goal.invariant-loop-segment
invariant-loop-segment l = l.pages.items ≡ flat_map (pages_of l.bytes) (take l.segment-index l.segments)
