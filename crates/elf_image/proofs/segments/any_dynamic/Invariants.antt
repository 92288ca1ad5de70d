use Rattle.std.proofs.Common.{◌≡◌, drop}
use Rattle.machine_model.specs.Load.{any_segment, is_dynamic}
use Rattle.elf_image.proofs.segments.any_dynamic.Given as goal

abbrev pub invariant-loop-segment : goal.invariant-loop-segment
invariant-loop-segment l = any_segment is_dynamic (drop l.segment-index l.segments) ≡ any_segment is_dynamic l.segments
