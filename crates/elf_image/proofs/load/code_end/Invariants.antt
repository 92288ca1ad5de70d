use Rattle.std.proofs.Common.{◌≡◌, drop}
use Rattle.machine_model.specs.Load.{code_end_of}
use Rattle.elf_image.proofs.load.code_end.Given as goal

abbrev pub invariant-loop-segment : goal.invariant-loop-segment
invariant-loop-segment l = code_end_of l.entry (drop l.segment-index l.segments) ≡ code_end_of l.entry l.segments
