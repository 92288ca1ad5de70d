use Rattle.std.proofs.Common.{◌≡◌, ◌*◌, ◌^◌, ◌≤◌, take, sum_by}
use Rattle.machine_model.specs.Load.{page_count}
use Rattle.elf_image.proofs.segments.has_too_many_pages.Given as goal

abbrev pub invariant-loop-segment : goal.invariant-loop-segment
invariant-loop-segment l = record {
  sum : l.total ≡ sum_by page_count (take l.segment-index l.segments);
  bound : l.total ≤ l.segment-index * 2 ^ 54;
}
