use Rattle.std.proofs.Common.{◌≡◌, ◌*◌, ◌≤◌}
use Rattle.sweep_kernel.specs.Pages.{sum_from}
use Rattle.sweep_kernel.proofs.pages.byte_sum.Given as goal

abbrev pub invariant-loop-i : goal.invariant-loop-i
invariant-loop-i l = (l.sum ≡ sum_from l.pages.memory 0x3000000 l.i) × (l.sum ≤ 255 * l.i)
