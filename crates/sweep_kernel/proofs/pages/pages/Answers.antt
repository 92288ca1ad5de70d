use Rattle.std.proofs.Common.{sym, subst}
use Rattle.guest_types.specs.Memory.{IsMemory}
use Rattle.sweep_kernel.proofs.PagesMemory.{are_memory}
use Rattle.sweep_kernel.proofs.pages.pages.Goals as goal

pub invariant_of-result : goal.invariant_of-result
invariant_of-result c = record { in_order = subst IsMemory (sym c.in_ok-pages.ensures) (are_memory c.args.seed) }
