use Rattle.std.proofs.Common.{◌≡◌, ◌++◌}
use Rattle.sweep_kernel.specs.Pages.{zero_page, pages_from}
use Rattle.sweep_kernel.proofs.pages.push_zeros.Given as goal

abbrev pub invariant-loop-p : goal.invariant-loop-p
invariant-loop-p l = l.pages.items ≡ l.initial.pages.items ++ pages_from l.first zero_page l.p
