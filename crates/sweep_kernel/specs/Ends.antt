-- A sweep's kernel ends over its pages.
use Rattle.std.specs.Prelude.{◌≡◌, ℕ}
use Rattle.guest_types.specs.Memory.{Memory, DoNotMeet, merged}
use Rattle.kernel_meaning.specs.ScalarRun.{End, scalar_run}
use Rattle.sweep_kernel.specs.Numbers.{count_of, arguments_of}
use Rattle.sweep_kernel.specs.Tree.{kernel_of}
use Rattle.sweep_kernel.specs.Pages.{pages_of}

-- with a program's pages beside those of the seed, the kernel runs all its iterations and returns a result
pub record EndsOver (program : Memory) (seed : ℕ) : Type 0 where
  pub memory : Memory
  pub result : ℕ
  pub ends : scalar_run (kernel_of seed) (arguments_of seed) (merged program (pages_of seed)) ≡ End memory result (count_of seed)

abbrev pub AllEnd : Type 0
AllEnd = (program : Memory) (seed : ℕ) → DoNotMeet program (pages_of seed) → EndsOver program seed
