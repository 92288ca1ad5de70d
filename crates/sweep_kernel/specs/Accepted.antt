-- A sweep's kernel is compiled whatever its seed.
use Rattle.std.specs.Prelude.{◌≡◌, ℕ, None}
use Rattle.kernel_front.specs.Verdict.{Sound, IsVerdict}
use Rattle.promises.specs.Refusals.{too_many}
use Rattle.sweep_kernel.specs.KernelText.{kernel_text}
use Rattle.sweep_kernel.specs.Tree.{kernel_of}

-- the text of a seed is a sound kernel, of which no more values are live than there are registers
pub record IsAccepted (seed : ℕ) : Type 0 where
  pub sound : IsVerdict (kernel_text seed) (Sound (kernel_of seed))
  pub enough : too_many (kernel_of seed) ≡ None

abbrev pub AllAccepted : Type 0
AllAccepted = (seed : ℕ) → IsAccepted seed
