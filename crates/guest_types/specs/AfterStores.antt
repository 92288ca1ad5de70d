-- The memories that stores lead to. All that a machine does to memory is stores, so what every store keeps stays.
use Rattle.std.specs.Prelude.{◌≡◌, ℕ, Ok}
use Rattle.guest_types.specs.Memory.{Memory, stored}

-- the second memory is left by some stores, one after another, in the first; none of them faulted
pub data AfterStores : Memory → Memory → Type 0 where
  Unchanged : (memory : Memory) → AfterStores memory memory
  Stored : (before between after : Memory) (address size v : ℕ) → stored before address size v ≡ Ok between → AfterStores between after → AfterStores before after
