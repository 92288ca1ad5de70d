-- A memory with what it was at earlier times.
use Rattle.std.specs.Prelude.{List}
use Rattle.guest_types.specs.Memory.{Memory}

-- a memory, and what it was each time that it was kept, oldest first
pub record Paged : Type 0 where
  pub memory : Memory
  pub past : List Memory
