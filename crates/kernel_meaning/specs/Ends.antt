-- How statements and loops end. The store is what they change beside the memory: names, or slots.
use Rattle.std.specs.Prelude.{ℕ}
use Rattle.guest_types.specs.Memory.{Memory}

-- How statements end: the next one follows, a `break` ended the loop, or an access faulted. The memory is what the writes
-- before that left.
pub data BlockEnd (Store : Type 0) : Type 0 where
  Next : (memory : Memory) (store : Store) → BlockEnd Store
  Broke : (memory : Memory) (store : Store) → BlockEnd Store
  Faulted : (memory : Memory) → BlockEnd Store

-- How a loop stands after some iterations: it goes on, iteration i broke out of it, or iteration i faulted.
pub data LoopState (Store : Type 0) : Type 0 where
  Going : (memory : Memory) (store : Store) → LoopState Store
  Left : (memory : Memory) (store : Store) (i : ℕ) → LoopState Store
  Failed : (memory : Memory) (i : ℕ) → LoopState Store

-- after iteration i, which ended so
abbrev pub go_on : {Store : Type 0} → BlockEnd Store → ℕ → (Memory → Store → LoopState Store) → LoopState Store
go_on (Next memory store) i rest = rest memory store
go_on (Broke memory store) i rest = Left memory store i
go_on (Faulted memory) i rest = Failed memory i
