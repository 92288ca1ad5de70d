-- The bytes that items read and store, and stops at one of them.
use Rattle.std.specs.Prelude.{◌≡◌, ◌⊎◌, ℕ, ◌+◌, ◌%◌, ◌^◌, ◌<◌, ◌≤◌, ℤ, pos, ◌+ℤ◌, List, [], ◌∷◌, Some}
use Rattle.guest_types.specs.Memory.{Memory}
use Rattle.kernel_tree.specs.declared.ops.Ty.{Ty}
use Rattle.kernel_tree.specs.Wrap.{byte_count}
use Rattle.kernel_meaning.specs.Eval.{Names, address}
use Rattle.machine_model.specs.declared.outcome.StopKind.{StopKind}
use Rattle.machine_model.specs.declared.outcome.StopKind.TheVariants.{Read, Write}
use Rattle.machine_model.specs.Machine.{State}
use Rattle.label_fix.specs.DraftRun.{DraftEntry, Laid}
use Rattle.label_fix.specs.Stretches.{Stops}
use Rattle.loop_form.specs.declared.loop_item.Operand.TheVariants.{Outer}
use Rattle.loop_form.specs.LoopItems.{Op, Item}
use Rattle.loop_form.specs.LoopItems as ops
use Rattle.vector_order.specs.Operands.{nth_value, index_value}
use Rattle.chunk_emit.specs.Chunk.{Setting}
use Rattle.chunk_emit.specs.Fits.{IsReach}

-- a byte of the element of a type at an address
abbrev pub IsByteOf : Ty → (first at : ℕ) → Type 0
IsByteOf t first at = (u : ℕ) × (u < byte_count t) × (at ≡ (first + u) % 2 ^ 64)

-- iteration j comes to a byte by an operation: that of an element which it reads, or stores
abbrev pub ComesTo : Names → Op → StopKind → (j at : ℕ) → Type 0
ComesTo names (ops.Load a (Outer x) (Some t) c) kind j at = (kind ≡ Read) × IsByteOf t (address t (nth_value names x) (pos j +ℤ c)) at
ComesTo names (ops.Gather a (Outer x) (Some t) r u y) kind j at = (kind ≡ Read) × IsReach r × (z : ℤ) × IsByteOf t (address t (nth_value names x) (index_value r z)) at
ComesTo names (ops.Store a (Outer x) (Some t) c v) kind j at = (kind ≡ Write) × IsByteOf t (address t (nth_value names x) (pos j +ℤ c)) at
ComesTo names _ kind j at = ⊥

-- the same by one of some items
abbrev pub OneComesTo : Names → List Item → StopKind → (j at : ℕ) → Type 0
OneComesTo names [] kind j at = ⊥
OneComesTo names (it ∷ items) kind j at = ComesTo names it.op kind j at ⊎ OneComesTo names items kind j at

-- an iteration of the chunk comes to the byte by an operation
abbrev pub ChunkComesTo : Setting → Op → StopKind → (at : ℕ) → Type 0
ChunkComesTo f op kind at = (j : ℕ) × (f.i ≤ j) × (j < f.i + f.n) × ComesTo f.names op kind j at

-- one of n iterations from iteration i on comes to it by one of some items
abbrev pub SomeComesTo : Names → List Item → (i n : ℕ) → StopKind → (at : ℕ) → Type 0
SomeComesTo names items i n kind at = (j : ℕ) × (i ≤ j) × (j < i + n) × OneComesTo names items kind j at

-- at most so many words lead to a stop of this kind that leaves this memory, at an address of which this holds
pub record StopsAt (d : Laid) (c : List DraftEntry) (s : State) (kind : StopKind) (m : Memory) (most : ℕ) (place : ℕ → Type 0) : Type 0 where
  pub stop : Stops d c s kind m most
  pub near : place stop.at
