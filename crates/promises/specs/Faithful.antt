-- What a compiled file owes its kernel.
use Rattle.std.specs.Prelude.{◌≡◌, ℕ, ◌+◌, ◌*◌, ◌<◌, ◌≤◌, ◌^◌, ℤ, pos, ◌+ℤ◌, ◌*ℤ◌, List, length, slice_get, slice_index, Option, Some, None, Ok, All, Contains, true}
use Rattle.guest_types.specs.EarlyLoads.{StopList, never}
use Rattle.guest_types.specs.Length.{IsLength}
use Rattle.guest_types.specs.Memory.{Memory, IsMemory, DoNotMeet, byte_at, merged}
use Rattle.machine_model.specs.declared.outcome.StopKind.{StopKind}
use Rattle.machine_model.specs.declared.outcome.StopKind.TheVariants.{Read, Write}
use Rattle.machine_model.specs.Load.{Image, load}
use Rattle.machine_model.specs.Run.{Outcome, End, Stop, IsAccess, free_start, free_run, suppressed}
use Rattle.kernel_tree.specs.declared.ops.Ty.{Ty}
use Rattle.kernel_tree.specs.declared.ast.Shape.TheVariants.{Array}
use Rattle.kernel_tree.specs.Plain.{Parameter, Program}
use Rattle.kernel_tree.specs.Wrap.{byte_count}
use Rattle.kernel_meaning.specs.Operators.{word}
use Rattle.kernel_meaning.specs.ScalarRun as scalar
use Rattle.kernel_meaning.specs.ScalarRun.{begun, scalar_run}
use Rattle.loop_form.specs.declared.stream.Stream.{Stream}
use Rattle.loop_form.specs.declared.loop_item.Operand.TheVariants.{Outer}
use Rattle.loop_form.specs.LoopItems.{Op, Load, Gather, Store, Item, loop_items_of}
use Rattle.loop_form.specs.Streams.{streams_of}
use Rattle.dependence.specs.Apart.{bound_place}
use Rattle.dependence.specs.Bound.{runs_in_chunks, at_once, steps_for, bound, slow_bound, free_bound}
use Rattle.close_bound.specs.CloseBound.{outside_steps, iteration_steps, close_bound}

-- what a run may be started with: at most eight words, pages that do not meet the image's, and a vector length
pub record IsStart (image : Image) (args : List ℕ) (pages : Memory) (vl : ℕ) : Type 0 where
  pub few : length args ≤ 8
  pub words : All (λ arg. arg < 2 ^ 64) args
  pub memory : IsMemory pages
  pub apart : DoNotMeet image.pages pages
  pub length : IsLength vl

-- ---- what a fault leaves

-- the address of byte j of the element that iteration i comes to at an offset: B + s * (i + c) + j modulo 2^64
abbrev pub byte_address : Ty → (base : ℕ) → (offset : ℤ) → (i j : ℕ) → ℕ
byte_address type base offset i j = word (pos base +ℤ pos (byte_count type) *ℤ (pos i +ℤ offset) +ℤ pos j)

-- The address is of a byte that an iteration near a fault stores: m iterations were begun, and L are run at once.
pub record IsNearFault (k : Program) (args : List ℕ) (L m address : ℕ) : Type 0 where
  pub stream : Stream
  pub listed : Contains (streams_of k) stream
  pub stored : stream.store ≡ true
  pub param : Parameter
  pub declared : slice_get k.params stream.param ≡ Some param
  pub type : Ty
  pub typed : param.shape ≡ Array type
  pub i : ℕ
  pub from : m ≤ i + L
  pub until : i + 1 < m + L
  pub within : i < slice_index args (bound_place k)
  pub j : ℕ
  pub byte : j < byte_count type
  pub here : address ≡ byte_address type (slice_index args stream.param) stream.offset i j

-- ---- where a run stops

-- the address is of a byte of element e of an array
abbrev pub IsElementByte : Ty → (base : ℕ) → (e : ℤ) → (address : ℕ) → Type 0
IsElementByte type base e address = (j : ℕ) × (j < byte_count type) × (address ≡ word (pos base +ℤ pos (byte_count type) *ℤ e +ℤ pos j))

-- an element below the reach of an index, or any where it has none
abbrev pub IsWithinReach : Option ℕ → ℤ → Type 0
IsWithinReach None e = Unit {0}
IsWithinReach (Some n) e = (x : ℕ) × (x < n) × (e ≡ pos x)

-- Iteration i comes to the byte at an address by an operation: that of an element which it reads, or stores. A read at a computed
-- index comes to any element within its reach.
abbrev pub Accesses : (args : List ℕ) → Op → StopKind → (i address : ℕ) → Type 0
Accesses args (Load a (Outer p) (Some t) c) kind i address = (kind ≡ Read) × IsElementByte t (slice_index args p) (pos i +ℤ c) address
Accesses args (Store a (Outer p) (Some t) c v) kind i address = (kind ≡ Write) × IsElementByte t (slice_index args p) (pos i +ℤ c) address
Accesses args (Gather a (Outer p) (Some t) reach u x) kind i address = (kind ≡ Read) × (e : ℤ) × IsWithinReach reach e × IsElementByte t (slice_index args p) e address
Accesses args _ kind i address = ⊥

-- The address is of a byte that an iteration near a fault comes to: m iterations were begun, and L are run at once.
pub record IsNearAccess (k : Program) (args : List ℕ) (L m : ℕ) (kind : StopKind) (address : ℕ) : Type 0 where
  pub item : Item
  pub listed : Contains (loop_items_of k) item
  pub i : ℕ
  pub from : m ≤ i + L
  pub until : i + 1 < m + L
  pub within : i < slice_index args (bound_place k)
  pub accesses : Accesses args item.op kind i address

-- A stop of kind Read or Write. Each byte is as the scalar loop left it at its fault, but for those near the fault. Where the
-- iterations are run in chunks, it is at a byte that an iteration near the fault comes to.
pub record Stops (k : Program) (args : List ℕ) (vl : ℕ) (memory : Memory) (m : ℕ) (outcome : Outcome) : Type 0 where
  pub kind : StopKind
  pub access : IsAccess kind
  pub pc : ℕ
  pub at : ℕ
  pub left : Memory
  pub steps : ℕ
  pub is : outcome ≡ Stop kind pc at left steps
  pub kept : (address : ℕ) → (IsNearFault k args (at_once k args vl) m address → ⊥) → byte_at left address ≡ byte_at memory address
  pub near : runs_in_chunks k args ≡ true → IsNearAccess k args (at_once k args vl) m kind at

-- The machine ends with the memory and the result of the scalar loop where that ends, and stops where it faults. A run has
-- one outcome, so it is the one exactly where the scalar loop is, and the other exactly where that is.
abbrev pub Follows : Program → List ℕ → ℕ → scalar.Run → Outcome → Type 0
Follows k args vl (scalar.End memory result m) outcome = (steps : ℕ) × (outcome ≡ End memory result steps)
Follows k args vl (scalar.Fault memory m) outcome = Stops k args vl memory m outcome

-- ---- files

-- a file whose runs follow the scalar loop, from any start, with any of some stop lists, and with at least so many steps
pub record IsFaithful (enough : Program → (args : List ℕ) (vl m q : ℕ) → ℕ) (IsAllowed : StopList → Type 0) (k : Program) (file : List ℕ) : Type 0 where
  pub image : Image
  pub loaded : load file ≡ Ok image
  pub runs : (args : List ℕ) (pages : Memory) (vl : ℕ) (stops : StopList) (steps : ℕ) → IsStart image args pages vl → IsAllowed stops
      → enough k args vl (begun (scalar_run k args (merged image.pages pages))) (suppressed steps (free_start image args pages vl stops)) ≤ steps
      → (outcome : Outcome) × (free_run file args pages vl stops steps ≡ Some outcome) × Follows k args vl (scalar_run k args (merged image.pages pages)) outcome

abbrev pub IsEmpty : StopList → Type 0
IsEmpty stops = stops ≡ never

abbrev pub IsAny : StopList → Type 0
IsAny stops = Unit {0}

abbrev pub bound_steps : Program → (args : List ℕ) (vl m q : ℕ) → ℕ
bound_steps k args vl m q = bound k args vl m

abbrev pub slow_steps : Program → (args : List ℕ) (vl m q : ℕ) → ℕ
slow_steps k args vl m q = slow_bound k m

-- whatever free elements are suppressed: each iteration may take a chunk that no lane comes through, and a pass by itself
abbrev pub end_steps : Program → (args : List ℕ) (vl m q : ℕ) → ℕ
end_steps k args vl m q = steps_for k (2 * m + 2)

-- iterations one by one, by the steps of the kernel's items
abbrev pub close_slow_steps : Program → (args : List ℕ) (vl m q : ℕ) → ℕ
close_slow_steps k args vl m q = outside_steps k + iteration_steps k * m

-- the machine without a stop list, within the bound that counts chunks
abbrev pub Faithful : Program → List ℕ → Type 0
Faithful k file = IsFaithful bound_steps IsEmpty k file

-- the same within the bound that counts iterations
abbrev pub SlowFaithful : Program → List ℕ → Type 0
SlowFaithful k file = IsFaithful slow_steps IsEmpty k file

-- With every stop list. The bound counts the free elements that the run itself suppresses in so many steps, so it says nothing
-- of a run that suppresses them as fast as its steps pass: that each run ends, FreeEnds says.
abbrev pub FreeFaithful : Program → List ℕ → Type 0
FreeFaithful k file = IsFaithful free_bound IsAny k file

-- with every stop list, within a bound that no stop list moves: each run ends
abbrev pub FreeEnds : Program → List ℕ → Type 0
FreeEnds k file = IsFaithful end_steps IsAny k file

-- with every stop list, within the bound that counts the steps of the kernel's items, passes and iterations
abbrev pub CloseFaithful : Program → List ℕ → Type 0
CloseFaithful k file = IsFaithful close_bound IsAny k file

abbrev pub FreeSlowFaithful : Program → List ℕ → Type 0
FreeSlowFaithful k file = IsFaithful slow_steps IsAny k file

abbrev pub CloseSlowFaithful : Program → List ℕ → Type 0
CloseSlowFaithful k file = IsFaithful close_slow_steps IsAny k file
