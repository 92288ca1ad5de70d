-- What a function owes the kernel that it was made of: called as the Procedure Call Standard for the Arm 64-bit Architecture has it
-- (AAPCS64, section 6), at any address and in any state, it does what the kernel says, and comes back to the caller.
use Rattle.std.specs.Prelude.{◌≡◌, ℕ, ◌+◌, ◌-◌, ◌*◌, ◌^◌, ◌<◌, ◌≤◌, true, List, ◌∷◌, take, Some, All}
use Rattle.guest_types.specs.Elements.{element}
use Rattle.guest_types.specs.Memory.{Memory, byte_at, can_write, put_number}
use Rattle.machine_model.specs.declared.outcome.StopKind.{StopKind}
use Rattle.machine_model.specs.Machine.{State, x_at, z_at}
use Rattle.machine_model.specs.Run.{Stop, IsAccess, run, after_steps, suppressed}
use Rattle.machine_model.specs.States.{IsState}
use Rattle.kernel_tree.specs.Plain.{Program}
use Rattle.kernel_meaning.specs.ScalarRun as scalar
use Rattle.kernel_meaning.specs.ScalarRun.{begun, scalar_run}
use Rattle.label_fix.specs.Finished.{StandAt}
use Rattle.dependence.specs.Bound.{runs_in_chunks, at_once}
use Rattle.close_bound.specs.CloseBound.{close_bound}
use Rattle.meaning_frame.specs.Accesses.{run_with}
use Rattle.promises.specs.Faithful.{IsNearFault, IsNearAccess, end_steps}
use Rattle.promises.specs.Reserved.{platform_register, frame_pointer, link_register}
use Rattle.promises.specs.Saved.{Saved, doublewords, frame_size, call_steps, saved_by, kept_x, kept_z}

-- ---- the call

-- the arguments stand in X0 to X7; a kernel takes those of its parameters
abbrev pub arguments : State → List ℕ
arguments s = take 8 s.x

-- The bytes below SP that the function writes, a frame for the registers that it keeps: a doubleword for each, from the lowest byte of
-- the frame on.
abbrev pub InFrame : Saved → State → ℕ → Type 0
InFrame v s x = (s.sp ≤ x + frame_size v) × (x + frame_size v < s.sp + 8 * doublewords v)

-- The state before the first word of a function. The link register may hold any address, and memory and all other registers
-- anything.
pub record IsCall (v : Saved) (words : List ℕ) (s : State) : Type 0 where
  pub state : IsState s
  pub code : StandAt s.memory s.pc words
  pub room : frame_size v ≤ s.sp
  pub free : (x : ℕ) → InFrame v s x → can_write s.memory x ≡ true

-- ---- the frame is none of the kernel's memory

-- the memory with a number written over the frame
abbrev pub with_frame : Saved → State → ℕ → Memory → Memory
with_frame v s n m = put_number m (s.sp - frame_size v) (8 * doublewords v) n

-- The kernel neither reads nor writes the frame: to write over it before the kernel's run, or after it, is the same.
abbrev pub IsUntouched : Saved → Program → State → Type 0
IsUntouched v k s =
    (n : ℕ) → scalar_run k (arguments s) (with_frame v s n s.memory) ≡ run_with (with_frame v s n) (scalar_run k (arguments s) s.memory)

-- ---- how it comes out

-- At most so many steps lead back to the caller, with this memory, but for what is left in the frame, and this result in X0. SP, X18
-- to X30 and the low 64 bits of Z8 to Z15 are as they were.
pub record Returns (v : Saved) (s : State) (most : ℕ) (m : Memory) (answer : ℕ) : Type 0 where
  pub count : ℕ
  pub within : count ≤ most
  pub end : State
  pub after : after_steps count s ≡ Some end
  pub back : end.pc ≡ x_at s link_register
  pub left : ℕ
  pub memory : end.memory ≡ with_frame v s left m
  pub result : x_at end 0 ≡ answer
  pub sp : end.sp ≡ s.sp
  pub x : All (λ r. x_at end r ≡ x_at s r) (platform_register ∷ frame_pointer ∷ link_register ∷ kept_x)
  pub z : All (λ r. element 8 (z_at end r) 0 ≡ element 8 (z_at s r) 0) kept_z

-- A stop of kind Read or Write within so many steps. Each byte outside the frame is as the scalar loop left it at its fault, but for
-- those near the fault. Where the iterations are run in chunks, it is at a byte that an iteration near the fault comes to.
pub record Stops (v : Saved) (k : Program) (s : State) (most : ℕ) (memory : Memory) (m : ℕ) : Type 0 where
  pub kind : StopKind
  pub access : IsAccess kind
  pub pc : ℕ
  pub at : ℕ
  pub left : Memory
  pub steps : ℕ
  pub is : run most 0 s ≡ Stop kind pc at left steps
  pub kept : (x : ℕ) → x < 2 ^ 64 → (InFrame v s x → ⊥) → (IsNearFault k (arguments s) (at_once k (arguments s) s.vl) m x → ⊥) → byte_at left x ≡ byte_at memory x
  pub near : runs_in_chunks k (arguments s) ≡ true → IsNearAccess k (arguments s) (at_once k (arguments s) s.vl) m kind at

abbrev pub Answers : Saved → Program → State → (most : ℕ) → scalar.Run → Type 0
Answers v k s most (scalar.End memory result m) = Returns v s most memory result
Answers v k s most (scalar.Fault memory m) = Stops v k s most memory m

-- ---- functions

-- A function that keeps some registers in a frame: it comes back with what the scalar loop leaves where that ends, and stops where it
-- faults, within a bound.
abbrev pub IsFunction : (enough : Program → (args : List ℕ) (vl m q : ℕ) → ℕ) → Program → Saved → (words : List ℕ) → Type 0
IsFunction enough k v words =
    (s : State) (steps : ℕ) → IsCall v words s → IsUntouched v k s
    → enough k (arguments s) s.vl (begun (scalar_run k (arguments s) s.memory)) (suppressed steps s) + call_steps v ≤ steps
    → Answers v k s steps (scalar_run k (arguments s) s.memory)

-- within the bound that counts the steps of the kernel's items, passes and iterations; kept are those registers that its words write
abbrev pub CloseFunction : Program → List ℕ → Type 0
CloseFunction k words = IsFunction close_bound k (saved_by words) words

-- within a bound that no stop list moves: each call comes back or stops
abbrev pub FunctionEnds : Program → List ℕ → Type 0
FunctionEnds k words = IsFunction end_steps k (saved_by words) words
