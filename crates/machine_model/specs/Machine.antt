-- The machine's state, and one step of it (Arm DDI 0487, "AArch64 Application Level Programmers' Model").
use Rattle.std.specs.Prelude.{ℕ, ◌+◌, ◌%◌, ◌^◌, List, [], nat_eq, slice_index, slice_index_or, slice_set, if◌then◌else◌}
use Rattle.guest_types.specs.Memory.{Memory}
use Rattle.guest_types.specs.Elements.{Flags}
use Rattle.guest_types.specs.EarlyLoads.{StopList}
use Rattle.machine_model.specs.declared.outcome.StopKind.{StopKind}

-- X0 to X30, Z0 to Z31 as 256 bytes each, P0 to P15 and FFR as 32 bytes each. Bit k of a predicate is bit k mod 8 of
-- byte k / 8. What lies past the vector length `vl`, which counts bits, is zero. `stops` is the stop list
-- of FreeRun, as it is counted from here; MachineRun has `never`.
pub record State : Type 0 where
  pub memory : Memory
  pub pc : ℕ
  pub x : List ℕ
  pub sp : ℕ
  pub flags : Flags
  pub z : List (List ℕ)
  pub p : List (List ℕ)
  pub ffr : List ℕ
  pub vl : ℕ
  pub stops : StopList

-- A general register. Number 31 is past the end of the list: it reads as 0, and a write to it writes nothing.
abbrev pub x_at : State → ℕ → ℕ
x_at s n = slice_index s.x n

abbrev pub with_x : State → ℕ → ℕ → State
with_x s n v = record s { x = slice_set s.x n v }

-- the same, where number 31 is the stack pointer
abbrev pub x_or_sp : State → ℕ → ℕ
x_or_sp s n = if nat_eq n 31 then s.sp else x_at s n

abbrev pub with_x_or_sp : State → ℕ → ℕ → State
with_x_or_sp s n v = if nat_eq n 31 then record s { sp = v } else with_x s n v

-- a vector register and a predicate register, each as its bytes
abbrev pub z_at : State → ℕ → List ℕ
z_at s n = slice_index_or s.z n []

abbrev pub with_z : State → ℕ → List ℕ → State
with_z s n bytes = record s { z = slice_set s.z n bytes }

abbrev pub p_at : State → ℕ → List ℕ
p_at s n = slice_index_or s.p n []

abbrev pub with_p : State → ℕ → List ℕ → State
with_p s n bytes = record s { p = slice_set s.p n bytes }

abbrev pub with_ffr : State → List ℕ → State
with_ffr s bytes = record s { ffr = bytes }

abbrev pub with_flags : State → Flags → State
with_flags s flags = record s { flags = flags }

abbrev pub jump : State → ℕ → State
jump s pc = record s { pc = pc }

-- on to the next word
abbrev pub next : State → State
next s = jump s ((s.pc + 4) % 2 ^ 64)

-- What a step comes to: the next state, the end with X0 as the result, or a stop with its kind, its place, what it is about,
-- and the memory that it leaves. An end and a stop leave the registers as they were.
pub data Step : Type 0 where
  Went : (state : State) → Step
  Ended : (result : ℕ) → Step
  Stopped : (kind : StopKind) (pc at : ℕ) (memory : Memory) → Step

-- the memory that a step leaves
abbrev pub memory_after : Step → State → Memory
memory_after (Went state) s = state.memory
memory_after (Ended result) s = s.memory
memory_after (Stopped kind pc at memory) s = memory
