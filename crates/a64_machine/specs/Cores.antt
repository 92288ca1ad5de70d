-- The machine's state from the registers that A64 instructions use, the memory, and the rest.
use Rattle.std.specs.Prelude.{◌≡◌, ℕ, ◌/◌, ◌%◌, ◌^◌, Bool, true, false, List, [], nat_eq, slice_index_or}
use Rattle.guest_types.specs.Memory.{Memory}
use Rattle.guest_types.specs.Elements.{Flags, element}
use Rattle.guest_types.specs.EarlyLoads.{StopList}
use Rattle.a64_code.specs.declared.A64.{A64}
use Rattle.a64_code.specs.declared.A64.TheVariants.{Umov}
use Rattle.machine_model.specs.Machine.{State}
use Rattle.machine_model.specs.declared.outcome.Step.{Step}
use Rattle.machine_model.specs.declared.outcome.Step.TheVariants.{Went, Ended, Stopped}
use Rattle.machine_model.specs.Arithmetic.{flags_of}
use Rattle.a64_machine.specs.declared.core_state.Core.{Core}
use Rattle.a64_machine.specs.declared.core_state.FlagState.{FlagState}
use Rattle.a64_machine.specs.declared.core_state.FlagState.TheVariants.{Bits, Compared}

-- the parts of the state that A64 instructions leave alone
pub record VectorState : Type 0 where
  pub z : List (List ℕ)
  pub p : List (List ℕ)
  pub ffr : List ℕ
  pub vl : ℕ
  pub stops : StopList

-- bit k of a number is 1
abbrev pub is_set : ℕ → ℕ → Bool
is_set number k = nat_eq (number / 2 ^ k % 2) 1

-- the flags in the lowest four bits of a number, V the lowest
abbrev pub flags_in : ℕ → Flags
flags_in number = record { n = is_set number 3; z = is_set number 2; c = is_set number 1; v = is_set number 0 }

-- the flags that are kept so
abbrev pub flags_kept : FlagState → Flags
flags_kept (Bits number) = flags_in number
flags_kept (Compared left right) = flags_of left right

abbrev pub state_of : Core → Memory → VectorState → State
state_of core memory rest = record {
  memory = memory;
  pc = core.pc;
  x = core.x;
  sp = core.sp;
  flags = flags_kept core.nzcv;
  z = rest.z;
  p = rest.p;
  ffr = rest.ffr;
  vl = rest.vl;
  stops = rest.stops;
}

-- Where the instruction is UMOV, `vzero` is doubleword 0 of the vector register that it reads.
abbrev pub HasVector : A64 → Core → VectorState → Type 0
HasVector (Umov rd vn) core rest = core.vzero ≡ element 8 (slice_index_or rest.z vn.number []) 0
HasVector _ core rest = Unit {0}

-- where a step ends or stops, the fact
abbrev pub OnStop : Step → Type 0 → Type 0
OnStop Went fact = Unit {0}
OnStop Ended fact = fact
OnStop (Stopped stop) fact = fact

-- what a call answers that says whether the step went, and leaves the answer elsewhere where it did not
abbrev pub said : Bool → Step → Step
said true answer = Went
said false answer = answer
