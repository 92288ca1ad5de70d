-- Runs of the machine.
use Rattle.std.specs.Prelude.{◌≡◌, ◌⊎◌, ℕ, zero, suc, ◌+◌, ◌-◌, List, ◌++◌, length, replicate, Ok, Err, Option, Some, None, Bool, true, false, cond}
use Rattle.guest_types.specs.EarlyLoads.{StopList, never}
use Rattle.guest_types.specs.Memory.{Memory, merged}
use Rattle.machine_model.specs.declared.outcome.StopKind.{StopKind}
use Rattle.machine_model.specs.declared.outcome.StopKind.TheVariants.{Read, Write}
use Rattle.machine_model.specs.Machine.{State, Step, Went, Ended, Stopped}
use Rattle.machine_model.specs.OneStep.{step, suppresses}
use Rattle.machine_model.specs.Load.{Image, load}

-- How a run comes out, with the memory left and the number of steps taken. A step that ends or stops is counted.
pub data Outcome : Type 0 where
  End : (memory : Memory) (result steps : ℕ) → Outcome
  Stop : (kind : StopKind) (pc at : ℕ) (memory : Memory) (steps : ℕ) → Outcome
  Spent : (pc : ℕ) (memory : Memory) (steps : ℕ) → Outcome

abbrev pub go_on : Step → State → ℕ → (State → Outcome) → Outcome
go_on (Went state) s steps go = go state
go_on (Ended result) s steps go = End s.memory result steps
go_on (Stopped kind pc at memory) s steps go = Stop kind pc at memory steps

-- a stop of a load or a store
abbrev pub IsAccess : StopKind → Type 0
IsAccess kind = (kind ≡ Read) ⊎ (kind ≡ Write)

-- at most n steps, after so many that were taken
abbrev pub run : ℕ → ℕ → State → Outcome
run zero taken s = Spent s.pc s.memory taken
run (suc n) taken s = go_on (step s) s (taken + 1) (run n (taken + 1))

-- the arguments in X0 on, and zero in the other registers
abbrev pub start_x : List ℕ → List ℕ
start_x args = args ++ replicate (31 - length args) 0

-- Where a run starts: this memory, the arguments in X0 on, PC at the entry, and zero in all other registers.
unfoldable pub start_of : (memory : Memory) (entry : ℕ) (args : List ℕ) (vl : ℕ) → StopList → State
start_of memory entry args vl stops = record {
  memory = memory;
  pc = entry;
  x = start_x args;
  sp = 0;
  flags = record { n = false; z = false; c = false; v = false };
  z = replicate 32 (replicate 256 0);
  p = replicate 16 (replicate 32 0);
  ffr = replicate 32 0;
  vl = vl;
  stops = stops;
}

-- where a run of an image starts: its pages with the given ones, and no stop list
unfoldable pub start : Image → List ℕ → Memory → ℕ → State
start image args pages vl = start_of (merged image.pages pages) image.entry args vl never

-- the state after n steps, where each of them went on
abbrev pub after_steps : ℕ → State → Option State
after_steps zero s = Some s
after_steps (suc n) s = elim (step s) [ Went t ↦ after_steps n t | Ended result ↦ None | Stopped kind pc at memory ↦ None ]

-- the run ended or stopped
abbrev pub is_over : Outcome → Bool
is_over (End memory result steps) = true
is_over (Stop kind pc at memory steps) = true
is_over (Spent pc memory steps) = false

abbrev pub steps_taken : Outcome → ℕ
steps_taken (End memory result steps) = steps
steps_taken (Stop kind pc at memory steps) = steps
steps_taken (Spent pc memory steps) = steps

-- the memory that a run leaves
abbrev pub memory_left : Outcome → Memory
memory_left (End memory result steps) = memory
memory_left (Stop kind pc at memory steps) = memory
memory_left (Spent pc memory steps) = memory

-- the machine's run of an image
abbrev pub image_run : Image → List ℕ → Memory → ℕ → ℕ → Outcome
image_run image args pages vl steps = run steps 0 (start image args pages vl)

-- the machine's run of a file, where it can be loaded
abbrev pub machine_run : List ℕ → List ℕ → Memory → ℕ → ℕ → Option Outcome
machine_run file args pages vl steps =
    elim (load file) [ Ok image ↦ Some (image_run image args pages vl steps) | Err fault ↦ None ]

-- ---- runs with a stop list

-- where a run with this stop list starts
unfoldable pub free_start : Image → List ℕ → Memory → ℕ → StopList → State
free_start image args pages vl stops = start_of (merged image.pages pages) image.entry args vl stops

-- how many free elements were suppressed in the steps that went on, of the first n
abbrev pub suppressed : ℕ → State → ℕ
suppressed zero s = 0
suppressed (suc n) s =
    elim (step s) [ Went t ↦ cond (suppresses s) 1 0 + suppressed n t | Ended result ↦ 0 | Stopped kind pc at memory ↦ 0 ]

-- the run of a file with a stop list, where it can be loaded
abbrev pub free_run : List ℕ → List ℕ → Memory → ℕ → StopList → ℕ → Option Outcome
free_run file args pages vl stops steps =
    elim (load file) [ Ok image ↦ Some (run steps 0 (free_start image args pages vl stops)) | Err fault ↦ None ]
