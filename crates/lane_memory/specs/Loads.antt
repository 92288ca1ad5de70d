-- Loads of lanes in their three modes, with a stop list: LD1, LDFF1 and LDNF1 (Arm DDI 0584).
use Rattle.std.specs.Prelude.{ℕ, Bool, List, Result, Ok, Err}
use Rattle.guest_types.specs.declared.memory.AccessFault.{AccessFault}
use Rattle.guest_types.specs.declared.row.LoadMode.{LoadMode}
use Rattle.guest_types.specs.declared.row.LoadMode.TheVariants.{Plain, FirstFault, NonFault}
use Rattle.guest_types.specs.Length.{width_bytes, lanes}
use Rattle.guest_types.specs.Memory.{Memory}
use Rattle.guest_types.specs.Elements.{active}
use Rattle.guest_types.specs.LaneMemory.{LoadForm, Loaded, load_form, lane_address, plain_load}
use Rattle.guest_types.specs.EarlyLoads.{StopList, EarlyLoad, first_fault_early, non_fault_early}

-- what a load leaves: the register, FFR, and the stop list from there on
pub record LoadLeft : Type 0 where
  pub z : List ℕ
  pub ffr : List ℕ
  pub stops : StopList

-- LD1 leaves the stop list
abbrev pub left_by_plain : StopList → Result Loaded AccessFault → Result LoadLeft AccessFault
left_by_plain stops (Ok loaded) = Ok (record { z = loaded.z; ffr = loaded.ffr; stops = stops })
left_by_plain stops (Err fault) = Err fault

abbrev pub left_by_early : EarlyLoad → LoadLeft
left_by_early load = record { z = load.loaded.z; ffr = load.loaded.ffr; stops = load.stops }

abbrev pub left_by_first : Result EarlyLoad AccessFault → Result LoadLeft AccessFault
left_by_first (Ok load) = Ok (left_by_early load)
left_by_first (Err fault) = Err fault

-- what a load leaves by the sentence of its mode, or its fault; f gives the address of each element, of n
abbrev pub left_by : LoadMode → LoadForm → Memory → StopList → (on : ℕ → Bool) → (f : ℕ → ℕ) → ℕ → List ℕ → Result LoadLeft AccessFault
left_by Plain form memory stops on f n ffr = left_by_plain stops (plain_load form memory on f n ffr)
left_by FirstFault form memory stops on f n ffr = left_by_first (first_fault_early form memory stops on f n ffr)
left_by NonFault form memory stops on f n ffr = Ok (left_by_early (non_fault_early form memory stops on f n ffr))

-- a load at its operands: the number in the field dtype, the address and the index, the vector length and the mask
abbrev pub load_of : LoadMode → (dtype base index vl : ℕ) → Memory → StopList → (pg ffr : List ℕ) → Result LoadLeft AccessFault
load_of mode dtype base index vl memory stops pg ffr =
    let form = load_form dtype in
    left_by mode form memory stops (active form.element pg) (lane_address base index (width_bytes form.memory)) (lanes vl form.element) ffr
