-- Loads of elements whose addresses are a base and the elements of a register (Arm DDI 0584, the forms of LD1 with a scalar
-- and a vector of unscaled offsets of 64 bits). Everything else is as for LD1 with a scalar and a scalar.
use Rattle.std.specs.Prelude.{ℕ, ◌+◌, ◌%◌, ◌^◌, Bool, List, Result}
use Rattle.guest_types.specs.declared.length.Width.TheVariants.{D}
use Rattle.guest_types.specs.declared.memory.AccessFault.{AccessFault}
use Rattle.guest_types.specs.declared.row.LoadMode.TheVariants.{Plain}
use Rattle.guest_types.specs.Length.{lanes}
use Rattle.guest_types.specs.Memory.{Memory}
use Rattle.guest_types.specs.Elements.{at, active, both}
use Rattle.guest_types.specs.LaneMemory.{load_form, lane_faults, loaded_lane}
use Rattle.guest_types.specs.EarlyLoads.{StopList}
use Rattle.lane_memory.specs.declared.reading.Reading.{Reading}
use Rattle.lane_memory.specs.Readings.{form_of}
use Rattle.lane_memory.specs.Loads.{LoadLeft, left_by}

-- the address of element e
abbrev pub gather_address : (base : ℕ) (offsets : List ℕ) → ℕ → ℕ
gather_address base offsets e = (base + at D offsets e) % 2 ^ 64

-- a gather at its operands: the number of its form as in the field dtype, the base, the vector length, the offsets and the mask
abbrev pub gather_of : (dtype base vl : ℕ) → Memory → StopList → (offsets pg ffr : List ℕ) → Result LoadLeft AccessFault
gather_of dtype base vl memory stops offsets pg ffr =
    let form = load_form dtype in
    left_by Plain form memory stops (active form.element pg) (gather_address base offsets) (lanes vl form.element) ffr

-- ---- the same as the code takes it

abbrev pub gather_place : Reading → List ℕ → ℕ → ℕ
gather_place r offsets e = gather_address r.base offsets e

-- an element of the register
abbrev pub gathered_of : Reading → Memory → (offsets pg : List ℕ) → ℕ → ℕ
gathered_of r memory offsets pg e = loaded_lane (form_of r) memory (active D pg) (gather_place r offsets) e

-- it is active and faults
abbrev pub gather_refused : Reading → Memory → (offsets pg : List ℕ) → ℕ → Bool
gather_refused r memory offsets pg e = both (active D pg) (lane_faults (form_of r) memory (gather_place r offsets)) e
