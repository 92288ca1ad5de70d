-- What contracts see of the vector registers, and what holds of them at all times.
use Rattle.std.specs.Prelude.{◌≡◌, ℕ, List, [], All, length, map, slice_index_or, slice_set, replicate, Bool, Result, Ok, Err}
use Rattle.guest_types.specs.declared.memory.AccessFault.{AccessFault}
use Rattle.lane_memory.specs.Loads.{LoadLeft}
use Rattle.guest_types.specs.Length.{IsLength, width_bytes, lanes}
use Rattle.guest_types.specs.declared.length.Width.{Width}
use Rattle.guest_types.specs.declared.register.ZReg.{ZReg}
use Rattle.guest_types.specs.declared.predicate.PReg.{PReg}
use Rattle.guest_types.specs.Elements.{register, predicate}
use Rattle.guest_types.specs.EarlyLoads.{StopList}
use Rattle.machine_model.specs.States.{IsVector, IsPredicate}
use Rattle.a64_machine.specs.Cores.{VectorState}

abbrev pub z_bytes : ZReg → List ℕ
z_bytes z = z.bytes

abbrev pub p_bits : PReg → List ℕ
p_bits p = p.bits

abbrev pub vector_state_of : List ZReg → List PReg → PReg → ℕ → StopList → VectorState
vector_state_of z p ffr vl stops = record { z = map z_bytes z; p = map p_bits p; ffr = ffr.bits; vl = vl; stops = stops }

-- what lies past the vector length is zero
pub record IsVectorState (r : VectorState) : Type 0 where
  pub sized : IsLength r.vl
  pub z_count : length r.z ≡ 32
  pub z_each : All (IsVector r.vl) r.z
  pub p_count : length r.p ≡ 16
  pub p_each : All (IsPredicate r.vl) r.p
  pub ffr_is : IsPredicate r.vl r.ffr

-- all registers are zero
abbrev pub zeros : ℕ → StopList → VectorState
zeros vl stops = record { z = replicate 32 (replicate 256 0); p = replicate 16 (replicate 32 0); ffr = replicate 32 0; vl = vl; stops = stops }

-- a register by its number
abbrev pub z_of : VectorState → ℕ → List ℕ
z_of r n = slice_index_or r.z n []

abbrev pub p_of : VectorState → ℕ → List ℕ
p_of r n = slice_index_or r.p n []

-- the registers with one replaced
abbrev pub put_z : VectorState → ℕ → List ℕ → VectorState
put_z r d bytes = record r { z = slice_set r.z d bytes }

abbrev pub put_p : VectorState → ℕ → List ℕ → VectorState
put_p r d bits = record r { p = slice_set r.p d bits }

abbrev pub put_ffr : VectorState → List ℕ → VectorState
put_ffr r bits = record r { ffr = bits }

-- the registers with one replaced by its elements, of which there are as many as the vector length has
abbrev pub put_lanes : VectorState → ℕ → Width → (ℕ → ℕ) → VectorState
put_lanes r d w lane = put_z r d (register (width_bytes w) lane (lanes r.vl w))

abbrev pub put_truths : VectorState → ℕ → Width → (ℕ → Bool) → VectorState
put_truths r d w truth = put_p r d (predicate (width_bytes w) truth (lanes r.vl w))

-- the registers after a load, or its fault
abbrev pub put_load : Result LoadLeft AccessFault → ℕ → VectorState → Result VectorState AccessFault
put_load (Ok left) d r = Ok (record r { z = slice_set r.z d left.z; ffr = left.ffr; stops = left.stops })
put_load (Err fault) d r = Err fault
