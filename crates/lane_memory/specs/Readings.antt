-- A load as the code takes it: the form, and where its elements stand.
use Rattle.std.specs.Prelude.{◌≡◌, ℕ, ◌+◌, ◌*◌, ◌%◌, ◌<◌, ◌≤◌, ◌⊎◌, Bool, true, false, ◌&&◌, cond, nat_le, List, Option, Some, None}
use lib.Lanes.{chunk}
use Rattle.guest_types.specs.declared.length.Width.{Width}
use Rattle.guest_types.specs.Length.{width_bytes, modulus}
use Rattle.guest_types.specs.Memory.{Memory, number_at}
use Rattle.guest_types.specs.Elements.{active, at, both, first_true, number_of_bytes, register}
use Rattle.guest_types.specs.LaneMemory.{LoadForm, extended, lane_address, lane_faults, loaded_lane, fault_at}
use Rattle.lane_memory.specs.declared.reading.Reading.{Reading}

abbrev pub form_of : Reading → LoadForm
form_of r = record { memory = r.memory; element = r.element; signed = r.signed }

-- the address of an element
abbrev pub place_of : Reading → ℕ → ℕ
place_of r e = lane_address r.base r.index (width_bytes r.memory) e

-- the element is active
abbrev pub on_of : Reading → List ℕ → ℕ → Bool
on_of r pg e = active r.element pg e

-- the access of an element faults
abbrev pub faults_of : Reading → Memory → ℕ → Bool
faults_of r memory e = lane_faults (form_of r) memory (place_of r) e

-- it is active and faults
abbrev pub refused_of : Reading → Memory → List ℕ → ℕ → Bool
refused_of r memory pg e = both (on_of r pg) (faults_of r memory) e

-- an element of the register, and the register of n of them
abbrev pub lane_of : Reading → Memory → List ℕ → ℕ → ℕ
lane_of r memory pg e = loaded_lane (form_of r) memory (on_of r pg) (place_of r) e

abbrev pub lanes_of : Reading → Memory → List ℕ → ℕ → List ℕ
lanes_of r memory pg n = register (width_bytes r.element) (lane_of r memory pg) n

-- the active elements from one on
abbrev pub on_from : Reading → List ℕ → ℕ → ℕ → Bool
on_from r pg from e = on_of r pg e && nat_le from e

-- the place after an element, of so many
abbrev pub place_after : Option ℕ → ℕ → ℕ
place_after None lanes = lanes
place_after (Some e) lanes = e + 1

-- from this place on the active elements of LDFF1 are free: its first active one, where there is one, does not fault
pub record IsFreeFrom (r : Reading) (memory : Memory) (pg : List ℕ) (lanes from : ℕ) : Type 0 where
  pub place : from ≡ place_after (first_true (on_of r pg) lanes 0) lanes
  pub no_fault : fault_at (form_of r) memory (place_of r) (first_true (on_of r pg) lanes 0) ≡ None

-- ---- what the code holds on its way

-- an element as it is read, active or not
abbrev pub raw_of : Reading → Memory → ℕ → ℕ
raw_of r memory e = extended (form_of r) (number_at memory (place_of r e) (width_bytes r.memory))

-- the active elements from one place up to another are those that were read
abbrev pub HoldsLanes : Reading → Memory → List ℕ → (from to : ℕ) → List ℕ → Type 0
HoldsLanes r memory pg from to z = (e : ℕ) → from ≤ e → e < to → on_of r pg e ≡ true → at r.element z e ≡ raw_of r memory e % modulus r.element

-- n elements from a place on are those of a part of memory, and the others stay
pub record IsCopied (r : Reading) (part : List ℕ) (from n : ℕ) (old new : List ℕ) : Type 0 where
  pub copied : (i : ℕ) → i < n → at r.element new (from + i) ≡ extended (form_of r) (number_of_bytes (chunk (width_bytes r.memory * i) (width_bytes r.memory) part)) % modulus r.element
  pub kept : (i : ℕ) → (i < from) ⊎ (from + n ≤ i) → at r.element new i ≡ at r.element old i

-- one element is what was read where it is active, and the others stay
pub record IsRead (r : Reading) (memory : Memory) (pg : List ℕ) (e : ℕ) (old new : List ℕ) : Type 0 where
  pub read : on_of r pg e ≡ true → at r.element new e ≡ raw_of r memory e % modulus r.element
  pub kept : (i : ℕ) → i < e → at r.element new i ≡ at r.element old i

-- an element where it is active, and else 0
abbrev pub masked_at : Width → List ℕ → List ℕ → ℕ → ℕ
masked_at w pg z e = cond (active w pg e) (at w z e) 0

abbrev pub masked_of : Width → List ℕ → List ℕ → ℕ → List ℕ
masked_of w pg z n = register (width_bytes w) (masked_at w pg z) n

-- of so many elements, those before the one place and from the other on are not active
pub record IsActiveRange (w : Width) (pg : List ℕ) (lanes from to : ℕ) : Type 0 where
  pub order : from ≤ to
  pub inside : to ≤ lanes
  pub before : (e : ℕ) → e < from → active w pg e ≡ false
  pub after : (e : ℕ) → to ≤ e → e < lanes → active w pg e ≡ false
