-- Loads and stores of lanes (Arm DDI 0584, the contiguous forms of LD1, LDFF1, LDNF1 and ST1). An element that is
-- not active is neither read nor written nor tested for a fault.
use Rattle.std.specs.Prelude.{ℕ, zero, suc, ◌+◌, ◌*◌, ◌%◌, ◌^◌, List, [], ◌∷◌, Bool, true, false, not, ◌&&◌, nat_lt, cond, Option, Some, None, Result, Ok, Err, is_some, slice_index_or, if◌then◌else◌}
use Rattle.guest_types.specs.declared.length.Width.{Width}
use Rattle.guest_types.specs.declared.length.Width.TheVariants.{B, H, S, D}
use Rattle.guest_types.specs.declared.memory.AccessFault.{AccessFault}
use Rattle.guest_types.specs.Length.{width_bytes, modulus, lanes}
use Rattle.guest_types.specs.Memory.{Memory, can_read, first_fault, number_at, stored}
use Rattle.guest_types.specs.Elements.{at, active, bit, bits_of, register, first_true, both}
use Rattle.guest_types.specs.Lanes.{sign_extended}

-- ---- the forms

-- what a vector load reads and makes: the width in memory, that of the element, and whether it extends the sign
pub record LoadForm : Type 0 where
  pub memory : Width
  pub element : Width
  pub signed : Bool

abbrev pub load_form_of : Width → Width → Bool → LoadForm
load_form_of m e s = record { memory = m; element = e; signed = s }

-- the form of each number in the field dtype
abbrev pub load_forms : List LoadForm
load_forms =
    load_form_of B B false
    ∷ load_form_of B H false
    ∷ load_form_of B S false
    ∷ load_form_of B D false
    ∷ load_form_of S D true
    ∷ load_form_of H H false
    ∷ load_form_of H S false
    ∷ load_form_of H D false
    ∷ load_form_of H D true
    ∷ load_form_of H S true
    ∷ load_form_of S S false
    ∷ load_form_of S D false
    ∷ load_form_of B D true
    ∷ load_form_of B S true
    ∷ load_form_of B H true
    ∷ load_form_of D D false
    ∷ []

abbrev pub load_form : ℕ → LoadForm
load_form dtype = slice_index_or load_forms dtype (load_form_of B B false)

-- the width of so many bytes by their logarithm, from 0 to 3
abbrev pub width_of_size : ℕ → Width
width_of_size size = slice_index_or (B ∷ H ∷ S ∷ D ∷ []) size D

-- and that logarithm
abbrev pub size_of_width : Width → ℕ
size_of_width B = 0
size_of_width H = 1
size_of_width S = 2
size_of_width D = 3

-- the address of element e, where an element has k bytes in memory
abbrev pub lane_address : (base index k e : ℕ) → ℕ
lane_address base index k e = (base + (index + e) * k) % 2 ^ 64

-- ---- loads; f gives the address of each element, n is the number of elements in the vector length

-- a number that was read, as an element
abbrev pub extended : LoadForm → ℕ → ℕ
extended form v = cond form.signed (sign_extended (modulus form.memory) (modulus form.element) v) v

-- element e of a load
abbrev pub loaded_lane : LoadForm → Memory → (ℕ → Bool) → (ℕ → ℕ) → ℕ → ℕ
loaded_lane form memory on f e = cond (on e) (extended form (number_at memory (f e) (width_bytes form.memory))) 0

-- the first byte at which the access of element e would fault
abbrev pub lane_fault : LoadForm → Memory → (ℕ → ℕ) → ℕ → Option ℕ
lane_fault form memory f e = first_fault (can_read memory) (f e) (width_bytes form.memory)

abbrev pub lane_faults : LoadForm → Memory → (ℕ → ℕ) → ℕ → Bool
lane_faults form memory f e = is_some (lane_fault form memory f e)

abbrev pub read_fault : Option ℕ → Option AccessFault
read_fault None = None
read_fault (Some address) = Some (record { address = address; write = false })

-- the fault at an element, where there is one
abbrev pub fault_at : LoadForm → Memory → (ℕ → ℕ) → Option ℕ → Option AccessFault
fault_at form memory f None = None
fault_at form memory f (Some e) = read_fault (lane_fault form memory f e)

-- what a load leaves: the register and FFR
pub record Loaded : Type 0 where
  pub z : List ℕ
  pub ffr : List ℕ

abbrev pub or_fault : Option AccessFault → Loaded → Result Loaded AccessFault
or_fault None loaded = Ok loaded
or_fault (Some fault) loaded = Err fault

-- LD1: the first active element that faults refuses the load
abbrev pub plain_load : LoadForm → Memory → (ℕ → Bool) → (ℕ → ℕ) → ℕ → List ℕ → Result Loaded AccessFault
plain_load form memory on f n ffr =
    or_fault
    (fault_at form memory f (first_true (both on (lane_faults form memory f)) n 0))
    (record { z = register (width_bytes form.element) (loaded_lane form memory on f) n; ffr = ffr })

-- a bit of FFR below a limit
abbrev pub kept_bit : List ℕ → ℕ → ℕ → Bool
kept_bit ffr limit j = bit ffr j && nat_lt j limit

-- FFR with every bit clear from the first bit of an element on, where there is one
abbrev pub cleared_from : Width → Option ℕ → List ℕ → List ℕ
cleared_from w None ffr = ffr
cleared_from w (Some e) ffr = bits_of (kept_bit ffr (width_bytes w * e)) 32

-- the element's bit of FFR is clear
abbrev pub is_clear : Width → List ℕ → ℕ → Bool
is_clear w ffr e = not (active w ffr e)

-- the element stands before the first one whose bit is clear
abbrev pub is_before : Option ℕ → ℕ → Bool
is_before None e = true
is_before (Some limit) e = nat_lt e limit

abbrev pub kept_lane : LoadForm → Memory → (ℕ → Bool) → (ℕ → ℕ) → Option ℕ → ℕ → ℕ
kept_lane form memory on f limit e = cond (is_before limit e) (loaded_lane form memory on f e) 0

-- a load with this FFR after it: elements from the first clear one on are zero
abbrev pub loaded_with : LoadForm → Memory → (ℕ → Bool) → (ℕ → ℕ) → ℕ → List ℕ → Loaded
loaded_with form memory on f n ffr =
    record {
      z = register (width_bytes form.element) (kept_lane form memory on f (first_true (is_clear form.element ffr) n 0)) n;
      ffr = ffr;
    }

-- ---- stores

-- what a store of lanes leaves; after a fault the lower active elements stay written
pub data StoredLanes : Type 0 where
  AllStored : Memory → StoredLanes
  StoreFault : AccessFault → Memory → StoredLanes

abbrev pub store_on : Result Memory AccessFault → Memory → (Memory → StoredLanes) → StoredLanes
store_on (Ok next) memory rest = rest next
store_on (Err fault) memory rest = StoreFault fault memory

-- the active of `left` elements from e on, each by its lowest k bytes, in ascending order
abbrev pub store_lanes : (ℕ → Bool) → (ℕ → ℕ) → (ℕ → ℕ) → (k left e : ℕ) → Memory → StoredLanes
store_lanes on f v k zero e memory = AllStored memory
store_lanes on f v k (suc left) e memory =
    if on e then store_on (stored memory (f e) k (v e)) memory (store_lanes on f v k left (e + 1)) else store_lanes on f v k left (e + 1) memory

-- ST1
abbrev pub store_of : (msz size : ℕ) → (base index vl : ℕ) → List ℕ → List ℕ → Memory → StoredLanes
store_of msz size base index vl pg z memory =
    let w = width_of_size size in
    let k = width_bytes (width_of_size msz) in
    store_lanes (active w pg) (lane_address base index k) (at w z) k (lanes vl w) 0 memory
