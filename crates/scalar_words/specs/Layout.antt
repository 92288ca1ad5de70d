-- Where values are kept.
use Rattle.std.specs.Prelude.{ℕ, ◌<◌, ◌≤◌, ℤ, List, Option, Some, None, option_map, unwrap_or, slice_index, nat_eq, Bool, false, ◌&&◌, bytes_eq}
use Rattle.std.specs.List.{find}
use Rattle.kernel_tree.specs.declared.ops.Ty.{Ty}
use Rattle.label_fix.specs.Registers.{xzr}
use Rattle.loop_form.specs.Needs.{same_number}

-- what a register may hold while iterations last: a number, or the address in another register and so many bytes more
pub data Key : Type 0 where
  OfNumber : ℤ → Key
  OfAddress : (array : ℕ) → (by : ℤ) → Key

pub record Constant : Type 0 where
  pub key : Key
  pub register : ℕ

-- what stands in a name's register while iterations last, where it is not the value itself: an integer with the low bits of the
-- value of a type; an array's address, ahead by as many elements of a type as the loop has iterations; a number, behind by as many
pub data Form : Type 0 where
  LowBits : Ty → Form
  Ahead : Ty → Form
  Behind : Form

pub record Loose : Type 0 where
  pub name : List ℕ
  pub form : Form

-- by item: the register of its value, and the item that uses it last; what is held; and the names whose registers do not hold
-- the value itself
pub record Layout : Type 0 where
  pub regs : List ℕ
  pub last_uses : List ℕ
  pub constants : List Constant
  pub loose : List Loose

abbrev pub reg_of : Layout → ℕ → ℕ
reg_of L p = slice_index L.regs p

abbrev pub last_use_at : Layout → ℕ → ℕ
last_use_at L p = slice_index L.last_uses p

-- an item with a value that is used after it
abbrev pub IsMade : Layout → ℕ → Type 0
IsMade L p = p < last_use_at L p

-- ---- what is held

abbrev pub same_key : Key → Key → Bool
same_key (OfNumber y) (OfNumber z) = same_number y z
same_key (OfAddress q c) (OfAddress r d) = nat_eq q r && same_number c d
same_key _ _ = false

abbrev pub is_constant : Key → Constant → Bool
is_constant z c = same_key c.key z

abbrev pub constant_register : Constant → ℕ
constant_register c = c.register

-- the register that holds it
abbrev pub constant_in : List Constant → Key → Option ℕ
constant_in cs z = option_map constant_register (find (is_constant z) cs)

abbrev pub constant_at : Layout → Key → Option ℕ
constant_at L z = constant_in L.constants z

-- an address is that of an argument
abbrev pub IsGiven : ℕ → Key → Type 0
IsGiven p (OfNumber z) = Unit {0}
IsGiven p (OfAddress q c) = q < p

-- a layout that holds these
abbrev pub with_constants : Layout → List Constant → Layout
with_constants L cs = record { regs = L.regs; last_uses = L.last_uses; constants = cs; loose = L.loose }

-- ---- names that are held loosely

abbrev pub is_loose : List ℕ → Loose → Bool
is_loose x l = bytes_eq l.name x

abbrev pub loose_form : Loose → Form
loose_form l = l.form

-- what stands in a name's register; None where the value itself does
abbrev pub loose_in : List Loose → List ℕ → Option Form
loose_in ls x = option_map loose_form (find (is_loose x) ls)

-- a layout that holds these loosely
abbrev pub with_loose : Layout → List Loose → Layout
with_loose L ls = record { regs = L.regs; last_uses = L.last_uses; constants = L.constants; loose = ls }

-- ---- names

-- a visible name: the register that holds its value, and the item until which it does, if not throughout
pub record Home : Type 0 where
  pub name : List ℕ
  pub register : ℕ
  pub last_use : Option ℕ

abbrev pub Homes : Type 0
Homes = List Home

abbrev pub is_home : List ℕ → Home → Bool
is_home x h = bytes_eq h.name x

abbrev pub register_of : Home → ℕ
register_of h = h.register

-- the register of a name; a name that is not visible is read as zero
abbrev pub register_at : Homes → List ℕ → ℕ
register_at homes x = unwrap_or (option_map register_of (find (is_home x) homes)) xzr

-- a value is kept up to an item
abbrev pub Lasts : Option ℕ → ℕ → Type 0
Lasts None p = Unit {0}
Lasts (Some u) p = p ≤ u

abbrev pub LastsAt : Option Home → ℕ → Type 0
LastsAt None p = ⊥
LastsAt (Some h) p = Lasts h.last_use p

-- the value of a name is kept up to an item
abbrev pub NameLasts : Homes → List ℕ → ℕ → Type 0
NameLasts homes x p = LastsAt (find (is_home x) homes) p
