-- Where the values of a kernel are kept, when R gives each of its intervals of class X the number of a counted register:
-- the accumulators have the first intervals, and then the values of the items in their order.
use Rattle.std.specs.Prelude.{ℕ, suc, ◌+◌, List, [], ◌∷◌, ◌++◌, length, map, Option, Some, None, nat_lt, slice_index, unwrap_or, if◌then◌else◌, ◌≡◌, ◌≢◌, ◌<◌, ◌≤◌, slice_get}
use Rattle.kernel_tree.specs.Plain.{Parameter, Accumulator, PlainLoop, Program}
use Rattle.reg_assign.specs.declared.interval.RegClass.TheVariants.{X}
use Rattle.reg_assign.specs.Registers.{Assignment}
use Rattle.loop_form.specs.declared.item.Item.{Item}
use Rattle.loop_form.specs.Entries.{Entry, entries_of}
use Rattle.loop_form.specs.Listing.{last_use_in}
use Rattle.scalar_words.specs.Layout.{Layout, Home, Homes, register_at}
use Rattle.kernel_tree.specs.declared.ops.Ty.TheVariants.{U64}
use Rattle.kernel_tree.specs.declared.ast.Shape.TheVariants.{Scalar}
use Rattle.reg_assign.specs.declared.interval.Interval.{Interval}
use Rattle.loop_form.specs.Needs.{intervals}

-- register number j of the counted ones: X10 to X17 and X19 to X25
abbrev pub counted_x : ℕ → ℕ
counted_x j = if nat_lt j 8 then 10 + j else 11 + j

-- the item that uses an item's value last, or 0 where it makes none
abbrev pub x_last_use : List Entry → Entry → ℕ
x_last_use all e = unwrap_or (last_use_in X all e) 0

-- the registers of items, the first interval of which has number j
abbrev pub one_reg : (ℕ → ℕ) → ℕ → Option ℕ → (ℕ → List ℕ) → List ℕ
one_reg R j None more = 0 ∷ more j
one_reg R j (Some u) more = counted_x (R j) ∷ more (suc j)

abbrev pub regs_from : (ℕ → ℕ) → List Entry → ℕ → List Entry → List ℕ
regs_from R all j [] = []
regs_from R all j (e ∷ es) = one_reg R j (last_use_in X all e) (λ n. regs_from R all n es)

-- the same by the items of the listing
abbrev pub item_regs : (ℕ → ℕ) → ℕ → List Item → List ℕ
item_regs R j [] = []
item_regs R j (i ∷ is) = one_reg R j i.x_last_use (λ n. item_regs R n is)

-- how many of some items have values
abbrev pub one_value : Option ℕ → ℕ
one_value None = 0
one_value (Some u) = 1

abbrev pub count_values : List Item → ℕ
count_values [] = 0
count_values (i ∷ is) = one_value i.x_last_use + count_values is

abbrev pub item_last_use : Item → ℕ
item_last_use i = unwrap_or i.x_last_use 0

abbrev pub layout_from : (ℕ → ℕ) → ℕ → List Entry → Layout
layout_from R accs all = record { regs = regs_from R all accs all; last_uses = map (x_last_use all) all; constants = []; loose = [] }

abbrev pub layout_of_kernel : (ℕ → ℕ) → Program → Layout
layout_of_kernel R k = layout_from R (length k.vars) (entries_of k)

-- ---- names that are held throughout

abbrev pub param_home : ℕ → Parameter → Home
param_home n p = record { name = p.name; register = n; last_use = None }

-- parameter n stands in Xn
abbrev pub param_homes : ℕ → List Parameter → Homes
param_homes n [] = []
param_homes n (p ∷ ps) = param_home n p ∷ param_homes (n + 1) ps

abbrev pub var_home : (ℕ → ℕ) → ℕ → Accumulator → Home
var_home R j v = record { name = v.name; register = counted_x (R j); last_use = None }

abbrev pub var_homes : (ℕ → ℕ) → ℕ → List Accumulator → Homes
var_homes R j [] = []
var_homes R j (v ∷ vs) = var_home R j v ∷ var_homes R (j + 1) vs

-- at the loop, and at the returned expression of a kernel without one
abbrev pub kernel_homes : (ℕ → ℕ) → Program → Homes
kernel_homes R k = param_homes 0 k.params ++ var_homes R 0 k.vars

-- ---- registers that were assigned

-- the number of the register of an interval
abbrev pub register_in : Assignment → ℕ → ℕ
register_in a j = slice_index a.registers j

-- ---- what register assignment gives

-- interval m of the values in X registers
abbrev pub IsInterval : Program → ℕ → Interval → Type 0
IsInterval k m s = slice_get (intervals k X) m ≡ Some s

-- an interval's value is needed at item p
abbrev pub IsNeeded : ℕ → Interval → Type 0
IsNeeded p s = (s.from ≤ p) × (p < s.last_use)

-- Each interval has one of 15 registers, and two intervals whose values are needed at one item have different ones.
pub record AreChosen (R : ℕ → ℕ) (k : Program) : Type 0 where
  pub below : (m : ℕ) (s : Interval) → IsInterval k m s → R m < 15
  pub apart : (m n p : ℕ) (s t : Interval) → m ≢ n → IsInterval k m s → IsInterval k n t → IsNeeded p s → IsNeeded p t → R m ≢ R n

-- the register of the loop's bound is that of the parameter with its name, which is of type u64
abbrev pub IsBound : (ℕ → ℕ) → Program → PlainLoop → Type 0
IsBound R k l = slice_get k.params (register_at (kernel_homes R k) l.bound) ≡ Some (record { name = l.bound; shape = Scalar U64 })
