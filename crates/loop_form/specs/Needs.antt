-- How many registers of each class a kernel needs: the values that are held throughout, and the greatest number of
-- values that are live at one item; and the intervals of these values.
use Rattle.std.specs.Prelude.{ℕ, ◌+◌, ℤ, pos, negsuc, List, [], ◌∷◌, ◌++◌, length, map, filter, Option, Some, None, Bool, true, false, ◌&&◌, max, nat_eq, bytes_eq, if◌then◌else◌, filter_map}
use Rattle.std.specs.List.{list_any}
use Rattle.kernel_tree.specs.declared.ops.Ty.{Ty}
use Rattle.kernel_tree.specs.declared.ast.Shape.{Shape}
use Rattle.kernel_tree.specs.declared.ast.Shape.TheVariants as shape
use Rattle.kernel_tree.specs.Plain.{Parameter, Accumulator, Program}
use Rattle.kernel_tree.specs.Items.{size_of, loop_index}
use Rattle.kernel_tree.specs.Typing.{number_of_type}
use Rattle.reg_assign.specs.declared.interval.RegClass.{RegClass}
use Rattle.reg_assign.specs.declared.interval.RegClass.TheVariants.{Z, P, X}
use Rattle.reg_assign.specs.declared.interval.Interval.{Interval}
use Rattle.reg_assign.specs.Intervals.{overlap}
use Rattle.loop_form.specs.declared.need.Needs.{Needs}
use Rattle.loop_form.specs.Entries.{Content, IsLiteral, IsUpdate, Entry, entries_of, loop_entries}
use Rattle.loop_form.specs.Listing.{names, last_use_in}

-- ---- the values that are held throughout

-- what is held throughout: a scalar parameter, a literal of a type, the loop variable, or an accumulator
pub data Throughout : Type 0 where
  Scalar : List ℕ → Throughout
  Constant : Option Ty → ℤ → Throughout
  Index : Throughout
  Accumulating : List ℕ → Throughout

abbrev pub is_scalar : Shape → Bool
is_scalar (shape.Scalar t) = true
is_scalar (shape.Array t) = false

abbrev pub is_named_scalar : List Entry → Parameter → Bool
is_named_scalar es p = is_scalar p.shape && list_any (names p.name) es

abbrev pub scalar_of : Parameter → Throughout
scalar_of p = Scalar p.name

-- the scalar parameters that are name items
abbrev pub scalars : List Entry → List Parameter → List Throughout
scalars es ps = map scalar_of (filter (is_named_scalar es) ps)

abbrev pub same_type : Option Ty → Option Ty → Bool
same_type None None = true
same_type (Some t) (Some u) = nat_eq (number_of_type t) (number_of_type u)
same_type _ _ = false

abbrev pub same_number : ℤ → ℤ → Bool
same_number (pos m) (pos n) = nat_eq m n
same_number (negsuc m) (negsuc n) = nat_eq m n
same_number _ _ = false

abbrev pub is_literal : ℤ → Content → Bool
is_literal n (IsLiteral m) = same_number m n
is_literal n _ = false

-- whether an item is the literal of the type
abbrev pub is_constant : Option Ty → ℤ → Entry → Bool
is_constant t n e = same_type e.type t && is_literal n e.content

-- a literal, where none of the items before it is the same
abbrev pub new_constant : List Entry → Option Ty → Content → List Throughout
new_constant before t (IsLiteral n) = if list_any (is_constant t n) before then [] else Constant t n ∷ []
new_constant before t _ = []

-- each pair of a type and a literal once, in the order of their first items, after the items before
unfoldable pub constants : List Entry → List Entry → List Throughout
constants before [] = []
constants before (e ∷ es) = new_constant before e.type e.content ++ constants (before ++ e ∷ []) es

-- the loop variable, where it is a name item
abbrev pub index_held : List Entry → Option (List ℕ) → List Throughout
index_held es None = []
index_held es (Some i) = if list_any (names i) es then Index ∷ [] else []

abbrev pub is_update : List ℕ → Content → Bool
is_update x (IsUpdate y op) = bytes_eq y x
is_update x _ = false

-- whether an item is an update of the accumulator
abbrev pub updates : List ℕ → Entry → Bool
updates x e = is_update x e.content

abbrev pub is_updated : List Entry → Accumulator → Bool
is_updated es v = list_any (updates v.name) es

abbrev pub accumulating_of : Accumulator → Throughout
accumulating_of v = Accumulating v.name

-- Held throughout: in X registers all accumulators. In Z registers, by the items of the loop alone, the scalar
-- parameters that are named, the literals, the loop variable where it is named, and the accumulators that are updated.
abbrev pub throughout : Program → RegClass → List Throughout
throughout k X = map accumulating_of k.vars
throughout k Z = scalars (loop_entries k) k.params ++ (constants [] (loop_entries k) ++ (index_held (loop_entries k) (loop_index k) ++ map accumulating_of (filter (is_updated (loop_entries k)) k.vars)))
throughout k P = []

-- ---- the values of items

abbrev pub span : ℕ → Option ℕ → Option Interval
span from None = None
span from (Some last_use) = Some (record { from = from; last_use = last_use })

-- from where until where an item's value is needed, if it makes one in the class
abbrev pub span_of : RegClass → List Entry → Entry → Option Interval
span_of class all e = span e.item (last_use_in class all e)

-- the values that some items of a kernel make
abbrev pub spans_of : RegClass → List Entry → List Entry → List Interval
spans_of class all es = filter_map (span_of class all) es

-- the items whose values are counted for a class: those of the loop for Z and P
abbrev pub counted : Program → RegClass → List Entry
counted k X = entries_of k
counted k Z = loop_entries k
counted k P = loop_entries k

-- the values of a class
abbrev pub values : Program → RegClass → List Interval
values k class = spans_of class (entries_of k) (counted k class)

-- the greatest of a number and the numbers of values that are live at one of the items
unfoldable pub most_live : List Interval → ℕ → List Entry → ℕ
most_live spans most [] = most
most_live spans most (e ∷ es) = most_live spans (max most (overlap spans e.item)) es

-- how many registers of a class a kernel needs
abbrev pub need : Program → RegClass → ℕ
need k class = length (throughout k class) + most_live (values k class) 0 (counted k class)

abbrev pub needs_of : Program → Needs
needs_of k = record { size = size_of k; z = need k Z; p = need k P; x = need k X }

-- ---- intervals

-- from the first item to the last
abbrev pub whole : Program → Throughout → Interval
whole k t = record { from = 0; last_use = size_of k }

-- the intervals of a class: what is held throughout, and then the values in the order of their items
abbrev pub intervals : Program → RegClass → List Interval
intervals k class = map (whole k) (throughout k class) ++ values k class
