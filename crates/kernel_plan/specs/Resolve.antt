-- The resolved form of a kernel. A name's slot is its place among the visible names.
use Rattle.std.specs.Prelude.{ℕ, suc, ℤ, List, [], ◌∷◌, length, Option, Some, None, option_and_then, if◌then◌else◌}
use Rattle.kernel_tree.specs.declared.ops.Ty.{Ty}
use Rattle.kernel_tree.specs.declared.ops.Ty.TheVariants as ty
use Rattle.kernel_tree.specs.Plain as plain
use Rattle.kernel_tree.specs.Wrap.{wrap}
use Rattle.kernel_tree.specs.Items.{stream_offset}
use Rattle.kernel_tree.specs.Typing.{Scope, Local, has_name, lookup, own, first, accumulator_type, index_type, side_type, after_action, after_block, left, array_type}
use Rattle.kernel_meaning.specs.Operators.{wrapped, operator_of}
use Rattle.kernel_plan.specs.Trees.{Tree, Constant, Slot, Stream, Element, Unary, Binary, Shift, Cast, Select, Compare, And, Or, Not, Task, Set, Put, Store, If, Break, Tasks, Done, Then}

-- more slots than a checked kernel has names
abbrev pub most_slots : ℕ
most_slots = 1000

-- the place of a name among others, and past the last slot for a name that is none of them
abbrev pub place : List Local → List ℕ → ℕ
place [] x = most_slots
place (l ∷ ls) x = if has_name x l then 0 else suc (place ls x)

abbrev pub slot_of : Scope → List ℕ → ℕ
slot_of scope x = place scope.visible x

abbrev pub index_slot : List Local → Option (List ℕ) → ℕ
index_slot visible None = most_slots
index_slot visible (Some i) = place visible i

-- an element at an offset from the loop variable
abbrev pub stream_tree : Scope → List ℕ → ℤ → Tree
stream_tree scope a c = Stream (slot_of scope a) (array_type scope a) (index_slot scope.visible scope.index) c

-- an element, by the offset of its index or its computed number
abbrev pub read_tree : Scope → List ℕ → Option ℤ → Tree → Tree
read_tree scope a (Some c) computed = stream_tree scope a (wrap ty.U64 c)
read_tree scope a None computed = Element (slot_of scope a) (array_type scope a) computed

-- a store to it
abbrev pub store_task : Scope → List ℕ → Option ℤ → Tree → Tree → Task
store_task scope a (Some c) computed e = Put (slot_of scope a) (array_type scope a) (index_slot scope.visible scope.index) (wrap ty.U64 c) e
store_task scope a None computed e = Store (slot_of scope a) (array_type scope a) computed e

abbrev pub resolved : Scope → Option Ty → plain.Term → Tree
resolved scope want (plain.Literal n) = Constant (wrapped want n)
resolved scope want (plain.Variable x) = Slot (slot_of scope x)
resolved scope want (plain.Element a i) = read_tree scope a (stream_offset scope.index i) (resolved scope (index_type scope i) i)
resolved scope want (plain.Unary op e) = Unary op want (resolved scope want e)
resolved scope want (plain.Operation op a b) = Binary op want (resolved scope want a) (resolved scope want b)
resolved scope want (plain.Shift left e n) = Shift left n want (resolved scope want e)
resolved scope want (plain.Conversion e t) = Cast t (resolved scope (own scope e) e)
resolved scope want (plain.Choice c a b) = Select (resolved scope None c) (resolved scope want a) (resolved scope want b)
resolved scope want (plain.Comparison op a b) = Compare op (resolved scope (side_type scope a b) a) (resolved scope (side_type scope a b) b)
resolved scope want (plain.Both a b) = And (resolved scope None a) (resolved scope None b)
resolved scope want (plain.Either a b) = Or (resolved scope None a) (resolved scope None b)
resolved scope want (plain.Not e) = Not (resolved scope None e)

-- a `let` without a type, which no checked kernel has, sets no slot
abbrev pub let_slot : Scope → Option Ty → ℕ
let_slot scope None = most_slots
let_slot scope (Some t) = length scope.visible

-- the number of an element by an index that is computed
abbrev pub number_tree : Scope → plain.Term → Tree
number_tree scope i = resolved scope (index_type scope i) i

-- an element of an array
abbrev pub element_tree : Scope → List ℕ → plain.Term → Tree
element_tree scope a i = read_tree scope a (stream_offset scope.index i) (number_tree scope i)

abbrev mutual
  pub resolved_action : Scope → plain.Action → Task
  resolved_action scope (plain.Define x t e) = let want = first t (own scope e) in Set (let_slot scope want) (resolved scope want e)
  resolved_action scope (plain.Put a i e) = store_task scope a (stream_offset scope.index i) (number_tree scope i) (resolved scope (array_type scope a) e)
  resolved_action scope (plain.Update x op e) =
      let want = option_and_then accumulator_type (lookup scope x) in
      Set (slot_of scope x) (Binary (operator_of op) want (Slot (slot_of scope x)) (resolved scope want e))
  resolved_action scope (plain.Choose c b d) = If (resolved scope None c) (resolved_block scope b) (resolved_otherwise (left scope (after_block scope b)) d)
  resolved_action scope (plain.Leave c) = Break (resolved scope None c)

  pub resolved_block : Scope → plain.Block → Tasks
  resolved_block scope plain.Done = Done
  resolved_block scope (plain.Then s b) = Then (resolved_action scope s) (resolved_block (after_action scope s) b)

  pub resolved_otherwise : Scope → plain.Otherwise → Tasks
  resolved_otherwise scope plain.Nothing = Done
  resolved_otherwise scope (plain.Else b) = resolved_block scope b
