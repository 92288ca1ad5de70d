-- The value of an expression.
use Rattle.std.specs.Prelude.{ℕ, ℤ, pos, ◌+ℤ◌, ◌*ℤ◌, List, Option, Some, None, option_map, option_and_then, unwrap_or, Result, Ok, Err, Bool, true, false, not, bytes_eq}
use Rattle.std.specs.List.{find}
use Rattle.kernel_tree.specs.declared.ops.Ty.{Ty}
use Rattle.kernel_tree.specs.Plain.{Term, Literal, Variable, Element, Unary, Operation, Shift, Conversion, Choice, Comparison, Both, Either, Not}
use Rattle.kernel_tree.specs.Wrap.{wrap, byte_count}
use Rattle.kernel_tree.specs.Items.{stream_offset}
use Rattle.kernel_tree.specs.Typing.{Scope, lookup, own, element_type, index_type, side_type}
use Rattle.guest_types.specs.declared.memory.AccessFault.{AccessFault}
use Rattle.guest_types.specs.Memory.{Memory, loaded}
use Rattle.kernel_meaning.specs.Operators.{wrapped, word, unary_value, binary_value, shift_value, compare_on}

-- ---- names

-- a name and its value; the value of an array is its address
pub record Named : Type 0 where
  pub name : List ℕ
  pub value : ℤ

-- the visible names in the order of their declaration
abbrev pub Names : Type 0
Names = List Named

abbrev pub is_named : List ℕ → Named → Bool
is_named x n = bytes_eq n.name x

abbrev pub value_of : Named → ℤ
value_of n = n.value

-- the value of a name; every name in a checked kernel has one
abbrev pub value_at : Names → List ℕ → ℤ
value_at names x = unwrap_or (option_map value_of (find (is_named x) names)) (pos 0)

-- ---- elements of arrays

-- the address of element x of the array at an address
abbrev pub address : Ty → ℤ → ℤ → ℕ
address t base x = word (base +ℤ pos (byte_count t) *ℤ x)

-- the value of the loop variable
abbrev pub iteration : Option (List ℕ) → Names → ℤ
iteration None names = pos 0
iteration (Some i) names = value_at names i

-- the number of an element: for a stream index the iteration and the offset, for any other the value of the index
abbrev pub element_number : Option ℤ → ℤ → Option ℤ → Option ℤ
element_number (Some c) i computed = Some (i +ℤ c)
element_number None i computed = computed

abbrev pub read_value : Ty → Result ℕ AccessFault → Option ℤ
read_value t (Ok n) = Some (wrap t (pos n))
read_value t (Err fault) = None

-- element x of an array with elements of a type
abbrev pub read_element : Option Ty → Memory → ℤ → ℤ → Option ℤ
read_element None memory base x = Some (pos 0)
read_element (Some t) memory base x = read_value t (loaded memory (address t base x) (byte_count t))

-- ---- operands

-- what two operands give, unless one of them faults
abbrev pub on_both : {A : Type 0} → (ℤ → ℤ → A) → Option ℤ → Option ℤ → Option A
on_both f None b = None
on_both f (Some x) None = None
on_both f (Some x) (Some y) = Some (f x y)

-- one of two values that are both evaluated, as the condition is evaluated too
abbrev pub choose_value : Bool → ℤ → ℤ → ℤ
choose_value true a b = a
choose_value false a b = b

abbrev pub chosen : Option ℤ → Option ℤ → Option Bool → Option ℤ
chosen a b None = None
chosen a b (Some c) = on_both (choose_value c) a b

-- the second side is evaluated only where the first one is true
abbrev pub and_then : Option Bool → Option Bool → Option Bool
and_then None b = None
and_then (Some true) b = b
and_then (Some false) b = Some false

-- the second side is evaluated only where the first one is false
abbrev pub or_else : Option Bool → Option Bool → Option Bool
or_else None b = None
or_else (Some true) b = Some true
or_else (Some false) b = b

-- ---- expressions

-- The value of an expression of which a type is wanted, and whether a condition holds; None where a read faults.
-- A condition stands for no value and a value for no condition in a checked kernel.
abbrev mutual
  pub value : Scope → Option Ty → Term → Memory → Names → Option ℤ
  value scope want (Literal n) memory names = Some (wrapped want n)
  value scope want (Variable x) memory names = Some (value_at names x)
  value scope want (Element a i) memory names =
      option_and_then (read_element (option_and_then element_type (lookup scope a)) memory (value_at names a)) (element_number (stream_offset scope.index i) (iteration scope.index names) (value scope (index_type scope i) i memory names))
  value scope want (Unary op e) memory names = option_map (unary_value op want) (value scope want e memory names)
  value scope want (Operation op a b) memory names = on_both (binary_value op want) (value scope want a memory names) (value scope want b memory names)
  value scope want (Shift left e n) memory names = option_map (shift_value left n want) (value scope want e memory names)
  value scope want (Conversion e t) memory names = option_map (wrap t) (value scope (own scope e) e memory names)
  value scope want (Choice c a b) memory names = chosen (value scope want a memory names) (value scope want b memory names) (holds scope c memory names)
  value scope want (Comparison op a b) memory names = Some (pos 0)
  value scope want (Both a b) memory names = Some (pos 0)
  value scope want (Either a b) memory names = Some (pos 0)
  value scope want (Not e) memory names = Some (pos 0)

  pub holds : Scope → Term → Memory → Names → Option Bool
  holds scope (Comparison op a b) memory names = on_both (compare_on op) (value scope (side_type scope a b) a memory names) (value scope (side_type scope a b) b memory names)
  holds scope (Both a b) memory names = and_then (holds scope a memory names) (holds scope b memory names)
  holds scope (Either a b) memory names = or_else (holds scope a memory names) (holds scope b memory names)
  holds scope (Not e) memory names = option_map not (holds scope e memory names)
  holds scope (Literal n) memory names = Some false
  holds scope (Variable x) memory names = Some false
  holds scope (Element a i) memory names = Some false
  holds scope (Unary op e) memory names = Some false
  holds scope (Operation op a b) memory names = Some false
  holds scope (Shift left e n) memory names = Some false
  holds scope (Conversion e t) memory names = Some false
  holds scope (Choice c a b) memory names = Some false
