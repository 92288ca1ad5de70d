-- The types of a kernel's expressions, and where a rule on them fails. Each expression has a type of its own or none,
-- and its place wants a value of some type, a value of any type, or a condition.
use Rattle.std.specs.Prelude.{ℕ, ◌+◌, ◌-◌, ◌*◌, ◌^◌, ◌&&◌, List, [], ◌∷◌, ◌++◌, length, Option, Some, None, option_map, option_and_then, Bool, true, false, nat_lt, nat_le, nat_eq, if◌then◌else◌, ℤ, pos, negsuc, unsigned_abs, bytes_eq}
use Rattle.std.specs.List.{find, list_any}
use Rattle.kernel_tree.specs.declared.ops.Ty.{Ty}
use Rattle.kernel_tree.specs.declared.ops.Ty.TheVariants as ty
use Rattle.kernel_tree.specs.declared.ast.Shape.{Shape}
use Rattle.kernel_tree.specs.declared.ast.Shape.TheVariants as shape
use Rattle.kernel_tree.specs.declared.fault.Fault.{Fault}
use Rattle.kernel_tree.specs.declared.fault.Fault.TheVariants as fault
use Rattle.kernel_tree.specs.declared.fault.Found.{Found}
use Rattle.kernel_tree.specs.declared.fault.Binding.{Binding}
use Rattle.kernel_tree.specs.declared.fault.Binding.TheVariants as binding
use Rattle.kernel_tree.specs.Plain.{Term, Literal, Variable, Element, Unary, Operation, Shift, Conversion, Choice, Comparison, Both, Either, Not, Action, Define, Put, Update, Choose, Leave, Block, Done, Then, Otherwise, Nothing, Else, Parameter, Accumulator, PlainLoop, Returned, Program}
use Rattle.kernel_tree.specs.Wrap.{bits_of, is_signed}
use Rattle.kernel_tree.specs.Items.{term_size, stream_offset, index_items, action_size, block_size, vars_size, for_loop_size, loop_index, size_of}
use Rattle.kernel_tree.specs.Limits.{depth_of, most_items, most_depth, most_offset}

-- ---- names

pub record Local : Type 0 where
  pub name : List ℕ
  pub binding : Binding

-- The names that are visible at a place, in the order of their declaration; all names that were declared before it,
-- each once, which none may be again; the name of the kernel's loop variable; and whether the place stands in the loop.
pub record Scope : Type 0 where
  pub visible : List Local
  pub taken : List (List ℕ)
  pub index : Option (List ℕ)
  pub inside : Bool

abbrev pub has_name : List ℕ → Local → Bool
has_name x l = bytes_eq l.name x

abbrev pub binding_of : Local → Binding
binding_of l = l.binding

-- what a name stands for, where it is visible
abbrev pub lookup : Scope → List ℕ → Option Binding
lookup scope x = option_map binding_of (find (has_name x) scope.visible)

abbrev pub is_taken : Scope → List ℕ → Bool
is_taken scope x = list_any (bytes_eq x) scope.taken

abbrev pub local : List ℕ → Binding → Local
local x b = record { name = x; binding = b }

-- the names declared so far and one more, each once, in the order of their declaration
abbrev pub insert_name : List (List ℕ) → List ℕ → List (List ℕ)
insert_name names x = if list_any (bytes_eq x) names then names else names ++ x ∷ []

-- from here on the name is declared and visible
abbrev pub declared : Scope → List ℕ → Binding → Scope
declared scope x b = record scope { visible = scope.visible ++ local x b ∷ []; taken = insert_name scope.taken x }

-- after a block, what it declared is visible no more
abbrev pub left : Scope → Scope → Scope
left scope inner = record scope { taken = inner.taken }

-- the type of a name as a value; an array has none
abbrev pub value_type : Binding → Option Ty
value_type (binding.Scalar t) = Some t
value_type (binding.Array t) = None
value_type (binding.Accumulator t) = Some t
value_type (binding.Value t) = Some t
value_type binding.Index = Some ty.U64

abbrev pub element_type : Binding → Option Ty
element_type (binding.Array t) = Some t
element_type _ = None

abbrev pub accumulator_type : Binding → Option Ty
accumulator_type (binding.Accumulator t) = Some t
accumulator_type _ = None

-- ---- own types

abbrev pub first : Option Ty → Option Ty → Option Ty
first None o = o
first (Some t) o = Some t

-- the type that an expression has of its own; an unknown name, one of the wrong kind and a condition have none
abbrev pub own : Scope → Term → Option Ty
own scope (Literal n) = None
own scope (Variable x) = option_and_then value_type (lookup scope x)
own scope (Element a i) = option_and_then element_type (lookup scope a)
own scope (Unary op e) = own scope e
own scope (Operation op a b) = first (own scope a) (own scope b)
own scope (Shift left e n) = own scope e
own scope (Conversion e t) = Some t
own scope (Choice c a b) = first (own scope a) (own scope b)
own scope (Comparison op a b) = None
own scope (Both a b) = None
own scope (Either a b) = None
own scope (Not e) = None

-- ---- what a place wants

pub data Role : Type 0 where
  -- a value of this type, where one is wanted
  Value : Option Ty → Role
  Condition : Role

abbrev pub wanted : Role → Option Ty
wanted (Value t) = t
wanted Condition = None

-- the wanted type of a computed index
abbrev pub index_type : Scope → Term → Option Ty
index_type scope i = first (own scope i) (Some ty.U64)

-- the type of the elements of an array
abbrev pub array_type : Scope → List ℕ → Option Ty
array_type scope a = option_and_then element_type (lookup scope a)

-- the wanted type of both sides of a comparison
abbrev pub side_type : Scope → Term → Term → Option Ty
side_type scope a b = first (own scope a) (own scope b)

-- ---- faults at one item

abbrev pub found_at : ℕ → Fault → List Found
found_at item f = record { item = item; fault = f } ∷ []

-- a value stands here
abbrev pub as_value : ℕ → Role → List Found
as_value item (Value t) = []
as_value item Condition = found_at item fault.WrongKind

-- a condition stands here
abbrev pub as_condition : ℕ → Role → List Found
as_condition item (Value t) = found_at item fault.WrongKind
as_condition item Condition = []

abbrev pub number_of_type : Ty → ℕ
number_of_type ty.I8 = 0
number_of_type ty.I16 = 1
number_of_type ty.I32 = 2
number_of_type ty.I64 = 3
number_of_type ty.U8 = 4
number_of_type ty.U16 = 5
number_of_type ty.U32 = 6
number_of_type ty.U64 = 7

-- a type, where another may be wanted
abbrev pub mismatch : ℕ → Option Ty → Ty → List Found
mismatch item None t = []
mismatch item (Some want) t = if nat_eq (number_of_type want) (number_of_type t) then [] else found_at item (fault.Mismatch want t)

-- a value of the type that its name has, if it has one
abbrev pub typed_faults : ℕ → Option Ty → Option Ty → List Found
typed_faults item want None = found_at item fault.WrongKind
typed_faults item want (Some t) = mismatch item want t

abbrev pub name_faults : ℕ → Option Ty → Option Binding → List Found
name_faults item want None = found_at item fault.Unknown
name_faults item want (Some b) = typed_faults item want (value_type b)

-- an array may be read inside the loop alone
abbrev pub read_type : Bool → Binding → Option Ty
read_type true b = element_type b
read_type false b = None

abbrev pub read_faults : ℕ → Bool → Option Ty → Option Binding → List Found
read_faults item inside want None = found_at item fault.Unknown
read_faults item inside want (Some b) = typed_faults item want (read_type inside b)

-- whether a literal is in the range of a type
abbrev pub fits : Ty → ℤ → Bool
fits t (pos n) = nat_lt n (if is_signed t then 2 ^ (bits_of t - 1) else 2 ^ bits_of t)
fits t (negsuc n) = is_signed t && nat_lt n (2 ^ (bits_of t - 1))

abbrev pub literal_faults : ℕ → Option Ty → ℤ → List Found
literal_faults item None n = []
literal_faults item (Some t) n = if fits t n then [] else found_at item fault.LiteralRange

abbrev pub is_below : ℤ → ℕ → Bool
is_below (pos n) m = nat_lt n m
is_below (negsuc n) m = false

abbrev pub shift_faults : ℕ → Option Ty → ℤ → List Found
shift_faults item None n = []
shift_faults item (Some t) n = if is_below n (bits_of t) then [] else found_at item fault.ShiftRange

abbrev pub untyped : ℕ → Option Ty → List Found
untyped item None = found_at item fault.Untyped
untyped item (Some t) = []

abbrev pub offset_faults : ℕ → ℤ → List Found
offset_faults item c = if nat_le (unsigned_abs c) most_offset then [] else found_at item fault.OffsetRange

-- a computed index of a signed type of its own
abbrev pub signed_faults : ℕ → Option Ty → List Found
signed_faults item None = []
signed_faults item (Some t) = if is_signed t then found_at item (fault.Mismatch ty.U64 t) else []

-- what an index does to its read: a stream index by its offset, any other by its own type
abbrev pub index_faults : ℕ → Option ℤ → Option Ty → List Found
index_faults item (Some c) t = offset_faults item c
index_faults item None t = signed_faults item t

abbrev pub twice : ℕ → Scope → List ℕ → List Found
twice item scope x = if is_taken scope x then found_at item fault.Twice else []

-- ---- expressions

-- the faults of an index whose items begin at a number: a stream index has no items
abbrev pub inner_faults : Option ℤ → List Found → List Found
inner_faults (Some c) fs = []
inner_faults None fs = fs

-- the faults of an expression whose items begin at a number, in a place of this role
abbrev pub faults : Scope → ℕ → Role → Term → List Found
faults scope from role (Literal n) = as_value from role ++ literal_faults from (wanted role) n
faults scope from role (Variable x) = as_value from role ++ name_faults from (wanted role) (lookup scope x)
faults scope from role (Element a i) =
    let item = from + index_items scope.index i in
    inner_faults (stream_offset scope.index i) (faults scope from (Value (index_type scope i)) i) ++ (as_value item role ++ (read_faults item scope.inside (wanted role) (lookup scope a) ++ index_faults item (stream_offset scope.index i) (own scope i)))
faults scope from role (Unary op e) = faults scope from (Value (wanted role)) e ++ as_value (from + term_size scope.index e) role
faults scope from role (Operation op a b) =
    let next = from + term_size scope.index a in
    faults scope from (Value (wanted role)) a ++ (faults scope next (Value (wanted role)) b ++ as_value (next + term_size scope.index b) role)
faults scope from role (Shift left e n) =
    let item = from + term_size scope.index e in
    faults scope from (Value (wanted role)) e ++ (as_value item role ++ shift_faults item (wanted role) n)
faults scope from role (Conversion e t) =
    let item = from + term_size scope.index e in
    faults scope from (Value (own scope e)) e ++ (as_value item role ++ (mismatch item (wanted role) t ++ untyped item (own scope e)))
faults scope from role (Choice c a b) =
    let next = from + term_size scope.index a in
    let last = next + term_size scope.index b in
    faults scope from (Value (wanted role)) a ++ (faults scope next (Value (wanted role)) b ++ (faults scope last Condition c ++ as_value (last + term_size scope.index c) role))
faults scope from role (Comparison op a b) =
    let next = from + term_size scope.index a in
    let item = next + term_size scope.index b in
    faults scope from (Value (side_type scope a b)) a ++ (faults scope next (Value (side_type scope a b)) b ++ (as_condition item role ++ untyped item (side_type scope a b)))
faults scope from role (Both a b) =
    let next = from + term_size scope.index a in
    faults scope from Condition a ++ (faults scope next Condition b ++ as_condition (next + term_size scope.index b) role)
-- a mark stands after the left side
faults scope from role (Either a b) =
    let next = from + term_size scope.index a + 1 in
    faults scope from Condition a ++ (faults scope next Condition b ++ as_condition (next + term_size scope.index b) role)
faults scope from role (Not e) = faults scope from Condition e ++ as_condition (from + term_size scope.index e) role

-- ---- statements

-- a name that stands for something of the kind that is asked for
abbrev pub kind_faults : ℕ → Option Ty → List Found
kind_faults item None = found_at item fault.WrongKind
kind_faults item (Some t) = []

-- the array and the index of a store
abbrev pub target_faults : ℕ → Option Binding → List Found
target_faults item None = found_at item fault.Unknown
target_faults item (Some b) = kind_faults item (element_type b)

abbrev pub stream_faults : ℕ → Option ℤ → List Found
stream_faults item None = found_at item fault.WrongKind
stream_faults item (Some c) = offset_faults item c

abbrev pub update_faults : ℕ → Option Binding → List Found
update_faults item None = found_at item fault.Unknown
update_faults item (Some b) = kind_faults item (accumulator_type b)

-- what a `let` declares: without a type it is not visible
abbrev pub defined : Scope → List ℕ → Option Ty → Scope
defined scope x None = record scope { taken = insert_name scope.taken x }
defined scope x (Some t) = declared scope x (binding.Value t)

-- the scope after a statement and after statements
abbrev mutual
  pub after_action : Scope → Action → Scope
  after_action scope (Define x t e) = defined scope x (first t (own scope e))
  after_action scope (Put a i e) = scope
  after_action scope (Update x op e) = scope
  after_action scope (Choose c b d) = left scope (after_otherwise (left scope (after_block scope b)) d)
  after_action scope (Leave c) = scope

  pub after_block : Scope → Block → Scope
  after_block scope Done = scope
  after_block scope (Then s b) = after_block (after_action scope s) b

  pub after_otherwise : Scope → Otherwise → Scope
  after_otherwise scope Nothing = scope
  after_otherwise scope (Else b) = after_block scope b

abbrev mutual
  pub action_faults : Scope → ℕ → Action → List Found
  action_faults scope from (Define x t e) =
      let item = from + term_size scope.index e in
      faults scope from (Value (first t (own scope e))) e ++ (twice item scope x ++ untyped item (first t (own scope e)))
  action_faults scope from (Put a i e) =
      let item = from + term_size scope.index e in
      faults scope from (Value (option_and_then element_type (lookup scope a))) e ++ (target_faults item (lookup scope a) ++ stream_faults item (stream_offset scope.index i))
  action_faults scope from (Update x op e) =
      faults scope from (Value (option_and_then accumulator_type (lookup scope x))) e ++ update_faults (from + term_size scope.index e) (lookup scope x)
  action_faults scope from (Choose c b d) =
      let next = from + term_size scope.index c + 1 in
      faults scope from Condition c ++ (block_faults scope next b ++ otherwise_faults (left scope (after_block scope b)) (next + block_size scope.index b) d)
  action_faults scope from (Leave c) = faults scope from Condition c

  pub block_faults : Scope → ℕ → Block → List Found
  block_faults scope from Done = []
  block_faults scope from (Then s b) = action_faults scope from s ++ block_faults (after_action scope s) (from + action_size scope.index s) b

  pub otherwise_faults : Scope → ℕ → Otherwise → List Found
  otherwise_faults scope from Nothing = []
  otherwise_faults scope from (Else b) = block_faults scope (from + 1) b

-- ---- kernels

abbrev pub binding_of_shape : Shape → Binding
binding_of_shape (shape.Scalar t) = binding.Scalar t
binding_of_shape (shape.Array t) = binding.Array t

-- nothing is declared yet
abbrev pub empty : Option (List ℕ) → Scope
empty index = record { visible = []; taken = []; index = index; inside = false }

abbrev pub after_params : Scope → List Parameter → Scope
after_params scope [] = scope
after_params scope (p ∷ ps) = after_params (declared scope p.name (binding_of_shape p.shape)) ps

abbrev pub after_vars : Scope → List Accumulator → Scope
after_vars scope [] = scope
after_vars scope (v ∷ vs) = after_vars (declared scope v.name (binding.Accumulator v.type)) vs

-- the scope in which the body of a loop begins, and the returned expression after a loop
abbrev pub in_loop : Scope → PlainLoop → Scope
in_loop scope l = let s = declared scope l.index binding.Index in record s { inside = true }

abbrev pub after_for_loop : Scope → Option PlainLoop → Scope
after_for_loop scope None = scope
after_for_loop scope (Some l) = declared scope l.index binding.Index

abbrev pub params_faults : Scope → ℕ → List Parameter → List Found
params_faults scope from [] = []
params_faults scope from (p ∷ ps) = twice from scope p.name ++ params_faults (declared scope p.name (binding_of_shape p.shape)) (from + 1) ps

abbrev pub vars_faults : Scope → ℕ → List Accumulator → List Found
vars_faults scope from [] = []
vars_faults scope from (v ∷ vs) =
    let item = from + term_size scope.index v.init in
    faults scope from (Value (Some v.type)) v.init ++ (twice item scope v.name ++ vars_faults (declared scope v.name (binding.Accumulator v.type)) (item + 1) vs)

-- the bound of a loop is a scalar parameter of type u64
abbrev pub bound_faults : ℕ → Option Binding → List Found
bound_faults item None = found_at item fault.Unknown
bound_faults item (Some (binding.Scalar t)) = mismatch item (Some ty.U64) t
bound_faults item (Some b) = found_at item fault.WrongKind

abbrev pub for_loop_faults : Scope → ℕ → Option PlainLoop → List Found
for_loop_faults scope from None = []
for_loop_faults scope from (Some l) =
    bound_faults from (lookup scope l.bound) ++ (twice from scope l.index ++ block_faults (in_loop scope l) (from + 1) l.body)

abbrev pub answer_faults : Scope → ℕ → Option Returned → List Found
answer_faults scope from None = []
answer_faults scope from (Some a) = faults scope from (Value (Some a.type)) a.value

-- the scope after the parameters, and after the accumulators
abbrev pub param_scope : Program → Scope
param_scope k = after_params (empty (loop_index k)) k.params

abbrev pub var_scope : Program → Scope
var_scope k = after_vars (param_scope k) k.vars

-- the faults of a kernel but for its size and depth
abbrev pub kernel_faults : Program → List Found
kernel_faults k =
    let vars = length k.params in
    let for_loop = vars + vars_size (loop_index k) k.vars in
    params_faults (empty (loop_index k)) 0 k.params ++ (vars_faults (param_scope k) vars k.vars ++ (for_loop_faults (var_scope k) for_loop k.for_loop ++ answer_faults (after_for_loop (var_scope k) k.for_loop) (for_loop + for_loop_size k.for_loop) k.answer))

-- ---- the fault that is answered

abbrev pub order_of : Fault → ℕ
order_of fault.Unknown = 1
order_of fault.Twice = 2
order_of fault.WrongKind = 3
order_of (fault.Mismatch want found) = 4
order_of fault.Untyped = 5
order_of fault.LiteralRange = 6
order_of fault.ShiftRange = 7
order_of fault.OffsetRange = 8

-- whether a fault comes before another: at a lesser item, or at the same item with a lesser number
abbrev pub is_before : Found → Found → Bool
is_before f g = nat_lt (16 * f.item + order_of f.fault) (16 * g.item + order_of g.fault)

-- the one that comes first
abbrev pub sooner : Option Found → Option Found → Option Found
sooner None o = o
sooner (Some f) None = Some f
sooner (Some f) (Some g) = Some (if is_before g f then g else f)

abbrev pub least : List Found → Option Found
least [] = None
least (f ∷ fs) = sooner (Some f) (least fs)

-- why a kernel is refused: its size, its depth, or a rule that fails at an item
pub data Refusal : Type 0 where
  TooLarge : ℕ → Refusal
  TooDeep : ℕ → Refusal
  Fails : Found → Refusal

-- the refusal of a kernel, where it has one: its size is tried first, then its depth, then the rules
abbrev pub check_fault : Program → Option Refusal
check_fault k =
    if nat_lt most_items (size_of k) then Some (TooLarge (size_of k)) else
    if nat_lt most_depth (depth_of k) then Some (TooDeep (depth_of k)) else
    option_map Fails (least (kernel_faults k))

-- ---- the types of items

-- the types of an index's items
abbrev pub inner_types : Option ℤ → List (Option Ty) → List (Option Ty)
inner_types (Some c) ts = []
inner_types None ts = ts

-- the wanted type of each item of an expression: None for an item that is no value
abbrev pub term_types : Scope → Role → Term → List (Option Ty)
term_types scope role (Literal n) = wanted role ∷ []
term_types scope role (Variable x) = wanted role ∷ []
term_types scope role (Element a i) = inner_types (stream_offset scope.index i) (term_types scope (Value (index_type scope i)) i) ++ wanted role ∷ []
term_types scope role (Unary op e) = term_types scope (Value (wanted role)) e ++ wanted role ∷ []
term_types scope role (Operation op a b) = term_types scope (Value (wanted role)) a ++ (term_types scope (Value (wanted role)) b ++ wanted role ∷ [])
term_types scope role (Shift left e n) = term_types scope (Value (wanted role)) e ++ wanted role ∷ []
term_types scope role (Conversion e t) = term_types scope (Value (own scope e)) e ++ wanted role ∷ []
term_types scope role (Choice c a b) = term_types scope (Value (wanted role)) a ++ (term_types scope (Value (wanted role)) b ++ (term_types scope Condition c ++ wanted role ∷ []))
term_types scope role (Comparison op a b) = term_types scope (Value (side_type scope a b)) a ++ (term_types scope (Value (side_type scope a b)) b ++ None ∷ [])
term_types scope role (Both a b) = term_types scope Condition a ++ (term_types scope Condition b ++ None ∷ [])
term_types scope role (Either a b) = term_types scope Condition a ++ (None ∷ (term_types scope Condition b ++ None ∷ []))
term_types scope role (Not e) = term_types scope Condition e ++ None ∷ []

abbrev mutual
  pub action_types : Scope → Action → List (Option Ty)
  action_types scope (Define x t e) = term_types scope (Value (first t (own scope e))) e ++ first t (own scope e) ∷ []
  action_types scope (Put a i e) = term_types scope (Value (option_and_then element_type (lookup scope a))) e ++ None ∷ []
  action_types scope (Update x op e) = term_types scope (Value (option_and_then accumulator_type (lookup scope x))) e ++ None ∷ []
  action_types scope (Choose c b d) = term_types scope Condition c ++ (None ∷ (block_types scope b ++ (otherwise_types (left scope (after_block scope b)) d ++ None ∷ [])))
  action_types scope (Leave c) = term_types scope Condition c ++ None ∷ []

  pub block_types : Scope → Block → List (Option Ty)
  block_types scope Done = []
  block_types scope (Then s b) = action_types scope s ++ block_types (after_action scope s) b

  pub otherwise_types : Scope → Otherwise → List (Option Ty)
  otherwise_types scope Nothing = []
  otherwise_types scope (Else b) = None ∷ block_types scope b

abbrev pub params_types : List Parameter → List (Option Ty)
params_types [] = []
params_types (p ∷ ps) = None ∷ params_types ps

abbrev pub vars_types : Scope → List Accumulator → List (Option Ty)
vars_types scope [] = []
vars_types scope (v ∷ vs) = term_types scope (Value (Some v.type)) v.init ++ (None ∷ vars_types (declared scope v.name (binding.Accumulator v.type)) vs)

abbrev pub for_loop_types : Scope → Option PlainLoop → List (Option Ty)
for_loop_types scope None = []
for_loop_types scope (Some l) = None ∷ block_types (in_loop scope l) l.body

abbrev pub answer_types : Scope → Option Returned → List (Option Ty)
answer_types scope None = []
answer_types scope (Some a) = term_types scope (Value (Some a.type)) a.value ++ None ∷ []

-- the wanted type of each item of a kernel: None for an item that is no value
abbrev pub types_of : Program → List (Option Ty)
types_of k = params_types k.params ++ (vars_types (param_scope k) k.vars ++ (for_loop_types (var_scope k) k.for_loop ++ answer_types (after_for_loop (var_scope k) k.for_loop) k.answer))
