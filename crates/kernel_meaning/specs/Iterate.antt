-- What the statements of one iteration do, in order.
use Rattle.std.specs.Prelude.{ℕ, ℤ, pos, List, [], ◌∷◌, ◌++◌, take, length, Option, Some, None, option_and_then, Result, Ok, Err, Bool, true, false, if◌then◌else◌}
use Rattle.kernel_tree.specs.declared.ops.Ty.{Ty}
use Rattle.kernel_tree.specs.declared.ops.UpdateOp.{UpdateOp}
use Rattle.kernel_tree.specs.Plain.{Action, Define, Put, Update, Choose, Leave, Block, Done, Then, Otherwise, Nothing, Else, PlainLoop}
use Rattle.kernel_tree.specs.Items.{stream_offset}
use Rattle.kernel_tree.specs.Typing.{Scope, lookup, own, first, element_type, accumulator_type, index_type, after_action, after_block, left, in_loop}
use Rattle.kernel_tree.specs.Wrap.{byte_count}
use Rattle.guest_types.specs.declared.memory.AccessFault.{AccessFault}
use Rattle.guest_types.specs.Memory.{Memory, stored}
use Rattle.kernel_meaning.specs.Ends.{BlockEnd, Next, Broke, Faulted}
use Rattle.kernel_meaning.specs.Operators.{word, binary_value, operator_of}
use Rattle.kernel_meaning.specs.Eval.{Named, Names, is_named, value_at, address, iteration, element_number, value, holds}

-- ---- names

abbrev pub named : List ℕ → ℤ → Named
named x v = record { name = x; value = v }

-- a name more
abbrev pub with_name : List ℕ → Names → ℤ → Names
with_name x names v = names ++ named x v ∷ []

-- the name that a `let` defines, where it has a type, as it has in a checked kernel
abbrev pub with_let : List ℕ → Option Ty → Names → ℤ → Names
with_let x None names v = names
with_let x (Some t) names v = with_name x names v

-- a name with another value
abbrev pub assigned : List ℕ → ℤ → Names → Names
assigned x v [] = []
assigned x v (n ∷ names) = if is_named x n then named n.name v ∷ names else n ∷ assigned x v names

-- the names after a block: so many as there were before it
abbrev pub cut : ℕ → BlockEnd Names → BlockEnd Names
cut n (Next memory names) = Next memory (take n names)
cut n (Broke memory names) = Broke memory (take n names)
cut n (Faulted memory) = Faulted memory

-- ---- statements, by what their expressions give

abbrev pub define : List ℕ → Option Ty → Memory → Names → Option ℤ → BlockEnd Names
define x want memory names None = Faulted memory
define x want memory names (Some v) = Next memory (with_let x want names v)

abbrev pub update : List ℕ → UpdateOp → Option Ty → Memory → Names → Option ℤ → BlockEnd Names
update x op want memory names None = Faulted memory
update x op want memory names (Some v) = Next memory (assigned x (binary_value (operator_of op) want (value_at names x) v) names)

-- a store that faults writes nothing
abbrev pub write : Memory → Names → Result Memory AccessFault → BlockEnd Names
write memory names (Ok after) = Next after names
write memory names (Err fault) = Faulted memory

-- the low bytes of a value, to an element of an array at an address; an array has a type in a checked kernel
abbrev pub put : Option Ty → ℤ → Memory → Names → Option ℤ → Option ℤ → BlockEnd Names
put t base memory names None x = Faulted memory
put t base memory names (Some v) None = Faulted memory
put None base memory names (Some v) (Some x) = Faulted memory
put (Some t) base memory names (Some v) (Some x) = write memory names (stored memory (address t base x) (byte_count t) (word v))

abbrev pub choose : Memory → Option Bool → BlockEnd Names → BlockEnd Names → BlockEnd Names
choose memory None one other = Faulted memory
choose memory (Some true) one other = one
choose memory (Some false) one other = other

abbrev pub leave : Memory → Names → Option Bool → BlockEnd Names
leave memory names None = Faulted memory
leave memory names (Some true) = Broke memory names
leave memory names (Some false) = Next memory names

abbrev pub then_do : BlockEnd Names → (Memory → Names → BlockEnd Names) → BlockEnd Names
then_do (Next memory names) rest = rest memory names
then_do (Broke memory names) rest = Broke memory names
then_do (Faulted memory) rest = Faulted memory

-- ---- statements

abbrev mutual
  pub act : Scope → Action → Memory → Names → BlockEnd Names
  act scope (Define x t e) memory names = let want = first t (own scope e) in define x want memory names (value scope want e memory names)
  -- the index of a store is a stream index in a checked kernel
  act scope (Put a i e) memory names =
      let type = option_and_then element_type (lookup scope a) in
      put type (value_at names a) memory names (value scope type e memory names) (element_number (stream_offset scope.index i) (iteration scope.index names) (value scope (index_type scope i) i memory names))
  act scope (Update x op e) memory names = let want = option_and_then accumulator_type (lookup scope x) in update x op want memory names (value scope want e memory names)
  act scope (Choose c b d) memory names = choose memory (holds scope c memory names) (cut (length names) (do_block scope b memory names)) (cut (length names) (do_otherwise (left scope (after_block scope b)) d memory names))
  act scope (Leave c) memory names = leave memory names (holds scope c memory names)

  pub do_block : Scope → Block → Memory → Names → BlockEnd Names
  do_block scope Done memory names = Next memory names
  do_block scope (Then s b) memory names = then_do (act scope s memory names) (do_block (after_action scope s) b)

  pub do_otherwise : Scope → Otherwise → Memory → Names → BlockEnd Names
  do_otherwise scope Nothing memory names = Next memory names
  do_otherwise scope (Else b) memory names = do_block scope b memory names

-- iteration i of a loop
abbrev pub iterate : Scope → PlainLoop → ℕ → Memory → Names → BlockEnd Names
iterate scope l i memory names = cut (length names) (do_block (in_loop scope l) l.body memory (with_name l.index names (pos i)))
