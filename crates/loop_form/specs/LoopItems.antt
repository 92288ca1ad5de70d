-- What the items of a loop do, with their operands and masks. The items have the numbers of the listing. A literal, a name,
-- `then` and `end` do nothing, so they are no items here.
use Rattle.std.specs.Prelude.{ℕ, suc, ◌+◌, ℤ, pos, List, [], ◌∷◌, ◌++◌, Option, Some, None, option_and_then, Bool, bytes_eq, if◌then◌else◌}
use Rattle.kernel_tree.specs.declared.ops.Ty.{Ty}
use Rattle.kernel_tree.specs.declared.ops.UnaryOp.{UnaryOp}
use Rattle.kernel_tree.specs.declared.ops.BinaryOp.{BinaryOp}
use Rattle.kernel_tree.specs.declared.ops.CompareOp.{CompareOp}
use Rattle.kernel_tree.specs.declared.ops.UpdateOp.{UpdateOp}
use Rattle.kernel_tree.specs.Plain.{Term, Literal, Variable, Element, Operation, Conversion, Choice, Comparison, Both, Either, Action, Define, Put, Choose, Leave, Block, Done, Then, Otherwise, Nothing, Else, PlainLoop, Program}
use Rattle.kernel_tree.specs.Plain as tree
use Rattle.kernel_tree.specs.Items.{stream_offset, term_size, index_items, action_size, block_size, loop_start}
use Rattle.kernel_tree.specs.Typing.{Scope, Local, lookup, own, index_type, first, accumulator_type, side_type, after_action, after_block, left, in_loop, var_scope, array_type}
use Rattle.loop_form.specs.declared.loop_item.Operand.{Operand}
use Rattle.loop_form.specs.Reaches.{is_widened, reach_of_type}
use Rattle.loop_form.specs.declared.loop_item.Operand.TheVariants.{Constant, Outer, LoopIndex, Made}

-- what an item does, with the types of its operands; an array has a name and the place where its address is held
pub data Op : Type 0 where
  Load : (a : List ℕ) (base : Operand) (t : Option Ty) (c : ℤ) → Op
  -- a read at the index that an operand of type u is, with the reach of the index where it has one
  Gather : (a : List ℕ) (base : Operand) (t : Option Ty) (reach : Option ℕ) (u : Option Ty) (x : Operand) → Op
  Unary : UnaryOp → Option Ty → Operand → Op
  Binary : BinaryOp → Option Ty → (x y : Operand) → Op
  Shift : (left : Bool) (n : ℤ) → Option Ty → Operand → Op
  Cast : (from : Option Ty) (to : Ty) → Operand → Op
  Let : Option Ty → Operand → Op
  -- the one value where condition c is true, else the other
  Select : Option Ty → (c : ℕ) (x y : Operand) → Op
  Store : (a : List ℕ) (base : Operand) (t : Option Ty) (c : ℤ) (v : Operand) → Op
  Update : (x : List ℕ) (op : UpdateOp) (t : Option Ty) (v : Operand) → Op
  -- conditions: a comparison; not c, as for `!`, the mark of `||` and `else`; both, of which the second was made where
  -- the first is true; one of two
  Compare : CompareOp → Option Ty → (x y : Operand) → Op
  Not : (c : ℕ) → Op
  And : (c : ℕ) → Op
  Or : (c d : ℕ) → Op
  -- the loop ends where c is true
  Break : (c : ℕ) → Op

-- an item, done in the lanes in which the item of its mask is true, and in all where it has none
pub record Item : Type 0 where
  pub item : ℕ
  pub mask : Option ℕ
  pub op : Op

abbrev pub item : ℕ → Option ℕ → Op → Item
item q mask op = record { item = q; mask = mask; op = op }

-- ---- names

-- a visible name, and where its value is held
pub record Bound : Type 0 where
  pub name : List ℕ
  pub source : Operand

abbrev pub bound : List ℕ → Operand → Bound
bound x s = record { name = x; source = s }

abbrev pub operand_at : List Bound → List ℕ → Operand
operand_at [] x = Constant None (pos 0)
operand_at (b ∷ env) x = if bytes_eq b.name x then b.source else operand_at env x

-- the names after a `let`
abbrev pub with_bound : List Bound → List ℕ → Option Ty → ℕ → List Bound
with_bound env x None q = env
with_bound env x (Some t) q = env ++ bound x (Made q) ∷ []

-- the names from before the loop, from a place on
abbrev pub outer_env : ℕ → List Local → List Bound
outer_env p [] = []
outer_env p (x ∷ xs) = bound x.name (Outer p) ∷ outer_env (suc p) xs

-- the names at the head of a loop's body
abbrev pub loop_env : Scope → List ℕ → List Bound
loop_env scope index = outer_env 0 scope.visible ++ bound index LoopIndex ∷ []

abbrev pub accumulator_of : Scope → List ℕ → Option Ty
accumulator_of scope x = option_and_then accumulator_type (lookup scope x)

-- ---- operands

-- where the value of an expression is held whose items begin at a number
abbrev pub home : Option (List ℕ) → Option Ty → ℕ → List Bound → Term → Operand
home index want from env (Literal n) = Constant want n
home index want from env (Variable x) = operand_at env x
home index want from env (Element a i) = Made (from + index_items index i)
home index want from env (tree.Unary op e) = Made (from + term_size index e)
home index want from env (Operation op a b) = Made (from + term_size index a + term_size index b)
home index want from env (tree.Shift left e n) = Made (from + term_size index e)
home index want from env (Conversion e t) = Made (from + term_size index e)
home index want from env (Choice c a b) = Made (from + term_size index a + term_size index b + term_size index c)
home index want from env _ = Constant None (pos 0)

-- the item of a condition whose items begin at a number
abbrev pub truth_home : Option (List ℕ) → ℕ → Term → ℕ
truth_home index from (Comparison op a b) = from + term_size index a + term_size index b
truth_home index from (Both a b) = from + term_size index a + term_size index b
truth_home index from (Either a b) = from + term_size index a + 1 + term_size index b
truth_home index from (tree.Not e) = from + term_size index e
truth_home index from _ = from

-- the type that the value of a computed index comes from: through casts that leave each value as it is
abbrev pub index_source : Scope → Term → Option Ty
index_source scope (Conversion e t) = if is_widened (own scope e) t then index_source scope e else Some t
index_source scope e = index_type scope e

-- ---- items

-- a read at a computed index
abbrev pub gather_item : Scope → Option ℕ → (from q : ℕ) → List Bound → List ℕ → Term → Item
gather_item scope mask from q env a i = item q mask (Gather a (operand_at env a) (array_type scope a) (reach_of_type (index_source scope i)) (index_type scope i) (home scope.index (index_type scope i) from env i))

-- a read: where the index is a stream index its item alone, and else the items of the index and of the read
abbrev pub load_item : Scope → Option ℕ → ℕ → List Bound → List ℕ → Option ℤ → (gathered rest : List Item) → List Item
load_item scope mask q env a None gathered rest = gathered
load_item scope mask q env a (Some c) gathered rest = item q mask (Load a (operand_at env a) (array_type scope a) c) ∷ rest

-- the items of a value, or of a condition, under a mask, and those after
abbrev mutual
  pub term_items : Scope → Option Ty → Option ℕ → ℕ → List Bound → Term → List Item → List Item
  term_items scope want mask from env (Literal n) rest = rest
  term_items scope want mask from env (Variable x) rest = rest
  term_items scope want mask from env (Element a i) rest =
      let q = from + index_items scope.index i in
      load_item scope mask q env a (stream_offset scope.index i) (term_items scope (index_type scope i) mask from env i (gather_item scope mask from q env a i ∷ rest)) rest
  term_items scope want mask from env (tree.Unary op e) rest = term_items scope want mask from env e (item (from + term_size scope.index e) mask (Unary op want (home scope.index want from env e)) ∷ rest)
  term_items scope want mask from env (Operation op a b) rest =
      let next = from + term_size scope.index a in
      term_items scope want mask from env a (term_items scope want mask next env b (item (next + term_size scope.index b) mask (Binary op want (home scope.index want from env a) (home scope.index want next env b)) ∷ rest))
  term_items scope want mask from env (tree.Shift left e n) rest = term_items scope want mask from env e (item (from + term_size scope.index e) mask (Shift left n want (home scope.index want from env e)) ∷ rest)
  term_items scope want mask from env (Conversion e t) rest = term_items scope (own scope e) mask from env e (item (from + term_size scope.index e) mask (Cast (own scope e) t (home scope.index (own scope e) from env e)) ∷ rest)
  term_items scope want mask from env (Choice c a b) rest =
      let next = from + term_size scope.index a in
      let last = next + term_size scope.index b in
      term_items scope want mask from env a (term_items scope want mask next env b (cond_items scope mask last env c (item (last + term_size scope.index c) mask (Select want (truth_home scope.index last c) (home scope.index want from env a) (home scope.index want next env b)) ∷ rest)))
  term_items scope want mask from env (Comparison op a b) rest = rest
  term_items scope want mask from env (Both a b) rest = rest
  term_items scope want mask from env (Either a b) rest = rest
  term_items scope want mask from env (tree.Not e) rest = rest

  pub cond_items : Scope → Option ℕ → ℕ → List Bound → Term → List Item → List Item
  cond_items scope mask from env (Comparison op a b) rest =
      let want = side_type scope a b in
      let next = from + term_size scope.index a in
      term_items scope want mask from env a (term_items scope want mask next env b (item (next + term_size scope.index b) mask (Compare op want (home scope.index want from env a) (home scope.index want next env b)) ∷ rest))
  cond_items scope mask from env (Both a b) rest =
      let next = from + term_size scope.index a in
      let first = truth_home scope.index from a in
      cond_items scope mask from env a (cond_items scope (Some first) next env b (item (next + term_size scope.index b) mask (And (truth_home scope.index next b)) ∷ rest))
  cond_items scope mask from env (Either a b) rest =
      let mark = from + term_size scope.index a in
      let first = truth_home scope.index from a in
      cond_items scope mask from env a (item mark mask (Not first) ∷ cond_items scope (Some mark) (mark + 1) env b (item (mark + 1 + term_size scope.index b) mask (Or first (truth_home scope.index (mark + 1) b)) ∷ rest))
  cond_items scope mask from env (tree.Not e) rest = cond_items scope mask from env e (item (from + term_size scope.index e) mask (Not (truth_home scope.index from e)) ∷ rest)
  cond_items scope mask from env (Literal n) rest = rest
  cond_items scope mask from env (Variable x) rest = rest
  cond_items scope mask from env (Element a i) rest = rest
  cond_items scope mask from env (tree.Unary op e) rest = rest
  cond_items scope mask from env (Operation op a b) rest = rest
  cond_items scope mask from env (tree.Shift left e n) rest = rest
  cond_items scope mask from env (Conversion e t) rest = rest
  cond_items scope mask from env (Choice c a b) rest = rest

abbrev pub store_item : Scope → Option ℕ → ℕ → List Bound → List ℕ → Option ℤ → Operand → List Item → List Item
store_item scope mask q env a None v rest = rest
store_item scope mask q env a (Some c) v rest = item q mask (Store a (operand_at env a) (array_type scope a) c v) ∷ rest

abbrev pub after_env : Scope → ℕ → List Bound → Action → List Bound
after_env scope from env (Define x t e) = with_bound env x (first t (own scope e)) (from + term_size scope.index e)
after_env scope from env _ = env

-- a break on one condition
abbrev pub break_items : Scope → Option ℕ → ℕ → List Bound → Term → List Item → List Item
break_items scope mask from env c rest = cond_items scope mask from env c (item (from + term_size scope.index c) mask (Break (truth_home scope.index from c)) ∷ rest)

-- A break on `a || b` is one on a and then one on b, in the places of the mark and of the `||`, so that b is done under no mask of
-- its own; `a || b || c`, which is `(a || b) || c`, is three.
abbrev pub leave_items : Scope → Option ℕ → ℕ → List Bound → Term → List Item → List Item
leave_items scope mask from env (Either a b) rest = leave_items scope mask from env a (break_items scope mask (from + term_size scope.index a + 1) env b rest)
leave_items scope mask from env c rest = break_items scope mask from env c rest

abbrev mutual
  pub action_items : Scope → Option ℕ → ℕ → List Bound → Action → List Item → List Item
  action_items scope mask from env (Define x t e) rest = let want = first t (own scope e) in term_items scope want mask from env e (item (from + term_size scope.index e) mask (Let want (home scope.index want from env e)) ∷ rest)
  action_items scope mask from env (Put a i e) rest = term_items scope (array_type scope a) mask from env e (store_item scope mask (from + term_size scope.index e) env a (stream_offset scope.index i) (home scope.index (array_type scope a) from env e) rest)
  action_items scope mask from env (tree.Update x op e) rest = let want = accumulator_of scope x in term_items scope want mask from env e (item (from + term_size scope.index e) mask (Update x op want (home scope.index want from env e)) ∷ rest)
  action_items scope mask from env (Choose c b d) rest =
      let first = truth_home scope.index from c in
      let inner = from + term_size scope.index c + 1 in
      cond_items scope mask from env c (block_items scope (Some first) inner env b (otherwise_items (left scope (after_block scope b)) mask (inner + block_size scope.index b) first env d rest))
  action_items scope mask from env (Leave c) rest = leave_items scope mask from env c rest

  pub block_items : Scope → Option ℕ → ℕ → List Bound → Block → List Item → List Item
  block_items scope mask from env Done rest = rest
  block_items scope mask from env (Then s b) rest = action_items scope mask from env s (block_items (after_action scope s) mask (from + action_size scope.index s) (after_env scope from env s) b rest)

  -- the second block of an `if` with this condition
  pub otherwise_items : Scope → Option ℕ → ℕ → (c : ℕ) → List Bound → Otherwise → List Item → List Item
  otherwise_items scope mask from c env Nothing rest = rest
  otherwise_items scope mask from c env (Else b) rest = item from mask (Not c) ∷ block_items scope (Some from) (from + 1) env b rest

-- ---- the loop

-- the items of the loop's body
abbrev pub loop_items : Program → PlainLoop → List Item
loop_items k l = block_items (in_loop (var_scope k) l) None (loop_start k + 1) (loop_env (var_scope k) l.index) l.body []

abbrev pub for_loop_items : Program → Option PlainLoop → List Item
for_loop_items k None = []
for_loop_items k (Some l) = loop_items k l

-- the items of a kernel's loop, in the order of the listing
abbrev pub loop_items_of : Program → List Item
loop_items_of k = for_loop_items k k.for_loop
