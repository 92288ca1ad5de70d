-- How many items the parts of a kernel make in its listing. An expression is listed in post-order; a stream index,
-- a shift count and parentheses make no items, and `||` has a mark after its left side.
use Rattle.std.specs.Prelude.{ℕ, ◌+◌, ℤ, pos, neg_ℤ, List, [], ◌∷◌, length, Option, Some, None, Bool, false, bytes_eq, if◌then◌else◌, option_map, option_and_then}
use Rattle.kernel_tree.specs.declared.ops.BinaryOp.{BinaryOp}
use Rattle.kernel_tree.specs.declared.ops.BinaryOp.TheVariants as binary
use Rattle.kernel_tree.specs.Plain.{Term, Literal, Variable, Element, Unary, Operation, Shift, Conversion, Choice, Comparison, Both, Either, Not, Action, Define, Put, Update, Choose, Leave, Block, Done, Then, Otherwise, Nothing, Else, Accumulator, PlainLoop, Returned, Program}

-- ---- indexes

-- whether a name is that of the loop variable, where there is one
abbrev pub is_index : Option (List ℕ) → List ℕ → Bool
is_index None x = false
is_index (Some i) x = bytes_eq x i

abbrev pub is_index_term : Option (List ℕ) → Term → Bool
is_index_term i (Variable x) = is_index i x
is_index_term i _ = false

abbrev pub literal_value : Term → Option ℤ
literal_value (Literal c) = Some c
literal_value _ = None

-- the offset that an operation with a literal makes
abbrev pub moved_by : BinaryOp → ℤ → Option ℤ
moved_by binary.Add c = Some c
moved_by binary.Sub c = Some (neg_ℤ c)
moved_by _ c = None

-- The offset of a stream index: the loop variable, or it and a literal more or less. Any other index is computed.
abbrev pub stream_offset : Option (List ℕ) → Term → Option ℤ
stream_offset i (Variable x) = if is_index i x then Some (pos 0) else None
stream_offset i (Operation op a b) = if is_index_term i a then option_and_then (moved_by op) (literal_value b) else None
stream_offset i _ = None

-- ---- sizes

-- the items of an index, by its offset where it is a stream index and else by those of its tree
abbrev pub index_size : Option ℤ → ℕ → ℕ
index_size (Some c) n = 0
index_size None n = n

-- the items of an expression, by the name of the loop variable
abbrev pub term_size : Option (List ℕ) → Term → ℕ
term_size i (Literal n) = 1
term_size i (Variable x) = 1
term_size i (Element a e) = index_size (stream_offset i e) (term_size i e) + 1
term_size i (Unary op e) = term_size i e + 1
term_size i (Operation op a b) = term_size i a + term_size i b + 1
term_size i (Shift left e n) = term_size i e + 1
term_size i (Conversion e t) = term_size i e + 1
term_size i (Choice c a b) = term_size i a + term_size i b + term_size i c + 1
term_size i (Comparison op a b) = term_size i a + term_size i b + 1
term_size i (Both a b) = term_size i a + term_size i b + 1
term_size i (Either a b) = term_size i a + 1 + term_size i b + 1
term_size i (Not e) = term_size i e + 1

-- the items of an index
abbrev pub index_items : Option (List ℕ) → Term → ℕ
index_items i e = index_size (stream_offset i e) (term_size i e)

abbrev mutual
  pub action_size : Option (List ℕ) → Action → ℕ
  action_size i (Define x t e) = term_size i e + 1
  action_size i (Put a o e) = term_size i e + 1
  action_size i (Update x op e) = term_size i e + 1
  action_size i (Choose c b d) = term_size i c + 1 + block_size i b + otherwise_size i d + 1
  action_size i (Leave c) = term_size i c + 1

  pub block_size : Option (List ℕ) → Block → ℕ
  block_size i Done = 0
  block_size i (Then s b) = action_size i s + block_size i b

  pub otherwise_size : Option (List ℕ) → Otherwise → ℕ
  otherwise_size i Nothing = 0
  otherwise_size i (Else b) = 1 + block_size i b

-- the initial value of each accumulator, and the accumulator
abbrev pub vars_size : Option (List ℕ) → List Accumulator → ℕ
vars_size i [] = 0
vars_size i (v ∷ vs) = term_size i v.init + 1 + vars_size i vs

-- `for` and the body
abbrev pub for_loop_size : Option PlainLoop → ℕ
for_loop_size None = 0
for_loop_size (Some l) = 1 + block_size (Some l.index) l.body

-- the expression and `return`
abbrev pub answer_size : Option (List ℕ) → Option Returned → ℕ
answer_size i None = 0
answer_size i (Some a) = term_size i a.value + 1

abbrev pub index_of : PlainLoop → List ℕ
index_of l = l.index

-- the name of the loop variable
abbrev pub loop_index : Program → Option (List ℕ)
loop_index k = option_map index_of k.for_loop

-- the number of `for`, and the first number after the loop
abbrev pub loop_start : Program → ℕ
loop_start k = length k.params + vars_size (loop_index k) k.vars

abbrev pub loop_end : Program → ℕ
loop_end k = loop_start k + for_loop_size k.for_loop

-- the items of a kernel: its parameters, accumulators, loop and returned value
abbrev pub size_of : Program → ℕ
size_of k = length k.params + vars_size (loop_index k) k.vars + for_loop_size k.for_loop + answer_size (loop_index k) k.answer
