-- The limits of kernels and their texts, and the depth of a kernel.
use Rattle.std.specs.Prelude.{ℕ, ◌+◌, List, [], ◌∷◌, Option, Some, None, max}
use Rattle.kernel_tree.specs.Plain.{Term, Literal, Variable, Element, Unary, Operation, Shift, Conversion, Choice, Comparison, Both, Either, Not, Action, Define, Put, Update, Choose, Leave, Block, Done, Then, Otherwise, Nothing, Else, Accumulator, PlainLoop, Returned, Program}

-- the bytes and the tokens of a kernel's text
abbrev pub most_bytes : ℕ
most_bytes = 65536

abbrev pub most_tokens : ℕ
most_tokens = 4096

-- the items of a kernel
abbrev pub most_items : ℕ
most_items = 1000

-- the depth of a kernel
abbrev pub most_depth : ℕ
most_depth = 64

-- the brackets of all kinds that are open at one place, and the signs in a row
abbrev pub most_open : ℕ
most_open = 64

-- the offset of a stream index, to either side
abbrev pub most_offset : ℕ
most_offset = 1024

-- 1 for a leaf, and 1 more than the deepest child for each other expression
abbrev pub term_depth : Term → ℕ
term_depth (Literal n) = 1
term_depth (Variable x) = 1
term_depth (Element a i) = term_depth i + 1
term_depth (Unary op e) = term_depth e + 1
term_depth (Operation op a b) = max (term_depth a) (term_depth b) + 1
term_depth (Shift left e n) = term_depth e + 1
term_depth (Conversion e t) = term_depth e + 1
term_depth (Choice c a b) = max (term_depth c) (max (term_depth a) (term_depth b)) + 1
term_depth (Comparison op a b) = max (term_depth a) (term_depth b) + 1
term_depth (Both a b) = max (term_depth a) (term_depth b) + 1
term_depth (Either a b) = max (term_depth a) (term_depth b) + 1
term_depth (Not e) = term_depth e + 1

-- a statement is 1 deeper than its deepest child, and a block adds nothing of its own
abbrev mutual
  pub action_depth : Action → ℕ
  action_depth (Define x t e) = term_depth e + 1
  action_depth (Put a i e) = max (term_depth i) (term_depth e) + 1
  action_depth (Update x op e) = term_depth e + 1
  action_depth (Choose c b d) = max (term_depth c) (max (block_depth b) (otherwise_depth d)) + 1
  action_depth (Leave c) = term_depth c + 1

  pub block_depth : Block → ℕ
  block_depth Done = 0
  block_depth (Then s b) = max (action_depth s) (block_depth b)

  pub otherwise_depth : Otherwise → ℕ
  otherwise_depth Nothing = 0
  otherwise_depth (Else b) = block_depth b

abbrev pub vars_depth : List Accumulator → ℕ
vars_depth [] = 0
vars_depth (v ∷ vs) = max (term_depth v.init) (vars_depth vs)

abbrev pub for_loop_depth : Option PlainLoop → ℕ
for_loop_depth None = 0
for_loop_depth (Some l) = block_depth l.body

abbrev pub answer_depth : Option Returned → ℕ
answer_depth None = 0
answer_depth (Some a) = term_depth a.value

-- the greatest depth of an initial value, a statement or the returned expression
abbrev pub depth_of : Program → ℕ
depth_of k = max (vars_depth k.vars) (max (for_loop_depth k.for_loop) (answer_depth k.answer))
