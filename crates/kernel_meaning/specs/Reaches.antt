-- Which items of the listing the walk of one iteration comes to, where each condition item has a given truth value. No
-- `break` ends this walk.
use Rattle.std.specs.Prelude.{ℕ, ◌+◌, ◌-◌, ℤ, List, [], ◌∷◌, ◌++◌, length, replicate, slice_get, Option, Some, None, unwrap_or, Bool, true, false, not, ◌&&◌}
use Rattle.kernel_tree.specs.Plain.{Term, Literal, Variable, Element, Unary, Operation, Shift, Conversion, Choice, Comparison, Both, Either, Not, Action, Define, Put, Update, Choose, Leave, Block, Done, Then, Otherwise, Nothing, Else, PlainLoop, Program}
use Rattle.kernel_tree.specs.Items.{stream_offset, term_size, action_size, block_size, vars_size, answer_size, loop_index}

-- the entry of an item in a list with one for each item
abbrev pub at_item : List Bool → ℕ → Bool
at_item bs item = unwrap_or (slice_get bs item) false

-- the entry of the item before one, as of a condition whose items end there
abbrev pub before_item : List Bool → ℕ → Bool
before_item bs item = at_item bs (item - 1)

-- a stream index has no items
abbrev pub inner_reached : Option ℤ → List Bool → List Bool
inner_reached (Some c) bs = []
inner_reached None bs = bs

-- Whether each item of an expression is reached, by the name of the loop variable and the truth values. The items begin
-- at a number, and the first of them is reached where `on` is true. The second side of `&&` is reached where the first one
-- is true, that of `||` where the first one is false.
abbrev pub term_reached : Option (List ℕ) → List Bool → ℕ → Bool → Term → List Bool
term_reached index truths from on (Literal n) = on ∷ []
term_reached index truths from on (Variable x) = on ∷ []
term_reached index truths from on (Element a i) = inner_reached (stream_offset index i) (term_reached index truths from on i) ++ on ∷ []
term_reached index truths from on (Unary op e) = term_reached index truths from on e ++ on ∷ []
term_reached index truths from on (Operation op a b) = term_reached index truths from on a ++ (term_reached index truths (from + term_size index a) on b ++ on ∷ [])
term_reached index truths from on (Shift left e n) = term_reached index truths from on e ++ on ∷ []
term_reached index truths from on (Conversion e t) = term_reached index truths from on e ++ on ∷ []
term_reached index truths from on (Choice c a b) =
    let next = from + term_size index a in
    term_reached index truths from on a ++ (term_reached index truths next on b ++ (term_reached index truths (next + term_size index b) on c ++ on ∷ []))
term_reached index truths from on (Comparison op a b) = term_reached index truths from on a ++ (term_reached index truths (from + term_size index a) on b ++ on ∷ [])
term_reached index truths from on (Both a b) =
    let next = from + term_size index a in
    term_reached index truths from on a ++ (term_reached index truths next (on && before_item truths next) b ++ on ∷ [])
term_reached index truths from on (Either a b) =
    let mark = from + term_size index a in
    term_reached index truths from on a ++ (on ∷ (term_reached index truths (mark + 1) (on && not (before_item truths mark)) b ++ on ∷ []))
term_reached index truths from on (Not e) = term_reached index truths from on e ++ on ∷ []

-- The block of an `if` is reached where the condition is true, the second block where it is false; `then`, `else` and `end`
-- are reached wherever the condition is.
abbrev mutual
  pub action_reached : Option (List ℕ) → List Bool → ℕ → Bool → Action → List Bool
  action_reached index truths from on (Define x t e) = term_reached index truths from on e ++ on ∷ []
  action_reached index truths from on (Put a i e) = term_reached index truths from on e ++ on ∷ []
  action_reached index truths from on (Update x op e) = term_reached index truths from on e ++ on ∷ []
  action_reached index truths from on (Choose c b d) =
      let then = from + term_size index c in
      term_reached index truths from on c ++ (on ∷ (block_reached index truths (then + 1) (on && before_item truths then) b ++ (otherwise_reached index truths (then + 1 + block_size index b) on (on && not (before_item truths then)) d ++ on ∷ [])))
  action_reached index truths from on (Leave c) = term_reached index truths from on c ++ on ∷ []

  pub block_reached : Option (List ℕ) → List Bool → ℕ → Bool → Block → List Bool
  block_reached index truths from on Done = []
  block_reached index truths from on (Then s b) = action_reached index truths from on s ++ block_reached index truths (from + action_size index s) on b

  -- `else` is reached where `on` is true, and the block after it where `inner` is
  pub otherwise_reached : Option (List ℕ) → List Bool → ℕ → Bool → Bool → Otherwise → List Bool
  otherwise_reached index truths from on inner Nothing = []
  otherwise_reached index truths from on inner (Else b) = on ∷ block_reached index truths (from + 1) inner b

-- `for` is reached
abbrev pub for_loop_reached : List Bool → ℕ → Option PlainLoop → List Bool
for_loop_reached truths from None = []
for_loop_reached truths from (Some l) = true ∷ block_reached (Some l.index) truths (from + 1) true l.body

-- no item outside the loop is reached
abbrev pub reached : Program → List Bool → List Bool
reached k truths =
    let from = length k.params + vars_size (loop_index k) k.vars in
    replicate from false ++ (for_loop_reached truths from k.for_loop ++ replicate (answer_size (loop_index k) k.answer) false)

-- an iteration with these truth values comes to the item
abbrev pub reaches : Program → List Bool → ℕ → Bool
reaches k truths item = at_item (reached k truths) item
