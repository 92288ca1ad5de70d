-- The listing of a kernel: its items with what stands in each, numbered from 0. An expression is listed in post-order,
-- and a statement after its expression; a stream index, a shift count and parentheses make no items.
use Rattle.std.specs.Prelude.{ℕ, ◌+◌, ℤ, List, [], ◌∷◌, ◌++◌, length, Option, Some, None}
use Rattle.kernel_tree.specs.declared.ops.Ty.{Ty}
use Rattle.kernel_tree.specs.declared.ops.UpdateOp.{UpdateOp}
use Rattle.kernel_tree.specs.Plain.{Term, Literal, Variable, Element, Unary, Operation, Shift, Conversion, Choice, Comparison, Both, Either, Not, Action, Define, Put, Update, Choose, Leave, Block, Done, Then, Otherwise, Nothing, Else, Parameter, Accumulator, PlainLoop, Returned, Program}
use Rattle.kernel_tree.specs.Items.{term_size, index_items, stream_offset, action_size, block_size, otherwise_size, loop_index, loop_start, loop_end}
use Rattle.kernel_tree.specs.Checked.{type_at}
use Rattle.loop_form.specs.declared.item.ItemKind.{ItemKind}
use Rattle.loop_form.specs.declared.item.ItemKind.TheVariants as kind

-- What an item is, with the names, the number and the index that stand in it. The index of a read or of a store is
-- given as it is written.
pub data Content : Type 0 where
  IsLiteral : ℤ → Content
  IsName : List ℕ → Content
  IsRead : List ℕ → Term → Content
  IsLet : List ℕ → Content
  IsStore : List ℕ → Term → Content
  IsUpdate : List ℕ → UpdateOp → Content
  -- an item of any other kind
  IsPlain : ItemKind → Content

-- An item: its number, what it is, the type of its value, and the item that uses what it makes. An item that makes
-- nothing, and a `let`, stand for their own user here.
pub record Entry : Type 0 where
  pub item : ℕ
  pub content : Content
  pub type : Option Ty
  pub last_use : ℕ

abbrev pub kind_of : Content → ItemKind
kind_of (IsLiteral n) = kind.Literal
kind_of (IsName x) = kind.Name
kind_of (IsRead a i) = kind.Read
kind_of (IsLet x) = kind.Let
kind_of (IsStore a i) = kind.Store
kind_of (IsUpdate x op) = kind.Update
kind_of (IsPlain k) = k

-- the type of a value item
unfoldable pub item_type : Program → ℕ → Option Ty
item_type k n = type_at k n

abbrev pub entry : Program → ℕ → Content → ℕ → Entry
entry k item content last_use = record { item = item; content = content; type = item_type k item; last_use = last_use }

-- an index with its items where it is computed, and none where it is a stream index
abbrev pub inner_entries : Option ℤ → List Entry → List Entry
inner_entries (Some c) es = []
inner_entries None es = es

-- the items of an expression whose items begin at a number and whose value is used by the item `last_use`
abbrev pub term_entries : Program → (from last_use : ℕ) → Term → List Entry
term_entries k from last_use (Literal n) = entry k from (IsLiteral n) last_use ∷ []
term_entries k from last_use (Variable x) = entry k from (IsName x) last_use ∷ []
term_entries k from last_use (Element a i) =
    let item = from + index_items (loop_index k) i in
    inner_entries (stream_offset (loop_index k) i) (term_entries k from item i) ++ entry k item (IsRead a i) last_use ∷ []
term_entries k from last_use (Unary op e) =
    let item = from + term_size (loop_index k) e in
    term_entries k from item e ++ entry k item (IsPlain kind.Unary) last_use ∷ []
term_entries k from last_use (Operation op a b) =
    let next = from + term_size (loop_index k) a in
    let item = next + term_size (loop_index k) b in
    term_entries k from item a ++ (term_entries k next item b ++ entry k item (IsPlain kind.Binary) last_use ∷ [])
term_entries k from last_use (Shift left e n) =
    let item = from + term_size (loop_index k) e in
    term_entries k from item e ++ entry k item (IsPlain kind.Shift) last_use ∷ []
term_entries k from last_use (Conversion e t) =
    let item = from + term_size (loop_index k) e in
    term_entries k from item e ++ entry k item (IsPlain kind.Cast) last_use ∷ []
-- `select(c, a, b)` is listed as a, b, c, `select`
term_entries k from last_use (Choice c a b) =
    let next = from + term_size (loop_index k) a in
    let last = next + term_size (loop_index k) b in
    let item = last + term_size (loop_index k) c in
    term_entries k from item a ++ (term_entries k next item b ++ (term_entries k last item c ++ entry k item (IsPlain kind.Select) last_use ∷ []))
term_entries k from last_use (Comparison op a b) =
    let next = from + term_size (loop_index k) a in
    let item = next + term_size (loop_index k) b in
    term_entries k from item a ++ (term_entries k next item b ++ entry k item (IsPlain kind.Compare) last_use ∷ [])
term_entries k from last_use (Both a b) =
    let next = from + term_size (loop_index k) a in
    let item = next + term_size (loop_index k) b in
    term_entries k from item a ++ (term_entries k next item b ++ entry k item (IsPlain kind.And) last_use ∷ [])
-- `a || b` is listed as a, a mark, b, `||`, and `||` uses all three
term_entries k from last_use (Either a b) =
    let mark = from + term_size (loop_index k) a in
    let item = mark + 1 + term_size (loop_index k) b in
    term_entries k from item a ++ (entry k mark (IsPlain kind.Mark) item ∷ (term_entries k (mark + 1) item b ++ entry k item (IsPlain kind.Or) last_use ∷ []))
term_entries k from last_use (Not e) =
    let item = from + term_size (loop_index k) e in
    term_entries k from item e ++ entry k item (IsPlain kind.Not) last_use ∷ []

-- An `if` is listed as its condition, `then`, the block, `else` and the second block where they are written, and `end`.
-- The condition is used by `else`, or by `end` where there is no `else`: by the item after the first block.
abbrev mutual
  pub action_entries : Program → (from : ℕ) → Action → List Entry
  action_entries k from (Define x t e) =
      let item = from + term_size (loop_index k) e in
      term_entries k from item e ++ entry k item (IsLet x) item ∷ []
  action_entries k from (Put a i e) =
      let item = from + term_size (loop_index k) e in
      term_entries k from item e ++ entry k item (IsStore a i) item ∷ []
  action_entries k from (Update x op e) =
      let item = from + term_size (loop_index k) e in
      term_entries k from item e ++ entry k item (IsUpdate x op) item ∷ []
  action_entries k from (Choose c b d) =
      let first = from + term_size (loop_index k) c in
      let following = first + 1 + block_size (loop_index k) b in
      let end = following + otherwise_size (loop_index k) d in
      term_entries k from following c ++ (entry k first (IsPlain kind.Then) first ∷ (block_entries k (first + 1) b ++ (otherwise_entries k following end d ++ entry k end (IsPlain kind.End) end ∷ [])))
  action_entries k from (Leave c) =
      let item = from + term_size (loop_index k) c in
      term_entries k from item c ++ entry k item (IsPlain kind.Break) item ∷ []

  pub block_entries : Program → (from : ℕ) → Block → List Entry
  block_entries k from Done = []
  block_entries k from (Then s b) = action_entries k from s ++ block_entries k (from + action_size (loop_index k) s) b

  -- the value of `else` is used by `end`
  pub otherwise_entries : Program → (from end : ℕ) → Otherwise → List Entry
  otherwise_entries k from end Nothing = []
  otherwise_entries k from end (Else b) = entry k from (IsPlain kind.Else) end ∷ block_entries k (from + 1) b

abbrev pub params_entries : Program → (from : ℕ) → List Parameter → List Entry
params_entries k from [] = []
params_entries k from (p ∷ ps) = entry k from (IsPlain kind.Param) from ∷ params_entries k (from + 1) ps

-- an initial value is used by its `var`
abbrev pub vars_entries : Program → (from : ℕ) → List Accumulator → List Entry
vars_entries k from [] = []
vars_entries k from (v ∷ vs) =
    let item = from + term_size (loop_index k) v.init in
    term_entries k from item v.init ++ (entry k item (IsPlain kind.Var) item ∷ vars_entries k (item + 1) vs)

abbrev pub for_loop_entries : Program → (from : ℕ) → Option PlainLoop → List Entry
for_loop_entries k from None = []
for_loop_entries k from (Some l) = entry k from (IsPlain kind.For) from ∷ block_entries k (from + 1) l.body

abbrev pub answer_entries : Program → (from : ℕ) → Option Returned → List Entry
answer_entries k from None = []
answer_entries k from (Some a) =
    let item = from + term_size (loop_index k) a.value in
    term_entries k from item a.value ++ entry k item (IsPlain kind.Return) item ∷ []

-- the items of the loop
abbrev pub loop_entries : Program → List Entry
loop_entries k = for_loop_entries k (loop_start k) k.for_loop

-- the items of a kernel: its parameters, accumulators, loop and returned value
abbrev pub entries_of : Program → List Entry
entries_of k = params_entries k 0 k.params ++ (vars_entries k (length k.params) k.vars ++ (loop_entries k ++ answer_entries k (loop_end k) k.answer))
