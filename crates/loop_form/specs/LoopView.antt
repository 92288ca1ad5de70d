-- The items of a loop as the code holds them, and the names that are visible where it lists them.
use Rattle.std.specs.Prelude.{◌≡◌, ℕ, ◌+◌, List, ◌++◌, length, map, true, Option}
use Rattle.kernel_tree.specs.declared.ops.Ty.{Ty}
use Rattle.kernel_tree.specs.Plain.{Term, Action, Block, PlainLoop, Program}
use Rattle.kernel_tree.specs.Items.{loop_index}
use Rattle.kernel_tree.specs.Typing.{Scope, Local, local, after_action, in_loop, var_scope}
use Rattle.loop_form.specs.declared.loop_item.LoopOp.{LoopOp}
use Rattle.loop_form.specs.declared.loop_item.LoopOp.TheVariants as op
use Rattle.loop_form.specs.declared.loop_item.LoopItem.{LoopItem}
use Rattle.loop_form.specs.declared.visible.Visible.{Visible}
use Rattle.loop_form.specs.LoopItems.{Op, Item, Bound, bound, outer_env, loop_env, term_items, cond_items, break_items, action_items, block_items, after_env}
use Rattle.loop_form.specs.LoopItems as ops

abbrev pub op_of : LoopOp → Op
op_of (op.Load a base t c) = ops.Load a.now base t c
op_of (op.Gather a base t r u x) = ops.Gather a.now base t r u x
op_of (op.Unary o t x) = ops.Unary o t x
op_of (op.Binary o t x y) = ops.Binary o t x y
op_of (op.Shift left n t x) = ops.Shift left n t x
op_of (op.Cast s t x) = ops.Cast s t x
op_of (op.Let t x) = ops.Let t x
op_of (op.Select t c x y) = ops.Select t c x y
op_of (op.Store a base t c v) = ops.Store a.now base t c v
op_of (op.Update x o t v) = ops.Update x.now o t v
op_of (op.Compare o t x y) = ops.Compare o t x y
op_of (op.Not c) = ops.Not c
op_of (op.And c) = ops.And c
op_of (op.Or c d) = ops.Or c d
op_of (op.Break c) = ops.Break c

abbrev pub view_of : LoopItem → Item
view_of i = record { item = i.item; mask = i.mask; op = op_of i.op }

abbrev pub view : List LoopItem → List Item
view items = map view_of items

-- ---- names

abbrev pub local_of : Visible → Local
local_of v = local v.name.now v.binding

abbrev pub bound_of : Visible → Bound
bound_of v = bound v.name.now v.source

abbrev pub locals : List Visible → List Local
locals names = map local_of names

abbrev pub env_of : List Visible → List Bound
env_of names = map bound_of names

-- the scope in which these names are visible in a loop, whatever else was declared
abbrev pub scope_of : Option (List ℕ) → List Visible → (taken : List (List ℕ)) → Scope
scope_of index names taken = record { visible = locals names; taken = taken; index = index; inside = true }

-- ---- what calls append to the items, before whatever follows

abbrev pub AppendsValue : Option (List ℕ) → List Visible → Option Ty → Option ℕ → ℕ → Term → (old new : List LoopItem) → Type 0
AppendsValue index names want mask from t old new =
    (taken : List (List ℕ)) (rest : List Item) → view new ++ rest ≡ view old ++ term_items (scope_of index names taken) want mask from (env_of names) t rest

abbrev pub AppendsCondition : Option (List ℕ) → List Visible → Option ℕ → ℕ → Term → (old new : List LoopItem) → Type 0
AppendsCondition index names mask from t old new =
    (taken : List (List ℕ)) (rest : List Item) → view new ++ rest ≡ view old ++ cond_items (scope_of index names taken) mask from (env_of names) t rest

abbrev pub AppendsBreak : Option (List ℕ) → List Visible → Option ℕ → ℕ → Term → (old new : List LoopItem) → Type 0
AppendsBreak index names mask from c old new =
    (taken : List (List ℕ)) (rest : List Item) → view new ++ rest ≡ view old ++ break_items (scope_of index names taken) mask from (env_of names) c rest

abbrev pub AppendsAction : Option (List ℕ) → List Visible → Option ℕ → ℕ → Action → (old new : List LoopItem) → Type 0
AppendsAction index names mask from a old new =
    (taken : List (List ℕ)) (rest : List Item) → view new ++ rest ≡ view old ++ action_items (scope_of index names taken) mask from (env_of names) a rest

abbrev pub AppendsBlock : Option (List ℕ) → List Visible → Option ℕ → ℕ → Block → (old new : List LoopItem) → Type 0
AppendsBlock index names mask from b old new =
    (taken : List (List ℕ)) (rest : List Item) → view new ++ rest ≡ view old ++ block_items (scope_of index names taken) mask from (env_of names) b rest

-- the names that are visible after a statement
abbrev pub Declares : Option (List ℕ) → ℕ → Action → (old new : List Visible) → Type 0
Declares index from a old new =
    (taken : List (List ℕ)) → (after_action (scope_of index old taken) a ≡ scope_of index new (after_action (scope_of index old taken) a).taken) × (after_env (scope_of index old taken) from (env_of old) a ≡ env_of new)

-- ---- the names at the head of the loop's body

-- some more names, held in places from a number on
abbrev pub AddsOuter : List Local → (old new : List Visible) → Type 0
AddsOuter more old new = (locals new ≡ locals old ++ more) × (env_of new ≡ env_of old ++ outer_env (length old) more) × (length new ≡ length old + length more)

abbrev pub IsLoopHead : Program → PlainLoop → List Visible → Type 0
IsLoopHead k l names = (in_loop (var_scope k) l ≡ scope_of (loop_index k) names (in_loop (var_scope k) l).taken) × (loop_env (var_scope k) l.index ≡ env_of names)
