-- What the calls of the walk over statements ask, and what they leave.
use Rattle.std.proofs.Common.{◌≡◌, ℕ, ◌+◌, ◌*◌, ◌<◌, List, Option, sym, ap, ap₂, subst, ◌∙◌, arith}
use Rattle.std.specs.Prelude.{max, Result, IfOk, option_and_then}
use Rattle.kernel_tree.specs.declared.ops.Ty.{Ty}
use Rattle.kernel_tree.specs.declared.ops.BinaryOp.{BinaryOp}
use Rattle.kernel_tree.specs.declared.ops.UpdateOp.{UpdateOp}
use Rattle.kernel_tree.specs.Plain.{Term, Action, Update, Choose, Block, Nothing}
use Rattle.kernel_tree.specs.Limits.{action_depth, block_depth}
use Rattle.kernel_tree.specs.Typing.{Scope, lookup, accumulator_type, left, after_action}
use Rattle.kernel_meaning.specs.Operators.{operator_of}
use Rattle.kernel_plan.specs.declared.step.Step.{Step}
use Rattle.kernel_plan.specs.Trees.{Tree, Slot, Binary, Set, task_of}
use Rattle.kernel_plan.specs.Resolve.{slot_of, resolved, resolved_action}

-- ---- depths

pub four_block_and_none_below : (t : ℕ) (whole : Action) (c : Term) (b : Block) → 4 * action_depth whole ≡ t → whole ≡ Choose c b Nothing → 4 * max (block_depth b) 0 + 3 < t
four_block_and_none_below t whole c b falls is = let deep = ap action_depth is in omega (arith, falls, deep)

pub four_3_to_left_2 : (t b d : ℕ) → 4 * max b d + 3 ≡ t → 4 * b + 2 < t
four_3_to_left_2 t b d falls = omega arith

-- ---- a statement of a kind

module _ {E : Type 0} (r : Result Step E) (s : Scope) (a whole : Action) (is : whole ≡ a) where
  pub as_task : IfOk r (λ x. task_of x ≡ resolved_action s a) → IfOk r (λ x. task_of x ≡ resolved_action s whole)
  as_task h = subst (λ (x : Action). IfOk r (λ y. task_of y ≡ resolved_action s x)) (sym is) h

  pub as_scope : (t : Scope) → IfOk r (λ _. t ≡ after_action s a) → IfOk r (λ _. t ≡ after_action s whole)
  as_scope t h = subst (λ (x : Action). IfOk r (λ _. t ≡ after_action s x)) (sym is) h

-- ---- an `if` and an update

pub updated : (s : Scope) (x : List ℕ) (op : UpdateOp) (e : Term) (n : ℕ) (o : BinaryOp) (want : Option Ty) (l r : Tree) → n ≡ slot_of s x → o ≡ operator_of op → want ≡ option_and_then accumulator_type (lookup s x) → l ≡ Slot n → r ≡ resolved s want e → Set n (Binary o want l r) ≡ resolved_action s (Update x op e)
updated s x op e n o want l r slot operator wanted left right =
    ap₂ (λ (f g : Tree). Set n (Binary o want f g)) left right
    ∙ ap₂ (λ (m : ℕ) (p : BinaryOp). Set m (Binary p want (Slot m) (resolved s want e))) slot operator
    ∙ ap (λ w. Set (slot_of s x) (Binary (operator_of op) w (Slot (slot_of s x)) (resolved s w e))) wanted
