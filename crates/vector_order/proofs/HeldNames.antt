-- The places where the names of a loop are held.
use Rattle.std.proofs.Common.{◌≡◌, ℕ, suc, ◌<◌, Bool, true, false, cond, List, [], ◌∷◌, ◌++◌, Option, Some, None}
use Rattle.std.specs.Prelude.{bytes_eq}
use Rattle.kernel_tree.specs.declared.ops.Ty.{Ty}
use Rattle.kernel_tree.specs.Typing.{Local}
use Rattle.loop_form.specs.declared.loop_item.Operand.TheVariants.{Made}
use Rattle.loop_form.specs.LoopItems.{Bound, bound, operand_at, with_bound, outer_env}
use Rattle.vector_order.proofs.LaneValues.{EnvBelow}
pub use Rattle.kernel_tree.proofs.Faultless.{nil-left, nil-right}
use Rattle.loop_form.specs.declared.loop_item.Operand.TheVariants as operands

pub env_below-append : (xs ys : List Bound) (n : ℕ) → EnvBelow xs n → EnvBelow ys n → EnvBelow (xs ++ ys) n
env_below-append [] ys n h k = k
env_below-append (x ∷ xs) ys n h k = (h.0, env_below-append xs ys n h.1 k)

pub operand_at-append : (env more : List Bound) (x : List ℕ) → operand_at env x ≡ operands.LoopIndex → operand_at (env ++ more) x ≡ operands.LoopIndex
operand_at-append [] more x e = cc
operand_at-append (b ∷ env) more x e = by_test (bytes_eq b.name x) e (operand_at-append env more x)
  where
    by_test : (t : Bool) → cond t b.source (operand_at env x) ≡ operands.LoopIndex → (operand_at env x ≡ operands.LoopIndex → operand_at (env ++ more) x ≡ operands.LoopIndex) → cond t b.source (operand_at (env ++ more) x) ≡ operands.LoopIndex
    by_test true e h = e
    by_test false e h = h e

pub bound_below : (env : List Bound) (x : List ℕ) (o : Option Ty) (q n : ℕ) → EnvBelow env n → q < n → EnvBelow (with_bound env x o q) n
bound_below env x None q n b lt = b
bound_below env x (Some t) q n b lt = env_below-append env (bound x (Made q) ∷ []) n b (lt, tt)

pub outer_below : (p n : ℕ) (xs : List Local) → EnvBelow (outer_env p xs) n
outer_below p n [] = tt
outer_below p n (x ∷ xs) = (tt, outer_below (suc p) n xs)
