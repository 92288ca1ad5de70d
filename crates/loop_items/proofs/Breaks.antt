-- A break on no `||` is one on its condition.
use Rattle.std.proofs.Common.{◌≡◌, ℕ, List, Option, Box, Global, refl}
use Rattle.kernel_tree.specs.declared.ast.Expr.{Expr}
use Rattle.kernel_tree.specs.declared.ast.Expr.TheVariants as expr
use Rattle.kernel_tree.specs.declared.ast.Expr as whole
use Rattle.kernel_tree.specs.Plain.{term_of}
use Rattle.kernel_tree.specs.Typing.{Scope}
use Rattle.loop_form.specs.LoopItems.{Bound, Item, break_items, leave_items}

pub one_break : (e : Expr) → ((x y : Box Expr Global) → e ≡ whole.Or x y → ⊥) → (scope : Scope) (mask : Option ℕ) (from : ℕ) (env : List Bound) (rest : List Item) → break_items scope mask from env (term_of e) rest ≡ leave_items scope mask from env (term_of e) rest
one_break (expr.Or' p a q b) other scope mask from env rest = absurd (other (record { ptr = p.ptr; alloc = p.alloc; value = a }) (record { ptr = q.ptr; alloc = q.alloc; value = b }) refl)
one_break e other scope mask from env rest = refl
