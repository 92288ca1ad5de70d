-- An expression of none of the other kinds is an element or a condition.
use Rattle.std.proofs.Common.{◌≡◌, ℕ, ℤ, Bool, Option, Box, Global, refl}
use Rattle.guest_types.specs.Memory.{Memory}
use Rattle.kernel_tree.specs.declared.ops.Ty.{Ty}
use Rattle.kernel_tree.specs.declared.ops.UnaryOp.{UnaryOp}
use Rattle.kernel_tree.specs.declared.ops.BinaryOp.{BinaryOp}
use Rattle.kernel_plan.specs.declared.node.Node.{Node}
use Rattle.kernel_plan.specs.declared.node.Node.TheVariants as node
use Rattle.kernel_plan.specs.Trees.{tree_of}
use Rattle.kernel_eval.specs.Slots.{Slots, tree_value, element_value}

module _ (memory : Memory) (slots : Slots) where
  pub of_element : (n : Node)
      → ((z : ℤ) → n ≡ node.Constant z → ⊥)
      → ((k : ℕ) → n ≡ node.Slot k → ⊥)
      → ((op : UnaryOp) (t : Option Ty) (x : Box Node Global) → n ≡ node.Unary op t x → ⊥)
      → ((op : BinaryOp) (t : Option Ty) (x y : Box Node Global) → n ≡ node.Binary op t x y → ⊥)
      → ((left : Bool) (k : ℤ) (t : Option Ty) (x : Box Node Global) → n ≡ node.Shift left k t x → ⊥)
      → ((t : Ty) (x : Box Node Global) → n ≡ node.Cast t x → ⊥)
      → ((x y z : Box Node Global) → n ≡ node.Select x y z → ⊥)
      → element_value (tree_of n) memory slots ≡ tree_value (tree_of n) memory slots
  of_element (node.Constant z) a b c d e f g = absurd (a z refl)
  of_element (node.Slot k) a b c d e f g = absurd (b k refl)
  of_element (node.Unary' op t p x) a b c d e f g = absurd (c op t (record { ptr = p.ptr; alloc = p.alloc; value = x }) refl)
  of_element (node.Binary' op t p x q y) a b c d e f g = absurd (d op t (record { ptr = p.ptr; alloc = p.alloc; value = x }) (record { ptr = q.ptr; alloc = q.alloc; value = y }) refl)
  of_element (node.Shift' left k t p x) a b c d e f g = absurd (e left k t (record { ptr = p.ptr; alloc = p.alloc; value = x }) refl)
  of_element (node.Cast' t p x) a b c d e f g = absurd (f t (record { ptr = p.ptr; alloc = p.alloc; value = x }) refl)
  of_element (node.Select' p x q y r z) a b c d e f g = absurd (g (record { ptr = p.ptr; alloc = p.alloc; value = x }) (record { ptr = q.ptr; alloc = q.alloc; value = y }) (record { ptr = r.ptr; alloc = r.alloc; value = z }) refl)
  of_element other a b c d e f g = refl
