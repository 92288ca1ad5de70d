-- The kinds of an expression as the walk over its arrays takes them together: how deep they are, and which arrays they have.
use Rattle.std.proofs.Common.{◌≡◌, ℕ, ◌+◌, ◌*◌, ◌<◌, List, Bool, Box, Global, ◌⊎◌, inl, inr, refl, sym, ap, arith}
use Rattle.std.specs.Prelude.{ℤ, max}
use Rattle.kernel_tree.specs.declared.name.Name.{Name}
use Rattle.kernel_tree.specs.declared.ops.Ty.{Ty}
use Rattle.kernel_tree.specs.declared.ops.UnaryOp.{UnaryOp}
use Rattle.kernel_tree.specs.declared.ops.BinaryOp.{BinaryOp}
use Rattle.kernel_tree.specs.declared.ops.CompareOp.{CompareOp}
use Rattle.kernel_tree.specs.declared.ast.Expr.{Expr}
use Rattle.kernel_tree.specs.declared.ast.Expr.TheVariants as expr
use Rattle.kernel_tree.specs.declared.ast.Expr as whole
use Rattle.kernel_tree.specs.Plain.{Term, term_of}
use Rattle.kernel_tree.specs.Limits.{term_depth}
use Rattle.kernel_tree.specs.Typing.{Scope}
use Rattle.scalar_words.specs.Layout.{Loose}
use Rattle.loop_code.specs.Loosening.{term_arrays}

-- one operand
pub record OneOperand (x e : Term) : Type 0 where
  pub depth : term_depth x ≡ term_depth e + 1
  pub arrays : (s : Scope) (ls : List Loose) → term_arrays s e ls ≡ term_arrays s x ls

-- two operands, one after the other
pub record TwoOperands (x e f : Term) : Type 0 where
  pub depth : term_depth x ≡ max (term_depth e) (term_depth f) + 1
  pub arrays : (s : Scope) (ls : List Loose) → term_arrays s f (term_arrays s e ls) ≡ term_arrays s x ls

pub one_operand : (x : Expr) (e : Box Expr Global) → ((op : UnaryOp) × (x ≡ whole.Unary op e)) ⊎ (((left : Bool) × (n : ℤ) × (x ≡ whole.Shift left e n)) ⊎ (((t : Ty) × (x ≡ whole.Cast e t)) ⊎ (x ≡ whole.Not e))) → OneOperand (term_of x) (term_of e.value)
one_operand x e (inl (op, is)) = record { depth = ap (λ (y : Expr). term_depth (term_of y)) is; arrays = λ s ls. ap (λ (y : Expr). term_arrays s (term_of y) ls) (sym is) }
one_operand x e (inr (inl (left, n, is))) = record { depth = ap (λ (y : Expr). term_depth (term_of y)) is; arrays = λ s ls. ap (λ (y : Expr). term_arrays s (term_of y) ls) (sym is) }
one_operand x e (inr (inr (inl (t, is)))) = record { depth = ap (λ (y : Expr). term_depth (term_of y)) is; arrays = λ s ls. ap (λ (y : Expr). term_arrays s (term_of y) ls) (sym is) }
one_operand x e (inr (inr (inr is))) = record { depth = ap (λ (y : Expr). term_depth (term_of y)) is; arrays = λ s ls. ap (λ (y : Expr). term_arrays s (term_of y) ls) (sym is) }

pub two_operands : (x : Expr) (e f : Box Expr Global) → ((op : BinaryOp) × (x ≡ whole.Binary op e f)) ⊎ (((op : CompareOp) × (x ≡ whole.Compare op e f)) ⊎ ((x ≡ whole.And e f) ⊎ (x ≡ whole.Or e f))) → TwoOperands (term_of x) (term_of e.value) (term_of f.value)
two_operands x e f (inl (op, is)) = record { depth = ap (λ (y : Expr). term_depth (term_of y)) is; arrays = λ s ls. ap (λ (y : Expr). term_arrays s (term_of y) ls) (sym is) }
two_operands x e f (inr (inl (op, is))) = record { depth = ap (λ (y : Expr). term_depth (term_of y)) is; arrays = λ s ls. ap (λ (y : Expr). term_arrays s (term_of y) ls) (sym is) }
two_operands x e f (inr (inr (inl is))) = record { depth = ap (λ (y : Expr). term_depth (term_of y)) is; arrays = λ s ls. ap (λ (y : Expr). term_arrays s (term_of y) ls) (sym is) }
two_operands x e f (inr (inr (inr is))) = record { depth = ap (λ (y : Expr). term_depth (term_of y)) is; arrays = λ s ls. ap (λ (y : Expr). term_arrays s (term_of y) ls) (sym is) }

-- an operand, and operands together, stand below
pub two_one_operand_below : (t : ℕ) (x e g : Term) → 2 * term_depth x ≡ t → OneOperand x e → g ≡ e → 2 * term_depth g < t
two_one_operand_below t x e g h o is = omega (arith, o.depth, ap term_depth is)

pub two_below : (t : ℕ) (x e f g k : Term) → 2 * term_depth x ≡ t → TwoOperands x e f → g ≡ e → k ≡ f → 2 * max (term_depth g) (term_depth k) + 1 < t
two_below t x e f g k h o is also = omega (arith, o.depth, ap term_depth is, ap term_depth also)

-- an element, and a choice
pub element_below : (t d : ℕ) (x : Term) → 2 * term_depth x ≡ t → term_depth x ≡ d + 1 → 2 * d + 1 < t
element_below t d x h e = omega arith

pub cond_below : (t c d e : ℕ) (x : Term) → 2 * term_depth x ≡ t → term_depth x ≡ max c (max d e) + 1 → 2 * c < t
cond_below t c d e x h is = omega arith

pub choice_below : (t c d e : ℕ) (x : Term) → 2 * term_depth x ≡ t → term_depth x ≡ max c (max d e) + 1 → 2 * max d e + 1 < t
choice_below t c d e x h is = omega arith

-- a number or a name
pub no_operand : (e : Expr) (s : Scope) (ls : List Loose) → ((a : Name) (x : Box Expr Global) → e ≡ whole.Read a x → ⊥) → ((op : UnaryOp) (x : Box Expr Global) → e ≡ whole.Unary op x → ⊥) → ((op : BinaryOp) (x y : Box Expr Global) → e ≡ whole.Binary op x y → ⊥) → ((left : Bool) (x : Box Expr Global) (n : ℤ) → e ≡ whole.Shift left x n → ⊥) → ((x : Box Expr Global) (t : Ty) → e ≡ whole.Cast x t → ⊥) → ((c x y : Box Expr Global) → e ≡ whole.Select c x y → ⊥) → ((op : CompareOp) (x y : Box Expr Global) → e ≡ whole.Compare op x y → ⊥) → ((x y : Box Expr Global) → e ≡ whole.And x y → ⊥) → ((x y : Box Expr Global) → e ≡ whole.Or x y → ⊥) → ((x : Box Expr Global) → e ≡ whole.Not x → ⊥) → ls ≡ term_arrays s (term_of e) ls
no_operand (expr.Lit v) s ls r u b h c w k a o n = refl
no_operand (expr.Var x) s ls r u b h c w k a o n = refl
no_operand (expr.Read' a p x) s ls r u b h c w k l o n = absurd (r a (record { ptr = p.ptr; alloc = p.alloc; value = x }) refl)
no_operand (expr.Unary' op p x) s ls r u b h c w k l o n = absurd (u op (record { ptr = p.ptr; alloc = p.alloc; value = x }) refl)
no_operand (expr.Binary' op p x q y) s ls r u b h c w k l o n = absurd (b op (record { ptr = p.ptr; alloc = p.alloc; value = x }) (record { ptr = q.ptr; alloc = q.alloc; value = y }) refl)
no_operand (expr.Shift' left p x m) s ls r u b h c w k l o n = absurd (h left (record { ptr = p.ptr; alloc = p.alloc; value = x }) m refl)
no_operand (expr.Cast' p x t) s ls r u b h c w k l o n = absurd (c (record { ptr = p.ptr; alloc = p.alloc; value = x }) t refl)
no_operand (expr.Select' p x q y z v) s ls r u b h c w k l o n = absurd (w (record { ptr = p.ptr; alloc = p.alloc; value = x }) (record { ptr = q.ptr; alloc = q.alloc; value = y }) (record { ptr = z.ptr; alloc = z.alloc; value = v }) refl)
no_operand (expr.Compare' op p x q y) s ls r u b h c w k l o n = absurd (k op (record { ptr = p.ptr; alloc = p.alloc; value = x }) (record { ptr = q.ptr; alloc = q.alloc; value = y }) refl)
no_operand (expr.And' p x q y) s ls r u b h c w k l o n = absurd (l (record { ptr = p.ptr; alloc = p.alloc; value = x }) (record { ptr = q.ptr; alloc = q.alloc; value = y }) refl)
no_operand (expr.Or' p x q y) s ls r u b h c w k l o n = absurd (o (record { ptr = p.ptr; alloc = p.alloc; value = x }) (record { ptr = q.ptr; alloc = q.alloc; value = y }) refl)
no_operand (expr.Not' p x) s ls r u b h c w k l o n = absurd (n (record { ptr = p.ptr; alloc = p.alloc; value = x }) refl)
