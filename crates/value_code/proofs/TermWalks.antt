-- What the walks over expressions ask of a call: an expression below the one at hand.
use Rattle.std.proofs.Common.{◌≡◌, ◌⊎◌, inl, inr, ⊎_elim, ℤ, Bool, Box, Global, ℕ, ◌+◌, ◌*◌, ◌<◌, ap, subst, arith}
use Rattle.std.specs.Prelude.{max}
use Rattle.kernel_tree.specs.declared.ops.Ty.{Ty}
use Rattle.kernel_tree.specs.declared.ops.UnaryOp.{UnaryOp}
use Rattle.kernel_tree.specs.declared.ast.Expr.{Expr}
use Rattle.kernel_tree.specs.declared.ast.Expr as kind
use Rattle.kernel_tree.specs.Plain.{Term, term_of}
use Rattle.kernel_tree.specs.Limits.{term_depth}

module _ (t : ℕ) (whole : Term) (is : 2 * term_depth whole ≡ t) (e : Term) (same : whole ≡ e) where
  -- of one operand, also where the call stands between
  pub below_one : (n : ℕ) → term_depth e ≡ n + 1 → 2 * n < t
  below_one n d = let deep = ap term_depth same in omega (arith, is, deep, d)

  pub below_between : (n : ℕ) → term_depth e ≡ n + 1 → 2 * n + 1 < t
  below_between n d = let deep = ap term_depth same in omega (arith, is, deep, d)

  -- of two operands
  pub below_left : (n m : ℕ) → term_depth e ≡ max n m + 1 → 2 * n < t
  below_left n m d = let deep = ap term_depth same in omega (arith, is, deep, d)

  pub below_right : (n m : ℕ) → term_depth e ≡ max n m + 1 → 2 * m < t
  below_right n m d = let deep = ap term_depth same in omega (arith, is, deep, d)

  pub below_both : (n m : ℕ) → term_depth e ≡ max n m + 1 → 2 * max n m + 1 < t
  below_both n m d = let deep = ap term_depth same in omega (arith, is, deep, d)

  -- of three
  pub below_pair : (n m o : ℕ) → term_depth e ≡ max n (max m o) + 1 → 2 * max m o + 1 < t
  below_pair n m o d = let deep = ap term_depth same in omega (arith, is, deep, d)

  pub below_first : (n m o : ℕ) → term_depth e ≡ max n (max m o) + 1 → 2 * m < t
  below_first n m o d = let deep = ap term_depth same in omega (arith, is, deep, d)

  pub below_second : (n m o : ℕ) → term_depth e ≡ max n (max m o) + 1 → 2 * o < t
  below_second n m o d = let deep = ap term_depth same in omega (arith, is, deep, d)

-- of a call that stands between
pub step_down : (t n : ℕ) → 2 * n + 1 ≡ t → 2 * n < t
step_down t n is = omega (arith, is)

-- what has one operand
abbrev pub HasOne : Expr → Box Expr Global → Type 0
HasOne e a = ((op : UnaryOp) × (e ≡ kind.Unary op a)) ⊎ (((left : Bool) × (n : ℤ) × (e ≡ kind.Shift left a n)) ⊎ (((t : Ty) × (e ≡ kind.Cast a t)) ⊎ (e ≡ kind.Not a)))

pub one_depth : (e : Expr) (a : Box Expr Global) → HasOne e a → term_depth (term_of e) ≡ term_depth (term_of a.value) + 1
one_depth e a (inl h) = ap (λ (e : Expr). term_depth (term_of e)) h.1
one_depth e a (inr (inl h)) = ap (λ (e : Expr). term_depth (term_of e)) h.2
one_depth e a (inr (inr (inl h))) = ap (λ (e : Expr). term_depth (term_of e)) h.1
one_depth e a (inr (inr (inr h))) = ap (λ (e : Expr). term_depth (term_of e)) h

-- `&&` and `||`
pub joined_depth : (e : Expr) (a b : Box Expr Global) → (e ≡ kind.And a b) ⊎ (e ≡ kind.Or a b) → term_depth (term_of e) ≡ max (term_depth (term_of a.value)) (term_depth (term_of b.value)) + 1
joined_depth e a b h = ⊎_elim (λ is. ap (λ (e : Expr). term_depth (term_of e)) is) (λ is. ap (λ (e : Expr). term_depth (term_of e)) is) h

-- the same of what the parts are read as
pub both_below : (P : Expr → Expr → Type 0) {x y a b : Expr} → a ≡ x → b ≡ y → P a b → P x y
both_below P {x = x} {b = b} e f p = subst (λ (y : Expr). P x y) f (subst (λ (z : Expr). P z b) e p)

-- from a call that stands between, of two operands
pub step_left : (t n m : ℕ) → 2 * max n m + 1 ≡ t → 2 * n < t
step_left t n m is = omega (arith, is)

pub step_right : (t n m : ℕ) → 2 * max n m + 1 ≡ t → 2 * m < t
step_right t n m is = omega (arith, is)
