use Rattle.std.proofs.Common.{◌≡◌, ◌⊎◌, inl, inr, ⊎_elim, ℤ, Box, Global, ℕ, ◌+◌, ◌*◌, ◌<◌, List, Option, refl, sym, ap, ap₂, ◌∙◌, subst, rules}
use Rattle.std.specs.Prelude.{max}
use Rattle.kernel_tree.specs.declared.ast.Expr.{Expr}
use Rattle.kernel_tree.specs.declared.ast.Expr as kind
use Rattle.kernel_tree.specs.Limits.{term_depth}
use Rattle.guest_types.proofs.Errors.{on_error}
use Rattle.value_code.proofs.TermWalks.{below_one, below_between, below_left, below_both, below_pair, step_down, step_left, step_right, both_below, HasOne, one_depth, joined_depth}
use mir.Syntax.{w128}
use mir.Val.{SFits}
use Rattle.std.proofs.lemmas.Int.{to_z-of_z}
use Rattle.kernel_tree.specs.declared.ops.BinaryOp.{BinaryOp}
use Rattle.kernel_tree.specs.declared.ops.CompareOp.{CompareOp}
use Rattle.kernel_tree.specs.Plain.{Term, Element, Operation, Choice, Comparison, name_of, term_of}
use Rattle.kernel_tree.specs.Items.{stream_offset}
use Rattle.kernel_tree.specs.Typing.{Scope}
use Rattle.kernel_scope.specs.Scopes.{scope_of}
use Rattle.scalar_words.specs.Layout.{OfNumber, Constant, Homes}
use Rattle.scalar_words.specs.View.{constants_of, homes_of}
use Rattle.value_code.specs.HeldNumbers.{hold_key, addend_of, immediate_of, hold_side, hold_element, hold_term}
use Rattle.value_code.proofs.IndexCode.{held_computed, held_stream}
use Rattle.value_code.proofs.TermCode.{on_ok}
use Rattle.value_code.proofs.hold.+terms.Goals as goal

operation_held : (p : ℕ) (hs : Homes) (s : Scope) (op : BinaryOp) (x y whole : Term) (number : Option ℕ) (cs : List Constant) → whole ≡ Operation op x y → number ≡ addend_of op y → hold_side number (hold_term p hs s y) (hold_term p hs s x cs) ≡ hold_term p hs s whole cs
operation_held p hs s op x y whole number cs e0 e1 = rw (e0, e1) refl

comparison_held : (p : ℕ) (hs : Homes) (s : Scope) (op : CompareOp) (x y whole : Term) (number : Option ℕ) (cs : List Constant) → whole ≡ Comparison op x y → number ≡ immediate_of y → hold_side number (hold_term p hs s y) (hold_term p hs s x cs) ≡ hold_term p hs s whole cs
comparison_held p hs s op x y whole number cs e0 e1 = rw (e0, e1) refl

-- `&&` and `||`
joined_held : (p : ℕ) (hs : Homes) (s : Scope) (e : Expr) (a b : Box Expr Global) (x y : Expr) (cs : List Constant) → (e ≡ kind.And a b) ⊎ (e ≡ kind.Or a b) → x ≡ a.value → y ≡ b.value → hold_term p hs s (term_of y) (hold_term p hs s (term_of x) cs) ≡ hold_term p hs s (term_of e) cs
joined_held p hs s e a b x y cs is ex ey =
    ap₂ (λ (x y : Expr). hold_term p hs s (term_of y) (hold_term p hs s (term_of x) cs)) ex ey ∙ sym (⊎_elim (λ is. ap (λ (e : Expr). hold_term p hs s (term_of e) cs) is) (λ is. ap (λ (e : Expr). hold_term p hs s (term_of e) cs) is) is)

-- one operand
one_held : (p : ℕ) (hs : Homes) (s : Scope) (e : Expr) (a : Box Expr Global) (x : Expr) (cs : List Constant) → HasOne e a → x ≡ a.value → hold_term p hs s (term_of x) cs ≡ hold_term p hs s (term_of e) cs
one_held p hs s e a x cs (inl h) ex = ap (λ (x : Expr). hold_term p hs s (term_of x) cs) ex ∙ sym (ap (λ (e : Expr). hold_term p hs s (term_of e) cs) h.1)
one_held p hs s e a x cs (inr (inl h)) ex = ap (λ (x : Expr). hold_term p hs s (term_of x) cs) ex ∙ sym (ap (λ (e : Expr). hold_term p hs s (term_of e) cs) h.2)
one_held p hs s e a x cs (inr (inr (inl h))) ex = ap (λ (x : Expr). hold_term p hs s (term_of x) cs) ex ∙ sym (ap (λ (e : Expr). hold_term p hs s (term_of e) cs) h.1)
one_held p hs s e a x cs (inr (inr (inr h))) ex = ap (λ (x : Expr). hold_term p hs s (term_of x) cs) ex ∙ sym (ap (λ (e : Expr). hold_term p hs s (term_of e) cs) h)

pub hold_term-returns-in-Binary : goal.hold_term-returns-in-Binary
hold_term-returns-in-Binary t c =
    let x = term_of c.deref-in-Binary-2.result.now in
    let y = term_of c.deref-in-Binary-3.result.now in
    let is : term_of c.args.expr.now ≡ Operation c.in-Binary.op x y = ap term_of c.in-Binary.is ∙ ap₂ (λ (e f : Expr). Operation c.in-Binary.op (term_of e) (term_of f)) (sym c.deref-in-Binary-2.ensures) (sym c.deref-in-Binary-3.ensures) in
    on_ok c.hold_sides.result c.hold_sides.ensures (λ p. p ∙ operation_held c.args.params (homes_of c.args.homes.now) (scope_of c.args.scope.now) c.in-Binary.op x y (term_of c.args.expr.now) c.addend_of-number.result (constants_of c.args.constants.now.items) is
    (c.addend_of-number.ensures ∙ ap (λ (e : Expr). addend_of c.in-Binary.op (term_of e)) (c.deref-in-Binary.ensures ∙ sym c.deref-in-Binary-3.ensures)))

pub hold_term-returns-in-Compare : goal.hold_term-returns-in-Compare
hold_term-returns-in-Compare t c =
    let x = term_of c.deref-in-Compare-2.result.now in
    let y = term_of c.deref-in-Compare-3.result.now in
    let is : term_of c.args.expr.now ≡ Comparison c.in-Compare.op x y = ap term_of c.in-Compare.is ∙ ap₂ (λ (e f : Expr). Comparison c.in-Compare.op (term_of e) (term_of f)) (sym c.deref-in-Compare-2.ensures) (sym c.deref-in-Compare-3.ensures) in
    on_ok c.hold_sides-in-Compare.result c.hold_sides-in-Compare.ensures (λ p. p ∙ comparison_held c.args.params (homes_of c.args.homes.now) (scope_of c.args.scope.now) c.in-Compare.op x y (term_of c.args.expr.now) c.immediate_of-number.result (constants_of c.args.constants.now.items) is
    (c.immediate_of-number.ensures ∙ ap (λ (e : Expr). immediate_of (term_of e)) (c.deref-in-Compare.ensures ∙ sym c.deref-in-Compare-3.ensures)))

pub hold_term-returns-in-Read : goal.hold_term-returns-in-Read
hold_term-returns-in-Read t c =
    let e = term_of c.deref.result.now in
    let is : Element (name_of c.in-Read.array) e ≡ term_of c.args.expr.now = ap (λ (e : Expr). Element (name_of c.in-Read.array) (term_of e)) c.deref.ensures ∙ sym (ap term_of c.in-Read.is) in
    on_ok c.hold_read.result c.hold_read.ensures (λ p. p ∙ ap (λ (e : Term). hold_term c.args.params (homes_of c.args.homes.now) (scope_of c.args.scope.now) e (constants_of c.args.constants.now.items)) is)

pub hold_term-returns-in_ok-hold_both-in-Select : goal.hold_term-returns-in_ok-hold_both-in-Select
hold_term-returns-in_ok-hold_both-in-Select t c =
    let x = term_of c.deref-in-Select.result.now in
    let y = term_of c.deref-in-Select-2.result.now in
    let k = term_of c.deref-in-Select-3.result.now in
    let hs = homes_of c.args.homes.now in
    let s = scope_of c.args.scope.now in
    let is : Choice k x y ≡ term_of c.args.expr.now = ap₂ (λ (e f : Expr). Choice k (term_of e) (term_of f)) c.deref-in-Select.ensures c.deref-in-Select-2.ensures ∙ ap (λ (e : Expr). Choice (term_of e) (term_of c.in-Select.yes.value) (term_of c.in-Select.no.value)) c.deref-in-Select-3.ensures ∙ sym (ap term_of c.in-Select.is) in
    on_ok c.hold_term.result c.hold_term.ensures (λ p. p ∙ ap (hold_term c.args.params hs s k) c.in_ok-hold_both-in-Select.ensures ∙ ap (λ (e : Term). hold_term c.args.params hs s e (constants_of c.args.constants.now.items)) is)

pub hold_sides-returns-in-None : goal.hold_sides-returns-in-None
hold_sides-returns-in-None t c =
    let hs = homes_of c.args.homes.now in
    let s = scope_of c.args.scope.now in
    let more = hold_term c.args.params hs s (term_of c.args.right.now) in
    on_ok c.hold_term-in-None.result c.hold_term-in-None.ensures (λ p. p ∙ ap more c.in_ok-hold_term.ensures ∙ ap (λ (o : Option ℕ). hold_side o more (hold_term c.args.params hs s (term_of c.args.left.now) (constants_of c.args.constants.now.items))) (sym c.in-None.is))

pub hold_read-returns-in_ok-hold_term-in-None : goal.hold_read-returns-in_ok-hold_term-in-None
hold_read-returns-in_ok-hold_term-in-None t c =
    let hs = homes_of c.args.homes.now in
    let s = scope_of c.args.scope.now in
    let o = stream_offset s.index (term_of c.args.index.now) in
    on_ok c.hold_element-in-None.result c.hold_element-in-None.ensures (λ p. p ∙ ap (hold_element c.args.params hs s (name_of c.args.array.now) o) (c.in_ok-hold_term-in-None.ensures ∙ held_computed o (hold_term c.args.params hs s (term_of c.args.index.now)) (constants_of c.args.constants.now.items) (sym c.in-None.ensures.word)))

-- ---- each call is for an expression below

pub hold_term-hold_key-requires : goal.hold_term-hold_key-requires
hold_term-hold_key-requires t c =
    c.requires

pub hold_read-hold_element-requires : goal.hold_read-hold_element-requires
hold_read-hold_element-requires t c =
    c.requires

pub hold_read-hold_element-requires-in-None : goal.hold_read-hold_element-requires-in-None
hold_read-hold_element-requires-in-None t c =
    c.requires

pub hold_term-hold_read-requires : goal.hold_term-hold_read-requires
hold_term-hold_read-requires t c =
    (subst (λ (e : Expr). 2 * term_depth (term_of e) + 1 < t) (sym c.deref.ensures) (below_between t (term_of c.args.expr.now) c.decreases (Element (name_of c.in-Read.array) (term_of c.in-Read.index.value)) (ap term_of c.in-Read.is) (term_depth (term_of c.in-Read.index.value)) refl), c.requires)

pub hold_term-hold_sides-requires : goal.hold_term-hold_sides-requires
hold_term-hold_sides-requires t c =
    (both_below (λ (e f : Expr). 2 * max (term_depth (term_of e)) (term_depth (term_of f)) + 1 < t) (sym c.deref-in-Binary-2.ensures) (sym c.deref-in-Binary-3.ensures) (below_both t (term_of c.args.expr.now) c.decreases (Operation c.in-Binary.op (term_of c.in-Binary.left.value) (term_of c.in-Binary.right.value)) (ap term_of c.in-Binary.is) (term_depth (term_of c.in-Binary.left.value)) (term_depth (term_of c.in-Binary.right.value)) refl), c.requires)

pub hold_term-hold_sides-requires-in-Compare : goal.hold_term-hold_sides-requires-in-Compare
hold_term-hold_sides-requires-in-Compare t c =
    (both_below (λ (e f : Expr). 2 * max (term_depth (term_of e)) (term_depth (term_of f)) + 1 < t) (sym c.deref-in-Compare-2.ensures) (sym c.deref-in-Compare-3.ensures) (below_both t (term_of c.args.expr.now) c.decreases (Comparison c.in-Compare.op (term_of c.in-Compare.left.value) (term_of c.in-Compare.right.value)) (ap term_of c.in-Compare.is) (term_depth (term_of c.in-Compare.left.value)) (term_depth (term_of c.in-Compare.right.value)) refl), c.requires)

pub hold_term-hold_both-requires : goal.hold_term-hold_both-requires
hold_term-hold_both-requires t c =
    (both_below (λ (e f : Expr). 2 * max (term_depth (term_of e)) (term_depth (term_of f)) + 1 < t) (sym c.deref-in-Select.ensures) (sym c.deref-in-Select-2.ensures) (below_pair t (term_of c.args.expr.now) c.decreases (Choice (term_of c.in-Select.cond.value) (term_of c.in-Select.yes.value) (term_of c.in-Select.no.value)) (ap term_of c.in-Select.is) (term_depth (term_of c.in-Select.cond.value)) (term_depth (term_of c.in-Select.yes.value)) (term_depth (term_of c.in-Select.no.value)) refl), c.requires)

pub hold_term-hold_term-requires : goal.hold_term-hold_term-requires
hold_term-hold_term-requires t c =
    (subst (λ (e : Expr). 2 * term_depth (term_of e) < t) (sym c.deref-in-Select-3.ensures) (below_left t (term_of c.args.expr.now) c.decreases (Choice (term_of c.in-Select.cond.value) (term_of c.in-Select.yes.value) (term_of c.in-Select.no.value)) (ap term_of c.in-Select.is) (term_depth (term_of c.in-Select.cond.value)) (max (term_depth (term_of c.in-Select.yes.value)) (term_depth (term_of c.in-Select.no.value))) refl), c.requires)

pub hold_term-hold_both-requires-in-And : goal.hold_term-hold_both-requires-in-And
hold_term-hold_both-requires-in-And t c =
    (both_below (λ (e f : Expr). 2 * max (term_depth (term_of e)) (term_depth (term_of f)) + 1 < t) (sym c.deref-in-And.ensures) (sym c.deref-in-And-2.ensures) (below_both t (term_of c.args.expr.now) c.decreases (term_of c.args.expr.now) (refl) (term_depth (term_of c.in-And.left.value)) (term_depth (term_of c.in-And.right.value)) (joined_depth c.args.expr.now c.in-And.left c.in-And.right c.in-And.is)), c.requires)

pub hold_term-hold_term-requires-in-Unary : goal.hold_term-hold_term-requires-in-Unary
hold_term-hold_term-requires-in-Unary t c =
    (subst (λ (e : Expr). 2 * term_depth (term_of e) < t) (sym c.deref-in-Unary.ensures) (below_one t (term_of c.args.expr.now) c.decreases (term_of c.args.expr.now) refl (term_depth (term_of c.in-Unary.arg.value)) (one_depth c.args.expr.now c.in-Unary.arg c.in-Unary.is)), c.requires)

pub hold_both-hold_term-requires : goal.hold_both-hold_term-requires
hold_both-hold_term-requires t c =
    (step_left t (term_depth (term_of c.args.left.now)) (term_depth (term_of c.args.right.now)) c.decreases, c.requires)

pub hold_sides-hold_term-requires : goal.hold_sides-hold_term-requires
hold_sides-hold_term-requires t c =
    (step_left t (term_depth (term_of c.args.left.now)) (term_depth (term_of c.args.right.now)) c.decreases, c.requires)

pub hold_both-hold_term-requires-2 : goal.hold_both-hold_term-requires-2
hold_both-hold_term-requires-2 t c =
    (step_right t (term_depth (term_of c.args.left.now)) (term_depth (term_of c.args.right.now)) c.decreases, c.requires)

pub hold_sides-hold_term-requires-in-None : goal.hold_sides-hold_term-requires-in-None
hold_sides-hold_term-requires-in-None t c =
    (step_right t (term_depth (term_of c.args.left.now)) (term_depth (term_of c.args.right.now)) c.decreases, c.requires)

pub hold_read-hold_term-requires : goal.hold_read-hold_term-requires
hold_read-hold_term-requires t c =
    (step_down t (term_depth (term_of c.args.index.now)) c.decreases, c.requires)

-- ---- where a call fails

pub hold_both-returns-in_err-hold_term : goal.hold_both-returns-in_err-hold_term
hold_both-returns-in_err-hold_term t c =
    on_error _ _ c.from_residual.ensures.0

pub hold_read-returns-in_err-hold_term-in-None : goal.hold_read-returns-in_err-hold_term-in-None
hold_read-returns-in_err-hold_term-in-None t c =
    on_error _ _ c.from_residual.ensures.0

pub hold_sides-returns-in_err-hold_term : goal.hold_sides-returns-in_err-hold_term
hold_sides-returns-in_err-hold_term t c =
    on_error _ _ c.from_residual.ensures.0

pub hold_term-returns-in_err-hold_both-in-Select : goal.hold_term-returns-in_err-hold_both-in-Select
hold_term-returns-in_err-hold_both-in-Select t c =
    on_error _ _ c.from_residual.ensures.0

-- ---- what else is held

pub hold_both-returns : goal.hold_both-returns
hold_both-returns t c =
    on_ok c.hold_term-2.result c.hold_term-2.ensures (λ p. p ∙ ap (hold_term c.args.params (homes_of c.args.homes.now) (scope_of c.args.scope.now) (term_of c.args.right.now)) c.in_ok-hold_term.ensures)

pub hold_sides-returns-in-Some : goal.hold_sides-returns-in-Some
hold_sides-returns-in-Some t c =
    let more = hold_term c.args.params (homes_of c.args.homes.now) (scope_of c.args.scope.now) (term_of c.args.right.now) in
    c.in_ok-hold_term.ensures ∙ ap (λ (o : Option ℕ). hold_side o more (hold_term c.args.params (homes_of c.args.homes.now) (scope_of c.args.scope.now) (term_of c.args.left.now) (constants_of c.args.constants.now.items))) (sym c.in-Some.is)

pub hold_read-returns-in-Some : goal.hold_read-returns-in-Some
hold_read-returns-in-Some t c =
    let o = stream_offset (scope_of c.args.scope.now).index (term_of c.args.index.now) in
    on_ok c.hold_element.result c.hold_element.ensures (λ p. p ∙ ap (hold_element c.args.params (homes_of c.args.homes.now) (scope_of c.args.scope.now) (name_of c.args.array.now) o) (held_stream o _ (hold_term c.args.params (homes_of c.args.homes.now) (scope_of c.args.scope.now) (term_of c.args.index.now)) (constants_of c.args.constants.now.items) (sym c.in-Some.ensures.word)))

pub hold_term-returns-in-Lit : goal.hold_term-returns-in-Lit
hold_term-returns-in-Lit t c =
    let in_range : SFits w128 c.in-Lit.value = search rules in
    on_ok c.hold_key.result c.hold_key.ensures (λ p. p ∙ ap (λ (z : ℤ). hold_key c.args.params (OfNumber z) (constants_of c.args.constants.now.items)) (to_z-of_z w128 c.in-Lit.value in_range) ∙ ap (λ (e : Term). hold_term c.args.params (homes_of c.args.homes.now) (scope_of c.args.scope.now) e (constants_of c.args.constants.now.items)) (sym (ap term_of c.in-Lit.is)))

pub hold_term-returns-in-Var : goal.hold_term-returns-in-Var
hold_term-returns-in-Var t c =
    ap (λ (e : Term). hold_term c.args.params (homes_of c.args.homes.now) (scope_of c.args.scope.now) e (constants_of c.args.constants.now.items)) (sym (ap term_of c.in-Var.is))

pub hold_term-returns-in-And : goal.hold_term-returns-in-And
hold_term-returns-in-And t c =
    on_ok c.hold_both-in-And.result c.hold_both-in-And.ensures (λ p. p ∙ joined_held c.args.params (homes_of c.args.homes.now) (scope_of c.args.scope.now) c.args.expr.now c.in-And.left c.in-And.right c.deref-in-And.result.now c.deref-in-And-2.result.now (constants_of c.args.constants.now.items) c.in-And.is c.deref-in-And.ensures c.deref-in-And-2.ensures)

pub hold_term-returns-in-Unary : goal.hold_term-returns-in-Unary
hold_term-returns-in-Unary t c =
    on_ok c.hold_term-in-Unary.result c.hold_term-in-Unary.ensures (λ p. p ∙ one_held c.args.params (homes_of c.args.homes.now) (scope_of c.args.scope.now) c.args.expr.now c.in-Unary.arg c.deref-in-Unary.result.now (constants_of c.args.constants.now.items) c.in-Unary.is c.deref-in-Unary.ensures)
