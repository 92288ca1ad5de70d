use Rattle.std.proofs.Common.{◌≡◌, ℕ, None, Some, Option, sym, refl, ap, ap₂, ◌∙◌, rules}
use Rattle.std.specs.Prelude.{ℤ, max}
use Rattle.std.specs.Int.{w128}
use Rattle.std.proofs.lemmas.Int.{to_z-of_z}
use Rattle.std.proofs.lemmas.Result.{IfOk-weaker, IfOk-from_err}
use Rattle.kernel_tree.specs.declared.ast.Expr.{Expr}
use Rattle.kernel_tree.specs.declared.ops.Ty.{Ty}
use Rattle.kernel_tree.specs.declared.ops.Ty.TheVariants as ty
use Rattle.kernel_tree.specs.Plain.{Literal, Variable, Element, Unary, Operation, Shift, Conversion, Choice, Comparison, Both, Either, Not, name_of, term_of}
use Rattle.kernel_tree.specs.Limits.{term_depth}
use Rattle.kernel_tree.specs.Typing.{first, own, array_type}
use Rattle.kernel_tree.proofs.Measures.{four_1_to_0, four_2_to_1, four_3_to_2, four_2_to_left_1, four_2_to_right_1}
use Rattle.kernel_scope.specs.Scopes.{scope_of}
use Rattle.kernel_meaning.specs.Operators.{wrapped}
use Rattle.kernel_plan.specs.Trees as trees
use Rattle.kernel_plan.specs.Trees.{tree_of}
use Rattle.kernel_plan.specs.Resolve.{slot_of, stream_tree, resolved, number_tree}
use Rattle.kernel_plan.proofs.NodeWalks.{four_3_called, operand_called, as_whole, four_3_to_first_1, four_3_to_others_2, stream_read, computed_read}
use Rattle.kernel_plan.proofs.resolve.+nodes.Goals as goal

-- ---- an expression by its kind

pub resolve-returns-in-Var : goal.resolve-returns-in-Var
resolve-returns-in-Var t c =
    let is : term_of c.args.expr.now ≡ Variable (name_of c.in-Var.name) = ap term_of c.in-Var.is in
    ap trees.Slot c.slot.ensures ∙ ap (resolved (scope_of c.args.scope.now) c.args.want) (sym is)

pub resolve-resolve_read-requires : goal.resolve-resolve_read-requires
resolve-resolve_read-requires t c =
    let is : term_of c.args.expr.now ≡ Element (name_of c.in-Read.array) (term_of c.deref.result.now) = ap term_of c.in-Read.is ∙ ap (λ (e : Expr). Element (name_of c.in-Read.array) (term_of e)) (sym c.deref.ensures) in
    (four_3_called t (term_of c.args.expr.now) c.decreases (Element (name_of c.in-Read.array) (term_of c.deref.result.now)) (term_depth (term_of c.deref.result.now)) is refl, tt)

pub resolve-returns-in-Read : goal.resolve-returns-in-Read
resolve-returns-in-Read t c =
    let is : term_of c.args.expr.now ≡ Element (name_of c.in-Read.array) (term_of c.deref.result.now) = ap term_of c.in-Read.is ∙ ap (λ (e : Expr). Element (name_of c.in-Read.array) (term_of e)) (sym c.deref.ensures) in
    as_whole c.resolve_read.result (scope_of c.args.scope.now) c.args.want (Element (name_of c.in-Read.array) (term_of c.deref.result.now)) (term_of c.args.expr.now) is c.resolve_read.ensures

pub resolve-operand-requires : goal.resolve-operand-requires
resolve-operand-requires t c =
    let is : term_of c.args.expr.now ≡ Unary c.in-Unary.op (term_of c.deref-in-Unary.result.now) = ap term_of c.in-Unary.is ∙ ap (λ (e : Expr). Unary c.in-Unary.op (term_of e)) (sym c.deref-in-Unary.ensures) in
    (operand_called t (term_of c.args.expr.now) c.decreases (Unary c.in-Unary.op (term_of c.deref-in-Unary.result.now)) (term_depth (term_of c.deref-in-Unary.result.now)) is refl, tt)

pub resolve-returns-in_err-operand-in-Unary : goal.resolve-returns-in_err-operand-in-Unary
resolve-returns-in_err-operand-in-Unary t c = IfOk-from_err _ _ c.from_residual.ensures.0

pub resolve-returns-in_ok-operand-in-Unary : goal.resolve-returns-in_ok-operand-in-Unary
resolve-returns-in_ok-operand-in-Unary t c =
    let is : term_of c.args.expr.now ≡ Unary c.in-Unary.op (term_of c.deref-in-Unary.result.now) = ap term_of c.in-Unary.is ∙ ap (λ (e : Expr). Unary c.in-Unary.op (term_of e)) (sym c.deref-in-Unary.ensures) in
    ap (trees.Unary c.in-Unary.op c.args.want) c.in_ok-operand-in-Unary.ensures ∙ ap (resolved (scope_of c.args.scope.now) c.args.want) (sym is)

pub resolve-resolve_binary-requires : goal.resolve-resolve_binary-requires
resolve-resolve_binary-requires t c =
    let is : term_of c.args.expr.now ≡ Operation c.in-Binary.op (term_of c.deref-in-Binary.result.now) (term_of c.deref-in-Binary-2.result.now) = ap term_of c.in-Binary.is ∙ ap₂ (λ (e f : Expr). Operation c.in-Binary.op (term_of e) (term_of f)) (sym c.deref-in-Binary.ensures) (sym c.deref-in-Binary-2.ensures) in
    (four_3_called t (term_of c.args.expr.now) c.decreases (Operation c.in-Binary.op (term_of c.deref-in-Binary.result.now) (term_of c.deref-in-Binary-2.result.now)) (max (term_depth (term_of c.deref-in-Binary.result.now)) (term_depth (term_of c.deref-in-Binary-2.result.now))) is refl, tt)

pub resolve-returns-in-Binary : goal.resolve-returns-in-Binary
resolve-returns-in-Binary t c =
    let is : term_of c.args.expr.now ≡ Operation c.in-Binary.op (term_of c.deref-in-Binary.result.now) (term_of c.deref-in-Binary-2.result.now) = ap term_of c.in-Binary.is ∙ ap₂ (λ (e f : Expr). Operation c.in-Binary.op (term_of e) (term_of f)) (sym c.deref-in-Binary.ensures) (sym c.deref-in-Binary-2.ensures) in
    as_whole c.resolve_binary.result (scope_of c.args.scope.now) c.args.want (Operation c.in-Binary.op (term_of c.deref-in-Binary.result.now) (term_of c.deref-in-Binary-2.result.now)) (term_of c.args.expr.now) is c.resolve_binary.ensures

pub resolve-operand-requires-in-Shift : goal.resolve-operand-requires-in-Shift
resolve-operand-requires-in-Shift t c =
    let is : term_of c.args.expr.now ≡ Shift c.in-Shift.left_shift (term_of c.deref-in-Shift.result.now) c.in-Shift.count = ap term_of c.in-Shift.is ∙ ap (λ (e : Expr). Shift c.in-Shift.left_shift (term_of e) c.in-Shift.count) (sym c.deref-in-Shift.ensures) in
    (operand_called t (term_of c.args.expr.now) c.decreases (Shift c.in-Shift.left_shift (term_of c.deref-in-Shift.result.now) c.in-Shift.count) (term_depth (term_of c.deref-in-Shift.result.now)) is refl, tt)

pub resolve-returns-in_err-operand-in-Shift : goal.resolve-returns-in_err-operand-in-Shift
resolve-returns-in_err-operand-in-Shift t c = IfOk-from_err _ _ c.from_residual-in_err-operand-in-Shift.ensures.0

pub resolve-returns-in_ok-operand-in-Shift : goal.resolve-returns-in_ok-operand-in-Shift
resolve-returns-in_ok-operand-in-Shift t c =
    let is : term_of c.args.expr.now ≡ Shift c.in-Shift.left_shift (term_of c.deref-in-Shift.result.now) c.in-Shift.count = ap term_of c.in-Shift.is ∙ ap (λ (e : Expr). Shift c.in-Shift.left_shift (term_of e) c.in-Shift.count) (sym c.deref-in-Shift.ensures) in
    ap₂ (λ (n : ℤ) (e : trees.Tree). trees.Shift c.in-Shift.left_shift n c.args.want e) (to_z-of_z w128 c.in-Shift.count (search rules)) c.in_ok-operand-in-Shift.ensures ∙ ap (resolved (scope_of c.args.scope.now) c.args.want) (sym is)

pub resolve-operand-requires-in-Cast : goal.resolve-operand-requires-in-Cast
resolve-operand-requires-in-Cast t c =
    let is : term_of c.args.expr.now ≡ Conversion (term_of c.deref-in-Cast-2.result.now) c.in-Cast.ty = ap term_of c.in-Cast.is ∙ ap (λ (e : Expr). Conversion (term_of e) c.in-Cast.ty) (sym c.deref-in-Cast-2.ensures) in
    (operand_called t (term_of c.args.expr.now) c.decreases (Conversion (term_of c.deref-in-Cast-2.result.now) c.in-Cast.ty) (term_depth (term_of c.deref-in-Cast-2.result.now)) is refl, tt)

pub resolve-returns-in_err-operand-in-Cast : goal.resolve-returns-in_err-operand-in-Cast
resolve-returns-in_err-operand-in-Cast t c = IfOk-from_err _ _ c.from_residual-in_err-operand-in-Cast.ensures.0

pub resolve-returns-in_ok-operand-in-Cast : goal.resolve-returns-in_ok-operand-in-Cast
resolve-returns-in_ok-operand-in-Cast t c =
    let is : term_of c.args.expr.now ≡ Conversion (term_of c.deref-in-Cast-2.result.now) c.in-Cast.ty = ap term_of c.in-Cast.is ∙ ap (λ (e : Expr). Conversion (term_of e) c.in-Cast.ty) (sym c.deref-in-Cast-2.ensures) in
    ap (trees.Cast c.in-Cast.ty) (c.in_ok-operand-in-Cast.ensures ∙ ap (λ o. resolved (scope_of c.args.scope.now) o (term_of c.deref-in-Cast-2.result.now)) (c.own_type.ensures ∙ ap (λ (e : Expr). own (scope_of c.args.scope.now) (term_of e)) (c.deref-in-Cast.ensures ∙ sym c.deref-in-Cast-2.ensures))) ∙ ap (resolved (scope_of c.args.scope.now) c.args.want) (sym is)

pub resolve-resolve_select-requires : goal.resolve-resolve_select-requires
resolve-resolve_select-requires t c =
    let is : term_of c.args.expr.now ≡ Choice (term_of c.deref-in-Select.result.now) (term_of c.deref-in-Select-2.result.now) (term_of c.deref-in-Select-3.result.now) = ap term_of c.in-Select.is ∙ ap₂ (λ (e f : Expr). Choice (term_of e) (term_of f) (term_of c.in-Select.no.value)) (sym c.deref-in-Select.ensures) (sym c.deref-in-Select-2.ensures) ∙ ap (λ (e : Expr). Choice (term_of c.deref-in-Select.result.now) (term_of c.deref-in-Select-2.result.now) (term_of e)) (sym c.deref-in-Select-3.ensures) in
    (four_3_called t (term_of c.args.expr.now) c.decreases (Choice (term_of c.deref-in-Select.result.now) (term_of c.deref-in-Select-2.result.now) (term_of c.deref-in-Select-3.result.now)) (max (term_depth (term_of c.deref-in-Select.result.now)) (max (term_depth (term_of c.deref-in-Select-2.result.now)) (term_depth (term_of c.deref-in-Select-3.result.now)))) is refl, tt)

pub resolve-returns-in-Select : goal.resolve-returns-in-Select
resolve-returns-in-Select t c =
    let is : term_of c.args.expr.now ≡ Choice (term_of c.deref-in-Select.result.now) (term_of c.deref-in-Select-2.result.now) (term_of c.deref-in-Select-3.result.now) = ap term_of c.in-Select.is ∙ ap₂ (λ (e f : Expr). Choice (term_of e) (term_of f) (term_of c.in-Select.no.value)) (sym c.deref-in-Select.ensures) (sym c.deref-in-Select-2.ensures) ∙ ap (λ (e : Expr). Choice (term_of c.deref-in-Select.result.now) (term_of c.deref-in-Select-2.result.now) (term_of e)) (sym c.deref-in-Select-3.ensures) in
    as_whole c.resolve_select.result (scope_of c.args.scope.now) c.args.want (Choice (term_of c.deref-in-Select.result.now) (term_of c.deref-in-Select-2.result.now) (term_of c.deref-in-Select-3.result.now)) (term_of c.args.expr.now) is c.resolve_select.ensures

pub resolve-resolve_compared-requires : goal.resolve-resolve_compared-requires
resolve-resolve_compared-requires t c =
    let is : term_of c.args.expr.now ≡ Comparison c.in-Compare.op (term_of c.deref-in-Compare.result.now) (term_of c.deref-in-Compare-2.result.now) = ap term_of c.in-Compare.is ∙ ap₂ (λ (e f : Expr). Comparison c.in-Compare.op (term_of e) (term_of f)) (sym c.deref-in-Compare.ensures) (sym c.deref-in-Compare-2.ensures) in
    (four_3_called t (term_of c.args.expr.now) c.decreases (Comparison c.in-Compare.op (term_of c.deref-in-Compare.result.now) (term_of c.deref-in-Compare-2.result.now)) (max (term_depth (term_of c.deref-in-Compare.result.now)) (term_depth (term_of c.deref-in-Compare-2.result.now))) is refl, tt)

pub resolve-returns-in-Compare : goal.resolve-returns-in-Compare
resolve-returns-in-Compare t c =
    let is : term_of c.args.expr.now ≡ Comparison c.in-Compare.op (term_of c.deref-in-Compare.result.now) (term_of c.deref-in-Compare-2.result.now) = ap term_of c.in-Compare.is ∙ ap₂ (λ (e f : Expr). Comparison c.in-Compare.op (term_of e) (term_of f)) (sym c.deref-in-Compare.ensures) (sym c.deref-in-Compare-2.ensures) in
    as_whole c.resolve_compared.result (scope_of c.args.scope.now) c.args.want (Comparison c.in-Compare.op (term_of c.deref-in-Compare.result.now) (term_of c.deref-in-Compare-2.result.now)) (term_of c.args.expr.now) is c.resolve_compared.ensures

pub resolve-resolve_both-requires : goal.resolve-resolve_both-requires
resolve-resolve_both-requires t c =
    let is : term_of c.args.expr.now ≡ Both (term_of c.deref-in-And.result.now) (term_of c.deref-in-And-2.result.now) = ap term_of c.in-And.is ∙ ap₂ (λ (e f : Expr). Both (term_of e) (term_of f)) (sym c.deref-in-And.ensures) (sym c.deref-in-And-2.ensures) in
    (four_3_called t (term_of c.args.expr.now) c.decreases (Both (term_of c.deref-in-And.result.now) (term_of c.deref-in-And-2.result.now)) (max (term_depth (term_of c.deref-in-And.result.now)) (term_depth (term_of c.deref-in-And-2.result.now))) is refl, tt)

pub resolve-returns-in-And : goal.resolve-returns-in-And
resolve-returns-in-And t c =
    let is : term_of c.args.expr.now ≡ Both (term_of c.deref-in-And.result.now) (term_of c.deref-in-And-2.result.now) = ap term_of c.in-And.is ∙ ap₂ (λ (e f : Expr). Both (term_of e) (term_of f)) (sym c.deref-in-And.ensures) (sym c.deref-in-And-2.ensures) in
    as_whole c.resolve_both.result (scope_of c.args.scope.now) c.args.want (Both (term_of c.deref-in-And.result.now) (term_of c.deref-in-And-2.result.now)) (term_of c.args.expr.now) is c.resolve_both.ensures

pub resolve-resolve_either-requires : goal.resolve-resolve_either-requires
resolve-resolve_either-requires t c =
    let is : term_of c.args.expr.now ≡ Either (term_of c.deref-in-Or.result.now) (term_of c.deref-in-Or-2.result.now) = ap term_of c.in-Or.is ∙ ap₂ (λ (e f : Expr). Either (term_of e) (term_of f)) (sym c.deref-in-Or.ensures) (sym c.deref-in-Or-2.ensures) in
    (four_3_called t (term_of c.args.expr.now) c.decreases (Either (term_of c.deref-in-Or.result.now) (term_of c.deref-in-Or-2.result.now)) (max (term_depth (term_of c.deref-in-Or.result.now)) (term_depth (term_of c.deref-in-Or-2.result.now))) is refl, tt)

pub resolve-returns-in-Or : goal.resolve-returns-in-Or
resolve-returns-in-Or t c =
    let is : term_of c.args.expr.now ≡ Either (term_of c.deref-in-Or.result.now) (term_of c.deref-in-Or-2.result.now) = ap term_of c.in-Or.is ∙ ap₂ (λ (e f : Expr). Either (term_of e) (term_of f)) (sym c.deref-in-Or.ensures) (sym c.deref-in-Or-2.ensures) in
    as_whole c.resolve_either.result (scope_of c.args.scope.now) c.args.want (Either (term_of c.deref-in-Or.result.now) (term_of c.deref-in-Or-2.result.now)) (term_of c.args.expr.now) is c.resolve_either.ensures

pub resolve-operand-requires-in-Not : goal.resolve-operand-requires-in-Not
resolve-operand-requires-in-Not t c =
    let is : term_of c.args.expr.now ≡ Not (term_of c.deref-in-Not.result.now) = ap term_of c.in-Not.is ∙ ap (λ (e : Expr). Not (term_of e)) (sym c.deref-in-Not.ensures) in
    (operand_called t (term_of c.args.expr.now) c.decreases (Not (term_of c.deref-in-Not.result.now)) (term_depth (term_of c.deref-in-Not.result.now)) is refl, tt)

pub resolve-returns-in_err-operand-in-Not : goal.resolve-returns-in_err-operand-in-Not
resolve-returns-in_err-operand-in-Not t c = IfOk-from_err _ _ c.from_residual-in_err-operand-in-Not.ensures.0

pub resolve-returns-in_ok-operand-in-Not : goal.resolve-returns-in_ok-operand-in-Not
resolve-returns-in_ok-operand-in-Not t c =
    let is : term_of c.args.expr.now ≡ Not (term_of c.deref-in-Not.result.now) = ap term_of c.in-Not.is ∙ ap (λ (e : Expr). Not (term_of e)) (sym c.deref-in-Not.ensures) in
    ap trees.Not c.in_ok-operand-in-Not.ensures ∙ ap (resolved (scope_of c.args.scope.now) c.args.want) (sym is)

-- ---- operands

pub operand-resolve-requires : goal.operand-resolve-requires
operand-resolve-requires t c = (four_1_to_0 t (term_depth (term_of c.args.expr.now)) c.decreases, tt)

pub operand-returns-in_err-node : goal.operand-returns-in_err-node
operand-returns-in_err-node t c = IfOk-from_err _ _ c.from_residual.ensures.0

pub operand-returns-in_err-new : goal.operand-returns-in_err-new
operand-returns-in_err-new t c = IfOk-from_err _ _ c.from_residual-in_err-new.ensures.0

pub operand-returns : goal.operand-returns
operand-returns t c = ap tree_of c.in_ok-new.ensures.ok ∙ c.in_ok-node.ensures

pub operands-operand-requires : goal.operands-operand-requires
operands-operand-requires t c = (four_2_to_left_1 t (term_depth (term_of c.args.left.now)) (term_depth (term_of c.args.right.now)) c.decreases, tt)

pub operands-operand-requires-2 : goal.operands-operand-requires-2
operands-operand-requires-2 t c = (four_2_to_right_1 t (term_depth (term_of c.args.left.now)) (term_depth (term_of c.args.right.now)) c.decreases, tt)

pub operands-returns-in_err-left : goal.operands-returns-in_err-left
operands-returns-in_err-left t c =
    let failed = c.from_residual.ensures.0 in
    record { left = IfOk-from_err _ _ failed; right = IfOk-from_err _ _ failed }

pub operands-returns-in_err-right : goal.operands-returns-in_err-right
operands-returns-in_err-right t c =
    let failed = c.from_residual-in_err-right.ensures.0 in
    record { left = IfOk-from_err _ _ failed; right = IfOk-from_err _ _ failed }

pub operands-returns : goal.operands-returns
operands-returns t c = record { left = c.in_ok-left.ensures; right = c.in_ok-right.ensures }

-- ---- an element

pub resolve_number-resolve-requires : goal.resolve_number-resolve-requires
resolve_number-resolve-requires t c = (four_1_to_0 t (term_depth (term_of c.args.index.now)) c.decreases, tt)

pub resolve_read-resolve_element-requires : goal.resolve_read-resolve_element-requires
resolve_read-resolve_element-requires t c = (four_3_to_2 t (term_depth (term_of c.args.index.now)) c.decreases, tt)

pub resolve_element-resolve_number-requires : goal.resolve_element-resolve_number-requires
resolve_element-resolve_number-requires t c = (four_2_to_1 t (term_depth (term_of c.args.index.now)) c.decreases, tt)

pub resolve_element-returns-in_err-resolve_number : goal.resolve_element-returns-in_err-resolve_number
resolve_element-returns-in_err-resolve_number t c = IfOk-from_err _ _ c.from_residual.ensures.0

pub resolve_element-returns-in_err-number : goal.resolve_element-returns-in_err-number
resolve_element-returns-in_err-number t c = IfOk-from_err _ _ c.from_residual-in_err-number.ensures.0

pub resolve_element-returns : goal.resolve_element-returns
resolve_element-returns t c =
    ap₂ (λ (n : ℕ) (o : Option Ty). trees.Element n o (tree_of c.in_ok-number.number.value)) c.slot.ensures c.array_type.ensures
    ∙ ap (trees.Element (slot_of (scope_of c.args.scope.now) (name_of c.args.array.now)) (array_type (scope_of c.args.scope.now) (name_of c.args.array.now))) (ap tree_of c.in_ok-number.ensures.ok ∙ c.in_ok-resolve_number.ensures)

-- ---- an operator and its operands

pub resolve_binary-operands-requires : goal.resolve_binary-operands-requires
resolve_binary-operands-requires t c = (four_3_to_2 t (max (term_depth (term_of c.args.left.now)) (term_depth (term_of c.args.right.now))) c.decreases, tt)

pub resolve_binary-returns-in_err-left : goal.resolve_binary-returns-in_err-left
resolve_binary-returns-in_err-left t c = IfOk-from_err _ _ c.from_residual.ensures.0

pub resolve_binary-returns : goal.resolve_binary-returns
resolve_binary-returns t c = ap₂ (trees.Binary c.args.op c.args.want) c.in_ok-left.ensures.left c.in_ok-left.ensures.right

pub resolve_both-operands-requires : goal.resolve_both-operands-requires
resolve_both-operands-requires t c = (four_3_to_2 t (max (term_depth (term_of c.args.left.now)) (term_depth (term_of c.args.right.now))) c.decreases, tt)

pub resolve_both-returns-in_err-left : goal.resolve_both-returns-in_err-left
resolve_both-returns-in_err-left t c = IfOk-from_err _ _ c.from_residual.ensures.0

pub resolve_both-returns : goal.resolve_both-returns
resolve_both-returns t c = ap₂ (trees.And) c.in_ok-left.ensures.left c.in_ok-left.ensures.right

pub resolve_either-operands-requires : goal.resolve_either-operands-requires
resolve_either-operands-requires t c = (four_3_to_2 t (max (term_depth (term_of c.args.left.now)) (term_depth (term_of c.args.right.now))) c.decreases, tt)

pub resolve_either-returns-in_err-left : goal.resolve_either-returns-in_err-left
resolve_either-returns-in_err-left t c = IfOk-from_err _ _ c.from_residual.ensures.0

pub resolve_either-returns : goal.resolve_either-returns
resolve_either-returns t c = ap₂ (trees.Or) c.in_ok-left.ensures.left c.in_ok-left.ensures.right

pub resolve_compared-operands-requires : goal.resolve_compared-operands-requires
resolve_compared-operands-requires t c = (four_3_to_2 t (max (term_depth (term_of c.args.left.now)) (term_depth (term_of c.args.right.now))) c.decreases, tt)

pub resolve_compared-returns-in_err-left : goal.resolve_compared-returns-in_err-left
resolve_compared-returns-in_err-left t c = IfOk-from_err _ _ c.from_residual.ensures.0

pub resolve_compared-returns : goal.resolve_compared-returns
resolve_compared-returns t c =
    ap₂ (trees.Compare c.args.op) (c.in_ok-left.ensures.left ∙ ap (λ o. resolved (scope_of c.args.scope.now) o (term_of c.args.left.now)) c.side_type-want.ensures) (c.in_ok-left.ensures.right ∙ ap (λ o. resolved (scope_of c.args.scope.now) o (term_of c.args.right.now)) c.side_type-want.ensures)

pub resolve_select-operand-requires : goal.resolve_select-operand-requires
resolve_select-operand-requires t c = (four_3_to_first_1 t (term_depth (term_of c.args.cond.now)) (term_depth (term_of c.args.yes.now)) (term_depth (term_of c.args.no.now)) c.decreases, tt)

pub resolve_select-operands-requires : goal.resolve_select-operands-requires
resolve_select-operands-requires t c = (four_3_to_others_2 t (term_depth (term_of c.args.cond.now)) (term_depth (term_of c.args.yes.now)) (term_depth (term_of c.args.no.now)) c.decreases, tt)

pub resolve_select-returns-in_err-cond : goal.resolve_select-returns-in_err-cond
resolve_select-returns-in_err-cond t c = IfOk-from_err _ _ c.from_residual.ensures.0

pub resolve_select-returns-in_err-yes : goal.resolve_select-returns-in_err-yes
resolve_select-returns-in_err-yes t c = IfOk-from_err _ _ c.from_residual-in_err-yes.ensures.0

pub resolve_select-returns : goal.resolve_select-returns
resolve_select-returns t c =
    ap₂ (λ (b e : trees.Tree). trees.Select b e (tree_of c.in_ok-yes.no.value)) c.in_ok-cond.ensures c.in_ok-yes.ensures.left
    ∙ ap (trees.Select (resolved (scope_of c.args.scope.now) None (term_of c.args.cond.now)) (resolved (scope_of c.args.scope.now) c.args.want (term_of c.args.yes.now))) c.in_ok-yes.ensures.right

pub resolve-returns-in-Lit : goal.resolve-returns-in-Lit
resolve-returns-in-Lit t c =
    let is : term_of c.args.expr.now ≡ Literal c.in-Lit.value = ap term_of c.in-Lit.is in
    ap trees.Constant (to_z-of_z w128 c.wrapped.result (search rules) ∙ c.wrapped.ensures ∙ ap (wrapped c.args.want) (to_z-of_z w128 c.in-Lit.value (search rules))) ∙ ap (resolved (scope_of c.args.scope.now) c.args.want) (sym is)

pub resolve_read-returns-in-Some : goal.resolve_read-returns-in-Some
resolve_read-returns-in-Some t c =
    c.stream.ensures ∙ ap (stream_tree (scope_of c.args.scope.now) (name_of c.args.array.now)) (to_z-of_z w128 c.in-Some.offset (search rules)) ∙ stream_read (scope_of c.args.scope.now) (name_of c.args.array.now) _ _ (number_tree (scope_of c.args.scope.now) (term_of c.args.index.now)) (sym c.in-Some.is ∙ c.stream_offset.ensures)

pub resolve_read-returns-in-None : goal.resolve_read-returns-in-None
resolve_read-returns-in-None t c = IfOk-weaker c.resolve_element.result _ _ (λ _ h. h ∙ computed_read (scope_of c.args.scope.now) (name_of c.args.array.now) _ (number_tree (scope_of c.args.scope.now) (term_of c.args.index.now)) (sym c.in-None.is ∙ c.stream_offset.ensures)) c.resolve_element.ensures

pub resolve_number-returns : goal.resolve_number-returns
resolve_number-returns t c = IfOk-weaker c.resolve.result _ _ (λ _ h. h ∙ ap (λ o. resolved (scope_of c.args.scope.now) o (term_of c.args.index.now)) (c.first-want.ensures ∙ ap (λ o. first o (Some ty.U64)) c.own_type.ensures)) c.resolve.ensures
