use Rattle.std.proofs.Common.{◌≡◌, ◌∷◌, ◌++◌, Option, refl, sym, ap, ap₂, ◌∙◌, rules}
use Rattle.std.specs.Prelude.{ℤ, max, string_bytes}
use Rattle.std.specs.Int.{w128}
use Rattle.std.proofs.lemmas.Int.{to_z-of_z}
use Rattle.std.proofs.lemmas.Result.{IfOk-weaker, IfOk-from_err}
use Rattle.kernel_tree.specs.declared.ast.Expr.{Expr}
use Rattle.kernel_tree.specs.declared.ops.UnaryOp.{UnaryOp}
use Rattle.kernel_tree.specs.declared.mark.Mark.{Mark}
use Rattle.kernel_tree.specs.TextToken.{IsMark}
use Rattle.kernel_tree.specs.Plain.{Literal, Variable, Element, Unary, Operation, Shift, Conversion, Choice, Comparison, Both, Either, Not, name_of, term_of}
use Rattle.kernel_tree.specs.Limits.{term_depth}
use Rattle.kernel_tree.specs.Printing.{spaced, closed, print_count, mark_of_shift, print_term, print_unary, print_binary, print_call}
use Rattle.kernel_tree.proofs.Measures.{four_1_to_0, four_2_to_0, four_2_to_1, four_3_to_2, four_2_to_left_0, four_2_to_right_0, four_2_to_left_1, four_2_to_right_1}
use Rattle.kernel_print.proofs.PrintWalks.{four_2_called, operator_called, as_whole, four_2_to_first_1, four_2_to_second_1, four_2_to_third_1}
use Rattle.kernel_print.proofs.expr.+terms.Goals as goal

-- ---- an expression by its kind

pub print_expr-returns-in-Lit : goal.print_expr-returns-in-Lit
print_expr-returns-in-Lit t c =
    let is : term_of c.args.expr.now ≡ Literal c.in-Lit.value = ap term_of c.in-Lit.is in
    as_whole c.print_value.result (string_bytes c.args.out.now) (string_bytes c.print_value.new.out) c.args.place (Literal c.in-Lit.value) (term_of c.args.expr.now) is (IfOk-weaker c.print_value.result _ _ (λ _ h rest. h rest ∙ ap (λ (n : ℤ). string_bytes c.args.out.now ++ spaced (print_term (Literal n) c.args.place rest)) (to_z-of_z w128 c.in-Lit.value (search rules))) c.print_value.ensures)

pub print_expr-returns-in-Var : goal.print_expr-returns-in-Var
print_expr-returns-in-Var t c =
    let is : term_of c.args.expr.now ≡ Variable (name_of c.in-Var.name) = ap term_of c.in-Var.is in
    as_whole c.put_name.result (string_bytes c.args.out.now) (string_bytes c.put_name.new.out) c.args.place (Variable (name_of c.in-Var.name)) (term_of c.args.expr.now) is c.put_name.ensures

pub print_expr-print_read-requires : goal.print_expr-print_read-requires
print_expr-print_read-requires t c =
    let is : term_of c.args.expr.now ≡ Element (name_of c.in-Read.array) (term_of c.deref.result.now) = ap term_of c.in-Read.is ∙ ap (λ (e : Expr). Element (name_of c.in-Read.array) (term_of e)) (sym c.deref.ensures) in
    (four_2_called t (term_of c.args.expr.now) c.decreases (Element (name_of c.in-Read.array) (term_of c.deref.result.now)) (term_depth (term_of c.deref.result.now)) is refl, tt)

pub print_expr-returns-in-Read : goal.print_expr-returns-in-Read
print_expr-returns-in-Read t c =
    let is : term_of c.args.expr.now ≡ Element (name_of c.in-Read.array) (term_of c.deref.result.now) = ap term_of c.in-Read.is ∙ ap (λ (e : Expr). Element (name_of c.in-Read.array) (term_of e)) (sym c.deref.ensures) in
    as_whole c.print_read.result (string_bytes c.args.out.now) (string_bytes c.print_read.new.out) c.args.place (Element (name_of c.in-Read.array) (term_of c.deref.result.now)) (term_of c.args.expr.now) is c.print_read.ensures

pub print_expr-print_unary-requires : goal.print_expr-print_unary-requires
print_expr-print_unary-requires t c =
    let is : term_of c.args.expr.now ≡ Unary c.in-Unary.op (term_of c.deref-in-Unary.result.now) = ap term_of c.in-Unary.is ∙ ap (λ (e : Expr). Unary c.in-Unary.op (term_of e)) (sym c.deref-in-Unary.ensures) in
    (operator_called t (term_of c.args.expr.now) c.decreases (Unary c.in-Unary.op (term_of c.deref-in-Unary.result.now)) (term_depth (term_of c.deref-in-Unary.result.now)) is refl, tt)

pub print_expr-returns-in-Unary : goal.print_expr-returns-in-Unary
print_expr-returns-in-Unary t c =
    let is : term_of c.args.expr.now ≡ Unary c.in-Unary.op (term_of c.deref-in-Unary.result.now) = ap term_of c.in-Unary.is ∙ ap (λ (e : Expr). Unary c.in-Unary.op (term_of e)) (sym c.deref-in-Unary.ensures) in
    as_whole c.print_unary.result (string_bytes c.args.out.now) (string_bytes c.print_unary.new.out) c.args.place (Unary c.in-Unary.op (term_of c.deref-in-Unary.result.now)) (term_of c.args.expr.now) is c.print_unary.ensures

pub print_expr-print_binary-requires : goal.print_expr-print_binary-requires
print_expr-print_binary-requires t c =
    let is : term_of c.args.expr.now ≡ Operation c.in-Binary.op (term_of c.deref-in-Binary.result.now) (term_of c.deref-in-Binary-2.result.now) = ap term_of c.in-Binary.is ∙ ap₂ (λ (e f : Expr). Operation c.in-Binary.op (term_of e) (term_of f)) (sym c.deref-in-Binary.ensures) (sym c.deref-in-Binary-2.ensures) in
    (operator_called t (term_of c.args.expr.now) c.decreases (Operation c.in-Binary.op (term_of c.deref-in-Binary.result.now) (term_of c.deref-in-Binary-2.result.now)) (max (term_depth (term_of c.deref-in-Binary.result.now)) (term_depth (term_of c.deref-in-Binary-2.result.now))) is refl, tt)

pub print_expr-returns-in-Binary : goal.print_expr-returns-in-Binary
print_expr-returns-in-Binary t c =
    let is : term_of c.args.expr.now ≡ Operation c.in-Binary.op (term_of c.deref-in-Binary.result.now) (term_of c.deref-in-Binary-2.result.now) = ap term_of c.in-Binary.is ∙ ap₂ (λ (e f : Expr). Operation c.in-Binary.op (term_of e) (term_of f)) (sym c.deref-in-Binary.ensures) (sym c.deref-in-Binary-2.ensures) in
    as_whole c.print_binary.result (string_bytes c.args.out.now) (string_bytes c.print_binary.new.out) c.args.place (Operation c.in-Binary.op (term_of c.deref-in-Binary.result.now) (term_of c.deref-in-Binary-2.result.now)) (term_of c.args.expr.now) is c.print_binary.ensures

pub print_expr-print_shift-requires : goal.print_expr-print_shift-requires
print_expr-print_shift-requires t c =
    let is : term_of c.args.expr.now ≡ Shift c.in-Shift.left_shift (term_of c.deref-in-Shift.result.now) c.in-Shift.count = ap term_of c.in-Shift.is ∙ ap (λ (e : Expr). Shift c.in-Shift.left_shift (term_of e) c.in-Shift.count) (sym c.deref-in-Shift.ensures) in
    (four_2_called t (term_of c.args.expr.now) c.decreases (Shift c.in-Shift.left_shift (term_of c.deref-in-Shift.result.now) c.in-Shift.count) (term_depth (term_of c.deref-in-Shift.result.now)) is refl, tt)

pub print_expr-returns-in-Shift : goal.print_expr-returns-in-Shift
print_expr-returns-in-Shift t c =
    let is : term_of c.args.expr.now ≡ Shift c.in-Shift.left_shift (term_of c.deref-in-Shift.result.now) c.in-Shift.count = ap term_of c.in-Shift.is ∙ ap (λ (e : Expr). Shift c.in-Shift.left_shift (term_of e) c.in-Shift.count) (sym c.deref-in-Shift.ensures) in
    as_whole c.print_shift.result (string_bytes c.args.out.now) (string_bytes c.print_shift.new.out) c.args.place (Shift c.in-Shift.left_shift (term_of c.deref-in-Shift.result.now) c.in-Shift.count) (term_of c.args.expr.now) is (IfOk-weaker c.print_shift.result _ _ (λ _ h rest. h rest ∙ ap (λ (n : ℤ). string_bytes c.args.out.now ++ spaced (print_term (Shift c.in-Shift.left_shift (term_of c.deref-in-Shift.result.now) n) c.args.place rest)) (to_z-of_z w128 c.in-Shift.count (search rules))) c.print_shift.ensures)

pub print_expr-print_cast-requires : goal.print_expr-print_cast-requires
print_expr-print_cast-requires t c =
    let is : term_of c.args.expr.now ≡ Conversion (term_of c.deref-in-Cast.result.now) c.in-Cast.ty = ap term_of c.in-Cast.is ∙ ap (λ (e : Expr). Conversion (term_of e) c.in-Cast.ty) (sym c.deref-in-Cast.ensures) in
    (four_2_called t (term_of c.args.expr.now) c.decreases (Conversion (term_of c.deref-in-Cast.result.now) c.in-Cast.ty) (term_depth (term_of c.deref-in-Cast.result.now)) is refl, tt)

pub print_expr-returns-in-Cast : goal.print_expr-returns-in-Cast
print_expr-returns-in-Cast t c =
    let is : term_of c.args.expr.now ≡ Conversion (term_of c.deref-in-Cast.result.now) c.in-Cast.ty = ap term_of c.in-Cast.is ∙ ap (λ (e : Expr). Conversion (term_of e) c.in-Cast.ty) (sym c.deref-in-Cast.ensures) in
    as_whole c.print_cast.result (string_bytes c.args.out.now) (string_bytes c.print_cast.new.out) c.args.place (Conversion (term_of c.deref-in-Cast.result.now) c.in-Cast.ty) (term_of c.args.expr.now) is c.print_cast.ensures

pub print_expr-print_select-requires : goal.print_expr-print_select-requires
print_expr-print_select-requires t c =
    let is : term_of c.args.expr.now ≡ Choice (term_of c.deref-in-Select.result.now) (term_of c.deref-in-Select-2.result.now) (term_of c.deref-in-Select-3.result.now) = ap term_of c.in-Select.is ∙ ap₂ (λ (e f : Expr). Choice (term_of e) (term_of f) (term_of c.in-Select.no.value)) (sym c.deref-in-Select.ensures) (sym c.deref-in-Select-2.ensures) ∙ ap (λ (e : Expr). Choice (term_of c.deref-in-Select.result.now) (term_of c.deref-in-Select-2.result.now) (term_of e)) (sym c.deref-in-Select-3.ensures) in
    (four_2_called t (term_of c.args.expr.now) c.decreases (Choice (term_of c.deref-in-Select.result.now) (term_of c.deref-in-Select-2.result.now) (term_of c.deref-in-Select-3.result.now)) (max (term_depth (term_of c.deref-in-Select.result.now)) (max (term_depth (term_of c.deref-in-Select-2.result.now)) (term_depth (term_of c.deref-in-Select-3.result.now)))) is refl, tt)

pub print_expr-returns-in-Select : goal.print_expr-returns-in-Select
print_expr-returns-in-Select t c =
    let is : term_of c.args.expr.now ≡ Choice (term_of c.deref-in-Select.result.now) (term_of c.deref-in-Select-2.result.now) (term_of c.deref-in-Select-3.result.now) = ap term_of c.in-Select.is ∙ ap₂ (λ (e f : Expr). Choice (term_of e) (term_of f) (term_of c.in-Select.no.value)) (sym c.deref-in-Select.ensures) (sym c.deref-in-Select-2.ensures) ∙ ap (λ (e : Expr). Choice (term_of c.deref-in-Select.result.now) (term_of c.deref-in-Select-2.result.now) (term_of e)) (sym c.deref-in-Select-3.ensures) in
    as_whole c.print_select.result (string_bytes c.args.out.now) (string_bytes c.print_select.new.out) c.args.place (Choice (term_of c.deref-in-Select.result.now) (term_of c.deref-in-Select-2.result.now) (term_of c.deref-in-Select-3.result.now)) (term_of c.args.expr.now) is c.print_select.ensures

pub print_expr-print_compared-requires : goal.print_expr-print_compared-requires
print_expr-print_compared-requires t c =
    let is : term_of c.args.expr.now ≡ Comparison c.in-Compare.op (term_of c.deref-in-Compare.result.now) (term_of c.deref-in-Compare-2.result.now) = ap term_of c.in-Compare.is ∙ ap₂ (λ (e f : Expr). Comparison c.in-Compare.op (term_of e) (term_of f)) (sym c.deref-in-Compare.ensures) (sym c.deref-in-Compare-2.ensures) in
    (four_2_called t (term_of c.args.expr.now) c.decreases (Comparison c.in-Compare.op (term_of c.deref-in-Compare.result.now) (term_of c.deref-in-Compare-2.result.now)) (max (term_depth (term_of c.deref-in-Compare.result.now)) (term_depth (term_of c.deref-in-Compare-2.result.now))) is refl, tt)

pub print_expr-returns-in-Compare : goal.print_expr-returns-in-Compare
print_expr-returns-in-Compare t c =
    let is : term_of c.args.expr.now ≡ Comparison c.in-Compare.op (term_of c.deref-in-Compare.result.now) (term_of c.deref-in-Compare-2.result.now) = ap term_of c.in-Compare.is ∙ ap₂ (λ (e f : Expr). Comparison c.in-Compare.op (term_of e) (term_of f)) (sym c.deref-in-Compare.ensures) (sym c.deref-in-Compare-2.ensures) in
    as_whole c.print_compared.result (string_bytes c.args.out.now) (string_bytes c.print_compared.new.out) c.args.place (Comparison c.in-Compare.op (term_of c.deref-in-Compare.result.now) (term_of c.deref-in-Compare-2.result.now)) (term_of c.args.expr.now) is c.print_compared.ensures

pub print_expr-print_between-requires : goal.print_expr-print_between-requires
print_expr-print_between-requires t c =
    let is : term_of c.args.expr.now ≡ Both (term_of c.deref-in-And.result.now) (term_of c.deref-in-And-2.result.now) = ap term_of c.in-And.is ∙ ap₂ (λ (e f : Expr). Both (term_of e) (term_of f)) (sym c.deref-in-And.ensures) (sym c.deref-in-And-2.ensures) in
    (four_2_called t (term_of c.args.expr.now) c.decreases (Both (term_of c.deref-in-And.result.now) (term_of c.deref-in-And-2.result.now)) (max (term_depth (term_of c.deref-in-And.result.now)) (term_depth (term_of c.deref-in-And-2.result.now))) is refl, tt)

pub print_expr-returns-in-And : goal.print_expr-returns-in-And
print_expr-returns-in-And t c =
    let is : term_of c.args.expr.now ≡ Both (term_of c.deref-in-And.result.now) (term_of c.deref-in-And-2.result.now) = ap term_of c.in-And.is ∙ ap₂ (λ (e f : Expr). Both (term_of e) (term_of f)) (sym c.deref-in-And.ensures) (sym c.deref-in-And-2.ensures) in
    as_whole c.print_between.result (string_bytes c.args.out.now) (string_bytes c.print_between.new.out) c.args.place (Both (term_of c.deref-in-And.result.now) (term_of c.deref-in-And-2.result.now)) (term_of c.args.expr.now) is c.print_between.ensures

pub print_expr-print_between-requires-in-Or : goal.print_expr-print_between-requires-in-Or
print_expr-print_between-requires-in-Or t c =
    let is : term_of c.args.expr.now ≡ Either (term_of c.deref-in-Or.result.now) (term_of c.deref-in-Or-2.result.now) = ap term_of c.in-Or.is ∙ ap₂ (λ (e f : Expr). Either (term_of e) (term_of f)) (sym c.deref-in-Or.ensures) (sym c.deref-in-Or-2.ensures) in
    (four_2_called t (term_of c.args.expr.now) c.decreases (Either (term_of c.deref-in-Or.result.now) (term_of c.deref-in-Or-2.result.now)) (max (term_depth (term_of c.deref-in-Or.result.now)) (term_depth (term_of c.deref-in-Or-2.result.now))) is refl, tt)

pub print_expr-returns-in-Or : goal.print_expr-returns-in-Or
print_expr-returns-in-Or t c =
    let is : term_of c.args.expr.now ≡ Either (term_of c.deref-in-Or.result.now) (term_of c.deref-in-Or-2.result.now) = ap term_of c.in-Or.is ∙ ap₂ (λ (e f : Expr). Either (term_of e) (term_of f)) (sym c.deref-in-Or.ensures) (sym c.deref-in-Or-2.ensures) in
    as_whole c.print_between-in-Or.result (string_bytes c.args.out.now) (string_bytes c.print_between-in-Or.new.out) c.args.place (Either (term_of c.deref-in-Or.result.now) (term_of c.deref-in-Or-2.result.now)) (term_of c.args.expr.now) is c.print_between-in-Or.ensures

pub print_expr-print_signed-requires : goal.print_expr-print_signed-requires
print_expr-print_signed-requires t c =
    let is : term_of c.args.expr.now ≡ Not (term_of c.deref-in-Not.result.now) = ap term_of c.in-Not.is ∙ ap (λ (e : Expr). Not (term_of e)) (sym c.deref-in-Not.ensures) in
    (four_2_called t (term_of c.args.expr.now) c.decreases (Not (term_of c.deref-in-Not.result.now)) (term_depth (term_of c.deref-in-Not.result.now)) is refl, tt)

pub print_expr-returns-in-Not : goal.print_expr-returns-in-Not
print_expr-returns-in-Not t c =
    let is : term_of c.args.expr.now ≡ Not (term_of c.deref-in-Not.result.now) = ap term_of c.in-Not.is ∙ ap (λ (e : Expr). Not (term_of e)) (sym c.deref-in-Not.ensures) in
    as_whole c.print_signed.result (string_bytes c.args.out.now) (string_bytes c.print_signed.new.out) c.args.place (Not (term_of c.deref-in-Not.result.now)) (term_of c.args.expr.now) is c.print_signed.ensures

-- ---- operands

pub print_argument-print_expr-requires : goal.print_argument-print_expr-requires
print_argument-print_expr-requires t c = (four_1_to_0 t (term_depth (term_of c.args.arg.now)) c.decreases, tt)

pub print_read-print_argument-requires : goal.print_read-print_argument-requires
print_read-print_argument-requires t c = (four_2_to_1 t (term_depth (term_of c.args.index.now)) c.decreases, tt)

pub print_signed-print_expr-requires : goal.print_signed-print_expr-requires
print_signed-print_expr-requires t c = (four_2_to_0 t (term_depth (term_of c.args.arg.now)) c.decreases, tt)

pub print_absolute-print_argument-requires : goal.print_absolute-print_argument-requires
print_absolute-print_argument-requires t c = (four_2_to_1 t (term_depth (term_of c.args.arg.now)) c.decreases, tt)

pub print_unary-print_signed-requires : goal.print_unary-print_signed-requires
print_unary-print_signed-requires t c = (four_3_to_2 t (term_depth (term_of c.args.arg.now)) c.decreases, tt)

pub print_unary-print_signed-requires-in-Flip : goal.print_unary-print_signed-requires-in-Flip
print_unary-print_signed-requires-in-Flip t c = (four_3_to_2 t (term_depth (term_of c.args.arg.now)) c.decreases, tt)

pub print_unary-print_absolute-requires : goal.print_unary-print_absolute-requires
print_unary-print_absolute-requires t c = (four_3_to_2 t (term_depth (term_of c.args.arg.now)) c.decreases, tt)

pub print_binary-print_between-requires : goal.print_binary-print_between-requires
print_binary-print_between-requires t c = (four_3_to_2 t (max (term_depth (term_of c.args.left.now)) (term_depth (term_of c.args.right.now))) c.decreases, tt)

pub print_binary-print_call-requires : goal.print_binary-print_call-requires
print_binary-print_call-requires t c = (four_3_to_2 t (max (term_depth (term_of c.args.left.now)) (term_depth (term_of c.args.right.now))) c.decreases, tt)

pub print_between-print_expr-requires : goal.print_between-print_expr-requires
print_between-print_expr-requires t c = (four_2_to_left_0 t (term_depth (term_of c.args.left.now)) (term_depth (term_of c.args.right.now)) c.decreases, tt)

pub print_between-print_expr-requires-2 : goal.print_between-print_expr-requires-2
print_between-print_expr-requires-2 t c = (four_2_to_right_0 t (term_depth (term_of c.args.left.now)) (term_depth (term_of c.args.right.now)) c.decreases, tt)

pub print_compared-print_expr-requires : goal.print_compared-print_expr-requires
print_compared-print_expr-requires t c = (four_2_to_left_0 t (term_depth (term_of c.args.left.now)) (term_depth (term_of c.args.right.now)) c.decreases, tt)

pub print_compared-print_expr-requires-2 : goal.print_compared-print_expr-requires-2
print_compared-print_expr-requires-2 t c = (four_2_to_right_0 t (term_depth (term_of c.args.left.now)) (term_depth (term_of c.args.right.now)) c.decreases, tt)

pub print_call-print_argument-requires : goal.print_call-print_argument-requires
print_call-print_argument-requires t c = (four_2_to_left_1 t (term_depth (term_of c.args.left.now)) (term_depth (term_of c.args.right.now)) c.decreases, tt)

pub print_call-print_argument-requires-2 : goal.print_call-print_argument-requires-2
print_call-print_argument-requires-2 t c = (four_2_to_right_1 t (term_depth (term_of c.args.left.now)) (term_depth (term_of c.args.right.now)) c.decreases, tt)

pub print_shift-print_expr-requires : goal.print_shift-print_expr-requires
print_shift-print_expr-requires t c = (four_2_to_0 t (term_depth (term_of c.args.arg.now)) c.decreases, tt)

pub print_cast-print_expr-requires : goal.print_cast-print_expr-requires
print_cast-print_expr-requires t c = (four_2_to_0 t (term_depth (term_of c.args.arg.now)) c.decreases, tt)

pub print_select-print_argument-requires : goal.print_select-print_argument-requires
print_select-print_argument-requires t c = (four_2_to_first_1 t (term_depth (term_of c.args.cond.now)) (term_depth (term_of c.args.yes.now)) (term_depth (term_of c.args.no.now)) c.decreases, tt)

pub print_select-print_argument-requires-2 : goal.print_select-print_argument-requires-2
print_select-print_argument-requires-2 t c = (four_2_to_second_1 t (term_depth (term_of c.args.cond.now)) (term_depth (term_of c.args.yes.now)) (term_depth (term_of c.args.no.now)) c.decreases, tt)

pub print_select-print_argument-requires-3 : goal.print_select-print_argument-requires-3
print_select-print_argument-requires-3 t c = (four_2_to_third_1 t (term_depth (term_of c.args.cond.now)) (term_depth (term_of c.args.yes.now)) (term_depth (term_of c.args.no.now)) c.decreases, tt)

-- ---- a call that failed owes nothing

pub print_argument-returns-in_err-print_expr : goal.print_argument-returns-in_err-print_expr
print_argument-returns-in_err-print_expr t c = IfOk-from_err _ _ c.from_residual.ensures.0

pub print_read-returns-in_err-put_name : goal.print_read-returns-in_err-put_name
print_read-returns-in_err-put_name t c = IfOk-from_err _ _ c.from_residual.ensures.0

pub print_read-returns-in_err-put_mark : goal.print_read-returns-in_err-put_mark
print_read-returns-in_err-put_mark t c = IfOk-from_err _ _ c.from_residual-in_err-put_mark.ensures.0

pub print_signed-returns-in_err-open : goal.print_signed-returns-in_err-open
print_signed-returns-in_err-open t c = IfOk-from_err _ _ c.from_residual.ensures.0

pub print_signed-returns-in_err-put_mark : goal.print_signed-returns-in_err-put_mark
print_signed-returns-in_err-put_mark t c = IfOk-from_err _ _ c.from_residual-in_err-put_mark.ensures.0

pub print_signed-returns-in_err-print_expr : goal.print_signed-returns-in_err-print_expr
print_signed-returns-in_err-print_expr t c = IfOk-from_err _ _ c.from_residual-in_err-print_expr.ensures.0

pub print_absolute-returns-in_err-begin_call : goal.print_absolute-returns-in_err-begin_call
print_absolute-returns-in_err-begin_call t c = IfOk-from_err _ _ c.from_residual.ensures.0

pub print_between-returns-in_err-open : goal.print_between-returns-in_err-open
print_between-returns-in_err-open t c = IfOk-from_err _ _ c.from_residual.ensures.0

pub print_between-returns-in_err-print_expr : goal.print_between-returns-in_err-print_expr
print_between-returns-in_err-print_expr t c = IfOk-from_err _ _ c.from_residual-in_err-print_expr.ensures.0

pub print_between-returns-in_err-put_mark : goal.print_between-returns-in_err-put_mark
print_between-returns-in_err-put_mark t c = IfOk-from_err _ _ c.from_residual-in_err-put_mark.ensures.0

pub print_between-returns-in_err-print_expr-2 : goal.print_between-returns-in_err-print_expr-2
print_between-returns-in_err-print_expr-2 t c = IfOk-from_err _ _ c.from_residual-in_err-print_expr-2.ensures.0

pub print_compared-returns-in_err-open : goal.print_compared-returns-in_err-open
print_compared-returns-in_err-open t c = IfOk-from_err _ _ c.from_residual.ensures.0

pub print_compared-returns-in_err-print_expr : goal.print_compared-returns-in_err-print_expr
print_compared-returns-in_err-print_expr t c = IfOk-from_err _ _ c.from_residual-in_err-print_expr.ensures.0

pub print_compared-returns-in_err-put_compare : goal.print_compared-returns-in_err-put_compare
print_compared-returns-in_err-put_compare t c = IfOk-from_err _ _ c.from_residual-in_err-put_compare.ensures.0

pub print_compared-returns-in_err-print_expr-2 : goal.print_compared-returns-in_err-print_expr-2
print_compared-returns-in_err-print_expr-2 t c = IfOk-from_err _ _ c.from_residual-in_err-print_expr-2.ensures.0

pub print_call-returns-in_err-begin_call : goal.print_call-returns-in_err-begin_call
print_call-returns-in_err-begin_call t c = IfOk-from_err _ _ c.from_residual.ensures.0

pub print_call-returns-in_err-print_argument : goal.print_call-returns-in_err-print_argument
print_call-returns-in_err-print_argument t c = IfOk-from_err _ _ c.from_residual-in_err-print_argument.ensures.0

pub print_shift-returns-in_err-open : goal.print_shift-returns-in_err-open
print_shift-returns-in_err-open t c = IfOk-from_err _ _ c.from_residual.ensures.0

pub print_shift-returns-in_err-print_expr : goal.print_shift-returns-in_err-print_expr
print_shift-returns-in_err-print_expr t c = IfOk-from_err _ _ c.from_residual-in_err-print_expr.ensures.0

pub print_cast-returns-in_err-open : goal.print_cast-returns-in_err-open
print_cast-returns-in_err-open t c = IfOk-from_err _ _ c.from_residual.ensures.0

pub print_cast-returns-in_err-print_expr : goal.print_cast-returns-in_err-print_expr
print_cast-returns-in_err-print_expr t c = IfOk-from_err _ _ c.from_residual-in_err-print_expr.ensures.0

pub print_cast-returns-in_err-put_mark : goal.print_cast-returns-in_err-put_mark
print_cast-returns-in_err-put_mark t c = IfOk-from_err _ _ c.from_residual-in_err-put_mark.ensures.0

pub print_cast-returns-in_err-put_type : goal.print_cast-returns-in_err-put_type
print_cast-returns-in_err-put_type t c = IfOk-from_err _ _ c.from_residual-in_err-put_type.ensures.0

pub print_select-returns-in_err-begin_call : goal.print_select-returns-in_err-begin_call
print_select-returns-in_err-begin_call t c = IfOk-from_err _ _ c.from_residual.ensures.0

pub print_select-returns-in_err-print_argument : goal.print_select-returns-in_err-print_argument
print_select-returns-in_err-print_argument t c = IfOk-from_err _ _ c.from_residual-in_err-print_argument.ensures.0

pub print_select-returns-in_err-print_argument-2 : goal.print_select-returns-in_err-print_argument-2
print_select-returns-in_err-print_argument-2 t c = IfOk-from_err _ _ c.from_residual-in_err-print_argument-2.ensures.0

-- ---- what is appended

pub print_argument-returns : goal.print_argument-returns
print_argument-returns t c = IfOk-weaker c.put_mark.result _ _ (λ _ h rest. h rest ∙ c.in_ok-print_expr.ensures _) c.put_mark.ensures

pub print_read-returns : goal.print_read-returns
print_read-returns t c = IfOk-weaker c.print_argument.result _ _ (λ _ h rest. h rest ∙ c.in_ok-put_mark.ensures _ ∙ c.in_ok-put_name.ensures _) c.print_argument.ensures

pub print_signed-returns : goal.print_signed-returns
print_signed-returns t c = IfOk-weaker c.close.result _ _ (λ _ h rest. h rest ∙ c.in_ok-print_expr.ensures _ ∙ c.in_ok-put_mark.ensures _ ∙ c.in_ok-open.ensures _) c.close.ensures

pub print_absolute-returns : goal.print_absolute-returns
print_absolute-returns t c = IfOk-weaker c.print_argument.result _ _ (λ _ h rest. h rest ∙ c.in_ok-begin_call.ensures _) c.print_argument.ensures

pub print_unary-returns-in-Neg : goal.print_unary-returns-in-Neg
print_unary-returns-in-Neg t c = IfOk-weaker c.print_signed.result _ _ (λ _ h rest. h rest ∙ ap (λ (o : UnaryOp). string_bytes c.args.out.now ++ spaced (print_unary o (print_term (term_of c.args.arg.now)) c.args.place rest)) (sym c.in-Neg.is)) c.print_signed.ensures

pub print_unary-returns-in-Flip : goal.print_unary-returns-in-Flip
print_unary-returns-in-Flip t c = IfOk-weaker c.print_signed-in-Flip.result _ _ (λ _ h rest. h rest ∙ ap (λ (o : UnaryOp). string_bytes c.args.out.now ++ spaced (print_unary o (print_term (term_of c.args.arg.now)) c.args.place rest)) (sym c.in-Flip.is)) c.print_signed-in-Flip.ensures

pub print_unary-returns-in-Abs : goal.print_unary-returns-in-Abs
print_unary-returns-in-Abs t c = IfOk-weaker c.print_absolute.result _ _ (λ _ h rest. h rest ∙ ap (λ (o : UnaryOp). string_bytes c.args.out.now ++ spaced (print_unary o (print_term (term_of c.args.arg.now)) c.args.place rest)) (sym c.in-Abs.is)) c.print_absolute.ensures

pub print_binary-returns-in-Some : goal.print_binary-returns-in-Some
print_binary-returns-in-Some t c = IfOk-weaker c.print_between.result _ _ (λ _ h rest. h rest ∙ ap (λ (o : Option Mark). string_bytes c.args.out.now ++ spaced (print_binary o c.args.op (print_term (term_of c.args.left.now)) (print_term (term_of c.args.right.now)) c.args.place rest)) (sym c.in-Some.is ∙ c.symbol.ensures)) c.print_between.ensures

pub print_binary-returns-in-None : goal.print_binary-returns-in-None
print_binary-returns-in-None t c = IfOk-weaker c.print_call.result _ _ (λ _ h rest. h rest ∙ ap (λ (m : Mark). string_bytes c.args.out.now ++ spaced (print_call m (print_term (term_of c.args.left.now)) (print_term (term_of c.args.right.now)) rest)) c.caller.ensures ∙ ap (λ (o : Option Mark). string_bytes c.args.out.now ++ spaced (print_binary o c.args.op (print_term (term_of c.args.left.now)) (print_term (term_of c.args.right.now)) c.args.place rest)) (sym c.in-None.is ∙ c.symbol.ensures)) c.print_call.ensures

pub print_shift-returns : goal.print_shift-returns
print_shift-returns t c = IfOk-weaker c.end_shift.result _ _ (λ _ h rest. h rest ∙ ap (λ (n : ℤ). string_bytes c.print_expr.new.out ++ spaced (IsMark (mark_of_shift c.args.left_shift) ∷ print_count n (closed c.args.place rest))) (to_z-of_z w128 c.args.count c.ranges.count) ∙ c.in_ok-print_expr.ensures _ ∙ c.in_ok-open.ensures _) c.end_shift.ensures

pub print_between-returns : goal.print_between-returns
print_between-returns t c = IfOk-weaker c.close.result _ _ (λ _ h rest. h rest ∙ c.in_ok-print_expr-2.ensures _ ∙ c.in_ok-put_mark.ensures _ ∙ c.in_ok-print_expr.ensures _ ∙ c.in_ok-open.ensures _) c.close.ensures

pub print_compared-returns : goal.print_compared-returns
print_compared-returns t c = IfOk-weaker c.close.result _ _ (λ _ h rest. h rest ∙ c.in_ok-print_expr-2.ensures _ ∙ c.in_ok-put_compare.ensures _ ∙ c.in_ok-print_expr.ensures _ ∙ c.in_ok-open.ensures _) c.close.ensures

pub print_call-returns : goal.print_call-returns
print_call-returns t c = IfOk-weaker c.print_argument-2.result _ _ (λ _ h rest. h rest ∙ c.in_ok-print_argument.ensures _ ∙ c.in_ok-begin_call.ensures _) c.print_argument-2.ensures

pub print_cast-returns : goal.print_cast-returns
print_cast-returns t c = IfOk-weaker c.close.result _ _ (λ _ h rest. h rest ∙ c.in_ok-put_type.ensures _ ∙ c.in_ok-put_mark.ensures _ ∙ c.in_ok-print_expr.ensures _ ∙ c.in_ok-open.ensures _) c.close.ensures

pub print_select-returns : goal.print_select-returns
print_select-returns t c = IfOk-weaker c.print_argument-3.result _ _ (λ _ h rest. h rest ∙ c.in_ok-print_argument-2.ensures _ ∙ c.in_ok-print_argument.ensures _ ∙ c.in_ok-begin_call.ensures _) c.print_argument-3.ensures
