use Rattle.std.proofs.Common.{◌+◌, sym, ap, ap₂, ◌∙◌}
use Rattle.std.proofs.lemmas.Result.{on_ok_weaker}
use Rattle.std.specs.Prelude.{max, option_map}
use Rattle.kernel_tree.specs.declared.ast.Expr.{Expr}
use Rattle.kernel_tree.specs.Plain.{Element, Choice, name_of, term_of}
use Rattle.kernel_tree.specs.Items.{stream_offset}
use Rattle.kernel_tree.specs.Limits.{term_depth}
use Rattle.kernel_scope.specs.Scopes.{scope_of}
use Rattle.label_fix.specs.Draft.{word_view}
use Rattle.scalar_words.specs.View.{looses_of}
use Rattle.loop_code.specs.Loosening.{with_array, term_arrays}
use Rattle.loop_code.proofs.ArrayWalk.{element_streamed, element_computed}
use Rattle.guest_types.proofs.Errors.{on_error}
use Rattle.value_code.proofs.TermWalks.{step_left, step_right, step_down}
use Rattle.loop_code.proofs.TermWalks.{one_operand, two_operands, two_one_operand_below, two_below, element_below, cond_below, choice_below, no_operand}
use Rattle.loop_code.proofs.arrays.+terms.Goals as goal

-- ---- an expression by its kind

pub add_term-add_element-requires : goal.add_term-add_element-requires
add_term-add_element-requires t c =
    (element_below t (term_depth (term_of c.deref.result.now)) (term_of c.args.expr.now) c.decreases (ap (λ (e : Expr). term_depth (term_of e)) c.in-Read.is ∙ ap (λ (e : Expr). term_depth (term_of e) + 1) (sym c.deref.ensures)), tt)

pub add_term-returns-in-Read : goal.add_term-returns-in-Read
add_term-returns-in-Read t c =
    on_ok_weaker c.add_element.result (λ p. p
    ∙ ap (λ (e : Expr). term_arrays (scope_of c.args.scope.now) (Element (name_of c.in-Read.array) (term_of e)) (looses_of c.args.loose.now.items)) c.deref.ensures
    ∙ ap (λ (e : Expr). term_arrays (scope_of c.args.scope.now) (term_of e) (looses_of c.args.loose.now.items)) (sym c.in-Read.is)) c.add_element.ensures

pub add_term-add_both-requires : goal.add_term-add_both-requires
add_term-add_both-requires t c = (
  choice_below t (term_depth (term_of c.in-Select.cond.value)) (term_depth (term_of c.deref-in-Select.result.now)) (term_depth (term_of c.deref-in-Select-2.result.now)) (term_of c.args.expr.now) c.decreases
      (ap (λ (e : Expr). term_depth (term_of e)) c.in-Select.is
      ∙ ap₂ (λ (e f : Expr). max (term_depth (term_of c.in-Select.cond.value)) (max (term_depth (term_of e)) (term_depth (term_of f))) + 1) (sym c.deref-in-Select.ensures) (sym c.deref-in-Select-2.ensures)),
  tt,
)

pub add_term-add_term-requires : goal.add_term-add_term-requires
add_term-add_term-requires t c = (
  cond_below t (term_depth (term_of c.deref-in-Select-3.result.now)) (term_depth (term_of c.in-Select.yes.value)) (term_depth (term_of c.in-Select.no.value)) (term_of c.args.expr.now) c.decreases
      (ap (λ (e : Expr). term_depth (term_of e)) c.in-Select.is
      ∙ ap (λ (e : Expr). max (term_depth (term_of e)) (max (term_depth (term_of c.in-Select.yes.value)) (term_depth (term_of c.in-Select.no.value))) + 1) (sym c.deref-in-Select-3.ensures)),
  tt,
)

pub add_term-returns-in_err-add_both-in-Select : goal.add_term-returns-in_err-add_both-in-Select
add_term-returns-in_err-add_both-in-Select t c = on_error _ _ c.from_residual.ensures.0

pub add_term-returns-in_ok-add_both-in-Select : goal.add_term-returns-in_ok-add_both-in-Select
add_term-returns-in_ok-add_both-in-Select t c =
    on_ok_weaker c.add_term.result (λ p. p
    ∙ ap (term_arrays (scope_of c.args.scope.now) (term_of c.deref-in-Select-3.result.now)) c.in_ok-add_both-in-Select.ensures
    ∙ ap₂ (λ (e f : Expr). term_arrays (scope_of c.args.scope.now) (Choice (term_of c.deref-in-Select-3.result.now) (term_of e) (term_of f)) (looses_of c.args.loose.now.items)) c.deref-in-Select.ensures c.deref-in-Select-2.ensures
    ∙ ap (λ (e : Expr). term_arrays (scope_of c.args.scope.now) (Choice (term_of e) (term_of c.in-Select.yes.value) (term_of c.in-Select.no.value)) (looses_of c.args.loose.now.items)) c.deref-in-Select-3.ensures
    ∙ ap (λ (e : Expr). term_arrays (scope_of c.args.scope.now) (term_of e) (looses_of c.args.loose.now.items)) (sym c.in-Select.is)) c.add_term.ensures

pub add_term-add_both-requires-in-Binary : goal.add_term-add_both-requires-in-Binary
add_term-add_both-requires-in-Binary t c = (
  two_below t (term_of c.args.expr.now) (term_of c.in-Binary.left.value) (term_of c.in-Binary.right.value) (term_of c.deref-in-Binary.result.now) (term_of c.deref-in-Binary-2.result.now) c.decreases
      (two_operands c.args.expr.now c.in-Binary.left c.in-Binary.right c.in-Binary.is) (ap term_of c.deref-in-Binary.ensures) (ap term_of c.deref-in-Binary-2.ensures),
  tt,
)

pub add_term-returns-in-Binary : goal.add_term-returns-in-Binary
add_term-returns-in-Binary t c =
    on_ok_weaker c.add_both-in-Binary.result (λ p. p
    ∙ ap₂ (λ (e f : Expr). term_arrays (scope_of c.args.scope.now) (term_of f) (term_arrays (scope_of c.args.scope.now) (term_of e) (looses_of c.args.loose.now.items))) c.deref-in-Binary.ensures c.deref-in-Binary-2.ensures
    ∙ (two_operands c.args.expr.now c.in-Binary.left c.in-Binary.right c.in-Binary.is).arrays (scope_of c.args.scope.now) (looses_of c.args.loose.now.items)) c.add_both-in-Binary.ensures

pub add_term-add_term-requires-in-Unary : goal.add_term-add_term-requires-in-Unary
add_term-add_term-requires-in-Unary t c = (
  two_one_operand_below t (term_of c.args.expr.now) (term_of c.in-Unary.arg.value) (term_of c.deref-in-Unary.result.now) c.decreases
      (one_operand c.args.expr.now c.in-Unary.arg c.in-Unary.is) (ap term_of c.deref-in-Unary.ensures),
  tt,
)

pub add_term-returns-in-Unary : goal.add_term-returns-in-Unary
add_term-returns-in-Unary t c =
    on_ok_weaker c.add_term-in-Unary.result (λ p. p
    ∙ ap (λ (e : Expr). term_arrays (scope_of c.args.scope.now) (term_of e) (looses_of c.args.loose.now.items)) c.deref-in-Unary.ensures
    ∙ (one_operand c.args.expr.now c.in-Unary.arg c.in-Unary.is).arrays (scope_of c.args.scope.now) (looses_of c.args.loose.now.items)) c.add_term-in-Unary.ensures

pub add_term-returns-in_default : goal.add_term-returns-in_default
add_term-returns-in_default t c =
    no_operand c.args.expr.now (scope_of c.args.scope.now) (looses_of c.args.loose.now.items) c.in_default.not-Read c.in_default.not-Unary c.in_default.not-Binary c.in_default.not-Shift c.in_default.not-Cast c.in_default.not-Select c.in_default.not-Compare c.in_default.not-And c.in_default.not-Or c.in_default.not-Not

-- ---- an element, by the word of its index

pub add_element-add_term-requires : goal.add_element-add_term-requires
add_element-add_term-requires t c = (step_down t (term_depth (term_of c.args.index.now)) c.decreases, tt)

pub add_element-returns-in-Some : goal.add_element-returns-in-Some
add_element-returns-in-Some t c =
    on_ok_weaker c.add_array.result (λ p. p ∙ element_streamed (stream_offset (scope_of c.args.scope.now).index (term_of c.args.index.now)) _ (with_array (scope_of c.args.scope.now) (name_of c.args.array.now) (looses_of c.args.loose.now.items)) (term_arrays (scope_of c.args.scope.now) (term_of c.args.index.now) (looses_of c.args.loose.now.items)) (sym c.index_word.ensures.word ∙ ap (option_map (option_map word_view)) c.in-Some.is)) c.add_array.ensures

pub add_element-returns-in-None : goal.add_element-returns-in-None
add_element-returns-in-None t c =
    on_ok_weaker c.add_term.result (λ p. p ∙ element_computed (stream_offset (scope_of c.args.scope.now).index (term_of c.args.index.now)) (with_array (scope_of c.args.scope.now) (name_of c.args.array.now) (looses_of c.args.loose.now.items)) (term_arrays (scope_of c.args.scope.now) (term_of c.args.index.now) (looses_of c.args.loose.now.items)) (sym c.index_word.ensures.word ∙ ap (option_map (option_map word_view)) c.in-None.is)) c.add_term.ensures

-- ---- two operands

pub add_both-add_term-requires : goal.add_both-add_term-requires
add_both-add_term-requires t c = (step_left t (term_depth (term_of c.args.left.now)) (term_depth (term_of c.args.right.now)) c.decreases, tt)

pub add_both-returns-in_err-add_term : goal.add_both-returns-in_err-add_term
add_both-returns-in_err-add_term t c = on_error _ _ c.from_residual.ensures.0

pub add_both-add_term-requires-2 : goal.add_both-add_term-requires-2
add_both-add_term-requires-2 t c = (step_right t (term_depth (term_of c.args.left.now)) (term_depth (term_of c.args.right.now)) c.decreases, tt)

pub add_both-returns : goal.add_both-returns
add_both-returns t c = on_ok_weaker c.add_term-2.result (λ p. p ∙ ap (term_arrays (scope_of c.args.scope.now) (term_of c.args.right.now)) c.in_ok-add_term.ensures) c.add_term-2.ensures
