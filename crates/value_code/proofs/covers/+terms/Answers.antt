use Rattle.std.proofs.Common.{◌+◌, ◌*◌, ◌<◌, Some, Option, sym, ap, ◌∙◌, refl, subst, rules}
use Rattle.std.specs.Prelude.{max, option_map, option_and_then}
use mir.Syntax.{w128}
use mir.Val.{SFits, of_z, to_z}
use Rattle.std.proofs.lemmas.Int.{to_z-of_z}
use Rattle.kernel_tree.specs.declared.ast.Expr.{Expr}
use Rattle.kernel_tree.specs.declared.ops.Ty.{Ty}
use Rattle.kernel_tree.specs.declared.ops.Ty.TheVariants as ty
use Rattle.kernel_tree.specs.Plain.{Element, Unary, Operation, Shift, Conversion, Choice, Comparison, Not, name_of, term_of}
use Rattle.kernel_tree.specs.Limits.{term_depth}
use Rattle.kernel_tree.specs.Items.{stream_offset}
use Rattle.kernel_tree.specs.Typing.{lookup, first, element_type, index_type}
use Rattle.kernel_scope.specs.Scopes.{scope_of}
use Rattle.scalar_words.specs.Layout.{loose_in}
use Rattle.scalar_words.specs.View.{looses_of, form_of}
use Rattle.value_code.specs.Extents.{Whole}
use Rattle.value_code.specs.Covers.{covers, covers_truth}
use Rattle.value_code.proofs.TermWalks.{below_one, below_between, below_left, below_right, below_first, below_second, step_down, joined_depth}
use Rattle.value_code.proofs.CoversTerms.{named, others_covers, others_truth, unary_covers, shift_covers, cast_covers, binary_then, binary_else, choice_else, choice_then, choice_second, compare_then, compare_else, truths_then, truths_else, stream_covers, computed_then, computed_else}
use Rattle.value_code.proofs.covers.+terms.Goals as goal

-- ---- each call is for an expression below

pub covers-covers_index-requires : goal.covers-covers_index-requires
covers-covers_index-requires t c =
    (subst (λ (e : Expr). 2 * term_depth (term_of e) + 1 < t) (sym c.deref.ensures) (below_between t (term_of c.args.term.now) c.decreases (Element (name_of c.in-Read.array) (term_of c.in-Read.index.value)) (ap term_of c.in-Read.is) (term_depth (term_of c.in-Read.index.value)) refl), tt)

pub covers-covers-requires : goal.covers-covers-requires
covers-covers-requires t c =
    (subst (λ (e : Expr). 2 * term_depth (term_of e) < t) (sym c.deref-in-Unary-2.ensures) (below_one t (term_of c.args.term.now) c.decreases (Unary c.in-Unary.op (term_of c.in-Unary.arg.value)) (ap term_of c.in-Unary.is) (term_depth (term_of c.in-Unary.arg.value)) refl), tt)

pub covers-covers-requires-in-Binary : goal.covers-covers-requires-in-Binary
covers-covers-requires-in-Binary t c =
    (subst (λ (e : Expr). 2 * term_depth (term_of e) < t) (sym c.deref-in-Binary-3.ensures) (below_left t (term_of c.args.term.now) c.decreases (Operation c.in-Binary.op (term_of c.in-Binary.left.value) (term_of c.in-Binary.right.value)) (ap term_of c.in-Binary.is) (term_depth (term_of c.in-Binary.left.value)) (term_depth (term_of c.in-Binary.right.value)) refl), tt)

pub covers-covers-requires-then-covers : goal.covers-covers-requires-then-covers
covers-covers-requires-then-covers t c =
    (subst (λ (e : Expr). 2 * term_depth (term_of e) < t) (sym c.deref-then-covers.ensures) (below_right t (term_of c.args.term.now) c.decreases (Operation c.in-Binary.op (term_of c.in-Binary.left.value) (term_of c.in-Binary.right.value)) (ap term_of c.in-Binary.is) (term_depth (term_of c.in-Binary.left.value)) (term_depth (term_of c.in-Binary.right.value)) refl), tt)

pub covers-covers-requires-in-Shift : goal.covers-covers-requires-in-Shift
covers-covers-requires-in-Shift t c =
    (subst (λ (e : Expr). 2 * term_depth (term_of e) < t) (sym c.deref-in-Shift-2.ensures) (below_one t (term_of c.args.term.now) c.decreases (Shift c.in-Shift.left_shift (term_of c.in-Shift.arg.value) c.in-Shift.count) (ap term_of c.in-Shift.is) (term_depth (term_of c.in-Shift.arg.value)) refl), tt)

pub covers-covers-requires-in-Cast : goal.covers-covers-requires-in-Cast
covers-covers-requires-in-Cast t c =
    (subst (λ (e : Expr). 2 * term_depth (term_of e) < t) (sym c.deref-in-Cast-2.ensures) (below_one t (term_of c.args.term.now) c.decreases (Conversion (term_of c.in-Cast.arg.value) c.in-Cast.ty) (ap term_of c.in-Cast.is) (term_depth (term_of c.in-Cast.arg.value)) refl), tt)

pub covers-covers-requires-in-Select : goal.covers-covers-requires-in-Select
covers-covers-requires-in-Select t c =
    (subst (λ (e : Expr). 2 * term_depth (term_of e) < t) (sym c.deref-in-Select.ensures) (below_first t (term_of c.args.term.now) c.decreases (Choice (term_of c.in-Select.cond.value) (term_of c.in-Select.yes.value) (term_of c.in-Select.no.value)) (ap term_of c.in-Select.is) (term_depth (term_of c.in-Select.cond.value)) (term_depth (term_of c.in-Select.yes.value)) (term_depth (term_of c.in-Select.no.value)) refl), tt)

pub covers-covers-requires-then-covers-2 : goal.covers-covers-requires-then-covers-2
covers-covers-requires-then-covers-2 t c =
    (subst (λ (e : Expr). 2 * term_depth (term_of e) < t) (sym c.deref-then-covers-2.ensures) (below_second t (term_of c.args.term.now) c.decreases (Choice (term_of c.in-Select.cond.value) (term_of c.in-Select.yes.value) (term_of c.in-Select.no.value)) (ap term_of c.in-Select.is) (term_depth (term_of c.in-Select.cond.value)) (term_depth (term_of c.in-Select.yes.value)) (term_depth (term_of c.in-Select.no.value)) refl), tt)

pub covers-covers_truth-requires : goal.covers-covers_truth-requires
covers-covers_truth-requires t c =
    (subst (λ (e : Expr). 2 * term_depth (term_of e) < t) (sym c.deref-then-covers-3.ensures) (below_left t (term_of c.args.term.now) c.decreases (Choice (term_of c.in-Select.cond.value) (term_of c.in-Select.yes.value) (term_of c.in-Select.no.value)) (ap term_of c.in-Select.is) (term_depth (term_of c.in-Select.cond.value)) (max (term_depth (term_of c.in-Select.yes.value)) (term_depth (term_of c.in-Select.no.value))) refl), tt)

-- ---- expressions

pub covers-returns-in-Var : goal.covers-returns-in-Var
covers-returns-in-Var t c =
    named (looses_of c.args.loose.now) (scope_of c.args.scope.now) c.args.extent c.args.want (term_of c.args.term.now) c.is_enough.result (name_of c.in-Var.name) (option_map form_of c.loose_form.result) (ap term_of c.in-Var.is) c.loose_form.ensures c.is_enough.ensures

pub covers-returns-in-Read : goal.covers-returns-in-Read
covers-returns-in-Read t c =
    c.covers_index.ensures ∙ ap (covers (looses_of c.args.loose.now) (scope_of c.args.scope.now) c.args.extent c.args.want) (ap (λ (e : Expr). Element (name_of c.in-Read.array) (term_of e)) c.deref.ensures ∙ sym (ap term_of c.in-Read.is))

pub covers-returns-in-Unary : goal.covers-returns-in-Unary
covers-returns-in-Unary t c =
    unary_covers (looses_of c.args.loose.now) (scope_of c.args.scope.now) c.args.extent c.args.want (term_of c.args.term.now) c.covers.result c.in-Unary.op c.in-Unary.arg.value c.deref-in-Unary.result.now c.deref-in-Unary-2.result.now c.unary_asks-asked.result.0 (ap term_of c.in-Unary.is) c.deref-in-Unary.ensures c.deref-in-Unary-2.ensures c.unary_asks-asked.ensures.asked c.covers.ensures

pub covers-returns-in-Shift : goal.covers-returns-in-Shift
covers-returns-in-Shift t c =
    let in_range : SFits w128 c.in-Shift.count = search rules in
    shift_covers (looses_of c.args.loose.now) (scope_of c.args.scope.now) c.args.extent c.args.want (term_of c.args.term.now) c.covers-in-Shift.result c.in-Shift.left_shift c.in-Shift.count (to_z w128 (of_z w128 c.in-Shift.count)) c.in-Shift.arg.value c.deref-in-Shift.result.now c.deref-in-Shift-2.result.now c.shift_asks-asked.result.0 (ap term_of c.in-Shift.is) (to_z-of_z w128 c.in-Shift.count in_range) c.deref-in-Shift.ensures c.deref-in-Shift-2.ensures c.shift_asks-asked.ensures.asked c.covers-in-Shift.ensures

pub covers-returns-in-Cast : goal.covers-returns-in-Cast
covers-returns-in-Cast t c =
    cast_covers (looses_of c.args.loose.now) (scope_of c.args.scope.now) c.args.extent c.args.want (term_of c.args.term.now) c.covers-in-Cast.result c.in-Cast.ty c.in-Cast.arg.value c.deref-in-Cast.result.now c.deref-in-Cast-2.result.now c.own_type-from.result c.converted_extent.result (ap term_of c.in-Cast.is) c.deref-in-Cast.ensures c.deref-in-Cast-2.ensures c.own_type-from.ensures c.converted_extent.ensures c.covers-in-Cast.ensures

pub covers-returns-then-covers : goal.covers-returns-then-covers
covers-returns-then-covers t c =
    binary_then (looses_of c.args.loose.now) (scope_of c.args.scope.now) c.args.extent c.args.want (term_of c.args.term.now) c.covers-then-covers.result c.in-Binary.op c.in-Binary.left.value c.in-Binary.right.value c.deref-in-Binary.result.now c.deref-in-Binary-2.result.now c.deref-in-Binary-3.result.now c.binary_asks-asked.result.0 c.covers-in-Binary.result (ap term_of c.in-Binary.is) c.deref-in-Binary.ensures c.deref-in-Binary-2.ensures c.binary_asks-asked.ensures.asked c.deref-in-Binary-3.ensures c.covers-in-Binary.ensures c.deref-then-covers.result.now c.deref-then-covers.ensures c.if-covers.true c.covers-then-covers.ensures

pub covers-returns-else-covers : goal.covers-returns-else-covers
covers-returns-else-covers t c =
    binary_else (looses_of c.args.loose.now) (scope_of c.args.scope.now) c.args.extent c.args.want (term_of c.args.term.now) c.covers-in-Binary.result c.in-Binary.op c.in-Binary.left.value c.in-Binary.right.value c.deref-in-Binary.result.now c.deref-in-Binary-2.result.now c.deref-in-Binary-3.result.now c.binary_asks-asked.result.0 c.covers-in-Binary.result (ap term_of c.in-Binary.is) c.deref-in-Binary.ensures c.deref-in-Binary-2.ensures c.binary_asks-asked.ensures.asked c.deref-in-Binary-3.ensures c.covers-in-Binary.ensures c.if-covers.false

pub covers-returns-else-covers-2 : goal.covers-returns-else-covers-2
covers-returns-else-covers-2 t c =
    choice_else (looses_of c.args.loose.now) (scope_of c.args.scope.now) c.args.extent c.args.want (term_of c.args.term.now) c.covers-in-Select.result c.in-Select.cond.value c.in-Select.yes.value c.in-Select.no.value c.deref-in-Select.result.now c.covers-in-Select.result (ap term_of c.in-Select.is) c.deref-in-Select.ensures c.covers-in-Select.ensures c.if-covers-2.false

pub covers-returns-then-covers-3 : goal.covers-returns-then-covers-3
covers-returns-then-covers-3 t c =
    choice_then (looses_of c.args.loose.now) (scope_of c.args.scope.now) c.args.extent c.args.want (term_of c.args.term.now) c.covers_truth.result c.in-Select.cond.value c.in-Select.yes.value c.in-Select.no.value c.deref-in-Select.result.now c.covers-in-Select.result (ap term_of c.in-Select.is) c.deref-in-Select.ensures c.covers-in-Select.ensures c.deref-then-covers-2.result.now c.covers-then-covers-2.result c.if-covers-2.true c.deref-then-covers-2.ensures c.covers-then-covers-2.ensures c.deref-then-covers-3.result.now c.deref-then-covers-3.ensures c.if-covers-3.true c.covers_truth.ensures

pub covers-returns-else-covers-3 : goal.covers-returns-else-covers-3
covers-returns-else-covers-3 t c =
    choice_second (looses_of c.args.loose.now) (scope_of c.args.scope.now) c.args.extent c.args.want (term_of c.args.term.now) c.covers-then-covers-2.result c.in-Select.cond.value c.in-Select.yes.value c.in-Select.no.value c.deref-in-Select.result.now c.covers-in-Select.result (ap term_of c.in-Select.is) c.deref-in-Select.ensures c.covers-in-Select.ensures c.deref-then-covers-2.result.now c.covers-then-covers-2.result c.if-covers-2.true c.deref-then-covers-2.ensures c.covers-then-covers-2.ensures c.if-covers-3.false

-- ---- an index

pub covers_index-covers-requires : goal.covers_index-covers-requires
covers_index-covers-requires t c =
    (step_down t (term_depth (term_of c.args.index.now)) c.decreases, tt)

pub covers_index-returns-in-Some : goal.covers_index-returns-in-Some
covers_index-returns-in-Some t c =
    stream_covers (looses_of c.args.loose.now) (scope_of c.args.scope.now).index (loose_in (looses_of c.args.loose.now) (name_of c.args.array.now)) (option_and_then element_type (lookup (scope_of c.args.scope.now) (name_of c.args.array.now))) (stream_offset (scope_of c.args.scope.now).index (term_of c.args.index.now)) (covers (looses_of c.args.loose.now) (scope_of c.args.scope.now) Whole (index_type (scope_of c.args.scope.now) (term_of c.args.index.now)) (term_of c.args.index.now)) c.stands_together.result (option_map form_of c.loose_form.result) (option_map form_of c.index_form.result) c.array_type-ty.result _ c.in-Some.ensures.word c.loose_form.ensures c.index_form.ensures c.array_type-ty.ensures c.stands_together.ensures

pub covers_index-returns-then-is_whole : goal.covers_index-returns-then-is_whole
covers_index-returns-then-is_whole t c =
    computed_then (looses_of c.args.loose.now) (scope_of c.args.scope.now).index (loose_in (looses_of c.args.loose.now) (name_of c.args.array.now)) (option_and_then element_type (lookup (scope_of c.args.scope.now) (name_of c.args.array.now))) (stream_offset (scope_of c.args.scope.now).index (term_of c.args.index.now)) (covers (looses_of c.args.loose.now) (scope_of c.args.scope.now) Whole (index_type (scope_of c.args.scope.now) (term_of c.args.index.now)) (term_of c.args.index.now)) c.covers.result c.is_whole.result c.in-None.ensures.word c.if-is_whole.true c.is_whole.ensures (c.covers.ensures ∙ ap (λ (o : Option Ty). covers (looses_of c.args.loose.now) (scope_of c.args.scope.now) Whole o (term_of c.args.index.now)) (c.first-want.ensures ∙ ap (λ (o : Option Ty). first o (Some ty.U64)) c.own_type.ensures))

pub covers_index-returns-else-is_whole : goal.covers_index-returns-else-is_whole
covers_index-returns-else-is_whole t c =
    computed_else (looses_of c.args.loose.now) (scope_of c.args.scope.now).index (loose_in (looses_of c.args.loose.now) (name_of c.args.array.now)) (option_and_then element_type (lookup (scope_of c.args.scope.now) (name_of c.args.array.now))) (stream_offset (scope_of c.args.scope.now).index (term_of c.args.index.now)) (covers (looses_of c.args.loose.now) (scope_of c.args.scope.now) Whole (index_type (scope_of c.args.scope.now) (term_of c.args.index.now)) (term_of c.args.index.now)) c.is_whole.result c.in-None.ensures.word c.if-is_whole.false c.is_whole.ensures

-- ---- conditions

pub covers_truth-covers-requires : goal.covers_truth-covers-requires
covers_truth-covers-requires t c =
    (subst (λ (e : Expr). 2 * term_depth (term_of e) < t) (sym c.deref-in-Compare-2.ensures) (below_left t (term_of c.args.term.now) c.decreases (Comparison c.in-Compare.op (term_of c.in-Compare.left.value) (term_of c.in-Compare.right.value)) (ap term_of c.in-Compare.is) (term_depth (term_of c.in-Compare.left.value)) (term_depth (term_of c.in-Compare.right.value)) refl), tt)

pub covers_truth-covers-requires-then-covers : goal.covers_truth-covers-requires-then-covers
covers_truth-covers-requires-then-covers t c =
    (subst (λ (e : Expr). 2 * term_depth (term_of e) < t) (sym c.deref-then-covers.ensures) (below_right t (term_of c.args.term.now) c.decreases (Comparison c.in-Compare.op (term_of c.in-Compare.left.value) (term_of c.in-Compare.right.value)) (ap term_of c.in-Compare.is) (term_depth (term_of c.in-Compare.left.value)) (term_depth (term_of c.in-Compare.right.value)) refl), tt)

pub covers_truth-covers_truth-requires : goal.covers_truth-covers_truth-requires
covers_truth-covers_truth-requires t c =
    (subst (λ (e : Expr). 2 * term_depth (term_of e) < t) (sym c.deref-in-Not.ensures) (below_one t (term_of c.args.term.now) c.decreases (Not (term_of c.in-Not.arg.value)) (ap term_of c.in-Not.is) (term_depth (term_of c.in-Not.arg.value)) refl), tt)

pub covers_truth-returns-then-covers : goal.covers_truth-returns-then-covers
covers_truth-returns-then-covers t c =
    compare_then (looses_of c.args.loose.now) (scope_of c.args.scope.now) (term_of c.args.term.now) c.in-Compare.op c.in-Compare.left.value c.in-Compare.right.value c.deref.result.now c.deref-in-Compare.result.now c.deref-in-Compare-2.result.now c.side_type-want.result c.covers.result (ap term_of c.in-Compare.is) c.deref.ensures c.deref-in-Compare.ensures c.side_type-want.ensures c.deref-in-Compare-2.ensures c.covers.ensures c.deref-then-covers.result.now c.covers-then-covers.result c.deref-then-covers.ensures c.if-covers.true c.covers-then-covers.ensures

pub covers_truth-returns-else-covers : goal.covers_truth-returns-else-covers
covers_truth-returns-else-covers t c =
    compare_else (looses_of c.args.loose.now) (scope_of c.args.scope.now) (term_of c.args.term.now) c.in-Compare.op c.in-Compare.left.value c.in-Compare.right.value c.deref.result.now c.deref-in-Compare.result.now c.deref-in-Compare-2.result.now c.side_type-want.result c.covers.result (ap term_of c.in-Compare.is) c.deref.ensures c.deref-in-Compare.ensures c.side_type-want.ensures c.deref-in-Compare-2.ensures c.covers.ensures c.if-covers.false

pub covers_truth-returns-in-Not : goal.covers_truth-returns-in-Not
covers_truth-returns-in-Not t c =
    c.covers_truth.ensures ∙ ap (λ (e : Expr). covers_truth (looses_of c.args.loose.now) (scope_of c.args.scope.now) (term_of e)) c.deref-in-Not.ensures ∙ ap (covers_truth (looses_of c.args.loose.now) (scope_of c.args.scope.now)) (sym (ap term_of c.in-Not.is))

pub covers_truth-covers_truth-requires-in-And : goal.covers_truth-covers_truth-requires-in-And
covers_truth-covers_truth-requires-in-And t c =
    (subst (λ (e : Expr). 2 * term_depth (term_of e) < t) (sym c.deref-in-And.ensures) (below_left t (term_of c.args.term.now) c.decreases (term_of c.args.term.now) refl (term_depth (term_of c.in-And.left.value)) (term_depth (term_of c.in-And.right.value)) (joined_depth c.args.term.now c.in-And.left c.in-And.right c.in-And.is)), tt)

pub covers_truth-covers_truth-requires-then-covers_truth : goal.covers_truth-covers_truth-requires-then-covers_truth
covers_truth-covers_truth-requires-then-covers_truth t c =
    (subst (λ (e : Expr). 2 * term_depth (term_of e) < t) (sym c.deref-then-covers_truth.ensures) (below_right t (term_of c.args.term.now) c.decreases (term_of c.args.term.now) refl (term_depth (term_of c.in-And.left.value)) (term_depth (term_of c.in-And.right.value)) (joined_depth c.args.term.now c.in-And.left c.in-And.right c.in-And.is)), tt)

pub covers_truth-returns-then-covers_truth : goal.covers_truth-returns-then-covers_truth
covers_truth-returns-then-covers_truth t c =
    truths_then (looses_of c.args.loose.now) (scope_of c.args.scope.now) c.args.term.now c.in-And.left c.in-And.right c.deref-in-And.result.now c.covers_truth-in-And.result c.in-And.is c.deref-in-And.ensures c.covers_truth-in-And.ensures c.deref-then-covers_truth.result.now c.covers_truth-then-covers_truth.result c.deref-then-covers_truth.ensures c.if-covers_truth.true c.covers_truth-then-covers_truth.ensures

pub covers_truth-returns-else-covers_truth : goal.covers_truth-returns-else-covers_truth
covers_truth-returns-else-covers_truth t c =
    truths_else (looses_of c.args.loose.now) (scope_of c.args.scope.now) c.args.term.now c.in-And.left c.in-And.right c.deref-in-And.result.now c.covers_truth-in-And.result c.in-And.is c.deref-in-And.ensures c.covers_truth-in-And.ensures c.if-covers_truth.false

pub covers-returns-in_default : goal.covers-returns-in_default
covers-returns-in_default t c =
    others_covers (looses_of c.args.loose.now) (scope_of c.args.scope.now) c.args.extent c.args.want c.args.term.now c.in_default.not-Var c.in_default.not-Read c.in_default.not-Unary c.in_default.not-Binary c.in_default.not-Shift c.in_default.not-Cast c.in_default.not-Select

pub covers_truth-returns-in_default : goal.covers_truth-returns-in_default
covers_truth-returns-in_default t c =
    others_truth (looses_of c.args.loose.now) (scope_of c.args.scope.now) c.args.term.now c.in_default.not-Compare c.in_default.not-And c.in_default.not-Or c.in_default.not-Not
