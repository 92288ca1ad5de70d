use Rattle.std.proofs.Common.{◌≡◌, ◌+◌, ◌++◌, ◌∷◌, Some, None, sym, ap, ap₂, ◌∙◌, arith, rules, refl}
use Rattle.std.specs.Prelude.{max}
use Rattle.kernel_tree.specs.declared.ast.Expr.{Expr}
use Rattle.kernel_tree.specs.Plain.{Element, Unary, Operation, Shift, Conversion, Choice, Comparison, Both, Either, Not, name_of, term_of}
use Rattle.kernel_tree.specs.Items.{loop_index, term_size, stream_offset, index_items}
use Rattle.kernel_tree.specs.Limits.{term_depth}
use Rattle.kernel_tree.specs.Typing.{own, first, side_type, index_type}
use Rattle.loop_form.specs.LoopItems.{term_items, gather_item, item}
use Rattle.loop_form.specs.LoopItems as made
use Rattle.loop_form.specs.LoopView.{view, env_of, scope_of}
use Rattle.loop_form.specs.Near.{NearTerm}
use mir.Syntax.{w32, w128}
use mir.Val.{SFits}
use Rattle.std.proofs.lemmas.Int.{to_z-of_z}
use Rattle.loop_form.specs.View.{program}
use Rattle.loop_items.proofs.Appends.{called, value_as, condition_as, one_made, two_made, choice_made, truth_made, both_made, either_made, gathered, stream_made, computed_made, inner_near, inner_fits}
use Rattle.loop_items.proofs.loop_values.+loop_values.Goals as goal

-- ---- a value by its kind

pub list_value-list_read-requires : goal.list_value-list_read-requires
list_value-list_read-requires t c =
    let is : term_of c.args.expr.now ≡ Element (name_of c.in-Read.array) (term_of c.deref.result.now) = ap term_of c.in-Read.is ∙ ap (λ (e : Expr). Element (name_of c.in-Read.array) (term_of e)) (sym c.deref.ensures) in
    called (loop_index (program c.args.at.kernel.now)) t c.args.at.from (term_of c.args.expr.now) c.decreases c.requires.fits c.requires.near (Element (name_of c.in-Read.array) (term_of c.deref.result.now)) (term_depth (term_of c.deref.result.now)) (term_size (loop_index (program c.args.at.kernel.now)) (Element (name_of c.in-Read.array) (term_of c.deref.result.now))) is refl refl

pub list_value-returns-in-Read : goal.list_value-returns-in-Read
list_value-returns-in-Read t c =
    let is : term_of c.args.expr.now ≡ Element (name_of c.in-Read.array) (term_of c.deref.result.now) = ap term_of c.in-Read.is ∙ ap (λ (e : Expr). Element (name_of c.in-Read.array) (term_of e)) (sym c.deref.ensures) in
    record { kept = c.list_read.ensures.kept; items = λ short taken rest. value_as (scope_of (loop_index (program c.args.at.kernel.now)) c.args.names.now taken) c.args.at.mask c.args.at.from (env_of c.args.names.now) (view c.args.listed.now.items.items) c.args.want (Element (name_of c.in-Read.array) (term_of c.deref.result.now)) (term_of c.args.expr.now) (view c.list_read.new.listed.items.items) rest (c.list_read.ensures.items short taken rest) is }

pub list_value-list_unary-requires : goal.list_value-list_unary-requires
list_value-list_unary-requires t c =
    let is : term_of c.args.expr.now ≡ Unary c.in-Unary.op (term_of c.deref-in-Unary.result.now) = ap term_of c.in-Unary.is ∙ ap (λ (e : Expr). Unary c.in-Unary.op (term_of e)) (sym c.deref-in-Unary.ensures) in
    called (loop_index (program c.args.at.kernel.now)) t c.args.at.from (term_of c.args.expr.now) c.decreases c.requires.fits c.requires.near (Unary c.in-Unary.op (term_of c.deref-in-Unary.result.now)) (term_depth (term_of c.deref-in-Unary.result.now)) (term_size (loop_index (program c.args.at.kernel.now)) (Unary c.in-Unary.op (term_of c.deref-in-Unary.result.now))) is refl refl

pub list_value-returns-in-Unary : goal.list_value-returns-in-Unary
list_value-returns-in-Unary t c =
    let is : term_of c.args.expr.now ≡ Unary c.in-Unary.op (term_of c.deref-in-Unary.result.now) = ap term_of c.in-Unary.is ∙ ap (λ (e : Expr). Unary c.in-Unary.op (term_of e)) (sym c.deref-in-Unary.ensures) in
    record { kept = c.list_unary.ensures.kept; items = λ short taken rest. value_as (scope_of (loop_index (program c.args.at.kernel.now)) c.args.names.now taken) c.args.at.mask c.args.at.from (env_of c.args.names.now) (view c.args.listed.now.items.items) c.args.want (Unary c.in-Unary.op (term_of c.deref-in-Unary.result.now)) (term_of c.args.expr.now) (view c.list_unary.new.listed.items.items) rest (c.list_unary.ensures.items short taken rest) is }

pub list_value-list_binary-requires : goal.list_value-list_binary-requires
list_value-list_binary-requires t c =
    let is : term_of c.args.expr.now ≡ Operation c.in-Binary.op (term_of c.deref-in-Binary.result.now) (term_of c.deref-in-Binary-2.result.now) = ap term_of c.in-Binary.is ∙ ap₂ (λ (e f : Expr). Operation c.in-Binary.op (term_of e) (term_of f)) (sym c.deref-in-Binary.ensures) (sym c.deref-in-Binary-2.ensures) in
    called (loop_index (program c.args.at.kernel.now)) t c.args.at.from (term_of c.args.expr.now) c.decreases c.requires.fits c.requires.near (Operation c.in-Binary.op (term_of c.deref-in-Binary.result.now) (term_of c.deref-in-Binary-2.result.now)) (max (term_depth (term_of c.deref-in-Binary.result.now)) (term_depth (term_of c.deref-in-Binary-2.result.now))) (term_size (loop_index (program c.args.at.kernel.now)) (Operation c.in-Binary.op (term_of c.deref-in-Binary.result.now) (term_of c.deref-in-Binary-2.result.now))) is refl refl

pub list_value-returns-in-Binary : goal.list_value-returns-in-Binary
list_value-returns-in-Binary t c =
    let is : term_of c.args.expr.now ≡ Operation c.in-Binary.op (term_of c.deref-in-Binary.result.now) (term_of c.deref-in-Binary-2.result.now) = ap term_of c.in-Binary.is ∙ ap₂ (λ (e f : Expr). Operation c.in-Binary.op (term_of e) (term_of f)) (sym c.deref-in-Binary.ensures) (sym c.deref-in-Binary-2.ensures) in
    record { kept = c.list_binary.ensures.kept; items = λ short taken rest. value_as (scope_of (loop_index (program c.args.at.kernel.now)) c.args.names.now taken) c.args.at.mask c.args.at.from (env_of c.args.names.now) (view c.args.listed.now.items.items) c.args.want (Operation c.in-Binary.op (term_of c.deref-in-Binary.result.now) (term_of c.deref-in-Binary-2.result.now)) (term_of c.args.expr.now) (view c.list_binary.new.listed.items.items) rest (c.list_binary.ensures.items short taken rest) is }

pub list_value-list_shift-requires : goal.list_value-list_shift-requires
list_value-list_shift-requires t c =
    let is : term_of c.args.expr.now ≡ Shift c.in-Shift.left (term_of c.deref-in-Shift.result.now) c.in-Shift.count = ap term_of c.in-Shift.is ∙ ap (λ (e : Expr). Shift c.in-Shift.left (term_of e) c.in-Shift.count) (sym c.deref-in-Shift.ensures) in
    called (loop_index (program c.args.at.kernel.now)) t c.args.at.from (term_of c.args.expr.now) c.decreases c.requires.fits c.requires.near (Shift c.in-Shift.left (term_of c.deref-in-Shift.result.now) c.in-Shift.count) (term_depth (term_of c.deref-in-Shift.result.now)) (term_size (loop_index (program c.args.at.kernel.now)) (Shift c.in-Shift.left (term_of c.deref-in-Shift.result.now) c.in-Shift.count)) is refl refl

pub list_value-returns-in-Shift : goal.list_value-returns-in-Shift
list_value-returns-in-Shift t c =
    let is : term_of c.args.expr.now ≡ Shift c.in-Shift.left (term_of c.deref-in-Shift.result.now) c.in-Shift.count = ap term_of c.in-Shift.is ∙ ap (λ (e : Expr). Shift c.in-Shift.left (term_of e) c.in-Shift.count) (sym c.deref-in-Shift.ensures) in
    record { kept = c.list_shift.ensures.kept; items = λ short taken rest. value_as (scope_of (loop_index (program c.args.at.kernel.now)) c.args.names.now taken) c.args.at.mask c.args.at.from (env_of c.args.names.now) (view c.args.listed.now.items.items) c.args.want (Shift c.in-Shift.left (term_of c.deref-in-Shift.result.now) c.in-Shift.count) (term_of c.args.expr.now) (view c.list_shift.new.listed.items.items) rest (c.list_shift.ensures.items short taken rest) is }

pub list_value-list_cast-requires : goal.list_value-list_cast-requires
list_value-list_cast-requires t c =
    let is : term_of c.args.expr.now ≡ Conversion (term_of c.deref-in-Cast.result.now) c.in-Cast.ty = ap term_of c.in-Cast.is ∙ ap (λ (e : Expr). Conversion (term_of e) c.in-Cast.ty) (sym c.deref-in-Cast.ensures) in
    called (loop_index (program c.args.at.kernel.now)) t c.args.at.from (term_of c.args.expr.now) c.decreases c.requires.fits c.requires.near (Conversion (term_of c.deref-in-Cast.result.now) c.in-Cast.ty) (term_depth (term_of c.deref-in-Cast.result.now)) (term_size (loop_index (program c.args.at.kernel.now)) (Conversion (term_of c.deref-in-Cast.result.now) c.in-Cast.ty)) is refl refl

pub list_value-returns-in-Cast : goal.list_value-returns-in-Cast
list_value-returns-in-Cast t c =
    let is : term_of c.args.expr.now ≡ Conversion (term_of c.deref-in-Cast.result.now) c.in-Cast.ty = ap term_of c.in-Cast.is ∙ ap (λ (e : Expr). Conversion (term_of e) c.in-Cast.ty) (sym c.deref-in-Cast.ensures) in
    record { kept = c.list_cast.ensures.kept; items = λ short taken rest. value_as (scope_of (loop_index (program c.args.at.kernel.now)) c.args.names.now taken) c.args.at.mask c.args.at.from (env_of c.args.names.now) (view c.args.listed.now.items.items) c.args.want (Conversion (term_of c.deref-in-Cast.result.now) c.in-Cast.ty) (term_of c.args.expr.now) (view c.list_cast.new.listed.items.items) rest (c.list_cast.ensures.items short taken rest) is }

pub list_value-list_select-requires : goal.list_value-list_select-requires
list_value-list_select-requires t c =
    let is : term_of c.args.expr.now ≡ Choice (term_of c.deref-in-Select-3.result.now) (term_of c.deref-in-Select.result.now) (term_of c.deref-in-Select-2.result.now) = ap term_of c.in-Select.is ∙ ap₂ (λ (e f : Expr). Choice (term_of c.in-Select.cond.value) (term_of e) (term_of f)) (sym c.deref-in-Select.ensures) (sym c.deref-in-Select-2.ensures) ∙ ap (λ (e : Expr). Choice (term_of e) (term_of c.deref-in-Select.result.now) (term_of c.deref-in-Select-2.result.now)) (sym c.deref-in-Select-3.ensures) in
    called (loop_index (program c.args.at.kernel.now)) t c.args.at.from (term_of c.args.expr.now) c.decreases c.requires.fits c.requires.near (Choice (term_of c.deref-in-Select-3.result.now) (term_of c.deref-in-Select.result.now) (term_of c.deref-in-Select-2.result.now)) (max (term_depth (term_of c.deref-in-Select-3.result.now)) (max (term_depth (term_of c.deref-in-Select.result.now)) (term_depth (term_of c.deref-in-Select-2.result.now)))) (term_size (loop_index (program c.args.at.kernel.now)) (Choice (term_of c.deref-in-Select-3.result.now) (term_of c.deref-in-Select.result.now) (term_of c.deref-in-Select-2.result.now))) is refl refl

pub list_value-returns-in-Select : goal.list_value-returns-in-Select
list_value-returns-in-Select t c =
    let is : term_of c.args.expr.now ≡ Choice (term_of c.deref-in-Select-3.result.now) (term_of c.deref-in-Select.result.now) (term_of c.deref-in-Select-2.result.now) = ap term_of c.in-Select.is ∙ ap₂ (λ (e f : Expr). Choice (term_of c.in-Select.cond.value) (term_of e) (term_of f)) (sym c.deref-in-Select.ensures) (sym c.deref-in-Select-2.ensures) ∙ ap (λ (e : Expr). Choice (term_of e) (term_of c.deref-in-Select.result.now) (term_of c.deref-in-Select-2.result.now)) (sym c.deref-in-Select-3.ensures) in
    record { kept = c.list_select.ensures.kept; items = λ short taken rest. value_as (scope_of (loop_index (program c.args.at.kernel.now)) c.args.names.now taken) c.args.at.mask c.args.at.from (env_of c.args.names.now) (view c.args.listed.now.items.items) c.args.want (Choice (term_of c.deref-in-Select-3.result.now) (term_of c.deref-in-Select.result.now) (term_of c.deref-in-Select-2.result.now)) (term_of c.args.expr.now) (view c.list_select.new.listed.items.items) rest (c.list_select.ensures.items short taken rest) is }

-- ---- a condition by its kind

pub list_condition-list_compared-requires : goal.list_condition-list_compared-requires
list_condition-list_compared-requires t c =
    let is : term_of c.args.expr.now ≡ Comparison c.in-Compare.op (term_of c.deref.result.now) (term_of c.deref-in-Compare.result.now) = ap term_of c.in-Compare.is ∙ ap₂ (λ (e f : Expr). Comparison c.in-Compare.op (term_of e) (term_of f)) (sym c.deref.ensures) (sym c.deref-in-Compare.ensures) in
    called (loop_index (program c.args.at.kernel.now)) t c.args.at.from (term_of c.args.expr.now) c.decreases c.requires.fits c.requires.near (Comparison c.in-Compare.op (term_of c.deref.result.now) (term_of c.deref-in-Compare.result.now)) (max (term_depth (term_of c.deref.result.now)) (term_depth (term_of c.deref-in-Compare.result.now))) (term_size (loop_index (program c.args.at.kernel.now)) (Comparison c.in-Compare.op (term_of c.deref.result.now) (term_of c.deref-in-Compare.result.now))) is refl refl

pub list_condition-returns-in-Compare : goal.list_condition-returns-in-Compare
list_condition-returns-in-Compare t c =
    let is : term_of c.args.expr.now ≡ Comparison c.in-Compare.op (term_of c.deref.result.now) (term_of c.deref-in-Compare.result.now) = ap term_of c.in-Compare.is ∙ ap₂ (λ (e f : Expr). Comparison c.in-Compare.op (term_of e) (term_of f)) (sym c.deref.ensures) (sym c.deref-in-Compare.ensures) in
    record { kept = c.list_compared.ensures.kept; items = λ short taken rest. condition_as (scope_of (loop_index (program c.args.at.kernel.now)) c.args.names.now taken) c.args.at.mask c.args.at.from (env_of c.args.names.now) (view c.args.listed.now.items.items) (Comparison c.in-Compare.op (term_of c.deref.result.now) (term_of c.deref-in-Compare.result.now)) (term_of c.args.expr.now) (view c.list_compared.new.listed.items.items) rest (c.list_compared.ensures.items short taken rest) is }

pub list_condition-list_and-requires : goal.list_condition-list_and-requires
list_condition-list_and-requires t c =
    let is : term_of c.args.expr.now ≡ Both (term_of c.deref-in-And.result.now) (term_of c.deref-in-And-2.result.now) = ap term_of c.in-And.is ∙ ap₂ (λ (e f : Expr). Both (term_of e) (term_of f)) (sym c.deref-in-And.ensures) (sym c.deref-in-And-2.ensures) in
    called (loop_index (program c.args.at.kernel.now)) t c.args.at.from (term_of c.args.expr.now) c.decreases c.requires.fits c.requires.near (Both (term_of c.deref-in-And.result.now) (term_of c.deref-in-And-2.result.now)) (max (term_depth (term_of c.deref-in-And.result.now)) (term_depth (term_of c.deref-in-And-2.result.now))) (term_size (loop_index (program c.args.at.kernel.now)) (Both (term_of c.deref-in-And.result.now) (term_of c.deref-in-And-2.result.now))) is refl refl

pub list_condition-returns-in-And : goal.list_condition-returns-in-And
list_condition-returns-in-And t c =
    let is : term_of c.args.expr.now ≡ Both (term_of c.deref-in-And.result.now) (term_of c.deref-in-And-2.result.now) = ap term_of c.in-And.is ∙ ap₂ (λ (e f : Expr). Both (term_of e) (term_of f)) (sym c.deref-in-And.ensures) (sym c.deref-in-And-2.ensures) in
    record { kept = c.list_and.ensures.kept; items = λ short taken rest. condition_as (scope_of (loop_index (program c.args.at.kernel.now)) c.args.names.now taken) c.args.at.mask c.args.at.from (env_of c.args.names.now) (view c.args.listed.now.items.items) (Both (term_of c.deref-in-And.result.now) (term_of c.deref-in-And-2.result.now)) (term_of c.args.expr.now) (view c.list_and.new.listed.items.items) rest (c.list_and.ensures.items short taken rest) is }

pub list_condition-list_or-requires : goal.list_condition-list_or-requires
list_condition-list_or-requires t c =
    let is : term_of c.args.expr.now ≡ Either (term_of c.deref-in-Or.result.now) (term_of c.deref-in-Or-2.result.now) = ap term_of c.in-Or.is ∙ ap₂ (λ (e f : Expr). Either (term_of e) (term_of f)) (sym c.deref-in-Or.ensures) (sym c.deref-in-Or-2.ensures) in
    called (loop_index (program c.args.at.kernel.now)) t c.args.at.from (term_of c.args.expr.now) c.decreases c.requires.fits c.requires.near (Either (term_of c.deref-in-Or.result.now) (term_of c.deref-in-Or-2.result.now)) (max (term_depth (term_of c.deref-in-Or.result.now)) (term_depth (term_of c.deref-in-Or-2.result.now))) (term_size (loop_index (program c.args.at.kernel.now)) (Either (term_of c.deref-in-Or.result.now) (term_of c.deref-in-Or-2.result.now))) is refl refl

pub list_condition-returns-in-Or : goal.list_condition-returns-in-Or
list_condition-returns-in-Or t c =
    let is : term_of c.args.expr.now ≡ Either (term_of c.deref-in-Or.result.now) (term_of c.deref-in-Or-2.result.now) = ap term_of c.in-Or.is ∙ ap₂ (λ (e f : Expr). Either (term_of e) (term_of f)) (sym c.deref-in-Or.ensures) (sym c.deref-in-Or-2.ensures) in
    record { kept = c.list_or.ensures.kept; items = λ short taken rest. condition_as (scope_of (loop_index (program c.args.at.kernel.now)) c.args.names.now taken) c.args.at.mask c.args.at.from (env_of c.args.names.now) (view c.args.listed.now.items.items) (Either (term_of c.deref-in-Or.result.now) (term_of c.deref-in-Or-2.result.now)) (term_of c.args.expr.now) (view c.list_or.new.listed.items.items) rest (c.list_or.ensures.items short taken rest) is }

pub list_condition-list_not-requires : goal.list_condition-list_not-requires
list_condition-list_not-requires t c =
    let is : term_of c.args.expr.now ≡ Not (term_of c.deref-in-Not.result.now) = ap term_of c.in-Not.is ∙ ap (λ (e : Expr). Not (term_of e)) (sym c.deref-in-Not.ensures) in
    called (loop_index (program c.args.at.kernel.now)) t c.args.at.from (term_of c.args.expr.now) c.decreases c.requires.fits c.requires.near (Not (term_of c.deref-in-Not.result.now)) (term_depth (term_of c.deref-in-Not.result.now)) (term_size (loop_index (program c.args.at.kernel.now)) (Not (term_of c.deref-in-Not.result.now))) is refl refl

pub list_condition-returns-in-Not : goal.list_condition-returns-in-Not
list_condition-returns-in-Not t c =
    let is : term_of c.args.expr.now ≡ Not (term_of c.deref-in-Not.result.now) = ap term_of c.in-Not.is ∙ ap (λ (e : Expr). Not (term_of e)) (sym c.deref-in-Not.ensures) in
    record { kept = c.list_not.ensures.kept; items = λ short taken rest. condition_as (scope_of (loop_index (program c.args.at.kernel.now)) c.args.names.now taken) c.args.at.mask c.args.at.from (env_of c.args.names.now) (view c.args.listed.now.items.items) (Not (term_of c.deref-in-Not.result.now)) (term_of c.args.expr.now) (view c.list_not.new.listed.items.items) rest (c.list_not.ensures.items short taken rest) is }

-- ---- operands

pub list_operand-list_value-requires : goal.list_operand-list_value-requires
list_operand-list_value-requires t c = (omega arith, (c.requires.fits, c.requires.near))

pub list_operand-source-requires : goal.list_operand-source-requires
list_operand-source-requires t c = c.requires.fits

pub list_operand-returns : goal.list_operand-returns
list_operand-returns t c = record { source = c.source.ensures; kept = c.list_value.ensures.kept; items = c.list_value.ensures.items }

pub list_truth-list_condition-requires : goal.list_truth-list_condition-requires
list_truth-list_condition-requires t c = (omega arith, (c.requires.fits, c.requires.near))

pub list_truth-condition_item-requires : goal.list_truth-condition_item-requires
list_truth-condition_item-requires t c = c.requires.fits

pub list_truth-returns : goal.list_truth-returns
list_truth-returns t c = record { item = c.condition_item.ensures; kept = c.list_condition.ensures.kept; items = c.list_condition.ensures.items }

-- ---- one operand

pub list_unary-list_operand-value-requires : goal.list_unary-list_operand-value-requires
list_unary-list_operand-value-requires t c = (omega arith, (omega arith, c.requires.near))

pub list_unary-expr_size-requires : goal.list_unary-expr_size-requires
list_unary-expr_size-requires t c = omega arith

pub list_unary-returns : goal.list_unary-returns
list_unary-returns t c = record { kept = λ short. c.list_operand-value.ensures.kept (c.append.ensures.kept short); items = λ short taken rest. one_made (scope_of (loop_index (program c.args.at.kernel.now)) c.args.names.now taken) c.args.at.mask c.args.at.from (env_of c.args.names.now) (view c.args.listed.now.items.items) c.args.want c.args.want (λ u y. made.Unary c.args.op u y) (term_of c.args.arg.now) c.expr_size.result c.list_operand-value.result (view c.list_operand-value.new.listed.items.items) (view c.append.new.listed.items.items) rest (c.append.ensures.items short rest) (c.list_operand-value.ensures.items (c.append.ensures.kept short) taken) c.expr_size.ensures c.list_operand-value.ensures.source refl }

pub list_shift-list_operand-value-requires : goal.list_shift-list_operand-value-requires
list_shift-list_operand-value-requires t c = (omega arith, (omega arith, c.requires.near))

pub list_shift-expr_size-requires : goal.list_shift-expr_size-requires
list_shift-expr_size-requires t c = omega arith

pub list_shift-returns : goal.list_shift-returns
list_shift-returns t c =
    let range : SFits w128 c.args.count.now = search rules in
    record { kept = λ short. c.list_operand-value.ensures.kept (c.append.ensures.kept short); items = λ short taken rest. one_made (scope_of (loop_index (program c.args.at.kernel.now)) c.args.names.now taken) c.args.at.mask c.args.at.from (env_of c.args.names.now) (view c.args.listed.now.items.items) c.args.want c.args.want (λ u y. made.Shift c.args.left c.args.count.now u y) (term_of c.args.arg.now) c.expr_size.result c.list_operand-value.result (view c.list_operand-value.new.listed.items.items) (view c.append.new.listed.items.items) rest (c.append.ensures.items short rest ∙ ap (λ z. (view c.list_operand-value.new.listed.items.items) ++ item (c.args.at.from + c.expr_size.result) c.args.at.mask (made.Shift c.args.left z c.args.want c.list_operand-value.result) ∷ rest) (to_z-of_z w128 c.args.count.now range)) (c.list_operand-value.ensures.items (c.append.ensures.kept short) taken) c.expr_size.ensures c.list_operand-value.ensures.source refl }

pub list_cast-list_operand-value-requires : goal.list_cast-list_operand-value-requires
list_cast-list_operand-value-requires t c = (omega arith, (omega arith, c.requires.near))

pub list_cast-expr_size-requires : goal.list_cast-expr_size-requires
list_cast-expr_size-requires t c = omega arith

pub list_cast-returns : goal.list_cast-returns
list_cast-returns t c = record { kept = λ short. c.list_operand-value.ensures.kept (c.append.ensures.kept short); items = λ short taken rest. one_made (scope_of (loop_index (program c.args.at.kernel.now)) c.args.names.now taken) c.args.at.mask c.args.at.from (env_of c.args.names.now) (view c.args.listed.now.items.items) c.own_type-own.result (own (scope_of (loop_index (program c.args.at.kernel.now)) c.args.names.now taken) (term_of c.args.arg.now)) (λ u y. made.Cast u c.args.ty y) (term_of c.args.arg.now) c.expr_size.result c.list_operand-value.result (view c.list_operand-value.new.listed.items.items) (view c.append.new.listed.items.items) rest (c.append.ensures.items short rest) (c.list_operand-value.ensures.items (c.append.ensures.kept short) taken) c.expr_size.ensures c.list_operand-value.ensures.source (c.own_type-own.ensures (loop_index (program c.args.at.kernel.now)) taken) }

-- ---- two operands

pub list_binary-list_operand-first-requires : goal.list_binary-list_operand-first-requires
list_binary-list_operand-first-requires t c = (omega arith, (omega arith, c.requires.near.0))

pub list_binary-list_operand-second-requires : goal.list_binary-list_operand-second-requires
list_binary-list_operand-second-requires t c = (omega arith, (omega arith, c.requires.near.1))

pub list_binary-expr_size-requires : goal.list_binary-expr_size-requires
list_binary-expr_size-requires t c = omega arith

pub list_binary-expr_size-requires-2 : goal.list_binary-expr_size-requires-2
list_binary-expr_size-requires-2 t c = omega arith

pub list_binary-returns : goal.list_binary-returns
list_binary-returns t c = record { kept = λ short. c.list_operand-first.ensures.kept (c.list_operand-second.ensures.kept (c.append.ensures.kept short)); items = λ short taken rest. two_made (scope_of (loop_index (program c.args.at.kernel.now)) c.args.names.now taken) c.args.at.mask c.args.at.from (env_of c.args.names.now) (view c.args.listed.now.items.items) c.args.want c.args.want (λ u x y. made.Binary c.args.op u x y) (term_of c.args.left.now) (term_of c.args.right.now) c.expr_size.result c.expr_size-2.result c.list_operand-first.result c.list_operand-second.result (view c.list_operand-first.new.listed.items.items) (view c.list_operand-second.new.listed.items.items) (view c.append.new.listed.items.items) rest (c.append.ensures.items short rest) (c.list_operand-second.ensures.items (c.append.ensures.kept short) taken) (c.list_operand-first.ensures.items (c.list_operand-second.ensures.kept (c.append.ensures.kept short)) taken) c.expr_size.ensures c.expr_size-2.ensures c.list_operand-first.ensures.source c.list_operand-second.ensures.source refl }

pub list_compared-list_operand-first-requires : goal.list_compared-list_operand-first-requires
list_compared-list_operand-first-requires t c = (omega arith, (omega arith, c.requires.near.0))

pub list_compared-list_operand-second-requires : goal.list_compared-list_operand-second-requires
list_compared-list_operand-second-requires t c = (omega arith, (omega arith, c.requires.near.1))

pub list_compared-expr_size-requires : goal.list_compared-expr_size-requires
list_compared-expr_size-requires t c = omega arith

pub list_compared-expr_size-requires-2 : goal.list_compared-expr_size-requires-2
list_compared-expr_size-requires-2 t c = omega arith

pub list_compared-returns : goal.list_compared-returns
list_compared-returns t c = record { kept = λ short. c.list_operand-first.ensures.kept (c.list_operand-second.ensures.kept (c.append.ensures.kept short)); items = λ short taken rest. two_made (scope_of (loop_index (program c.args.at.kernel.now)) c.args.names.now taken) c.args.at.mask c.args.at.from (env_of c.args.names.now) (view c.args.listed.now.items.items) c.first_type-want.result (side_type (scope_of (loop_index (program c.args.at.kernel.now)) c.args.names.now taken) (term_of c.args.left.now) (term_of c.args.right.now)) (λ u x y. made.Compare c.args.op u x y) (term_of c.args.left.now) (term_of c.args.right.now) c.expr_size.result c.expr_size-2.result c.list_operand-first.result c.list_operand-second.result (view c.list_operand-first.new.listed.items.items) (view c.list_operand-second.new.listed.items.items) (view c.append.new.listed.items.items) rest (c.append.ensures.items short rest) (c.list_operand-second.ensures.items (c.append.ensures.kept short) taken) (c.list_operand-first.ensures.items (c.list_operand-second.ensures.kept (c.append.ensures.kept short)) taken) c.expr_size.ensures c.expr_size-2.ensures c.list_operand-first.ensures.source c.list_operand-second.ensures.source (c.first_type-want.ensures ∙ ap₂ first (c.own_type.ensures (loop_index (program c.args.at.kernel.now)) taken) (c.own_type-2.ensures (loop_index (program c.args.at.kernel.now)) taken)) }

-- ---- `select`

pub list_select-list_operand-first-requires : goal.list_select-list_operand-first-requires
list_select-list_operand-first-requires t c = (omega arith, (omega arith, c.requires.near.0))

pub list_select-list_operand-second-requires : goal.list_select-list_operand-second-requires
list_select-list_operand-second-requires t c = (omega arith, (omega arith, c.requires.near.1.0))

pub list_select-list_truth-requires : goal.list_select-list_truth-requires
list_select-list_truth-requires t c = (omega arith, (omega arith, c.requires.near.1.1))

pub list_select-expr_size-requires : goal.list_select-expr_size-requires
list_select-expr_size-requires t c = omega arith

pub list_select-expr_size-requires-2 : goal.list_select-expr_size-requires-2
list_select-expr_size-requires-2 t c = omega arith

pub list_select-expr_size-requires-3 : goal.list_select-expr_size-requires-3
list_select-expr_size-requires-3 t c = omega arith

pub list_select-returns : goal.list_select-returns
list_select-returns t c = record { kept = λ short. c.list_operand-first.ensures.kept (c.list_operand-second.ensures.kept (c.list_truth.ensures.kept (c.append.ensures.kept short))); items = λ short taken rest. choice_made (scope_of (loop_index (program c.args.at.kernel.now)) c.args.names.now taken) c.args.at.mask c.args.at.from (env_of c.args.names.now) (view c.args.listed.now.items.items) c.args.want (term_of c.args.cond.now) (term_of c.args.yes.now) (term_of c.args.no.now) c.expr_size.result c.expr_size-2.result c.expr_size-3.result c.list_truth.result c.list_operand-first.result c.list_operand-second.result (view c.list_operand-first.new.listed.items.items) (view c.list_operand-second.new.listed.items.items) (view c.list_truth.new.listed.items.items) (view c.append.new.listed.items.items) rest (c.append.ensures.items short rest) (c.list_truth.ensures.items (c.append.ensures.kept short) taken) (c.list_operand-second.ensures.items (c.list_truth.ensures.kept (c.append.ensures.kept short)) taken) (c.list_operand-first.ensures.items (c.list_operand-second.ensures.kept (c.list_truth.ensures.kept (c.append.ensures.kept short))) taken) c.expr_size.ensures c.expr_size-2.ensures c.expr_size-3.ensures c.list_truth.ensures.item c.list_operand-first.ensures.source c.list_operand-second.ensures.source }

-- ---- conditions

pub list_and-list_truth-first-requires : goal.list_and-list_truth-first-requires
list_and-list_truth-first-requires t c = (omega arith, (omega arith, c.requires.near.0))

pub list_and-list_truth-second-requires : goal.list_and-list_truth-second-requires
list_and-list_truth-second-requires t c = (omega arith, (omega arith, c.requires.near.1))

pub list_and-expr_size-requires : goal.list_and-expr_size-requires
list_and-expr_size-requires t c = omega arith

pub list_and-expr_size-requires-2 : goal.list_and-expr_size-requires-2
list_and-expr_size-requires-2 t c = omega arith

pub list_or-list_truth-first-requires : goal.list_or-list_truth-first-requires
list_or-list_truth-first-requires t c = (omega arith, (omega arith, c.requires.near.0))

pub list_or-list_truth-second-requires : goal.list_or-list_truth-second-requires
list_or-list_truth-second-requires t c = (omega arith, (omega arith, c.requires.near.1))

pub list_or-expr_size-requires : goal.list_or-expr_size-requires
list_or-expr_size-requires t c = omega arith

pub list_or-expr_size-requires-2 : goal.list_or-expr_size-requires-2
list_or-expr_size-requires-2 t c = omega arith

pub list_and-returns : goal.list_and-returns
list_and-returns t c = record { kept = λ short. c.list_truth-first.ensures.kept (c.list_truth-second.ensures.kept (c.append.ensures.kept short)); items = λ short taken rest. both_made (scope_of (loop_index (program c.args.at.kernel.now)) c.args.names.now taken) c.args.at.mask c.args.at.from (env_of c.args.names.now) (view c.args.listed.now.items.items) (term_of c.args.left.now) (term_of c.args.right.now) c.expr_size.result c.expr_size-2.result c.list_truth-first.result c.list_truth-second.result (view c.list_truth-first.new.listed.items.items) (view c.list_truth-second.new.listed.items.items) (view c.append.new.listed.items.items) rest (c.append.ensures.items short rest) (c.list_truth-second.ensures.items (c.append.ensures.kept short) taken) (c.list_truth-first.ensures.items (c.list_truth-second.ensures.kept (c.append.ensures.kept short)) taken) c.expr_size.ensures c.expr_size-2.ensures c.list_truth-first.ensures.item c.list_truth-second.ensures.item }

pub list_or-returns : goal.list_or-returns
list_or-returns t c = record { kept = λ short. c.list_truth-first.ensures.kept (c.append.ensures.kept (c.list_truth-second.ensures.kept (c.append-2.ensures.kept short))); items = λ short taken rest. either_made (scope_of (loop_index (program c.args.at.kernel.now)) c.args.names.now taken) c.args.at.mask c.args.at.from (env_of c.args.names.now) (view c.args.listed.now.items.items) (term_of c.args.left.now) (term_of c.args.right.now) c.expr_size.result c.expr_size-2.result c.list_truth-first.result c.list_truth-second.result (view c.list_truth-first.new.listed.items.items) (view c.append.new.listed.items.items) (view c.list_truth-second.new.listed.items.items) (view c.append-2.new.listed.items.items) rest (c.append-2.ensures.items short rest) (c.list_truth-second.ensures.items (c.append-2.ensures.kept short) taken) (c.append.ensures.items (c.list_truth-second.ensures.kept (c.append-2.ensures.kept short))) (c.list_truth-first.ensures.items (c.append.ensures.kept (c.list_truth-second.ensures.kept (c.append-2.ensures.kept short))) taken) c.expr_size.ensures c.expr_size-2.ensures c.list_truth-first.ensures.item c.list_truth-second.ensures.item }

pub list_not-list_truth-first-requires : goal.list_not-list_truth-first-requires
list_not-list_truth-first-requires t c = (omega arith, (omega arith, c.requires.near))

pub list_not-expr_size-requires : goal.list_not-expr_size-requires
list_not-expr_size-requires t c = omega arith

pub list_not-returns : goal.list_not-returns
list_not-returns t c = record { kept = λ short. c.list_truth-first.ensures.kept (c.append.ensures.kept short); items = λ short taken rest. truth_made (scope_of (loop_index (program c.args.at.kernel.now)) c.args.names.now taken) c.args.at.mask c.args.at.from (env_of c.args.names.now) (view c.args.listed.now.items.items) made.Not (term_of c.args.arg.now) c.expr_size.result c.list_truth-first.result (view c.list_truth-first.new.listed.items.items) (view c.append.new.listed.items.items) rest (c.append.ensures.items short rest) (c.list_truth-first.ensures.items (c.append.ensures.kept short) taken) c.expr_size.ensures c.list_truth-first.ensures.item }

-- ---- reads

pub list_read-offset-requires : goal.list_read-offset-requires
list_read-offset-requires t c = c.requires.near.0

pub list_read-list_gather-requires : goal.list_read-list_gather-requires
list_read-list_gather-requires t c =
    let none : stream_offset (loop_index (program c.args.at.kernel.now)) (term_of c.args.index.now) ≡ None = sym c.offset.ensures ∙ c.in-None.is in
    (omega arith, (inner_fits (stream_offset (loop_index (program c.args.at.kernel.now)) (term_of c.args.index.now)) c.args.at.from (term_size (loop_index (program c.args.at.kernel.now)) (term_of c.args.index.now)) none c.requires.fits, inner_near (stream_offset (loop_index (program c.args.at.kernel.now)) (term_of c.args.index.now)) (NearTerm (loop_index (program c.args.at.kernel.now)) (term_of c.args.index.now)) none c.requires.near.1))

pub list_read-returns-in-None : goal.list_read-returns-in-None
list_read-returns-in-None t c =
    let none : stream_offset (loop_index (program c.args.at.kernel.now)) (term_of c.args.index.now) ≡ None = sym c.offset.ensures ∙ c.in-None.is in
    record { kept = c.list_gather.ensures.kept; items = λ short taken rest. computed_made (scope_of (loop_index (program c.args.at.kernel.now)) c.args.names.now taken) c.args.at.mask c.args.at.from (env_of c.args.names.now) (view c.args.listed.now.items.items) (stream_offset (loop_index (program c.args.at.kernel.now)) (term_of c.args.index.now)) (term_size (loop_index (program c.args.at.kernel.now)) (term_of c.args.index.now)) (name_of c.args.array.now) (λ q. term_items (scope_of (loop_index (program c.args.at.kernel.now)) c.args.names.now taken) (index_type (scope_of (loop_index (program c.args.at.kernel.now)) c.args.names.now taken) (term_of c.args.index.now)) c.args.at.mask c.args.at.from (env_of c.args.names.now) (term_of c.args.index.now) (gather_item (scope_of (loop_index (program c.args.at.kernel.now)) c.args.names.now taken) c.args.at.mask c.args.at.from q (env_of c.args.names.now) (name_of c.args.array.now) (term_of c.args.index.now) ∷ rest)) (view c.list_gather.new.listed.items.items) rest none (c.list_gather.ensures.items short taken rest) }

pub list_read-returns-in-Some : goal.list_read-returns-in-Some
list_read-returns-in-Some t c =
    let some : stream_offset (loop_index (program c.args.at.kernel.now)) (term_of c.args.index.now) ≡ Some c.in-Some.offset = sym c.offset.ensures ∙ c.in-Some.is in
    let range : SFits w32 c.in-Some.offset = search rules in
    record { kept = c.append.ensures.kept; items = λ short taken rest. stream_made (scope_of (loop_index (program c.args.at.kernel.now)) c.args.names.now taken) c.args.at.mask c.args.at.from (env_of c.args.names.now) (view c.args.listed.now.items.items) (stream_offset (loop_index (program c.args.at.kernel.now)) (term_of c.args.index.now)) (term_size (loop_index (program c.args.at.kernel.now)) (term_of c.args.index.now)) (name_of c.args.array.now) c.text-array.result.now c.operand_of.result c.array_type_of.result c.in-Some.offset (term_items (scope_of (loop_index (program c.args.at.kernel.now)) c.args.names.now taken) (index_type (scope_of (loop_index (program c.args.at.kernel.now)) c.args.names.now taken) (term_of c.args.index.now)) c.args.at.mask c.args.at.from (env_of c.args.names.now) (term_of c.args.index.now) (gather_item (scope_of (loop_index (program c.args.at.kernel.now)) c.args.names.now taken) c.args.at.mask c.args.at.from (c.args.at.from + index_items (loop_index (program c.args.at.kernel.now)) (term_of c.args.index.now)) (env_of c.args.names.now) (name_of c.args.array.now) (term_of c.args.index.now) ∷ rest)) (view c.append.new.listed.items.items) rest some (c.append.ensures.items short rest ∙ ap (λ z. (view c.args.listed.now.items.items) ++ item c.args.at.from c.args.at.mask (made.Load c.text-array.result.now c.operand_of.result c.array_type_of.result z) ∷ rest) (to_z-of_z w32 c.in-Some.offset range)) c.text-array.ensures c.operand_of.ensures c.array_type_of.ensures }

pub list_gather-source-requires : goal.list_gather-source-requires
list_gather-source-requires t c = omega arith

pub list_gather-list_value-requires : goal.list_gather-list_value-requires
list_gather-list_value-requires t c = (omega arith, (omega arith, c.requires.near))

pub list_gather-expr_size-requires : goal.list_gather-expr_size-requires
list_gather-expr_size-requires t c = omega arith

pub list_gather-returns : goal.list_gather-returns
list_gather-returns t c = record { kept = λ short. c.list_value.ensures.kept (c.append.ensures.kept short); items = λ short taken rest. gathered (scope_of (loop_index (program c.args.at.kernel.now)) c.args.names.now taken) c.args.at.mask c.args.at.from (env_of c.args.names.now) (view c.args.listed.now.items.items) (name_of c.args.array.now) c.text-array.result.now (term_of c.args.index.now) c.operand_of.result c.source.result c.array_type_of.result c.index_type_of-want.result c.index_source_of.result c.type_reach.result c.expr_size.result (view c.list_value.new.listed.items.items) (view c.append.new.listed.items.items) rest (c.append.ensures.items short rest) (c.list_value.ensures.items (c.append.ensures.kept short) taken) c.expr_size.ensures c.text-array.ensures c.operand_of.ensures c.array_type_of.ensures c.type_reach.ensures (c.index_source_of.ensures (loop_index (program c.args.at.kernel.now)) taken) c.source.ensures (c.index_type_of-want.ensures (loop_index (program c.args.at.kernel.now)) taken) }

-- ---- sums that fit

pub list_and-overflow_add-next : goal.list_and-overflow_add-next
list_and-overflow_add-next t c = record { fits = omega arith }

pub list_and-overflow_add-next-2 : goal.list_and-overflow_add-next-2
list_and-overflow_add-next-2 t c = record { fits = omega arith }

pub list_binary-overflow_add-next : goal.list_binary-overflow_add-next
list_binary-overflow_add-next t c = record { fits = omega arith }

pub list_binary-overflow_add-next-2 : goal.list_binary-overflow_add-next-2
list_binary-overflow_add-next-2 t c = record { fits = omega arith }

pub list_compared-overflow_add-next : goal.list_compared-overflow_add-next
list_compared-overflow_add-next t c = record { fits = omega arith }

pub list_compared-overflow_add-next-2 : goal.list_compared-overflow_add-next-2
list_compared-overflow_add-next-2 t c = record { fits = omega arith }

pub list_cast-overflow_add-at : goal.list_cast-overflow_add-at
list_cast-overflow_add-at t c = record { fits = omega arith }

pub list_gather-overflow_add-at : goal.list_gather-overflow_add-at
list_gather-overflow_add-at t c = record { fits = omega arith }

pub list_not-overflow_add-at : goal.list_not-overflow_add-at
list_not-overflow_add-at t c = record { fits = omega arith }

pub list_or-overflow_add-mark : goal.list_or-overflow_add-mark
list_or-overflow_add-mark t c = record { fits = omega arith }

pub list_or-overflow_add-mark-2 : goal.list_or-overflow_add-mark-2
list_or-overflow_add-mark-2 t c = record { fits = omega arith }

pub list_or-overflow_add-mark-3 : goal.list_or-overflow_add-mark-3
list_or-overflow_add-mark-3 t c = record { fits = omega arith }

pub list_or-overflow_add-mark-4 : goal.list_or-overflow_add-mark-4
list_or-overflow_add-mark-4 t c = record { fits = omega arith }

pub list_select-overflow_add-last : goal.list_select-overflow_add-last
list_select-overflow_add-last t c = record { fits = omega arith }

pub list_select-overflow_add-last-2 : goal.list_select-overflow_add-last-2
list_select-overflow_add-last-2 t c = record { fits = omega arith }

pub list_select-overflow_add-next : goal.list_select-overflow_add-next
list_select-overflow_add-next t c = record { fits = omega arith }

pub list_shift-overflow_add-at : goal.list_shift-overflow_add-at
list_shift-overflow_add-at t c = record { fits = omega arith }

pub list_unary-overflow_add-at : goal.list_unary-overflow_add-at
list_unary-overflow_add-at t c = record { fits = omega arith }
