use Rattle.std.proofs.Common.{◌≡◌, ℕ, ◌+◌, List, sym, ap, ap₂, ◌∙◌, arith, refl}
use Rattle.arrayvec.specs.ArrayVec.{array_vec_len}
use Rattle.kernel_tree.specs.declared.ast.Expr.{Expr}
use Rattle.kernel_tree.specs.Plain.{Literal, Variable, Element, Unary, Operation, Shift, Conversion, Choice, Comparison, Both, Either, Not, name_of, term_of}
use Rattle.kernel_tree.specs.Items.{loop_index, term_size, stream_offset, index_items}
use Rattle.kernel_tree.specs.Limits.{term_depth}
use Rattle.std.specs.Prelude.{max}
use Rattle.loop_form.specs.Entries.{IsRead, IsPlain, term_entries}
use Rattle.loop_form.specs.View.{program, entries_view}
use Rattle.loop_lists.proofs.Walks.{called, has_place, entries_of_same_term, size_of_same_term, computed, streamed, stream_read, computed_read, one_operand, two_operands, either_listed, choice_listed}
use Rattle.loop_lists.proofs.walk.+terms.Goals as goal

-- ---- an expression by its kind

pub list_expr-put-requires : goal.list_expr-put-requires
list_expr-put-requires t c =
    let is : term_of c.args.expr.now ≡ Literal c.in-Lit.value = ap term_of c.in-Lit.is in
    has_place (loop_index (program c.args.at.kernel.now)) t c.args.at.from (array_vec_len c.args.entries.now) (term_of c.args.expr.now) c.decreases c.requires.following c.requires.fits (Literal c.in-Lit.value) is refl

pub list_expr-returns-in-Lit-clause-len : goal.list_expr-returns-in-Lit-clause-len
list_expr-returns-in-Lit-clause-len t c =
    let is : term_of c.args.expr.now ≡ Literal c.in-Lit.value = ap term_of c.in-Lit.is in
    size_of_same_term (loop_index (program c.args.at.kernel.now)) (Literal c.in-Lit.value) (term_of c.args.expr.now) (array_vec_len c.args.entries.now) (array_vec_len c.put.new.entries) c.put.ensures.len is

pub list_expr-put-requires-in-Var : goal.list_expr-put-requires-in-Var
list_expr-put-requires-in-Var t c =
    let is : term_of c.args.expr.now ≡ Variable c.text.result.now = ap term_of c.in-Var.is ∙ ap Variable (sym c.text.ensures) in
    has_place (loop_index (program c.args.at.kernel.now)) t c.args.at.from (array_vec_len c.args.entries.now) (term_of c.args.expr.now) c.decreases c.requires.following c.requires.fits (Variable c.text.result.now) is refl

pub list_expr-returns-in-Var-clause-items : goal.list_expr-returns-in-Var-clause-items
list_expr-returns-in-Var-clause-items t c =
    let is : term_of c.args.expr.now ≡ Variable c.text.result.now = ap term_of c.in-Var.is ∙ ap Variable (sym c.text.ensures) in
    entries_of_same_term (program c.args.at.kernel.now) c.args.at.from c.args.last_use (Variable c.text.result.now) (term_of c.args.expr.now) (entries_view c.args.entries.now.items) (entries_view c.put-in-Var.new.entries.items) c.put-in-Var.ensures.items is

pub list_expr-returns-in-Var-clause-len : goal.list_expr-returns-in-Var-clause-len
list_expr-returns-in-Var-clause-len t c =
    let is : term_of c.args.expr.now ≡ Variable c.text.result.now = ap term_of c.in-Var.is ∙ ap Variable (sym c.text.ensures) in
    size_of_same_term (loop_index (program c.args.at.kernel.now)) (Variable c.text.result.now) (term_of c.args.expr.now) (array_vec_len c.args.entries.now) (array_vec_len c.put-in-Var.new.entries) c.put-in-Var.ensures.len is

pub list_expr-list_read-requires : goal.list_expr-list_read-requires
list_expr-list_read-requires t c =
    let is : term_of c.args.expr.now ≡ Element (name_of c.in-Read.array) (term_of c.deref.result.now) = ap term_of c.in-Read.is ∙ ap (λ (e : Expr). Element (name_of c.in-Read.array) (term_of e)) (sym c.deref.ensures) in
    called (loop_index (program c.args.at.kernel.now)) t c.args.at.from (array_vec_len c.args.entries.now) (term_of c.args.expr.now) c.decreases c.requires.following c.requires.fits (Element (name_of c.in-Read.array) (term_of c.deref.result.now)) (term_depth (term_of c.deref.result.now)) (index_items (loop_index (program c.args.at.kernel.now)) (term_of c.deref.result.now) + 1) is refl refl

pub list_expr-returns-in-Read-clause-items : goal.list_expr-returns-in-Read-clause-items
list_expr-returns-in-Read-clause-items t c =
    let is : term_of c.args.expr.now ≡ Element (name_of c.in-Read.array) (term_of c.deref.result.now) = ap term_of c.in-Read.is ∙ ap (λ (e : Expr). Element (name_of c.in-Read.array) (term_of e)) (sym c.deref.ensures) in
    entries_of_same_term (program c.args.at.kernel.now) c.args.at.from c.args.last_use (Element (name_of c.in-Read.array) (term_of c.deref.result.now)) (term_of c.args.expr.now) (entries_view c.args.entries.now.items) (entries_view c.list_read.new.entries.items) c.list_read.ensures.items is

pub list_expr-returns-in-Read-clause-len : goal.list_expr-returns-in-Read-clause-len
list_expr-returns-in-Read-clause-len t c =
    let is : term_of c.args.expr.now ≡ Element (name_of c.in-Read.array) (term_of c.deref.result.now) = ap term_of c.in-Read.is ∙ ap (λ (e : Expr). Element (name_of c.in-Read.array) (term_of e)) (sym c.deref.ensures) in
    size_of_same_term (loop_index (program c.args.at.kernel.now)) (Element (name_of c.in-Read.array) (term_of c.deref.result.now)) (term_of c.args.expr.now) (array_vec_len c.args.entries.now) (array_vec_len c.list_read.new.entries) c.list_read.ensures.len is

pub list_expr-list_one-requires : goal.list_expr-list_one-requires
list_expr-list_one-requires t c =
    let is : term_of c.args.expr.now ≡ Unary c.in-Unary.op (term_of c.deref-in-Unary.result.now) = ap term_of c.in-Unary.is ∙ ap (λ (e : Expr). Unary c.in-Unary.op (term_of e)) (sym c.deref-in-Unary.ensures) in
    called (loop_index (program c.args.at.kernel.now)) t c.args.at.from (array_vec_len c.args.entries.now) (term_of c.args.expr.now) c.decreases c.requires.following c.requires.fits (Unary c.in-Unary.op (term_of c.deref-in-Unary.result.now)) (term_depth (term_of c.deref-in-Unary.result.now)) (term_size (loop_index (program c.args.at.kernel.now)) (term_of c.deref-in-Unary.result.now) + 1) is refl refl

pub list_expr-returns-in-Unary-clause-items : goal.list_expr-returns-in-Unary-clause-items
list_expr-returns-in-Unary-clause-items t c =
    let is : term_of c.args.expr.now ≡ Unary c.in-Unary.op (term_of c.deref-in-Unary.result.now) = ap term_of c.in-Unary.is ∙ ap (λ (e : Expr). Unary c.in-Unary.op (term_of e)) (sym c.deref-in-Unary.ensures) in
    entries_of_same_term (program c.args.at.kernel.now) c.args.at.from c.args.last_use (Unary c.in-Unary.op (term_of c.deref-in-Unary.result.now)) (term_of c.args.expr.now) (entries_view c.args.entries.now.items) (entries_view c.list_one.new.entries.items) c.list_one.ensures.items is

pub list_expr-returns-in-Unary-clause-len : goal.list_expr-returns-in-Unary-clause-len
list_expr-returns-in-Unary-clause-len t c =
    let is : term_of c.args.expr.now ≡ Unary c.in-Unary.op (term_of c.deref-in-Unary.result.now) = ap term_of c.in-Unary.is ∙ ap (λ (e : Expr). Unary c.in-Unary.op (term_of e)) (sym c.deref-in-Unary.ensures) in
    size_of_same_term (loop_index (program c.args.at.kernel.now)) (Unary c.in-Unary.op (term_of c.deref-in-Unary.result.now)) (term_of c.args.expr.now) (array_vec_len c.args.entries.now) (array_vec_len c.list_one.new.entries) c.list_one.ensures.len is

pub list_expr-list_two-requires : goal.list_expr-list_two-requires
list_expr-list_two-requires t c =
    let is : term_of c.args.expr.now ≡ Operation c.in-Binary.op (term_of c.deref-in-Binary.result.now) (term_of c.deref-in-Binary-2.result.now) = ap term_of c.in-Binary.is ∙ ap₂ (λ (e f : Expr). Operation c.in-Binary.op (term_of e) (term_of f)) (sym c.deref-in-Binary.ensures) (sym c.deref-in-Binary-2.ensures) in
    called (loop_index (program c.args.at.kernel.now)) t c.args.at.from (array_vec_len c.args.entries.now) (term_of c.args.expr.now) c.decreases c.requires.following c.requires.fits (Operation c.in-Binary.op (term_of c.deref-in-Binary.result.now) (term_of c.deref-in-Binary-2.result.now)) (max (term_depth (term_of c.deref-in-Binary.result.now)) (term_depth (term_of c.deref-in-Binary-2.result.now))) (term_size (loop_index (program c.args.at.kernel.now)) (term_of c.deref-in-Binary.result.now) + term_size (loop_index (program c.args.at.kernel.now)) (term_of c.deref-in-Binary-2.result.now) + 1) is refl refl

pub list_expr-returns-in-Binary-clause-items : goal.list_expr-returns-in-Binary-clause-items
list_expr-returns-in-Binary-clause-items t c =
    let is : term_of c.args.expr.now ≡ Operation c.in-Binary.op (term_of c.deref-in-Binary.result.now) (term_of c.deref-in-Binary-2.result.now) = ap term_of c.in-Binary.is ∙ ap₂ (λ (e f : Expr). Operation c.in-Binary.op (term_of e) (term_of f)) (sym c.deref-in-Binary.ensures) (sym c.deref-in-Binary-2.ensures) in
    entries_of_same_term (program c.args.at.kernel.now) c.args.at.from c.args.last_use (Operation c.in-Binary.op (term_of c.deref-in-Binary.result.now) (term_of c.deref-in-Binary-2.result.now)) (term_of c.args.expr.now) (entries_view c.args.entries.now.items) (entries_view c.list_two.new.entries.items) c.list_two.ensures.items is

pub list_expr-returns-in-Binary-clause-len : goal.list_expr-returns-in-Binary-clause-len
list_expr-returns-in-Binary-clause-len t c =
    let is : term_of c.args.expr.now ≡ Operation c.in-Binary.op (term_of c.deref-in-Binary.result.now) (term_of c.deref-in-Binary-2.result.now) = ap term_of c.in-Binary.is ∙ ap₂ (λ (e f : Expr). Operation c.in-Binary.op (term_of e) (term_of f)) (sym c.deref-in-Binary.ensures) (sym c.deref-in-Binary-2.ensures) in
    size_of_same_term (loop_index (program c.args.at.kernel.now)) (Operation c.in-Binary.op (term_of c.deref-in-Binary.result.now) (term_of c.deref-in-Binary-2.result.now)) (term_of c.args.expr.now) (array_vec_len c.args.entries.now) (array_vec_len c.list_two.new.entries) c.list_two.ensures.len is

pub list_expr-list_one-requires-in-Shift : goal.list_expr-list_one-requires-in-Shift
list_expr-list_one-requires-in-Shift t c =
    let is : term_of c.args.expr.now ≡ Shift c.in-Shift.left_shift (term_of c.deref-in-Shift.result.now) c.in-Shift.count = ap term_of c.in-Shift.is ∙ ap (λ (e : Expr). Shift c.in-Shift.left_shift (term_of e) c.in-Shift.count) (sym c.deref-in-Shift.ensures) in
    called (loop_index (program c.args.at.kernel.now)) t c.args.at.from (array_vec_len c.args.entries.now) (term_of c.args.expr.now) c.decreases c.requires.following c.requires.fits (Shift c.in-Shift.left_shift (term_of c.deref-in-Shift.result.now) c.in-Shift.count) (term_depth (term_of c.deref-in-Shift.result.now)) (term_size (loop_index (program c.args.at.kernel.now)) (term_of c.deref-in-Shift.result.now) + 1) is refl refl

pub list_expr-returns-in-Shift-clause-items : goal.list_expr-returns-in-Shift-clause-items
list_expr-returns-in-Shift-clause-items t c =
    let is : term_of c.args.expr.now ≡ Shift c.in-Shift.left_shift (term_of c.deref-in-Shift.result.now) c.in-Shift.count = ap term_of c.in-Shift.is ∙ ap (λ (e : Expr). Shift c.in-Shift.left_shift (term_of e) c.in-Shift.count) (sym c.deref-in-Shift.ensures) in
    entries_of_same_term (program c.args.at.kernel.now) c.args.at.from c.args.last_use (Shift c.in-Shift.left_shift (term_of c.deref-in-Shift.result.now) c.in-Shift.count) (term_of c.args.expr.now) (entries_view c.args.entries.now.items) (entries_view c.list_one-in-Shift.new.entries.items) c.list_one-in-Shift.ensures.items is

pub list_expr-returns-in-Shift-clause-len : goal.list_expr-returns-in-Shift-clause-len
list_expr-returns-in-Shift-clause-len t c =
    let is : term_of c.args.expr.now ≡ Shift c.in-Shift.left_shift (term_of c.deref-in-Shift.result.now) c.in-Shift.count = ap term_of c.in-Shift.is ∙ ap (λ (e : Expr). Shift c.in-Shift.left_shift (term_of e) c.in-Shift.count) (sym c.deref-in-Shift.ensures) in
    size_of_same_term (loop_index (program c.args.at.kernel.now)) (Shift c.in-Shift.left_shift (term_of c.deref-in-Shift.result.now) c.in-Shift.count) (term_of c.args.expr.now) (array_vec_len c.args.entries.now) (array_vec_len c.list_one-in-Shift.new.entries) c.list_one-in-Shift.ensures.len is

pub list_expr-list_one-requires-in-Cast : goal.list_expr-list_one-requires-in-Cast
list_expr-list_one-requires-in-Cast t c =
    let is : term_of c.args.expr.now ≡ Conversion (term_of c.deref-in-Cast.result.now) c.in-Cast.ty = ap term_of c.in-Cast.is ∙ ap (λ (e : Expr). Conversion (term_of e) c.in-Cast.ty) (sym c.deref-in-Cast.ensures) in
    called (loop_index (program c.args.at.kernel.now)) t c.args.at.from (array_vec_len c.args.entries.now) (term_of c.args.expr.now) c.decreases c.requires.following c.requires.fits (Conversion (term_of c.deref-in-Cast.result.now) c.in-Cast.ty) (term_depth (term_of c.deref-in-Cast.result.now)) (term_size (loop_index (program c.args.at.kernel.now)) (term_of c.deref-in-Cast.result.now) + 1) is refl refl

pub list_expr-returns-in-Cast-clause-items : goal.list_expr-returns-in-Cast-clause-items
list_expr-returns-in-Cast-clause-items t c =
    let is : term_of c.args.expr.now ≡ Conversion (term_of c.deref-in-Cast.result.now) c.in-Cast.ty = ap term_of c.in-Cast.is ∙ ap (λ (e : Expr). Conversion (term_of e) c.in-Cast.ty) (sym c.deref-in-Cast.ensures) in
    entries_of_same_term (program c.args.at.kernel.now) c.args.at.from c.args.last_use (Conversion (term_of c.deref-in-Cast.result.now) c.in-Cast.ty) (term_of c.args.expr.now) (entries_view c.args.entries.now.items) (entries_view c.list_one-in-Cast.new.entries.items) c.list_one-in-Cast.ensures.items is

pub list_expr-returns-in-Cast-clause-len : goal.list_expr-returns-in-Cast-clause-len
list_expr-returns-in-Cast-clause-len t c =
    let is : term_of c.args.expr.now ≡ Conversion (term_of c.deref-in-Cast.result.now) c.in-Cast.ty = ap term_of c.in-Cast.is ∙ ap (λ (e : Expr). Conversion (term_of e) c.in-Cast.ty) (sym c.deref-in-Cast.ensures) in
    size_of_same_term (loop_index (program c.args.at.kernel.now)) (Conversion (term_of c.deref-in-Cast.result.now) c.in-Cast.ty) (term_of c.args.expr.now) (array_vec_len c.args.entries.now) (array_vec_len c.list_one-in-Cast.new.entries) c.list_one-in-Cast.ensures.len is

pub list_expr-list_select-requires : goal.list_expr-list_select-requires
list_expr-list_select-requires t c =
    let is : term_of c.args.expr.now ≡ Choice (term_of c.deref-in-Select-3.result.now) (term_of c.deref-in-Select.result.now) (term_of c.deref-in-Select-2.result.now) = ap term_of c.in-Select.is ∙ ap₂ (λ (e f : Expr). Choice (term_of c.in-Select.cond.value) (term_of e) (term_of f)) (sym c.deref-in-Select.ensures) (sym c.deref-in-Select-2.ensures) ∙ ap (λ (e : Expr). Choice (term_of e) (term_of c.deref-in-Select.result.now) (term_of c.deref-in-Select-2.result.now)) (sym c.deref-in-Select-3.ensures) in
    called (loop_index (program c.args.at.kernel.now)) t c.args.at.from (array_vec_len c.args.entries.now) (term_of c.args.expr.now) c.decreases c.requires.following c.requires.fits (Choice (term_of c.deref-in-Select-3.result.now) (term_of c.deref-in-Select.result.now) (term_of c.deref-in-Select-2.result.now)) (max (term_depth (term_of c.deref-in-Select-3.result.now)) (max (term_depth (term_of c.deref-in-Select.result.now)) (term_depth (term_of c.deref-in-Select-2.result.now)))) (term_size (loop_index (program c.args.at.kernel.now)) (term_of c.deref-in-Select.result.now) + term_size (loop_index (program c.args.at.kernel.now)) (term_of c.deref-in-Select-2.result.now) + term_size (loop_index (program c.args.at.kernel.now)) (term_of c.deref-in-Select-3.result.now) + 1) is refl refl

pub list_expr-returns-in-Select-clause-items : goal.list_expr-returns-in-Select-clause-items
list_expr-returns-in-Select-clause-items t c =
    let is : term_of c.args.expr.now ≡ Choice (term_of c.deref-in-Select-3.result.now) (term_of c.deref-in-Select.result.now) (term_of c.deref-in-Select-2.result.now) = ap term_of c.in-Select.is ∙ ap₂ (λ (e f : Expr). Choice (term_of c.in-Select.cond.value) (term_of e) (term_of f)) (sym c.deref-in-Select.ensures) (sym c.deref-in-Select-2.ensures) ∙ ap (λ (e : Expr). Choice (term_of e) (term_of c.deref-in-Select.result.now) (term_of c.deref-in-Select-2.result.now)) (sym c.deref-in-Select-3.ensures) in
    entries_of_same_term (program c.args.at.kernel.now) c.args.at.from c.args.last_use (Choice (term_of c.deref-in-Select-3.result.now) (term_of c.deref-in-Select.result.now) (term_of c.deref-in-Select-2.result.now)) (term_of c.args.expr.now) (entries_view c.args.entries.now.items) (entries_view c.list_select.new.entries.items) c.list_select.ensures.items is

pub list_expr-returns-in-Select-clause-len : goal.list_expr-returns-in-Select-clause-len
list_expr-returns-in-Select-clause-len t c =
    let is : term_of c.args.expr.now ≡ Choice (term_of c.deref-in-Select-3.result.now) (term_of c.deref-in-Select.result.now) (term_of c.deref-in-Select-2.result.now) = ap term_of c.in-Select.is ∙ ap₂ (λ (e f : Expr). Choice (term_of c.in-Select.cond.value) (term_of e) (term_of f)) (sym c.deref-in-Select.ensures) (sym c.deref-in-Select-2.ensures) ∙ ap (λ (e : Expr). Choice (term_of e) (term_of c.deref-in-Select.result.now) (term_of c.deref-in-Select-2.result.now)) (sym c.deref-in-Select-3.ensures) in
    size_of_same_term (loop_index (program c.args.at.kernel.now)) (Choice (term_of c.deref-in-Select-3.result.now) (term_of c.deref-in-Select.result.now) (term_of c.deref-in-Select-2.result.now)) (term_of c.args.expr.now) (array_vec_len c.args.entries.now) (array_vec_len c.list_select.new.entries) c.list_select.ensures.len is

pub list_expr-list_two-requires-in-Compare : goal.list_expr-list_two-requires-in-Compare
list_expr-list_two-requires-in-Compare t c =
    let is : term_of c.args.expr.now ≡ Comparison c.in-Compare.op (term_of c.deref-in-Compare.result.now) (term_of c.deref-in-Compare-2.result.now) = ap term_of c.in-Compare.is ∙ ap₂ (λ (e f : Expr). Comparison c.in-Compare.op (term_of e) (term_of f)) (sym c.deref-in-Compare.ensures) (sym c.deref-in-Compare-2.ensures) in
    called (loop_index (program c.args.at.kernel.now)) t c.args.at.from (array_vec_len c.args.entries.now) (term_of c.args.expr.now) c.decreases c.requires.following c.requires.fits (Comparison c.in-Compare.op (term_of c.deref-in-Compare.result.now) (term_of c.deref-in-Compare-2.result.now)) (max (term_depth (term_of c.deref-in-Compare.result.now)) (term_depth (term_of c.deref-in-Compare-2.result.now))) (term_size (loop_index (program c.args.at.kernel.now)) (term_of c.deref-in-Compare.result.now) + term_size (loop_index (program c.args.at.kernel.now)) (term_of c.deref-in-Compare-2.result.now) + 1) is refl refl

pub list_expr-returns-in-Compare-clause-items : goal.list_expr-returns-in-Compare-clause-items
list_expr-returns-in-Compare-clause-items t c =
    let is : term_of c.args.expr.now ≡ Comparison c.in-Compare.op (term_of c.deref-in-Compare.result.now) (term_of c.deref-in-Compare-2.result.now) = ap term_of c.in-Compare.is ∙ ap₂ (λ (e f : Expr). Comparison c.in-Compare.op (term_of e) (term_of f)) (sym c.deref-in-Compare.ensures) (sym c.deref-in-Compare-2.ensures) in
    entries_of_same_term (program c.args.at.kernel.now) c.args.at.from c.args.last_use (Comparison c.in-Compare.op (term_of c.deref-in-Compare.result.now) (term_of c.deref-in-Compare-2.result.now)) (term_of c.args.expr.now) (entries_view c.args.entries.now.items) (entries_view c.list_two-in-Compare.new.entries.items) c.list_two-in-Compare.ensures.items is

pub list_expr-returns-in-Compare-clause-len : goal.list_expr-returns-in-Compare-clause-len
list_expr-returns-in-Compare-clause-len t c =
    let is : term_of c.args.expr.now ≡ Comparison c.in-Compare.op (term_of c.deref-in-Compare.result.now) (term_of c.deref-in-Compare-2.result.now) = ap term_of c.in-Compare.is ∙ ap₂ (λ (e f : Expr). Comparison c.in-Compare.op (term_of e) (term_of f)) (sym c.deref-in-Compare.ensures) (sym c.deref-in-Compare-2.ensures) in
    size_of_same_term (loop_index (program c.args.at.kernel.now)) (Comparison c.in-Compare.op (term_of c.deref-in-Compare.result.now) (term_of c.deref-in-Compare-2.result.now)) (term_of c.args.expr.now) (array_vec_len c.args.entries.now) (array_vec_len c.list_two-in-Compare.new.entries) c.list_two-in-Compare.ensures.len is

pub list_expr-list_two-requires-in-And : goal.list_expr-list_two-requires-in-And
list_expr-list_two-requires-in-And t c =
    let is : term_of c.args.expr.now ≡ Both (term_of c.deref-in-And.result.now) (term_of c.deref-in-And-2.result.now) = ap term_of c.in-And.is ∙ ap₂ (λ (e f : Expr). Both (term_of e) (term_of f)) (sym c.deref-in-And.ensures) (sym c.deref-in-And-2.ensures) in
    called (loop_index (program c.args.at.kernel.now)) t c.args.at.from (array_vec_len c.args.entries.now) (term_of c.args.expr.now) c.decreases c.requires.following c.requires.fits (Both (term_of c.deref-in-And.result.now) (term_of c.deref-in-And-2.result.now)) (max (term_depth (term_of c.deref-in-And.result.now)) (term_depth (term_of c.deref-in-And-2.result.now))) (term_size (loop_index (program c.args.at.kernel.now)) (term_of c.deref-in-And.result.now) + term_size (loop_index (program c.args.at.kernel.now)) (term_of c.deref-in-And-2.result.now) + 1) is refl refl

pub list_expr-returns-in-And-clause-items : goal.list_expr-returns-in-And-clause-items
list_expr-returns-in-And-clause-items t c =
    let is : term_of c.args.expr.now ≡ Both (term_of c.deref-in-And.result.now) (term_of c.deref-in-And-2.result.now) = ap term_of c.in-And.is ∙ ap₂ (λ (e f : Expr). Both (term_of e) (term_of f)) (sym c.deref-in-And.ensures) (sym c.deref-in-And-2.ensures) in
    entries_of_same_term (program c.args.at.kernel.now) c.args.at.from c.args.last_use (Both (term_of c.deref-in-And.result.now) (term_of c.deref-in-And-2.result.now)) (term_of c.args.expr.now) (entries_view c.args.entries.now.items) (entries_view c.list_two-in-And.new.entries.items) c.list_two-in-And.ensures.items is

pub list_expr-returns-in-And-clause-len : goal.list_expr-returns-in-And-clause-len
list_expr-returns-in-And-clause-len t c =
    let is : term_of c.args.expr.now ≡ Both (term_of c.deref-in-And.result.now) (term_of c.deref-in-And-2.result.now) = ap term_of c.in-And.is ∙ ap₂ (λ (e f : Expr). Both (term_of e) (term_of f)) (sym c.deref-in-And.ensures) (sym c.deref-in-And-2.ensures) in
    size_of_same_term (loop_index (program c.args.at.kernel.now)) (Both (term_of c.deref-in-And.result.now) (term_of c.deref-in-And-2.result.now)) (term_of c.args.expr.now) (array_vec_len c.args.entries.now) (array_vec_len c.list_two-in-And.new.entries) c.list_two-in-And.ensures.len is

pub list_expr-list_or-requires : goal.list_expr-list_or-requires
list_expr-list_or-requires t c =
    let is : term_of c.args.expr.now ≡ Either (term_of c.deref-in-Or.result.now) (term_of c.deref-in-Or-2.result.now) = ap term_of c.in-Or.is ∙ ap₂ (λ (e f : Expr). Either (term_of e) (term_of f)) (sym c.deref-in-Or.ensures) (sym c.deref-in-Or-2.ensures) in
    called (loop_index (program c.args.at.kernel.now)) t c.args.at.from (array_vec_len c.args.entries.now) (term_of c.args.expr.now) c.decreases c.requires.following c.requires.fits (Either (term_of c.deref-in-Or.result.now) (term_of c.deref-in-Or-2.result.now)) (max (term_depth (term_of c.deref-in-Or.result.now)) (term_depth (term_of c.deref-in-Or-2.result.now))) (term_size (loop_index (program c.args.at.kernel.now)) (term_of c.deref-in-Or.result.now) + 1 + term_size (loop_index (program c.args.at.kernel.now)) (term_of c.deref-in-Or-2.result.now) + 1) is refl refl

pub list_expr-returns-in-Or-clause-items : goal.list_expr-returns-in-Or-clause-items
list_expr-returns-in-Or-clause-items t c =
    let is : term_of c.args.expr.now ≡ Either (term_of c.deref-in-Or.result.now) (term_of c.deref-in-Or-2.result.now) = ap term_of c.in-Or.is ∙ ap₂ (λ (e f : Expr). Either (term_of e) (term_of f)) (sym c.deref-in-Or.ensures) (sym c.deref-in-Or-2.ensures) in
    entries_of_same_term (program c.args.at.kernel.now) c.args.at.from c.args.last_use (Either (term_of c.deref-in-Or.result.now) (term_of c.deref-in-Or-2.result.now)) (term_of c.args.expr.now) (entries_view c.args.entries.now.items) (entries_view c.list_or.new.entries.items) c.list_or.ensures.items is

pub list_expr-returns-in-Or-clause-len : goal.list_expr-returns-in-Or-clause-len
list_expr-returns-in-Or-clause-len t c =
    let is : term_of c.args.expr.now ≡ Either (term_of c.deref-in-Or.result.now) (term_of c.deref-in-Or-2.result.now) = ap term_of c.in-Or.is ∙ ap₂ (λ (e f : Expr). Either (term_of e) (term_of f)) (sym c.deref-in-Or.ensures) (sym c.deref-in-Or-2.ensures) in
    size_of_same_term (loop_index (program c.args.at.kernel.now)) (Either (term_of c.deref-in-Or.result.now) (term_of c.deref-in-Or-2.result.now)) (term_of c.args.expr.now) (array_vec_len c.args.entries.now) (array_vec_len c.list_or.new.entries) c.list_or.ensures.len is

pub list_expr-list_one-requires-in-Not : goal.list_expr-list_one-requires-in-Not
list_expr-list_one-requires-in-Not t c =
    let is : term_of c.args.expr.now ≡ Not (term_of c.deref-in-Not.result.now) = ap term_of c.in-Not.is ∙ ap (λ (e : Expr). Not (term_of e)) (sym c.deref-in-Not.ensures) in
    called (loop_index (program c.args.at.kernel.now)) t c.args.at.from (array_vec_len c.args.entries.now) (term_of c.args.expr.now) c.decreases c.requires.following c.requires.fits (Not (term_of c.deref-in-Not.result.now)) (term_depth (term_of c.deref-in-Not.result.now)) (term_size (loop_index (program c.args.at.kernel.now)) (term_of c.deref-in-Not.result.now) + 1) is refl refl

pub list_expr-returns-in-Not-clause-items : goal.list_expr-returns-in-Not-clause-items
list_expr-returns-in-Not-clause-items t c =
    let is : term_of c.args.expr.now ≡ Not (term_of c.deref-in-Not.result.now) = ap term_of c.in-Not.is ∙ ap (λ (e : Expr). Not (term_of e)) (sym c.deref-in-Not.ensures) in
    entries_of_same_term (program c.args.at.kernel.now) c.args.at.from c.args.last_use (Not (term_of c.deref-in-Not.result.now)) (term_of c.args.expr.now) (entries_view c.args.entries.now.items) (entries_view c.list_one-in-Not.new.entries.items) c.list_one-in-Not.ensures.items is

pub list_expr-returns-in-Not-clause-len : goal.list_expr-returns-in-Not-clause-len
list_expr-returns-in-Not-clause-len t c =
    let is : term_of c.args.expr.now ≡ Not (term_of c.deref-in-Not.result.now) = ap term_of c.in-Not.is ∙ ap (λ (e : Expr). Not (term_of e)) (sym c.deref-in-Not.ensures) in
    size_of_same_term (loop_index (program c.args.at.kernel.now)) (Not (term_of c.deref-in-Not.result.now)) (term_of c.args.expr.now) (array_vec_len c.args.entries.now) (array_vec_len c.list_one-in-Not.new.entries) c.list_one-in-Not.ensures.len is

-- ---- one operand

pub list_one-expr_size-requires : goal.list_one-expr_size-requires
list_one-expr_size-requires t c = omega arith

pub list_one-overflow_add-item : goal.list_one-overflow_add-item
list_one-overflow_add-item t c = record { fits = omega arith }

pub list_one-list_expr-requires : goal.list_one-list_expr-requires
list_one-list_expr-requires t c = (omega arith, (omega arith, omega arith))

pub list_one-put-requires : goal.list_one-put-requires
list_one-put-requires t c = omega arith

pub list_one-returns-clause-items : goal.list_one-returns-clause-items
list_one-returns-clause-items t c = one_operand (program c.args.at.kernel.now) c.args.at.from c.args.last_use (IsPlain c.args.kind) (entries_view c.args.entries.now.items) (entries_view c.put.new.entries.items) (term_of c.args.arg.now) c.expr_size.result (entries_view c.list_expr.new.entries.items) c.expr_size.ensures c.list_expr.ensures.items c.put.ensures.items

pub list_one-returns-clause-len : goal.list_one-returns-clause-len
list_one-returns-clause-len t c = omega arith

-- ---- two operands

pub list_two-expr_size-requires : goal.list_two-expr_size-requires
list_two-expr_size-requires t c = omega arith

pub list_two-overflow_add-next : goal.list_two-overflow_add-next
list_two-overflow_add-next t c = record { fits = omega arith }

pub list_two-expr_size-requires-2 : goal.list_two-expr_size-requires-2
list_two-expr_size-requires-2 t c = omega arith

pub list_two-overflow_add-item : goal.list_two-overflow_add-item
list_two-overflow_add-item t c = record { fits = omega arith }

pub list_two-list_expr-requires : goal.list_two-list_expr-requires
list_two-list_expr-requires t c = (omega arith, (omega arith, omega arith))

pub list_two-list_expr-requires-2 : goal.list_two-list_expr-requires-2
list_two-list_expr-requires-2 t c = (omega arith, (omega arith, omega arith))

pub list_two-put-requires : goal.list_two-put-requires
list_two-put-requires t c = omega arith

pub list_two-returns-clause-items : goal.list_two-returns-clause-items
list_two-returns-clause-items t c = two_operands (program c.args.at.kernel.now) c.args.at.from c.args.last_use (IsPlain c.args.kind) (entries_view c.args.entries.now.items) (entries_view c.put.new.entries.items) (term_of c.args.left.now) (term_of c.args.right.now) c.expr_size.result c.expr_size-2.result (entries_view c.list_expr.new.entries.items) (entries_view c.list_expr-2.new.entries.items) c.expr_size.ensures c.expr_size-2.ensures c.list_expr.ensures.items c.list_expr-2.ensures.items c.put.ensures.items

pub list_two-returns-clause-len : goal.list_two-returns-clause-len
list_two-returns-clause-len t c = omega arith

-- ---- `||` and `select`

pub list_or-expr_size-requires : goal.list_or-expr_size-requires
list_or-expr_size-requires t c = omega arith

pub list_or-overflow_add-mark : goal.list_or-overflow_add-mark
list_or-overflow_add-mark t c = record { fits = omega arith }

pub list_or-overflow_add-item : goal.list_or-overflow_add-item
list_or-overflow_add-item t c = record { fits = omega arith }

pub list_or-expr_size-requires-2 : goal.list_or-expr_size-requires-2
list_or-expr_size-requires-2 t c = omega arith

pub list_or-overflow_add-item-2 : goal.list_or-overflow_add-item-2
list_or-overflow_add-item-2 t c = record { fits = omega arith }

pub list_or-list_expr-requires : goal.list_or-list_expr-requires
list_or-list_expr-requires t c = (omega arith, (omega arith, omega arith))

pub list_or-put-requires : goal.list_or-put-requires
list_or-put-requires t c = omega arith

pub list_or-overflow_add-mark-2 : goal.list_or-overflow_add-mark-2
list_or-overflow_add-mark-2 t c = record { fits = omega arith }

pub list_or-list_expr-requires-2 : goal.list_or-list_expr-requires-2
list_or-list_expr-requires-2 t c = (omega arith, (omega arith, omega arith))

pub list_or-put-requires-2 : goal.list_or-put-requires-2
list_or-put-requires-2 t c = omega arith

pub list_or-returns-clause-items : goal.list_or-returns-clause-items
list_or-returns-clause-items t c = either_listed (program c.args.at.kernel.now) c.args.at.from c.args.last_use (entries_view c.args.entries.now.items) (entries_view c.put-2.new.entries.items) (term_of c.args.left.now) (term_of c.args.right.now) c.expr_size.result c.expr_size-2.result (entries_view c.list_expr.new.entries.items) (entries_view c.put.new.entries.items) (entries_view c.list_expr-2.new.entries.items) c.expr_size.ensures c.expr_size-2.ensures c.list_expr.ensures.items c.put.ensures.items c.list_expr-2.ensures.items c.put-2.ensures.items

pub list_or-returns-clause-len : goal.list_or-returns-clause-len
list_or-returns-clause-len t c = omega arith

pub list_select-expr_size-requires : goal.list_select-expr_size-requires
list_select-expr_size-requires t c = omega arith

pub list_select-overflow_add-next : goal.list_select-overflow_add-next
list_select-overflow_add-next t c = record { fits = omega arith }

pub list_select-expr_size-requires-2 : goal.list_select-expr_size-requires-2
list_select-expr_size-requires-2 t c = omega arith

pub list_select-overflow_add-last : goal.list_select-overflow_add-last
list_select-overflow_add-last t c = record { fits = omega arith }

pub list_select-expr_size-requires-3 : goal.list_select-expr_size-requires-3
list_select-expr_size-requires-3 t c = omega arith

pub list_select-overflow_add-item : goal.list_select-overflow_add-item
list_select-overflow_add-item t c = record { fits = omega arith }

pub list_select-list_expr-requires : goal.list_select-list_expr-requires
list_select-list_expr-requires t c = (omega arith, (omega arith, omega arith))

pub list_select-list_expr-requires-2 : goal.list_select-list_expr-requires-2
list_select-list_expr-requires-2 t c = (omega arith, (omega arith, omega arith))

pub list_select-list_expr-requires-3 : goal.list_select-list_expr-requires-3
list_select-list_expr-requires-3 t c = (omega arith, (omega arith, omega arith))

pub list_select-put-requires : goal.list_select-put-requires
list_select-put-requires t c = omega arith

pub list_select-returns-clause-items : goal.list_select-returns-clause-items
list_select-returns-clause-items t c = choice_listed (program c.args.at.kernel.now) c.args.at.from c.args.last_use (entries_view c.args.entries.now.items) (entries_view c.put.new.entries.items) (term_of c.args.cond.now) (term_of c.args.yes.now) (term_of c.args.no.now) c.expr_size.result c.expr_size-2.result c.expr_size-3.result (entries_view c.list_expr.new.entries.items) (entries_view c.list_expr-2.new.entries.items) (entries_view c.list_expr-3.new.entries.items) c.expr_size.ensures c.expr_size-2.ensures c.expr_size-3.ensures c.list_expr.ensures.items c.list_expr-2.ensures.items c.list_expr-3.ensures.items c.put.ensures.items

pub list_select-returns-clause-len : goal.list_select-returns-clause-len
list_select-returns-clause-len t c = omega arith

-- ---- a read, with a stream index and with one that is computed

pub list_read-put-requires : goal.list_read-put-requires
list_read-put-requires t c = omega arith

pub list_read-expr_size-requires : goal.list_read-expr_size-requires
list_read-expr_size-requires t c =
    let size = computed (stream_offset (loop_index (program c.args.at.kernel.now)) (term_of c.args.index.now)) (term_size (loop_index (program c.args.at.kernel.now)) (term_of c.args.index.now)) (sym c.is_stream.ensures ∙ c.if-is_stream.false) in
    omega arith

pub list_read-overflow_add-item : goal.list_read-overflow_add-item
list_read-overflow_add-item t c =
    let size = computed (stream_offset (loop_index (program c.args.at.kernel.now)) (term_of c.args.index.now)) (term_size (loop_index (program c.args.at.kernel.now)) (term_of c.args.index.now)) (sym c.is_stream.ensures ∙ c.if-is_stream.false) in
    record { fits = omega arith }

pub list_read-list_expr-requires : goal.list_read-list_expr-requires
list_read-list_expr-requires t c =
    let size = computed (stream_offset (loop_index (program c.args.at.kernel.now)) (term_of c.args.index.now)) (term_size (loop_index (program c.args.at.kernel.now)) (term_of c.args.index.now)) (sym c.is_stream.ensures ∙ c.if-is_stream.false) in
    (omega arith, (omega arith, omega arith))

pub list_read-put-requires-else-is_stream : goal.list_read-put-requires-else-is_stream
list_read-put-requires-else-is_stream t c =
    let size = computed (stream_offset (loop_index (program c.args.at.kernel.now)) (term_of c.args.index.now)) (term_size (loop_index (program c.args.at.kernel.now)) (term_of c.args.index.now)) (sym c.is_stream.ensures ∙ c.if-is_stream.false) in
    omega arith

pub list_read-returns-then-is_stream-clause-items : goal.list_read-returns-then-is_stream-clause-items
list_read-returns-then-is_stream-clause-items t c =
    let content = ap (λ (x : List ℕ). IsRead x (term_of c.args.index.now)) c.text.ensures in
    stream_read (program c.args.at.kernel.now) c.args.at.from c.args.last_use (entries_view c.args.entries.now.items) (entries_view c.put.new.entries.items) (IsRead c.text.result.now (term_of c.args.index.now)) (IsRead (name_of c.args.array.now) (term_of c.args.index.now)) content (stream_offset (loop_index (program c.args.at.kernel.now)) (term_of c.args.index.now)) (term_size (loop_index (program c.args.at.kernel.now)) (term_of c.args.index.now)) (term_entries (program c.args.at.kernel.now) c.args.at.from (c.args.at.from + index_items (loop_index (program c.args.at.kernel.now)) (term_of c.args.index.now)) (term_of c.args.index.now)) (sym c.is_stream.ensures ∙ c.if-is_stream.true) c.put.ensures.items

pub list_read-returns-then-is_stream-clause-len : goal.list_read-returns-then-is_stream-clause-len
list_read-returns-then-is_stream-clause-len t c =
    let size = streamed (stream_offset (loop_index (program c.args.at.kernel.now)) (term_of c.args.index.now)) (term_size (loop_index (program c.args.at.kernel.now)) (term_of c.args.index.now)) (sym c.is_stream.ensures ∙ c.if-is_stream.true) in
    omega arith

pub list_read-returns-else-is_stream-clause-items : goal.list_read-returns-else-is_stream-clause-items
list_read-returns-else-is_stream-clause-items t c =
    let content = ap (λ (x : List ℕ). IsRead x (term_of c.args.index.now)) c.text.ensures in
    computed_read (program c.args.at.kernel.now) c.args.at.from c.args.last_use (entries_view c.args.entries.now.items) (entries_view c.put-else-is_stream.new.entries.items) (IsRead c.text.result.now (term_of c.args.index.now)) (IsRead (name_of c.args.array.now) (term_of c.args.index.now)) content (stream_offset (loop_index (program c.args.at.kernel.now)) (term_of c.args.index.now)) c.expr_size.result (term_of c.args.index.now) (entries_view c.list_expr.new.entries.items) (sym c.is_stream.ensures ∙ c.if-is_stream.false) c.expr_size.ensures c.list_expr.ensures.items c.put-else-is_stream.ensures.items

pub list_read-returns-else-is_stream-clause-len : goal.list_read-returns-else-is_stream-clause-len
list_read-returns-else-is_stream-clause-len t c =
    let size = computed (stream_offset (loop_index (program c.args.at.kernel.now)) (term_of c.args.index.now)) (term_size (loop_index (program c.args.at.kernel.now)) (term_of c.args.index.now)) (sym c.is_stream.ensures ∙ c.if-is_stream.false) in
    omega arith
