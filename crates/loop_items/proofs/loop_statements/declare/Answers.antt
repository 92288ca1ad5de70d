use Rattle.std.proofs.Common.{◌≡◌, ℕ, ◌+◌, List, [], ◌∷◌, ◌++◌, ◌∙◌, sym, ap, ap₂, arith}
use Rattle.kernel_tree.specs.declared.fault.Binding.TheVariants.{Value}
use Rattle.kernel_tree.specs.Plain.{name_of, term_of, action_of}
use Rattle.kernel_tree.specs.Parts.{part_action}
use Rattle.kernel_tree.specs.Items.{loop_index, action_size}
use Rattle.kernel_tree.specs.Typing.{local, own, first}
use Rattle.loop_form.specs.declared.loop_item.Operand.TheVariants.{Made}
use Rattle.loop_form.specs.declared.visible.Visible.{Visible}
use Rattle.loop_form.specs.LoopItems.{bound}
use Rattle.loop_form.specs.LoopView.{scope_of}
use Rattle.loop_form.specs.View.{program}
use Rattle.loop_items.proofs.Declared.{not_pushed, pushed, old_kept, name_declared}
use Rattle.loop_items.proofs.loop_statements.declare.Goals as goal

pub returns-then-is_err : goal.returns-then-is_err
returns-then-is_err c = record {
  names = not_pushed c.args.names.now.items c.push.new.self.items _ c.push.result c.is_err.result c.is_err.ensures.value c.push.ensures.items c.if-is_err.true;
  kept = λ none. cc;
  declares = λ none. cc;
}

pub returns-else-is_err : goal.returns-else-is_err
returns-else-is_err c =
    let i = loop_index (program c.args.kernel.now) in
    let old = c.args.names.now.items in
    let value = term_of c.in-Let.value.now in
    let v : Visible = record { name = c.text.result; binding = Value c.in-Some.ty; source = Made (c.args.from + c.expr_size.result) } in
    let more : c.push.new.self.items ≡ old ++ v ∷ [] = pushed old c.push.new.self.items (old ++ v ∷ []) c.push.result c.is_err.result c.is_err.ensures.value c.push.ensures.items c.if-is_err.false in
    record {
      names = old_kept old c.push.new.self.items v more;
      kept = λ none. none;
      declares = λ none.
          name_declared i c.args.from old c.push.new.self.items v (name_of c.in-Let.name.now) c.in-Let.ty value c.in-Some.ty (action_of c.args.stmt.now) more
          (ap (λ (x : List ℕ). local x (Value c.in-Some.ty)) c.text.ensures)
          (ap₂ (λ (x : List ℕ) (n : ℕ). bound x (Made (c.args.from + n))) c.text.ensures c.expr_size.ensures)
          (sym c.parts.ensures ∙ ap part_action c.in-Let.is)
          (λ taken. sym c.in-Some.is ∙ c.first_type.ensures ∙ ap (first c.in-Let.ty) (c.own_type.ensures i taken ∙ ap (λ (vs : List Visible). own (scope_of i vs taken) value) c.deref.ensures.value));
    }

pub expr_size-requires : goal.expr_size-requires
expr_size-requires c =
    let size = ap (action_size (loop_index (program c.args.kernel.now))) (sym c.parts.ensures ∙ ap part_action c.in-Let.is) in
    omega (arith, size, c.requires)

pub overflow_add-visible : goal.overflow_add-visible
overflow_add-visible c =
    let size = ap (action_size (loop_index (program c.args.kernel.now))) (sym c.parts.ensures ∙ ap part_action c.in-Let.is) in
    record { fits = omega (arith, size, c.requires, c.expr_size.ensures) }
