use Rattle.std.proofs.Common.{◌+◌, ◌*◌, [], ◌++◌, List, sym, ap, ap₂, ◌∙◌, length, subst, ◌≤◌, arith}
use Rattle.std.proofs.lemmas.Result.{on_ok_weaker, IfOk-from_err}
use Rattle.kernel_tree.specs.declared.ast.Kernel.{Kernel}
use Rattle.kernel_tree.specs.declared.ast.Var.{Var}
use Rattle.kernel_tree.specs.Plain.{accumulators_of, program_of, Program}
use Rattle.kernel_tree.specs.Items.{loop_index, vars_size, size_of}
use Rattle.kernel_tree.specs.Kinds.{KernelKinds}
use Rattle.kernel_tree.specs.Typing.{empty}
use Rattle.loop_form.specs.View.{program}
use Rattle.scalar_words.specs.KernelRegisters.{register_in, layout_of_kernel}
use Rattle.scalar_words.proofs.Layouts.{count_params}
use Rattle.loop_code.specs.Kernel.{scalar_labels, scalar_code}
use Rattle.label_fix.proofs.PlacedRuns.{words_added}
use Rattle.loop_code.proofs.Counts.{scalar_words}
use Rattle.guest_types.proofs.Errors.{on_error}
use Rattle.scalar_emit.proofs.KernelCalls.{vars_fit}
use Rattle.scalar_emit.proofs.kernel.emit_scalar.Goals as goal

pub returns-clause-emits : goal.returns-clause-emits
unfolding program
returns-clause-emits c =
    let R = register_in c.args.regs.now in
    let n = c.args.draft.now.labels in
    on_ok_weaker c.emit_rest.result (λ p. record {
      labels = p.labels ∙ ap (λ (t : Kernel). n + scalar_labels (program_of t)) c.kernel-tree.ensures;
      code = λ rest. p.code rest ∙ ap (λ (t : Kernel). c.args.draft.now.entries ++ scalar_code R (program_of t) n rest) c.kernel-tree.ensures;
    }) c.emit_rest.ensures.emits

pub returns-clause-words : goal.returns-clause-words
returns-clause-words c =
    let k = program c.args.kernel.now in
    let R = register_in c.args.regs.now in
    let n = c.args.draft.now.labels in
    on_ok_weaker c.emit_rest.result (λ p. words_added c.args.draft.now.entries c.emit_rest.new.draft.entries (scalar_code R k n []) (64 + 16 * size_of k) (p.code []) (scalar_words R k n [])) (returns-clause-emits c)

pub returns-in_err-layout : goal.returns-in_err-layout
returns-in_err-layout c =
    let failed = c.from_residual.ensures.0 in
    record { words = on_error _ _ failed; entry = IfOk-from_err _ _ failed; emits = on_error _ _ failed }

pub each_has_a_register-requires : goal.each_has_a_register-requires
each_has_a_register-requires c = record { fits = c.requires.fits }

pub lay_out-requires : goal.lay_out-requires
lay_out-requires c = record {
  fits = c.requires.fits;
  listed = c.requires.listed;
}

-- the items of the loop begin after those of the parameters and of the accumulators
pub emit_rest-requires : goal.emit_rest-requires
unfolding program
emit_rest-requires c = record {
  start =
      let tree = c.kernel-tree.result.now in
      let params = c.len.ensures ∙ tree.params.ok.0 ∙ sym (count_params tree.params.items) in
      let vars = c.vars_size_of.ensures ∙ ap₂ (λ (t : Kernel) (vs : List Var). vars_size (loop_index (program_of t)) (accumulators_of vs)) (sym c.kernel-tree.ensures) c.deref.ensures.value in
      ap₂ (λ m n. m + n) params vars;
  assigned = c.requires.fits.assigned;
  vars =
      let same = sym (ap program_of c.kernel-tree.ensures) in
      subst (λ (k : Program). length k.vars ≤ length c.args.regs.now.registers) same c.each_has_a_register.ensures.vars;
  params =
      let same = sym (ap program_of c.kernel-tree.ensures) in
      subst (λ (k : Program). length k.params ≤ 8) same c.few_params.ensures;
  kinds =
      let same = sym (ap program_of c.kernel-tree.ensures) in
      subst KernelKinds same c.right_kinds.ensures;
  few =
      let same = sym (ap program_of c.kernel-tree.ensures) in
      subst (λ (k : Program). size_of k ≤ 1000) same c.few_items.ensures.size;
  layout =
      let same = sym (ap program_of c.kernel-tree.ensures) in
      c.in_ok-layout.ensures ∙ ap (layout_of_kernel (register_in c.args.regs.now)) same;
  scope = c.empty-scope.ensures ∙ ap empty c.loop_index.ensures;
  homes = c.new-homes.ensures.items;
}

pub vars_size_of-requires : goal.vars_size_of-requires
unfolding program
vars_size_of-requires c = vars_fit (program c.args.kernel.now) (accumulators_of c.deref.result.now) (ap accumulators_of c.deref.ensures.value ∙ ap (λ (t : Kernel). accumulators_of t.vars.items) c.kernel-tree.ensures) c.few_items.ensures.size

pub overflow_cast-item : goal.overflow_cast-item
overflow_cast-item c = omega (arith, c.vars_size_of.type_inv)

pub overflow_add-item : goal.overflow_add-item
unfolding program
overflow_add-item c =
    let tree = c.kernel-tree.result.now in
    let few = subst (λ (t : Kernel). length (program_of t).params ≤ 8) (sym c.kernel-tree.ensures) c.few_params.ensures in
    omega (arith, c.vars_size_of.type_inv, c.len.ensures, tree.params.ok.0, count_params tree.params.items, few)

pub returns-clause-entry : goal.returns-clause-entry
returns-clause-entry c = c.emit_rest.ensures.entry
