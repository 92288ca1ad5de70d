use Rattle.std.proofs.Common.{◌+◌, ◌*◌, [], ◌++◌, ap, ◌∙◌, length, sym, subst, ◌≤◌}
use Rattle.std.proofs.lemmas.Result.{on_ok_weaker}
use Rattle.kernel_tree.specs.declared.ast.Kernel.{Kernel}
use Rattle.kernel_tree.specs.Plain.{program_of, Program}
use Rattle.kernel_tree.specs.Items.{size_of}
use Rattle.kernel_tree.specs.Kinds.{VarsKinds}
use Rattle.kernel_tree.specs.Typing.{empty}
use Rattle.loop_form.specs.View.{program}
use Rattle.scalar_words.specs.KernelRegisters.{register_in, layout_of_kernel}
use Rattle.loop_code.specs.Kernel.{begin_labels, begin_code}
use Rattle.label_fix.proofs.PlacedRuns.{words_added}
use Rattle.loop_code.proofs.Counts.{begin_words}
use Rattle.guest_types.proofs.Errors.{on_error}
use Rattle.scalar_emit.proofs.kernel.emit_begin.Goals as goal

pub returns-clause-emits : goal.returns-clause-emits
unfolding program
returns-clause-emits c =
    let R = register_in c.args.regs.now in
    let n = c.args.draft.now.labels in
    on_ok_weaker c.emit_first.result (λ p. record {
      labels = p.labels ∙ ap (λ (t : Kernel). n + begin_labels (program_of t)) c.kernel-tree.ensures;
      code = λ rest. p.code rest ∙ ap (λ (t : Kernel). c.args.draft.now.entries ++ begin_code R (program_of t) n rest) c.kernel-tree.ensures;
    }) c.emit_first.ensures

pub returns-clause-words : goal.returns-clause-words
returns-clause-words c =
    let k = program c.args.kernel.now in
    let R = register_in c.args.regs.now in
    let n = c.args.draft.now.labels in
    on_ok_weaker c.emit_first.result (λ p. words_added c.args.draft.now.entries c.emit_first.new.draft.entries (begin_code R k n []) (40 + 8 * size_of k) (p.code []) (begin_words R k n [])) (returns-clause-emits c)

pub returns-in_err-layout : goal.returns-in_err-layout
returns-in_err-layout c =
    let failed = c.from_residual.ensures.0 in
    record { words = on_error _ _ failed; emits = on_error _ _ failed }

pub each_has_a_register-requires : goal.each_has_a_register-requires
each_has_a_register-requires c = record { fits = c.requires.fits }

pub lay_out-requires : goal.lay_out-requires
lay_out-requires c = record {
  fits = c.requires.fits;
  listed = c.requires.listed;
}

pub emit_first-requires : goal.emit_first-requires
unfolding program
emit_first-requires c = record {
  assigned = c.requires.fits.assigned;
  vars =
      let same = sym (ap program_of c.kernel-tree.ensures) in
      subst (λ (k : Program). length k.vars ≤ length c.args.regs.now.registers) same c.each_has_a_register.ensures.vars;
  params =
      let same = sym (ap program_of c.kernel-tree.ensures) in
      subst (λ (k : Program). length k.params ≤ 8) same c.few_params.ensures;
  kinds =
      let same = sym (ap program_of c.kernel-tree.ensures) in
      subst (λ (k : Program). VarsKinds k.vars) same c.right_kinds.ensures.vars;
  few =
      let same = sym (ap program_of c.kernel-tree.ensures) in
      subst (λ (k : Program). size_of k ≤ 1000) same c.few_items.ensures.size;
  layout =
      let same = sym (ap program_of c.kernel-tree.ensures) in
      c.in_ok-layout.ensures ∙ ap (layout_of_kernel (register_in c.args.regs.now)) same;
  scope = c.empty-scope.ensures ∙ ap empty c.loop_index.ensures;
  homes = c.new-homes.ensures.items;
}
