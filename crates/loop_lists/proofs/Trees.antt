-- The parts of a kernel's tree are those of the kernel.
use Rattle.std.proofs.Common.{◌≡◌, ℕ, List, length, sym, ap, ◌∙◌}
use Rattle.std.specs.Prelude.{option_map, vec_len}
use Rattle.std.proofs.lemmas.List.{length-map}
use Rattle.kernel_tree.specs.declared.ast.Kernel.{Kernel}
use Rattle.kernel_tree.specs.declared.ast.Param.{Param}
use Rattle.kernel_tree.specs.declared.ast.Var.{Var}
use Rattle.kernel_tree.specs.declared.checked.Checked.{Checked}
use Rattle.kernel_tree.specs.Checked.{kernel_of}
use Rattle.kernel_tree.specs.Plain.{parameter_of, parameters_of, accumulators_of, for_loop_of, returned_of}
use Rattle.loop_form.specs.View.{program}

module _ (c : Checked) (tree : Kernel) (is : tree ≡ kernel_of c) where
  pub params_counted : (n : ℕ) → n ≡ vec_len tree.params → n ≡ length (program c).params
  unfolding program
  params_counted n e = e ∙ tree.params.ok.0 ∙ sym (length-map tree.params.items parameter_of) ∙ ap (λ (t : Kernel). length (parameters_of t.params.items)) is

  pub params_listed : (ps : List Param) → ps ≡ tree.params.items → parameters_of ps ≡ (program c).params
  unfolding program
  params_listed ps e = ap parameters_of e ∙ ap (λ (t : Kernel). parameters_of t.params.items) is

  pub vars_listed : (vs : List Var) → vs ≡ tree.vars.items → accumulators_of vs ≡ (program c).vars
  unfolding program
  vars_listed vs e = ap accumulators_of e ∙ ap (λ (t : Kernel). accumulators_of t.vars.items) is

  pub same_loop : option_map for_loop_of tree.body ≡ (program c).for_loop
  unfolding program
  same_loop = ap (λ (t : Kernel). option_map for_loop_of t.body) is

  pub same_answer : option_map returned_of tree.answer ≡ (program c).answer
  unfolding program
  same_answer = ap (λ (t : Kernel). option_map returned_of t.answer) is
