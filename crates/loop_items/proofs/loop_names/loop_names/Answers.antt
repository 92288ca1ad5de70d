use Rattle.std.proofs.Common.{ℕ, List, map, ap, ◌∙◌, refl}
use Rattle.std.proofs.lemmas.Result.{IfOk-from_err}
use Rattle.kernel_tree.specs.declared.ast.Kernel.{Kernel}
use Rattle.kernel_tree.specs.declared.ast.Param.{Param}
use Rattle.kernel_tree.specs.declared.ast.Var.{Var}
use Rattle.kernel_tree.specs.declared.fault.Binding.TheVariants as binding
use Rattle.kernel_tree.specs.Plain.{parameters_of, accumulators_of, for_loop_of}
use Rattle.kernel_tree.specs.Typing.{local}
use Rattle.kernel_tree.specs.Scopes.{param_local, var_local}
use Rattle.loop_form.specs.declared.loop_item.Operand.TheVariants.{LoopIndex}
use Rattle.loop_form.specs.LoopItems.{bound}
use Rattle.loop_form.specs.View.{program}
use Rattle.loop_form.proofs.LoopLists.{loop-head, adds-same}
use Rattle.loop_items.proofs.loop_names.loop_names.Goals as goal

pub returns : goal.returns
unfolding program
returns c =
    let k = program c.args.kernel.now in
    loop-head k (for_loop_of c.args.for_loop.now) c.add_params.new.names.items c.add_vars.new.names.items c.push.new.self.items _
    (adds-same _ _ _ _ _ (ap (λ (ps : List Param). map param_local (parameters_of ps)) (c.deref.ensures.value ∙ ap (λ (t : Kernel). t.params.items) c.kernel-tree.ensures)) c.new-names.ensures.items c.in_ok-add_params.ensures)
    (adds-same _ _ _ _ _ (ap (λ (vs : List Var). map var_local (accumulators_of vs)) (c.deref-2.ensures.value ∙ ap (λ (t : Kernel). t.vars.items) c.kernel-tree.ensures)) refl c.in_ok-add_vars.ensures)
    c.in_ok-push.ensures.items
    (ap (λ (x : List ℕ). local x binding.Index) c.text.ensures)
    (ap (λ (x : List ℕ). bound x LoopIndex) c.text.ensures)

pub returns-in_err-add_params : goal.returns-in_err-add_params
returns-in_err-add_params c = IfOk-from_err c.from_residual.result _ c.from_residual.ensures.0

pub returns-in_err-add_vars : goal.returns-in_err-add_vars
returns-in_err-add_vars c = IfOk-from_err c.from_residual-in_err-add_vars.result _ c.from_residual-in_err-add_vars.ensures.0

pub returns-in_err-push : goal.returns-in_err-push
returns-in_err-push c = IfOk-from_err c.from_residual-in_err-push.result _ c.from_residual-in_err-push.ensures.0
