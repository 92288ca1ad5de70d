use Rattle.std.proofs.Common.{List, length, ap, ap₂, ◌++◌, ◌∙◌, arith}
use Rattle.std.proofs.lemmas.Result.{IfOk-weaker}
use Rattle.kernel_tree.specs.declared.ast.Param.{Param}
use Rattle.kernel_tree.specs.declared.ast.Var.{Var}
use Rattle.kernel_tree.specs.Plain.{parameters_of, accumulators_of, program_of}
use Rattle.kernel_tree.specs.Typing.{Scope, after_params, after_vars}
use Rattle.kernel_tree.proofs.Scopes.{scope_index}
use Rattle.scalar_words.specs.KernelRegisters.{register_in, param_homes, var_homes}
use Rattle.scalar_words.specs.View.{homes_of}
use Rattle.scalar_words.proofs.Layouts.{count_params, count_vars}
use Rattle.guest_types.proofs.Errors.{on_error}
use Rattle.scalar_words.proofs.names.declare_names.Goals as goal

pub returns : goal.returns
returns c =
    let params = c.in_ok-declare_params.ensures in
    let first = params.scope ∙ ap₂ (λ s ps. after_params s (parameters_of ps)) c.requires.scope c.deref.ensures.value in
    let before = params.homes ∙ ap₂ (λ hs ps. homes_of hs ++ param_homes 0 (parameters_of ps)) c.requires.homes c.deref.ensures.value in
    let vars = c.declare_vars.ensures in
    let scope = IfOk-weaker c.declare_vars.result _ _ (λ _ e. e ∙ ap₂ (λ s vs. after_vars s (accumulators_of vs)) first c.deref-2.ensures.value) vars.scope in
    record {
      scope = scope;
      index = IfOk-weaker c.declare_vars.result _ _ (λ _ e. ap (λ (s : Scope). s.index) e ∙ scope_index (program_of c.args.kernel.now)) scope;
      homes = IfOk-weaker c.declare_vars.result _ _ (λ _ e. e ∙ ap₂ (λ hs vs. hs ++ var_homes (register_in c.args.regs.now) 0 (accumulators_of vs)) before c.deref-2.ensures.value) vars.homes;
    }

pub declare_params-requires : goal.declare_params-requires
declare_params-requires c =
    let here = ap (λ (ps : List Param). length ps) c.deref.ensures.value in
    let count = count_params c.args.kernel.now.params.items in
    omega (arith, here, count, c.requires.params)

pub declare_vars-requires : goal.declare_vars-requires
declare_vars-requires c =
    let here = ap (λ (vs : List Var). length vs) c.deref-2.ensures.value in
    let count = count_vars c.args.kernel.now.vars.items in
    record { assigned = c.requires.assigned; within = omega (arith, here, count, c.requires.vars) }

pub returns-in_err-declare_params : goal.returns-in_err-declare_params
returns-in_err-declare_params c =
    let failed = c.from_residual.ensures.0 in
    record { scope = on_error _ _ failed; index = on_error _ _ failed; homes = on_error _ _ failed }
