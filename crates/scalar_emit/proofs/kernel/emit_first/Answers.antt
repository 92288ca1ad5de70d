use Rattle.std.proofs.Common.{◌∷◌, ◌++◌, List, sym, ap, ◌∙◌, subst, arith}
use Rattle.std.proofs.lemmas.Result.{on_ok_weaker}
use Rattle.machine_model.specs.InstructionTable.{Listed}
use Rattle.kernel_tree.specs.Plain.{parameters_of, accumulators_of, program_of}
use Rattle.kernel_tree.specs.Items.{loop_index}
use Rattle.kernel_tree.specs.Typing.{Scope, empty, after_params}
use Rattle.kernel_tree.specs.Kinds.{VarsKinds}
use Rattle.kernel_scope.specs.Scopes.{scope_of}
use Rattle.label_fix.specs.DraftRun.{DraftEntry, Put}
use Rattle.label_fix.specs.Finished.{is_plain}
use Rattle.scalar_words.specs.KernelRegisters.{register_in, param_homes}
use Rattle.scalar_words.specs.View.{homes_of}
use Rattle.scalar_words.proofs.Layouts.{count_params}
use Rattle.loop_code.specs.Kernel.{zero_index}
use Rattle.loop_code.proofs.Emission.{begin_is, begin_count}
use Rattle.guest_types.proofs.Errors.{on_error}
use Rattle.scalar_emit.proofs.KernelCalls.{few_given, few_vars, vars_room}
use Rattle.scalar_emit.proofs.kernel.emit_first.Goals as goal

pub returns : goal.returns
returns c =
    let tree = c.args.kernel.now in
    let k = program_of tree in
    let R = register_in c.args.regs.now in
    let ps = ap parameters_of c.deref.ensures.value in
    let homes = c.in_ok-declare_params.ensures.homes ∙ ap (λ l. homes_of l ++ param_homes 0 (parameters_of c.deref.result.now)) c.requires.homes ∙ ap (param_homes 0) (ps ∙ sym (ap parameters_of c.deref-2.ensures.value)) in
    let scope = c.in_ok-declare_params.ensures.scope ∙ ap (λ (s : Scope). after_params s (parameters_of c.deref.result.now)) c.requires.scope ∙ ap (after_params (empty (loop_index k))) ps in
    let first = c.len-first.ensures ∙ tree.params.ok.0 ∙ sym (count_params tree.params.items) in
    on_ok_weaker c.put.result (λ p. record {
      labels = p.labels ∙ begin_count k (scope_of c.declare_params.new.scope) c.args.draft.now.labels c.emit_arguments.new.draft.labels c.emit_vars.new.draft.labels (accumulators_of c.deref-3.result.now) (c.in_ok-declare_params.ensures.index ∙ ap (λ (s : Scope). s.index) c.requires.scope) (ap accumulators_of c.deref-3.ensures.value) c.in_ok-emit_arguments.ensures.labels c.in_ok-emit_vars.ensures.labels;
      code = λ rest. p.code rest ∙ ap (λ (w : Listed). c.emit_vars.new.draft.entries ++ Put w ∷ rest) c.small.ensures
          ∙ c.in_ok-emit_vars.ensures.code (zero_index rest)
          ∙ c.in_ok-emit_arguments.ensures.code _
          ∙ ap (λ (l : List DraftEntry). c.args.draft.now.entries ++ l)
          (begin_is R k c.args.site.now.layout (homes_of c.declare_params.new.homes.items) (scope_of c.declare_params.new.scope) c.len-first.result c.emit_arguments.new.draft.labels c.args.draft.now.labels (parameters_of c.deref-2.result.now) (accumulators_of c.deref-3.result.now) rest
          c.requires.layout homes scope first c.in_ok-emit_arguments.ensures.labels (ap parameters_of c.deref-2.ensures.value) (ap accumulators_of c.deref-3.ensures.value));
    }) c.put.ensures

pub returns-in_err-declare_params : goal.returns-in_err-declare_params
returns-in_err-declare_params c = on_error _ _ c.from_residual.ensures.0

pub returns-in_err-emit_arguments : goal.returns-in_err-emit_arguments
returns-in_err-emit_arguments c = on_error _ _ c.from_residual-in_err-emit_arguments.ensures.0

pub returns-in_err-emit_vars : goal.returns-in_err-emit_vars
returns-in_err-emit_vars c = on_error _ _ c.from_residual-in_err-emit_vars.ensures.0

pub declare_params-requires : goal.declare_params-requires
declare_params-requires c = few_given (program_of c.args.kernel.now) c.deref.result.now (ap parameters_of c.deref.ensures.value) c.requires.params

pub emit_arguments-requires : goal.emit_arguments-requires
emit_arguments-requires c = few_given (program_of c.args.kernel.now) c.deref-2.result.now (ap parameters_of c.deref-2.ensures.value) c.requires.params

pub emit_vars-requires : goal.emit_vars-requires
emit_vars-requires c = record {
  assigned = c.requires.assigned;
  within = few_vars (program_of c.args.kernel.now) c.deref-3.result.now _ (ap accumulators_of c.deref-3.ensures.value) c.requires.vars;
  kinds = subst VarsKinds (sym (ap accumulators_of c.deref-3.ensures.value)) c.requires.kinds;
  fits =
      let tree = c.args.kernel.now in
      vars_room (program_of tree) (scope_of c.declare_params.new.scope) c.len-first.result (accumulators_of c.deref-3.result.now) (ap accumulators_of c.deref-3.ensures.value) (c.in_ok-declare_params.ensures.index ∙ ap (λ (s : Scope). s.index) c.requires.scope) (c.len-first.ensures ∙ tree.params.ok.0 ∙ sym (count_params tree.params.items)) c.requires.few;
}

pub small-requires : goal.small-requires
small-requires c = record {
  register = omega arith;
  value = omega arith;
}

pub put-requires : goal.put-requires
put-requires c = record { plain = ap is_plain c.small.ensures }
