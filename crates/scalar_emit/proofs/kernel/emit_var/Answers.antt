use Rattle.std.proofs.Common.{◌++◌, List, refl, ap, ◌∙◌, arith, ◌+◌}
use Rattle.std.proofs.lemmas.Result.{on_ok_weaker}
use Rattle.kernel_tree.specs.Plain.{accumulator_of}
use Rattle.kernel_scope.specs.Scopes.{scope_of}
use Rattle.label_fix.specs.DraftRun.{DraftEntry}
use Rattle.scalar_words.specs.KernelRegisters.{register_in}
use Rattle.scalar_words.specs.View.{homes_of}
use Rattle.scalar_emit.proofs.LoopCode.{var_is}
use Rattle.guest_types.proofs.Errors.{on_error}
use Rattle.kernel_tree.proofs.Calls.{on_any}
use Rattle.scalar_emit.proofs.kernel.emit_var.Goals as goal

pub returns-in_err-from : goal.returns-in_err-from
returns-in_err-from c =
    let failed = c.from_residual.ensures.0 in
    record { layout = on_error _ _ failed; scope = on_error _ _ failed; homes = on_error _ _ failed; item = on_error _ _ failed; emits = on_error _ _ failed }

pub returns-in_err-emit_copy : goal.returns-in_err-emit_copy
returns-in_err-emit_copy c =
    let failed = c.from_residual-in_err-emit_copy.ensures.0 in
    record { layout = on_error _ _ failed; scope = on_error _ _ failed; homes = on_error _ _ failed; item = on_error _ _ failed; emits = on_error _ _ failed }

pub emit_value-requires : goal.emit_value-requires
emit_value-requires c = record {
  kind = c.requires.kind;
  fits = omega (arith, c.requires.fits);
}

pub counted_register-requires : goal.counted_register-requires
counted_register-requires c = record {
  assigned = c.requires.assigned;
  within = c.requires.within;
}

pub declare_var-requires : goal.declare_var-requires
declare_var-requires c = record {
  assigned = c.requires.assigned;
  within = c.requires.within;
}

pub overflow_add-item : goal.overflow_add-item
overflow_add-item c = omega (arith, c.requires.fits, c.in_ok-from.ensures.item)

pub returns : goal.returns
returns c = record {
  emits =
      on_ok_weaker c.declare_var.result (λ _. record {
        labels = c.in_ok-emit_copy.ensures.labels ∙ c.in_ok-from.ensures.emits.labels;
        code = λ rest. c.in_ok-emit_copy.ensures.code rest
            ∙ c.in_ok-from.ensures.emits.code _
            ∙ ap (λ (l : List DraftEntry). c.args.draft.now.entries ++ l)
            (var_is c.args.site.now.layout (register_in c.args.regs.now) (homes_of c.args.site.now.homes.items) (homes_of c.args.site.now.homes.items) (scope_of c.args.site.now.scope) c.args.place c.args.item.now c.args.draft.now.labels c.counted_register.result.number c.in_ok-from.from.number (accumulator_of c.args.var.now) rest
            refl c.counted_register.ensures c.in_ok-from.ensures.register);
      }) c.declare_var.ensures.scope;
  layout = on_any c.declare_var.result refl;
  scope = c.declare_var.ensures.scope;
  homes = c.declare_var.ensures.homes;
  item = on_any c.declare_var.result (ap (λ n. n + 1) c.in_ok-from.ensures.item);
}
