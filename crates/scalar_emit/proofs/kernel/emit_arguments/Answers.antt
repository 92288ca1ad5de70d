use Rattle.std.proofs.Common.{refl, arith, List, ◌++◌, sym, ap, ◌∙◌}
use Rattle.kernel_tree.specs.Plain.{Parameter}
use Rattle.loop_code.specs.Kernel.{arguments_code}
use Rattle.guest_types.proofs.Errors.{on_error}
use Rattle.kernel_tree.proofs.Walks.{no_param}
use Rattle.scalar_emit.proofs.kernel.emit_arguments.Goals as goal

pub returns-in_err-emit_settle : goal.returns-in_err-emit_settle
returns-in_err-emit_settle c = on_error _ _ c.from_residual.ensures.0

pub loop-param-init : goal.loop-param-init
loop-param-init c = record { place = refl; labels = refl; code = λ rest. refl }

pub offset_bounds-params-param-index : goal.offset_bounds-params-param-index
offset_bounds-params-param-index c = omega arith

pub overflow_add-place : goal.overflow_add-place
overflow_add-place c = omega arith

pub invariant_of-emit_settle : goal.invariant_of-emit_settle
invariant_of-emit_settle c = record { in_range = omega arith }

pub returns : goal.returns
returns c =
    let l = c.loop-param in
    let end = no_param c.args.params.now l.param-index c.loop-param-test.false in
    record {
      labels = l.invariant.labels;
      code = λ rest. ap (λ (ps : List Parameter). l.draft.entries ++ arguments_code l.place ps rest) (sym end) ∙ l.invariant.code rest;
    }
