use Rattle.std.proofs.Common.{ap, ◌∙◌}
use Rattle.kernel_tree.specs.declared.fault.Binding.TheVariants as binding
use Rattle.kernel_tree.specs.Plain.{name_of, program_of}
use Rattle.kernel_tree.specs.Typing.{Scope}
use Rattle.kernel_tree.proofs.Scopes.{scope_outside}
use Rattle.kernel_scope.specs.Scopes.{scope_of, closed}
use Rattle.loop_code.proofs.Emission.{undeclared}
use Rattle.guest_types.proofs.Errors.{on_error}
use Rattle.loop_code.proofs.loosening.loosen_names.Goals as goal

pub returns-clause-scope : goal.returns-clause-scope
returns-clause-scope c =
    let s = scope_of c.args.scope.now in
    let n = c.visible_count-visible.result in
    let m = c.declared_count-taken.result in
    c.close.ensures
    ∙ ap (closed n m) (c.in_ok-loosen_block.ensures.scope ∙ c.in_ok-keep_moved.ensures.scope ∙ c.in_ok-moved_names.ensures.scope ∙ c.in_ok-declare.ensures)
    ∙ undeclared s (name_of c.args.for_loop.now.index) binding.Index n m c.visible_count-visible.ensures c.declared_count-taken.ensures (ap (λ (t : Scope). t.inside) c.requires.scope ∙ scope_outside (program_of c.args.kernel.now))

pub returns-in_err-declare : goal.returns-in_err-declare
returns-in_err-declare c =
    let failed = c.from_residual.ensures.0 in
    record { scope = on_error _ _ failed; layout = on_error _ _ failed }

pub returns-in_err-moved_names : goal.returns-in_err-moved_names
returns-in_err-moved_names c =
    let failed = c.from_residual-in_err-moved_names.ensures.0 in
    record { scope = on_error _ _ failed; layout = on_error _ _ failed }

pub returns-in_err-keep_moved : goal.returns-in_err-keep_moved
returns-in_err-keep_moved c =
    let failed = c.from_residual-in_err-keep_moved.ensures.0 in
    record { scope = on_error _ _ failed; layout = on_error _ _ failed }

pub returns-in_err-loosen_block : goal.returns-in_err-loosen_block
returns-in_err-loosen_block c =
    let failed = c.from_residual-in_err-loosen_block.ensures.0 in
    record { scope = on_error _ _ failed; layout = on_error _ _ failed }
