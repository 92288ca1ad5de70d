use Rattle.std.proofs.Common.{◌+◌, drop, ◌++◌, [], ◌∷◌, refl, sym, ap₂, ◌∙◌}
use Rattle.std.specs.Prelude.{if◌then◌else◌}
use Rattle.kernel_tree.specs.Plain.{parameter_of, parameters_of}
use Rattle.std.proofs.lemmas.Result.{IfOk-from_err}
use Rattle.loop_form.specs.HeldView.{view}
use Rattle.loop_form.specs.Needs.{Scalar, is_named_scalar, scalar_of, scalars}
use Rattle.loop_form.specs.View.{entries_view}
use Rattle.loop_lists.proofs.Loops.{one_put, all_put, one_where}
use Rattle.loop_lists.proofs.held_throughout.push_scalars.Goals as goal

pub loop-param-preserved : goal.loop-param-preserved
loop-param-preserved c =
    let es = entries_view c.args.entries.now in
    let l = c.loop-param in
    let rest = drop (l.param-index + 1) c.args.params.now in
    one_put (λ ps. scalars es (parameters_of ps)) c.args.params.now l.param-index c.param-item.result (view l.held.items) (view c.push_where.new.held.items) _ _ c.loop-param-test.true c.param-item.is c.in_ok-push_where.ensures
    (one_where scalar_of (is_named_scalar es) (parameter_of c.param-item.result) (parameters_of rest) ∙ ap₂ (λ b x. (if b then Scalar x ∷ [] else []) ++ scalars es (parameters_of rest)) (sym c.is_scalar_named-is_held.ensures) (sym c.text.ensures)) l.invariant

pub returns : goal.returns
returns c = all_put (λ ps. scalars (entries_view c.args.entries.now) (parameters_of ps)) c.args.params.now c.loop-param.param-index (view c.loop-param.held.items) _ refl c.loop-param-test.false c.loop-param.invariant

pub returns-in_err-push_where : goal.returns-in_err-push_where
returns-in_err-push_where c = IfOk-from_err c.from_residual.result _ c.from_residual.ensures.0
