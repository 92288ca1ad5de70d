use Rattle.std.proofs.Common.{◌+◌, drop, [], ◌∷◌, map, refl, sym, ap, ◌∙◌}
use Rattle.std.proofs.lemmas.List.{map-append}
use Rattle.kernel_tree.specs.Plain.{accumulators_of}
use Rattle.std.proofs.lemmas.Result.{IfOk-from_err}
use Rattle.loop_form.specs.HeldView.{view, view_of}
use Rattle.loop_form.specs.Needs.{Accumulating, accumulating_of}
use Rattle.loop_lists.proofs.Loops.{one_put, all_put}
use Rattle.loop_lists.proofs.held_throughout.push_vars.Goals as goal

pub loop-var-preserved : goal.loop-var-preserved
loop-var-preserved c =
    let l = c.loop-var in
    let rest = drop (l.var-index + 1) c.args.vars.now in
    one_put (λ vs. map accumulating_of (accumulators_of vs)) c.args.vars.now l.var-index c.var-item.result (view l.held.items) (view c.push.new.self.items) (Accumulating c.text.result.now ∷ []) _ c.loop-var-test.true c.var-item.is
    (ap view c.in_ok-push.ensures.items ∙ map-append view_of l.held.items _) (ap (λ x. Accumulating x ∷ map accumulating_of (accumulators_of rest)) (sym c.text.ensures)) l.invariant

pub returns : goal.returns
returns c = all_put (λ vs. map accumulating_of (accumulators_of vs)) c.args.vars.now c.loop-var.var-index (view c.loop-var.held.items) _ refl c.loop-var-test.false c.loop-var.invariant

pub returns-in_err-push : goal.returns-in_err-push
returns-in_err-push c = IfOk-from_err c.from_residual.result _ c.from_residual.ensures.0
