use Rattle.std.proofs.Common.{◌+◌, drop, ◌++◌, [], ◌∷◌, map, refl, sym, ap₂, ◌∙◌}
use Rattle.std.specs.Prelude.{filter, if◌then◌else◌}
use Rattle.kernel_tree.specs.Plain.{accumulator_of, accumulators_of}
use Rattle.std.proofs.lemmas.Result.{IfOk-from_err}
use Rattle.loop_form.specs.HeldView.{view}
use Rattle.loop_form.specs.Needs.{Accumulating, is_updated, accumulating_of}
use Rattle.loop_form.specs.View.{entries_view}
use Rattle.loop_lists.proofs.Loops.{one_put, all_put, one_where}
use Rattle.loop_lists.proofs.held_throughout.push_updated.Goals as goal

pub loop-var-preserved : goal.loop-var-preserved
loop-var-preserved c =
    let es = entries_view c.args.entries.now in
    let l = c.loop-var in
    let rest = drop (l.var-index + 1) c.args.vars.now in
    one_put (λ vs. map accumulating_of (filter (is_updated es) (accumulators_of vs))) c.args.vars.now l.var-index c.var-item.result (view l.held.items) (view c.push_where.new.held.items) _ _ c.loop-var-test.true c.var-item.is c.in_ok-push_where.ensures
    (one_where accumulating_of (is_updated es) (accumulator_of c.var-item.result) (accumulators_of rest) ∙ ap₂ (λ b x. (if b then Accumulating x ∷ [] else []) ++ map accumulating_of (filter (is_updated es) (accumulators_of rest))) (sym c.is_var_updated-is_held.ensures) (sym c.text.ensures)) l.invariant

pub returns : goal.returns
returns c = all_put (λ vs. map accumulating_of (filter (is_updated (entries_view c.args.entries.now)) (accumulators_of vs))) c.args.vars.now c.loop-var.var-index (view c.loop-var.held.items) _ refl c.loop-var-test.false c.loop-var.invariant

pub returns-in_err-push_where : goal.returns-in_err-push_where
returns-in_err-push_where c = IfOk-from_err c.from_residual.result _ c.from_residual.ensures.0
