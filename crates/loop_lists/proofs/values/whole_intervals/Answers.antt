use Rattle.std.proofs.Common.{◌≡◌, ℕ, ◌∙◌, ap, ◌++◌, [], ◌∷◌, arith}
use Rattle.std.proofs.Math.ListN.{replicate}
use Rattle.std.proofs.lemmas.Result.{IfOk-from_err}
use Rattle.std.proofs.lemmas.List.{replicate_more}
use Rattle.loop_lists.proofs.values.whole_intervals.Goals as goal

pub loop-made-preserved : goal.loop-made-preserved
loop-made-preserved c = c.in_ok-push.ensures.items ∙ ap (λ l. l ++ record { from = 0; last_use = c.args.size } ∷ []) c.loop-made.invariant ∙ replicate_more c.loop-made._made (record { from = 0; last_use = c.args.size })

pub returns-in_err-push : goal.returns-in_err-push
returns-in_err-push c = IfOk-from_err c.from_residual.result _ c.from_residual.ensures.0

pub loop-made-init : goal.loop-made-init
loop-made-init c = c.new-intervals.ensures.items

pub returns : goal.returns
returns c =
    let l = c.loop-made in
    let made : l._made ≡ c.args.count = omega (arith, l.auto._made-end, c.loop-made-test.false) in
    l.invariant ∙ ap (λ (n : ℕ). replicate n (record { from = 0; last_use = c.args.size })) made
