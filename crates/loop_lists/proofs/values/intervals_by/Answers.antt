use Rattle.std.proofs.Common.{List, ◌++◌, sym, ap, ap₂, ◌∙◌}
use Rattle.std.proofs.Math.ListN.{replicate}
use Rattle.reg_assign.specs.declared.interval.Interval.{Interval}
use Rattle.loop_form.specs.Needs.{throughout, values}
use Rattle.loop_form.specs.View.{program}
use Rattle.loop_form.proofs.IntervalLaws.{whole-replicate}
use Rattle.loop_lists.proofs.values.intervals_by.Goals as goal

pub returns : goal.returns
unfolding program
returns c =
    let k = program c.args.kernel.now in
    let whole = c.in_ok-intervals.ensures ∙ ap₂ (λ n m. replicate n (record { from = 0; last_use = m })) c.in_ok-held.ensures c.item_count.ensures ∙ sym (whole-replicate k (throughout k c.args.class)) in
    c.in_ok-push_values.ensures ∙ ap (λ (xs : List Interval). xs ++ values k c.args.class) whole
