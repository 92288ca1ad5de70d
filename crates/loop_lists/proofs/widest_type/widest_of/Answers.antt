use Rattle.std.proofs.Common.{◌+◌, drop, refl, sym, ap, ap₂, ◌∙◌}
use Rattle.loop_form.specs.Lanes.{wider, widest}
use Rattle.loop_form.specs.View.{program, entries_view}
use Rattle.loop_lists.proofs.Loops.{one_carried, all_carried}
use Rattle.loop_lists.proofs.widest_type.widest_of.Goals as goal

pub loop-entry-preserved : goal.loop-entry-preserved
unfolding widest
loop-entry-preserved c =
    let k = program c.args.kernel.now in
    let l = c.loop-entry in
    let rest = drop (l.entry-index + 1) c.args.entries.now in
    let width = c.wider_of-width.ensures ∙ ap₂ wider c.wider_of.ensures c.target.ensures in
    one_carried (λ w es. widest k w (entries_view es)) c.args.entries.now l.entry-index c.entry-item.result l.width c.wider_of-width.result _ c.loop-entry-test.true c.entry-item.is
    (ap (λ w. widest k w (entries_view rest)) (sym width)) l.invariant

pub returns : goal.returns
unfolding widest
returns c = all_carried (λ w es. widest (program c.args.kernel.now) w (entries_view es)) c.args.entries.now c.loop-entry.entry-index c.loop-entry.width _ refl c.loop-entry-test.false c.loop-entry.invariant
