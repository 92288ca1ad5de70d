use Rattle.std.proofs.Common.{◌-◌, length, drop, ap, ◌∙◌, arith}
use Rattle.std.proofs.lemmas.List.{length-drop, take_all}
use Rattle.loop_form.specs.LoopView.{view}
use Rattle.first_fault.proofs.Sizes.{rest_view}
use Rattle.first_fault.proofs.break_region.rest.Goals as goal

pub returns : goal.returns
returns c =
    let count = length-drop c.break_region.result c.args.items.now in
    ap view (take_all (length c.args.items.now - c.break_region.result) (drop c.break_region.result c.args.items.now) (omega (arith, count)))
    ∙ ap (λ n. view (drop n c.args.items.now)) c.break_region.ensures ∙ rest_view c.args.items.now
