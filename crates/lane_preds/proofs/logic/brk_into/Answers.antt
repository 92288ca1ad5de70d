use Rattle.std.proofs.Common.{◌≡◌, ◌∙◌, ap, sym}
use Rattle.guest_types.specs.Elements.{bits_of}
use Rattle.lane_blocks.specs.Blocks.{is_below}
use Rattle.lane_preds.proofs.Patterns.{of-predicate, brk_limit, brk-is}
use Rattle.lane_preds.proofs.logic.brk_into.Goals as goal
use Rattle.lane_preds.proofs.logic.brk_into.Goals.{in-Some, in-None}

pub returns : goal.returns
returns c =
    let pg = c.args.pg.now.bits in
    let p = c.args.p.now.bits in
    let x = of-predicate pg c.predicate_block-mask.result c.predicate_block-mask.ensures.value c.predicate_block-mask.ensures.len c.predicate_block-mask.ensures.bytes in
    let y = of-predicate p c.predicate_block-tested.result c.predicate_block-tested.ensures.value c.predicate_block-tested.ensures.len c.predicate_block-tested.ensures.bytes in
    let limit : c.match-first_bit.limit ≡ brk_limit c.args.after c.first_bit.result =
    elim c.match-first_bit.branch [
      | in-Some w ↦ w.limit-is ∙ ap (brk_limit c.args.after) (sym w.in-Some.is)
      | in-None w ↦ w.limit-is ∙ ap (brk_limit c.args.after) (sym w.in-None.is)
    ] in
    brk-is c.args.after pg p _ _ _ c.first_bit.result x y c.first_bit.ensures.value (c.below-limits.ensures ∙ ap (λ n. bits_of (is_below n) 32) limit)
