use Rattle.std.proofs.Common.{◌≤◌, ◌∙◌}
use Rattle.guest_types.specs.Length.{lanes, all_lanes}
use Rattle.guest_types.proofs.AtWidths.{lanes-bound}
use Rattle.lane_preds.proofs.Patterns.{of-predicate}
use Rattle.lane_preds.proofs.Counts.{count-is}
use Rattle.lane_preds.proofs.test.count.Goals as goal

pub returns : goal.returns
returns c =
    let w = c.args.width in
    let n = lanes c.args.vl w in
    let pg = c.args.pg.now.bits in
    let p = c.args.p.now.bits in
    let x = of-predicate pg c.predicate_block-mask.result c.predicate_block-mask.ensures.value c.predicate_block-mask.ensures.len c.predicate_block-mask.ensures.bytes in
    let y = of-predicate p c.predicate_block-tested.result c.predicate_block-tested.ensures.value c.predicate_block-tested.ensures.len c.predicate_block-tested.ensures.bytes in
    let fits : n ≤ all_lanes w = (lanes-bound c.args.vl w c.all_elements-elements.ensures.valid).1 in
    let elements = c.all_elements-elements.ensures.value in
    c.count_bits.ensures ∙ count-is w n pg p c.all_elements-elements.result _ _ fits elements x y
