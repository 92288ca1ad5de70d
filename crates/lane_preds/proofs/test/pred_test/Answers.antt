use Rattle.std.proofs.Common.{◌≡◌, ◌≤◌, ◌+◌, ◌*◌, not, ◌∙◌, ap, sym}
use mir.Val.{bool_byte}
use Rattle.guest_types.specs.Length.{lanes, all_lanes}
use Rattle.guest_types.specs.Elements.{bit, true_at}
use Rattle.guest_types.proofs.AtWidths.{lanes-bound}
use Rattle.lane_preds.proofs.Patterns.{of-predicate}
use Rattle.lane_preds.proofs.Flags.{flags-are, none-is}
use Rattle.lane_preds.proofs.test.pred_test.Goals as goal
use Rattle.lane_preds.proofs.test.pred_test.Goals.{in-Some, in-None, in-Some-last_bit, in-None-last_bit}

pub returns : goal.returns
returns c =
    let w = c.args.width in
    let n = lanes c.args.vl w in
    let mask = c.args.mask.now.bits in
    let outcome = c.args.outcome.now.bits in
    let x = of-predicate mask c.predicate_block.result c.predicate_block.ensures.value c.predicate_block.ensures.len c.predicate_block.ensures.bytes in
    let y = of-predicate outcome c.predicate_block-tested.result c.predicate_block-tested.ensures.value c.predicate_block-tested.ensures.len c.predicate_block-tested.ensures.bytes in
    let first : c.match-first_bit.first ≡ true_at (bit outcome) c.first_bit.result =
    elim c.match-first_bit.branch [
      | in-Some w ↦ w.first-is ∙ w.bit-first.ensures ∙ ap (true_at (bit outcome)) (sym w.in-Some.is)
      | in-None w ↦ w.first-is ∙ ap (true_at (bit outcome)) (sym w.in-None.is)
    ] in
    let last : c.match-last_bit.last ≡ true_at (bit outcome) c.last_bit.result =
    elim c.match-last_bit.branch [
      | in-Some-last_bit w ↦ w.last-is ∙ w.bit-last.ensures ∙ ap (true_at (bit outcome)) (sym w.in-Some-last_bit.is)
      | in-None-last_bit w ↦ w.last-is ∙ ap (true_at (bit outcome)) (sym w.in-None-last_bit.is)
    ] in
    let fits : n ≤ all_lanes w = (lanes-bound c.args.vl w c.all_elements-elements.ensures.valid).1 in
    let elements = c.all_elements-elements.ensures.value in
    ap (λ z. 8 * bool_byte c.match-first_bit.first + 4 * bool_byte z + 2 * bool_byte (not c.match-last_bit.last)) (none-is c.first_bit-2.result c.is_none-none.result c.is_none-none.ensures)
    ∙ flags-are w n mask outcome c.all_elements-elements.result _ _ c.match-first_bit.first c.match-last_bit.last c.first_bit-2.result fits elements x y
    (first ∙ ap (true_at (bit outcome)) c.first_bit.ensures.value) (last ∙ ap (true_at (bit outcome)) c.last_bit.ensures.value) c.first_bit-2.ensures.value
