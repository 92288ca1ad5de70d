use Rattle.std.proofs.Common.{◌<◌, ◌∙◌, ◌+◌, ◌-◌, ◌*◌, not, ltb, ap, min, arith}
use mir.Val.{bool_byte}
use Rattle.guest_types.specs.Length.{width_bytes, lanes}
use Rattle.guest_types.specs.Elements.{predicate}
use Rattle.guest_types.specs.Lanes.{all_at}
use Rattle.guest_types.proofs.AtWidths.{lanes-bound}
use Rattle.lane_preds.proofs.Patterns.{while-is}
use Rattle.lane_preds.proofs.Flags.{while-flags}
use Rattle.lane_preds.proofs.make.while_lo_test.Goals as goal

pub returns-clause-predicate : goal.returns-clause-predicate
returns-clause-predicate c =
    let w = c.args.width in
    c.first_elements.ensures
    ∙ ap (predicate (width_bytes w) all_at) (c.lanes_below-count.ensures ∙ ap (λ n. min n (c.args.to - c.args.from)) c.lanes-lanes.ensures.value)
    ∙ while-is w (lanes c.args.vl w) c.args.from c.args.to

pub returns-clause-flags : goal.returns-clause-flags
returns-clause-flags c =
    let n = lanes c.args.vl c.args.width in
    let many : 0 < n = omega (arith, (lanes-bound c.args.vl c.args.width c.lanes-lanes.ensures.valid).0) in
    ap (λ k. 8 * bool_byte (ltb 0 k) + 4 * bool_byte (not (ltb 0 k)) + 2 * bool_byte (ltb k c.lanes-lanes.result)) c.lanes_below-count.ensures
    ∙ ap (λ m. let k = min m (c.args.to - c.args.from) in 8 * bool_byte (ltb 0 k) + 4 * bool_byte (not (ltb 0 k)) + 2 * bool_byte (ltb k m)) c.lanes-lanes.ensures.value
    ∙ while-flags n c.args.from c.args.to many
