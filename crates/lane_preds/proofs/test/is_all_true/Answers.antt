use Rattle.std.proofs.Common.{sym, ap, ◌∙◌}
use Rattle.guest_types.specs.Length.{lanes}
use Rattle.guest_types.proofs.AtWidths.{lanes-bound}
use Rattle.lane_preds.specs.Bits.{both_of}
use Rattle.lane_preds.proofs.Active.{active-common}
use Rattle.lane_preds.proofs.test.is_all_true.Goals as goal

pub returns : goal.returns
returns c t e l =
    let w = c.args.width in
    let all = c.all_elements-elements.result in
    active-common w (lanes c.args.vl w) e c.args.p.now.bits all (lanes-bound c.args.vl w c.all_elements-elements.ensures.valid).1 c.predicate_block-predicate.ensures.len c.all_elements-elements.ensures.value
    (ap (λ q. both_of q all) (sym c.predicate_block-predicate.ensures.value) ∙ c.has_bits-is_all.ensures t) l
