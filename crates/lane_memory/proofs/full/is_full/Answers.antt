use Rattle.std.proofs.Common.{sym, ap, ◌∙◌}
use Rattle.lane_preds.specs.Bits.{both_of}
use Rattle.lane_preds.proofs.Active.{active-common}
use Rattle.lane_memory.proofs.full.is_full.Goals as goal

pub returns : goal.returns
returns c t e l =
    let all = c.first_elements-elements.result in
    active-common c.args.width c.args.lanes e c.args.pg.now.bits all c.requires c.predicate_block-predicate.ensures.len c.first_elements-elements.ensures
    (ap (λ q. both_of q all) (sym c.predicate_block-predicate.ensures.value) ∙ c.has_bits.ensures t) l
