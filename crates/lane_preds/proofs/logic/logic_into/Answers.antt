use Rattle.std.proofs.Common.{◌∙◌}
use Rattle.lane_preds.proofs.Patterns.{of-predicate, by-pred, and-is, bic-is, eor-is, orr-is}
use Rattle.lane_preds.proofs.logic.logic_into.Goals as goal
use Rattle.lane_preds.proofs.logic.logic_into.Goals.{in-And, in-Bic, in-Eor, in-Orr}

pub returns : goal.returns
returns c =
    let pg = c.args.pg.now.bits in
    let l = c.args.left.now.bits in
    let r = c.args.right.now.bits in
    let x = of-predicate pg c.predicate_block-mask.result c.predicate_block-mask.ensures.value c.predicate_block-mask.ensures.len c.predicate_block-mask.ensures.bytes in
    let y = of-predicate l c.predicate_block-l.result c.predicate_block-l.ensures.value c.predicate_block-l.ensures.len c.predicate_block-l.ensures.bytes in
    let z = of-predicate r c.predicate_block-r.result c.predicate_block-r.ensures.value c.predicate_block-r.ensures.len c.predicate_block-r.ensures.bytes in
    elim c.match-op.branch [
      | in-And w ↦ by-pred pg l r w.in-And.is (w.bits-is ∙ and-is pg l r _ _ _ x y z)
      | in-Bic w ↦ by-pred pg l r w.in-Bic.is (w.bits-is ∙ bic-is pg l r _ _ _ x y z)
      | in-Eor w ↦ by-pred pg l r w.in-Eor.is (w.bits-is ∙ eor-is pg l r _ _ _ x y z)
      | in-Orr w ↦ by-pred pg l r w.in-Orr.is (w.bits-is ∙ orr-is pg l r _ _ _ x y z)
    ]
