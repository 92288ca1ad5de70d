use Rattle.std.proofs.Common.{◌∙◌, sym, w8}
use Rattle.std.proofs.lemmas.Simd.{below_from_Fits}
use Rattle.lane_blocks.proofs.Lanes.{below-at}
use Rattle.lane_preds.proofs.Places.{last-empty, highest_from}
use Rattle.lane_preds.proofs.bits.last_bit.Goals as goal

pub bounds-bytes-i : goal.bounds-bytes-i
bounds-bytes-i c =
    (highest_from c.args.x c.nonzero_bytes-nonzero.result c.fits-x.0 (below-at c.args.x (below_from_Fits w8 c.args.x c.fits-x.1)) c.nonzero_bytes-nonzero.ensures c.if-nonzero-eq0.false).byte

pub returns-then-nonzero-eq0-clause-value : goal.returns-then-nonzero-eq0-clause-value
returns-then-nonzero-eq0-clause-value c = sym (last-empty c.args.x c.fits-x.0 (sym c.nonzero_bytes-nonzero.ensures ∙ c.if-nonzero-eq0.true))

pub returns-else-nonzero-eq0-clause-value : goal.returns-else-nonzero-eq0-clause-value
returns-else-nonzero-eq0-clause-value c =
    sym (highest_from c.args.x c.nonzero_bytes-nonzero.result c.fits-x.0 (below-at c.args.x (below_from_Fits w8 c.args.x c.fits-x.1)) c.nonzero_bytes-nonzero.ensures c.if-nonzero-eq0.false).value

pub returns-else-nonzero-eq0-clause-inside : goal.returns-else-nonzero-eq0-clause-inside
returns-else-nonzero-eq0-clause-inside c =
    (highest_from c.args.x c.nonzero_bytes-nonzero.result c.fits-x.0 (below-at c.args.x (below_from_Fits w8 c.args.x c.fits-x.1)) c.nonzero_bytes-nonzero.ensures c.if-nonzero-eq0.false).inside

pub overflow_sub-result : goal.overflow_sub-result
overflow_sub-result c =
    (highest_from c.args.x c.nonzero_bytes-nonzero.result c.fits-x.0 (below-at c.args.x (below_from_Fits w8 c.args.x c.fits-x.1)) c.nonzero_bytes-nonzero.ensures c.if-nonzero-eq0.false).left
