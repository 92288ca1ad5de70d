use Rattle.std.proofs.Common.{not, eqb, arith, w8}
use Rattle.std.proofs.lemmas.Simd.{bitmask_splat}
use Rattle.lane_preds.proofs.bits.nonzero_bytes.Goals as goal

pub returns : goal.returns
returns c = bitmask_splat w8 (λ a b. not (eqb a b)) c.args.x 32 0 c.fits-x.0 (omega arith)
