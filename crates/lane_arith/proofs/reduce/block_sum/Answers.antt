use Rattle.std.proofs.Common.{◌∙◌, refl, ap, sym, w8}
use Rattle.std.proofs.lemmas.Simd.{below_from_Fits}
use Rattle.guest_types.specs.declared.length.Width.{Width}
use Rattle.guest_types.specs.declared.length.Width.TheVariants.{B, H, S, D}
use Rattle.guest_types.specs.declared.operation.ReduceOp.TheVariants.{UAdd}
use Rattle.lane_blocks.proofs.Lanes.{lanes-bytes, lanes-wide, lanes-map}
use Rattle.lane_arith.specs.Blocks.{block_fold}
use Rattle.lane_arith.proofs.Reduced.{sum-lanes}
use Rattle.lane_arith.proofs.reduce.block_sum.Goals as goal

pub returns-in-B : goal.returns-in-B
returns-in-B c = sum-lanes B (lanes-map (λ n. n) (lanes-bytes 32 c.args.x c.fits-x.0)) ∙ ap (λ (w : Width). block_fold UAdd w c.args.x) (sym c.in-B.is)

pub returns-in-H : goal.returns-in-H
returns-in-H c = sum-lanes H (lanes-map (λ n. n) (lanes-wide 2 65536 16 c.args.x refl (below_from_Fits w8 c.args.x c.fits-x.1))) ∙ ap (λ (w : Width). block_fold UAdd w c.args.x) (sym c.in-H.is)

pub returns-in-S : goal.returns-in-S
returns-in-S c = sum-lanes S (lanes-map (λ n. n) (lanes-wide 4 4294967296 8 c.args.x refl (below_from_Fits w8 c.args.x c.fits-x.1))) ∙ ap (λ (w : Width). block_fold UAdd w c.args.x) (sym c.in-S.is)

pub returns-in-D : goal.returns-in-D
returns-in-D c = sum-lanes D (lanes-wide 8 18446744073709551616 4 c.args.x refl (below_from_Fits w8 c.args.x c.fits-x.1)) ∙ ap (λ (w : Width). block_fold UAdd w c.args.x) (sym c.in-D.is)
