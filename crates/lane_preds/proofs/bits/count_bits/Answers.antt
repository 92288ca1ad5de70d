use Rattle.std.proofs.Common.{◌≤◌, ◌∙◌, refl, arith, w8, w16, Fits}
use Rattle.std.proofs.lemmas.Simd.{below_from_Fits, fold-sum, sum_fits, Each1-weaker}
use Rattle.lane_blocks.proofs.Lanes.{below-at}
use Rattle.lane_preds.proofs.Counts.{ones-fit, wider-fit, wider-few, wider-sum}
use Rattle.lane_preds.proofs.bits.count_bits.Goals as goal

pub overflow_cast-result : goal.overflow_cast-result
overflow_cast-result c =
    Each1-weaker (λ n. n ≤ 8) (λ n. Fits w8 n) (λ n l. record { fits = omega arith }) _ (ones-fit c.args.x c.fits-x.0 (below-at c.args.x (below_from_Fits w8 c.args.x c.fits-x.1)))

pub overflow_cast-result-2 : goal.overflow_cast-result-2
overflow_cast-result-2 c =
    Each1-weaker (λ n. n ≤ 8) (λ n. Fits w16 n) (λ n l. record { fits = omega arith }) _ (wider-fit c.args.x c.fits-x.0 (below-at c.args.x (below_from_Fits w8 c.args.x c.fits-x.1)) _ (λ a. refl))

pub overflow_add-result : goal.overflow_add-result
overflow_add-result c =
    sum_fits w16 0 _ (wider-few c.args.x c.fits-x.0 (below-at c.args.x (below_from_Fits w8 c.args.x c.fits-x.1)) _ _ (λ a. refl) (λ a. refl))

pub returns : goal.returns
returns c = fold-sum 0 _ ∙ wider-sum c.args.x c.fits-x.0 (below-at c.args.x (below_from_Fits w8 c.args.x c.fits-x.1)) _ _ (λ a. refl) (λ a. refl)
