use Rattle.std.proofs.Common.{ap, cond, ◌-◌, ◌/◌, ◌%◌, ◌*◌, ◌^◌, eqb, ltb, w8}
use Rattle.lane_blocks.proofs.Lanes.{lanes-select, lanes-splat, lanes-ext}
use Rattle.lane_blocks.proofs.Masks.{lanes-below, lanes-places, below_byte, edge-power}
use Rattle.lane_blocks.proofs.mask.below.Goals as goal

pub returns : goal.returns
returns c =
    let limit = c.args.limit in
    let whole = lanes-splat 32 (limit / 8) in
    let part = lanes-splat 32 (1 * 2 ^ (limit % 8) % 65536 - 1) in
    let at_edge = lanes-select w8 eqb (lanes-places 32) whole part (lanes-splat 32 0) in
    lanes-below limit _ (lanes-ext (below_byte limit) (lanes-select w8 ltb (lanes-places 32) whole (lanes-splat 32 255) at_edge) (λ e l. ap (λ n. cond (ltb e (limit / 8)) 255 (cond (eqb e (limit / 8)) (n - 1) 0)) (edge-power limit)))
