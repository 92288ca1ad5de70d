use Rattle.std.proofs.Common.{◌≡◌, ◌+◌, ◌-◌, ◌*◌, length, arith, rules}
use Rattle.lane_blocks.proofs.BlockSteps.{put-part}
use Rattle.lane_blocks.proofs.mask.put_mask.Goals as goal

pub returns : goal.returns
returns c =
    let p = c.args.p.now.bits in
    let i = c.args.i in
    let long : length p ≡ 32 = search rules in
    let four : length c.args.bits ≡ 4 = search rules in
    put-part 4 (4 * i) (4 * i + 4 - 4 * i) p c.args.bits (omega arith) (omega arith) four
