use Rattle.std.proofs.Common.{◌≡◌, ◌+◌, ◌-◌, ◌*◌, length, arith, rules}
use Rattle.lane_blocks.proofs.BlockSteps.{put-part}
use Rattle.lane_blocks.proofs.block.put_block.Goals as goal

pub returns : goal.returns
returns c =
    let z = c.args.z.now.bytes in
    let i = c.args.i in
    let long : length z ≡ 256 = search rules in
    put-part 32 (32 * i) (32 * i + 32 - 32 * i) z c.args.block (omega arith) (omega arith) c.fits-block.0
