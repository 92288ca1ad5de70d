use Rattle.std.proofs.Common.{◌≡◌, ◌/◌, length, arith, rules}
use Rattle.std.specs.Simd.{first_chunks}
use Rattle.lane_blocks.proofs.BlockSteps.{part-of}
use Rattle.lane_blocks.proofs.block.block_at.Goals as goal

pub returns : goal.returns
returns c =
    let z = c.args.z.now.bytes in
    let long : length z ≡ 256 = search rules in
    let front : c.as_chunks.result.0.now ≡ first_chunks 32 (length z / 32) z = c.as_chunks.ensures.front in
    part-of 32 z _ c.args.i front (omega arith)
