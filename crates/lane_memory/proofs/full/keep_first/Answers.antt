use Rattle.std.proofs.Common.{◌*◌, ap, ◌∙◌}
use Rattle.lane_blocks.specs.Blocks.{cleared_above}
use Rattle.lane_memory.proofs.KeepLaws.{first-kept}
use Rattle.lane_memory.proofs.full.keep_first.Goals as goal

pub returns : goal.returns
returns c =
    let z = c.args.z.now.bytes in
    c.clear_above.ensures ∙ ap (λ k. cleared_above z (k * c.args.lanes)) c.bytes.ensures
    ∙ first-kept c.args.width c.args.pg.now.bits z c.args.lanes c.requires.lanes c.blocks_of-blocks.ensures.len c.blocks_of-blocks.ensures.bytes c.requires.full
