use Rattle.std.proofs.Common.{◌≡◌, ℕ, List, ◌≤◌, ◌+◌, ◌*◌, ◌/◌, sym, ap, ◌∙◌}
use Rattle.guest_types.specs.declared.length.Width.{Width}
use Rattle.guest_types.specs.Length.{width_bytes, all_lanes}
use Rattle.lane_blocks.specs.Blocks.{block_lanes, below_of}
use Rattle.lane_memory.specs.Readings.{masked_of}
use Rattle.lane_memory.proofs.KeepLaws.{masked-below}
use Rattle.lane_memory.proofs.keep.keep_some.Goals as goal

kept_lanes : (w v : Width) (pg z kept out : List ℕ) (n k : ℕ) → out ≡ masked_of v kept z (block_lanes v * ((k * n + 31) / 32)) → w ≡ v
    → n ≤ all_lanes w → kept ≡ below_of pg (k * n) → k ≡ width_bytes w → out ≡ masked_of w pg z n
kept_lanes w v pg z kept out n k made is fits low bytes =
    made ∙ ap (λ w. masked_of w kept z (block_lanes w * ((k * n + 31) / 32))) (sym is)
    ∙ masked-below w pg z kept n ((k * n + 31) / 32) fits (low ∙ ap (λ k. below_of pg (k * n)) bytes) (ap (λ k. (k * n + 31) / 32) bytes)

pub returns-in-B : goal.returns-in-B
returns-in-B c =
    kept_lanes c.args.width _ c.args.pg.now.bits c.args.z.now.bytes c.bits_below-kept.result.bits _ c.args.lanes c.bytes.result
    c.keep_blocks.ensures c.in-B.is c.requires c.bits_below-kept.ensures c.bytes.ensures

pub returns-in-H : goal.returns-in-H
returns-in-H c =
    kept_lanes c.args.width _ c.args.pg.now.bits c.args.z.now.bytes c.bits_below-kept.result.bits _ c.args.lanes c.bytes.result
    c.keep_blocks-in-H.ensures c.in-H.is c.requires c.bits_below-kept.ensures c.bytes.ensures

pub returns-in-S : goal.returns-in-S
returns-in-S c =
    kept_lanes c.args.width _ c.args.pg.now.bits c.args.z.now.bytes c.bits_below-kept.result.bits _ c.args.lanes c.bytes.result
    c.keep_blocks-in-S.ensures c.in-S.is c.requires c.bits_below-kept.ensures c.bytes.ensures

pub returns-in-D : goal.returns-in-D
returns-in-D c =
    kept_lanes c.args.width _ c.args.pg.now.bits c.args.z.now.bytes c.bits_below-kept.result.bits _ c.args.lanes c.bytes.result
    c.keep_blocks-in-D.ensures c.in-D.is c.requires c.bits_below-kept.ensures c.bytes.ensures
