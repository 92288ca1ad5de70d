use Rattle.std.proofs.Common.{◌∙◌, ◌*◌, ap}
use Rattle.guest_types.specs.Length.{width_bytes}
use Rattle.guest_types.specs.Elements.{bits_of}
use Rattle.lane_blocks.specs.Blocks.{is_below}
use Rattle.lane_preds.proofs.Patterns.{first-elements}
use Rattle.lane_preds.proofs.bits.first_elements.Goals as goal

pub returns : goal.returns
returns c =
    first-elements (width_bytes c.args.width) c.args.count _ _ c.starts-starts.ensures
    (c.below-limits.ensures ∙ ap (λ k. bits_of (is_below (k * c.args.count)) 32) c.bytes.ensures)
