use Rattle.std.proofs.Common.{◌*◌, ◌∙◌, ap, sym}
use Rattle.guest_types.specs.declared.length.Width.TheVariants.{D}
use Rattle.guest_types.specs.Length.{width_bytes, lanes}
use Rattle.guest_types.specs.Elements.{bits_of}
use Rattle.guest_types.proofs.AtWidths.{width_bytes-lanes}
use Rattle.lane_blocks.specs.Blocks.{is_below}
use Rattle.lane_preds.proofs.Patterns.{first-elements}
use Rattle.lane_preds.proofs.bits.all_elements.Goals as goal

pub returns-clause-value : goal.returns-clause-value
returns-clause-value c =
    let w = c.args.width in
    let vl = c.args.vl in
    let valid = c.lanes.ensures.valid in
    first-elements (width_bytes w) (lanes vl w) _ _ c.starts-starts.ensures
    (c.below-limits.ensures ∙ ap (λ k. bits_of (is_below k) 32) (ap (λ n. 8 * n) c.lanes.ensures.value ∙ width_bytes-lanes vl D valid ∙ sym (width_bytes-lanes vl w valid)))
