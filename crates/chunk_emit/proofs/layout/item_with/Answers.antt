use Rattle.std.proofs.Common.{ap, ◌∙◌}
use Rattle.std.specs.Prelude.{slice_get}
use Rattle.lane_emit.proofs.Looked.{looked}
use Rattle.chunk_emit.proofs.layout.item_with.Goals as goal

pub returns : goal.returns
returns c =
    c.copied.ensures
    ∙ looked c.get.result c.args.items.now c.saturating_sub-number.result c.get.ensures.lookup.0 c.get.ensures.lookup.1
    ∙ ap (λ n. slice_get c.args.items.now n) c.saturating_sub-number.ensures
