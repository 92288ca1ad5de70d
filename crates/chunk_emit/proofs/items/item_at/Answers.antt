use Rattle.std.proofs.Common.{◌∙◌}
use Rattle.lane_emit.proofs.Looked.{looked}
use Rattle.chunk_emit.proofs.items.item_at.Goals as goal

pub returns : goal.returns
returns c = c.copied.ensures ∙ looked c.get.result c.args.items.now c.args.place c.get.ensures.lookup.0 c.get.ensures.lookup.1
