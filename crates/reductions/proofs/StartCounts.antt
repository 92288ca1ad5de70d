-- A kernel holds no more values throughout its loop than it has items.
use Rattle.close_bound.proofs.HeldCounts as counts
use Rattle.reductions.specs.Edges.{FewHeld}

pub few_held : FewHeld
few_held k = counts.few_held k
