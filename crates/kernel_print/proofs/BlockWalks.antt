-- A walk over the statements of a block, one after another.
use Rattle.std.proofs.Common.{◌≡◌, ◌≤◌, ap, arith}
use Rattle.kernel_tree.specs.Plain.{Action, Block, Then}
use Rattle.kernel_tree.specs.Limits.{block_depth}

pub less_deep : (whole x more : Block) (a : Action) → block_depth x ≤ block_depth whole → x ≡ Then a more → block_depth more ≤ block_depth whole
less_deep whole x more a depth is = let deep = ap block_depth is in omega (arith, depth, deep)
