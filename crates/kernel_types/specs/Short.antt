-- Kernels whose text is not too long.
use Rattle.std.specs.Prelude.{◌≤◌, List, length, IsTrue}
use Rattle.kernel_tree.specs.TextToken.{TextToken}
use Rattle.kernel_tree.specs.Tokens.{are_tokens}
use Rattle.kernel_tree.specs.Plain.{Program}
use Rattle.kernel_tree.specs.Grammar.{Tree}
use Rattle.kernel_tree.specs.Limits.{most_tokens}

-- the kernel is the tree of some list of tokens, of which there are not too many
pub record IsShort (k : Program) : Type 0 where
  pub words : List TextToken
  pub tokens : IsTrue (are_tokens words)
  pub few : length words ≤ most_tokens
  pub tree : Tree words k
