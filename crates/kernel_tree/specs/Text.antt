-- A text and the kernel that its tokens are the tree of.
use Rattle.std.specs.Prelude.{◌≡◌, ℕ, List, Ok}
use Rattle.kernel_tree.specs.TextToken.{TextToken}
use Rattle.kernel_tree.specs.Tokens.{tokens_of}
use Rattle.kernel_tree.specs.Plain.{Program}
use Rattle.kernel_tree.specs.Grammar.{Tree}

pub record IsTextOf (k : Program) (text : List ℕ) : Type 0 where
  pub words : List TextToken
  pub tokens : tokens_of text ≡ Ok words
  pub tree : Tree words k
