-- Offsets of stream indexes that are in range.
use Rattle.std.specs.Prelude.{ℕ, ◌≤◌, ℤ, List, [], ◌∷◌, Option, Some, None, unsigned_abs}
use Rattle.kernel_tree.specs.Plain.{Term, Literal, Variable, Element, Unary, Operation, Shift, Conversion, Choice, Comparison, Both, Either, Not, Action, Define, Put, Update, Choose, Leave, Block, Done, Then, Otherwise, Nothing, Else, PlainLoop}
use Rattle.kernel_tree.specs.Items.{stream_offset}
use Rattle.kernel_tree.specs.Limits.{most_offset}
use Rattle.loop_form.specs.Entries.{Content, IsRead, IsStore, Entry}

-- an offset, where there is one, of at most 1,024 to either side
abbrev pub IsNear : Option ℤ → Type 0
IsNear None = Unit {0}
IsNear (Some c) = unsigned_abs c ≤ most_offset

abbrev pub HasNear : Option (List ℕ) → Content → Type 0
HasNear i (IsRead a e) = IsNear (stream_offset i e)
HasNear i (IsStore a e) = IsNear (stream_offset i e)
HasNear i _ = Unit {0}

-- all of the items
abbrev pub AreNear : Option (List ℕ) → List Entry → Type 0
AreNear i [] = Unit {0}
AreNear i (e ∷ es) = HasNear i e.content × AreNear i es

-- ---- the same, of the tree

-- only where an index is computed
abbrev pub NearInner : Option ℤ → Type 0 → Type 0
NearInner None near = near
NearInner (Some c) near = Unit {0}

-- all stream indexes of an expression, also those of what makes a computed index
abbrev pub NearTerm : Option (List ℕ) → Term → Type 0
NearTerm i (Literal n) = Unit {0}
NearTerm i (Variable x) = Unit {0}
NearTerm i (Element a e) = IsNear (stream_offset i e) × NearInner (stream_offset i e) (NearTerm i e)
NearTerm i (Unary op e) = NearTerm i e
NearTerm i (Operation op a b) = NearTerm i a × NearTerm i b
NearTerm i (Shift left e n) = NearTerm i e
NearTerm i (Conversion e t) = NearTerm i e
NearTerm i (Choice c a b) = NearTerm i a × (NearTerm i b × NearTerm i c)
NearTerm i (Comparison op a b) = NearTerm i a × NearTerm i b
NearTerm i (Both a b) = NearTerm i a × NearTerm i b
NearTerm i (Either a b) = NearTerm i a × NearTerm i b
NearTerm i (Not e) = NearTerm i e

abbrev mutual
  pub NearAction : Option (List ℕ) → Action → Type 0
  NearAction i (Define x t e) = NearTerm i e
  NearAction i (Put a o e) = IsNear (stream_offset i o) × NearTerm i e
  NearAction i (Update x op e) = NearTerm i e
  NearAction i (Choose c b d) = NearTerm i c × (NearBlock i b × NearOtherwise i d)
  NearAction i (Leave c) = NearTerm i c

  pub NearBlock : Option (List ℕ) → Block → Type 0
  NearBlock i Done = Unit {0}
  NearBlock i (Then s b) = NearAction i s × NearBlock i b

  pub NearOtherwise : Option (List ℕ) → Otherwise → Type 0
  NearOtherwise i Nothing = Unit {0}
  NearOtherwise i (Else b) = NearBlock i b

abbrev pub NearForLoop : Option (List ℕ) → Option PlainLoop → Type 0
NearForLoop i None = Unit {0}
NearForLoop i (Some l) = NearBlock i l.body
