-- Names whose values are of their types.
use Rattle.std.specs.Prelude.{◌≡◌, ℤ, List, [], ◌∷◌, Option, Some, None}
use Rattle.kernel_tree.specs.declared.ops.Ty.{Ty}
use Rattle.kernel_tree.specs.Typing.{Local, value_type}
use Rattle.kernel_meaning.specs.Ends.{LoopState, Going, Left, Failed}
use Rattle.kernel_meaning.specs.TypeValues.{IsOf}
use Rattle.kernel_meaning.specs.Eval.{Names}

-- the value of a name is one of its type
abbrev pub TypeRange : Option Ty → ℤ → Type 0
TypeRange None z = Unit {0}
TypeRange (Some t) z = IsOf t z

-- the names are those that are visible, each with a value of its type
abbrev pub AreRanged : List Local → Names → Type 0
AreRanged [] [] = Unit {0}
AreRanged [] (n ∷ ns) = ⊥
AreRanged (l ∷ ls) [] = ⊥
AreRanged (l ∷ ls) (n ∷ ns) = (n.name ≡ l.name) × TypeRange (value_type l.binding) n.value × AreRanged ls ns

-- so are the names that iterations leave
abbrev pub LeavesRanged : List Local → LoopState Names → Type 0
LeavesRanged ls (Going memory names) = AreRanged ls names
LeavesRanged ls (Left memory names i) = AreRanged ls names
LeavesRanged ls (Failed memory i) = Unit {0}
