-- What the code makes of a part of a kernel, as the rules of typing have it.
use Rattle.std.specs.Prelude.{◌≡◌, false, ℕ, List, [], ◌∷◌, ◌++◌, Option, Some, None, ◌+◌}
use Rattle.kernel_tree.specs.declared.ops.Ty.{Ty}
use Rattle.kernel_tree.specs.declared.fault.Found.{Found}
use Rattle.kernel_tree.specs.Plain.{Accumulator}
use Rattle.kernel_tree.specs.Items.{term_size}
use Rattle.kernel_tree.specs.Typing as typing
use Rattle.kernel_types.specs.declared.notes.Notes.{Notes}
use Rattle.kernel_types.specs.declared.notes.Role.{Role}
use Rattle.kernel_types.specs.declared.notes.Role.TheVariants as role

abbrev pub role_of : Role → typing.Role
role_of (role.Value t) = typing.Value t
role_of role.Condition = typing.Condition

-- these types were added, unless memory was wanting for one of them or for one before
pub record Adds (old new : Notes) (ts : List (Option Ty)) : Type 0 where
  pub kept : new.lost ≡ false → old.lost ≡ false
  pub items : new.lost ≡ false → new.types.items ≡ old.types.items ++ ts

-- the faults of an accumulator and of its initial value, and the wanted types of their items
abbrev pub var_faults : typing.Scope → ℕ → Accumulator → List Found
var_faults scope from v = typing.faults scope from (typing.Value (Some v.type)) v.init ++ typing.twice (from + term_size scope.index v.init) scope v.name

abbrev pub var_types : typing.Scope → Accumulator → List (Option Ty)
var_types scope v = typing.term_types scope (typing.Value (Some v.type)) v.init ++ None ∷ []
