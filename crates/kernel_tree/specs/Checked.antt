-- What a checked kernel is.
use Rattle.std.specs.Prelude.{ℕ, Option, Some, None, slice_get}
use Rattle.kernel_tree.specs.declared.ops.Ty.{Ty}
use Rattle.kernel_tree.specs.declared.ast.Kernel.{Kernel}
use Rattle.kernel_tree.specs.declared.checked.Checked.{Checked}
use Rattle.kernel_tree.specs.Plain.{Program}
use Rattle.kernel_tree.specs.Typing.{types_of}

abbrev pub kernel_of : Checked → Kernel
kernel_of c = c.kernel

abbrev pub flat : Option (Option Ty) → Option Ty
flat None = None
flat (Some t) = t

-- the type of a value item, and None for any other number
abbrev pub type_at : Program → ℕ → Option Ty
type_at k item = flat (slice_get (types_of k) item)
