-- The width of a loop's lanes.
use Rattle.std.specs.Prelude.{ℕ, List, [], ◌∷◌, Option, Some, None, nat_lt, bytes_eq, if◌then◌else◌}
use Rattle.guest_types.specs.declared.length.Width.{Width}
use Rattle.guest_types.specs.declared.length.Width.TheVariants.{B}
use Rattle.guest_types.specs.Length.{width_bits}
use Rattle.guest_types.specs.LaneMemory.{width_of_size}
use Rattle.kernel_tree.specs.declared.ops.Ty.{Ty}
use Rattle.kernel_tree.specs.Wrap.{log_bytes}
use Rattle.kernel_tree.specs.Plain.{Parameter, Accumulator, Program}
use Rattle.loop_form.specs.Entries.{Content, IsStore, IsUpdate, Entry, loop_entries}
use Rattle.loop_form.specs.Streams.{elements_of}

-- the width of the values of a type
abbrev pub type_width : Ty → Width
type_width t = width_of_size (log_bytes t)

-- the wider one of a width and that of a type, where there is one
abbrev pub wider : Width → Option Ty → Width
wider w None = w
wider w (Some t) = if nat_lt (width_bits w) (width_bits (type_width t)) then type_width t else w

-- the type of the elements of an array parameter, by its name
abbrev pub type_of_array : List ℕ → List Parameter → Option Ty
type_of_array a [] = None
type_of_array a (p ∷ ps) = if bytes_eq p.name a then elements_of p else type_of_array a ps

abbrev pub var_type : List ℕ → List Accumulator → Option Ty
var_type x [] = None
var_type x (v ∷ vs) = if bytes_eq v.name x then Some v.type else var_type x vs

-- the type of what a statement changes: a stored element or an updated accumulator
abbrev pub target_type : Program → Content → Option Ty
target_type k (IsStore a i) = type_of_array a k.params
target_type k (IsUpdate x op) = var_type x k.vars
target_type k _ = None

-- the widest of a width, the types of the value items and the types of what is stored and updated
unfoldable pub widest : Program → Width → List Entry → Width
widest k w [] = w
widest k w (e ∷ es) = widest k (wider (wider w e.type) (target_type k e.content)) es

-- the lane width: that of the widest type in the loop, and 8 bits where there is none
abbrev pub lane_width_of : Program → Width
lane_width_of k = widest k B (loop_entries k)
