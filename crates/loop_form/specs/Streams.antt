-- The accesses of a loop by stream index: one element of an array in each iteration, at a fixed offset from the
-- iteration's number.
use Rattle.std.specs.Prelude.{◌≡◌, ◌⊎◌, ℕ, ◌+◌, ℤ, pos, List, [], ◌∷◌, Option, Some, None, option_and_then, slice_get, Bool, true, false, nat_eq, bytes_eq, if◌then◌else◌, filter_map}
use Rattle.std.specs.Int.{int_min, int_max}
use Rattle.std.specs.List.{fold}
use Rattle.kernel_tree.specs.declared.ops.Ty.{Ty}
use Rattle.kernel_tree.specs.Plain.{Parameter, Program}
use Rattle.kernel_tree.specs.Items.{stream_offset, loop_index}
use Rattle.kernel_tree.specs.Typing.{element_type, binding_of_shape}
use Rattle.loop_form.specs.declared.stream.Stream.{Stream}
use Rattle.loop_form.specs.Entries.{Content, IsRead, IsStore, Entry, loop_entries}

-- the place of the parameter with a name, counted from a number
abbrev pub place_from : List ℕ → ℕ → List Parameter → Option ℕ
place_from x n [] = None
place_from x n (p ∷ ps) = if bytes_eq p.name x then Some n else place_from x (n + 1) ps

-- the place of the parameter with a name
abbrev pub place_of : List ℕ → List Parameter → Option ℕ
place_of x ps = place_from x 0 ps

abbrev pub elements_of : Parameter → Option Ty
elements_of p = element_type (binding_of_shape p.shape)

-- the type of the elements of the parameter at a place, where that is an array
abbrev pub type_of_place : List Parameter → ℕ → Option Ty
type_of_place ps p = option_and_then elements_of (slice_get ps p)

abbrev pub access : Option ℕ → Option ℤ → Bool → ℕ → Option Stream
access (Some param) (Some offset) store item = Some (record { param = param; offset = offset; store = store; item = item })
access _ _ store item = None

abbrev pub access_of : Program → Content → ℕ → Option Stream
access_of k (IsRead a i) item = access (place_of a k.params) (stream_offset (loop_index k) i) false item
access_of k (IsStore a i) item = access (place_of a k.params) (stream_offset (loop_index k) i) true item
access_of k _ item = None

-- the access that an item is, where its index is a stream index
abbrev pub stream_of : Program → Entry → Option Stream
stream_of k e = access_of k e.content e.item

-- the accesses of the loop, in their order
abbrev pub streams_of : Program → List Stream
streams_of k = filter_map (stream_of k) (loop_entries k)

-- the access is one of these
abbrev pub In : Stream → List Stream → Type 0
In s [] = ⊥
In s (t ∷ ts) = (t ≡ s) ⊎ In s ts

-- the access is of the parameter at a place
abbrev pub is_of : ℕ → Stream → Bool
is_of p s = nat_eq s.param p

-- the offsets of the accesses of a parameter
abbrev pub offsets_of : ℕ → List Stream → List ℤ
offsets_of p [] = []
offsets_of p (s ∷ ss) = if is_of p s then s.offset ∷ offsets_of p ss else offsets_of p ss

abbrev pub least_offset : List ℤ → ℤ
least_offset [] = pos 0
least_offset (c ∷ cs) = fold int_min c cs

abbrev pub greatest_offset : List ℤ → ℤ
greatest_offset [] = pos 0
greatest_offset (c ∷ cs) = fold int_max c cs
