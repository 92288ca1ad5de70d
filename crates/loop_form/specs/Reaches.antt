-- How far a computed index reaches. An index whose value comes from an unsigned type of 8 or 16 bits, and was made no
-- narrower since, is a number below 256 or below 65,536.
use Rattle.std.specs.Prelude.{ℕ, ◌-◌, List, Option, Some, None, is_some, option_and_then, Bool, false, not, ◌&&◌, nat_eq, nat_le, if◌then◌else◌, filter_map}
use Rattle.std.specs.List.{find}
use Rattle.kernel_tree.specs.declared.ops.Ty.{Ty}
use Rattle.kernel_tree.specs.Wrap.{bits_of, is_signed}
use Rattle.kernel_tree.specs.Plain.{Term, Conversion, Program}
use Rattle.kernel_tree.specs.Items.{stream_offset, loop_index}
use Rattle.loop_form.specs.declared.reach.Reach.{Reach}
use Rattle.loop_form.specs.Entries.{Content, IsRead, Entry, item_type, loop_entries}
use Rattle.loop_form.specs.Streams.{place_of}
use Rattle.kernel_tree.specs.declared.ops.Ty.TheVariants as ty

-- a cast from a type to an unsigned one that leaves each value as it is, for the first is unsigned and no wider
abbrev pub is_widened : Option Ty → Ty → Bool
is_widened None t = false
is_widened (Some u) t = not (is_signed u) && (not (is_signed t) && nat_le (bits_of u) (bits_of t))

-- The type that the value of a computed index comes from; `last` is the item of that value. Where it is such a cast, the
-- type that the operand's value comes from. Else its own type, or u64 where it has none: that is the type of the item.
abbrev pub source_type : Program → (last : ℕ) → Term → Option Ty
source_type k last (Conversion e t) = if is_widened (item_type k (last - 1)) t then source_type k (last - 1) e else Some t
source_type k last e = item_type k last

abbrev pub reach_of_type : Option Ty → Option ℕ
reach_of_type (Some ty.U8) = Some 256
reach_of_type (Some ty.U16) = Some 65536
reach_of_type _ = None

-- the reach of the index of a read, by the read's item: its last item stands before the read
abbrev pub read_reach : Program → Term → (item : ℕ) → Option ℕ
read_reach k i item = if is_some (stream_offset (loop_index k) i) then None else reach_of_type (source_type k (item - 1) i)

abbrev pub content_reach : Program → Content → (item : ℕ) → Option ℕ
content_reach k (IsRead a i) item = read_reach k i item
content_reach k _ item = None

-- the reach of an item that is a read at a computed index, where that has one
abbrev pub reach_of : Program → Entry → Option ℕ
reach_of k e = content_reach k e.content e.item

abbrev pub has_number : ℕ → Entry → Bool
has_number item e = nat_eq e.item item

-- the same by the item's number
abbrev pub index_reach : Program → (item : ℕ) → Option ℕ
index_reach k item = option_and_then (reach_of k) (find (has_number item) (loop_entries k))

-- ---- such reads of a loop

abbrev pub reached : Option ℕ → Option ℕ → Option Reach
reached (Some param) (Some reach) = Some (record { param = param; reach = reach })
reached _ _ = None

abbrev pub reach_in : Program → Content → (item : ℕ) → Option Reach
reach_in k (IsRead a i) item = reached (place_of a k.params) (read_reach k i item)
reach_in k _ item = None

abbrev pub reach_at : Program → Entry → Option Reach
reach_at k e = reach_in k e.content e.item

-- the reads of the loop at computed indexes that have a reach, in their order
abbrev pub reaches_of : Program → List Reach
reaches_of k = filter_map (reach_at k) (loop_entries k)
