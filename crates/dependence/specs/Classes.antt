-- Whether the iterations of a loop may be done many at once, statement by statement, and why not.
use Rattle.std.specs.Prelude.{ℕ, ℤ, ◌/◌, List, [], ◌∷◌, Option, Some, None, is_none, Bool, true, false, not, ◌&&◌, ◌||◌, ◌-ℤ◌, pos, int_lt, nat_eq, nat_lt, bytes_eq, if◌then◌else◌}
use Rattle.std.specs.List.{list_any}
use Rattle.guest_types.specs.declared.length.Width.{Width}
use Rattle.guest_types.specs.Length.{width_bits}
use Rattle.kernel_tree.specs.declared.ops.UpdateOp.{UpdateOp}
use Rattle.kernel_tree.specs.declared.ops.UpdateOp.TheVariants as update
use Rattle.kernel_tree.specs.Plain.{Accumulator, Program}
use Rattle.kernel_tree.specs.Items.{stream_offset, loop_index}
use Rattle.loop_form.specs.declared.item.ItemKind.TheVariants as kind
use Rattle.loop_form.specs.declared.stream.Stream.{Stream}
use Rattle.loop_form.specs.Entries.{Content, IsRead, IsStore, IsUpdate, IsPlain, Entry, loop_entries}
use Rattle.loop_form.specs.Listing.{names}
use Rattle.loop_form.specs.Streams.{streams_of}
use Rattle.loop_form.specs.Reaches.{reach_of}
use Rattle.loop_form.specs.Lanes.{lane_width_of}
use Rattle.dependence.specs.declared.reason.Class.{Class}
use Rattle.dependence.specs.declared.reason.Class.TheVariants.{Vector, Scalar}
use Rattle.dependence.specs.declared.reason.Why.{Why}
use Rattle.dependence.specs.declared.reason.Why.TheVariants as why

-- ---- an accumulator is read

abbrev pub is_read : List Entry → Accumulator → Bool
is_read es v = list_any (names v.name) es

-- some accumulator is a name item
abbrev pub accumulator_read : List Entry → List Accumulator → Bool
accumulator_read es vs = list_any (is_read es) vs

-- ---- two updates of one accumulator have different operators

abbrev pub number_of_update : UpdateOp → ℕ
number_of_update update.Add = 0
number_of_update update.And = 1
number_of_update update.Or = 2
number_of_update update.Xor = 3
number_of_update update.Min = 4
number_of_update update.Max = 5

-- an update of the accumulator by another operator
abbrev pub other_update : List ℕ → UpdateOp → Content → Bool
other_update x op (IsUpdate y o) = bytes_eq y x && not (nat_eq (number_of_update o) (number_of_update op))
other_update x op _ = false

abbrev pub updates_otherwise : List ℕ → UpdateOp → Entry → Bool
updates_otherwise x op e = other_update x op e.content

abbrev pub mixed_content : List Entry → Content → Bool
mixed_content es (IsUpdate x op) = list_any (updates_otherwise x op) es
mixed_content es _ = false

-- an update of an accumulator that some item updates by another operator
abbrev pub is_mixed : List Entry → Entry → Bool
is_mixed es e = mixed_content es e.content

abbrev pub mixed_update : List Entry → Bool
mixed_update es = list_any (is_mixed es) es

-- ---- a store or an update before a `break`

abbrev pub write_content : Content → Bool
write_content (IsStore a i) = true
write_content (IsUpdate x op) = true
write_content _ = false

abbrev pub is_write : Entry → Bool
is_write e = write_content e.content

abbrev pub break_content : Content → Bool
break_content (IsPlain kind.Break) = true
break_content _ = false

abbrev pub is_break : Entry → Bool
is_break e = break_content e.content

-- a store or an update is listed before some `break`
unfoldable pub before_break : List Entry → Bool
before_break [] = false
before_break (e ∷ es) = (is_write e && list_any is_break es) || before_break es

-- ---- a computed index

abbrev pub computed_content : Option (List ℕ) → Content → Bool
computed_content i (IsRead a e) = is_none (stream_offset i e)
computed_content i _ = false

abbrev pub store_content : Content → Bool
store_content (IsStore a i) = true
store_content _ = false

abbrev pub is_storing : Entry → Bool
is_storing e = store_content e.content

abbrev pub content_stores_to : List ℕ → Content → Bool
content_stores_to a (IsStore b i) = bytes_eq b a
content_stores_to a _ = false

-- a store to the array of a name
abbrev pub stores_to : List ℕ → Entry → Bool
stores_to a e = content_stores_to a e.content

-- lanes that do not hold an address
abbrev pub is_narrow : Width → Bool
is_narrow w = nat_lt (width_bits w) 64

-- What stands against reading an element of an array by a computed index: the lanes are narrower than 64 bits, a `break`
-- follows, the loop stores to that array, or it stores and the index has no reach. All items of the loop are `all`, and
-- those after the read `following`.
abbrev pub is_barred_read : Program → (all following : List Entry) → (array : List ℕ) → Entry → Bool
is_barred_read k all following a e =
    is_narrow (lane_width_of k) || (list_any is_break following || (list_any (stores_to a) all || (list_any is_storing all && is_none (reach_of k e))))

abbrev pub barred_content : Program → (all following : List Entry) → Entry → Content → Bool
barred_content k all following e (IsRead a i) = is_none (stream_offset (loop_index k) i) && is_barred_read k all following a e
barred_content k all following e _ = false

abbrev pub is_barred : Program → (all following : List Entry) → Entry → Bool
is_barred k all following e = barred_content k all following e e.content

-- some read by a computed index has such a thing against it
unfoldable pub computed_index : Program → (all : List Entry) → List Entry → Bool
computed_index k all [] = false
computed_index k all (e ∷ es) = is_barred k all es e || computed_index k all es

-- ---- a value that is carried from one iteration to another

-- two accesses of one parameter, at least one of them a store
abbrev pub conflict : Stream → Stream → Bool
conflict s t = nat_eq s.param t.param && (s.store || t.store)

-- how far the later access stands ahead of the earlier one
abbrev pub distance : Stream → Stream → ℤ
distance s t = t.offset -ℤ s.offset

-- a distance that lanes of one vector can have: at least 1 and below the number of lanes of the longest one, 2048 bits
abbrev pub is_near : Width → ℤ → Bool
is_near w d = int_lt (pos 0) d && int_lt d (pos (2048 / width_bits w))

-- The later access comes to an element in one iteration that the earlier one comes to in a later iteration of the same
-- vector, and at least one of them stores it.
abbrev pub is_carried : Width → Stream → Stream → Bool
is_carried w s t = conflict s t && is_near w (distance s t)

-- two of the accesses, in their order
unfoldable pub carried : Width → List Stream → Bool
carried w [] = false
carried w (s ∷ ss) = list_any (is_carried w s) ss || carried w ss

-- ---- classes

-- the first reason that applies to the items of a loop
abbrev pub reason : Program → List Entry → Option Why
reason k es =
    if accumulator_read es k.vars then Some why.AccumulatorRead else
    if mixed_update es then Some why.MixedUpdate else
    if before_break es then Some why.BeforeBreak else
    if computed_index k es es then Some why.ComputedIndex else
    if carried (lane_width_of k) (streams_of k) then Some why.Carried else
    None

abbrev pub class_by : Option Why → Class
class_by None = Vector
class_by (Some w) = Scalar w

-- the class of a kernel: scalar with the first reason that applies, else vector
abbrev pub class_of : Program → Class
class_of k = if is_none k.for_loop then Scalar why.NoLoop else class_by (reason k (loop_entries k))
