-- The words of a pass write X9 and X26, and no other general register.
use Rattle.std.proofs.Common.{◌≡◌, ℕ, zero, suc, ℤ, pos, negsuc, Bool, true, false, List, [], ◌∷◌, ◌++◌, Option, Some, None, refl, ap}
use Rattle.std.specs.Prelude.{◌&&◌, nat_eq, option_map, if◌then◌else◌}
use Rattle.guest_types.specs.declared.length.Width.{Width}
use Rattle.word_rows.specs.Field.{Field}
use Rattle.kernel_tree.specs.declared.ops.Ty.{Ty}
use Rattle.kernel_tree.specs.declared.ops.Ty.TheVariants as ty
use Rattle.kernel_tree.specs.Wrap.{log_bytes}
use Rattle.sve_code.specs.Table.{incp, uxtb, uxth}
use Rattle.machine_model.specs.Frames.{x_field}
use Rattle.machine_model.specs.InstructionTable.{Listed, Vector}
use Rattle.machine_model.specs.VectorEffects.{field_of}
use Rattle.label_fix.specs.DraftRun.{DraftEntry}
use Rattle.label_fix.specs.Emits.{puts}
use Rattle.loop_form.specs.declared.loop_item.Operand.TheVariants.{LoopIndex}
use Rattle.loop_form.specs.LoopItems.{Op, Item}
use Rattle.loop_form.specs.LoopItems as ops
use Rattle.lane_emit.specs.Stretch.{VectorInstruction, word}
use Rattle.lane_emit.specs.LaneCode.{size_of, index_code}
use Rattle.lane_emit.specs.ItemCode.{mask_register, op_code}
use Rattle.lane_emit.specs.AccumulatorLanes.{update_code}
use Rattle.chunk_emit.specs.Registers.{Layout, z_of, base_of, is_used}
use Rattle.chunk_emit.specs.ChunkCode.{with_index, index_of, gather_name, gather_by, cut_reach, gather_code, vectors, op_words, item_words, past_cast, either_words, items_words}
use Rattle.first_fault.specs.RegionCode.{Mode, Early, Single, narrow_words, load_words, step_words, region_words, exits_words, single_words}
use Rattle.first_fault.specs.BreakRegion.{region_of, rest_of}
use Rattle.vector_emit.proofs.FromBelow.{chunk_words, iteration_words, plain_words}
use Rattle.promises.specs.Reserved.{none_reserved}
use Rattle.reserved_registers.specs.Alone.{AreAlone}
use Rattle.reserved_registers.proofs.Entries.{goes_on, put_alone}
use Rattle.reserved_registers.proofs.VectorWords.{AreQuiet, update_quiet, op_quiet}

abbrev pub AreLeft : List Listed → Type 0
AreLeft [] = Unit {0}
AreLeft (i ∷ is) = (goes_on i ≡ true) × AreLeft is

left_both : (is js : List Listed) → AreLeft is → AreLeft js → AreLeft (is ++ js)
left_both [] js h k = k
left_both (i ∷ is) js h k = (h.0, left_both is js h.1 k)

pub puts_alone : (exits : ℕ) (is : List Listed) (rest : List DraftEntry) → AreLeft is → AreAlone exits rest → AreAlone exits (puts is rest)
puts_alone exits [] rest h k = k
puts_alone exits (i ∷ is) rest h k = put_alone exits i (puts is rest) h.0 (puts_alone exits is rest h.1 k)

-- a word that writes no general register
pub quiet_leaves : (v : VectorInstruction) → x_field v.name ≡ None → goes_on (Vector v) ≡ true
quiet_leaves v e = ap (λ (o : Option Field). none_reserved (option_map (field_of v.name v.numbers) o) && true) e

pub vectors_left : (vs : List VectorInstruction) → AreQuiet vs → AreLeft (vectors vs)
vectors_left [] h = tt
vectors_left (v ∷ vs) h = (quiet_leaves v h.0, vectors_left vs h.1)

-- ---- items

index_left : (c : ℤ) (is : List Listed) → AreLeft is → AreLeft (with_index c is)
index_left (pos zero) is h = h
index_left (pos (suc k)) is h = (refl, h)
index_left (negsuc k) is h = (refl, h)

used_left : (w : Width) (l : Layout) (q m : ℕ) (op : Op) (b : Bool) → AreLeft (if b then vectors (op_code w l.registers q m op) else [])
used_left w l q m op true = vectors_left (op_code w l.registers q m op) (op_quiet w l.registers q m op)
used_left w l q m op false = tt

name_quiet : (t : Ty) → x_field (gather_name t) ≡ None
name_quiet ty.I8 = refl
name_quiet other = refl

gather_by_quiet : (k : ℕ) (t : Ty) (d m base index : ℕ) → AreQuiet (gather_by k t d m base index)
gather_by_quiet zero t d m base index = (name_quiet t, tt)
gather_by_quiet (suc k) t d m base index = (refl, (name_quiet t, tt))

cut_quiet : (b : Bool) → x_field (if b then uxtb else uxth) ≡ None
cut_quiet true = refl
cut_quiet false = refl

gather_quiet : (cut : Option ℕ) (t : Ty) (d m base index : ℕ) → AreQuiet (gather_code t cut d m base index)
gather_quiet None t d m base index = gather_by_quiet (log_bytes t) t d m base index
gather_quiet (Some n) t d m base index = (cut_quiet (nat_eq n 256), gather_by_quiet (log_bytes t) t d m base d)

words_left : (w : Width) (l : Layout) (q m : ℕ) (op : Op) → AreLeft (op_words w l q m op)
words_left w l q m (ops.Load a base (Some t) c) = index_left c _ (refl, tt)
words_left w l q m (ops.Gather a base (Some t) r (Some u) x) =
    vectors_left (gather_code t (cut_reach r u) (z_of l q) m (base_of base) (l.registers.source x)) (gather_quiet (cut_reach r u) t (z_of l q) m (base_of base) (l.registers.source x))
words_left w l q m (ops.Store a base (Some t) c v) = index_left c _ (refl, tt)
words_left w l q m (ops.Update x op (Some t) v) = vectors_left (update_code w op t (l.sum x) m (l.registers.source v)) (update_quiet op t, tt)
words_left w l q m other = used_left w l q m other (is_used l other q)

item_left : (w : Width) (l : Layout) (it : Item) → AreLeft (item_words w l it)
item_left w l it = words_left w l it.item (mask_register l.registers it.mask) it.op

either_left : (w : Width) (l : Layout) (next : Item) (o : Option Op) (both following : List Listed) → AreLeft both → AreLeft following → AreLeft (either_words w l next o both following)
either_left w l next None both following h k = h
either_left w l next (Some op) both following h k = left_both (item_words w l (record next { op = op })) following (item_left w l (record next { op = op })) k

items_left : (w : Width) (l : Layout) (items : List Item) → AreLeft (items_words w l items)
items_left w l [] = tt
items_left w l (it ∷ []) = item_left w l it
items_left w l (it ∷ next ∷ items) =
    either_left w l next (past_cast it.item it.op next.op) (item_words w l it ++ items_words w l (next ∷ items)) (items_words w l items)
    (left_both (item_words w l it) (items_words w l (next ∷ items)) (item_left w l it) (items_left w l (next ∷ items))) (items_left w l items)

-- ---- the break region

narrow_left : (l : Layout) (mask : Option ℕ) (is : List Listed) → AreLeft is → AreLeft (narrow_words l mask is)
narrow_left l None is h = h
narrow_left l (Some q) is h = (refl, h)

load_left : (mode : Mode) (w : Width) (l : Layout) (q : ℕ) (mask : Option ℕ) (t : Ty) (base index : ℕ) → AreLeft (load_words mode w l q mask t base index)
load_left Early w l q None t base index = (refl, (refl, tt))
load_left Early w l q (Some m) t base index = (refl, (refl, (refl, tt)))
load_left Single w l q mask t base index = (refl, tt)

narrowed_left : (w : Width) (l : Layout) (q : ℕ) (mask : Option ℕ) (op : Op) (b : Bool) → AreLeft (if b then narrow_words l mask (vectors (op_code w l.registers q (mask_register l.registers mask) op)) else [])
narrowed_left w l q mask op true =
    let m = mask_register l.registers mask in
    narrow_left l mask (vectors (op_code w l.registers q m op)) (vectors_left (op_code w l.registers q m op) (op_quiet w l.registers q m op))
narrowed_left w l q mask op false = tt

step_left : (mode : Mode) (w : Width) (l : Layout) (q : ℕ) (mask : Option ℕ) (op : Op) → AreLeft (step_words mode w l q mask op)
step_left mode w l q mask (ops.Load a base (Some t) c) =
    let load = load_words mode w l q mask t (base_of base) (index_of c) in
    narrow_left l mask (with_index c load) (index_left c load (load_left mode w l q mask t (base_of base) (index_of c)))
step_left mode w l q mask (ops.Break c) = (refl, tt)
step_left mode w l q mask other = narrowed_left w l q mask other (is_used l other q)

region_left : (mode : Mode) (w : Width) (l : Layout) (items : List Item) → AreLeft (region_words mode w l items)
region_left mode w l [] = tt
region_left mode w l (it ∷ items) = left_both (step_words mode w l it.item it.mask it.op) (region_words mode w l items) (step_left mode w l it.item it.mask it.op) (region_left mode w l items)

-- ---- a pass

-- the word that makes the loop variable, where it has a register
abbrev index_if : Bool → Layout → List Listed
index_if b l = if b then vectors (index_code (l.registers.source LoopIndex) 9) else []

abbrev advance : Width → Listed
advance w = Vector (word incp (9 ∷ 0 ∷ size_of w ∷ []))

pass_index_left : (b : Bool) (l : Layout) → AreLeft (index_if b l)
pass_index_left true l = (refl, tt)
pass_index_left false l = tt

-- the items, and the word that advances X9
end_left : (w : Width) (l : Layout) (items : List Item) → AreLeft (items_words w l items ++ advance w ∷ [])
end_left w l items = left_both (items_words w l items) (advance w ∷ []) (items_left w l items) (refl, tt)

pub chunk_left : (w : Width) (l : Layout) (n : ℕ) (items : List Item) → AreLeft (chunk_words w l n items)
chunk_left w l n items =
    let tail = items_words w l (rest_of items) ++ advance w ∷ [] in
    (refl, left_both (index_if (l.held LoopIndex) l) (exits_words w l (region_of items) ++ tail) (pass_index_left (l.held LoopIndex) l) (refl, left_both (region_words Early w l (region_of items)) tail (region_left Early w l (region_of items)) (end_left w l (rest_of items))))

pub iteration_left : (w : Width) (l : Layout) (items : List Item) → AreLeft (iteration_words w l items)
iteration_left w l items =
    let tail = items_words w l (rest_of items) ++ advance w ∷ [] in
    (refl, (refl, left_both (single_words w l (region_of items)) tail (region_left Single w l (region_of items)) (end_left w l (rest_of items))))

pub plain_left : (w : Width) (l : Layout) (items : List Item) → AreLeft (plain_words w l items)
plain_left w l items = left_both (index_if (l.held LoopIndex) l) (items_words w l items ++ advance w ∷ []) (pass_index_left (l.held LoopIndex) l) (end_left w l items)
