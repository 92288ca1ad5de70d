-- The code of items over the lanes of a chunk. P0 is true in the lanes of the chunk, X9 is the iteration of the first one, and
-- X26 is free.
use Rattle.std.specs.Prelude.{ℕ, zero, suc, ◌+◌, ℤ, pos, negsuc, Bool, false, List, [], ◌∷◌, ◌++◌, Option, Some, None, nat_eq, if◌then◌else◌}
use Rattle.guest_types.specs.declared.length.Width.{Width}
use Rattle.guest_types.specs.declared.length.Width.TheVariants.{B, H, S, D}
use Rattle.kernel_tree.specs.declared.ops.Ty.{Ty}
use Rattle.kernel_tree.specs.declared.ops.Ty.TheVariants as ty
use Rattle.kernel_tree.specs.Wrap.{log_bytes}
use Rattle.a64_code.specs.Table as a64
use Rattle.sve_code.specs.Table.{Name, ld1, gld1b, gld1h, gld1w, gld1d, gld1sb, gld1sh, gld1sw, st1, lsl_imm, uxtb, uxth}
use Rattle.machine_model.specs.InstructionTable.{Listed, Scalar, Vector}
use Rattle.kernel_meaning.specs.TypeValues.{fits}
use Rattle.loop_form.specs.declared.loop_item.Operand.{Operand}
use Rattle.loop_form.specs.declared.loop_item.Operand.TheVariants.{Constant, Outer, LoopIndex, Made}
use Rattle.loop_form.specs.LoopItems.{Op, Item}
use Rattle.loop_form.specs.LoopItems as ops
use Rattle.lane_emit.specs.Stretch.{VectorInstruction, word}
use Rattle.lane_emit.specs.LaneCode.{size_of, shift_word}
use Rattle.lane_emit.specs.ItemCode.{mask_register, op_code}
use Rattle.lane_emit.specs.AccumulatorLanes.{update_code}
use Rattle.chunk_emit.specs.Registers.{Layout, z_of, base_of, is_used}
pub use Rattle.label_fix.specs.Emits.{puts}
use Rattle.label_fix.specs.Registers.{all_true, iteration, scratch}

-- ---- places of elements

-- X26 = X9 + c, where c is not 0, and the words after
abbrev pub with_index : ℤ → List Listed → List Listed
with_index (pos zero) rest = rest
with_index (pos (suc k)) rest = Scalar (record { name = a64.add_imm; numbers = scratch ∷ iteration ∷ suc k ∷ 0 ∷ [] }) ∷ rest
with_index (negsuc k) rest = Scalar (record { name = a64.sub_imm; numbers = scratch ∷ iteration ∷ suc k ∷ 0 ∷ [] }) ∷ rest

-- the register that then holds X9 + c
abbrev pub index_of : ℤ → ℕ
index_of (pos zero) = iteration
index_of (pos (suc k)) = scratch
index_of (negsuc k) = scratch

-- ---- loads and stores

-- The field dtype of a load of a type into lanes that are no narrower: it extends the sign of a signed type, where the lane is
-- wider.
abbrev pub dtype_of : Ty → Width → ℕ
dtype_of ty.U8 B = 0
dtype_of ty.U8 H = 1
dtype_of ty.U8 S = 2
dtype_of ty.U8 D = 3
dtype_of ty.I8 B = 0
dtype_of ty.I8 H = 14
dtype_of ty.I8 S = 13
dtype_of ty.I8 D = 12
dtype_of ty.U16 S = 6
dtype_of ty.U16 D = 7
dtype_of ty.U16 _ = 5
dtype_of ty.I16 S = 9
dtype_of ty.I16 D = 8
dtype_of ty.I16 _ = 5
dtype_of ty.U32 D = 11
dtype_of ty.U32 _ = 10
dtype_of ty.I32 D = 4
dtype_of ty.I32 _ = 10
dtype_of ty.I64 w = 15
dtype_of ty.U64 w = 15

-- LD1 d, m/Z, [base, index, lsl]
abbrev pub load_word : Width → Ty → (d m base index : ℕ) → VectorInstruction
load_word w t d m base index = word ld1 (d ∷ base ∷ m ∷ index ∷ dtype_of t w ∷ [])

-- ST1 v, m, [base, index, lsl]
abbrev pub store_word : Width → Ty → (v m base index : ℕ) → VectorInstruction
store_word w t v m base index = word st1 (v ∷ base ∷ m ∷ index ∷ size_of w ∷ log_bytes t ∷ [])

-- ---- reads at computed indexes, in lanes of 64 bits

abbrev pub gather_name : Ty → Name
gather_name ty.I8 = gld1sb
gather_name ty.U8 = gld1b
gather_name ty.I16 = gld1sh
gather_name ty.U16 = gld1h
gather_name ty.I32 = gld1sw
gather_name ty.U32 = gld1w
gather_name ty.I64 = gld1d
gather_name ty.U64 = gld1d

-- LD1 d, m/Z, [base, offsets]
abbrev pub gather_word : Ty → (d m base offsets : ℕ) → VectorInstruction
gather_word t d m base offsets = word (gather_name t) (d ∷ base ∷ m ∷ offsets ∷ [])

-- The offsets are the indexes shifted by the size of an element, which are made where the elements then go.
abbrev pub gather_by : (shift : ℕ) → Ty → (d m base index : ℕ) → List VectorInstruction
gather_by zero t d m base index = gather_word t d m base index ∷ []
gather_by (suc k) t d m base index = shift_word lsl_imm d index (64 + suc k) ∷ gather_word t d m base d ∷ []

-- the type that has a reach, which is 256 or 65,536
abbrev pub reach_type : ℕ → Ty
reach_type n = if nat_eq n 256 then ty.U8 else ty.U16

-- The reach to which an index of a type is cut first: its own, where the type has values past it. Such an index is a cast.
abbrev pub cut_reach : (reach : Option ℕ) → Ty → Option ℕ
cut_reach None u = None
cut_reach (Some n) u = if fits u (reach_type n) then None else Some n

-- d = a modulo a reach: UXTB or UXTH d, P1/M, a
abbrev pub cut_word : (reach d a : ℕ) → VectorInstruction
cut_word n d a = word (if nat_eq n 256 then uxtb else uxth) (d ∷ a ∷ all_true ∷ size_of D ∷ [])

abbrev pub gather_code : Ty → (cut : Option ℕ) → (d m base index : ℕ) → List VectorInstruction
gather_code t None d m base index = gather_by (log_bytes t) t d m base index
gather_code t (Some n) d m base index = cut_word n d index ∷ gather_by (log_bytes t) t d m base d

-- ---- items

abbrev pub vectors : List VectorInstruction → List Listed
vectors [] = []
vectors (v ∷ vs) = Vector v ∷ vectors vs

-- an item under the mask in predicate register m; one whose value is not used has no code
abbrev pub op_words : Width → Layout → (q m : ℕ) → Op → List Listed
op_words w l q m (ops.Load a base (Some t) c) = with_index c (Vector (load_word w t (z_of l q) m (base_of base) (index_of c)) ∷ [])
op_words w l q m (ops.Gather a base (Some t) r (Some u) x) = vectors (gather_code t (cut_reach r u) (z_of l q) m (base_of base) (l.registers.source x))
op_words w l q m (ops.Store a base (Some t) c v) = with_index c (Vector (store_word w t (l.registers.source v) m (base_of base) (index_of c)) ∷ [])
op_words w l q m (ops.Update x op (Some t) v) = vectors (update_code w op t (l.sum x) m (l.registers.source v))
op_words w l q m op = if is_used l op q then vectors (op_code w l.registers q m op) else []

abbrev pub item_words : Width → Layout → Item → List Listed
item_words w l it = op_words w l it.item (mask_register l.registers it.mask) it.op

-- ---- a cast that a store takes

-- whether an operand is the value of item q
abbrev pub is_made : ℕ → Operand → Bool
is_made q (Made r) = nat_eq q r
is_made q (Constant t z) = false
is_made q (Outer p) = false
is_made q LoopIndex = false

-- The store after item q, where it takes the item's value and the item is a cast: it stores the cast's operand, since it keeps
-- the low bytes alone.
abbrev pub past_cast : (q : ℕ) → (op next : Op) → Option Op
past_cast q (ops.Cast s t x) (ops.Store a base ty c v) = if is_made q v then Some (ops.Store a base ty c x) else None
past_cast q _ _ = None

-- the code of the store alone, where there is one, or that of both items, and that of the items after it
abbrev pub either_words : Width → Layout → Item → Option Op → (both following : List Listed) → List Listed
either_words w l next None both following = both
either_words w l next (Some op) both following = item_words w l (record next { op = op }) ++ following

-- ---- lists of items

abbrev pub items_words : Width → Layout → List Item → List Listed
items_words w l [] = []
items_words w l (it ∷ []) = item_words w l it
items_words w l (it ∷ next ∷ items) =
    either_words w l next (past_cast it.item it.op next.op) (item_words w l it ++ items_words w l (next ∷ items)) (items_words w l items)
