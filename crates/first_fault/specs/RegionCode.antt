-- The code of the break region. P0 is true in the lanes that have come so far, X9 is the iteration of the first one, and X26
-- is free. Over a chunk, reads are loads that may stop early, and a lane that they leave out is left out of P0; over the one
-- lane of a single iteration they are plain loads.
use Rattle.std.specs.Prelude.{ℕ, List, [], ◌∷◌, ◌++◌, Option, Some, None, if◌then◌else◌}
use Rattle.guest_types.specs.declared.length.Width.{Width}
use Rattle.kernel_tree.specs.declared.ops.Ty.{Ty}
use Rattle.kernel_tree.specs.Wrap.{log_bytes}
use Rattle.a64_code.specs.Table as a64
use Rattle.sve_code.specs.Table.{p_and, brkb, rdffr_z, setffr, ldff1, ldnf1}
use Rattle.machine_model.specs.InstructionTable.{Listed, Scalar, Vector}
use Rattle.label_fix.specs.Registers.{lanes_left, scratch}
use Rattle.loop_form.specs.LoopItems.{Op, Item}
use Rattle.loop_form.specs.LoopItems as ops
use Rattle.lane_emit.specs.Stretch.{VectorInstruction, word}
use Rattle.lane_emit.specs.ItemCode.{mask_register, op_code}
use Rattle.chunk_emit.specs.Registers.{Layout, z_of, p_of, base_of, is_used}
use Rattle.chunk_emit.specs.ChunkCode.{with_index, index_of, dtype_of, load_word, vectors}

-- over a chunk, or over one lane
pub data Mode : Type 0 where
  Early : Mode
  Single : Mode

-- AND m, P0/Z, m, m: a mask loses the lanes that P0 has lost
abbrev pub narrow_words : Layout → Option ℕ → List Listed → List Listed
narrow_words l None rest = rest
narrow_words l (Some q) rest = Vector (word p_and (p_of l q ∷ p_of l q ∷ lanes_left ∷ p_of l q ∷ [])) ∷ rest

-- LDFF1 d, P0/Z, [base, index, lsl]
abbrev pub first_fault_word : Width → Ty → (d base index : ℕ) → VectorInstruction
first_fault_word w t d base index = word ldff1 (d ∷ base ∷ lanes_left ∷ index ∷ dtype_of t w ∷ [])

-- LDNF1 d, m/Z, [X26]
abbrev pub non_fault_word : Width → Ty → (d m : ℕ) → VectorInstruction
non_fault_word w t d m = word ldnf1 (d ∷ scratch ∷ m ∷ dtype_of t w ∷ [])

-- ADD X26, base, index, LSL the size
abbrev pub address_word : Ty → (base index : ℕ) → Listed
address_word t base index = Scalar (record { name = a64.add; numbers = scratch ∷ base ∷ log_bytes t ∷ index ∷ 0 ∷ [] })

-- RDFFR P0, P0/Z: P0 loses the lanes from the first suppressed one on
abbrev pub read_faults : Listed
read_faults = Vector (word rdffr_z (lanes_left ∷ lanes_left ∷ []))

abbrev pub load_words : Mode → Width → Layout → (q : ℕ) → Option ℕ → Ty → (base index : ℕ) → List Listed
load_words Early w l q None t base index = Vector (first_fault_word w t (z_of l q) base index) ∷ read_faults ∷ []
load_words Early w l q (Some m) t base index = address_word t base index ∷ Vector (non_fault_word w t (z_of l q) (p_of l m)) ∷ read_faults ∷ []
load_words Single w l q mask t base index = Vector (load_word w t (z_of l q) (mask_register l.registers mask) base index) ∷ []

-- BRKB P0, P0/Z, c: the lanes before the first in which c holds
abbrev pub break_word : Layout → (c : ℕ) → Listed
break_word l c = Vector (word brkb (lanes_left ∷ p_of l c ∷ lanes_left ∷ []))

abbrev pub step_words : Mode → Width → Layout → (q : ℕ) → Option ℕ → Op → List Listed
step_words mode w l q mask (ops.Load a base (Some t) c) = narrow_words l mask (with_index c (load_words mode w l q mask t (base_of base) (index_of c)))
step_words mode w l q mask (ops.Break c) = break_word l c ∷ []
step_words mode w l q mask op = if is_used l op q then narrow_words l mask (vectors (op_code w l.registers q (mask_register l.registers mask) op)) else []

abbrev pub region_words : Mode → Width → Layout → List Item → List Listed
region_words mode w l [] = []
region_words mode w l (it ∷ items) = step_words mode w l it.item it.mask it.op ++ region_words mode w l items

-- SETFFR
abbrev pub set_faults : Listed
set_faults = Vector (word setffr [])

-- the region over a chunk
abbrev pub exits_words : Width → Layout → List Item → List Listed
exits_words w l items = set_faults ∷ region_words Early w l items

-- the region over one lane
abbrev pub single_words : Width → Layout → List Item → List Listed
single_words w l items = region_words Single w l items
