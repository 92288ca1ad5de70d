-- The most words that an item of the region has: five where reads may stop early, which a read under a mask at an offset has, and four
-- over one lane.
use Rattle.std.proofs.Common.{◌≡◌, ℕ, ◌+◌, ◌*◌, ◌≤◌, ℤ, pos, negsuc, zero, suc, Bool, true, false, List, [], ◌∷◌, ◌++◌, length, Option, Some, None, refl, arith}
use Rattle.std.specs.Prelude.{if◌then◌else◌}
use Rattle.std.proofs.lemmas.List.{length-append, length-map}
use Rattle.guest_types.specs.declared.length.Width.{Width}
use Rattle.guest_types.specs.declared.length.Width.TheVariants.{H}
use Rattle.kernel_tree.specs.declared.ops.Ty.{Ty}
use Rattle.kernel_tree.specs.declared.ops.Ty.TheVariants as ty
use Rattle.kernel_tree.specs.declared.ops.BinaryOp.TheVariants as binary
use Rattle.machine_model.specs.InstructionTable.{Listed}
use Rattle.label_fix.specs.DraftRun.{DraftEntry, Put}
use Rattle.label_fix.specs.Emits.{puts}
use Rattle.label_fix.specs.Finished.{size}
use Rattle.label_fix.proofs.PlacedRuns.{words_added}
use Rattle.loop_form.specs.declared.loop_item.LoopItem.{LoopItem}
use Rattle.loop_form.specs.declared.loop_item.Operand.TheVariants.{Outer}
use Rattle.loop_form.specs.LoopView.{view_of, view}
use Rattle.loop_form.specs.LoopItems.{Op, Item}
use Rattle.loop_form.specs.LoopItems as ops
use Rattle.lane_emit.specs.LaneCode.{binary_code}
use Rattle.lane_emit.specs.ItemCode.{op_code, mask_register}
use Rattle.close_bound.specs.CloseBound.{lane_steps}
use Rattle.chunk_emit.specs.Registers.{Layout, base_of, is_used}
use Rattle.chunk_emit.specs.ChunkCode.{with_index, index_of, vectors}
use Rattle.chunk_emit.proofs.Counts.{used_few as code_few}
use Rattle.first_fault.specs.RegionCode.{Mode, Early, Single, narrow_words, load_words, step_words, region_words, single_words}

abbrev most : Mode → ℕ
most Early = 5
most Single = 4

-- a mask has one word more
narrow_most : (l : Layout) (mask : Option ℕ) (rest : List Listed) (n : ℕ) → length rest ≤ n → length (narrow_words l mask rest) ≤ 1 + n
narrow_most l None rest n h = omega (arith, h)
narrow_most l (Some q) rest n h = omega (arith, h)

-- and an offset
index_most : (c : ℤ) (rest : List Listed) (n : ℕ) → length rest ≤ n → length (with_index c rest) ≤ 1 + n
index_most (pos zero) rest n h = omega (arith, h)
index_most (pos (suc k)) rest n h = omega (arith, h)
index_most (negsuc k) rest n h = omega (arith, h)

load_most : (mode : Mode) (w : Width) (l : Layout) (q : ℕ) (mask : Option ℕ) (t : Ty) (base : ℕ) (c : ℤ) → length (narrow_words l mask (with_index c (load_words mode w l q mask t base (index_of c)))) ≤ most mode
load_most Early w l q None t base c = let few = index_most c (load_words Early w l q None t base (index_of c)) 2 (omega arith) in omega (arith, few)
load_most Early w l q (Some m) t base c = let few = index_most c (load_words Early w l q (Some m) t base (index_of c)) 3 (omega arith) in omega (arith, few)
load_most Single w l q mask t base c =
    let few = narrow_most l mask (with_index c (load_words Single w l q mask t base (index_of c))) 2 (index_most c (load_words Single w l q mask t base (index_of c)) 1 (omega arith)) in
    omega (arith, few)

four_most : (mode : Mode) (n : ℕ) → n ≤ 4 → n ≤ most mode
four_most Early n h = omega (arith, h)
four_most Single n h = h

used_most : (mode : Mode) (w : Width) (l : Layout) (q : ℕ) (mask : Option ℕ) (op : Op) (b : Bool) → lane_steps op ≤ 3 → length (if b then narrow_words l mask (vectors (op_code w l.registers q (mask_register l.registers mask) op)) else []) ≤ most mode
used_most mode w l q mask op true h =
    let code = vectors (op_code w l.registers q (mask_register l.registers mask) op) in
    let own = code_few w l q (mask_register l.registers mask) op true in
    let all = narrow_most l mask code 3 (omega (arith, own, h)) in
    four_most mode (length (narrow_words l mask code)) (omega (arith, all))
used_most mode w l q mask op false h = four_most mode 0 (omega arith)

step_most : (mode : Mode) (w : Width) (l : Layout) (q : ℕ) (mask : Option ℕ) (op : Op) → length (step_words mode w l q mask op) ≤ most mode
step_most mode w l q mask (ops.Load a base (Some t) c) = load_most mode w l q mask t (base_of base) c
step_most mode w l q mask (ops.Load a base None c) = used_most mode w l q mask (ops.Load a base None c) (is_used l (ops.Load a base None c) q) (offset_most c)
  where
    offset_most : (c : ℤ) → lane_steps (ops.Load a base None c) ≤ 3
    offset_most (pos zero) = omega arith
    offset_most (pos (suc k)) = omega arith
    offset_most (negsuc k) = omega arith
step_most mode w l q mask (ops.Break c) = four_most mode 1 (omega arith)
step_most mode w l q mask (ops.Gather a base t reach u x) = used_most mode w l q mask (ops.Gather a base t reach u x) (is_used l (ops.Gather a base t reach u x) q) (omega arith)
step_most mode w l q mask (ops.Unary op t x) = used_most mode w l q mask (ops.Unary op t x) (is_used l (ops.Unary op t x) q) (omega arith)
step_most mode w l q mask (ops.Binary op t x y) = used_most mode w l q mask (ops.Binary op t x y) (is_used l (ops.Binary op t x y) q) (omega arith)
step_most mode w l q mask (ops.Shift left k t x) = used_most mode w l q mask (ops.Shift left k t x) (is_used l (ops.Shift left k t x) q) (omega arith)
step_most mode w l q mask (ops.Cast s t x) = used_most mode w l q mask (ops.Cast s t x) (is_used l (ops.Cast s t x) q) (omega arith)
step_most mode w l q mask (ops.Let t x) = used_most mode w l q mask (ops.Let t x) (is_used l (ops.Let t x) q) (omega arith)
step_most mode w l q mask (ops.Select t c x y) = used_most mode w l q mask (ops.Select t c x y) (is_used l (ops.Select t c x y) q) (omega arith)
step_most mode w l q mask (ops.Store a base t c v) = used_most mode w l q mask (ops.Store a base t c v) (is_used l (ops.Store a base t c v) q) (offset_most c)
  where
    offset_most : (c : ℤ) → lane_steps (ops.Store a base t c v) ≤ 3
    offset_most (pos zero) = omega arith
    offset_most (pos (suc k)) = omega arith
    offset_most (negsuc k) = omega arith
step_most mode w l q mask (ops.Update x op t v) = used_most mode w l q mask (ops.Update x op t v) (is_used l (ops.Update x op t v) q) (omega arith)
step_most mode w l q mask (ops.Compare op t x y) = used_most mode w l q mask (ops.Compare op t x y) (is_used l (ops.Compare op t x y) q) (omega arith)
step_most mode w l q mask (ops.Not c) = used_most mode w l q mask (ops.Not c) (is_used l (ops.Not c) q) (omega arith)
step_most mode w l q mask (ops.And c) = used_most mode w l q mask (ops.And c) (is_used l (ops.And c) q) (omega arith)
step_most mode w l q mask (ops.Or c d) = used_most mode w l q mask (ops.Or c d) (is_used l (ops.Or c d) q) (omega arith)

early_most : (w : Width) (l : Layout) (items : List Item) → length (region_words Early w l items) ≤ 5 * length items
early_most w l [] = omega arith
early_most w l (it ∷ items) =
    let both = length-append (step_words Early w l it.item it.mask it.op) (region_words Early w l items) in
    let here = step_most Early w l it.item it.mask it.op in
    let more = early_most w l items in
    omega (arith, both, here, more)

lone_most : (w : Width) (l : Layout) (items : List Item) → length (region_words Single w l items) ≤ 4 * length items
lone_most w l [] = omega arith
lone_most w l (it ∷ items) =
    let both = length-append (step_words Single w l it.item it.mask it.op) (region_words Single w l items) in
    let here = step_most Single w l it.item it.mask it.op in
    let more = lone_most w l items in
    omega (arith, both, here, more)

-- ---- of a draft

size-puts : (is : List Listed) → size (puts is []) ≡ length is
size-puts [] = omega arith
size-puts (i ∷ is) = let more = size-puts is in omega (arith, more)

appended : (words : List Listed) (n : ℕ) (old new : List DraftEntry) → new ++ [] ≡ old ++ puts words [] → length words ≤ n → size new ≤ size old + n
appended words n old new e few =
    let own = size-puts words in
    words_added old new (puts words []) n e (omega (arith, own, few))

pub exits_most : (w : Width) (l : Layout) (i : Listed) (items : List LoopItem) (old mid new : List DraftEntry) → mid ++ [] ≡ old ++ Put i ∷ [] → new ++ [] ≡ mid ++ puts (region_words Early w l (view items)) [] → size new ≤ size old + (1 + 5 * length items)
exits_most w l i items old mid new one more =
    let few = early_most w l (view items) in
    let same = length-map items view_of in
    let first = appended (i ∷ []) 1 old mid one (omega arith) in
    let region = appended (region_words Early w l (view items)) (5 * length items) mid new more (omega (arith, few, same)) in
    omega (arith, first, region)

pub single_most : (w : Width) (l : Layout) (items : List LoopItem) (old new : List DraftEntry) → new ++ [] ≡ old ++ puts (single_words w l (view items)) [] → size new ≤ size old + 4 * length items
single_most w l items old new e =
    let few = lone_most w l (view items) in
    let same = length-map items view_of in
    appended (single_words w l (view items)) (4 * length items) old new e (omega (arith, few, same))

-- ---- no smaller number would do

-- a read under a mask at an offset
five_words : (w : Width) (l : Layout) (q m : ℕ) (a : List ℕ) (t : Ty) → length (step_words Early w l q (Some m) (ops.Load a (Outer 0) (Some t) (pos 1))) ≡ 5
five_words w l q m a t = refl

-- a product in a register of its own, of a type that is narrower than the lane; its mask has one word more
three_words : length (binary_code H binary.Mul ty.U8 1 2 3) ≡ 3
three_words = refl
