-- Worked rows: `break if a[i] == 0;` in lanes of bytes, for a of u8 in X0, and reads under a mask in lanes of 16 bits; a layout that
-- meets what the laws want; and
-- `break if a[i] == 0 || b[i] == 0;` as two breaks.
use Rattle.std.proofs.Common.{◌≡◌, ℕ, zero, suc, ◌+◌, ◌<◌, pos, Bool, true, false, List, [], ◌∷◌, ◌++◌, length, Some, None, refl, subst, arith}
use Rattle.std.specs.Prelude.{slice_index, nat_eq, if◌then◌else◌}
use Rattle.guest_types.specs.declared.length.Width.TheVariants.{B, H}
use Rattle.guest_types.specs.EarlyLoads.{never}
use Rattle.kernel_tree.specs.declared.ops.Ty.{Ty}
use Rattle.kernel_tree.specs.declared.ops.Ty.TheVariants as ty
use Rattle.kernel_tree.specs.declared.ops.CompareOp.TheVariants as compare
use Rattle.kernel_tree.specs.declared.ops.UpdateOp.TheVariants as update
use Rattle.kernel_meaning.specs.Iterate.{named}
use Rattle.a64_code.specs.Table as a64
use Rattle.sve_code.specs.Table.{p_and, brkb, rdffr_z, setffr, cmpeq, ld1, ldff1, ldnf1}
use Rattle.machine_model.specs.InstructionTable.{Scalar, Vector}
use Rattle.vector_order.specs.Orders.{Lane}
use Rattle.loop_form.specs.declared.loop_item.Operand.{Operand}
use Rattle.loop_form.specs.declared.loop_item.Operand.TheVariants.{Constant, Outer, LoopIndex, Made}
use Rattle.loop_form.specs.LoopItems.{Item, item, loop_items_of}
use Rattle.loop_form.specs.LoopItems as ops
use Rattle.lane_emit.specs.Stretch.{word}
use Rattle.chunk_emit.specs.Registers.{Layout}
use Rattle.chunk_emit.specs.Chunk.{Setting}
use Rattle.chunk_emit.specs.Fits.{Assigned, MakesNothing, NoneBetween}
use Rattle.first_fault.specs.Region.{On, Broke, Fell, region_way}
use Rattle.first_fault.specs.RegionCode.{Early, Single, region_words, exits_words, single_words}
use Rattle.first_fault.specs.Fits.{FitsRegion}
use Rattle.first_fault.specs.BreakRegion.{region_of, rest_of}
use Rattle.loop_form.proofs.Kernels.{either, three}

abbrev nought : Operand
nought = Constant (Some ty.U8) (pos 0)

abbrev items : List Item
items =
    item 3 None (ops.Load (97 ∷ []) (Outer 0) (Some ty.U8) (pos 0))
    ∷ item 5 None (ops.Compare compare.Eq (Some ty.U8) (Made 3) nought)
    ∷ item 6 None (ops.Break 5)
    ∷ []

-- Z0 holds 0, and the value read is in Z1
abbrev register : Operand → ℕ
register (Made q) = 1
register _ = 0

abbrev is_held : Operand → Bool
is_held (Constant t z) = true
is_held _ = false

abbrev type_of : Operand → Ty
type_of x = ty.U8

abbrev uses : List ℕ
uses = 0 ∷ 0 ∷ 0 ∷ 5 ∷ []

abbrev truth_uses : List ℕ
truth_uses = 0 ∷ 0 ∷ 0 ∷ 0 ∷ 0 ∷ 6 ∷ []

abbrev layout : Layout
layout = record {
  registers = record { source = register; z = λ q. 1; p = λ q. 2 };
  type = type_of;
  z_last_use = slice_index uses;
  p_last_use = slice_index truth_uses;
  held = is_held;
  updated = λ x. false;
  update = λ x. update.Add;
  sum_type = λ x. ty.U8;
  sum = λ x. 2;
}

-- setffr; ldff1b {z1.b}, p0/z, [x0, x9]; rdffr p0.b, p0/z; cmpeq p2.b, p0/z, z1.b, z0.b; brkb p0.b, p0/z, p2.b
exits : exits_words B layout items ≡ Vector (word setffr []) ∷ Vector (word ldff1 (1 ∷ 0 ∷ 0 ∷ 9 ∷ 0 ∷ [])) ∷ Vector (word rdffr_z (0 ∷ 0 ∷ [])) ∷ Vector (word cmpeq (2 ∷ 1 ∷ 0 ∷ 0 ∷ 0 ∷ [])) ∷ Vector (word brkb (0 ∷ 2 ∷ 0 ∷ [])) ∷ []
exits = refl

-- ld1b {z1.b}, p0/z, [x0, x9]; cmpeq p2.b, p0/z, z1.b, z0.b; brkb p0.b, p0/z, p2.b
single : single_words B layout items ≡ Vector (word ld1 (1 ∷ 0 ∷ 0 ∷ 9 ∷ 0 ∷ [])) ∷ Vector (word cmpeq (2 ∷ 1 ∷ 0 ∷ 0 ∷ 0 ∷ [])) ∷ Vector (word brkb (0 ∷ 2 ∷ 0 ∷ [])) ∷ []
single = refl

-- b[i + 1] of u16, b in X1, where the condition in P2 holds:
-- and p2.b, p0/z, p2.b, p2.b; add x26, x9, #1; add x26, x1, x26, lsl #1; ldnf1h {z1.h}, p2/z, [x26]; rdffr p0.b, p0/z
region_of_masked_load : region_words Early H layout (item 7 (Some 5) (ops.Load (98 ∷ []) (Outer 1) (Some ty.U16) (pos 1)) ∷ [])
    ≡ Vector (word p_and (2 ∷ 2 ∷ 0 ∷ 2 ∷ [])) ∷ Scalar (record { name = a64.add_imm; numbers = 26 ∷ 9 ∷ 1 ∷ 0 ∷ [] }) ∷ Scalar (record { name = a64.add; numbers = 26 ∷ 1 ∷ 1 ∷ 26 ∷ 0 ∷ [] }) ∷ Vector (word ldnf1 (1 ∷ 26 ∷ 2 ∷ 5 ∷ [])) ∷ Vector (word rdffr_z (0 ∷ 0 ∷ [])) ∷ []
region_of_masked_load = refl

-- and p2.b, p0/z, p2.b, p2.b; add x26, x9, #1; ld1h {z1.h}, p2/z, [x1, x26, lsl #1]
masked_single : region_words Single H layout (item 7 (Some 5) (ops.Load (98 ∷ []) (Outer 1) (Some ty.U16) (pos 1)) ∷ [])
    ≡ Vector (word p_and (2 ∷ 2 ∷ 0 ∷ 2 ∷ [])) ∷ Scalar (record { name = a64.add_imm; numbers = 26 ∷ 9 ∷ 1 ∷ 0 ∷ [] }) ∷ Vector (word ld1 (1 ∷ 1 ∷ 2 ∷ 26 ∷ 5 ∷ [])) ∷ []
masked_single = refl

-- ---- how iterations fare

abbrev fresh : Lane
fresh = record { value = λ q. pos 0; truth = λ q. false; shares = [] }

-- a read of a page that is not mapped
falls : region_way (named (97 ∷ []) (pos 65536) ∷ []) items 20 [] fresh ≡ Fell
falls = refl

-- `break if i == 20;`
abbrev at_twenty : List Item
at_twenty = item 4 None (ops.Compare compare.Eq (Some ty.U64) LoopIndex (Constant (Some ty.U64) (pos 20))) ∷ item 5 None (ops.Break 4) ∷ []

breaks : region_way [] at_twenty 20 [] fresh ≡ Broke
breaks = refl

-- whether an iteration goes on
abbrev goes : Rattle.first_fault.specs.Region.Way → Bool
goes (On l) = true
goes Broke = false
goes Fell = false

example_goes_on : goes (region_way [] at_twenty 19 [] fresh) ≡ true
example_goes_on = refl

-- ---- the split

abbrev stored : Item
stored = item 9 None (ops.Store (98 ∷ []) (Outer 1) (Some ty.U8) (pos 0) nought)

split : region_of (items ++ stored ∷ []) ≡ items
split = refl

rest : rest_of (items ++ stored ∷ []) ≡ stored ∷ []
rest = refl

-- ---- the premises are met

one_value : (q : ℕ) → q < slice_index uses q → q ≡ 3
one_value zero lt = absurd (omega (arith, lt))
one_value (suc zero) lt = absurd (omega (arith, lt))
one_value (suc (suc zero)) lt = absurd (omega (arith, lt))
one_value (suc (suc (suc zero))) lt = refl
one_value (suc (suc (suc (suc q)))) lt = absurd (omega (arith, lt))

one_truth : (q : ℕ) → q < slice_index truth_uses q → q ≡ 5
one_truth zero lt = absurd (omega (arith, lt))
one_truth (suc zero) lt = absurd (omega (arith, lt))
one_truth (suc (suc zero)) lt = absurd (omega (arith, lt))
one_truth (suc (suc (suc zero))) lt = absurd (omega (arith, lt))
one_truth (suc (suc (suc (suc zero)))) lt = absurd (omega (arith, lt))
one_truth (suc (suc (suc (suc (suc zero))))) lt = refl
one_truth (suc (suc (suc (suc (suc (suc q)))))) lt = absurd (omega (arith, lt))

held_zero : (x : Operand) → is_held x ≡ true → register x ≡ 0
held_zero (Constant t z) e = refl
held_zero (Outer p) e = refl
held_zero LoopIndex e = refl
held_zero (Made q) e = absurd cc

assigned : Assigned layout
assigned = record {
  made = λ q. refl;
  z_small = λ q. omega arith;
  p_small = λ q. omega arith;
  p_low = λ q used. omega arith;
  held_small = λ x is. let h = held_zero x is in omega (arith, h);
  sum_small = λ x is. omega arith;
  z_apart = λ p q lt later used e. let a = one_value p used in let b = one_value q (omega (arith, lt, later)) in absurd (omega (arith, lt, a, b));
  p_apart = λ p q lt later used e. let a = one_truth p used in let b = one_truth q (omega (arith, lt, later)) in absurd (omega (arith, lt, a, b));
  held_apart = λ x q is used e. let h = held_zero x is in absurd (omega (arith, h, e));
  sum_apart = λ x q is used e. absurd cc;
  sum_made = λ x p q is lt later e. absurd cc;
  sum_held = λ x y is held e. absurd cc;
  sums_apart = λ x y is other differ e. absurd cc;
}

abbrev setting : Setting
setting = record {
  w = B;
  names = named (97 ∷ []) (pos 65536) ∷ named (110 ∷ []) (pos 300) ∷ [];
  i = 32;
  n = 16;
  vl = 128;
  stops = never;
  x = 65536 ∷ 300 ∷ 0 ∷ 0 ∷ 0 ∷ 0 ∷ 0 ∷ 0 ∷ 0 ∷ 32 ∷ [];
  sum = λ x e. pos 0;
}

none_four : NoneBetween layout 4 5
none_four q le lt = let same : 4 ≡ q = omega (arith, le, lt) in subst (MakesNothing layout) same (omega arith, omega arith)

none_at : (r : ℕ) → NoneBetween layout r r
none_at r q le lt = absurd (omega (arith, le, lt))

fits : FitsRegion layout setting 3 items
fits = (omega arith, none_at 3, tt, ((omega arith, refl), omega arith, omega arith, omega arith, (omega arith, refl)), (omega arith, none_four, tt, ((((omega arith, omega arith), refl), omega arith), ((refl, refl), omega arith), omega arith), (omega arith, none_at 6, tt, (refl, (omega arith, omega arith), (omega arith, omega arith)), tt)))

-- ---- two breaks, of `break if a[i] == 0 || b[i] == 0;`, and three

-- item q reads the array of parameter x, and item p compares what it read
abbrev read_of : ℕ → ℕ → Item
read_of q x = item q None (ops.Load ((97 + x) ∷ []) (Outer x) (Some ty.U8) (pos 0))

abbrev is_zero : ℕ → ℕ → Item
is_zero q p = item q None (ops.Compare compare.Eq (Some ty.U8) (Made p) nought)

two_items : loop_items_of either ≡ read_of 4 0 ∷ is_zero 6 4 ∷ item 7 None (ops.Break 6) ∷ read_of 8 1 ∷ is_zero 10 8 ∷ item 11 None (ops.Break 10) ∷ []
two_items = refl

three_items : loop_items_of three ≡ read_of 5 0 ∷ is_zero 7 5 ∷ item 8 None (ops.Break 7) ∷ read_of 9 1 ∷ is_zero 11 9 ∷ item 12 None (ops.Break 11) ∷ read_of 14 2 ∷ is_zero 16 14 ∷ item 17 None (ops.Break 16) ∷ []
three_items = refl

-- what a value of an item in a place of the listing is needed until
abbrev until : List ℕ → ℕ → ℕ
until [] r = 0
until (q ∷ []) r = 0
until (q ∷ p ∷ more) r = if nat_eq q r then p else until more r

abbrev either_layout : Layout
either_layout = record layout { z_last_use = until (4 ∷ 6 ∷ 8 ∷ 10 ∷ []); p_last_use = until (6 ∷ 11 ∷ 10 ∷ 11 ∷ []) }

-- setffr; ldff1b {z1.b}, p0/z, [x0, x9]; rdffr p0.b, p0/z; cmpeq p2.b, p0/z, z1.b, z0.b; brkb p0.b, p0/z, p2.b
-- ldff1b {z1.b}, p0/z, [x1, x9]; rdffr p0.b, p0/z; cmpeq p2.b, p0/z, z1.b, z0.b; brkb p0.b, p0/z, p2.b
either_exits : exits_words B either_layout (region_of (loop_items_of either))
    ≡ Vector (word setffr [])
    ∷ Vector (word ldff1 (1 ∷ 0 ∷ 0 ∷ 9 ∷ 0 ∷ [])) ∷ Vector (word rdffr_z (0 ∷ 0 ∷ [])) ∷ Vector (word cmpeq (2 ∷ 1 ∷ 0 ∷ 0 ∷ 0 ∷ [])) ∷ Vector (word brkb (0 ∷ 2 ∷ 0 ∷ []))
    ∷ Vector (word ldff1 (1 ∷ 1 ∷ 0 ∷ 9 ∷ 0 ∷ [])) ∷ Vector (word rdffr_z (0 ∷ 0 ∷ [])) ∷ Vector (word cmpeq (2 ∷ 1 ∷ 0 ∷ 0 ∷ 0 ∷ [])) ∷ Vector (word brkb (0 ∷ 2 ∷ 0 ∷ []))
    ∷ []
either_exits = refl

abbrev three_layout : Layout
three_layout = record layout { z_last_use = until (5 ∷ 7 ∷ 9 ∷ 11 ∷ 14 ∷ 16 ∷ []); p_last_use = until (7 ∷ 12 ∷ 11 ∷ 12 ∷ 16 ∷ 17 ∷ []) }

-- thirteen words for three arrays: four for each, and `setffr`
three_exits : length (exits_words B three_layout (region_of (loop_items_of three))) ≡ 13
three_exits = refl
