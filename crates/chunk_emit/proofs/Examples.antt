-- `if a[i] != 0 { b[i - 1] = min(a[i] as i32, 7); c += b[i]; d[i] = (b[i] + 1) as i8; }` in lanes of 32 bits, for a of u8, b of i32
-- and d of i8 in X0, X1 and X2: its code, and a layout that fits it.
use Rattle.std.proofs.Common.{◌≡◌, ◌≢◌, ℕ, zero, suc, ◌+◌, ◌<◌, ◌≤◌, pos, negsuc, Bool, true, false, ◌&&◌, ◌||◌, List, [], ◌∷◌, Some, None, refl, sym, ap, ◌∙◌, subst, arith, min, inl, inr}
use Rattle.std.specs.Prelude.{slice_index, nat_le, nat_eq, bytes_eq, if◌then◌else◌}
use Rattle.std.proofs.lemmas.Bool.{cases_lt, true≢false, and_parts, leb-true}
use Rattle.guest_types.specs.declared.length.Width.TheVariants.{S}
use Rattle.guest_types.specs.EarlyLoads.{never}
use Rattle.kernel_tree.specs.declared.ops.Ty.{Ty}
use Rattle.kernel_tree.proofs.Names.{bytes_eq-told, bytes_eq-refl}
use Rattle.kernel_meaning.specs.Iterate.{named}
use Rattle.sve_code.specs.Table.{ld1, st1, cmpne, m_smin, m_add, z_add, z_orr}
use Rattle.machine_model.specs.InstructionTable.{Scalar, Vector}
use Rattle.loop_form.specs.declared.loop_item.Operand.{Operand}
use Rattle.loop_form.specs.declared.loop_item.Operand.TheVariants.{Constant, Outer, LoopIndex, Made}
use Rattle.loop_form.specs.LoopItems.{Item, item}
use Rattle.loop_form.specs.LoopItems as ops
use Rattle.lane_emit.specs.Stretch.{word}
use Rattle.chunk_emit.specs.Registers.{Layout}
use Rattle.chunk_emit.specs.ChunkCode.{items_words}
use Rattle.chunk_emit.specs.Chunk.{Setting}
use Rattle.chunk_emit.specs.Fits.{Assigned, MakesNothing, NoneBetween, FitsItems}
use Rattle.kernel_tree.specs.declared.ops.Ty.TheVariants as ty
use Rattle.kernel_tree.specs.declared.ops.BinaryOp.TheVariants as binary
use Rattle.kernel_tree.specs.declared.ops.CompareOp.TheVariants as compare
use Rattle.kernel_tree.specs.declared.ops.UpdateOp.TheVariants as update
use Rattle.a64_code.specs.Table as a64

abbrev one : Operand
one = Constant (Some ty.I32) (pos 1)

abbrev c : List ℕ
c = 99 ∷ []

abbrev items : List Item
items =
    item 1 None (ops.Load (97 ∷ []) (Outer 0) (Some ty.U8) (pos 0))
    ∷ item 3 None (ops.Compare compare.Ne (Some ty.U8) (Made 1) (Constant (Some ty.U8) (pos 0)))
    ∷ item 6 (Some 3) (ops.Load (97 ∷ []) (Outer 0) (Some ty.U8) (pos 0))
    ∷ item 7 (Some 3) (ops.Cast (Some ty.U8) ty.I32 (Made 6))
    ∷ item 9 (Some 3) (ops.Binary binary.Min (Some ty.I32) (Made 7) (Constant (Some ty.I32) (pos 7)))
    ∷ item 10 (Some 3) (ops.Store (98 ∷ []) (Outer 1) (Some ty.I32) (negsuc 0) (Made 9))
    ∷ item 12 (Some 3) (ops.Load (98 ∷ []) (Outer 1) (Some ty.I32) (pos 0))
    ∷ item 13 (Some 3) (ops.Update c update.Add (Some ty.I32) (Made 12))
    ∷ item 15 (Some 3) (ops.Load (98 ∷ []) (Outer 1) (Some ty.I32) (pos 0))
    ∷ item 17 (Some 3) (ops.Binary binary.Add (Some ty.I32) (Made 15) one)
    ∷ item 18 (Some 3) (ops.Cast (Some ty.I32) ty.I8 (Made 17))
    ∷ item 19 (Some 3) (ops.Store (100 ∷ []) (Outer 2) (Some ty.I8) (pos 0) (Made 18))
    ∷ []

-- Z0 to Z2 hold 0, 7 and 1, Z3 the sum, and the register of each item's value is four more than its number
abbrev own : ℕ → ℕ
own q = 4 + min q 20

abbrev register : Operand → ℕ
register (Constant t (pos n)) = if nat_eq n 7 then 1 else if nat_eq n 1 then 2 else 0
register (Constant t (negsuc n)) = 0
register (Outer p) = 31
register LoopIndex = 31
register (Made q) = own q

abbrev is_held : Operand → Bool
is_held (Constant t z) = true
is_held other = false

-- by item
abbrev types : ℕ → Ty
types q = if nat_eq q 1 || nat_eq q 6 then ty.U8 else if nat_eq q 18 then ty.I8 else ty.I32

abbrev type_of : Operand → Ty
type_of (Constant t z) = ty.I32
type_of (Outer p) = ty.I32
type_of LoopIndex = ty.U64
type_of (Made q) = types q

abbrev uses : List ℕ
uses = 0 ∷ 3 ∷ 0 ∷ 0 ∷ 0 ∷ 0 ∷ 7 ∷ 9 ∷ 0 ∷ 10 ∷ 0 ∷ 0 ∷ 13 ∷ 0 ∷ 0 ∷ 17 ∷ 0 ∷ 18 ∷ 19 ∷ []

abbrev truth_uses : List ℕ
truth_uses = 0 ∷ 0 ∷ 0 ∷ 20 ∷ []

abbrev layout : Layout
layout = record {
  registers = record { source = register; z = own; p = λ q. 2 };
  type = type_of;
  z_last_use = slice_index uses;
  p_last_use = slice_index truth_uses;
  held = is_held;
  updated = λ x. bytes_eq x c;
  update = λ x. update.Add;
  sum_type = λ x. ty.I32;
  sum = λ x. 3;
}

-- no word for the cast that the last store takes; one copies the value of the cast of a byte, which the load has extended, to the
-- register of the minimum
code : items_words S layout items ≡
    Vector (word ld1 (5 ∷ 0 ∷ 0 ∷ 9 ∷ 2 ∷ []))
    ∷ Vector (word cmpne (2 ∷ 5 ∷ 0 ∷ 0 ∷ 2 ∷ []))
    ∷ Vector (word ld1 (10 ∷ 0 ∷ 2 ∷ 9 ∷ 2 ∷ []))
    ∷ Vector (word z_orr (11 ∷ 10 ∷ 10 ∷ []))
    ∷ Vector (word z_orr (13 ∷ 11 ∷ 11 ∷ []))
    ∷ Vector (word m_smin (13 ∷ 1 ∷ 1 ∷ 2 ∷ []))
    ∷ Scalar (record { name = a64.sub_imm; numbers = 26 ∷ 9 ∷ 1 ∷ 0 ∷ [] })
    ∷ Vector (word st1 (13 ∷ 1 ∷ 2 ∷ 26 ∷ 2 ∷ 2 ∷ []))
    ∷ Vector (word ld1 (16 ∷ 1 ∷ 2 ∷ 9 ∷ 10 ∷ []))
    ∷ Vector (word m_add (3 ∷ 16 ∷ 2 ∷ 2 ∷ []))
    ∷ Vector (word ld1 (19 ∷ 1 ∷ 2 ∷ 9 ∷ 10 ∷ []))
    ∷ Vector (word z_add (21 ∷ 19 ∷ 2 ∷ 2 ∷ []))
    ∷ Vector (word st1 (21 ∷ 2 ∷ 2 ∷ 9 ∷ 2 ∷ 0 ∷ []))
    ∷ []
code = refl

-- ---- the premises are met

abbrev all_low : ℕ → List ℕ → Bool
all_low n [] = true
all_low n (u ∷ us) = nat_le u n && all_low n us

index_of_low_list : (n : ℕ) (us : List ℕ) (q : ℕ) → all_low n us ≡ true → slice_index us q ≤ n
index_of_low_list n [] q e = omega arith
index_of_low_list n (u ∷ us) zero e = leb-true u n (and_parts (nat_le u n) (all_low n us) e).0
index_of_low_list n (u ∷ us) (suc q) e = index_of_low_list n us q (and_parts (nat_le u n) (all_low n us) e).1

uses_low : (q : ℕ) → slice_index uses q ≤ 19
uses_low q = index_of_low_list 19 uses q refl

-- registers of values that are needed
own_apart : (p q : ℕ) → q < p → p ≤ 19 → own p ≢ own q
own_apart p q lt le e = absurd (omega (arith, lt, le, e))

own_low : (q : ℕ) (z : ℕ) → z ≤ 3 → own q ≢ z
own_low q z le e = absurd (omega (arith, le, e))

held_low : (x : Operand) → is_held x ≡ true → register x ≤ 2
held_low (Constant t (pos n)) h = either (nat_eq n 7) (nat_eq n 1)
  where
    either : (a b : Bool) → (if a then 1 else if b then 2 else 0) ≤ 2
    either true b = omega arith
    either false true = omega arith
    either false false = omega arith
held_low (Constant t (negsuc n)) h = omega arith
held_low other h = absurd cc

late : (p : ℕ) → 3 < p → slice_index truth_uses p ≡ 0
late zero lt = absurd (omega (arith, lt))
late (suc zero) lt = absurd (omega (arith, lt))
late (suc (suc zero)) lt = absurd (omega (arith, lt))
late (suc (suc (suc zero))) lt = absurd (omega (arith, lt))
late (suc (suc (suc (suc p)))) lt = refl

no_other : (p q : ℕ) → q < p → p < slice_index truth_uses q → p < slice_index truth_uses p → ⊥
no_other p zero lt le used = absurd (omega (arith, le))
no_other p (suc zero) lt le used = absurd (omega (arith, le))
no_other p (suc (suc zero)) lt le used = absurd (omega (arith, le))
no_other p (suc (suc (suc zero))) lt le used = let none = late p lt in absurd (omega (arith, used, none))
no_other p (suc (suc (suc (suc q)))) lt le used = absurd (omega (arith, le))

assigned : Assigned layout
assigned = record {
  made = λ q. refl;
  z_small = λ q. omega arith;
  p_small = λ q. omega arith;
  p_low = λ q used. omega arith;
  held_small = λ x is. let h = held_low x is in omega (arith, h);
  sum_small = λ x is. omega arith;
  z_apart = λ p q lt later used. let most = uses_low q in own_apart p q lt (omega (arith, most, later));
  p_apart = λ p q lt later used. absurd (no_other p q lt later used);
  held_apart = λ x q is used e. let h = held_low x is in own_low q (register x) (omega (arith, h)) e;
  sum_apart = λ x q is used. own_low q 3 (omega arith);
  sum_made = λ x p q is lt later e. own_low q 3 (omega arith) (sym e);
  sum_held = λ x y is held e. let h = held_low y held in absurd (omega (arith, h, e));
  sums_apart = λ x y is other differ e. absurd (true≢false (sym (bytes_eq-refl c) ∙ ap (λ k. bytes_eq k c) (sym (bytes_eq-told x c is)) ∙ ap (bytes_eq x) (sym (bytes_eq-told y c other)) ∙ differ));
}

abbrev setting : Setting
setting = record {
  w = S;
  names = named (97 ∷ []) (pos 65536) ∷ named (98 ∷ []) (pos 131072) ∷ named (100 ∷ []) (pos 196608) ∷ named (110 ∷ []) (pos 8) ∷ [];
  i = 0;
  n = 4;
  vl = 128;
  stops = never;
  x = 65536 ∷ 131072 ∷ 196608 ∷ 8 ∷ 0 ∷ 0 ∷ 0 ∷ 0 ∷ 0 ∷ 0 ∷ [];
  sum = λ x e. pos 0;
}

-- the numbers between two items
none_at : (r : ℕ) → slice_index uses r ≤ r → slice_index truth_uses r ≤ r → NoneBetween layout r (r + 1)
none_at r h k q le lt = let same : r ≡ q = omega (arith, le, lt) in subst (MakesNothing layout) same (h, k)

next_item : (r : ℕ) → NoneBetween layout r r
next_item r q le lt = absurd (omega (arith, le, lt))

two : NoneBetween layout 4 6
two q le lt = elim (cases_lt q 5) [
  | inl first ↦ none_at 4 (omega arith) (omega arith) q le (omega (arith, first))
  | inr second ↦ none_at 5 (omega arith) (omega arith) q second (omega (arith, lt))
]

fits : FitsItems layout setting 1 items
fits = (omega arith, next_item 1, tt, ((omega arith, refl), omega arith, omega arith, omega arith, (omega arith, refl)), λ op e. omega arith, (omega arith, none_at 2 (omega arith) (omega arith), tt, ((((omega arith, omega arith), refl), omega arith), ((refl, refl), omega arith), omega arith), λ op e. omega arith, (omega arith, two, (omega arith, omega arith), ((omega arith, refl), omega arith, omega arith, omega arith, (omega arith, refl)), λ op e. omega arith, (omega arith, next_item 7, (omega arith, omega arith), ((((omega arith, omega arith), refl), omega arith), omega arith, (omega arith, refl)), λ op e. omega arith, (omega arith, none_at 8 (omega arith) (omega arith), (omega arith, omega arith), ((((omega arith, omega arith), refl), omega arith), ((refl, refl), omega arith), (omega arith, refl)), λ op e. omega arith, (omega arith, next_item 10, (omega arith, omega arith), ((omega arith, refl), omega arith, (((omega arith, omega arith), refl), omega arith), (omega arith, omega arith)), λ op e. omega arith, (omega arith, none_at 11 (omega arith) (omega arith), (omega arith, omega arith), ((omega arith, refl), omega arith, omega arith, omega arith, (omega arith, refl)), λ op e. omega arith, (omega arith, next_item 13, (omega arith, omega arith), (refl, refl, refl, (((omega arith, omega arith), refl), omega arith), (omega arith, omega arith)), λ op e. omega arith, (omega arith, none_at 14 (omega arith) (omega arith), (omega arith, omega arith), ((omega arith, refl), omega arith, omega arith, omega arith, (omega arith, refl)), λ op e. omega arith, (omega arith, none_at 16 (omega arith) (omega arith), (omega arith, omega arith), ((((omega arith, omega arith), refl), omega arith), ((refl, refl), omega arith), (omega arith, refl)), λ op e. omega arith, (omega arith, next_item 18, (omega arith, omega arith), ((((omega arith, omega arith), refl), omega arith), omega arith, (omega arith, refl)), λ op e. omega arith, (omega arith, next_item 19, (omega arith, omega arith), ((omega arith, refl), omega arith, (((omega arith, omega arith), refl), omega arith), (omega arith, omega arith)), tt, tt))))))))))))
