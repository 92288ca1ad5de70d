-- A step of an A64 instruction that goes on keeps the shape of the state.
use Rattle.std.proofs.Common.{◌≡◌, ℕ, zero, suc, ◌+◌, ◌-◌, ◌*◌, ◌/◌, ◌%◌, ◌^◌, ◌<◌, ◌≤◌, Bool, true, false, not, List, [], ◌∷◌, length, get_or, Some, Result, Ok, Err, refl, sym, subst, arith, lit<, inl, inr, ltb}
use Rattle.std.specs.Prelude.{All, nat_eq, nat_lt, nat_le, slice_get, slice_index, bit_and, bit_or, bit_xor, if◌then◌else◌, ◌&&◌}
use Rattle.std.specs.Int.{w64, cast_signed, cast_unsigned, int_shr}
use Rattle.std.proofs.lemmas.Bool.{cases_lt, ltb-true, leb-false}
use Rattle.std.proofs.lemmas.List.{get_or_past}
use Rattle.std.proofs.lemmas.List.Elements.{All-get_or}
use Rattle.std.proofs.lemmas.Nat.{and_le_l, or_lt, xor_lt, pow_pos, pow-add}
use Rattle.std.proofs.Math.Nat.{mod-lt, mod-le, div-le_self, mul-lt-mul_of_pos_right}
use Rattle.std.proofs.Math.Pow.{pow_mono}
use Rattle.guest_types.specs.declared.length.Width.TheVariants.{D}
use Rattle.guest_types.specs.declared.memory.AccessFault.{AccessFault}
use Rattle.guest_types.specs.Memory.{Memory, IsMemory, loaded, stored}
use Rattle.guest_types.specs.Elements.{element}
use Rattle.guest_types.proofs.Stores.{IsMemory-stored, loaded-below}
use Rattle.guest_types.proofs.Widths.{element-below}
use Rattle.word_rows.specs.Field.{Field}
use Rattle.word_rows.specs.Row.{Fill}
use Rattle.a64_code.specs.Table.{add_imm, sub_imm, subs_imm, add, sub, subs, land, orr, eor, orn, movz, movk, movn, madd, msub, lslv, lsrv, asrv, sbfm, ubfm, csel, csinc, b, b_cond, cbz, cbnz, ret, svc, brk, nop, umov, ldrb, ldrsb, strb, ldrh, ldr_w, ldr_x, ldrsh, ldrsw, strh, str_w, str_x, ldrb_register, ldrsb_register, strb_register, ldrh_register, ldr_w_register, ldr_x_register, ldrsh_register, ldrsw_register, strh_register, str_w_register, str_x_register, Name, row, imm16, hw}
use Rattle.machine_model.specs.declared.outcome.StopKind.TheVariants.{Read, Write, Call}
use Rattle.machine_model.specs.Arithmetic.{sum, difference, inverted, shifted_word, replaced, unsigned_field, signed_field, holds, target}
use Rattle.machine_model.specs.Machine.{State, Step, Went, Ended, Stopped, x_at, with_x, with_x_or_sp, z_at, jump, next}
use Rattle.machine_model.specs.Effects.{act, arg, jump_if, write, write_or_sp, write_with_flags, load_to, store_from, as_it_is, from_byte, from_half, from_word, immediate, base, first, second, half_place, product, shift_by, at_offset, at_register, at_scaled}
use Rattle.machine_model.specs.States.{IsVector, IsState}
use Rattle.machine_model.proofs.StateSteps.{next_is_state, wrapped, state_of_went, x_kept, sp_kept, jumped, flags_kept, memory_kept, x_put}

-- ---- numbers of 64 bits

read_below : (m : ℕ) (xs : List ℕ) (n : ℕ) → 0 < m → All (λ v. v < m) xs → get_or xs n 0 < m
read_below m xs n some all =
    elim (cases_lt n (length xs)) [ inl lt ↦ All-get_or (λ v. v < m) xs n 0 lt all | inr ge ↦ subst (λ v. v < m) (sym (get_or_past xs n 0 ge)) some ]

register_below : (s : State) (n : ℕ) → IsState s → x_at s n < 2 ^ 64
register_below s n h = read_below (2 ^ 64) s.x n (lit< tt) h.x_small

one_of : (b : Bool) (p q : ℕ) → p < 2 ^ 64 → q < 2 ^ 64 → (if b then p else q) < 2 ^ 64
one_of true p q hp hq = hp
one_of false p q hp hq = hq

inverted_below : (a : ℕ) → inverted a < 2 ^ 64
inverted_below a = omega arith

shr_below : (b : Bool) (v k : ℕ) → v < 2 ^ 64 → ltb v (2 ^ 63) ≡ b → cast_unsigned w64 (int_shr (cast_signed w64 v) k) < 2 ^ 64
shr_below true v k h e = let le = div-le_self v (2 ^ k) in rw e (omega (arith, h, le))
shr_below false v k h e = rw e (omega arith)

shifted_below : (kind v k : ℕ) → v < 2 ^ 64 → shifted_word kind v k < 2 ^ 64
shifted_below zero v k h = wrapped (v * 2 ^ k)
shifted_below (suc zero) v k h = omega (arith, h, div-le_self v (2 ^ k))
shifted_below (suc (suc zero)) v k h = shr_below (ltb v (2 ^ 63)) v k h refl
shifted_below (suc (suc (suc kind))) v k h =
    or_lt 64 (v / 2 ^ (k % 64)) (v * 2 ^ ((64 - k % 64) % 64) % 2 ^ 64) (omega (arith, h, div-le_self v (2 ^ (k % 64)))) (wrapped (v * 2 ^ ((64 - k % 64) % 64)))

byte_below : (b : Bool) (v : ℕ) → ltb v (2 ^ 7) ≡ b → from_byte v < 2 ^ 64
byte_below true v e = rw e (omega (arith, ltb-true v (2 ^ 7) e))
byte_below false v e = rw e (omega arith)

half_below : (b : Bool) (v : ℕ) → ltb v (2 ^ 15) ≡ b → from_half v < 2 ^ 64
half_below true v e = rw e (omega (arith, ltb-true v (2 ^ 15) e))
half_below false v e = rw e (omega arith)

word_below : (b : Bool) (v : ℕ) → ltb v (2 ^ 31) ≡ b → from_word v < 2 ^ 64
word_below true v e = rw e (omega (arith, ltb-true v (2 ^ 31) e))
word_below false v e = rw e (omega arith)

moved_below : (k imm : ℕ) → k < 4 → imm < 2 ^ 16 → imm * 2 ^ (16 * k) < 2 ^ 64
moved_below zero imm h i = omega arith
moved_below (suc zero) imm h i = omega arith
moved_below (suc (suc zero)) imm h i = omega arith
moved_below (suc (suc (suc zero))) imm h i = omega arith
moved_below (suc (suc (suc (suc k)))) imm h i = absurd (omega arith)

replaced_below : (k v imm : ℕ) → k < 4 → v < 2 ^ 64 → imm < 2 ^ 16 → replaced v (16 * k) imm < 2 ^ 64
replaced_below zero v imm h lt i = omega arith
replaced_below (suc zero) v imm h lt i = omega arith
replaced_below (suc (suc zero)) v imm h lt i = omega arith
replaced_below (suc (suc (suc zero))) v imm h lt i = omega arith
replaced_below (suc (suc (suc (suc k)))) v imm h lt i = absurd (omega arith)

-- a number of so many bits that is moved up within 64 bits
up_below : (v w k : ℕ) → v < 2 ^ w → w + k ≤ 64 → v * 2 ^ k < 2 ^ 64
up_below v w k h room =
    let low : v * 2 ^ k < 2 ^ w * 2 ^ k = mul-lt-mul_of_pos_right h (pow_pos k) in
    let e : 2 ^ (w + k) ≡ 2 ^ w * 2 ^ k = pow-add 2 w k in
    let high : 2 ^ (w + k) ≤ 2 ^ 64 = pow_mono room in
    omega (arith, low, e, high)

-- a bit field that goes up: from a place within the number, or from past it
place_below : (v immr imms : ℕ) → v < 2 ^ 64 → imms < immr → v % 2 ^ (imms + 1) * 2 ^ (64 - immr) < 2 ^ 64
place_below v immr imms h up =
    elim (cases_lt 64 immr) [
      | inl past ↦
          let none : 64 - immr ≡ 0 = omega arith in
          rw none (omega (arith, h, mod-le v (2 ^ (imms + 1))))
      | inr within ↦ up_below (v % 2 ^ (imms + 1)) (imms + 1) (64 - immr) (mod-lt v (pow_pos (imms + 1))) (omega arith)
    ]

low_below : (v immr w : ℕ) → v < 2 ^ 64 → v / 2 ^ immr % 2 ^ w * 2 ^ 0 < 2 ^ 64
low_below v immr w h = omega (arith, h, div-le_self v (2 ^ immr), mod-le (v / 2 ^ immr) (2 ^ w))

field_below : (b : Bool) (v immr imms : ℕ) → v < 2 ^ 64 → nat_le immr imms ≡ b → unsigned_field v immr imms < 2 ^ 64
field_below true v immr imms h e = rw e (low_below v immr (imms + 1 - immr) h)
field_below false v immr imms h e = rw e (place_below v immr imms h (leb-false immr imms e))

target_below : (pc width imm : ℕ) → target pc width imm < 2 ^ 64
target_below pc width imm =
    one_of (nat_lt imm (2 ^ (width - 1))) ((pc + 4 * imm) % 2 ^ 64) ((pc + (2 ^ 64 - 4 * (2 ^ width - imm))) % 2 ^ 64)
    (wrapped (pc + 4 * imm)) (wrapped (pc + (2 ^ 64 - 4 * (2 ^ width - imm))))

-- doubleword 0 of a vector register
doubleword_below : (s : State) (n : ℕ) → IsState s → element 8 (z_at s n) 0 < 2 ^ 64
doubleword_below s n h =
    elim (cases_lt n (length s.z)) [
      | inl lt ↦
          let v = All-get_or (IsVector s.vl) s.z n [] lt h.z_each in
          element-below D (get_or s.z n []) 0 (λ i. record { fits = read_below 256 (get_or s.z n []) i (lit< tt) v.small })
      | inr ge ↦
          let none = get_or_past s.z n [] ge in
          subst (λ z. element 8 z 0 < 2 ^ 64) (sym none) (lit< tt)
    ]

-- ---- the shapes of rows

write_keeps : (s t : State) (d v : ℕ) → IsState s → v < 2 ^ 64 → write s d v ≡ Went t → IsState t
write_keeps s t d v h lt e = x_put s t d v h lt e

or_sp_kept : (b : Bool) (s : State) (d v : ℕ) → IsState s → v < 2 ^ 64 → IsState (if b then record s { sp = v } else with_x s d v)
or_sp_kept true s d v h lt = sp_kept s v h lt
or_sp_kept false s d v h lt = x_kept s d v h lt

or_sp_keeps : (s t : State) (d v : ℕ) → IsState s → v < 2 ^ 64 → write_or_sp s d v ≡ Went t → IsState t
or_sp_keeps s t d v h lt e = state_of_went e (next_is_state (with_x_or_sp s d v) (or_sp_kept (nat_eq d 31) s d v h lt))

flags_keeps : (s t : State) (d left right : ℕ) → IsState s → write_with_flags s d left right ≡ Went t → IsState t
flags_keeps s t d left right h e =
    let v = difference left right in
    state_of_went e (next_is_state (record (with_x s d v) { flags = _ }) (flags_kept (with_x s d v) _ (x_kept s d v h (wrapped (left + (2 ^ 64 - right))))))

load_go : (s t : State) (d : ℕ) (f : ℕ → ℕ) (o : Result ℕ AccessFault) → IsState s → ((v : ℕ) → o ≡ Ok v → f v < 2 ^ 64) → elim o as (λ o. Step) [ Ok v ↦ write s d (f v) | Err fault ↦ Stopped Read s.pc fault.address s.memory ] ≡ Went t → IsState t
load_go s t d f (Ok v) h lt e = write_keeps s t d (f v) h (lt v refl) e
load_go s t d f (Err fault) h lt e = absurd cc

load_keeps : (s t : State) (d address size : ℕ) (f : ℕ → ℕ) → IsState s → ((v : ℕ) → v < 256 ^ size → f v < 2 ^ 64) → load_to s d address size f ≡ Went t → IsState t
load_keeps s t d address size f h lt e =
    load_go s t d f (loaded s.memory address size) h (λ v is. lt v (loaded-below s.memory address size v h.mapped is)) e

store_keeps_state : (s t : State) (o : Result Memory AccessFault) → IsState s → ((m : Memory) → o ≡ Ok m → IsMemory m) → elim o as (λ o. Step) [ Ok memory ↦ Went (next (record s { memory = memory })) | Err fault ↦ Stopped Write s.pc fault.address s.memory ] ≡ Went t → IsState t
store_keeps_state s t (Ok m) h is e = state_of_went e (next_is_state (record s { memory = m }) (memory_kept s m h (is m refl)))
store_keeps_state s t (Err fault) h is e = absurd cc

store_keeps : (s t : State) (d address size : ℕ) → IsState s → store_from s d address size ≡ Went t → IsState t
store_keeps s t d address size h e =
    store_keeps_state s t (stored s.memory address size (x_at s d)) h (λ m ok. IsMemory-stored s.memory m address size (x_at s d) ok h.mapped) e

jump_keeps : (s t : State) (to : ℕ) → IsState s → to < 2 ^ 64 → Went (jump s to) ≡ Went t → IsState t
jump_keeps s t to h lt e = state_of_went e (jumped s to h lt)

jump_if_keeps : (b : Bool) (s t : State) (to : ℕ) → IsState s → to < 2 ^ 64 → jump_if b s to ≡ Went t → IsState t
jump_if_keeps true s t to h lt e = jump_keeps s t to h lt e
jump_if_keeps false s t to h lt e = state_of_went e (next_is_state s h)

call_keeps : (b : Bool) (s t : State) → (if b then Ended (x_at s 0) else Stopped Call s.pc (x_at s 8) s.memory) ≡ Went t → IsState t
call_keeps true s t e = absurd cc
call_keeps false s t e = absurd cc

-- ---- every row

fill_at : (fields : List Field) (ns : List ℕ) (k : ℕ) (f : Field) → Fill fields ns → slice_get fields k ≡ Some f → slice_index ns k < 2 ^ f.width
fill_at [] ns k f fill at = absurd cc
fill_at (x ∷ fields) [] k f fill at = absurd fill
fill_at (x ∷ fields) (n ∷ ns) zero f fill at = let e : x ≡ f = cc in subst (λ y. n < 2 ^ y.width) e fill.0
fill_at (x ∷ fields) (n ∷ ns) (suc k) f fill at = fill_at fields ns k f fill.1 at

from_1 : (v : ℕ) → v < 256 ^ 1 → as_it_is v < 2 ^ 64
from_1 v h = omega (arith, h)

from_2 : (v : ℕ) → v < 256 ^ 2 → as_it_is v < 2 ^ 64
from_2 v h = omega (arith, h)

from_4 : (v : ℕ) → v < 256 ^ 4 → as_it_is v < 2 ^ 64
from_4 v h = omega (arith, h)

from_8 : (v : ℕ) → v < 256 ^ 8 → as_it_is v < 2 ^ 64
from_8 v h = omega (arith, h)

signed_1 : (v : ℕ) → v < 256 ^ 1 → from_byte v < 2 ^ 64
signed_1 v h = byte_below (ltb v (2 ^ 7)) v refl

signed_2 : (v : ℕ) → v < 256 ^ 2 → from_half v < 2 ^ 64
signed_2 v h = half_below (ltb v (2 ^ 15)) v refl

signed_4 : (v : ℕ) → v < 256 ^ 4 → from_word v < 2 ^ 64
signed_4 v h = word_below (ltb v (2 ^ 31)) v refl

pub scalar_keeps : (n : Name) (ns : List ℕ) (s t : State) → Fill (row n).fields ns → IsState s → act n ns s ≡ Went t → IsState t
scalar_keeps add_imm ns s t fill h e = or_sp_keeps s t (arg ns 0) (sum (base ns s) (immediate ns)) h (wrapped (base ns s + immediate ns)) e
scalar_keeps sub_imm ns s t fill h e = or_sp_keeps s t (arg ns 0) (difference (base ns s) (immediate ns)) h (wrapped (base ns s + (2 ^ 64 - immediate ns))) e
scalar_keeps subs_imm ns s t fill h e = flags_keeps s t (arg ns 0) (base ns s) (immediate ns) h e
scalar_keeps add ns s t fill h e = write_keeps s t (arg ns 0) (sum (first ns s) (second ns s)) h (wrapped (first ns s + second ns s)) e
scalar_keeps sub ns s t fill h e = write_keeps s t (arg ns 0) (difference (first ns s) (second ns s)) h (wrapped (first ns s + (2 ^ 64 - second ns s))) e
scalar_keeps subs ns s t fill h e = flags_keeps s t (arg ns 0) (first ns s) (second ns s) h e
scalar_keeps land ns s t fill h e = write_keeps s t (arg ns 0) (bit_and (first ns s) (second ns s)) h (omega (arith, and_le_l (first ns s) (second ns s), register_below s (arg ns 1) h)) e
scalar_keeps orr ns s t fill h e = write_keeps s t (arg ns 0) (bit_or (first ns s) (second ns s)) h (or_lt 64 (first ns s) (second ns s) (register_below s (arg ns 1) h) (shifted_below (arg ns 4) (x_at s (arg ns 3)) (arg ns 2) (register_below s (arg ns 3) h))) e
scalar_keeps eor ns s t fill h e = write_keeps s t (arg ns 0) (bit_xor (first ns s) (second ns s)) h (xor_lt 64 (first ns s) (second ns s) (register_below s (arg ns 1) h) (shifted_below (arg ns 4) (x_at s (arg ns 3)) (arg ns 2) (register_below s (arg ns 3) h))) e
scalar_keeps orn ns s t fill h e = write_keeps s t (arg ns 0) (bit_or (first ns s) (inverted (second ns s))) h (or_lt 64 (first ns s) (inverted (second ns s)) (register_below s (arg ns 1) h) (inverted_below (second ns s))) e
scalar_keeps movz ns s t fill h e = write_keeps s t (arg ns 0) (arg ns 1 * 2 ^ half_place ns) h (moved_below (arg ns 2) (arg ns 1) (fill_at (row movz).fields ns 2 hw fill refl) (fill_at (row movz).fields ns 1 imm16 fill refl)) e
scalar_keeps movk ns s t fill h e = write_keeps s t (arg ns 0) (replaced (x_at s (arg ns 0)) (half_place ns) (arg ns 1)) h (replaced_below (arg ns 2) (x_at s (arg ns 0)) (arg ns 1) (fill_at (row movk).fields ns 2 hw fill refl) (register_below s (arg ns 0) h) (fill_at (row movk).fields ns 1 imm16 fill refl)) e
scalar_keeps movn ns s t fill h e = write_keeps s t (arg ns 0) (inverted (arg ns 1 * 2 ^ half_place ns)) h (inverted_below (arg ns 1 * 2 ^ half_place ns)) e
scalar_keeps madd ns s t fill h e = write_keeps s t (arg ns 0) (sum (x_at s (arg ns 2)) (product ns s)) h (wrapped (x_at s (arg ns 2) + product ns s)) e
scalar_keeps msub ns s t fill h e = write_keeps s t (arg ns 0) (difference (x_at s (arg ns 2)) (product ns s)) h (wrapped (x_at s (arg ns 2) + (2 ^ 64 - product ns s))) e
scalar_keeps lslv ns s t fill h e = write_keeps s t (arg ns 0) (shift_by 0 ns s) h (shifted_below 0 (first ns s) (x_at s (arg ns 2) % 64) (register_below s (arg ns 1) h)) e
scalar_keeps lsrv ns s t fill h e = write_keeps s t (arg ns 0) (shift_by 1 ns s) h (shifted_below 1 (first ns s) (x_at s (arg ns 2) % 64) (register_below s (arg ns 1) h)) e
scalar_keeps asrv ns s t fill h e = write_keeps s t (arg ns 0) (shift_by 2 ns s) h (shifted_below 2 (first ns s) (x_at s (arg ns 2) % 64) (register_below s (arg ns 1) h)) e
scalar_keeps sbfm ns s t fill h e = write_keeps s t (arg ns 0) (signed_field (first ns s) (arg ns 3) (arg ns 2)) h (wrapped _) e
scalar_keeps ubfm ns s t fill h e = write_keeps s t (arg ns 0) (unsigned_field (first ns s) (arg ns 3) (arg ns 2)) h (field_below (nat_le (arg ns 3) (arg ns 2)) (first ns s) (arg ns 3) (arg ns 2) (register_below s (arg ns 1) h) refl) e
scalar_keeps csel ns s t fill h e = write_keeps s t (arg ns 0) (if holds (arg ns 2) s.flags then first ns s else x_at s (arg ns 3)) h (one_of (holds (arg ns 2) s.flags) (first ns s) (x_at s (arg ns 3)) (register_below s (arg ns 1) h) (register_below s (arg ns 3) h)) e
scalar_keeps csinc ns s t fill h e = write_keeps s t (arg ns 0) (if holds (arg ns 2) s.flags then first ns s else sum (x_at s (arg ns 3)) 1) h (one_of (holds (arg ns 2) s.flags) (first ns s) (sum (x_at s (arg ns 3)) 1) (register_below s (arg ns 1) h) (wrapped (x_at s (arg ns 3) + 1))) e
scalar_keeps b ns s t fill h e = jump_keeps s t (target s.pc 26 (arg ns 0)) h (target_below s.pc 26 (arg ns 0)) e
scalar_keeps b_cond ns s t fill h e = jump_if_keeps (holds (arg ns 0) s.flags) s t (target s.pc 19 (arg ns 1)) h (target_below s.pc 19 (arg ns 1)) e
scalar_keeps cbz ns s t fill h e = jump_if_keeps (nat_eq (x_at s (arg ns 0)) 0) s t (target s.pc 19 (arg ns 1)) h (target_below s.pc 19 (arg ns 1)) e
scalar_keeps cbnz ns s t fill h e = jump_if_keeps (not (nat_eq (x_at s (arg ns 0)) 0)) s t (target s.pc 19 (arg ns 1)) h (target_below s.pc 19 (arg ns 1)) e
scalar_keeps ret ns s t fill h e = jump_keeps s t (x_at s (arg ns 0)) h (register_below s (arg ns 0) h) e
scalar_keeps svc ns s t fill h e = call_keeps (nat_eq (arg ns 0) 0 && nat_eq (x_at s 8) 93) s t e
scalar_keeps brk ns s t fill h e = absurd cc
scalar_keeps nop ns s t fill h e = state_of_went e (next_is_state s h)
scalar_keeps umov ns s t fill h e = write_keeps s t (arg ns 0) (element 8 (z_at s (arg ns 1)) 0) h (doubleword_below s (arg ns 1) h) e
scalar_keeps ldrb ns s t fill h e = load_keeps s t (arg ns 0) (at_offset 1 ns s) 1 as_it_is h from_1 e
scalar_keeps ldrsb ns s t fill h e = load_keeps s t (arg ns 0) (at_offset 1 ns s) 1 from_byte h signed_1 e
scalar_keeps strb ns s t fill h e = store_keeps s t (arg ns 0) (at_offset 1 ns s) 1 h e
scalar_keeps ldrh ns s t fill h e = load_keeps s t (arg ns 0) (at_offset 2 ns s) 2 as_it_is h from_2 e
scalar_keeps ldr_w ns s t fill h e = load_keeps s t (arg ns 0) (at_offset 4 ns s) 4 as_it_is h from_4 e
scalar_keeps ldr_x ns s t fill h e = load_keeps s t (arg ns 0) (at_offset 8 ns s) 8 as_it_is h from_8 e
scalar_keeps ldrsh ns s t fill h e = load_keeps s t (arg ns 0) (at_offset 2 ns s) 2 from_half h signed_2 e
scalar_keeps ldrsw ns s t fill h e = load_keeps s t (arg ns 0) (at_offset 4 ns s) 4 from_word h signed_4 e
scalar_keeps strh ns s t fill h e = store_keeps s t (arg ns 0) (at_offset 2 ns s) 2 h e
scalar_keeps str_w ns s t fill h e = store_keeps s t (arg ns 0) (at_offset 4 ns s) 4 h e
scalar_keeps str_x ns s t fill h e = store_keeps s t (arg ns 0) (at_offset 8 ns s) 8 h e
scalar_keeps ldrb_register ns s t fill h e = load_keeps s t (arg ns 0) (at_register ns s) 1 as_it_is h from_1 e
scalar_keeps ldrsb_register ns s t fill h e = load_keeps s t (arg ns 0) (at_register ns s) 1 from_byte h signed_1 e
scalar_keeps strb_register ns s t fill h e = store_keeps s t (arg ns 0) (at_register ns s) 1 h e
scalar_keeps ldrh_register ns s t fill h e = load_keeps s t (arg ns 0) (at_scaled 1 ns s) 2 as_it_is h from_2 e
scalar_keeps ldr_w_register ns s t fill h e = load_keeps s t (arg ns 0) (at_scaled 2 ns s) 4 as_it_is h from_4 e
scalar_keeps ldr_x_register ns s t fill h e = load_keeps s t (arg ns 0) (at_scaled 3 ns s) 8 as_it_is h from_8 e
scalar_keeps ldrsh_register ns s t fill h e = load_keeps s t (arg ns 0) (at_scaled 1 ns s) 2 from_half h signed_2 e
scalar_keeps ldrsw_register ns s t fill h e = load_keeps s t (arg ns 0) (at_scaled 2 ns s) 4 from_word h signed_4 e
scalar_keeps strh_register ns s t fill h e = store_keeps s t (arg ns 0) (at_scaled 1 ns s) 2 h e
scalar_keeps str_w_register ns s t fill h e = store_keeps s t (arg ns 0) (at_scaled 2 ns s) 4 h e
scalar_keeps str_x_register ns s t fill h e = store_keeps s t (arg ns 0) (at_scaled 3 ns s) 8 h e
