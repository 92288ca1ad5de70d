-- Each A64 instruction leaves alone what `Frames` says.
use Rattle.std.proofs.Common.{◌≡◌, ℕ, ◌+◌, ◌%◌, ◌^◌, Bool, true, false, not, List, Some, None, Result, Ok, Err, refl, subst}
use Rattle.std.specs.Prelude.{nat_eq, if◌then◌else◌, ◌&&◌}
use Rattle.std.proofs.lemmas.List.{get_or-set_other}
use Rattle.guest_types.specs.declared.memory.AccessFault.{AccessFault}
use Rattle.guest_types.specs.Memory.{Memory, loaded, stored}
use Rattle.guest_types.proofs.Stores.{fetched-stored, can_read-stored, can_write-stored}
use Rattle.a64_code.specs.Table.{add_imm, sub_imm, subs_imm, subs, b, b_cond, cbz, cbnz, ret, svc, brk, nop, ldrb, ldrsb, strb, ldrh, ldr_w, ldr_x, ldrsh, ldrsw, strh, str_w, str_x, ldrb_register, ldrsb_register, strb_register, ldrh_register, ldr_w_register, ldr_x_register, ldrsh_register, ldrsw_register, strh_register, str_w_register, str_x_register, Name}
use Rattle.machine_model.specs.declared.outcome.StopKind.TheVariants.{Read, Write, Call}
use Rattle.machine_model.specs.Arithmetic.{holds, target, difference}
use Rattle.machine_model.specs.Machine.{State, Step, Went, Ended, Stopped, x_at, with_x, jump, next}
use Rattle.machine_model.specs.Effects.{act, arg, jump_if, write, write_or_sp, write_with_flags, load_to, store_from, as_it_is, from_byte, from_half, from_word, at_offset, at_register, at_scaled}
use Rattle.machine_model.specs.Frames.{Parts, LeavesOther, ScalarLeaves}

leaves_other_of_went : (parts : Parts) (s : State) {u t : State} → Went u ≡ Went t → LeavesOther parts s u → LeavesOther parts s t
leaves_other_of_went parts s {u = u} {t = t} e k = let same : u ≡ t = cc in subst (λ x. LeavesOther parts s x) same k

-- one general register, and where `sp` or `flags` is true that part too
abbrev one_x : ℕ → (sp flags : Bool) → Parts
one_x d sp flags = record { pc = false; x = Some d; sp = sp; z = None; p = None; flags = flags; ffr = false; stops = false; memory = false }

abbrev no_x : (pc memory : Bool) → Parts
no_x pc memory = record { pc = pc; x = None; sp = false; z = None; p = None; flags = false; ffr = false; stops = false; memory = memory }

writes : (s t : State) (d v : ℕ) → write s d v ≡ Went t → LeavesOther (one_x d false false) s t
writes s t d v e = leaves_other_of_went (one_x d false false) s e (record { pc = refl; sp = refl; vl = refl; code = λ a lt. refl; access = λ a. (refl, refl); memory = refl; flags = refl; ffr = refl; stops = refl; x = λ n ne. get_or-set_other s.x d n v 0 ne; z = refl; p = refl })

or_sp : (b : Bool) (s : State) (d v : ℕ) → LeavesOther (one_x d b false) s (next (if b then record s { sp = v } else with_x s d v))
or_sp true s d v = record { pc = refl; sp = tt; vl = refl; code = λ a lt. refl; access = λ a. (refl, refl); memory = refl; flags = refl; ffr = refl; stops = refl; x = λ n ne. refl; z = refl; p = refl }
or_sp false s d v = record { pc = refl; sp = refl; vl = refl; code = λ a lt. refl; access = λ a. (refl, refl); memory = refl; flags = refl; ffr = refl; stops = refl; x = λ n ne. get_or-set_other s.x d n v 0 ne; z = refl; p = refl }

writes_or_sp : (s t : State) (d v : ℕ) → write_or_sp s d v ≡ Went t → LeavesOther (one_x d (nat_eq d 31) false) s t
writes_or_sp s t d v e = leaves_other_of_went (one_x d (nat_eq d 31) false) s e (or_sp (nat_eq d 31) s d v)

with_flags : (s t : State) (d left right : ℕ) → write_with_flags s d left right ≡ Went t → LeavesOther (one_x d false true) s t
with_flags s t d left right e = leaves_other_of_went (one_x d false true) s e (record { pc = refl; sp = refl; vl = refl; code = λ a lt. refl; access = λ a. (refl, refl); memory = refl; flags = tt; ffr = refl; stops = refl; x = λ n ne. get_or-set_other s.x d n (difference left right) 0 ne; z = refl; p = refl })

load_go : (s t : State) (d : ℕ) (f : ℕ → ℕ) (o : Result ℕ AccessFault) → elim o as (λ o. Step) [ Ok v ↦ write s d (f v) | Err fault ↦ Stopped Read s.pc fault.address s.memory ] ≡ Went t → LeavesOther (one_x d false false) s t
load_go s t d f (Ok v) e = writes s t d (f v) e
load_go s t d f (Err fault) e = absurd cc

loads : (s t : State) (d address size : ℕ) (f : ℕ → ℕ) → load_to s d address size f ≡ Went t → LeavesOther (one_x d false false) s t
loads s t d address size f e = load_go s t d f (loaded s.memory address size) e

store_leaves_other : (s t : State) (address size v : ℕ) (o : Result Memory AccessFault) → stored s.memory address size v ≡ o → elim o as (λ o. Step) [ Ok memory ↦ Went (next (record s { memory = memory })) | Err fault ↦ Stopped Write s.pc fault.address s.memory ] ≡ Went t → LeavesOther (no_x false true) s t
store_leaves_other s t address size v (Ok m) is e = leaves_other_of_went (no_x false true) s e (record { pc = refl; sp = refl; vl = refl; code = λ a lt. fetched-stored s.memory m address size v a lt is; access = λ a. (can_read-stored s.memory m address size v a is, can_write-stored s.memory m address size v a is); memory = tt; flags = refl; ffr = refl; stops = refl; x = refl; z = refl; p = refl })
store_leaves_other s t address size v (Err fault) is e = absurd cc

stores : (s t : State) (d address size : ℕ) → store_from s d address size ≡ Went t → LeavesOther (no_x false true) s t
stores s t d address size e = store_leaves_other s t address size (x_at s d) (stored s.memory address size (x_at s d)) refl e

jumps : (s t : State) (to : ℕ) → Went (jump s to) ≡ Went t → LeavesOther (no_x true false) s t
jumps s t to e = leaves_other_of_went (no_x true false) s e (record { pc = tt; sp = refl; vl = refl; code = λ a lt. refl; access = λ a. (refl, refl); memory = refl; flags = refl; ffr = refl; stops = refl; x = refl; z = refl; p = refl })

jumps_if : (b : Bool) (s t : State) (to : ℕ) → jump_if b s to ≡ Went t → LeavesOther (no_x true false) s t
jumps_if true s t to e = jumps s t to e
jumps_if false s t to e = jumps s t ((s.pc + 4) % 2 ^ 64) e

next_leaves_other : (s t : State) → Went (next s) ≡ Went t → LeavesOther (no_x false false) s t
next_leaves_other s t e = leaves_other_of_went (no_x false false) s e (record { pc = refl; sp = refl; vl = refl; code = λ a lt. refl; access = λ a. (refl, refl); memory = refl; flags = refl; ffr = refl; stops = refl; x = refl; z = refl; p = refl })

calls : (b : Bool) (s t : State) → (if b then Ended (x_at s 0) else Stopped Call s.pc (x_at s 8) s.memory) ≡ Went t → LeavesOther (no_x false false) s t
calls true s t e = absurd cc
calls false s t e = absurd cc

pub scalar_leaves : (n : Name) (ns : List ℕ) (s t : State) → act n ns s ≡ Went t → ScalarLeaves n ns s t
scalar_leaves add_imm ns s t e = writes_or_sp s t (arg ns 0) _ e
scalar_leaves sub_imm ns s t e = writes_or_sp s t (arg ns 0) _ e
scalar_leaves subs_imm ns s t e = with_flags s t (arg ns 0) _ _ e
scalar_leaves subs ns s t e = with_flags s t (arg ns 0) _ _ e
scalar_leaves b ns s t e = jumps s t (target s.pc 26 (arg ns 0)) e
scalar_leaves b_cond ns s t e = jumps_if (holds (arg ns 0) s.flags) s t (target s.pc 19 (arg ns 1)) e
scalar_leaves cbz ns s t e = jumps_if (nat_eq (x_at s (arg ns 0)) 0) s t (target s.pc 19 (arg ns 1)) e
scalar_leaves cbnz ns s t e = jumps_if (not (nat_eq (x_at s (arg ns 0)) 0)) s t (target s.pc 19 (arg ns 1)) e
scalar_leaves ret ns s t e = jumps s t (x_at s (arg ns 0)) e
scalar_leaves svc ns s t e = calls (nat_eq (arg ns 0) 0 && nat_eq (x_at s 8) 93) s t e
scalar_leaves brk ns s t e = absurd cc
scalar_leaves nop ns s t e = next_leaves_other s t e
scalar_leaves ldrb ns s t e = loads s t (arg ns 0) (at_offset 1 ns s) 1 as_it_is e
scalar_leaves ldrsb ns s t e = loads s t (arg ns 0) (at_offset 1 ns s) 1 from_byte e
scalar_leaves strb ns s t e = stores s t (arg ns 0) (at_offset 1 ns s) 1 e
scalar_leaves ldrh ns s t e = loads s t (arg ns 0) (at_offset 2 ns s) 2 as_it_is e
scalar_leaves ldr_w ns s t e = loads s t (arg ns 0) (at_offset 4 ns s) 4 as_it_is e
scalar_leaves ldr_x ns s t e = loads s t (arg ns 0) (at_offset 8 ns s) 8 as_it_is e
scalar_leaves ldrsh ns s t e = loads s t (arg ns 0) (at_offset 2 ns s) 2 from_half e
scalar_leaves ldrsw ns s t e = loads s t (arg ns 0) (at_offset 4 ns s) 4 from_word e
scalar_leaves strh ns s t e = stores s t (arg ns 0) (at_offset 2 ns s) 2 e
scalar_leaves str_w ns s t e = stores s t (arg ns 0) (at_offset 4 ns s) 4 e
scalar_leaves str_x ns s t e = stores s t (arg ns 0) (at_offset 8 ns s) 8 e
scalar_leaves ldrb_register ns s t e = loads s t (arg ns 0) (at_register ns s) 1 as_it_is e
scalar_leaves ldrsb_register ns s t e = loads s t (arg ns 0) (at_register ns s) 1 from_byte e
scalar_leaves strb_register ns s t e = stores s t (arg ns 0) (at_register ns s) 1 e
scalar_leaves ldrh_register ns s t e = loads s t (arg ns 0) (at_scaled 1 ns s) 2 as_it_is e
scalar_leaves ldr_w_register ns s t e = loads s t (arg ns 0) (at_scaled 2 ns s) 4 as_it_is e
scalar_leaves ldr_x_register ns s t e = loads s t (arg ns 0) (at_scaled 3 ns s) 8 as_it_is e
scalar_leaves ldrsh_register ns s t e = loads s t (arg ns 0) (at_scaled 1 ns s) 2 from_half e
scalar_leaves ldrsw_register ns s t e = loads s t (arg ns 0) (at_scaled 2 ns s) 4 from_word e
scalar_leaves strh_register ns s t e = stores s t (arg ns 0) (at_scaled 1 ns s) 2 e
scalar_leaves str_w_register ns s t e = stores s t (arg ns 0) (at_scaled 2 ns s) 4 e
scalar_leaves str_x_register ns s t e = stores s t (arg ns 0) (at_scaled 3 ns s) 8 e
scalar_leaves other ns s t e = writes s t (arg ns 0) _ e
