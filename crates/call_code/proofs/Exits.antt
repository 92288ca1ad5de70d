-- Only SVC #0 ends a run.
use Rattle.std.proofs.Common.{◌≡◌, ℕ, Bool, true, false, List, [], ◌∷◌, Option, Some, None, Result, Ok, Err, refl, sym, ap, ◌∙◌, arith}
use Rattle.std.specs.Prelude.{◌&&◌, nat_eq, if◌then◌else◌}
use Rattle.std.proofs.lemmas.Bool.{eqb-true, and_parts}
use Rattle.guest_types.specs.declared.memory.AccessFault.{AccessFault}
use Rattle.guest_types.specs.Memory.{Memory, loaded, stored}
use Rattle.guest_types.specs.LaneMemory.{StoredLanes, AllStored, StoreFault, Loaded, or_fault, store_of}
use Rattle.guest_types.specs.EarlyLoads.{EarlyLoad, unless_fault}
use Rattle.word_rows.specs.Field.{Field, rn, rm}
use Rattle.word_rows.specs.Row.{Fill, spells}
use Rattle.a64_code.specs.Table as a64
use Rattle.a64_code.proofs.Valid.{is_instruction}
use Rattle.sve_code.specs.Table as sve
use Rattle.machine_model.specs.declared.outcome.StopKind.TheVariants.{Read, Write, Call}
use Rattle.machine_model.specs.CodeInMemory.{spell, IsListed}
use Rattle.machine_model.specs.Effects.{act, arg, jump_if, write, load_to, store_from, as_it_is, from_byte, from_half, from_word, at_offset, at_register, at_scaled}
use Rattle.machine_model.specs.InstructionTable.{Listed, Scalar, Vector, listed}
use Rattle.machine_model.specs.Machine.{State, Step, Went, Ended, Stopped, x_at, x_or_sp, with_x, z_at, p_at, next}
use Rattle.machine_model.specs.OneStep.{does}
use Rattle.machine_model.specs.VectorEffects.{vector_act, after_load, after_early, after_store, field_of}
use Rattle.machine_model.proofs.ListedWords.{listed_spell}
use Rattle.promises.specs.OneExit.{exit_call, exit_word, is_svc}

abbrev pub is_end : Step → Bool
is_end (Went t) = false
is_end (Ended r) = true
is_end (Stopped kind pc at m) = false

-- ---- A64

or_sp_on : (b : Bool) (s : State) (d v : ℕ) → is_end (Went (next (if b then record s { sp = v } else with_x s d v))) ≡ false
or_sp_on b s d v = refl

jump_on : (b : Bool) (s : State) (to : ℕ) → is_end (jump_if b s to) ≡ false
jump_on b s to = refl

load_go : (s : State) (d : ℕ) (f : ℕ → ℕ) (o : Result ℕ AccessFault) → is_end (elim o as (λ o. Step) [ Ok v ↦ write s d (f v) | Err fault ↦ Stopped Read s.pc fault.address s.memory ]) ≡ false
load_go s d f (Ok v) = refl
load_go s d f (Err fault) = refl

load_on : (s : State) (d address size : ℕ) (f : ℕ → ℕ) → is_end (load_to s d address size f) ≡ false
load_on s d address size f = load_go s d f (loaded s.memory address size)

store_go : (s : State) (o : Result Memory AccessFault) → is_end (elim o as (λ o. Step) [ Ok memory ↦ Went (next (record s { memory = memory })) | Err fault ↦ Stopped Write s.pc fault.address s.memory ]) ≡ false
store_go s (Ok m) = refl
store_go s (Err fault) = refl

store_on : (s : State) (d address size : ℕ) → is_end (store_from s d address size) ≡ false
store_on s d address size = store_go s (stored s.memory address size (x_at s d))

scalar_on : (n : a64.Name) (ns : List ℕ) (s : State) → is_svc n ≡ false → is_end (act n ns s) ≡ false
scalar_on a64.svc ns s h = absurd cc
scalar_on a64.ldrb ns s h = load_on s (arg ns 0) (at_offset 1 ns s) 1 as_it_is
scalar_on a64.ldrsb ns s h = load_on s (arg ns 0) (at_offset 1 ns s) 1 from_byte
scalar_on a64.strb ns s h = store_on s (arg ns 0) (at_offset 1 ns s) 1
scalar_on a64.ldrh ns s h = load_on s (arg ns 0) (at_offset 2 ns s) 2 as_it_is
scalar_on a64.ldr_w ns s h = load_on s (arg ns 0) (at_offset 4 ns s) 4 as_it_is
scalar_on a64.ldr_x ns s h = load_on s (arg ns 0) (at_offset 8 ns s) 8 as_it_is
scalar_on a64.ldrsh ns s h = load_on s (arg ns 0) (at_offset 2 ns s) 2 from_half
scalar_on a64.ldrsw ns s h = load_on s (arg ns 0) (at_offset 4 ns s) 4 from_word
scalar_on a64.strh ns s h = store_on s (arg ns 0) (at_offset 2 ns s) 2
scalar_on a64.str_w ns s h = store_on s (arg ns 0) (at_offset 4 ns s) 4
scalar_on a64.str_x ns s h = store_on s (arg ns 0) (at_offset 8 ns s) 8
scalar_on a64.ldrb_register ns s h = load_on s (arg ns 0) (at_register ns s) 1 as_it_is
scalar_on a64.ldrsb_register ns s h = load_on s (arg ns 0) (at_register ns s) 1 from_byte
scalar_on a64.strb_register ns s h = store_on s (arg ns 0) (at_register ns s) 1
scalar_on a64.ldrh_register ns s h = load_on s (arg ns 0) (at_scaled 1 ns s) 2 as_it_is
scalar_on a64.ldr_w_register ns s h = load_on s (arg ns 0) (at_scaled 2 ns s) 4 as_it_is
scalar_on a64.ldr_x_register ns s h = load_on s (arg ns 0) (at_scaled 3 ns s) 8 as_it_is
scalar_on a64.ldrsh_register ns s h = load_on s (arg ns 0) (at_scaled 1 ns s) 2 from_half
scalar_on a64.ldrsw_register ns s h = load_on s (arg ns 0) (at_scaled 2 ns s) 4 from_word
scalar_on a64.strh_register ns s h = store_on s (arg ns 0) (at_scaled 1 ns s) 2
scalar_on a64.str_w_register ns s h = store_on s (arg ns 0) (at_scaled 2 ns s) 4
scalar_on a64.str_x_register ns s h = store_on s (arg ns 0) (at_scaled 3 ns s) 8
scalar_on _ ns s h = refl

-- ---- SVE

after_load_on : (o : Option AccessFault) (l : Loaded) (d : ℕ) (s : State) → is_end (after_load (or_fault o l) d s) ≡ false
after_load_on None l d s = refl
after_load_on (Some fault) l d s = refl

after_early_on : (o : Option AccessFault) (l : EarlyLoad) (d : ℕ) (s : State) → is_end (after_early (unless_fault o l) d s) ≡ false
after_early_on None l d s = refl
after_early_on (Some fault) l d s = refl

after_store_on : (l : StoredLanes) (s : State) → is_end (after_store l s) ≡ false
after_store_on (AllStored m) s = refl
after_store_on (StoreFault fault m) s = refl

vector_on : (n : sve.Name) (f : Field → ℕ) (s : State) → is_end (vector_act n f s) ≡ false
vector_on sve.ld1 f s = after_load_on _ _ (f sve.zt) s
vector_on sve.ldff1 f s = after_early_on _ _ (f sve.zt) s
vector_on sve.gld1b f s = after_load_on _ _ (f sve.zt) s
vector_on sve.gld1h f s = after_load_on _ _ (f sve.zt) s
vector_on sve.gld1w f s = after_load_on _ _ (f sve.zt) s
vector_on sve.gld1d f s = after_load_on _ _ (f sve.zt) s
vector_on sve.gld1sb f s = after_load_on _ _ (f sve.zt) s
vector_on sve.gld1sh f s = after_load_on _ _ (f sve.zt) s
vector_on sve.gld1sw f s = after_load_on _ _ (f sve.zt) s
vector_on sve.st1 f s = after_store_on (store_of (f sve.memory) (f sve.element) (x_or_sp s (f rn)) (x_at s (f rm)) s.vl (p_at s (f sve.pg)) (z_at s (f sve.zt)) s.memory) s
vector_on _ f s = refl

-- ---- the exit call

pub exit_listed : IsListed exit_call
exit_listed = is_instruction _ (omega arith, tt) refl

-- no other instruction has its word
pub is_exit : (i : Listed) → IsListed i → spell i ≡ exit_word → i ≡ exit_call
is_exit i h e =
    let one = listed_spell i h in
    let two : listed exit_word ≡ Some exit_call = listed_spell exit_call exit_listed in
    let both : Some i ≡ Some exit_call = sym one ∙ ap listed e ∙ two in
    cc

ends_at : (b : Bool) (x : ℕ) (s : State) → is_end (if b then Ended x else Stopped Call s.pc (x_at s 8) s.memory) ≡ true → b ≡ true
ends_at true x s h = refl
ends_at false x s h = absurd cc

call_ends : (ns : List ℕ) (s : State) → Fill (a64.imm16 ∷ []) ns → is_end (act a64.svc ns s) ≡ true → spells a64.row (record { name = a64.svc; numbers = ns }) ≡ exit_word
call_ends [] s h e = absurd h
call_ends (n ∷ []) s h e =
    let zero_at : n ≡ 0 = eqb-true n 0 (and_parts _ _ (ends_at (nat_eq n 0 && nat_eq (x_at s 8) 93) (x_at s 0) s e)).0 in
    ap (λ k. spells a64.row (record { name = a64.svc; numbers = k ∷ [] })) zero_at
call_ends (n ∷ m ∷ ns) s h e = absurd h.1

ends_by : (n : a64.Name) (ns : List ℕ) (s : State) → Fill (a64.row n).fields ns → (b : Bool) → is_svc n ≡ b → is_end (act n ns s) ≡ true → spells a64.row (record { name = n; numbers = ns }) ≡ exit_word
ends_by n ns s h false c e = let off = scalar_on n ns s c in absurd cc
ends_by a64.svc ns s h true c e = call_ends ns s h e
ends_by _ ns s h true c e = absurd cc

-- where an instruction ends the run, its word is that of the exit call
pub ends_by_exit : (i : Listed) (s : State) → IsListed i → is_end (does i s) ≡ true → spell i ≡ exit_word
ends_by_exit (Scalar i) s h e = ends_by i.name i.numbers s h.fits (is_svc i.name) refl e
ends_by_exit (Vector v) s h e = let off = vector_on v.name (field_of v.name v.numbers) s in absurd cc
