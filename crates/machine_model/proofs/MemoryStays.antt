-- All that steps do to memory is stores. So, whatever a step or a run comes to, what is mapped stays so, with its permissions,
-- nothing else becomes mapped, and the words of executable pages stay, since they are never writable.
use Rattle.std.proofs.Common.{◌≡◌, ℕ, zero, suc, ◌+◌, ◌^◌, ◌<◌, Bool, true, false, not, List, Option, Some, None, Result, Ok, Err, refl}
use Rattle.std.specs.Prelude.{nat_eq, if◌then◌else◌, ◌&&◌}
use Rattle.guest_types.specs.declared.memory.AccessFault.{AccessFault}
use Rattle.guest_types.specs.Memory.{Memory, fetched, loaded, stored}
use Rattle.guest_types.specs.AfterStores.{AfterStores, Unchanged, Stored}
use Rattle.guest_types.specs.Length.{width_bytes, lanes}
use Rattle.guest_types.specs.Elements.{at, active}
use Rattle.guest_types.specs.LaneMemory.{StoredLanes, AllStored, StoreFault, Loaded, store_of, or_fault, width_of_size, lane_address}
use Rattle.guest_types.specs.EarlyLoads.{EarlyLoad, unless_fault}
use Rattle.guest_types.proofs.AfterStores.{can_read-after, can_write-after, fetched-after, joined-after, left_by, lanes-after}
use Rattle.word_rows.specs.Field.{Field, rn, rm}
use Rattle.a64_code.specs.Table as a64
use Rattle.sve_code.specs.Table as sve
use Rattle.machine_model.specs.declared.outcome.StopKind.TheVariants.{Read, Write, Call, Undefined}
use Rattle.machine_model.specs.InstructionTable.{Listed, Scalar, Vector}
use Rattle.machine_model.specs.Machine.{State, Step, Went, Ended, Stopped, x_at, x_or_sp, with_x, z_at, p_at, memory_after, next}
use Rattle.machine_model.specs.Effects.{act, arg, jump_if, write, load_to, store_from, as_it_is, from_byte, from_half, from_word, at_offset, at_register, at_scaled}
use Rattle.machine_model.specs.Arithmetic.{holds, target}
use Rattle.machine_model.specs.VectorEffects.{vector_act, after_load, after_early, after_store}
use Rattle.machine_model.specs.OneStep.{step, does, do_word, reads_word}
use Rattle.machine_model.specs.Run.{Outcome, go_on, run, memory_left}
use Rattle.machine_model.specs.Frames.{SameAccess}

-- what a step leaves
abbrev ByStores : Step → State → Type 0
ByStores o s = AfterStores s.memory (memory_after o s)

-- ---- A64

or_sp_stores : (b : Bool) (s : State) (d v : ℕ) → ByStores (Went (next (if b then record s { sp = v } else with_x s d v))) s
or_sp_stores true s d v = Unchanged s.memory
or_sp_stores false s d v = Unchanged s.memory

jump_stores : (b : Bool) (s : State) (to : ℕ) → ByStores (jump_if b s to) s
jump_stores true s to = Unchanged s.memory
jump_stores false s to = Unchanged s.memory

call_stores : (b : Bool) (s : State) → ByStores (if b then Ended (x_at s 0) else Stopped Call s.pc (x_at s 8) s.memory) s
call_stores true s = Unchanged s.memory
call_stores false s = Unchanged s.memory

load_go : (s : State) (d : ℕ) (f : ℕ → ℕ) (o : Result ℕ AccessFault) → ByStores (elim o as (λ o. Step) [ Ok v ↦ write s d (f v) | Err fault ↦ Stopped Read s.pc fault.address s.memory ]) s
load_go s d f (Ok v) = Unchanged s.memory
load_go s d f (Err fault) = Unchanged s.memory

load_stores : (s : State) (d address size : ℕ) (f : ℕ → ℕ) → ByStores (load_to s d address size f) s
load_stores s d address size f = load_go s d f (loaded s.memory address size)

store_by_stores : (s : State) (address size v : ℕ) (o : Result Memory AccessFault) → stored s.memory address size v ≡ o → ByStores (elim o as (λ o. Step) [ Ok memory ↦ Went (next (record s { memory = memory })) | Err fault ↦ Stopped Write s.pc fault.address s.memory ]) s
store_by_stores s address size v (Ok m) is = Stored s.memory m m address size v is (Unchanged m)
store_by_stores s address size v (Err fault) is = Unchanged s.memory

store_stores : (s : State) (d address size : ℕ) → ByStores (store_from s d address size) s
store_stores s d address size = store_by_stores s address size (x_at s d) (stored s.memory address size (x_at s d)) refl

scalar_stores : (n : a64.Name) (ns : List ℕ) (s : State) → ByStores (act n ns s) s
scalar_stores a64.add_imm ns s = or_sp_stores (nat_eq (arg ns 0) 31) s (arg ns 0) _
scalar_stores a64.sub_imm ns s = or_sp_stores (nat_eq (arg ns 0) 31) s (arg ns 0) _
scalar_stores a64.b_cond ns s = jump_stores (holds (arg ns 0) s.flags) s (target s.pc 19 (arg ns 1))
scalar_stores a64.cbz ns s = jump_stores (nat_eq (x_at s (arg ns 0)) 0) s (target s.pc 19 (arg ns 1))
scalar_stores a64.cbnz ns s = jump_stores (not (nat_eq (x_at s (arg ns 0)) 0)) s (target s.pc 19 (arg ns 1))
scalar_stores a64.svc ns s = call_stores (nat_eq (arg ns 0) 0 && nat_eq (x_at s 8) 93) s
scalar_stores a64.ldrb ns s = load_stores s (arg ns 0) (at_offset 1 ns s) 1 as_it_is
scalar_stores a64.ldrsb ns s = load_stores s (arg ns 0) (at_offset 1 ns s) 1 from_byte
scalar_stores a64.strb ns s = store_stores s (arg ns 0) (at_offset 1 ns s) 1
scalar_stores a64.ldrh ns s = load_stores s (arg ns 0) (at_offset 2 ns s) 2 as_it_is
scalar_stores a64.ldr_w ns s = load_stores s (arg ns 0) (at_offset 4 ns s) 4 as_it_is
scalar_stores a64.ldr_x ns s = load_stores s (arg ns 0) (at_offset 8 ns s) 8 as_it_is
scalar_stores a64.ldrsh ns s = load_stores s (arg ns 0) (at_offset 2 ns s) 2 from_half
scalar_stores a64.ldrsw ns s = load_stores s (arg ns 0) (at_offset 4 ns s) 4 from_word
scalar_stores a64.strh ns s = store_stores s (arg ns 0) (at_offset 2 ns s) 2
scalar_stores a64.str_w ns s = store_stores s (arg ns 0) (at_offset 4 ns s) 4
scalar_stores a64.str_x ns s = store_stores s (arg ns 0) (at_offset 8 ns s) 8
scalar_stores a64.ldrb_register ns s = load_stores s (arg ns 0) (at_register ns s) 1 as_it_is
scalar_stores a64.ldrsb_register ns s = load_stores s (arg ns 0) (at_register ns s) 1 from_byte
scalar_stores a64.strb_register ns s = store_stores s (arg ns 0) (at_register ns s) 1
scalar_stores a64.ldrh_register ns s = load_stores s (arg ns 0) (at_scaled 1 ns s) 2 as_it_is
scalar_stores a64.ldr_w_register ns s = load_stores s (arg ns 0) (at_scaled 2 ns s) 4 as_it_is
scalar_stores a64.ldr_x_register ns s = load_stores s (arg ns 0) (at_scaled 3 ns s) 8 as_it_is
scalar_stores a64.ldrsh_register ns s = load_stores s (arg ns 0) (at_scaled 1 ns s) 2 from_half
scalar_stores a64.ldrsw_register ns s = load_stores s (arg ns 0) (at_scaled 2 ns s) 4 from_word
scalar_stores a64.strh_register ns s = store_stores s (arg ns 0) (at_scaled 1 ns s) 2
scalar_stores a64.str_w_register ns s = store_stores s (arg ns 0) (at_scaled 2 ns s) 4
scalar_stores a64.str_x_register ns s = store_stores s (arg ns 0) (at_scaled 3 ns s) 8
scalar_stores _ ns s = Unchanged s.memory

-- ---- SVE

after_load_stores : (o : Option AccessFault) (l : Loaded) (d : ℕ) (s : State) → ByStores (after_load (or_fault o l) d s) s
after_load_stores None l d s = Unchanged s.memory
after_load_stores (Some fault) l d s = Unchanged s.memory

after_early_stores : (o : Option AccessFault) (l : EarlyLoad) (d : ℕ) (s : State) → ByStores (after_early (unless_fault o l) d s) s
after_early_stores None l d s = Unchanged s.memory
after_early_stores (Some fault) l d s = Unchanged s.memory

after_store_stores : (l : StoredLanes) (s : State) → AfterStores s.memory (left_by l) → ByStores (after_store l s) s
after_store_stores (AllStored m) s left = left
after_store_stores (StoreFault fault m) s left = left

vector_store_stores : (msz size base index : ℕ) (pg z : List ℕ) (s : State) → ByStores (after_store (store_of msz size base index s.vl pg z s.memory) s) s
vector_store_stores msz size base index pg z s =
    let w = width_of_size size in
    let k = width_bytes (width_of_size msz) in
    after_store_stores (store_of msz size base index s.vl pg z s.memory) s
    (lanes-after (active w pg) (lane_address base index k) (at w z) k (lanes s.vl w) 0 s.memory)

vector_stores : (n : sve.Name) (f : Field → ℕ) (s : State) → ByStores (vector_act n f s) s
vector_stores sve.ld1 f s = after_load_stores _ _ (f sve.zt) s
vector_stores sve.ldff1 f s = after_early_stores _ _ (f sve.zt) s
vector_stores sve.gld1b f s = after_load_stores _ _ (f sve.zt) s
vector_stores sve.gld1h f s = after_load_stores _ _ (f sve.zt) s
vector_stores sve.gld1w f s = after_load_stores _ _ (f sve.zt) s
vector_stores sve.gld1d f s = after_load_stores _ _ (f sve.zt) s
vector_stores sve.gld1sb f s = after_load_stores _ _ (f sve.zt) s
vector_stores sve.gld1sh f s = after_load_stores _ _ (f sve.zt) s
vector_stores sve.gld1sw f s = after_load_stores _ _ (f sve.zt) s
vector_stores sve.st1 f s = vector_store_stores (f sve.memory) (f sve.element) (x_or_sp s (f rn)) (x_at s (f rm)) (p_at s (f sve.pg)) (z_at s (f sve.zt)) s
vector_stores _ f s = Unchanged s.memory

-- ---- a step

pub does_stores : (i : Listed) (s : State) → ByStores (does i s) s
does_stores (Scalar i) s = scalar_stores i.name i.numbers s
does_stores (Vector i) s = vector_stores i.name _ s

read_stores : (o : Option Listed) (word : ℕ) (s : State) → ByStores (elim o as (λ o. Step) [ None ↦ Stopped Undefined s.pc word s.memory | Some i ↦ does i s ]) s
read_stores None word s = Unchanged s.memory
read_stores (Some i) word s = does_stores i s

word_stores : (o : Option ℕ) (s : State) → ByStores (do_word o s) s
word_stores None s = Unchanged s.memory
word_stores (Some word) s = read_stores (reads_word word) word s

pub step_stores : (s : State) → ByStores (step s) s
step_stores s = word_stores (fetched s.memory s.pc) s

pub step_access : (s : State) (a : ℕ) → SameAccess s.memory (memory_after (step s) s) a
step_access s a = (can_read-after (step_stores s) a, can_write-after (step_stores s) a)

pub step_code : (s : State) (a : ℕ) → a < 2 ^ 64 → fetched (memory_after (step s) s) a ≡ fetched s.memory a
step_code s a low = fetched-after (step_stores s) a low

-- ---- runs

-- a step, and what comes after it
pub stores_on : (o : Step) (s : State) (taken : ℕ) (more : State → Outcome) → AfterStores s.memory (memory_after o s) → ((t : State) → AfterStores t.memory (memory_left (more t))) → AfterStores s.memory (memory_left (go_on o s taken more))
stores_on (Went t) s taken more one on = joined-after one (on t)
stores_on (Ended r) s taken more one on = Unchanged s.memory
stores_on (Stopped kind pc at m) s taken more one on = one

pub run_stores : (n taken : ℕ) (s : State) → AfterStores s.memory (memory_left (run n taken s))
run_stores zero taken s = Unchanged s.memory
run_stores (suc n) taken s = stores_on (step s) s (taken + 1) (run n (taken + 1)) (step_stores s) (λ t. run_stores n (taken + 1) t)

pub run_access : (n taken : ℕ) (s : State) (a : ℕ) → SameAccess s.memory (memory_left (run n taken s)) a
run_access n taken s a = (can_read-after (run_stores n taken s) a, can_write-after (run_stores n taken s) a)

pub run_code : (n taken : ℕ) (s : State) (a : ℕ) → a < 2 ^ 64 → fetched (memory_left (run n taken s)) a ≡ fetched s.memory a
run_code n taken s a low = fetched-after (run_stores n taken s) a low
