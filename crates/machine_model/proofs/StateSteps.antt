-- Every state of a run is as `IsState` says: the start is, and a step of an SVE instruction that goes on keeps it.
use Rattle.std.proofs.Common.{◌≡◌, ℕ, zero, suc, ◌+◌, ◌-◌, ◌*◌, ◌/◌, ◌%◌, ◌^◌, ◌<◌, ◌≤◌, Bool, true, false, ◌&&◌, List, [], ◌++◌, length, replicate, drop, Option, Some, None, Result, Ok, Err, refl, sym, ap, ◌∙◌, subst, arith, lit<, inl, inr}
use Rattle.std.specs.Prelude.{All, nat_eq, nat_lt, cond, if◌then◌else◌}
use Rattle.std.proofs.lemmas.Bool.{cases_lt, and_left, and_right, le-ltb}
use Rattle.std.proofs.lemmas.List.{drop-drop, drop_at, drop-replicate, length-append, length-set, length-replicate, get_or_past}
use Rattle.std.proofs.lemmas.List.Elements.{All-nil, All-cons, All-append, All-replicate, All-set, All-get_or, All-from_get_or}
use Rattle.std.proofs.Math.Nat.{mod-lt, zero-div}
use Rattle.guest_types.specs.declared.length.Width.{Width}
use Rattle.guest_types.specs.declared.length.Width.TheVariants.{B, H, S, D}
use Rattle.guest_types.specs.declared.memory.AccessFault.{AccessFault}
use Rattle.guest_types.specs.declared.operation.LaneOp.{LaneOp}
use Rattle.guest_types.specs.declared.operation.LaneOp.TheVariants as lane_ops
use Rattle.guest_types.specs.declared.operation.LaneUnary.{LaneUnary}
use Rattle.guest_types.specs.declared.operation.LaneUnary.TheVariants as unaries
use Rattle.guest_types.specs.declared.operation.ShiftOp.{ShiftOp}
use Rattle.guest_types.specs.declared.operation.ShiftOp.TheVariants as shifts
use Rattle.guest_types.specs.declared.operation.PredOp.{PredOp}
use Rattle.guest_types.specs.declared.operation.PredOp.TheVariants as pred_ops
use Rattle.guest_types.specs.declared.operation.ReduceOp.{ReduceOp}
use Rattle.guest_types.specs.declared.operation.ReduceOp.TheVariants as reduce_ops
use Rattle.guest_types.specs.declared.operation.LaneCompare.{LaneCompare}
use Rattle.guest_types.specs.declared.operation.LaneCompare.TheVariants as compares
use Rattle.guest_types.specs.Length.{IsLength, width_bytes, lanes}
use Rattle.guest_types.specs.Memory.{Memory, IsMemory, merged, stored}
use Rattle.guest_types.specs.Elements.{bytes_of, elements, register, predicate, element_bit, bit, bits_of, active, at, both, first_true, pred_test, Flags}
use Rattle.guest_types.specs.Lanes.{folded, plus, count_at, count_of, all_at, sign_extended, dup_at, index_at, select_at, binary_at, shift_at, merge_at, merge_one_at, reduce_of, compare_at, while_at, logic_at, brk_at}
use Rattle.guest_types.specs.LaneMemory.{LoadForm, load_form, width_of_size, lane_address, plain_load, store_of, loaded_with, loaded_lane, kept_lane, is_clear, lane_faults, fault_at, StoredLanes, AllStored, StoreFault, or_fault, store_lanes, store_on, cleared_from, kept_bit}
use Rattle.guest_types.specs.EarlyLoads.{StopList, never, early_load, first_fault_early, non_fault_early, later_than, suppressed_at, stop_at, EarlyLoad, unless_fault}
use Rattle.guest_types.proofs.Registers.{length-elements, length-register}
use Rattle.guest_types.proofs.Predicates.{bits-small, bit-bits_of, length-bits_of, bit-none}
use Rattle.guest_types.proofs.AtWidths.{width_bytes-lanes}
use Rattle.guest_types.proofs.Merges.{IsMemory-merged}
use Rattle.guest_types.proofs.Stores.{IsMemory-stored}
use Rattle.sve_code.specs.Table as sve
use Rattle.sve_code.specs.Table.{Name, pd, size, pn, pg4, pm, pg_low, pm_low, zd, imm5, zn, zm, zdn, zm_low, pg, zt, dtype, ptrue, pfalse, whilelo, ptest, p_and, p_bic, p_eor, p_orr, p_ands, brka, brkb, rdffr, rdffr_z, setffr, wrffr, cntb, cnth, cntw, cntd, incp, cntp, dup, index_row, sel, z_add, z_sub, z_and, z_orr, z_eor, z_bic, lsl_imm, lsr_imm, asr_imm, m_add, m_sub, m_smax, m_umax, m_smin, m_umin, m_mul, m_orr, m_eor, m_and, m_abs, m_neg, m_not, sxtb, uxtb, sxth, uxth, sxtw, uxtw, uaddv, smaxv, umaxv, sminv, uminv, orv, eorv, andv, cmphs, cmphi, cmpge, cmpgt, cmpeq, cmpne, ld1, ldff1, ldnf1, gld1b, gld1h, gld1w, gld1d, gld1sb, gld1sh, gld1sw, st1}
use Rattle.sve_code.specs.Numbers.{shift_size, left_amount, right_amount}
use Rattle.machine_model.specs.Arithmetic.{sum}
use Rattle.word_rows.specs.Field.{Field, rn, rm, rd}
use Rattle.machine_model.specs.Run.{start_of, start, free_start}
use Rattle.machine_model.specs.Load.{Image}
use Rattle.machine_model.specs.Machine.{State, Went, x_at, with_x, x_or_sp, z_at, with_z, p_at, with_p, with_ffr, with_flags, jump, next}
use Rattle.machine_model.specs.States.{IsVector, IsPredicate, IsState, CanStart}
use Rattle.machine_model.specs.VectorEffects.{reduced, vector_act, put_lanes, put_truths, put_tested, put_x, sized, do_logic, do_break, do_binary, do_shift, shift_value, do_merge, do_unary, do_reduce, do_compare, load_mask, lane_places, gather_places, after_load, after_early, after_store, with_early}

-- ---- registers

bytes_small : (k x : ℕ) → All (λ b. b < 256) (bytes_of k x)
bytes_small zero x = All-nil (λ b. b < 256)
bytes_small (suc k) x = All-cons (λ b. b < 256) (x % 256) (bytes_of k (x / 256)) (omega arith) (bytes_small k (x / 256))

elements_small : (k : ℕ) (f : ℕ → ℕ) (n : ℕ) → All (λ b. b < 256) (elements k f n)
unfolding elements
elements_small k f zero = All-nil (λ b. b < 256)
elements_small k f (suc n) = All-append (λ b. b < 256) (elements k f n) (bytes_of k (f n)) (elements_small k f n) (bytes_small k (f n))

below_half : (vl : ℕ) → IsLength vl → vl / 8 ≤ 256
below_half vl h = omega arith

drop_past : (xs : List ℕ) (a m r : ℕ) → length xs ≡ a → a ≤ m → drop m (xs ++ replicate r 0) ≡ replicate (r - (m - a)) 0
drop_past xs a m r e le =
    let split : m ≡ a + (m - a) = omega arith in
    ap (λ j. drop j (xs ++ replicate r 0)) split
    ∙ sym (drop-drop (m - a) a (xs ++ replicate r 0))
    ∙ ap (drop (m - a)) (drop_at xs (replicate r 0) a e)
    ∙ drop-replicate (m - a) r 0

zero_bit : (k : ℕ) → nat_eq (0 / 2 ^ k % 2) 1 ≡ false
zero_bit k = ap (λ q. nat_eq (q % 2) 1) (zero-div (2 ^ k))

-- past its end too, no bit of a predicate is set
pub all_past : {vl : ℕ} (p : List ℕ) → IsPredicate vl p → (j : ℕ) → vl / 8 ≤ j → bit p j ≡ false
all_past p h j le = elim (cases_lt j 256) [ inl lt ↦ h.past j le lt | inr ge ↦ bit_outside p j h.whole ge ]
  where
    bit_outside : (p : List ℕ) (j : ℕ) → length p ≡ 32 → 256 ≤ j → bit p j ≡ false
    bit_outside p j e ge = ap (λ b. nat_eq (b / 2 ^ (j % 8) % 2) 1) (get_or_past p (j / 8) 0 (omega (arith, e))) ∙ zero_bit (j % 8)

-- a register whose elements stand within the vector length
pub vector_made : (vl k : ℕ) (f : ℕ → ℕ) (n : ℕ) → IsLength vl → k * n ≤ vl / 8 → IsVector vl (register k f n)
vector_made vl k f n h le =
    let half = below_half vl h in
    let rest : 256 - k * n - (vl / 8 - k * n) ≡ 256 - vl / 8 = omega arith in
    record {
      whole = length-register k f n (omega arith);
      small = All-append (λ b. b < 256) (elements k f n) (replicate (256 - k * n) 0) (elements_small k f n) (All-replicate (λ b. b < 256) (256 - k * n) 0 (lit< tt));
      past = drop_past (elements k f n) (k * n) (vl / 8) (256 - k * n) (length-elements k f n) le ∙ ap (λ r. replicate {A = ℕ} r 0) rest;
    }

bits_small : (h : ℕ → Bool) → All (λ b. b < 256) (bits_of h 32)
bits_small h = All-from_get_or (λ b. b < 256) (bits_of h 32) 0 (λ i lt. bits-small h 32 i)

-- bits that are false past the vector length
pub predicate_made : (vl : ℕ) (h : ℕ → Bool) → ((j : ℕ) → vl / 8 ≤ j → h j ≡ false) → IsPredicate vl (bits_of h 32)
predicate_made vl h none = record {
  whole = length-bits_of h 32;
  small = bits_small h;
  past = λ j le lt. bit-bits_of h 32 j lt ∙ none j le;
}

pub truths_made : (vl k : ℕ) (h : ℕ → Bool) (n : ℕ) → k * n ≤ vl / 8 → IsPredicate vl (predicate k h n)
truths_made vl k h n le =
    predicate_made vl (element_bit k h n) (λ j past. and_left (nat_eq (j % k) 0 && nat_lt j (k * n)) (h (j / k)) (and_right (nat_eq (j % k) 0) (nat_lt j (k * n)) (le-ltb j (k * n) (omega arith))))

pub zero_vector : (vl : ℕ) → IsVector vl (replicate 256 0)
zero_vector vl = record {
  whole = length-replicate {A = ℕ} 256 0;
  small = All-replicate (λ b. b < 256) 256 0 (lit< tt);
  past = drop-replicate {X = ℕ} (vl / 8) 256 0;
}

pub zero_predicate : (vl : ℕ) → IsPredicate vl (replicate 32 0)
zero_predicate vl = record {
  whole = length-replicate {A = ℕ} 32 0;
  small = All-replicate (λ b. b < 256) 32 0 (lit< tt);
  past = λ j le lt. bit-none 32 j;
}

pub fills : (vl : ℕ) (w : Width) → IsLength vl → width_bytes w * lanes vl w ≤ vl / 8
fills vl w h = omega (arith, width_bytes-lanes vl w h)

-- ---- parts of a state

pub wrapped : (n : ℕ) → n % 2 ^ 64 < 2 ^ 64
wrapped n = mod-lt n (lit< tt)

pub next_is_state : (s : State) → IsState s → IsState (next s)
next_is_state s h = record {
  sized = h.sized;
  mapped = h.mapped;
  place = wrapped (s.pc + 4);
  x_count = h.x_count;
  x_small = h.x_small;
  sp_small = h.sp_small;
  z_count = h.z_count;
  z_each = h.z_each;
  p_count = h.p_count;
  p_each = h.p_each;
  ffr_is = h.ffr_is;
}

pub z_kept : (s : State) (d : ℕ) (bytes : List ℕ) → IsState s → IsVector s.vl bytes → IsState (with_z s d bytes)
z_kept s d bytes h v = record {
  sized = h.sized;
  mapped = h.mapped;
  place = h.place;
  x_count = h.x_count;
  x_small = h.x_small;
  sp_small = h.sp_small;
  z_count = length-set s.z d bytes ∙ h.z_count;
  z_each = All-set (IsVector s.vl) s.z d bytes v h.z_each;
  p_count = h.p_count;
  p_each = h.p_each;
  ffr_is = h.ffr_is;
}

pub p_kept : (s : State) (d : ℕ) (bytes : List ℕ) → IsState s → IsPredicate s.vl bytes → IsState (with_p s d bytes)
p_kept s d bytes h v = record {
  sized = h.sized;
  mapped = h.mapped;
  place = h.place;
  x_count = h.x_count;
  x_small = h.x_small;
  sp_small = h.sp_small;
  z_count = h.z_count;
  z_each = h.z_each;
  p_count = length-set s.p d bytes ∙ h.p_count;
  p_each = All-set (IsPredicate s.vl) s.p d bytes v h.p_each;
  ffr_is = h.ffr_is;
}

ffr_kept : (s : State) (bytes : List ℕ) → IsState s → IsPredicate s.vl bytes → IsState (with_ffr s bytes)
ffr_kept s bytes h v = record {
  sized = h.sized;
  mapped = h.mapped;
  place = h.place;
  x_count = h.x_count;
  x_small = h.x_small;
  sp_small = h.sp_small;
  z_count = h.z_count;
  z_each = h.z_each;
  p_count = h.p_count;
  p_each = h.p_each;
  ffr_is = v;
}

pub flags_kept : (s : State) (flags : Flags) → IsState s → IsState (with_flags s flags)
flags_kept s flags h = record {
  sized = h.sized;
  mapped = h.mapped;
  place = h.place;
  x_count = h.x_count;
  x_small = h.x_small;
  sp_small = h.sp_small;
  z_count = h.z_count;
  z_each = h.z_each;
  p_count = h.p_count;
  p_each = h.p_each;
  ffr_is = h.ffr_is;
}

pub x_kept : (s : State) (d v : ℕ) → IsState s → v < 2 ^ 64 → IsState (with_x s d v)
x_kept s d v h lt = record {
  sized = h.sized;
  mapped = h.mapped;
  place = h.place;
  x_count = length-set s.x d v ∙ h.x_count;
  x_small = All-set (λ n. n < 2 ^ 64) s.x d v lt h.x_small;
  sp_small = h.sp_small;
  z_count = h.z_count;
  z_each = h.z_each;
  p_count = h.p_count;
  p_each = h.p_each;
  ffr_is = h.ffr_is;
}

pub sp_kept : (s : State) (v : ℕ) → IsState s → v < 2 ^ 64 → IsState (record s { sp = v })
sp_kept s v h lt = record {
  sized = h.sized;
  mapped = h.mapped;
  place = h.place;
  x_count = h.x_count;
  x_small = h.x_small;
  sp_small = lt;
  z_count = h.z_count;
  z_each = h.z_each;
  p_count = h.p_count;
  p_each = h.p_each;
  ffr_is = h.ffr_is;
}

pub jumped : (s : State) (to : ℕ) → IsState s → to < 2 ^ 64 → IsState (jump s to)
jumped s to h lt = record {
  sized = h.sized;
  mapped = h.mapped;
  place = lt;
  x_count = h.x_count;
  x_small = h.x_small;
  sp_small = h.sp_small;
  z_count = h.z_count;
  z_each = h.z_each;
  p_count = h.p_count;
  p_each = h.p_each;
  ffr_is = h.ffr_is;
}

pub memory_kept : (s : State) (memory : Memory) → IsState s → IsMemory memory → IsState (record s { memory = memory })
memory_kept s memory h m = record {
  sized = h.sized;
  mapped = m;
  place = h.place;
  x_count = h.x_count;
  x_small = h.x_small;
  sp_small = h.sp_small;
  z_count = h.z_count;
  z_each = h.z_each;
  p_count = h.p_count;
  p_each = h.p_each;
  ffr_is = h.ffr_is;
}

early_kept : (s : State) (d : ℕ) (load : EarlyLoad) → IsState s → IsVector s.vl load.loaded.z → IsPredicate s.vl load.loaded.ffr → IsState (with_early s d load)
early_kept s d load h v p = record {
  sized = h.sized;
  mapped = h.mapped;
  place = h.place;
  x_count = h.x_count;
  x_small = h.x_small;
  sp_small = h.sp_small;
  z_count = length-set s.z d load.loaded.z ∙ h.z_count;
  z_each = All-set (IsVector s.vl) s.z d load.loaded.z v h.z_each;
  p_count = h.p_count;
  p_each = h.p_each;
  ffr_is = p;
}

predicate_of_state : (s : State) (n : ℕ) → IsState s → n < 16 → IsPredicate s.vl (p_at s n)
predicate_of_state s n h lt = All-get_or (IsPredicate s.vl) s.p n [] (omega (arith, h.p_count)) h.p_each

-- ---- the start

start_is : (memory : Memory) (entry : ℕ) (args : List ℕ) (vl : ℕ) (stops : StopList) → IsLength vl → length args ≤ 31 → All (λ v. v < 2 ^ 64) args → IsMemory memory → entry < 2 ^ 64 → IsState (start_of memory entry args vl stops)
unfolding start_of
start_is memory entry args vl stops sized few small mapped place = record {
  sized = sized;
  mapped = mapped;
  place = place;
  x_count = omega (arith, length-append args (replicate (31 - length args) 0), length-replicate {A = ℕ} (31 - length args) 0);
  x_small = All-append (λ v. v < 2 ^ 64) args (replicate (31 - length args) 0) small (All-replicate (λ v. v < 2 ^ 64) (31 - length args) 0 (lit< tt));
  sp_small = lit< tt;
  z_count = length-replicate {A = List ℕ} 32 (replicate 256 0);
  z_each = All-replicate (IsVector vl) 32 (replicate 256 0) (zero_vector vl);
  p_count = length-replicate {A = List ℕ} 16 (replicate 32 0);
  p_each = All-replicate (IsPredicate vl) 16 (replicate 32 0) (zero_predicate vl);
  ffr_is = zero_predicate vl;
}

-- of an image, beside its pages and with any stop list
image_start_is : (image : Image) (args : List ℕ) (pages : Memory) (vl : ℕ) (stops : StopList) → CanStart image args pages vl → IsState (start_of (merged image.pages pages) image.entry args vl stops)
image_start_is image args pages vl stops h =
    start_is (merged image.pages pages) image.entry args vl stops h.sized h.few h.small (IsMemory-merged image.pages pages h.loaded h.mapped h.apart) h.place

pub plain_start_is : (image : Image) (args : List ℕ) (pages : Memory) (vl : ℕ) → CanStart image args pages vl → IsState (start image args pages vl)
unfolding start
plain_start_is image args pages vl h = image_start_is image args pages vl never h

pub free_start_is : (image : Image) (args : List ℕ) (pages : Memory) (vl : ℕ) (stops : StopList) → CanStart image args pages vl → IsState (free_start image args pages vl stops)
unfolding free_start
free_start_is image args pages vl stops h = image_start_is image args pages vl stops h

-- ---- the shapes of rows

pub state_of_went : {u t : State} → Went u ≡ Went t → IsState u → IsState t
state_of_went {u = u} {t = t} e h = let f : u ≡ t = cc in subst IsState f h

pub lanes_put : (s t : State) (d : ℕ) (w : Width) (f : ℕ → ℕ) → IsState s → put_lanes s d w f ≡ Went t → IsState t
lanes_put s t d w f h e =
    let v = vector_made s.vl (width_bytes w) f (lanes s.vl w) h.sized (fills s.vl w h.sized) in
    state_of_went e (next_is_state (with_z s d (register (width_bytes w) f (lanes s.vl w))) (z_kept s d (register (width_bytes w) f (lanes s.vl w)) h v))

pub one_put : (s t : State) (d : ℕ) (w : Width) (v : ℕ) → IsState s → Went (next (with_z s d (reduced w v))) ≡ Went t → IsState t
one_put s t d w v h e =
    let is = vector_made s.vl (width_bytes w) (dup_at v) 1 h.sized (one_fits s.vl w h.sized) in
    state_of_went e (next_is_state (with_z s d (reduced w v)) (z_kept s d (reduced w v) h is))
  where
    one_fits : (vl : ℕ) (w : Width) → IsLength vl → width_bytes w * 1 ≤ vl / 8
    one_fits vl B h = omega arith
    one_fits vl other h = omega arith

pub truths_put : (s t : State) (d : ℕ) (w : Width) (f : ℕ → Bool) → IsState s → put_truths s d w f ≡ Went t → IsState t
truths_put s t d w f h e =
    let p = truths_made s.vl (width_bytes w) f (lanes s.vl w) (fills s.vl w h.sized) in
    state_of_went e (next_is_state (with_p s d (predicate (width_bytes w) f (lanes s.vl w))) (p_kept s d (predicate (width_bytes w) f (lanes s.vl w)) h p))

pub tested_put : (s t : State) (d : ℕ) (w : Width) (mask f : ℕ → Bool) → IsState s → put_tested s d w mask f ≡ Went t → IsState t
tested_put s t d w mask f h e =
    let bytes = predicate (width_bytes w) f (lanes s.vl w) in
    let p = truths_made s.vl (width_bytes w) f (lanes s.vl w) (fills s.vl w h.sized) in
    state_of_went e (next_is_state (with_flags (with_p s d bytes) _) (flags_kept (with_p s d bytes) _ (p_kept s d bytes h p)))

pub p_put : (s t : State) (d : ℕ) (bytes : List ℕ) → IsState s → IsPredicate s.vl bytes → Went (next (with_p s d bytes)) ≡ Went t → IsState t
p_put s t d bytes h p e = state_of_went e (next_is_state (with_p s d bytes) (p_kept s d bytes h p))

pub ffr_put : (s t : State) (bytes : List ℕ) → IsState s → IsPredicate s.vl bytes → Went (next (with_ffr s bytes)) ≡ Went t → IsState t
ffr_put s t bytes h p e = state_of_went e (next_is_state (with_ffr s bytes) (ffr_kept s bytes h p))

pub flags_put : (s t : State) (flags : Flags) → IsState s → Went (next (with_flags s flags)) ≡ Went t → IsState t
flags_put s t flags h e = state_of_went e (next_is_state (with_flags s flags) (flags_kept s flags h))

pub x_put : (s t : State) (d v : ℕ) → IsState s → v < 2 ^ 64 → put_x s d v ≡ Went t → IsState t
x_put s t d v h lt e = state_of_went e (next_is_state (with_x s d v) (x_kept s d v h lt))

-- ---- loads and stores

pub load_put : (s t : State) (d : ℕ) (o : Option AccessFault) (w : Width) (f : ℕ → ℕ) (ffr : List ℕ) → IsState s → after_load (or_fault o (record { z = register (width_bytes w) f (lanes s.vl w); ffr = ffr })) d s ≡ Went t → IsState t
load_put s t d None w f ffr h e = lanes_put s t d w f h e
load_put s t d (Some fault) w f ffr h e = absurd cc

pub cleared_is : (vl : ℕ) (w : Width) (o : Option ℕ) (ffr : List ℕ) → IsPredicate vl ffr → IsLength vl → IsPredicate vl (cleared_from w o ffr)
cleared_is vl w None ffr p h = p
cleared_is vl w (Some e) ffr p h = predicate_made vl (kept_bit ffr (width_bytes w * e)) (λ j le. and_left (bit ffr j) (nat_lt j (width_bytes w * e)) (none_past ffr j p le))
  where
    none_past : (ffr : List ℕ) (j : ℕ) → IsPredicate vl ffr → vl / 8 ≤ j → bit ffr j ≡ false
    none_past ffr j p le = all_past ffr p j le

pub early_put : (s t : State) (d : ℕ) (load : EarlyLoad) → IsState s → IsVector s.vl load.loaded.z → IsPredicate s.vl load.loaded.ffr → Went (next (with_early s d load)) ≡ Went t → IsState t
early_put s t d load h v p e = state_of_went e (next_is_state (with_early s d load) (early_kept s d load h v p))

pub first_put : (s t : State) (d : ℕ) (o : Option AccessFault) (load : EarlyLoad) → IsState s → IsVector s.vl load.loaded.z → IsPredicate s.vl load.loaded.ffr → after_early (unless_fault o load) d s ≡ Went t → IsState t
first_put s t d None load h v p e = early_put s t d load h v p e
first_put s t d (Some fault) load h v p e = absurd cc

store_step : (b : Bool) (r : Result Memory AccessFault) (m m2 : Memory) (rest : Memory → StoredLanes) → ((x : Memory) → r ≡ Ok x → IsMemory x) → IsMemory m → ((x : Memory) → IsMemory x → rest x ≡ AllStored m2 → IsMemory m2) → (if b then store_on r m rest else rest m) ≡ AllStored m2 → IsMemory m2
store_step true (Ok x) m m2 rest is h on e = on x (is x refl) e
store_step true (Err fault) m m2 rest is h on e = absurd cc
store_step false r m m2 rest is h on e = on m h e

pub stored_memory : (on : ℕ → Bool) (f v : ℕ → ℕ) (k left e : ℕ) (m m2 : Memory) → IsMemory m → store_lanes on f v k left e m ≡ AllStored m2 → IsMemory m2
stored_memory on f v k zero e m m2 h is = let same : m ≡ m2 = cc in subst IsMemory same h
stored_memory on f v k (suc left) e m m2 h is =
    store_step (on e) (stored m (f e) k (v e)) m m2 (store_lanes on f v k left (e + 1)) (λ x ok. IsMemory-stored m x (f e) k (v e) ok h) h (λ x hx ex. stored_memory on f v k left (e + 1) x m2 hx ex) is

pub store_put : (s t : State) (l : StoredLanes) → ((m : Memory) → l ≡ AllStored m → IsMemory m) → IsState s → after_store l s ≡ Went t → IsState t
store_put s t (AllStored m) is h e = state_of_went e (next_is_state (record s { memory = m }) (memory_kept s m h (is m refl)))
store_put s t (StoreFault fault m) is h e = absurd cc

-- ---- counts

pub lanes_small : (vl : ℕ) (w : Width) → IsLength vl → lanes vl w < 257
lanes_small vl B h = omega arith
lanes_small vl other h = omega arith

in_64 : (n : ℕ) → n < 257 → n < 2 ^ 64
in_64 n h = omega arith

count_le_suc : (b : Bool) (a n : ℕ) → a ≤ n → a + cond b 1 0 ≤ suc n
count_le_suc true a n h = omega arith
count_le_suc false a n h = omega arith

count_of_le : (w : Width) (pg p : List ℕ) (n : ℕ) → count_of w n pg p ≤ n
unfolding folded
count_of_le w pg p zero = omega arith
count_of_le w pg p (suc n) = count_le_suc (active w pg n && active w p n) (folded plus 0 (count_at w pg p) n) n (count_of_le w pg p n)

pub count_small : (vl : ℕ) (w : Width) (pg p : List ℕ) → IsLength vl → count_of w (lanes vl w) pg p < 2 ^ 64
count_small vl w pg p h = in_64 (count_of w (lanes vl w) pg p) (omega (arith, count_of_le w pg p (lanes vl w), lanes_small vl w h))

-- ---- every row

logic_keeps : (op : PredOp) (f : Field → ℕ) (s t : State) → IsState s → do_logic op f s ≡ Went t → IsState t
logic_keeps op f s t h e = truths_put s t (f pd) B (logic_at op (p_at s (f pg4)) (p_at s (f pn)) (p_at s (f pm))) h e

break_keeps : (after : Bool) (f : Field → ℕ) (s t : State) → IsState s → do_break after f s ≡ Went t → IsState t
break_keeps after f s t h e = truths_put s t (f pd) B (brk_at after (p_at s (f pg4)) (p_at s (f pn))) h e

binary_keeps : (op : LaneOp) (w : Width) (f : Field → ℕ) (s t : State) → IsState s → do_binary op w f s ≡ Went t → IsState t
binary_keeps op w f s t h e = lanes_put s t (f zd) w (binary_at op w (z_at s (f zn)) (z_at s (f zm))) h e

shift_keeps : (op : ShiftOp) (f : Field → ℕ) (count : ℕ) (s t : State) → IsState s → do_shift op f count s ≡ Went t → IsState t
shift_keeps op f count s t h e =
    let w = width_of_size (shift_size (shift_value f)) in
    lanes_put s t (f zd) w (shift_at op w (z_at s (f zn)) count) h e

merge_keeps : (op : LaneOp) (f : Field → ℕ) (s t : State) → IsState s → do_merge op f s ≡ Went t → IsState t
merge_keeps op f s t h e = lanes_put s t (f zdn) (sized f) (merge_at op (sized f) (p_at s (f pg)) (z_at s (f zdn)) (z_at s (f zm_low))) h e

unary_keeps : (op : LaneUnary) (w : Width) (f : Field → ℕ) (s t : State) → IsState s → do_unary op w f s ≡ Went t → IsState t
unary_keeps op w f s t h e = lanes_put s t (f zd) w (merge_one_at op w (p_at s (f pg)) (z_at s (f zd)) (z_at s (f zn))) h e

reduce_keeps : (op : ReduceOp) (result : Width) (f : Field → ℕ) (s t : State) → IsState s → do_reduce op result f s ≡ Went t → IsState t
reduce_keeps op result f s t h e =
    one_put s t (f zd) result (reduce_of op (sized f) (lanes s.vl (sized f)) (p_at s (f pg)) (z_at s (f zn))) h e

compare_keeps : (op : LaneCompare) (f : Field → ℕ) (s t : State) → IsState s → do_compare op f s ≡ Went t → IsState t
compare_keeps op f s t h e =
    tested_put s t (f pd) (sized f) (active (sized f) (p_at s (f pg))) (compare_at op (sized f) (p_at s (f pg)) (z_at s (f zn)) (z_at s (f zm))) h e

loaded_is : (s : State) (form : LoadForm) (m : Memory) (on : ℕ → Bool) (g : ℕ → ℕ) (ffr : List ℕ) → IsState s → IsVector s.vl (loaded_with form m on g (lanes s.vl form.element) ffr).z
loaded_is s form m on g ffr h =
    vector_made s.vl (width_bytes form.element) (kept_lane form m on g (first_true (is_clear form.element ffr) (lanes s.vl form.element) 0)) (lanes s.vl form.element) h.sized (fills s.vl form.element h.sized)

plain_keeps : (form : LoadForm) (on : ℕ → Bool) (g : ℕ → ℕ) (d : ℕ) (s t : State) → IsState s → after_load (plain_load form s.memory on g (lanes s.vl form.element) s.ffr) d s ≡ Went t → IsState t
plain_keeps form on g d s t h e =
    load_put s t d (fault_at form s.memory g (first_true (both on (lane_faults form s.memory g)) (lanes s.vl form.element) 0)) form.element (loaded_lane form s.memory on g) s.ffr h e

-- where an early load first suppresses
cut_at : LoadForm → (on free : ℕ → Bool) → (ℕ → ℕ) → State → Option ℕ
cut_at form on free g s = first_true (suppressed_at free (lane_faults form s.memory g) (stop_at s.stops)) (lanes s.vl form.element) 0

first_keeps : (form : LoadForm) (on : ℕ → Bool) (g : ℕ → ℕ) (d : ℕ) (s t : State) → IsState s → after_early (first_fault_early form s.memory s.stops on g (lanes s.vl form.element) s.ffr) d s ≡ Went t → IsState t
unfolding cut_at
first_keeps form on g d s t h e =
    let n = lanes s.vl form.element in
    let free = later_than (first_true on n 0) on in
    let ffr = cleared_from form.element (cut_at form on free g s) s.ffr in
    first_put s t d (fault_at form s.memory g (first_true on n 0)) (early_load form s.memory s.stops on free g n s.ffr) h
    (loaded_is s form s.memory on g ffr h) (cleared_is s.vl form.element (cut_at form on free g s) s.ffr h.ffr_is h.sized) e

non_keeps : (form : LoadForm) (on : ℕ → Bool) (g : ℕ → ℕ) (d : ℕ) (s t : State) → IsState s → Went (next (with_early s d (non_fault_early form s.memory s.stops on g (lanes s.vl form.element) s.ffr))) ≡ Went t → IsState t
unfolding cut_at
non_keeps form on g d s t h e =
    let n = lanes s.vl form.element in
    let ffr = cleared_from form.element (cut_at form on on g s) s.ffr in
    early_put s t d (early_load form s.memory s.stops on on g n s.ffr) h
    (loaded_is s form s.memory on g ffr h) (cleared_is s.vl form.element (cut_at form on on g s) s.ffr h.ffr_is h.sized) e

store_keeps : (msz size base index : ℕ) (pg z : List ℕ) (s t : State) → IsState s → after_store (store_of msz size base index s.vl pg z s.memory) s ≡ Went t → IsState t
store_keeps msz size base index pg z s t h e =
    let w = width_of_size size in
    let k = width_bytes (width_of_size msz) in
    store_put s t (store_of msz size base index s.vl pg z s.memory)
    (λ m is. stored_memory (active w pg) (lane_address base index k) (at w z) k (lanes s.vl w) 0 s.memory m h.mapped is) h e

pub went_keeps : (n : Name) (f : Field → ℕ) (s t : State) → f pn < 16 → IsState s → vector_act n f s ≡ Went t → IsState t
went_keeps ptrue f s t small h e = truths_put s t (f pd) (sized f) all_at h e
went_keeps pfalse f s t small h e = p_put s t (f pd) (predicate 1 all_at 0) h (truths_made s.vl 1 all_at 0 (omega arith)) e
went_keeps whilelo f s t small h e = tested_put s t (f pd) (sized f) all_at (while_at (x_at s (f rn)) (x_at s (f rm))) h e
went_keeps ptest f s t small h e = flags_put s t (pred_test (bit (p_at s (f pg4))) (bit (p_at s (f pn))) (lanes s.vl B)) h e
went_keeps p_and f s t small h e = logic_keeps pred_ops.And f s t h e
went_keeps p_bic f s t small h e = logic_keeps pred_ops.Bic f s t h e
went_keeps p_eor f s t small h e = logic_keeps pred_ops.Eor f s t h e
went_keeps p_orr f s t small h e = logic_keeps pred_ops.Orr f s t h e
went_keeps p_ands f s t small h e = tested_put s t (f pd) B (bit (p_at s (f pg4))) (logic_at pred_ops.And (p_at s (f pg4)) (p_at s (f pn)) (p_at s (f pm))) h e
went_keeps brka f s t small h e = break_keeps true f s t h e
went_keeps brkb f s t small h e = break_keeps false f s t h e
went_keeps rdffr f s t small h e = p_put s t (f pd) s.ffr h h.ffr_is e
went_keeps rdffr_z f s t small h e = truths_put s t (f pd) B (both (bit (p_at s (f pg_low))) (bit s.ffr)) h e
went_keeps setffr f s t small h e = ffr_put s t (predicate 1 all_at (lanes s.vl B)) h (truths_made s.vl 1 all_at (lanes s.vl B) (fills s.vl B h.sized)) e
went_keeps wrffr f s t small h e = ffr_put s t (p_at s (f pn)) h (predicate_of_state s (f pn) h small) e
went_keeps cntb f s t small h e = x_put s t (f rd) (lanes s.vl B) h (in_64 (lanes s.vl B) (lanes_small s.vl B h.sized)) e
went_keeps cnth f s t small h e = x_put s t (f rd) (lanes s.vl H) h (in_64 (lanes s.vl H) (lanes_small s.vl H h.sized)) e
went_keeps cntw f s t small h e = x_put s t (f rd) (lanes s.vl S) h (in_64 (lanes s.vl S) (lanes_small s.vl S h.sized)) e
went_keeps cntd f s t small h e = x_put s t (f rd) (lanes s.vl D) h (in_64 (lanes s.vl D) (lanes_small s.vl D h.sized)) e
went_keeps incp f s t small h e = let c = count_of (sized f) (lanes s.vl (sized f)) (p_at s (f pm_low)) (p_at s (f pm_low)) in x_put s t (f rd) (sum (x_at s (f rd)) c) h (wrapped (x_at s (f rd) + c)) e
went_keeps cntp f s t small h e = x_put s t (f rd) (count_of (sized f) (lanes s.vl (sized f)) (p_at s (f pg4)) (p_at s (f pn))) h (count_small s.vl (sized f) (p_at s (f pg4)) (p_at s (f pn)) h.sized) e
went_keeps dup f s t small h e = lanes_put s t (f zd) (sized f) (dup_at (x_or_sp s (f rn))) h e
went_keeps index_row f s t small h e = lanes_put s t (f zd) (sized f) (index_at (x_at s (f rn)) (sign_extended (2 ^ 5) (2 ^ 64) (f imm5))) h e
went_keeps sel f s t small h e = lanes_put s t (f zd) (sized f) (select_at (sized f) (p_at s (f pg4)) (z_at s (f zn)) (z_at s (f zm))) h e
went_keeps z_add f s t small h e = binary_keeps lane_ops.Add (sized f) f s t h e
went_keeps z_sub f s t small h e = binary_keeps lane_ops.Sub (sized f) f s t h e
went_keeps z_and f s t small h e = binary_keeps lane_ops.And D f s t h e
went_keeps z_orr f s t small h e = binary_keeps lane_ops.Or D f s t h e
went_keeps z_eor f s t small h e = binary_keeps lane_ops.Xor D f s t h e
went_keeps z_bic f s t small h e = binary_keeps lane_ops.Bic D f s t h e
went_keeps lsl_imm f s t small h e = shift_keeps shifts.Lsl f (left_amount (shift_value f)) s t h e
went_keeps lsr_imm f s t small h e = shift_keeps shifts.Lsr f (right_amount (shift_value f)) s t h e
went_keeps asr_imm f s t small h e = shift_keeps shifts.Asr f (right_amount (shift_value f)) s t h e
went_keeps m_add f s t small h e = merge_keeps lane_ops.Add f s t h e
went_keeps m_sub f s t small h e = merge_keeps lane_ops.Sub f s t h e
went_keeps m_smax f s t small h e = merge_keeps lane_ops.SMax f s t h e
went_keeps m_umax f s t small h e = merge_keeps lane_ops.UMax f s t h e
went_keeps m_smin f s t small h e = merge_keeps lane_ops.SMin f s t h e
went_keeps m_umin f s t small h e = merge_keeps lane_ops.UMin f s t h e
went_keeps m_mul f s t small h e = merge_keeps lane_ops.Mul f s t h e
went_keeps m_orr f s t small h e = merge_keeps lane_ops.Or f s t h e
went_keeps m_eor f s t small h e = merge_keeps lane_ops.Xor f s t h e
went_keeps m_and f s t small h e = merge_keeps lane_ops.And f s t h e
went_keeps m_abs f s t small h e = unary_keeps unaries.Abs (sized f) f s t h e
went_keeps m_neg f s t small h e = unary_keeps unaries.Neg (sized f) f s t h e
went_keeps m_not f s t small h e = unary_keeps unaries.Not (sized f) f s t h e
went_keeps sxtb f s t small h e = unary_keeps unaries.SxtB (sized f) f s t h e
went_keeps uxtb f s t small h e = unary_keeps unaries.UxtB (sized f) f s t h e
went_keeps sxth f s t small h e = unary_keeps unaries.SxtH (sized f) f s t h e
went_keeps uxth f s t small h e = unary_keeps unaries.UxtH (sized f) f s t h e
went_keeps sxtw f s t small h e = unary_keeps unaries.SxtW D f s t h e
went_keeps uxtw f s t small h e = unary_keeps unaries.UxtW D f s t h e
went_keeps uaddv f s t small h e = reduce_keeps reduce_ops.UAdd D f s t h e
went_keeps smaxv f s t small h e = reduce_keeps reduce_ops.SMax (sized f) f s t h e
went_keeps umaxv f s t small h e = reduce_keeps reduce_ops.UMax (sized f) f s t h e
went_keeps sminv f s t small h e = reduce_keeps reduce_ops.SMin (sized f) f s t h e
went_keeps uminv f s t small h e = reduce_keeps reduce_ops.UMin (sized f) f s t h e
went_keeps orv f s t small h e = reduce_keeps reduce_ops.Or (sized f) f s t h e
went_keeps eorv f s t small h e = reduce_keeps reduce_ops.Xor (sized f) f s t h e
went_keeps andv f s t small h e = reduce_keeps reduce_ops.And (sized f) f s t h e
went_keeps cmphs f s t small h e = compare_keeps compares.Hs f s t h e
went_keeps cmphi f s t small h e = compare_keeps compares.Hi f s t h e
went_keeps cmpge f s t small h e = compare_keeps compares.Ge f s t h e
went_keeps cmpgt f s t small h e = compare_keeps compares.Gt f s t h e
went_keeps cmpeq f s t small h e = compare_keeps compares.Eq f s t h e
went_keeps cmpne f s t small h e = compare_keeps compares.Ne f s t h e
went_keeps ld1 f s t small h e = let form = load_form (f dtype) in plain_keeps form (load_mask form f s) (lane_places form f (x_at s (f rm)) s) (f zt) s t h e
went_keeps ldff1 f s t small h e = let form = load_form (f dtype) in first_keeps form (load_mask form f s) (lane_places form f (x_at s (f rm)) s) (f zt) s t h e
went_keeps ldnf1 f s t small h e = let form = load_form (f dtype) in non_keeps form (load_mask form f s) (lane_places form f 0 s) (f zt) s t h e
went_keeps gld1b f s t small h e = plain_keeps (load_form 3) (load_mask (load_form 3) f s) (gather_places f s) (f zt) s t h e
went_keeps gld1h f s t small h e = plain_keeps (load_form 7) (load_mask (load_form 7) f s) (gather_places f s) (f zt) s t h e
went_keeps gld1w f s t small h e = plain_keeps (load_form 11) (load_mask (load_form 11) f s) (gather_places f s) (f zt) s t h e
went_keeps gld1d f s t small h e = plain_keeps (load_form 15) (load_mask (load_form 15) f s) (gather_places f s) (f zt) s t h e
went_keeps gld1sb f s t small h e = plain_keeps (load_form 12) (load_mask (load_form 12) f s) (gather_places f s) (f zt) s t h e
went_keeps gld1sh f s t small h e = plain_keeps (load_form 8) (load_mask (load_form 8) f s) (gather_places f s) (f zt) s t h e
went_keeps gld1sw f s t small h e = plain_keeps (load_form 4) (load_mask (load_form 4) f s) (gather_places f s) (f zt) s t h e
went_keeps st1 f s t small h e = store_keeps (f sve.memory) (f sve.element) (x_or_sp s (f rn)) (x_at s (f rm)) (p_at s (f pg)) (z_at s (f zt)) s t h e
