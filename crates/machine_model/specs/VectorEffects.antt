-- What each SVE instruction does (Arm DDI 0487, chapter C8, "SVE Instruction Descriptions"). An instruction is the name of its row
-- and the numbers of that row's fields; `f` gives the number of a field. Elements past the vector length are zero.
use Rattle.std.specs.Prelude.{ℕ, suc, ◌+◌, ◌*◌, ◌^◌, Bool, true, false, ◌&&◌, List, [], ◌∷◌, Result, Ok, Err, nat_eq, slice_index, slice_set, if◌then◌else◌}
use Rattle.guest_types.specs.declared.length.Width.{Width}
use Rattle.guest_types.specs.declared.length.Width.TheVariants.{B, H, S, D}
use Rattle.guest_types.specs.declared.memory.AccessFault.{AccessFault}
use Rattle.guest_types.specs.declared.operation.LaneOp.{LaneOp}
use Rattle.guest_types.specs.declared.operation.LaneOp.TheVariants as lane_ops
use Rattle.guest_types.specs.declared.operation.LaneUnary.{LaneUnary}
use Rattle.guest_types.specs.declared.operation.LaneUnary.TheVariants as unaries
use Rattle.guest_types.specs.declared.operation.ShiftOp.{ShiftOp}
use Rattle.guest_types.specs.declared.operation.ShiftOp.TheVariants as shifts
use Rattle.guest_types.specs.declared.operation.PredOp.{PredOp}
use Rattle.guest_types.specs.declared.operation.PredOp.TheVariants as pred_ops
use Rattle.guest_types.specs.declared.operation.ReduceOp.{ReduceOp}
use Rattle.guest_types.specs.declared.operation.ReduceOp.TheVariants as reduce_ops
use Rattle.guest_types.specs.declared.operation.LaneCompare.{LaneCompare}
use Rattle.guest_types.specs.declared.operation.LaneCompare.TheVariants as compares
use Rattle.guest_types.specs.Length.{width_bytes, lanes}
use Rattle.guest_types.specs.Elements.{register, predicate, at, active, bit, both, pred_test}
use Rattle.guest_types.specs.Lanes.{sign_extended, dup_at, index_at, select_at, binary_at, shift_at, merge_at, merge_one_at, reduce_of, compare_at, all_at, while_at, logic_at, brk_at, count_of}
use Rattle.guest_types.specs.LaneMemory.{LoadForm, Loaded, StoredLanes, AllStored, StoreFault, load_form, width_of_size, lane_address, plain_load, store_of}
use Rattle.guest_types.specs.EarlyLoads.{EarlyLoad, first_fault_early, non_fault_early}
use Rattle.word_rows.specs.Field.{Field, rn, rm, rd}
use Rattle.word_rows.specs.Row.{Instruction}
use Rattle.sve_code.specs.Numbers.{shift_size, left_amount, right_amount}
use Rattle.sve_code.specs.Table.{Name, row, pd, size, pn, pg4, pm, pg_low, pm_low, zd, imm5, zn, zm, imm3, tszl, tszh, zdn, zm_low, pg, zt, dtype, element, memory, ptrue, pfalse, whilelo, ptest, p_and, p_bic, p_eor, p_orr, p_ands, brka, brkb, rdffr, rdffr_z, setffr, wrffr, cntb, cnth, cntw, cntd, incp, cntp, dup, index_row, sel, z_add, z_sub, z_and, z_orr, z_eor, z_bic, lsl_imm, lsr_imm, asr_imm, m_add, m_sub, m_smax, m_umax, m_smin, m_umin, m_mul, m_orr, m_eor, m_and, m_abs, m_neg, m_not, sxtb, uxtb, sxth, uxth, sxtw, uxtw, uaddv, smaxv, umaxv, sminv, uminv, orv, eorv, andv, cmphs, cmphi, cmpge, cmpgt, cmpeq, cmpne, ld1, ldff1, ldnf1, gld1b, gld1h, gld1w, gld1d, gld1sb, gld1sh, gld1sw, st1}
use Rattle.machine_model.specs.declared.outcome.StopKind.TheVariants.{Read, Write}
use Rattle.machine_model.specs.Arithmetic.{sum}
use Rattle.machine_model.specs.Machine.{State, Step, Went, Stopped, x_at, with_x, x_or_sp, z_at, with_z, p_at, with_p, with_ffr, with_flags, next}

-- ---- the number of a field, by its place in the word

abbrev pub same_field : Field → Field → Bool
same_field a b = nat_eq a.low b.low && nat_eq a.width b.width

abbrev pub place_in : List Field → Field → ℕ
place_in [] field = 0
place_in (first ∷ fields) field = if same_field first field then 0 else suc (place_in fields field)

abbrev pub field_of : Name → List ℕ → Field → ℕ
field_of name numbers field = slice_index numbers (place_in (row name).fields field)

-- ---- what an instruction leaves

-- n elements of a vector register
abbrev pub put_lanes : State → ℕ → Width → (ℕ → ℕ) → Step
put_lanes s d w lane = Went (next (with_z s d (register (width_bytes w) lane (lanes s.vl w))))

-- n elements of a predicate register
abbrev pub put_truths : State → ℕ → Width → (ℕ → Bool) → Step
put_truths s d w truth = Went (next (with_p s d (predicate (width_bytes w) truth (lanes s.vl w))))

-- the same, with the flags that it sets over the elements of a mask
abbrev pub put_tested : State → ℕ → Width → (mask truth : ℕ → Bool) → Step
put_tested s d w mask truth =
    Went (next (with_flags (with_p s d (predicate (width_bytes w) truth (lanes s.vl w))) (pred_test mask truth (lanes s.vl w))))

abbrev pub put_x : State → ℕ → ℕ → Step
put_x s d v = Went (next (with_x s d v))

-- ---- shapes of rows

-- the width that the field size names
abbrev pub sized : (Field → ℕ) → Width
sized f = width_of_size (f size)

abbrev pub do_logic : PredOp → (Field → ℕ) → State → Step
do_logic op f s = put_truths s (f pd) B (logic_at op (p_at s (f pg4)) (p_at s (f pn)) (p_at s (f pm)))

abbrev pub do_break : Bool → (Field → ℕ) → State → Step
do_break after f s = put_truths s (f pd) B (brk_at after (p_at s (f pg4)) (p_at s (f pn)))

abbrev pub do_binary : LaneOp → Width → (Field → ℕ) → State → Step
do_binary op w f s = put_lanes s (f zd) w (binary_at op w (z_at s (f zn)) (z_at s (f zm)))

-- tszh:tszl:imm3
abbrev pub shift_value : (Field → ℕ) → ℕ
shift_value f = 32 * f tszh + 8 * f tszl + f imm3

abbrev pub do_shift : ShiftOp → (Field → ℕ) → ℕ → State → Step
do_shift op f count s = let w = width_of_size (shift_size (shift_value f)) in put_lanes s (f zd) w (shift_at op w (z_at s (f zn)) count)

abbrev pub do_merge : LaneOp → (Field → ℕ) → State → Step
do_merge op f s = put_lanes s (f zdn) (sized f) (merge_at op (sized f) (p_at s (f pg)) (z_at s (f zdn)) (z_at s (f zm_low)))

abbrev pub do_unary : LaneUnary → Width → (Field → ℕ) → State → Step
do_unary op w f s = put_lanes s (f zd) w (merge_one_at op w (p_at s (f pg)) (z_at s (f zd)) (z_at s (f zn)))

-- the register of a reduction: its number stands in element 0, and above it is zero
abbrev pub reduced : Width → ℕ → List ℕ
reduced w v = register (width_bytes w) (dup_at v) 1

abbrev pub do_reduce : ReduceOp → Width → (Field → ℕ) → State → Step
do_reduce op result f s =
    Went (next (with_z s (f zd) (reduced result (reduce_of op (sized f) (lanes s.vl (sized f)) (p_at s (f pg)) (z_at s (f zn))))))

abbrev pub do_compare : LaneCompare → (Field → ℕ) → State → Step
do_compare op f s =
    put_tested s (f pd) (sized f) (active (sized f) (p_at s (f pg))) (compare_at op (sized f) (p_at s (f pg)) (z_at s (f zn)) (z_at s (f zm)))

-- ---- loads and stores

-- the address of each element of a load
abbrev pub lane_places : LoadForm → (Field → ℕ) → (index : ℕ) → State → ℕ → ℕ
lane_places form f index s = lane_address (x_or_sp s (f rn)) index (width_bytes form.memory)

abbrev pub load_mask : LoadForm → (Field → ℕ) → State → ℕ → Bool
load_mask form f s = active form.element (p_at s (f pg))

abbrev pub after_load : Result Loaded AccessFault → ℕ → State → Step
after_load (Ok load) d s = Went (next (with_z s d load.z))
after_load (Err fault) d s = Stopped Read s.pc fault.address s.memory

abbrev pub with_early : State → ℕ → EarlyLoad → State
with_early s d load = record s { z = slice_set s.z d load.loaded.z; ffr = load.loaded.ffr; stops = load.stops }

abbrev pub after_early : Result EarlyLoad AccessFault → ℕ → State → Step
after_early (Ok load) d s = Went (next (with_early s d load))
after_early (Err fault) d s = Stopped Read s.pc fault.address s.memory

-- LDFF1 and LDNF1 as sentences of guest_types, at the registers of an instruction
abbrev pub first_fault_of : (Field → ℕ) → State → Result EarlyLoad AccessFault
first_fault_of f s =
    let form = load_form (f dtype) in
    first_fault_early form s.memory s.stops (load_mask form f s) (lane_places form f (x_at s (f rm)) s) (lanes s.vl form.element) s.ffr

abbrev pub non_fault_of : (Field → ℕ) → State → EarlyLoad
non_fault_of f s =
    let form = load_form (f dtype) in
    non_fault_early form s.memory s.stops (load_mask form f s) (lane_places form f 0 s) (lanes s.vl form.element) s.ffr

abbrev pub plain_of : (Field → ℕ) → State → Result Loaded AccessFault
plain_of f s =
    let form = load_form (f dtype) in
    plain_load form s.memory (load_mask form f s) (lane_places form f (x_at s (f rm)) s) (lanes s.vl form.element) s.ffr

-- the address of each element of a gather: the base and the element of the vector of offsets
abbrev pub gather_places : (Field → ℕ) → State → ℕ → ℕ
gather_places f s e = sum (x_or_sp s (f rn)) (at D (z_at s (f zm)) e)

-- a gather reads as LD1 of a form does, at these addresses
abbrev pub gather_of : (dtype : ℕ) → (Field → ℕ) → State → Result Loaded AccessFault
gather_of dtype f s =
    let form = load_form dtype in
    plain_load form s.memory (load_mask form f s) (gather_places f s) (lanes s.vl form.element) s.ffr

abbrev pub after_store : StoredLanes → State → Step
after_store (AllStored memory) s = Went (next (record s { memory = memory }))
after_store (StoreFault fault memory) s = Stopped Write s.pc fault.address memory

-- ---- the instructions

abbrev pub vector_act : Name → (Field → ℕ) → State → Step
vector_act ptrue f s = put_truths s (f pd) (sized f) all_at
vector_act pfalse f s = Went (next (with_p s (f pd) (predicate 1 all_at 0)))
vector_act whilelo f s = put_tested s (f pd) (sized f) all_at (while_at (x_at s (f rn)) (x_at s (f rm)))
vector_act ptest f s = Went (next (with_flags s (pred_test (bit (p_at s (f pg4))) (bit (p_at s (f pn))) (lanes s.vl B))))
vector_act p_and f s = do_logic pred_ops.And f s
vector_act p_bic f s = do_logic pred_ops.Bic f s
vector_act p_eor f s = do_logic pred_ops.Eor f s
vector_act p_orr f s = do_logic pred_ops.Orr f s
vector_act p_ands f s =
    put_tested s (f pd) B (bit (p_at s (f pg4))) (logic_at pred_ops.And (p_at s (f pg4)) (p_at s (f pn)) (p_at s (f pm)))
vector_act brka f s = do_break true f s
vector_act brkb f s = do_break false f s
vector_act rdffr f s = Went (next (with_p s (f pd) s.ffr))
vector_act rdffr_z f s = put_truths s (f pd) B (both (bit (p_at s (f pg_low))) (bit s.ffr))
vector_act setffr f s = Went (next (with_ffr s (predicate 1 all_at (lanes s.vl B))))
vector_act wrffr f s = Went (next (with_ffr s (p_at s (f pn))))
vector_act cntb f s = put_x s (f rd) (lanes s.vl B)
vector_act cnth f s = put_x s (f rd) (lanes s.vl H)
vector_act cntw f s = put_x s (f rd) (lanes s.vl S)
vector_act cntd f s = put_x s (f rd) (lanes s.vl D)
-- INCP counts the true elements of one predicate, as CNTP does of a predicate under a mask: here the mask is the predicate itself
vector_act incp f s =
    put_x s (f rd) (sum (x_at s (f rd)) (count_of (sized f) (lanes s.vl (sized f)) (p_at s (f pm_low)) (p_at s (f pm_low))))
vector_act cntp f s = put_x s (f rd) (count_of (sized f) (lanes s.vl (sized f)) (p_at s (f pg4)) (p_at s (f pn)))
vector_act dup f s = put_lanes s (f zd) (sized f) (dup_at (x_or_sp s (f rn)))
vector_act index_row f s = put_lanes s (f zd) (sized f) (index_at (x_at s (f rn)) (sign_extended (2 ^ 5) (2 ^ 64) (f imm5)))
vector_act sel f s = put_lanes s (f zd) (sized f) (select_at (sized f) (p_at s (f pg4)) (z_at s (f zn)) (z_at s (f zm)))
vector_act z_add f s = do_binary lane_ops.Add (sized f) f s
vector_act z_sub f s = do_binary lane_ops.Sub (sized f) f s
vector_act z_and f s = do_binary lane_ops.And D f s
vector_act z_orr f s = do_binary lane_ops.Or D f s
vector_act z_eor f s = do_binary lane_ops.Xor D f s
vector_act z_bic f s = do_binary lane_ops.Bic D f s
vector_act lsl_imm f s = do_shift shifts.Lsl f (left_amount (shift_value f)) s
vector_act lsr_imm f s = do_shift shifts.Lsr f (right_amount (shift_value f)) s
vector_act asr_imm f s = do_shift shifts.Asr f (right_amount (shift_value f)) s
vector_act m_add f s = do_merge lane_ops.Add f s
vector_act m_sub f s = do_merge lane_ops.Sub f s
vector_act m_smax f s = do_merge lane_ops.SMax f s
vector_act m_umax f s = do_merge lane_ops.UMax f s
vector_act m_smin f s = do_merge lane_ops.SMin f s
vector_act m_umin f s = do_merge lane_ops.UMin f s
vector_act m_mul f s = do_merge lane_ops.Mul f s
vector_act m_orr f s = do_merge lane_ops.Or f s
vector_act m_eor f s = do_merge lane_ops.Xor f s
vector_act m_and f s = do_merge lane_ops.And f s
vector_act m_abs f s = do_unary unaries.Abs (sized f) f s
vector_act m_neg f s = do_unary unaries.Neg (sized f) f s
vector_act m_not f s = do_unary unaries.Not (sized f) f s
vector_act sxtb f s = do_unary unaries.SxtB (sized f) f s
vector_act uxtb f s = do_unary unaries.UxtB (sized f) f s
vector_act sxth f s = do_unary unaries.SxtH (sized f) f s
vector_act uxth f s = do_unary unaries.UxtH (sized f) f s
vector_act sxtw f s = do_unary unaries.SxtW D f s
vector_act uxtw f s = do_unary unaries.UxtW D f s
vector_act uaddv f s = do_reduce reduce_ops.UAdd D f s
vector_act smaxv f s = do_reduce reduce_ops.SMax (sized f) f s
vector_act umaxv f s = do_reduce reduce_ops.UMax (sized f) f s
vector_act sminv f s = do_reduce reduce_ops.SMin (sized f) f s
vector_act uminv f s = do_reduce reduce_ops.UMin (sized f) f s
vector_act orv f s = do_reduce reduce_ops.Or (sized f) f s
vector_act eorv f s = do_reduce reduce_ops.Xor (sized f) f s
vector_act andv f s = do_reduce reduce_ops.And (sized f) f s
vector_act cmphs f s = do_compare compares.Hs f s
vector_act cmphi f s = do_compare compares.Hi f s
vector_act cmpge f s = do_compare compares.Ge f s
vector_act cmpgt f s = do_compare compares.Gt f s
vector_act cmpeq f s = do_compare compares.Eq f s
vector_act cmpne f s = do_compare compares.Ne f s
vector_act ld1 f s = after_load (plain_of f s) (f zt) s
vector_act ldff1 f s = after_early (first_fault_of f s) (f zt) s
vector_act ldnf1 f s = Went (next (with_early s (f zt) (non_fault_of f s)))
vector_act gld1b f s = after_load (gather_of 3 f s) (f zt) s
vector_act gld1h f s = after_load (gather_of 7 f s) (f zt) s
vector_act gld1w f s = after_load (gather_of 11 f s) (f zt) s
vector_act gld1d f s = after_load (gather_of 15 f s) (f zt) s
vector_act gld1sb f s = after_load (gather_of 12 f s) (f zt) s
vector_act gld1sh f s = after_load (gather_of 8 f s) (f zt) s
vector_act gld1sw f s = after_load (gather_of 4 f s) (f zt) s
vector_act st1 f s =
    after_store (store_of (f memory) (f element) (x_or_sp s (f rn)) (x_at s (f rm)) s.vl (p_at s (f pg)) (z_at s (f zt)) s.memory) s

abbrev pub do_vector : Instruction Name → State → Step
do_vector i s = vector_act i.name (field_of i.name i.numbers) s

-- ---- whether an instruction suppresses a free element

abbrev pub is_early_cut : Result EarlyLoad AccessFault → Bool
is_early_cut (Ok load) = load.cut
is_early_cut (Err fault) = false

abbrev pub vector_cut : Name → (Field → ℕ) → State → Bool
vector_cut ldff1 f s = is_early_cut (first_fault_of f s)
vector_cut ldnf1 f s = (non_fault_of f s).cut
vector_cut _ f s = false
