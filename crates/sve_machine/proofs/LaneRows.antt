-- Each row of vector arithmetic by its operation.
use Rattle.std.proofs.Common.{◌≡◌, ℕ, ◌+◌, ◌*◌, ◌/◌, ◌%◌, ◌^◌, ◌<◌, List, [], ◌∷◌, refl, sym, ap, ap₂, ◌∙◌, subst, arith}
use Rattle.guest_types.specs.Memory.{Memory}
use Rattle.guest_types.specs.Length.{IsLength, width_bytes, width_bits, lanes}
use Rattle.guest_types.specs.Elements.{register, with_element}
use Rattle.guest_types.proofs.Registers.{put-more}
use Rattle.guest_types.specs.declared.operation.ReduceOp.{ReduceOp}
use Rattle.sve_code.specs.declared.ReductionOp.{ReductionOp}
use Rattle.sve_code.specs.declared.ReductionOp.TheVariants as reduction_ops
use Rattle.machine_model.specs.States.{IsVector}
use Rattle.machine_model.proofs.StateSteps.{vector_made}
use Rattle.std.specs.Prelude.{nat_eq, slice_index, if◌then◌else◌}
use Rattle.guest_types.specs.declared.length.Width.{Width}
use Rattle.guest_types.specs.declared.length.Width.TheVariants as widths
use Rattle.guest_types.specs.declared.length.Width.TheVariants.{D}
use Rattle.guest_types.specs.declared.operation.LaneOp.{LaneOp}
use Rattle.guest_types.specs.declared.operation.LaneUnary.{LaneUnary}
use Rattle.guest_types.specs.declared.operation.ShiftOp.{ShiftOp}
use Rattle.guest_types.specs.LaneMemory.{width_of_size}
use Rattle.guest_types.specs.Lanes.{source_bits, sign_extended, dup_at, index_at, reduce_of, binary_at, merge_at, merge_one_at, shift_at, select_at}
use Rattle.guest_types.proofs.Numbers.{split_at_3_and_5}
use Rattle.sve_code.specs.Numbers.{size_from_h_number, size_from_s_number, shift_size}
use Rattle.sve_code.specs.Table.{sel, dup, index_row}
use Rattle.sve_code.specs.View.{add_sub_name, logic_name, shift_imm_name, merging_name, unary_name, extend_byte_name, extend_half_name, extend_word_name, reduce_name}
use Rattle.sve_code.specs.declared.AddSubOp.{AddSubOp}
use Rattle.sve_code.specs.declared.AddSubOp.TheVariants as add_sub_ops
use Rattle.sve_code.specs.declared.BitwiseOp.{BitwiseOp}
use Rattle.sve_code.specs.declared.BitwiseOp.TheVariants as bitwise_ops
use Rattle.sve_code.specs.declared.ShiftImmediateOp.{ShiftImmediateOp}
use Rattle.sve_code.specs.declared.ShiftImmediateOp.TheVariants as shift_immediate_ops
use Rattle.sve_code.specs.declared.BinaryPredicatedOp.{BinaryPredicatedOp}
use Rattle.sve_code.specs.declared.BinaryPredicatedOp.TheVariants as binary_predicated_ops
use Rattle.sve_code.specs.declared.UnaryPredicatedOp.{UnaryPredicatedOp}
use Rattle.sve_code.specs.declared.UnaryPredicatedOp.TheVariants as unary_predicated_ops
use Rattle.sve_code.specs.declared.ExtendOp.{ExtendOp}
use Rattle.sve_code.specs.declared.ExtendOp.TheVariants as extend_ops
use Rattle.sve_code.specs.declared.parts.SizeFromH.{SizeFromH}
use Rattle.sve_code.specs.declared.parts.SizeFromH.TheVariants as sizes_from_h
use Rattle.sve_code.specs.declared.parts.SizeFromS.{SizeFromS}
use Rattle.sve_code.specs.declared.parts.SizeFromS.TheVariants as sizes_from_s
use Rattle.word_rows.specs.Row.{Instruction}
use Rattle.sve_code.specs.Table.{Name}
use Rattle.machine_model.specs.Machine.{Went, next}
use Rattle.machine_model.specs.VectorEffects.{reduced, do_vector}
use Rattle.machine_model.proofs.StateLaws.{one_element-fits}
use Rattle.a64_machine.specs.Cores.{VectorState, state_of}
use Rattle.a64_machine.specs.declared.core_state.Core.{Core}
use Rattle.sve_machine.specs.VectorStates.{z_of, p_of, put_z, put_lanes}
use Rattle.sve_machine.specs.Rows.{add_sub_op, bitwise_op, shift_op, shift_count, merging_op, unary_op, byte_extension, half_extension, word_extension, reduction_op, reduction_width}

-- an instruction by its name and the numbers of its fields
abbrev pub row_of : Name → List ℕ → Instruction Name
row_of name numbers = record { name = name; numbers = numbers }

-- it goes on, and leaves these vector registers
abbrev pub Leaves : Name → List ℕ → VectorState → VectorState → Type 0
Leaves name numbers r r2 = (core : Core) (memory : Memory) → do_vector (row_of name numbers) (state_of core memory r) ≡ Went (next (state_of core memory r2))

left_as : (name : Name) (numbers : List ℕ) (r a b : VectorState) → b ≡ a → Leaves name numbers r a → Leaves name numbers r b
left_as name numbers r a b e h core memory = h core memory ∙ ap (λ x. Went (next (state_of core memory x))) (sym e)

add_sub_here : (op : AddSubOp) (zd zn zm size : ℕ) (r : VectorState) → Leaves (add_sub_name op) (zd ∷ zn ∷ zm ∷ size ∷ []) r (put_lanes r zd (width_of_size size) (binary_at (add_sub_op op) (width_of_size size) (z_of r zn) (z_of r zm)))
add_sub_here add_sub_ops.Add zd zn zm size r core memory = refl
add_sub_here add_sub_ops.Sub zd zn zm size r core memory = refl

pub add_sub_row : (op : AddSubOp) (zd zn zm size : ℕ) (r r2 : VectorState) (o : LaneOp) (w : Width) → o ≡ add_sub_op op → w ≡ width_of_size size → r2 ≡ put_lanes r zd w (binary_at o w (z_of r zn) (z_of r zm)) → Leaves (add_sub_name op) (zd ∷ zn ∷ zm ∷ size ∷ []) r r2
add_sub_row op zd zn zm size r r2 o w eo ew e =
    left_as (add_sub_name op) (zd ∷ zn ∷ zm ∷ size ∷ []) r _ r2 (e ∙ ap₂ (λ a b. put_lanes r zd b (binary_at a b (z_of r zn) (z_of r zm))) eo ew) (add_sub_here op zd zn zm size r)

bitwise_here : (op : BitwiseOp) (zd zn zm : ℕ) (r : VectorState) → Leaves (logic_name op) (zd ∷ zn ∷ zm ∷ []) r (put_lanes r zd D (binary_at (bitwise_op op) D (z_of r zn) (z_of r zm)))
bitwise_here bitwise_ops.And zd zn zm r core memory = refl
bitwise_here other zd zn zm r core memory = refl

pub bitwise_row : (op : BitwiseOp) (zd zn zm : ℕ) (r r2 : VectorState) (o : LaneOp) → o ≡ bitwise_op op → r2 ≡ put_lanes r zd D (binary_at o D (z_of r zn) (z_of r zm)) → Leaves (logic_name op) (zd ∷ zn ∷ zm ∷ []) r r2
bitwise_row op zd zn zm r r2 o eo e = left_as (logic_name op) (zd ∷ zn ∷ zm ∷ []) r _ r2 (e ∙ ap (λ a. put_lanes r zd D (binary_at a D (z_of r zn) (z_of r zm))) eo) (bitwise_here op zd zn zm r)

select_here : (zd zn pg zm size : ℕ) (r : VectorState) → Leaves sel (zd ∷ zn ∷ pg ∷ zm ∷ size ∷ []) r (put_lanes r zd (width_of_size size) (select_at (width_of_size size) (p_of r pg) (z_of r zn) (z_of r zm)))
select_here zd zn pg zm size r core memory = refl

pub select_row : (zd zn pg zm size : ℕ) (r r2 : VectorState) (w : Width) → w ≡ width_of_size size → r2 ≡ put_lanes r zd w (select_at w (p_of r pg) (z_of r zn) (z_of r zm)) → Leaves sel (zd ∷ zn ∷ pg ∷ zm ∷ size ∷ []) r r2
select_row zd zn pg zm size r r2 w ew e = left_as sel (zd ∷ zn ∷ pg ∷ zm ∷ size ∷ []) r _ r2 (e ∙ ap (λ b. put_lanes r zd b (select_at b (p_of r pg) (z_of r zn) (z_of r zm))) ew) (select_here zd zn pg zm size r)

merging_here : (op : BinaryPredicatedOp) (zdn zm pg size : ℕ) (r : VectorState) → Leaves (merging_name op) (zdn ∷ zm ∷ pg ∷ size ∷ []) r (put_lanes r zdn (width_of_size size) (merge_at (merging_op op) (width_of_size size) (p_of r pg) (z_of r zdn) (z_of r zm)))
merging_here binary_predicated_ops.Add zdn zm pg size r core memory = refl
merging_here other zdn zm pg size r core memory = refl

pub merging_row : (op : BinaryPredicatedOp) (zdn zm pg size : ℕ) (r r2 : VectorState) (o : LaneOp) (w : Width) → o ≡ merging_op op → w ≡ width_of_size size → r2 ≡ put_lanes r zdn w (merge_at o w (p_of r pg) (z_of r zdn) (z_of r zm)) → Leaves (merging_name op) (zdn ∷ zm ∷ pg ∷ size ∷ []) r r2
merging_row op zdn zm pg size r r2 o w eo ew e =
    left_as (merging_name op) (zdn ∷ zm ∷ pg ∷ size ∷ []) r _ r2 (e ∙ ap₂ (λ a b. put_lanes r zdn b (merge_at a b (p_of r pg) (z_of r zdn) (z_of r zm))) eo ew) (merging_here op zdn zm pg size r)

unary_here : (op : UnaryPredicatedOp) (zd zn pg size : ℕ) (r : VectorState) → Leaves (unary_name op) (zd ∷ zn ∷ pg ∷ size ∷ []) r (put_lanes r zd (width_of_size size) (merge_one_at (unary_op op) (width_of_size size) (p_of r pg) (z_of r zd) (z_of r zn)))
unary_here unary_predicated_ops.Abs zd zn pg size r core memory = refl
unary_here other zd zn pg size r core memory = refl

pub unary_row : (op : UnaryPredicatedOp) (zd zn pg size : ℕ) (r r2 : VectorState) (o : LaneUnary) (w : Width) → o ≡ unary_op op → w ≡ width_of_size size → r2 ≡ put_lanes r zd w (merge_one_at o w (p_of r pg) (z_of r zd) (z_of r zn)) → Leaves (unary_name op) (zd ∷ zn ∷ pg ∷ size ∷ []) r r2
unary_row op zd zn pg size r r2 o w eo ew e =
    left_as (unary_name op) (zd ∷ zn ∷ pg ∷ size ∷ []) r _ r2 (e ∙ ap₂ (λ a b. put_lanes r zd b (merge_one_at a b (p_of r pg) (z_of r zd) (z_of r zn))) eo ew) (unary_here op zd zn pg size r)

extend_byte_here : (op : ExtendOp) (zd zn pg size : ℕ) (r : VectorState) → Leaves (extend_byte_name op) (zd ∷ zn ∷ pg ∷ size ∷ []) r (put_lanes r zd (width_of_size size) (merge_one_at (byte_extension op) (width_of_size size) (p_of r pg) (z_of r zd) (z_of r zn)))
extend_byte_here extend_ops.Signed zd zn pg size r core memory = refl
extend_byte_here extend_ops.Unsigned zd zn pg size r core memory = refl

pub extend_byte_row : (op : ExtendOp) (zd zn pg size : ℕ) (r r2 : VectorState) (o : LaneUnary) (w : Width) → o ≡ byte_extension op → w ≡ width_of_size size → r2 ≡ put_lanes r zd w (merge_one_at o w (p_of r pg) (z_of r zd) (z_of r zn)) → Leaves (extend_byte_name op) (zd ∷ zn ∷ pg ∷ size ∷ []) r r2
extend_byte_row op zd zn pg size r r2 o w eo ew e =
    left_as (extend_byte_name op) (zd ∷ zn ∷ pg ∷ size ∷ []) r _ r2 (e ∙ ap₂ (λ a b. put_lanes r zd b (merge_one_at a b (p_of r pg) (z_of r zd) (z_of r zn))) eo ew) (extend_byte_here op zd zn pg size r)

extend_half_here : (op : ExtendOp) (zd zn pg size : ℕ) (r : VectorState) → Leaves (extend_half_name op) (zd ∷ zn ∷ pg ∷ size ∷ []) r (put_lanes r zd (width_of_size size) (merge_one_at (half_extension op) (width_of_size size) (p_of r pg) (z_of r zd) (z_of r zn)))
extend_half_here extend_ops.Signed zd zn pg size r core memory = refl
extend_half_here extend_ops.Unsigned zd zn pg size r core memory = refl

pub extend_half_row : (op : ExtendOp) (zd zn pg size : ℕ) (r r2 : VectorState) (o : LaneUnary) (w : Width) → o ≡ half_extension op → w ≡ width_of_size size → r2 ≡ put_lanes r zd w (merge_one_at o w (p_of r pg) (z_of r zd) (z_of r zn)) → Leaves (extend_half_name op) (zd ∷ zn ∷ pg ∷ size ∷ []) r r2
extend_half_row op zd zn pg size r r2 o w eo ew e =
    left_as (extend_half_name op) (zd ∷ zn ∷ pg ∷ size ∷ []) r _ r2 (e ∙ ap₂ (λ a b. put_lanes r zd b (merge_one_at a b (p_of r pg) (z_of r zd) (z_of r zn))) eo ew) (extend_half_here op zd zn pg size r)

extend_word_here : (op : ExtendOp) (zd zn pg : ℕ) (r : VectorState) → Leaves (extend_word_name op) (zd ∷ zn ∷ pg ∷ []) r (put_lanes r zd D (merge_one_at (word_extension op) D (p_of r pg) (z_of r zd) (z_of r zn)))
extend_word_here extend_ops.Signed zd zn pg r core memory = refl
extend_word_here extend_ops.Unsigned zd zn pg r core memory = refl

pub extend_word_row : (op : ExtendOp) (zd zn pg : ℕ) (r r2 : VectorState) (o : LaneUnary) → o ≡ word_extension op → r2 ≡ put_lanes r zd D (merge_one_at o D (p_of r pg) (z_of r zd) (z_of r zn)) → Leaves (extend_word_name op) (zd ∷ zn ∷ pg ∷ []) r r2
extend_word_row op zd zn pg r r2 o eo e = left_as (extend_word_name op) (zd ∷ zn ∷ pg ∷ []) r _ r2 (e ∙ ap (λ a. put_lanes r zd D (merge_one_at a D (p_of r pg) (z_of r zd) (z_of r zn))) eo) (extend_word_here op zd zn pg r)

shift_here : (op : ShiftImmediateOp) (zd zn imm3 tszl tszh : ℕ) (r : VectorState) → let v = 32 * tszh + 8 * tszl + imm3 in Leaves (shift_imm_name op) (zd ∷ zn ∷ imm3 ∷ tszl ∷ tszh ∷ []) r (put_lanes r zd (width_of_size (shift_size v)) (shift_at (shift_op op) (width_of_size (shift_size v)) (z_of r zn) (shift_count op v)))
shift_here shift_immediate_ops.Lsl zd zn imm3 tszl tszh r core memory = refl
shift_here other zd zn imm3 tszl tszh r core memory = refl

pub shift_row : (op : ShiftImmediateOp) (zd zn v : ℕ) (r r2 : VectorState) (o : ShiftOp) (w : Width) (count : ℕ) → o ≡ shift_op op → w ≡ width_of_size (shift_size v) → count ≡ shift_count op v → r2 ≡ put_lanes r zd w (shift_at o w (z_of r zn) count) → Leaves (shift_imm_name op) (zd ∷ zn ∷ (v % 8) ∷ (v / 8 % 4) ∷ (v / 32) ∷ []) r r2
shift_row op zd zn v r r2 o w count eo ew ec e =
    let here = shift_here op zd zn (v % 8) (v / 8 % 4) (v / 32) r in
    let whole = split_at_3_and_5 v in
    left_as (shift_imm_name op) (zd ∷ zn ∷ (v % 8) ∷ (v / 8 % 4) ∷ (v / 32) ∷ []) r _ r2
    (e ∙ ap (λ c. put_lanes r zd w (shift_at o w (z_of r zn) c)) ec
    ∙ ap₂ (λ a b. put_lanes r zd b (shift_at a b (z_of r zn) (shift_count op v))) eo ew
    ∙ ap (λ x. put_lanes r zd (width_of_size (shift_size x)) (shift_at (shift_op op) (width_of_size (shift_size x)) (z_of r zn) (shift_count op x))) (sym whole))
    here

-- ---- what the kernels ask for

positive : (w : Width) → 0 < width_bits w
positive widths.B = omega arith
positive other = omega arith

pub unary_narrow : (op : UnaryPredicatedOp) (o : LaneUnary) (w : Width) → o ≡ unary_op op → source_bits o < width_bits w
unary_narrow op o w e = subst (λ a. source_bits a < width_bits w) (sym e) (some op w)
  where
    some : (op : UnaryPredicatedOp) (w : Width) → source_bits (unary_op op) < width_bits w
    some unary_predicated_ops.Abs w = positive w
    some other w = positive w

pub byte_narrow : (op : ExtendOp) (size : SizeFromH) (o : LaneUnary) (w : Width) (n : ℕ) → o ≡ byte_extension op → w ≡ width_of_size n → n ≡ size_from_h_number size → source_bits o < width_bits w
byte_narrow op size o w n eo ew en = let e : w ≡ width_of_size (size_from_h_number size) = ew ∙ ap width_of_size en in subst (λ a. source_bits a < width_bits w) (sym eo) (subst (λ b. source_bits (byte_extension op) < width_bits b) (sym e) (some op size))
  where
    some : (op : ExtendOp) (size : SizeFromH) → source_bits (byte_extension op) < width_bits (width_of_size (size_from_h_number size))
    some extend_ops.Signed sizes_from_h.H = omega arith
    some extend_ops.Signed sizes_from_h.S = omega arith
    some extend_ops.Signed sizes_from_h.D = omega arith
    some extend_ops.Unsigned sizes_from_h.H = omega arith
    some extend_ops.Unsigned sizes_from_h.S = omega arith
    some extend_ops.Unsigned sizes_from_h.D = omega arith

pub half_narrow : (op : ExtendOp) (size : SizeFromS) (o : LaneUnary) (w : Width) (n : ℕ) → o ≡ half_extension op → w ≡ width_of_size n → n ≡ size_from_s_number size → source_bits o < width_bits w
half_narrow op size o w n eo ew en = let e : w ≡ width_of_size (size_from_s_number size) = ew ∙ ap width_of_size en in subst (λ a. source_bits a < width_bits w) (sym eo) (subst (λ b. source_bits (half_extension op) < width_bits b) (sym e) (some op size))
  where
    some : (op : ExtendOp) (size : SizeFromS) → source_bits (half_extension op) < width_bits (width_of_size (size_from_s_number size))
    some extend_ops.Signed sizes_from_s.S = omega arith
    some extend_ops.Signed sizes_from_s.D = omega arith
    some extend_ops.Unsigned sizes_from_s.S = omega arith
    some extend_ops.Unsigned sizes_from_s.D = omega arith

pub word_narrow : (op : ExtendOp) (o : LaneUnary) → o ≡ word_extension op → source_bits o < width_bits D
word_narrow op o eo = subst (λ a. source_bits a < width_bits D) (sym eo) (some op)
  where
    some : (op : ExtendOp) → source_bits (word_extension op) < width_bits D
    some extend_ops.Signed = omega arith
    some extend_ops.Unsigned = omega arith

-- ---- DUP, INDEX and the reductions

-- it goes on with the same registers of A64, and leaves these vector registers
abbrev pub LeavesWith : Name → List ℕ → Core → VectorState → VectorState → Type 0
LeavesWith name numbers core r r2 = (memory : Memory) → do_vector (row_of name numbers) (state_of core memory r) ≡ Went (next (state_of core memory r2))

pub dup_row : (zd rn size : ℕ) (core : Core) (r r2 : VectorState) (w : Width) (v : ℕ) → w ≡ width_of_size size → v ≡ (if nat_eq rn 31 then core.sp else slice_index core.x rn) → r2 ≡ put_lanes r zd w (dup_at v) → LeavesWith dup (zd ∷ rn ∷ size ∷ []) core r r2
dup_row zd rn size core r r2 w v ew ev e memory = ap (λ x. Went (next (state_of core memory x))) (sym (e ∙ ap₂ (λ a b. put_lanes r zd a (dup_at b)) ew ev))

pub index_row_is : (zd rn imm5 size : ℕ) (core : Core) (r r2 : VectorState) (w : Width) (v by : ℕ) → w ≡ width_of_size size → v ≡ slice_index core.x rn → by ≡ sign_extended (2 ^ 5) (2 ^ 64) imm5 → r2 ≡ put_lanes r zd w (index_at v by) → LeavesWith index_row (zd ∷ rn ∷ imm5 ∷ size ∷ []) core r r2
index_row_is zd rn imm5 size core r r2 w v by ew ev eb e memory =
    ap (λ x. Went (next (state_of core memory x)))
    (sym (e ∙ ap (λ a. put_lanes r zd a (index_at v by)) ew ∙ ap₂ (λ a b. put_lanes r zd (width_of_size size) (index_at a b)) ev eb))

reduction_here : (op : ReductionOp) (zd zn pg size : ℕ) (r : VectorState) → let w = width_of_size size in Leaves (reduce_name op) (zd ∷ zn ∷ pg ∷ size ∷ []) r (put_z r zd (reduced (reduction_width op w) (reduce_of (reduction_op op) w (lanes r.vl w) (p_of r pg) (z_of r zn))))
reduction_here reduction_ops.Uaddv zd zn pg size r core memory = refl
reduction_here other zd zn pg size r core memory = refl

pub reduction_row : (op : ReductionOp) (zd zn pg size : ℕ) (r r2 : VectorState) (o : ReduceOp) (w wide : Width) (p z out : List ℕ) (v : ℕ) → o ≡ reduction_op op → w ≡ width_of_size size → wide ≡ reduction_width op w → p ≡ p_of r pg → z ≡ z_of r zn → v ≡ reduce_of o w (lanes r.vl w) p z → out ≡ reduced wide v → r2 ≡ put_z r zd out → Leaves (reduce_name op) (zd ∷ zn ∷ pg ∷ size ∷ []) r r2
reduction_row op zd zn pg size r r2 o w wide p z out v eo ew ewide ep ez ev eout e =
    let s = width_of_size size in
    let value : v ≡ reduce_of (reduction_op op) s (lanes r.vl s) (p_of r pg) (z_of r zn) =
    ev ∙ ap₂ (λ a b. reduce_of a b (lanes r.vl b) p z) eo ew ∙ ap₂ (reduce_of (reduction_op op) s (lanes r.vl s)) ep ez in
    let at : wide ≡ reduction_width op s = ewide ∙ ap (reduction_width op) ew in
    left_as (reduce_name op) (zd ∷ zn ∷ pg ∷ size ∷ []) r _ r2 (e ∙ ap (put_z r zd) (eout ∙ ap₂ reduced at value)) (reduction_here op zd zn pg size r)

pub one_shape : (vl : ℕ) (w : Width) (v : ℕ) (out : List ℕ) → IsLength vl → out ≡ reduced w v → IsVector vl out
one_shape vl w v out h e = subst (IsVector vl) (sym e) (vector_made vl (width_bytes w) (dup_at v) 1 h (one_element-fits vl w h))

pub one_put : (w : Width) (v : ℕ) (was out : List ℕ) → was ≡ register (width_bytes w) (dup_at v) 0 → out ≡ with_element (width_bytes w) was 0 v → out ≡ reduced w v
one_put w v was out e put = put-more (width_bytes w) (dup_at v) 0 v was out e put refl
