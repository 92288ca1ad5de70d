-- What each SVE form does, by its operation (Arm DDI 0487, chapter C8, "SVE Instruction Descriptions").
use Rattle.std.specs.Prelude.{◌≡◌, ℕ, Bool, true, false, Result, Ok, Err}
use Rattle.guest_types.specs.Elements.{Flags}
use Rattle.guest_types.specs.declared.memory.AccessFault.{AccessFault}
use Rattle.machine_model.specs.declared.outcome.StopKind.TheVariants.{Read}
use Rattle.guest_types.specs.Memory.{Memory}
use Rattle.guest_types.specs.declared.length.Width.{Width}
use Rattle.guest_types.specs.declared.length.Width.TheVariants.{B, H, S, D}
use Rattle.guest_types.specs.declared.operation.LaneOp.{LaneOp}
use Rattle.guest_types.specs.declared.operation.LaneOp.TheVariants as lane_ops
use Rattle.guest_types.specs.declared.operation.LaneUnary.{LaneUnary}
use Rattle.guest_types.specs.declared.operation.LaneUnary.TheVariants as unaries
use Rattle.guest_types.specs.declared.operation.ShiftOp.{ShiftOp}
use Rattle.guest_types.specs.declared.operation.ShiftOp.TheVariants as shifts
use Rattle.guest_types.specs.declared.operation.ReduceOp.{ReduceOp}
use Rattle.guest_types.specs.declared.operation.ReduceOp.TheVariants as reduce_ops
use Rattle.guest_types.specs.declared.operation.LaneCompare.{LaneCompare}
use Rattle.guest_types.specs.declared.operation.LaneCompare.TheVariants as compares
use Rattle.guest_types.specs.declared.operation.PredOp.{PredOp}
use Rattle.guest_types.specs.declared.operation.PredOp.TheVariants as pred_ops
use Rattle.sve_code.specs.declared.AddSubOp.{AddSubOp}
use Rattle.sve_code.specs.declared.AddSubOp.TheVariants as add_sub_ops
use Rattle.sve_code.specs.declared.BitwiseOp.{BitwiseOp}
use Rattle.sve_code.specs.declared.BitwiseOp.TheVariants as bitwise_ops
use Rattle.sve_code.specs.declared.ShiftImmediateOp.{ShiftImmediateOp}
use Rattle.sve_code.specs.declared.ShiftImmediateOp.TheVariants as shift_immediate_ops
use Rattle.sve_code.specs.declared.BinaryPredicatedOp.{BinaryPredicatedOp}
use Rattle.sve_code.specs.declared.BinaryPredicatedOp.TheVariants as binary_predicated_ops
use Rattle.sve_code.specs.declared.UnaryPredicatedOp.{UnaryPredicatedOp}
use Rattle.sve_code.specs.declared.UnaryPredicatedOp.TheVariants as unary_predicated_ops
use Rattle.sve_code.specs.declared.ExtendOp.{ExtendOp}
use Rattle.sve_code.specs.declared.ExtendOp.TheVariants as extend_ops
use Rattle.sve_code.specs.declared.ReductionOp.{ReductionOp}
use Rattle.sve_code.specs.declared.ReductionOp.TheVariants as reduction_ops
use Rattle.sve_code.specs.declared.VectorCompareOp.{VectorCompareOp}
use Rattle.sve_code.specs.declared.VectorCompareOp.TheVariants as vector_compare_ops
use Rattle.sve_code.specs.declared.PredicateLogicalOp.{PredicateLogicalOp}
use Rattle.sve_code.specs.declared.PredicateLogicalOp.TheVariants as predicate_logical_ops
use Rattle.sve_code.specs.declared.ElementCountOp.{ElementCountOp}
use Rattle.sve_code.specs.declared.ElementCountOp.TheVariants as element_count_ops
use Rattle.sve_code.specs.declared.BreakOp.{BreakOp}
use Rattle.sve_code.specs.declared.BreakOp.TheVariants as break_ops
use Rattle.sve_code.specs.declared.GatherOp.{GatherOp}
use Rattle.sve_code.specs.declared.GatherOp.TheVariants as gather_ops
use Rattle.sve_code.specs.declared.Sve.{Sve}
use Rattle.sve_code.specs.Numbers.{left_amount, right_amount}
use Rattle.sve_code.specs.View.{instruction_view}
use Rattle.machine_model.specs.Machine.{Step, Went, Stopped, next}
use Rattle.machine_model.specs.VectorEffects.{do_vector}
use Rattle.a64_machine.specs.Cores.{VectorState, state_of}
use Rattle.a64_machine.specs.declared.core_state.Core.{Core}

-- the instruction goes on, and leaves these registers; PC is raised after it
abbrev pub RowLeaves : Sve → Core → VectorState → (after : Core) → (left : VectorState) → Type 0
RowLeaves word core rest after left = (memory : Memory) → do_vector (instruction_view word) (state_of core memory rest) ≡ Went (next (state_of after memory left))

-- ---- the lane operation of each

abbrev pub add_sub_op : AddSubOp → LaneOp
add_sub_op add_sub_ops.Add = lane_ops.Add
add_sub_op add_sub_ops.Sub = lane_ops.Sub

abbrev pub bitwise_op : BitwiseOp → LaneOp
bitwise_op bitwise_ops.And = lane_ops.And
bitwise_op bitwise_ops.Orr = lane_ops.Or
bitwise_op bitwise_ops.Eor = lane_ops.Xor
bitwise_op bitwise_ops.Bic = lane_ops.Bic

abbrev pub shift_op : ShiftImmediateOp → ShiftOp
shift_op shift_immediate_ops.Lsl = shifts.Lsl
shift_op shift_immediate_ops.Lsr = shifts.Lsr
shift_op shift_immediate_ops.Asr = shifts.Asr

abbrev pub merging_op : BinaryPredicatedOp → LaneOp
merging_op binary_predicated_ops.Add = lane_ops.Add
merging_op binary_predicated_ops.Sub = lane_ops.Sub
merging_op binary_predicated_ops.Smax = lane_ops.SMax
merging_op binary_predicated_ops.Umax = lane_ops.UMax
merging_op binary_predicated_ops.Smin = lane_ops.SMin
merging_op binary_predicated_ops.Umin = lane_ops.UMin
merging_op binary_predicated_ops.Mul = lane_ops.Mul
merging_op binary_predicated_ops.Orr = lane_ops.Or
merging_op binary_predicated_ops.Eor = lane_ops.Xor
merging_op binary_predicated_ops.And = lane_ops.And

abbrev pub unary_op : UnaryPredicatedOp → LaneUnary
unary_op unary_predicated_ops.Abs = unaries.Abs
unary_op unary_predicated_ops.Neg = unaries.Neg
unary_op unary_predicated_ops.Not = unaries.Not

abbrev pub byte_extension : ExtendOp → LaneUnary
byte_extension extend_ops.Signed = unaries.SxtB
byte_extension extend_ops.Unsigned = unaries.UxtB

abbrev pub half_extension : ExtendOp → LaneUnary
half_extension extend_ops.Signed = unaries.SxtH
half_extension extend_ops.Unsigned = unaries.UxtH

abbrev pub word_extension : ExtendOp → LaneUnary
word_extension extend_ops.Signed = unaries.SxtW
word_extension extend_ops.Unsigned = unaries.UxtW

abbrev pub reduction_op : ReductionOp → ReduceOp
reduction_op reduction_ops.Uaddv = reduce_ops.UAdd
reduction_op reduction_ops.Smaxv = reduce_ops.SMax
reduction_op reduction_ops.Umaxv = reduce_ops.UMax
reduction_op reduction_ops.Sminv = reduce_ops.SMin
reduction_op reduction_ops.Uminv = reduce_ops.UMin
reduction_op reduction_ops.Orv = reduce_ops.Or
reduction_op reduction_ops.Eorv = reduce_ops.Xor
reduction_op reduction_ops.Andv = reduce_ops.And

-- UADDV leaves a sum of 64 bits, the others an element
abbrev pub reduction_width : ReductionOp → Width → Width
reduction_width reduction_ops.Uaddv w = D
reduction_width reduction_ops.Smaxv w = w
reduction_width reduction_ops.Umaxv w = w
reduction_width reduction_ops.Sminv w = w
reduction_width reduction_ops.Uminv w = w
reduction_width reduction_ops.Orv w = w
reduction_width reduction_ops.Eorv w = w
reduction_width reduction_ops.Andv w = w

abbrev pub comparison : VectorCompareOp → LaneCompare
comparison vector_compare_ops.Hs = compares.Hs
comparison vector_compare_ops.Hi = compares.Hi
comparison vector_compare_ops.Ge = compares.Ge
comparison vector_compare_ops.Gt = compares.Gt
comparison vector_compare_ops.Eq = compares.Eq
comparison vector_compare_ops.Ne = compares.Ne

-- by how many bits a shift goes, from the number in tszh:tszl:imm3
abbrev pub shift_count : ShiftImmediateOp → ℕ → ℕ
shift_count shift_immediate_ops.Lsl value = left_amount value
shift_count shift_immediate_ops.Lsr value = right_amount value
shift_count shift_immediate_ops.Asr value = right_amount value

-- the form in which a gather reads, by its number in the field dtype of other loads
abbrev pub gather_dtype : GatherOp → ℕ
gather_dtype gather_ops.Ld1b = 3
gather_dtype gather_ops.Ld1h = 7
gather_dtype gather_ops.Ld1w = 11
gather_dtype gather_ops.Ld1d = 15
gather_dtype gather_ops.Ld1sb = 12
gather_dtype gather_ops.Ld1sh = 8
gather_dtype gather_ops.Ld1sw = 4

-- a load goes on with the registers that it leaves, or stops at its fault
abbrev pub after_load : Result VectorState AccessFault → Core → Memory → Step
after_load (Ok left) core memory = Went (next (state_of core memory left))
after_load (Err fault) core memory = Stopped Read core.pc fault.address memory

abbrev pub logic_op : PredicateLogicalOp → PredOp
logic_op predicate_logical_ops.And = pred_ops.And
logic_op predicate_logical_ops.Bic = pred_ops.Bic
logic_op predicate_logical_ops.Eor = pred_ops.Eor
logic_op predicate_logical_ops.Orr = pred_ops.Orr
logic_op predicate_logical_ops.Ands = pred_ops.And

-- ANDS sets the flags, the others leave them
abbrev pub logic_flags : PredicateLogicalOp → (before tested : Flags) → Flags
logic_flags predicate_logical_ops.And before tested = before
logic_flags predicate_logical_ops.Bic before tested = before
logic_flags predicate_logical_ops.Eor before tested = before
logic_flags predicate_logical_ops.Orr before tested = before
logic_flags predicate_logical_ops.Ands before tested = tested

abbrev pub is_after : BreakOp → Bool
is_after break_ops.Brka = true
is_after break_ops.Brkb = false

abbrev pub count_width : ElementCountOp → Width
count_width element_count_ops.Cntb = B
count_width element_count_ops.Cnth = H
count_width element_count_ops.Cntw = S
count_width element_count_ops.Cntd = D
