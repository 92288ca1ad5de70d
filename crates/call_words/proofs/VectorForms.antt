-- The registers that the SVE instructions of a form write, whichever of them it is.
use Rattle.std.proofs.Common.{◌≡◌, ℕ, List, Some, None, refl}
use Rattle.std.specs.Prelude.{slice_index, option_map}
use Rattle.sve_code.specs.View.{pred_logic_name, break_form_name, count_name, add_sub_name, logic_name, shift_imm_name, merging_name, unary_name, extend_byte_name, extend_half_name, extend_word_name, reduce_name, compare_name, load_gather_name}
use Rattle.sve_code.specs.declared.PredicateLogicalOp.{PredicateLogicalOp}
use Rattle.sve_code.specs.declared.PredicateLogicalOp.TheVariants as predicate_logical_ops
use Rattle.sve_code.specs.declared.BreakOp.{BreakOp}
use Rattle.sve_code.specs.declared.BreakOp.TheVariants as break_ops
use Rattle.sve_code.specs.declared.ElementCountOp.{ElementCountOp}
use Rattle.sve_code.specs.declared.ElementCountOp.TheVariants as element_count_ops
use Rattle.sve_code.specs.declared.AddSubOp.{AddSubOp}
use Rattle.sve_code.specs.declared.AddSubOp.TheVariants as add_sub_ops
use Rattle.sve_code.specs.declared.BitwiseOp.{BitwiseOp}
use Rattle.sve_code.specs.declared.BitwiseOp.TheVariants as bitwise_ops
use Rattle.sve_code.specs.declared.ShiftImmediateOp.{ShiftImmediateOp}
use Rattle.sve_code.specs.declared.ShiftImmediateOp.TheVariants as shift_immediate_ops
use Rattle.sve_code.specs.declared.BinaryPredicatedOp.{BinaryPredicatedOp}
use Rattle.sve_code.specs.declared.BinaryPredicatedOp.TheVariants as binary_predicated_ops
use Rattle.sve_code.specs.declared.UnaryPredicatedOp.{UnaryPredicatedOp}
use Rattle.sve_code.specs.declared.UnaryPredicatedOp.TheVariants as unary_predicated_ops
use Rattle.sve_code.specs.declared.ExtendOp.{ExtendOp}
use Rattle.sve_code.specs.declared.ExtendOp.TheVariants as extend_ops
use Rattle.sve_code.specs.declared.ReductionOp.{ReductionOp}
use Rattle.sve_code.specs.declared.ReductionOp.TheVariants as reduction_ops
use Rattle.sve_code.specs.declared.VectorCompareOp.{VectorCompareOp}
use Rattle.sve_code.specs.declared.VectorCompareOp.TheVariants as vector_compare_ops
use Rattle.sve_code.specs.declared.GatherOp.{GatherOp}
use Rattle.sve_code.specs.declared.GatherOp.TheVariants as gather_ops
use Rattle.machine_model.specs.Frames.{x_field, z_field}
use Rattle.machine_model.specs.VectorEffects.{field_of}

pub vector_pred_logic_x : (op : PredicateLogicalOp) (ns : List ℕ) → option_map (field_of (pred_logic_name op) ns) (x_field (pred_logic_name op)) ≡ None
vector_pred_logic_x predicate_logical_ops.And ns = refl
vector_pred_logic_x predicate_logical_ops.Bic ns = refl
vector_pred_logic_x predicate_logical_ops.Eor ns = refl
vector_pred_logic_x predicate_logical_ops.Orr ns = refl
vector_pred_logic_x predicate_logical_ops.Ands ns = refl

pub vector_pred_logic_z : (op : PredicateLogicalOp) (ns : List ℕ) → option_map (field_of (pred_logic_name op) ns) (z_field (pred_logic_name op)) ≡ None
vector_pred_logic_z predicate_logical_ops.And ns = refl
vector_pred_logic_z predicate_logical_ops.Bic ns = refl
vector_pred_logic_z predicate_logical_ops.Eor ns = refl
vector_pred_logic_z predicate_logical_ops.Orr ns = refl
vector_pred_logic_z predicate_logical_ops.Ands ns = refl

pub vector_break_form_x : (op : BreakOp) (ns : List ℕ) → option_map (field_of (break_form_name op) ns) (x_field (break_form_name op)) ≡ None
vector_break_form_x break_ops.Brka ns = refl
vector_break_form_x break_ops.Brkb ns = refl

pub vector_break_form_z : (op : BreakOp) (ns : List ℕ) → option_map (field_of (break_form_name op) ns) (z_field (break_form_name op)) ≡ None
vector_break_form_z break_ops.Brka ns = refl
vector_break_form_z break_ops.Brkb ns = refl

pub vector_count_x : (op : ElementCountOp) (ns : List ℕ) → option_map (field_of (count_name op) ns) (x_field (count_name op)) ≡ Some (slice_index ns 0)
vector_count_x element_count_ops.Cntb ns = refl
vector_count_x element_count_ops.Cnth ns = refl
vector_count_x element_count_ops.Cntw ns = refl
vector_count_x element_count_ops.Cntd ns = refl

pub vector_count_z : (op : ElementCountOp) (ns : List ℕ) → option_map (field_of (count_name op) ns) (z_field (count_name op)) ≡ None
vector_count_z element_count_ops.Cntb ns = refl
vector_count_z element_count_ops.Cnth ns = refl
vector_count_z element_count_ops.Cntw ns = refl
vector_count_z element_count_ops.Cntd ns = refl

pub vector_add_sub_x : (op : AddSubOp) (ns : List ℕ) → option_map (field_of (add_sub_name op) ns) (x_field (add_sub_name op)) ≡ None
vector_add_sub_x add_sub_ops.Add ns = refl
vector_add_sub_x add_sub_ops.Sub ns = refl

pub vector_add_sub_z : (op : AddSubOp) (ns : List ℕ) → option_map (field_of (add_sub_name op) ns) (z_field (add_sub_name op)) ≡ Some (slice_index ns 0)
vector_add_sub_z add_sub_ops.Add ns = refl
vector_add_sub_z add_sub_ops.Sub ns = refl

pub vector_logic_x : (op : BitwiseOp) (ns : List ℕ) → option_map (field_of (logic_name op) ns) (x_field (logic_name op)) ≡ None
vector_logic_x bitwise_ops.And ns = refl
vector_logic_x bitwise_ops.Orr ns = refl
vector_logic_x bitwise_ops.Eor ns = refl
vector_logic_x bitwise_ops.Bic ns = refl

pub vector_logic_z : (op : BitwiseOp) (ns : List ℕ) → option_map (field_of (logic_name op) ns) (z_field (logic_name op)) ≡ Some (slice_index ns 0)
vector_logic_z bitwise_ops.And ns = refl
vector_logic_z bitwise_ops.Orr ns = refl
vector_logic_z bitwise_ops.Eor ns = refl
vector_logic_z bitwise_ops.Bic ns = refl

pub vector_shift_imm_x : (op : ShiftImmediateOp) (ns : List ℕ) → option_map (field_of (shift_imm_name op) ns) (x_field (shift_imm_name op)) ≡ None
vector_shift_imm_x shift_immediate_ops.Lsl ns = refl
vector_shift_imm_x shift_immediate_ops.Lsr ns = refl
vector_shift_imm_x shift_immediate_ops.Asr ns = refl

pub vector_shift_imm_z : (op : ShiftImmediateOp) (ns : List ℕ) → option_map (field_of (shift_imm_name op) ns) (z_field (shift_imm_name op)) ≡ Some (slice_index ns 0)
vector_shift_imm_z shift_immediate_ops.Lsl ns = refl
vector_shift_imm_z shift_immediate_ops.Lsr ns = refl
vector_shift_imm_z shift_immediate_ops.Asr ns = refl

pub vector_merging_x : (op : BinaryPredicatedOp) (ns : List ℕ) → option_map (field_of (merging_name op) ns) (x_field (merging_name op)) ≡ None
vector_merging_x binary_predicated_ops.Add ns = refl
vector_merging_x binary_predicated_ops.Sub ns = refl
vector_merging_x binary_predicated_ops.Smax ns = refl
vector_merging_x binary_predicated_ops.Umax ns = refl
vector_merging_x binary_predicated_ops.Smin ns = refl
vector_merging_x binary_predicated_ops.Umin ns = refl
vector_merging_x binary_predicated_ops.Mul ns = refl
vector_merging_x binary_predicated_ops.Orr ns = refl
vector_merging_x binary_predicated_ops.Eor ns = refl
vector_merging_x binary_predicated_ops.And ns = refl

pub vector_merging_z : (op : BinaryPredicatedOp) (ns : List ℕ) → option_map (field_of (merging_name op) ns) (z_field (merging_name op)) ≡ Some (slice_index ns 0)
vector_merging_z binary_predicated_ops.Add ns = refl
vector_merging_z binary_predicated_ops.Sub ns = refl
vector_merging_z binary_predicated_ops.Smax ns = refl
vector_merging_z binary_predicated_ops.Umax ns = refl
vector_merging_z binary_predicated_ops.Smin ns = refl
vector_merging_z binary_predicated_ops.Umin ns = refl
vector_merging_z binary_predicated_ops.Mul ns = refl
vector_merging_z binary_predicated_ops.Orr ns = refl
vector_merging_z binary_predicated_ops.Eor ns = refl
vector_merging_z binary_predicated_ops.And ns = refl

pub vector_unary_x : (op : UnaryPredicatedOp) (ns : List ℕ) → option_map (field_of (unary_name op) ns) (x_field (unary_name op)) ≡ None
vector_unary_x unary_predicated_ops.Abs ns = refl
vector_unary_x unary_predicated_ops.Neg ns = refl
vector_unary_x unary_predicated_ops.Not ns = refl

pub vector_unary_z : (op : UnaryPredicatedOp) (ns : List ℕ) → option_map (field_of (unary_name op) ns) (z_field (unary_name op)) ≡ Some (slice_index ns 0)
vector_unary_z unary_predicated_ops.Abs ns = refl
vector_unary_z unary_predicated_ops.Neg ns = refl
vector_unary_z unary_predicated_ops.Not ns = refl

pub vector_extend_byte_x : (op : ExtendOp) (ns : List ℕ) → option_map (field_of (extend_byte_name op) ns) (x_field (extend_byte_name op)) ≡ None
vector_extend_byte_x extend_ops.Signed ns = refl
vector_extend_byte_x extend_ops.Unsigned ns = refl

pub vector_extend_byte_z : (op : ExtendOp) (ns : List ℕ) → option_map (field_of (extend_byte_name op) ns) (z_field (extend_byte_name op)) ≡ Some (slice_index ns 0)
vector_extend_byte_z extend_ops.Signed ns = refl
vector_extend_byte_z extend_ops.Unsigned ns = refl

pub vector_extend_half_x : (op : ExtendOp) (ns : List ℕ) → option_map (field_of (extend_half_name op) ns) (x_field (extend_half_name op)) ≡ None
vector_extend_half_x extend_ops.Signed ns = refl
vector_extend_half_x extend_ops.Unsigned ns = refl

pub vector_extend_half_z : (op : ExtendOp) (ns : List ℕ) → option_map (field_of (extend_half_name op) ns) (z_field (extend_half_name op)) ≡ Some (slice_index ns 0)
vector_extend_half_z extend_ops.Signed ns = refl
vector_extend_half_z extend_ops.Unsigned ns = refl

pub vector_extend_word_x : (op : ExtendOp) (ns : List ℕ) → option_map (field_of (extend_word_name op) ns) (x_field (extend_word_name op)) ≡ None
vector_extend_word_x extend_ops.Signed ns = refl
vector_extend_word_x extend_ops.Unsigned ns = refl

pub vector_extend_word_z : (op : ExtendOp) (ns : List ℕ) → option_map (field_of (extend_word_name op) ns) (z_field (extend_word_name op)) ≡ Some (slice_index ns 0)
vector_extend_word_z extend_ops.Signed ns = refl
vector_extend_word_z extend_ops.Unsigned ns = refl

pub vector_reduce_x : (op : ReductionOp) (ns : List ℕ) → option_map (field_of (reduce_name op) ns) (x_field (reduce_name op)) ≡ None
vector_reduce_x reduction_ops.Uaddv ns = refl
vector_reduce_x reduction_ops.Smaxv ns = refl
vector_reduce_x reduction_ops.Umaxv ns = refl
vector_reduce_x reduction_ops.Sminv ns = refl
vector_reduce_x reduction_ops.Uminv ns = refl
vector_reduce_x reduction_ops.Orv ns = refl
vector_reduce_x reduction_ops.Eorv ns = refl
vector_reduce_x reduction_ops.Andv ns = refl

pub vector_reduce_z : (op : ReductionOp) (ns : List ℕ) → option_map (field_of (reduce_name op) ns) (z_field (reduce_name op)) ≡ Some (slice_index ns 0)
vector_reduce_z reduction_ops.Uaddv ns = refl
vector_reduce_z reduction_ops.Smaxv ns = refl
vector_reduce_z reduction_ops.Umaxv ns = refl
vector_reduce_z reduction_ops.Sminv ns = refl
vector_reduce_z reduction_ops.Uminv ns = refl
vector_reduce_z reduction_ops.Orv ns = refl
vector_reduce_z reduction_ops.Eorv ns = refl
vector_reduce_z reduction_ops.Andv ns = refl

pub vector_compare_x : (op : VectorCompareOp) (ns : List ℕ) → option_map (field_of (compare_name op) ns) (x_field (compare_name op)) ≡ None
vector_compare_x vector_compare_ops.Hs ns = refl
vector_compare_x vector_compare_ops.Hi ns = refl
vector_compare_x vector_compare_ops.Ge ns = refl
vector_compare_x vector_compare_ops.Gt ns = refl
vector_compare_x vector_compare_ops.Eq ns = refl
vector_compare_x vector_compare_ops.Ne ns = refl

pub vector_compare_z : (op : VectorCompareOp) (ns : List ℕ) → option_map (field_of (compare_name op) ns) (z_field (compare_name op)) ≡ None
vector_compare_z vector_compare_ops.Hs ns = refl
vector_compare_z vector_compare_ops.Hi ns = refl
vector_compare_z vector_compare_ops.Ge ns = refl
vector_compare_z vector_compare_ops.Gt ns = refl
vector_compare_z vector_compare_ops.Eq ns = refl
vector_compare_z vector_compare_ops.Ne ns = refl

pub vector_load_gather_x : (op : GatherOp) (ns : List ℕ) → option_map (field_of (load_gather_name op) ns) (x_field (load_gather_name op)) ≡ None
vector_load_gather_x gather_ops.Ld1b ns = refl
vector_load_gather_x gather_ops.Ld1h ns = refl
vector_load_gather_x gather_ops.Ld1w ns = refl
vector_load_gather_x gather_ops.Ld1d ns = refl
vector_load_gather_x gather_ops.Ld1sb ns = refl
vector_load_gather_x gather_ops.Ld1sh ns = refl
vector_load_gather_x gather_ops.Ld1sw ns = refl

pub vector_load_gather_z : (op : GatherOp) (ns : List ℕ) → option_map (field_of (load_gather_name op) ns) (z_field (load_gather_name op)) ≡ Some (slice_index ns 0)
vector_load_gather_z gather_ops.Ld1b ns = refl
vector_load_gather_z gather_ops.Ld1h ns = refl
vector_load_gather_z gather_ops.Ld1w ns = refl
vector_load_gather_z gather_ops.Ld1d ns = refl
vector_load_gather_z gather_ops.Ld1sb ns = refl
vector_load_gather_z gather_ops.Ld1sh ns = refl
vector_load_gather_z gather_ops.Ld1sw ns = refl

pub ruleset vector_forms = (vector_pred_logic_x, vector_pred_logic_z, vector_break_form_x, vector_break_form_z, vector_count_x, vector_count_z, vector_add_sub_x, vector_add_sub_z, vector_logic_x, vector_logic_z, vector_shift_imm_x, vector_shift_imm_z, vector_merging_x, vector_merging_z, vector_unary_x, vector_unary_z, vector_extend_byte_x, vector_extend_byte_z, vector_extend_half_x, vector_extend_half_z, vector_extend_word_x, vector_extend_word_z, vector_reduce_x, vector_reduce_z, vector_compare_x, vector_compare_z, vector_load_gather_x, vector_load_gather_z)
