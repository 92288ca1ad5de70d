-- The SVE table passes its tests, and every value of `Sve` is an instruction of it.
use Rattle.std.proofs.Common.{◌≡◌, ℕ, ◌<◌, ◌≤◌, ◌^◌, ◌+◌, ◌*◌, ◌/◌, ◌%◌, true, leb, slice_get, Some, refl, arith, lit<}
use Rattle.std.proofs.lemmas.Bool.{lt-ltb, le-leb, and_from}
use Rattle.word_rows.specs.Row.{Instruction, IsInstruction, Fill, is_table, place_in}
use Rattle.sve_code.specs.Numbers.{size_number, size_from_h_number, size_from_s_number, dtype_number}
use Rattle.sve_code.specs.Table.{Name, row, sve_names, true_form, false_form, while_below, test_form, pred_logic, break_form, read_ffr, read_ffr_zeroing, set_ffr, write_ffr, count, increment_by_count, count_true, duplicate, index, select, add_sub, logic, shift_imm, merging, unary, extend_byte, extend_half, extend_word, reduce, compare, load, load_first_fault, load_no_fault, load_gather, store, ptrue}
use Rattle.sve_code.specs.View.{instruction_view}
use Rattle.sve_code.specs.declared.Sve.{Sve}
use Rattle.sve_code.specs.declared.Sve.TheVariants as sve
use Rattle.sve_code.specs.declared.PredicateLogicalOp.TheVariants as predicate_logical_ops
use Rattle.sve_code.specs.declared.BreakOp.TheVariants as break_ops
use Rattle.sve_code.specs.declared.ElementCountOp.TheVariants as element_count_ops
use Rattle.sve_code.specs.declared.AddSubOp.TheVariants as add_sub_ops
use Rattle.sve_code.specs.declared.BitwiseOp.TheVariants as bitwise_ops
use Rattle.sve_code.specs.declared.ShiftImmediateOp.TheVariants as shift_immediate_ops
use Rattle.sve_code.specs.declared.BinaryPredicatedOp.TheVariants as binary_predicated_ops
use Rattle.sve_code.specs.declared.UnaryPredicatedOp.TheVariants as unary_predicated_ops
use Rattle.sve_code.specs.declared.ExtendOp.TheVariants as extend_ops
use Rattle.sve_code.specs.declared.ReductionOp.TheVariants as reduction_ops
use Rattle.sve_code.specs.declared.VectorCompareOp.TheVariants as vector_compare_ops
use Rattle.sve_code.specs.declared.GatherOp.TheVariants as gather_ops
use Rattle.sve_code.specs.declared.parts.Size.{Size}
use Rattle.sve_code.specs.declared.parts.Size.TheVariants as sizes
use Rattle.sve_code.specs.declared.parts.SizeFromH.{SizeFromH}
use Rattle.sve_code.specs.declared.parts.SizeFromH.TheVariants as sizes_from_h
use Rattle.sve_code.specs.declared.parts.SizeFromS.{SizeFromS}
use Rattle.sve_code.specs.declared.parts.SizeFromS.TheVariants as sizes_from_s
use Rattle.sve_code.specs.declared.parts.Dtype.{Dtype}
use Rattle.sve_code.specs.declared.parts.Dtype.TheVariants as dtypes

pub sve_table : is_table row sve_names ≡ true
unfolding true_form false_form while_below test_form pred_logic break_form read_ffr read_ffr_zeroing set_ffr write_ffr count increment_by_count count_true duplicate index select add_sub logic shift_imm merging unary extend_byte extend_half extend_word reduce compare load load_first_fault load_no_fault load_gather store
sve_table = refl

size_below : (x : Size) → size_number x < 2 ^ 2
size_below sizes.B = lit< tt
size_below other = lit< tt

size_from_h_below : (x : SizeFromH) → size_from_h_number x < 2 ^ 2
size_from_h_below sizes_from_h.H = lit< tt
size_from_h_below other = lit< tt

size_from_h_listed : (x : SizeFromH) → leb 1 (size_from_h_number x) ≡ true
size_from_h_listed sizes_from_h.H = refl
size_from_h_listed other = refl

size_from_s_below : (x : SizeFromS) → size_from_s_number x < 2 ^ 2
size_from_s_below sizes_from_s.S = lit< tt
size_from_s_below sizes_from_s.D = lit< tt

size_from_s_listed : (x : SizeFromS) → leb 2 (size_from_s_number x) ≡ true
size_from_s_listed sizes_from_s.S = refl
size_from_s_listed sizes_from_s.D = refl

dtype_below : (x : Dtype) → dtype_number x < 2 ^ 4
dtype_below dtypes.ByteToB = lit< tt
dtype_below other = lit< tt

amount_from_8 : (v : ℕ) → 8 ≤ v → leb 8 (32 * (v / 32) + 8 * (v / 8 % 4) + v % 8) ≡ true
amount_from_8 v h = le-leb _ _ (omega arith)

-- each row stands in the table, where its base word is found
pub listed : (n : Name) → slice_get sve_names (place_in row sve_names (row n).base) ≡ Some n
unfolding true_form false_form while_below test_form pred_logic break_form read_ffr read_ffr_zeroing set_ffr write_ffr count increment_by_count count_true duplicate index select add_sub logic shift_imm merging unary extend_byte extend_half extend_word reduce compare load load_first_fault load_no_fault load_gather store
listed ptrue = refl
listed other = refl

-- an instruction whose numbers fit and are admitted
pub is_instruction : (i : Instruction Name) → Fill (row i.name).fields i.numbers → (row i.name).admits i.numbers ≡ true → IsInstruction row sve_names i
is_instruction i fits admitted = record { place = place_in row sve_names (row i.name).base; listed = listed i.name; fits = fits; admitted = admitted }

-- every value is an instruction of the table
pub valid : (x : Sve) → IsInstruction row sve_names (instruction_view x)
valid (sve.Ptrue pd size) = is_instruction _ (pd.in_range, (size_below size, tt)) refl
valid (sve.Pfalse pd) = is_instruction _ (pd.in_range, tt) refl
valid (sve.Whilelo pd rn rm size) = is_instruction _ (pd.in_range, (rn.in_range, (rm.in_range, (size_below size, tt)))) refl
valid (sve.Ptest pn pg) = is_instruction _ (pn.in_range, (pg.in_range, tt)) refl
valid (sve.PredicateLogical predicate_logical_ops.And pd pn pg pm) = is_instruction _ (pd.in_range, (pn.in_range, (pg.in_range, (pm.in_range, tt)))) refl
valid (sve.PredicateLogical op pd pn pg pm) = is_instruction _ (pd.in_range, (pn.in_range, (pg.in_range, (pm.in_range, tt)))) refl
valid (sve.Break break_ops.Brka pd pn pg) = is_instruction _ (pd.in_range, (pn.in_range, (pg.in_range, tt))) refl
valid (sve.Break break_ops.Brkb pd pn pg) = is_instruction _ (pd.in_range, (pn.in_range, (pg.in_range, tt))) refl
valid (sve.Rdffr pd) = is_instruction _ (pd.in_range, tt) refl
valid (sve.RdffrPredicated pd pg) = is_instruction _ (pd.in_range, (pg.in_range, tt)) refl
valid sve.Setffr = is_instruction _ tt refl
valid (sve.Wrffr pn) = is_instruction _ (pn.in_range, tt) refl
valid (sve.ElementCount element_count_ops.Cntb rd) = is_instruction _ (rd.in_range, tt) refl
valid (sve.ElementCount op rd) = is_instruction _ (rd.in_range, tt) refl
valid (sve.Incp rd pm size) = is_instruction _ (rd.in_range, (pm.in_range, (size_below size, tt))) refl
valid (sve.Cntp rd pn pg size) = is_instruction _ (rd.in_range, (pn.in_range, (pg.in_range, (size_below size, tt)))) refl
valid (sve.DupScalar zd rn size) = is_instruction _ (zd.in_range, (rn.in_range, (size_below size, tt))) refl
valid (sve.IndexScalarImmediate zd rn imm5 size) = is_instruction _ (zd.in_range, (rn.in_range, (imm5.in_range, (size_below size, tt)))) refl
valid (sve.Sel zd zn pg zm size) = is_instruction _ (zd.in_range, (zn.in_range, (pg.in_range, (zm.in_range, (size_below size, tt))))) refl
valid (sve.AddSub add_sub_ops.Add zd zn zm size) = is_instruction _ (zd.in_range, (zn.in_range, (zm.in_range, (size_below size, tt)))) refl
valid (sve.AddSub add_sub_ops.Sub zd zn zm size) = is_instruction _ (zd.in_range, (zn.in_range, (zm.in_range, (size_below size, tt)))) refl
valid (sve.Bitwise bitwise_ops.And zd zn zm) = is_instruction _ (zd.in_range, (zn.in_range, (zm.in_range, tt))) refl
valid (sve.Bitwise op zd zn zm) = is_instruction _ (zd.in_range, (zn.in_range, (zm.in_range, tt))) refl
valid (sve.ShiftImmediate shift_immediate_ops.Lsl zd zn amount) = is_instruction _ (zd.in_range, (zn.in_range, (omega arith, (omega arith, (omega (arith, amount.most), tt))))) (amount_from_8 amount.value amount.least)
valid (sve.ShiftImmediate op zd zn amount) = is_instruction _ (zd.in_range, (zn.in_range, (omega arith, (omega arith, (omega (arith, amount.most), tt))))) (amount_from_8 amount.value amount.least)
valid (sve.BinaryPredicated binary_predicated_ops.Add zdn zm pg size) = is_instruction _ (zdn.in_range, (zm.in_range, (pg.in_range, (size_below size, tt)))) refl
valid (sve.BinaryPredicated op zdn zm pg size) = is_instruction _ (zdn.in_range, (zm.in_range, (pg.in_range, (size_below size, tt)))) refl
valid (sve.UnaryPredicated unary_predicated_ops.Abs zd zn pg size) = is_instruction _ (zd.in_range, (zn.in_range, (pg.in_range, (size_below size, tt)))) refl
valid (sve.UnaryPredicated op zd zn pg size) = is_instruction _ (zd.in_range, (zn.in_range, (pg.in_range, (size_below size, tt)))) refl
valid (sve.ExtendByte extend_ops.Signed zd zn pg size) = is_instruction _ (zd.in_range, (zn.in_range, (pg.in_range, (size_from_h_below size, tt)))) (size_from_h_listed size)
valid (sve.ExtendByte extend_ops.Unsigned zd zn pg size) = is_instruction _ (zd.in_range, (zn.in_range, (pg.in_range, (size_from_h_below size, tt)))) (size_from_h_listed size)
valid (sve.ExtendHalfword extend_ops.Signed zd zn pg size) = is_instruction _ (zd.in_range, (zn.in_range, (pg.in_range, (size_from_s_below size, tt)))) (size_from_s_listed size)
valid (sve.ExtendHalfword extend_ops.Unsigned zd zn pg size) = is_instruction _ (zd.in_range, (zn.in_range, (pg.in_range, (size_from_s_below size, tt)))) (size_from_s_listed size)
valid (sve.ExtendWord extend_ops.Signed zd zn pg) = is_instruction _ (zd.in_range, (zn.in_range, (pg.in_range, tt))) refl
valid (sve.ExtendWord extend_ops.Unsigned zd zn pg) = is_instruction _ (zd.in_range, (zn.in_range, (pg.in_range, tt))) refl
valid (sve.Reduction reduction_ops.Uaddv zd zn pg size) = is_instruction _ (zd.in_range, (zn.in_range, (pg.in_range, (size_below size, tt)))) refl
valid (sve.Reduction op zd zn pg size) = is_instruction _ (zd.in_range, (zn.in_range, (pg.in_range, (size_below size, tt)))) refl
valid (sve.CompareVectors vector_compare_ops.Hs pd zn pg zm size) = is_instruction _ (pd.in_range, (zn.in_range, (pg.in_range, (zm.in_range, (size_below size, tt))))) refl
valid (sve.CompareVectors op pd zn pg zm size) = is_instruction _ (pd.in_range, (zn.in_range, (pg.in_range, (zm.in_range, (size_below size, tt))))) refl
valid (sve.ContiguousLoad zt rn pg offset dtype) = is_instruction _ (zt.in_range, (rn.in_range, (pg.in_range, (omega (arith, offset.in_range), (dtype_below dtype, tt))))) (lt-ltb _ _ offset.in_range)
valid (sve.FirstFaultLoad zt rn pg rm dtype) = is_instruction _ (zt.in_range, (rn.in_range, (pg.in_range, (rm.in_range, (dtype_below dtype, tt))))) refl
valid (sve.NonFaultLoad zt rn pg dtype) = is_instruction _ (zt.in_range, (rn.in_range, (pg.in_range, (dtype_below dtype, tt)))) refl
valid (sve.GatherLoad gather_ops.Ld1b zt rn pg zm) = is_instruction _ (zt.in_range, (rn.in_range, (pg.in_range, (zm.in_range, tt)))) refl
valid (sve.GatherLoad op zt rn pg zm) = is_instruction _ (zt.in_range, (rn.in_range, (pg.in_range, (zm.in_range, tt)))) refl
valid (sve.ContiguousStore zt rn pg offset sizes) = is_instruction _ (zt.in_range, (rn.in_range, (pg.in_range, (omega (arith, offset.in_range), (size_below sizes.size, (size_below sizes.msz, tt)))))) (and_from _ _ (lt-ltb _ _ offset.in_range) (le-leb _ _ sizes.in_range))
