-- What contracts see of an instruction: its row, and the numbers of that row's fields, lowest field first.
use Rattle.std.specs.Prelude.{◌/◌, ◌%◌, [], ◌∷◌}
use Rattle.word_rows.specs.Row.{Instruction}
use Rattle.sve_code.specs.Numbers.{size_number, size_from_h_number, size_from_s_number, dtype_number}
use Rattle.sve_code.specs.Table.{Name, ptrue, pfalse, whilelo, ptest, p_and, p_bic, p_eor, p_orr, p_ands, brka, brkb, rdffr, rdffr_z, setffr, wrffr, cntb, cnth, cntw, cntd, incp, cntp, dup, index_row, sel, z_add, z_sub, z_and, z_orr, z_eor, z_bic, lsl_imm, lsr_imm, asr_imm, m_add, m_sub, m_smax, m_umax, m_smin, m_umin, m_mul, m_orr, m_eor, m_and, m_abs, m_neg, m_not, sxtb, uxtb, sxth, uxth, sxtw, uxtw, uaddv, smaxv, umaxv, sminv, uminv, orv, eorv, andv, cmphs, cmphi, cmpge, cmpgt, cmpeq, cmpne, ld1, ldff1, ldnf1, gld1b, gld1h, gld1w, gld1d, gld1sb, gld1sh, gld1sw, st1}
use Rattle.sve_code.specs.declared.Sve.{Sve}
use Rattle.sve_code.specs.declared.Sve.TheVariants as sve
use Rattle.sve_code.specs.declared.PredicateLogicalOp.{PredicateLogicalOp}
use Rattle.sve_code.specs.declared.PredicateLogicalOp.TheVariants as predicate_logical_ops
use Rattle.sve_code.specs.declared.BreakOp.{BreakOp}
use Rattle.sve_code.specs.declared.BreakOp.TheVariants as break_ops
use Rattle.sve_code.specs.declared.ElementCountOp.{ElementCountOp}
use Rattle.sve_code.specs.declared.ElementCountOp.TheVariants as element_count_ops
use Rattle.sve_code.specs.declared.AddSubOp.{AddSubOp}
use Rattle.sve_code.specs.declared.AddSubOp.TheVariants as add_sub_ops
use Rattle.sve_code.specs.declared.BitwiseOp.{BitwiseOp}
use Rattle.sve_code.specs.declared.BitwiseOp.TheVariants as bitwise_ops
use Rattle.sve_code.specs.declared.ShiftImmediateOp.{ShiftImmediateOp}
use Rattle.sve_code.specs.declared.ShiftImmediateOp.TheVariants as shift_immediate_ops
use Rattle.sve_code.specs.declared.BinaryPredicatedOp.{BinaryPredicatedOp}
use Rattle.sve_code.specs.declared.BinaryPredicatedOp.TheVariants as binary_predicated_ops
use Rattle.sve_code.specs.declared.UnaryPredicatedOp.{UnaryPredicatedOp}
use Rattle.sve_code.specs.declared.UnaryPredicatedOp.TheVariants as unary_predicated_ops
use Rattle.sve_code.specs.declared.ExtendOp.{ExtendOp}
use Rattle.sve_code.specs.declared.ExtendOp.TheVariants as extend_ops
use Rattle.sve_code.specs.declared.ReductionOp.{ReductionOp}
use Rattle.sve_code.specs.declared.ReductionOp.TheVariants as reduction_ops
use Rattle.sve_code.specs.declared.VectorCompareOp.{VectorCompareOp}
use Rattle.sve_code.specs.declared.VectorCompareOp.TheVariants as vector_compare_ops
use Rattle.sve_code.specs.declared.GatherOp.{GatherOp}
use Rattle.sve_code.specs.declared.GatherOp.TheVariants as gather_ops

abbrev pub pred_logic_name : PredicateLogicalOp → Name
pred_logic_name predicate_logical_ops.And = p_and
pred_logic_name predicate_logical_ops.Bic = p_bic
pred_logic_name predicate_logical_ops.Eor = p_eor
pred_logic_name predicate_logical_ops.Orr = p_orr
pred_logic_name predicate_logical_ops.Ands = p_ands

abbrev pub break_form_name : BreakOp → Name
break_form_name break_ops.Brka = brka
break_form_name break_ops.Brkb = brkb

abbrev pub count_name : ElementCountOp → Name
count_name element_count_ops.Cntb = cntb
count_name element_count_ops.Cnth = cnth
count_name element_count_ops.Cntw = cntw
count_name element_count_ops.Cntd = cntd

abbrev pub add_sub_name : AddSubOp → Name
add_sub_name add_sub_ops.Add = z_add
add_sub_name add_sub_ops.Sub = z_sub

abbrev pub logic_name : BitwiseOp → Name
logic_name bitwise_ops.And = z_and
logic_name bitwise_ops.Orr = z_orr
logic_name bitwise_ops.Eor = z_eor
logic_name bitwise_ops.Bic = z_bic

abbrev pub shift_imm_name : ShiftImmediateOp → Name
shift_imm_name shift_immediate_ops.Lsl = lsl_imm
shift_imm_name shift_immediate_ops.Lsr = lsr_imm
shift_imm_name shift_immediate_ops.Asr = asr_imm

abbrev pub merging_name : BinaryPredicatedOp → Name
merging_name binary_predicated_ops.Add = m_add
merging_name binary_predicated_ops.Sub = m_sub
merging_name binary_predicated_ops.Smax = m_smax
merging_name binary_predicated_ops.Umax = m_umax
merging_name binary_predicated_ops.Smin = m_smin
merging_name binary_predicated_ops.Umin = m_umin
merging_name binary_predicated_ops.Mul = m_mul
merging_name binary_predicated_ops.Orr = m_orr
merging_name binary_predicated_ops.Eor = m_eor
merging_name binary_predicated_ops.And = m_and

abbrev pub unary_name : UnaryPredicatedOp → Name
unary_name unary_predicated_ops.Abs = m_abs
unary_name unary_predicated_ops.Neg = m_neg
unary_name unary_predicated_ops.Not = m_not

abbrev pub extend_byte_name : ExtendOp → Name
extend_byte_name extend_ops.Signed = sxtb
extend_byte_name extend_ops.Unsigned = uxtb

abbrev pub extend_half_name : ExtendOp → Name
extend_half_name extend_ops.Signed = sxth
extend_half_name extend_ops.Unsigned = uxth

abbrev pub extend_word_name : ExtendOp → Name
extend_word_name extend_ops.Signed = sxtw
extend_word_name extend_ops.Unsigned = uxtw

abbrev pub reduce_name : ReductionOp → Name
reduce_name reduction_ops.Uaddv = uaddv
reduce_name reduction_ops.Smaxv = smaxv
reduce_name reduction_ops.Umaxv = umaxv
reduce_name reduction_ops.Sminv = sminv
reduce_name reduction_ops.Uminv = uminv
reduce_name reduction_ops.Orv = orv
reduce_name reduction_ops.Eorv = eorv
reduce_name reduction_ops.Andv = andv

abbrev pub compare_name : VectorCompareOp → Name
compare_name vector_compare_ops.Hs = cmphs
compare_name vector_compare_ops.Hi = cmphi
compare_name vector_compare_ops.Ge = cmpge
compare_name vector_compare_ops.Gt = cmpgt
compare_name vector_compare_ops.Eq = cmpeq
compare_name vector_compare_ops.Ne = cmpne

abbrev pub load_gather_name : GatherOp → Name
load_gather_name gather_ops.Ld1b = gld1b
load_gather_name gather_ops.Ld1h = gld1h
load_gather_name gather_ops.Ld1w = gld1w
load_gather_name gather_ops.Ld1d = gld1d
load_gather_name gather_ops.Ld1sb = gld1sb
load_gather_name gather_ops.Ld1sh = gld1sh
load_gather_name gather_ops.Ld1sw = gld1sw

abbrev pub instruction_view : Sve → Instruction Name
instruction_view (sve.Ptrue pd size) = record { name = ptrue; numbers = pd.number ∷ size_number size ∷ [] }
instruction_view (sve.Pfalse pd) = record { name = pfalse; numbers = pd.number ∷ [] }
instruction_view (sve.Whilelo pd rn rm size) = record { name = whilelo; numbers = pd.number ∷ rn.number ∷ rm.number ∷ size_number size ∷ [] }
instruction_view (sve.Ptest pn pg) = record { name = ptest; numbers = pn.number ∷ pg.number ∷ [] }
instruction_view (sve.PredicateLogical op pd pn pg pm) = record { name = pred_logic_name op; numbers = pd.number ∷ pn.number ∷ pg.number ∷ pm.number ∷ [] }
instruction_view (sve.Break op pd pn pg) = record { name = break_form_name op; numbers = pd.number ∷ pn.number ∷ pg.number ∷ [] }
instruction_view (sve.Rdffr pd) = record { name = rdffr; numbers = pd.number ∷ [] }
instruction_view (sve.RdffrPredicated pd pg) = record { name = rdffr_z; numbers = pd.number ∷ pg.number ∷ [] }
instruction_view sve.Setffr = record { name = setffr; numbers = [] }
instruction_view (sve.Wrffr pn) = record { name = wrffr; numbers = pn.number ∷ [] }
instruction_view (sve.ElementCount op rd) = record { name = count_name op; numbers = rd.number ∷ [] }
instruction_view (sve.Incp rd pm size) = record { name = incp; numbers = rd.number ∷ pm.number ∷ size_number size ∷ [] }
instruction_view (sve.Cntp rd pn pg size) = record { name = cntp; numbers = rd.number ∷ pn.number ∷ pg.number ∷ size_number size ∷ [] }
instruction_view (sve.DupScalar zd rn size) = record { name = dup; numbers = zd.number ∷ rn.number ∷ size_number size ∷ [] }
instruction_view (sve.IndexScalarImmediate zd rn imm5 size) = record { name = index_row; numbers = zd.number ∷ rn.number ∷ imm5.number ∷ size_number size ∷ [] }
instruction_view (sve.Sel zd zn pg zm size) = record { name = sel; numbers = zd.number ∷ zn.number ∷ pg.number ∷ zm.number ∷ size_number size ∷ [] }
instruction_view (sve.AddSub op zd zn zm size) = record { name = add_sub_name op; numbers = zd.number ∷ zn.number ∷ zm.number ∷ size_number size ∷ [] }
instruction_view (sve.Bitwise op zd zn zm) = record { name = logic_name op; numbers = zd.number ∷ zn.number ∷ zm.number ∷ [] }
instruction_view (sve.ShiftImmediate op zd zn amount) = record { name = shift_imm_name op; numbers = zd.number ∷ zn.number ∷ (amount.value % 8) ∷ (amount.value / 8 % 4) ∷ (amount.value / 32) ∷ [] }
instruction_view (sve.BinaryPredicated op zdn zm pg size) = record { name = merging_name op; numbers = zdn.number ∷ zm.number ∷ pg.number ∷ size_number size ∷ [] }
instruction_view (sve.UnaryPredicated op zd zn pg size) = record { name = unary_name op; numbers = zd.number ∷ zn.number ∷ pg.number ∷ size_number size ∷ [] }
instruction_view (sve.ExtendByte op zd zn pg size) = record { name = extend_byte_name op; numbers = zd.number ∷ zn.number ∷ pg.number ∷ size_from_h_number size ∷ [] }
instruction_view (sve.ExtendHalfword op zd zn pg size) = record { name = extend_half_name op; numbers = zd.number ∷ zn.number ∷ pg.number ∷ size_from_s_number size ∷ [] }
instruction_view (sve.ExtendWord op zd zn pg) = record { name = extend_word_name op; numbers = zd.number ∷ zn.number ∷ pg.number ∷ [] }
instruction_view (sve.Reduction op zd zn pg size) = record { name = reduce_name op; numbers = zd.number ∷ zn.number ∷ pg.number ∷ size_number size ∷ [] }
instruction_view (sve.CompareVectors op pd zn pg zm size) = record { name = compare_name op; numbers = pd.number ∷ zn.number ∷ pg.number ∷ zm.number ∷ size_number size ∷ [] }
instruction_view (sve.ContiguousLoad zt rn pg offset dtype) = record { name = ld1; numbers = zt.number ∷ rn.number ∷ pg.number ∷ offset.number ∷ dtype_number dtype ∷ [] }
instruction_view (sve.FirstFaultLoad zt rn pg rm dtype) = record { name = ldff1; numbers = zt.number ∷ rn.number ∷ pg.number ∷ rm.number ∷ dtype_number dtype ∷ [] }
instruction_view (sve.NonFaultLoad zt rn pg dtype) = record { name = ldnf1; numbers = zt.number ∷ rn.number ∷ pg.number ∷ dtype_number dtype ∷ [] }
instruction_view (sve.GatherLoad op zt rn pg zm) = record { name = load_gather_name op; numbers = zt.number ∷ rn.number ∷ pg.number ∷ zm.number ∷ [] }
instruction_view (sve.ContiguousStore zt rn pg offset sizes) = record { name = st1; numbers = zt.number ∷ rn.number ∷ pg.number ∷ offset.number ∷ size_number sizes.size ∷ size_number sizes.msz ∷ [] }
