-- Two values of `Sve` that contracts see alike are one.
use Rattle.std.proofs.Common.{◌≡◌, ℕ, ◌/◌, ◌%◌, ◌<◌, ◌≤◌, cond, eqb, refl, sym, ap, ◌∙◌, subst, slice_index, arith}
use Rattle.std.proofs.Math.Bridge.{le_prop}
use Rattle.word_rows.specs.Row.{Instruction}
use Rattle.std.proofs.lemmas.Bool.{eqb-false}
use Rattle.word_rows.proofs.FieldNumbers.{same_bits}
use Rattle.sve_code.specs.Table.{Name, ptrue, pfalse, whilelo, ptest, p_and, p_bic, p_eor, p_orr, p_ands, brka, brkb, rdffr, rdffr_z, setffr, wrffr, cntb, cnth, cntw, cntd, incp, cntp, dup, index_row, sel, z_add, z_sub, z_and, z_orr, z_eor, z_bic, lsl_imm, lsr_imm, asr_imm, m_add, m_sub, m_smax, m_umax, m_smin, m_umin, m_mul, m_orr, m_eor, m_and, m_abs, m_neg, m_not, sxtb, uxtb, sxth, uxth, sxtw, uxtw, uaddv, smaxv, umaxv, sminv, uminv, orv, eorv, andv, cmphs, cmphi, cmpge, cmpgt, cmpeq, cmpne, ld1, ldff1, ldnf1, gld1b, gld1h, gld1w, gld1d, gld1sb, gld1sh, gld1sw, st1}
use Rattle.sve_code.specs.Numbers.{size_number, size_from_h_number, size_from_s_number, dtype_number}
use Rattle.sve_code.specs.View.{instruction_view}
use Rattle.sve_code.specs.declared.Sve.{Sve}
use Rattle.sve_code.specs.declared.Sve.TheVariants as sve
use Rattle.sve_code.specs.declared.parts.OffsetReg.{OffsetReg}
use Rattle.sve_code.specs.declared.parts.ShiftAmount.{ShiftAmount}
use Rattle.sve_code.specs.declared.parts.StoreSizes.{StoreSizes}
use Rattle.sve_code.specs.declared.PredicateLogicalOp.{PredicateLogicalOp}
use Rattle.sve_code.specs.declared.PredicateLogicalOp.TheVariants as predicate_logical_ops
use Rattle.sve_code.specs.declared.BreakOp.{BreakOp}
use Rattle.sve_code.specs.declared.BreakOp.TheVariants as break_ops
use Rattle.sve_code.specs.declared.ElementCountOp.{ElementCountOp}
use Rattle.sve_code.specs.declared.ElementCountOp.TheVariants as element_count_ops
use Rattle.sve_code.specs.declared.AddSubOp.{AddSubOp}
use Rattle.sve_code.specs.declared.AddSubOp.TheVariants as add_sub_ops
use Rattle.sve_code.specs.declared.BitwiseOp.{BitwiseOp}
use Rattle.sve_code.specs.declared.BitwiseOp.TheVariants as bitwise_ops
use Rattle.sve_code.specs.declared.ShiftImmediateOp.{ShiftImmediateOp}
use Rattle.sve_code.specs.declared.ShiftImmediateOp.TheVariants as shift_immediate_ops
use Rattle.sve_code.specs.declared.BinaryPredicatedOp.{BinaryPredicatedOp}
use Rattle.sve_code.specs.declared.BinaryPredicatedOp.TheVariants as binary_predicated_ops
use Rattle.sve_code.specs.declared.UnaryPredicatedOp.{UnaryPredicatedOp}
use Rattle.sve_code.specs.declared.UnaryPredicatedOp.TheVariants as unary_predicated_ops
use Rattle.sve_code.specs.declared.ExtendOp.{ExtendOp}
use Rattle.sve_code.specs.declared.ExtendOp.TheVariants as extend_ops
use Rattle.sve_code.specs.declared.ReductionOp.{ReductionOp}
use Rattle.sve_code.specs.declared.ReductionOp.TheVariants as reduction_ops
use Rattle.sve_code.specs.declared.VectorCompareOp.{VectorCompareOp}
use Rattle.sve_code.specs.declared.VectorCompareOp.TheVariants as vector_compare_ops
use Rattle.sve_code.specs.declared.GatherOp.{GatherOp}
use Rattle.sve_code.specs.declared.GatherOp.TheVariants as gather_ops
use Rattle.sve_code.specs.declared.parts.Size.{Size}
use Rattle.sve_code.specs.declared.parts.Size.TheVariants as sizes
use Rattle.sve_code.specs.declared.parts.SizeFromH.{SizeFromH}
use Rattle.sve_code.specs.declared.parts.SizeFromH.TheVariants as sizes_from_h
use Rattle.sve_code.specs.declared.parts.SizeFromS.{SizeFromS}
use Rattle.sve_code.specs.declared.parts.SizeFromS.TheVariants as sizes_from_s
use Rattle.sve_code.specs.declared.parts.Dtype.{Dtype}
use Rattle.sve_code.specs.declared.parts.Dtype.TheVariants as dtypes

size_at : ℕ → Size
size_at n = (cond (eqb n 0) sizes.B (cond (eqb n 1) sizes.H (cond (eqb n 2) sizes.S sizes.D)))

size_again : (x : Size) → size_at (size_number x) ≡ x
unfolding size_at
size_again sizes.B = refl
size_again other = refl

same_size : (x y : Size) → size_number x ≡ size_number y → x ≡ y
same_size x y e = sym (size_again x) ∙ ap size_at e ∙ size_again y

size_from_h_at : ℕ → SizeFromH
size_from_h_at n = (cond (eqb n 1) sizes_from_h.H (cond (eqb n 2) sizes_from_h.S sizes_from_h.D))

size_from_h_again : (x : SizeFromH) → size_from_h_at (size_from_h_number x) ≡ x
unfolding size_from_h_at
size_from_h_again sizes_from_h.H = refl
size_from_h_again other = refl

same_size_from_h : (x y : SizeFromH) → size_from_h_number x ≡ size_from_h_number y → x ≡ y
same_size_from_h x y e = sym (size_from_h_again x) ∙ ap size_from_h_at e ∙ size_from_h_again y

size_from_s_at : ℕ → SizeFromS
size_from_s_at n = (cond (eqb n 2) sizes_from_s.S sizes_from_s.D)

size_from_s_again : (x : SizeFromS) → size_from_s_at (size_from_s_number x) ≡ x
unfolding size_from_s_at
size_from_s_again sizes_from_s.S = refl
size_from_s_again sizes_from_s.D = refl

same_size_from_s : (x y : SizeFromS) → size_from_s_number x ≡ size_from_s_number y → x ≡ y
same_size_from_s x y e = sym (size_from_s_again x) ∙ ap size_from_s_at e ∙ size_from_s_again y

dtype_at : ℕ → Dtype
dtype_at n = (cond (eqb n 0) dtypes.ByteToB (cond (eqb n 1) dtypes.ByteToH (cond (eqb n 2) dtypes.ByteToS (cond (eqb n 3) dtypes.ByteToD (cond (eqb n 4) dtypes.SignedWordToD (cond (eqb n 5) dtypes.HalfwordToH (cond (eqb n 6) dtypes.HalfwordToS (cond (eqb n 7) dtypes.HalfwordToD (cond (eqb n 8) dtypes.SignedHalfwordToD (cond (eqb n 9) dtypes.SignedHalfwordToS (cond (eqb n 10) dtypes.WordToS (cond (eqb n 11) dtypes.WordToD (cond (eqb n 12) dtypes.SignedByteToD (cond (eqb n 13) dtypes.SignedByteToS (cond (eqb n 14) dtypes.SignedByteToH dtypes.DoublewordToD)))))))))))))))

dtype_again : (x : Dtype) → dtype_at (dtype_number x) ≡ x
unfolding dtype_at
dtype_again dtypes.ByteToB = refl
dtype_again other = refl

same_dtype : (x y : Dtype) → dtype_number x ≡ dtype_number y → x ≡ y
same_dtype x y e = sym (dtype_again x) ∙ ap dtype_at e ∙ dtype_again y

same_offset_reg : (a b : OffsetReg) → a.number ≡ b.number → a ≡ b
same_offset_reg a b e =
    let P : ℕ → Type 0 = λ n. (p : n < 31) → a ≡ record { number = n; in_range = p } in
    subst P e (λ p. ap (λ q. record { number = a.number; in_range = q }) (le_prop a.in_range p)) b.in_range

same_shift_amount : (a b : ShiftAmount) → a.value % 8 ≡ b.value % 8 → a.value / 8 % 4 ≡ b.value / 8 % 4 → a.value / 32 ≡ b.value / 32 → a ≡ b
same_shift_amount a b e f g =
    let P : ℕ → Type 0 = λ n. (p : 8 ≤ n) (q : n < 128) → a ≡ record { value = n; least = p; most = q } in
    let value : a.value ≡ b.value = omega arith in
    subst P value (λ p q. ap (λ r. record { value = a.value; least = r; most = a.most }) (le_prop a.least p) ∙ ap (λ r. record { value = a.value; least = p; most = r }) (le_prop a.most q)) b.least b.most

same_store_sizes : (a b : StoreSizes) → size_number a.size ≡ size_number b.size → size_number a.msz ≡ size_number b.msz → a ≡ b
same_store_sizes a b e f =
    let P : Size → Type 0 = λ m. (p : size_number m ≤ size_number a.size) → a ≡ record { msz = m; size = a.size; in_range = p } in
    let Q : Size → Type 0 = λ x. (p : size_number b.msz ≤ size_number x) → a ≡ record { msz = b.msz; size = x; in_range = p } in
    subst Q (same_size a.size b.size e) (subst P (same_size a.msz b.msz f) (λ p. ap (λ r. record { msz = a.msz; size = a.size; in_range = r }) (le_prop a.in_range p))) b.in_range

-- the form of an instruction, with what is done in it
data Form : Type 0 where
  Ptrue : Form
  Pfalse : Form
  Whilelo : Form
  Ptest : Form
  PredicateLogical : PredicateLogicalOp → Form
  Break : BreakOp → Form
  Rdffr : Form
  RdffrPredicated : Form
  Setffr : Form
  Wrffr : Form
  ElementCount : ElementCountOp → Form
  Incp : Form
  Cntp : Form
  DupScalar : Form
  IndexScalarImmediate : Form
  Sel : Form
  AddSub : AddSubOp → Form
  Bitwise : BitwiseOp → Form
  ShiftImmediate : ShiftImmediateOp → Form
  BinaryPredicated : BinaryPredicatedOp → Form
  UnaryPredicated : UnaryPredicatedOp → Form
  ExtendByte : ExtendOp → Form
  ExtendHalfword : ExtendOp → Form
  ExtendWord : ExtendOp → Form
  Reduction : ReductionOp → Form
  CompareVectors : VectorCompareOp → Form
  ContiguousLoad : Form
  FirstFaultLoad : Form
  NonFaultLoad : Form
  GatherLoad : GatherOp → Form
  ContiguousStore : Form

form_of : Name → Form
form_of ptrue = Ptrue
form_of pfalse = Pfalse
form_of whilelo = Whilelo
form_of ptest = Ptest
form_of p_and = PredicateLogical predicate_logical_ops.And
form_of p_bic = PredicateLogical predicate_logical_ops.Bic
form_of p_eor = PredicateLogical predicate_logical_ops.Eor
form_of p_orr = PredicateLogical predicate_logical_ops.Orr
form_of p_ands = PredicateLogical predicate_logical_ops.Ands
form_of brka = Break break_ops.Brka
form_of brkb = Break break_ops.Brkb
form_of rdffr = Rdffr
form_of rdffr_z = RdffrPredicated
form_of setffr = Setffr
form_of wrffr = Wrffr
form_of cntb = ElementCount element_count_ops.Cntb
form_of cnth = ElementCount element_count_ops.Cnth
form_of cntw = ElementCount element_count_ops.Cntw
form_of cntd = ElementCount element_count_ops.Cntd
form_of incp = Incp
form_of cntp = Cntp
form_of dup = DupScalar
form_of index_row = IndexScalarImmediate
form_of sel = Sel
form_of z_add = AddSub add_sub_ops.Add
form_of z_sub = AddSub add_sub_ops.Sub
form_of z_and = Bitwise bitwise_ops.And
form_of z_orr = Bitwise bitwise_ops.Orr
form_of z_eor = Bitwise bitwise_ops.Eor
form_of z_bic = Bitwise bitwise_ops.Bic
form_of lsl_imm = ShiftImmediate shift_immediate_ops.Lsl
form_of lsr_imm = ShiftImmediate shift_immediate_ops.Lsr
form_of asr_imm = ShiftImmediate shift_immediate_ops.Asr
form_of m_add = BinaryPredicated binary_predicated_ops.Add
form_of m_sub = BinaryPredicated binary_predicated_ops.Sub
form_of m_smax = BinaryPredicated binary_predicated_ops.Smax
form_of m_umax = BinaryPredicated binary_predicated_ops.Umax
form_of m_smin = BinaryPredicated binary_predicated_ops.Smin
form_of m_umin = BinaryPredicated binary_predicated_ops.Umin
form_of m_mul = BinaryPredicated binary_predicated_ops.Mul
form_of m_orr = BinaryPredicated binary_predicated_ops.Orr
form_of m_eor = BinaryPredicated binary_predicated_ops.Eor
form_of m_and = BinaryPredicated binary_predicated_ops.And
form_of m_abs = UnaryPredicated unary_predicated_ops.Abs
form_of m_neg = UnaryPredicated unary_predicated_ops.Neg
form_of m_not = UnaryPredicated unary_predicated_ops.Not
form_of sxtb = ExtendByte extend_ops.Signed
form_of uxtb = ExtendByte extend_ops.Unsigned
form_of sxth = ExtendHalfword extend_ops.Signed
form_of uxth = ExtendHalfword extend_ops.Unsigned
form_of sxtw = ExtendWord extend_ops.Signed
form_of uxtw = ExtendWord extend_ops.Unsigned
form_of uaddv = Reduction reduction_ops.Uaddv
form_of smaxv = Reduction reduction_ops.Smaxv
form_of umaxv = Reduction reduction_ops.Umaxv
form_of sminv = Reduction reduction_ops.Sminv
form_of uminv = Reduction reduction_ops.Uminv
form_of orv = Reduction reduction_ops.Orv
form_of eorv = Reduction reduction_ops.Eorv
form_of andv = Reduction reduction_ops.Andv
form_of cmphs = CompareVectors vector_compare_ops.Hs
form_of cmphi = CompareVectors vector_compare_ops.Hi
form_of cmpge = CompareVectors vector_compare_ops.Ge
form_of cmpgt = CompareVectors vector_compare_ops.Gt
form_of cmpeq = CompareVectors vector_compare_ops.Eq
form_of cmpne = CompareVectors vector_compare_ops.Ne
form_of ld1 = ContiguousLoad
form_of ldff1 = FirstFaultLoad
form_of ldnf1 = NonFaultLoad
form_of gld1b = GatherLoad gather_ops.Ld1b
form_of gld1h = GatherLoad gather_ops.Ld1h
form_of gld1w = GatherLoad gather_ops.Ld1w
form_of gld1d = GatherLoad gather_ops.Ld1d
form_of gld1sb = GatherLoad gather_ops.Ld1sb
form_of gld1sh = GatherLoad gather_ops.Ld1sh
form_of gld1sw = GatherLoad gather_ops.Ld1sw
form_of st1 = ContiguousStore

form : Sve → Form
form (sve.Ptrue pd size) = Ptrue
form (sve.Pfalse pd) = Pfalse
form (sve.Whilelo pd rn rm size) = Whilelo
form (sve.Ptest pn pg) = Ptest
form (sve.PredicateLogical op pd pn pg pm) = PredicateLogical op
form (sve.Break op pd pn pg) = Break op
form (sve.Rdffr pd) = Rdffr
form (sve.RdffrPredicated pd pg) = RdffrPredicated
form sve.Setffr = Setffr
form (sve.Wrffr pn) = Wrffr
form (sve.ElementCount op rd) = ElementCount op
form (sve.Incp rd pm size) = Incp
form (sve.Cntp rd pn pg size) = Cntp
form (sve.DupScalar zd rn size) = DupScalar
form (sve.IndexScalarImmediate zd rn imm5 size) = IndexScalarImmediate
form (sve.Sel zd zn pg zm size) = Sel
form (sve.AddSub op zd zn zm size) = AddSub op
form (sve.Bitwise op zd zn zm) = Bitwise op
form (sve.ShiftImmediate op zd zn amount) = ShiftImmediate op
form (sve.BinaryPredicated op zdn zm pg size) = BinaryPredicated op
form (sve.UnaryPredicated op zd zn pg size) = UnaryPredicated op
form (sve.ExtendByte op zd zn pg size) = ExtendByte op
form (sve.ExtendHalfword op zd zn pg size) = ExtendHalfword op
form (sve.ExtendWord op zd zn pg) = ExtendWord op
form (sve.Reduction op zd zn pg size) = Reduction op
form (sve.CompareVectors op pd zn pg zm size) = CompareVectors op
form (sve.ContiguousLoad zt rn pg offset dtype) = ContiguousLoad
form (sve.FirstFaultLoad zt rn pg rm dtype) = FirstFaultLoad
form (sve.NonFaultLoad zt rn pg dtype) = NonFaultLoad
form (sve.GatherLoad op zt rn pg zm) = GatherLoad op
form (sve.ContiguousStore zt rn pg offset sizes) = ContiguousStore

number : Form → ℕ
number Ptrue = 0
number Pfalse = 1
number Whilelo = 2
number Ptest = 3
number (PredicateLogical op) = 4
number (Break op) = 5
number Rdffr = 6
number RdffrPredicated = 7
number Setffr = 8
number Wrffr = 9
number (ElementCount op) = 10
number Incp = 11
number Cntp = 12
number DupScalar = 13
number IndexScalarImmediate = 14
number Sel = 15
number (AddSub op) = 16
number (Bitwise op) = 17
number (ShiftImmediate op) = 18
number (BinaryPredicated op) = 19
number (UnaryPredicated op) = 20
number (ExtendByte op) = 21
number (ExtendHalfword op) = 22
number (ExtendWord op) = 23
number (Reduction op) = 24
number (CompareVectors op) = 25
number ContiguousLoad = 26
number FirstFaultLoad = 27
number NonFaultLoad = 28
number (GatherLoad op) = 30
number ContiguousStore = 29

form_view : (x : Sve) → form_of (instruction_view x).name ≡ form x
unfolding form_of form
form_view (sve.PredicateLogical predicate_logical_ops.And pd pn pg pm) = refl
form_view (sve.Break break_ops.Brka pd pn pg) = refl
form_view (sve.ElementCount element_count_ops.Cntb rd) = refl
form_view (sve.AddSub add_sub_ops.Add zd zn zm size) = refl
form_view (sve.Bitwise bitwise_ops.And zd zn zm) = refl
form_view (sve.ShiftImmediate shift_immediate_ops.Lsl zd zn amount) = refl
form_view (sve.BinaryPredicated binary_predicated_ops.Add zdn zm pg size) = refl
form_view (sve.UnaryPredicated unary_predicated_ops.Abs zd zn pg size) = refl
form_view (sve.ExtendByte extend_ops.Signed zd zn pg size) = refl
form_view (sve.ExtendHalfword extend_ops.Signed zd zn pg size) = refl
form_view (sve.ExtendWord extend_ops.Signed zd zn pg) = refl
form_view (sve.Reduction reduction_ops.Uaddv zd zn pg size) = refl
form_view (sve.CompareVectors vector_compare_ops.Hs pd zn pg zm size) = refl
form_view (sve.GatherLoad gather_ops.Ld1b zt rn pg zm) = refl
form_view other = refl

equal_forms_of_equal_views : (x y : Sve) → instruction_view x ≡ instruction_view y → form x ≡ form y
equal_forms_of_equal_views x y e = sym (form_view x) ∙ ap (λ (i : Instruction Name). form_of i.name) e ∙ form_view y

pub equal_of_equal_views : (x y : Sve) → instruction_view x ≡ instruction_view y → x ≡ y
unfolding form number
equal_of_equal_views (sve.Ptrue pd size) (sve.Ptrue pd' size') e = let at_pd : pd ≡ pd' = same_bits pd pd' (ap (λ (i : Instruction Name). slice_index i.numbers 0) e) in let at_size : size ≡ size' = same_size size size' (ap (λ (i : Instruction Name). slice_index i.numbers 1) e) in cc
equal_of_equal_views (sve.Pfalse pd) (sve.Pfalse pd') e = let at_pd : pd ≡ pd' = same_bits pd pd' (ap (λ (i : Instruction Name). slice_index i.numbers 0) e) in cc
equal_of_equal_views (sve.Whilelo pd rn rm size) (sve.Whilelo pd' rn' rm' size') e = let at_pd : pd ≡ pd' = same_bits pd pd' (ap (λ (i : Instruction Name). slice_index i.numbers 0) e) in let at_rn : rn ≡ rn' = same_bits rn rn' (ap (λ (i : Instruction Name). slice_index i.numbers 1) e) in let at_rm : rm ≡ rm' = same_bits rm rm' (ap (λ (i : Instruction Name). slice_index i.numbers 2) e) in let at_size : size ≡ size' = same_size size size' (ap (λ (i : Instruction Name). slice_index i.numbers 3) e) in cc
equal_of_equal_views (sve.Ptest pn pg) (sve.Ptest pn' pg') e = let at_pn : pn ≡ pn' = same_bits pn pn' (ap (λ (i : Instruction Name). slice_index i.numbers 0) e) in let at_pg : pg ≡ pg' = same_bits pg pg' (ap (λ (i : Instruction Name). slice_index i.numbers 1) e) in cc
equal_of_equal_views (sve.PredicateLogical op pd pn pg pm) (sve.PredicateLogical op' pd' pn' pg' pm') e = let f : PredicateLogical op ≡ PredicateLogical op' = equal_forms_of_equal_views (sve.PredicateLogical op pd pn pg pm) (sve.PredicateLogical op' pd' pn' pg' pm') e in let at_op : op ≡ op' = cc in let at_pd : pd ≡ pd' = same_bits pd pd' (ap (λ (i : Instruction Name). slice_index i.numbers 0) e) in let at_pn : pn ≡ pn' = same_bits pn pn' (ap (λ (i : Instruction Name). slice_index i.numbers 1) e) in let at_pg : pg ≡ pg' = same_bits pg pg' (ap (λ (i : Instruction Name). slice_index i.numbers 2) e) in let at_pm : pm ≡ pm' = same_bits pm pm' (ap (λ (i : Instruction Name). slice_index i.numbers 3) e) in cc
equal_of_equal_views (sve.Break op pd pn pg) (sve.Break op' pd' pn' pg') e = let f : Break op ≡ Break op' = equal_forms_of_equal_views (sve.Break op pd pn pg) (sve.Break op' pd' pn' pg') e in let at_op : op ≡ op' = cc in let at_pd : pd ≡ pd' = same_bits pd pd' (ap (λ (i : Instruction Name). slice_index i.numbers 0) e) in let at_pn : pn ≡ pn' = same_bits pn pn' (ap (λ (i : Instruction Name). slice_index i.numbers 1) e) in let at_pg : pg ≡ pg' = same_bits pg pg' (ap (λ (i : Instruction Name). slice_index i.numbers 2) e) in cc
equal_of_equal_views (sve.Rdffr pd) (sve.Rdffr pd') e = let at_pd : pd ≡ pd' = same_bits pd pd' (ap (λ (i : Instruction Name). slice_index i.numbers 0) e) in cc
equal_of_equal_views (sve.RdffrPredicated pd pg) (sve.RdffrPredicated pd' pg') e = let at_pd : pd ≡ pd' = same_bits pd pd' (ap (λ (i : Instruction Name). slice_index i.numbers 0) e) in let at_pg : pg ≡ pg' = same_bits pg pg' (ap (λ (i : Instruction Name). slice_index i.numbers 1) e) in cc
equal_of_equal_views sve.Setffr sve.Setffr e = refl
equal_of_equal_views (sve.Wrffr pn) (sve.Wrffr pn') e = let at_pn : pn ≡ pn' = same_bits pn pn' (ap (λ (i : Instruction Name). slice_index i.numbers 0) e) in cc
equal_of_equal_views (sve.ElementCount op rd) (sve.ElementCount op' rd') e = let f : ElementCount op ≡ ElementCount op' = equal_forms_of_equal_views (sve.ElementCount op rd) (sve.ElementCount op' rd') e in let at_op : op ≡ op' = cc in let at_rd : rd ≡ rd' = same_bits rd rd' (ap (λ (i : Instruction Name). slice_index i.numbers 0) e) in cc
equal_of_equal_views (sve.Incp rd pm size) (sve.Incp rd' pm' size') e = let at_rd : rd ≡ rd' = same_bits rd rd' (ap (λ (i : Instruction Name). slice_index i.numbers 0) e) in let at_pm : pm ≡ pm' = same_bits pm pm' (ap (λ (i : Instruction Name). slice_index i.numbers 1) e) in let at_size : size ≡ size' = same_size size size' (ap (λ (i : Instruction Name). slice_index i.numbers 2) e) in cc
equal_of_equal_views (sve.Cntp rd pn pg size) (sve.Cntp rd' pn' pg' size') e = let at_rd : rd ≡ rd' = same_bits rd rd' (ap (λ (i : Instruction Name). slice_index i.numbers 0) e) in let at_pn : pn ≡ pn' = same_bits pn pn' (ap (λ (i : Instruction Name). slice_index i.numbers 1) e) in let at_pg : pg ≡ pg' = same_bits pg pg' (ap (λ (i : Instruction Name). slice_index i.numbers 2) e) in let at_size : size ≡ size' = same_size size size' (ap (λ (i : Instruction Name). slice_index i.numbers 3) e) in cc
equal_of_equal_views (sve.DupScalar zd rn size) (sve.DupScalar zd' rn' size') e = let at_zd : zd ≡ zd' = same_bits zd zd' (ap (λ (i : Instruction Name). slice_index i.numbers 0) e) in let at_rn : rn ≡ rn' = same_bits rn rn' (ap (λ (i : Instruction Name). slice_index i.numbers 1) e) in let at_size : size ≡ size' = same_size size size' (ap (λ (i : Instruction Name). slice_index i.numbers 2) e) in cc
equal_of_equal_views (sve.IndexScalarImmediate zd rn imm5 size) (sve.IndexScalarImmediate zd' rn' imm5' size') e = let at_zd : zd ≡ zd' = same_bits zd zd' (ap (λ (i : Instruction Name). slice_index i.numbers 0) e) in let at_rn : rn ≡ rn' = same_bits rn rn' (ap (λ (i : Instruction Name). slice_index i.numbers 1) e) in let at_imm5 : imm5 ≡ imm5' = same_bits imm5 imm5' (ap (λ (i : Instruction Name). slice_index i.numbers 2) e) in let at_size : size ≡ size' = same_size size size' (ap (λ (i : Instruction Name). slice_index i.numbers 3) e) in cc
equal_of_equal_views (sve.Sel zd zn pg zm size) (sve.Sel zd' zn' pg' zm' size') e = let at_zd : zd ≡ zd' = same_bits zd zd' (ap (λ (i : Instruction Name). slice_index i.numbers 0) e) in let at_zn : zn ≡ zn' = same_bits zn zn' (ap (λ (i : Instruction Name). slice_index i.numbers 1) e) in let at_pg : pg ≡ pg' = same_bits pg pg' (ap (λ (i : Instruction Name). slice_index i.numbers 2) e) in let at_zm : zm ≡ zm' = same_bits zm zm' (ap (λ (i : Instruction Name). slice_index i.numbers 3) e) in let at_size : size ≡ size' = same_size size size' (ap (λ (i : Instruction Name). slice_index i.numbers 4) e) in cc
equal_of_equal_views (sve.AddSub op zd zn zm size) (sve.AddSub op' zd' zn' zm' size') e = let f : AddSub op ≡ AddSub op' = equal_forms_of_equal_views (sve.AddSub op zd zn zm size) (sve.AddSub op' zd' zn' zm' size') e in let at_op : op ≡ op' = cc in let at_zd : zd ≡ zd' = same_bits zd zd' (ap (λ (i : Instruction Name). slice_index i.numbers 0) e) in let at_zn : zn ≡ zn' = same_bits zn zn' (ap (λ (i : Instruction Name). slice_index i.numbers 1) e) in let at_zm : zm ≡ zm' = same_bits zm zm' (ap (λ (i : Instruction Name). slice_index i.numbers 2) e) in let at_size : size ≡ size' = same_size size size' (ap (λ (i : Instruction Name). slice_index i.numbers 3) e) in cc
equal_of_equal_views (sve.Bitwise op zd zn zm) (sve.Bitwise op' zd' zn' zm') e = let f : Bitwise op ≡ Bitwise op' = equal_forms_of_equal_views (sve.Bitwise op zd zn zm) (sve.Bitwise op' zd' zn' zm') e in let at_op : op ≡ op' = cc in let at_zd : zd ≡ zd' = same_bits zd zd' (ap (λ (i : Instruction Name). slice_index i.numbers 0) e) in let at_zn : zn ≡ zn' = same_bits zn zn' (ap (λ (i : Instruction Name). slice_index i.numbers 1) e) in let at_zm : zm ≡ zm' = same_bits zm zm' (ap (λ (i : Instruction Name). slice_index i.numbers 2) e) in cc
equal_of_equal_views (sve.ShiftImmediate op zd zn amount) (sve.ShiftImmediate op' zd' zn' amount') e = let f : ShiftImmediate op ≡ ShiftImmediate op' = equal_forms_of_equal_views (sve.ShiftImmediate op zd zn amount) (sve.ShiftImmediate op' zd' zn' amount') e in let at_op : op ≡ op' = cc in let at_zd : zd ≡ zd' = same_bits zd zd' (ap (λ (i : Instruction Name). slice_index i.numbers 0) e) in let at_zn : zn ≡ zn' = same_bits zn zn' (ap (λ (i : Instruction Name). slice_index i.numbers 1) e) in let at_amount : amount ≡ amount' = same_shift_amount amount amount' (ap (λ (i : Instruction Name). slice_index i.numbers 2) e) (ap (λ (i : Instruction Name). slice_index i.numbers 3) e) (ap (λ (i : Instruction Name). slice_index i.numbers 4) e) in cc
equal_of_equal_views (sve.BinaryPredicated op zdn zm pg size) (sve.BinaryPredicated op' zdn' zm' pg' size') e = let f : BinaryPredicated op ≡ BinaryPredicated op' = equal_forms_of_equal_views (sve.BinaryPredicated op zdn zm pg size) (sve.BinaryPredicated op' zdn' zm' pg' size') e in let at_op : op ≡ op' = cc in let at_zdn : zdn ≡ zdn' = same_bits zdn zdn' (ap (λ (i : Instruction Name). slice_index i.numbers 0) e) in let at_zm : zm ≡ zm' = same_bits zm zm' (ap (λ (i : Instruction Name). slice_index i.numbers 1) e) in let at_pg : pg ≡ pg' = same_bits pg pg' (ap (λ (i : Instruction Name). slice_index i.numbers 2) e) in let at_size : size ≡ size' = same_size size size' (ap (λ (i : Instruction Name). slice_index i.numbers 3) e) in cc
equal_of_equal_views (sve.UnaryPredicated op zd zn pg size) (sve.UnaryPredicated op' zd' zn' pg' size') e = let f : UnaryPredicated op ≡ UnaryPredicated op' = equal_forms_of_equal_views (sve.UnaryPredicated op zd zn pg size) (sve.UnaryPredicated op' zd' zn' pg' size') e in let at_op : op ≡ op' = cc in let at_zd : zd ≡ zd' = same_bits zd zd' (ap (λ (i : Instruction Name). slice_index i.numbers 0) e) in let at_zn : zn ≡ zn' = same_bits zn zn' (ap (λ (i : Instruction Name). slice_index i.numbers 1) e) in let at_pg : pg ≡ pg' = same_bits pg pg' (ap (λ (i : Instruction Name). slice_index i.numbers 2) e) in let at_size : size ≡ size' = same_size size size' (ap (λ (i : Instruction Name). slice_index i.numbers 3) e) in cc
equal_of_equal_views (sve.ExtendByte op zd zn pg size) (sve.ExtendByte op' zd' zn' pg' size') e = let f : ExtendByte op ≡ ExtendByte op' = equal_forms_of_equal_views (sve.ExtendByte op zd zn pg size) (sve.ExtendByte op' zd' zn' pg' size') e in let at_op : op ≡ op' = cc in let at_zd : zd ≡ zd' = same_bits zd zd' (ap (λ (i : Instruction Name). slice_index i.numbers 0) e) in let at_zn : zn ≡ zn' = same_bits zn zn' (ap (λ (i : Instruction Name). slice_index i.numbers 1) e) in let at_pg : pg ≡ pg' = same_bits pg pg' (ap (λ (i : Instruction Name). slice_index i.numbers 2) e) in let at_size : size ≡ size' = same_size_from_h size size' (ap (λ (i : Instruction Name). slice_index i.numbers 3) e) in cc
equal_of_equal_views (sve.ExtendHalfword op zd zn pg size) (sve.ExtendHalfword op' zd' zn' pg' size') e = let f : ExtendHalfword op ≡ ExtendHalfword op' = equal_forms_of_equal_views (sve.ExtendHalfword op zd zn pg size) (sve.ExtendHalfword op' zd' zn' pg' size') e in let at_op : op ≡ op' = cc in let at_zd : zd ≡ zd' = same_bits zd zd' (ap (λ (i : Instruction Name). slice_index i.numbers 0) e) in let at_zn : zn ≡ zn' = same_bits zn zn' (ap (λ (i : Instruction Name). slice_index i.numbers 1) e) in let at_pg : pg ≡ pg' = same_bits pg pg' (ap (λ (i : Instruction Name). slice_index i.numbers 2) e) in let at_size : size ≡ size' = same_size_from_s size size' (ap (λ (i : Instruction Name). slice_index i.numbers 3) e) in cc
equal_of_equal_views (sve.ExtendWord op zd zn pg) (sve.ExtendWord op' zd' zn' pg') e = let f : ExtendWord op ≡ ExtendWord op' = equal_forms_of_equal_views (sve.ExtendWord op zd zn pg) (sve.ExtendWord op' zd' zn' pg') e in let at_op : op ≡ op' = cc in let at_zd : zd ≡ zd' = same_bits zd zd' (ap (λ (i : Instruction Name). slice_index i.numbers 0) e) in let at_zn : zn ≡ zn' = same_bits zn zn' (ap (λ (i : Instruction Name). slice_index i.numbers 1) e) in let at_pg : pg ≡ pg' = same_bits pg pg' (ap (λ (i : Instruction Name). slice_index i.numbers 2) e) in cc
equal_of_equal_views (sve.Reduction op zd zn pg size) (sve.Reduction op' zd' zn' pg' size') e = let f : Reduction op ≡ Reduction op' = equal_forms_of_equal_views (sve.Reduction op zd zn pg size) (sve.Reduction op' zd' zn' pg' size') e in let at_op : op ≡ op' = cc in let at_zd : zd ≡ zd' = same_bits zd zd' (ap (λ (i : Instruction Name). slice_index i.numbers 0) e) in let at_zn : zn ≡ zn' = same_bits zn zn' (ap (λ (i : Instruction Name). slice_index i.numbers 1) e) in let at_pg : pg ≡ pg' = same_bits pg pg' (ap (λ (i : Instruction Name). slice_index i.numbers 2) e) in let at_size : size ≡ size' = same_size size size' (ap (λ (i : Instruction Name). slice_index i.numbers 3) e) in cc
equal_of_equal_views (sve.CompareVectors op pd zn pg zm size) (sve.CompareVectors op' pd' zn' pg' zm' size') e = let f : CompareVectors op ≡ CompareVectors op' = equal_forms_of_equal_views (sve.CompareVectors op pd zn pg zm size) (sve.CompareVectors op' pd' zn' pg' zm' size') e in let at_op : op ≡ op' = cc in let at_pd : pd ≡ pd' = same_bits pd pd' (ap (λ (i : Instruction Name). slice_index i.numbers 0) e) in let at_zn : zn ≡ zn' = same_bits zn zn' (ap (λ (i : Instruction Name). slice_index i.numbers 1) e) in let at_pg : pg ≡ pg' = same_bits pg pg' (ap (λ (i : Instruction Name). slice_index i.numbers 2) e) in let at_zm : zm ≡ zm' = same_bits zm zm' (ap (λ (i : Instruction Name). slice_index i.numbers 3) e) in let at_size : size ≡ size' = same_size size size' (ap (λ (i : Instruction Name). slice_index i.numbers 4) e) in cc
equal_of_equal_views (sve.ContiguousLoad zt rn pg offset dtype) (sve.ContiguousLoad zt' rn' pg' offset' dtype') e = let at_zt : zt ≡ zt' = same_bits zt zt' (ap (λ (i : Instruction Name). slice_index i.numbers 0) e) in let at_rn : rn ≡ rn' = same_bits rn rn' (ap (λ (i : Instruction Name). slice_index i.numbers 1) e) in let at_pg : pg ≡ pg' = same_bits pg pg' (ap (λ (i : Instruction Name). slice_index i.numbers 2) e) in let at_offset : offset ≡ offset' = same_offset_reg offset offset' (ap (λ (i : Instruction Name). slice_index i.numbers 3) e) in let at_dtype : dtype ≡ dtype' = same_dtype dtype dtype' (ap (λ (i : Instruction Name). slice_index i.numbers 4) e) in cc
equal_of_equal_views (sve.FirstFaultLoad zt rn pg rm dtype) (sve.FirstFaultLoad zt' rn' pg' rm' dtype') e = let at_zt : zt ≡ zt' = same_bits zt zt' (ap (λ (i : Instruction Name). slice_index i.numbers 0) e) in let at_rn : rn ≡ rn' = same_bits rn rn' (ap (λ (i : Instruction Name). slice_index i.numbers 1) e) in let at_pg : pg ≡ pg' = same_bits pg pg' (ap (λ (i : Instruction Name). slice_index i.numbers 2) e) in let at_rm : rm ≡ rm' = same_bits rm rm' (ap (λ (i : Instruction Name). slice_index i.numbers 3) e) in let at_dtype : dtype ≡ dtype' = same_dtype dtype dtype' (ap (λ (i : Instruction Name). slice_index i.numbers 4) e) in cc
equal_of_equal_views (sve.NonFaultLoad zt rn pg dtype) (sve.NonFaultLoad zt' rn' pg' dtype') e = let at_zt : zt ≡ zt' = same_bits zt zt' (ap (λ (i : Instruction Name). slice_index i.numbers 0) e) in let at_rn : rn ≡ rn' = same_bits rn rn' (ap (λ (i : Instruction Name). slice_index i.numbers 1) e) in let at_pg : pg ≡ pg' = same_bits pg pg' (ap (λ (i : Instruction Name). slice_index i.numbers 2) e) in let at_dtype : dtype ≡ dtype' = same_dtype dtype dtype' (ap (λ (i : Instruction Name). slice_index i.numbers 3) e) in cc
equal_of_equal_views (sve.GatherLoad op zt rn pg zm) (sve.GatherLoad op' zt' rn' pg' zm') e = let f : GatherLoad op ≡ GatherLoad op' = equal_forms_of_equal_views (sve.GatherLoad op zt rn pg zm) (sve.GatherLoad op' zt' rn' pg' zm') e in let at_op : op ≡ op' = cc in let at_zt : zt ≡ zt' = same_bits zt zt' (ap (λ (i : Instruction Name). slice_index i.numbers 0) e) in let at_rn : rn ≡ rn' = same_bits rn rn' (ap (λ (i : Instruction Name). slice_index i.numbers 1) e) in let at_pg : pg ≡ pg' = same_bits pg pg' (ap (λ (i : Instruction Name). slice_index i.numbers 2) e) in let at_zm : zm ≡ zm' = same_bits zm zm' (ap (λ (i : Instruction Name). slice_index i.numbers 3) e) in cc
equal_of_equal_views (sve.ContiguousStore zt rn pg offset sizes) (sve.ContiguousStore zt' rn' pg' offset' sizes') e = let at_zt : zt ≡ zt' = same_bits zt zt' (ap (λ (i : Instruction Name). slice_index i.numbers 0) e) in let at_rn : rn ≡ rn' = same_bits rn rn' (ap (λ (i : Instruction Name). slice_index i.numbers 1) e) in let at_pg : pg ≡ pg' = same_bits pg pg' (ap (λ (i : Instruction Name). slice_index i.numbers 2) e) in let at_offset : offset ≡ offset' = same_offset_reg offset offset' (ap (λ (i : Instruction Name). slice_index i.numbers 3) e) in let at_sizes : sizes ≡ sizes' = same_store_sizes sizes sizes' (ap (λ (i : Instruction Name). slice_index i.numbers 4) e) (ap (λ (i : Instruction Name). slice_index i.numbers 5) e) in cc
equal_of_equal_views x y e = absurd (eqb-false (number (form x)) (number (form y)) refl (ap number (equal_forms_of_equal_views x y e)))
