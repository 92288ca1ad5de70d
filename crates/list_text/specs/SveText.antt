-- The text of an SVE instruction, by its row and the numbers of the row's fields, lowest field first: the assembly syntax of
-- Arm DDI 0487, chapter C8, without aliases.
use Rattle.std.specs.Prelude.{ℕ, ◌+◌, ◌*◌, ◌==◌, if◌then◌else◌, List, [], ◌++◌, codes, decimal, slice_index}
use Rattle.word_rows.specs.Row.{Instruction}
use Rattle.sve_code.specs.Numbers.{memory_size, element_size, is_signed, shift_size, left_amount, right_amount}
use Rattle.sve_code.specs.Table.{Name, ptrue, pfalse, whilelo, ptest, p_and, p_bic, p_eor, p_orr, p_ands, brka, brkb, rdffr, rdffr_z, setffr, wrffr, cntb, cnth, cntw, cntd, incp, cntp, dup, index_row, sel, z_add, z_sub, z_and, z_orr, z_eor, z_bic, lsl_imm, lsr_imm, asr_imm, m_add, m_sub, m_smax, m_umax, m_smin, m_umin, m_mul, m_orr, m_eor, m_and, m_abs, m_neg, m_not, sxtb, uxtb, sxth, uxth, sxtw, uxtw, uaddv, smaxv, umaxv, sminv, uminv, orv, eorv, andv, cmphs, cmphi, cmpge, cmpgt, cmpeq, cmpne, ld1, ldff1, ldnf1, gld1b, gld1h, gld1w, gld1d, gld1sb, gld1sh, gld1sw, st1}
use Rattle.list_text.specs.Parts.{x_register, w_register, x_or_sp, w_or_sp, comma, constant, signed_constant, at_offset, at_register, at_vector, size_letter, dotted, z_register, p_register, access_letter}

-- of pd, pn, pg, pm
abbrev pub predicate_logical : List ℕ → List ℕ → List ℕ
predicate_logical mnemonic ns =
    mnemonic ++ p_register (slice_index ns 0) ++ codes ".b, " ++ p_register (slice_index ns 2) ++ codes "/z, " ++ p_register (slice_index ns 1) ++ codes ".b, " ++ p_register (slice_index ns 3) ++ codes ".b"

-- of pd, pn, pg
abbrev pub break_at : List ℕ → List ℕ → List ℕ
break_at mnemonic ns =
    mnemonic ++ p_register (slice_index ns 0) ++ codes ".b, " ++ p_register (slice_index ns 2) ++ codes "/z, " ++ p_register (slice_index ns 1) ++ codes ".b"

-- of rd
abbrev pub element_count : List ℕ → List ℕ → List ℕ
element_count mnemonic ns =
    mnemonic ++ x_register (slice_index ns 0)

-- of zd, zn, zm, size
abbrev pub vectors : List ℕ → List ℕ → List ℕ
vectors mnemonic ns =
    mnemonic ++ z_register (slice_index ns 3) (slice_index ns 0) ++ comma ++ z_register (slice_index ns 3) (slice_index ns 1) ++ comma ++ z_register (slice_index ns 3) (slice_index ns 2)

-- of zd, zn, zm
abbrev pub bitwise : List ℕ → List ℕ → List ℕ
bitwise mnemonic ns =
    mnemonic ++ z_register 3 (slice_index ns 0) ++ comma ++ z_register 3 (slice_index ns 1) ++ comma ++ z_register 3 (slice_index ns 2)

-- tszh:tszl:imm3, of zd, zn, imm3, tszl, tszh
abbrev pub shift_value : List ℕ → ℕ
shift_value ns = 32 * slice_index ns 4 + 8 * slice_index ns 3 + slice_index ns 2

-- a shift of vector zn to zd by `amount` of this value
abbrev pub shift_text : List ℕ → (ℕ → ℕ) → ℕ → ℕ → ℕ → List ℕ
shift_text mnemonic amount zd zn value =
    mnemonic ++ z_register (shift_size value) zd ++ comma ++ z_register (shift_size value) zn ++ comma ++ constant (amount value)

-- of zd, zn, imm3, tszl, tszh
abbrev pub shift_immediate : List ℕ → (ℕ → ℕ) → List ℕ → List ℕ
shift_immediate mnemonic amount ns = shift_text mnemonic amount (slice_index ns 0) (slice_index ns 1) (shift_value ns)

-- of zdn, zm, pg, size
abbrev pub binary_predicated : List ℕ → List ℕ → List ℕ
binary_predicated mnemonic ns =
    mnemonic ++ z_register (slice_index ns 3) (slice_index ns 0) ++ comma ++ p_register (slice_index ns 2) ++ codes "/m, " ++ z_register (slice_index ns 3) (slice_index ns 0) ++ comma ++ z_register (slice_index ns 3) (slice_index ns 1)

-- of zd, zn, pg, size
abbrev pub unary_predicated : List ℕ → List ℕ → List ℕ
unary_predicated mnemonic ns =
    mnemonic ++ z_register (slice_index ns 3) (slice_index ns 0) ++ comma ++ p_register (slice_index ns 2) ++ codes "/m, " ++ z_register (slice_index ns 3) (slice_index ns 1)

-- of zd, zn, pg
abbrev pub extend_word : List ℕ → List ℕ → List ℕ
extend_word mnemonic ns =
    mnemonic ++ z_register 3 (slice_index ns 0) ++ comma ++ p_register (slice_index ns 2) ++ codes "/m, " ++ z_register 3 (slice_index ns 1)

-- of zd, zn, pg, size, where the scalar has `letter`
abbrev pub reduction : List ℕ → List ℕ → List ℕ → List ℕ
reduction mnemonic letter ns =
    mnemonic ++ letter ++ decimal (slice_index ns 0) ++ comma ++ p_register (slice_index ns 2) ++ comma ++ z_register (slice_index ns 3) (slice_index ns 1)

-- of pd, zn, pg, zm, size
abbrev pub compare_vectors : List ℕ → List ℕ → List ℕ
compare_vectors mnemonic ns =
    mnemonic ++ p_register (slice_index ns 0) ++ dotted (slice_index ns 4) ++ comma ++ p_register (slice_index ns 2) ++ codes "/z, " ++ z_register (slice_index ns 4) (slice_index ns 1) ++ comma ++ z_register (slice_index ns 4) (slice_index ns 3)

-- what a load accesses, by its dtype
abbrev pub access_name : ℕ → List ℕ
access_name dtype = (if is_signed dtype then codes "s" else []) ++ access_letter (memory_size dtype)

-- zt of this size, and pg
abbrev pub loaded : ℕ → ℕ → ℕ → List ℕ
loaded size zt pg = codes " {" ++ z_register size zt ++ codes "}, " ++ p_register pg ++ codes "/z"

-- of zt, rn, pg, rm, dtype
abbrev pub load : List ℕ → List ℕ → List ℕ
load mnemonic ns =
    mnemonic ++ access_name (slice_index ns 4) ++ loaded (element_size (slice_index ns 4)) (slice_index ns 0) (slice_index ns 2) ++ at_register (slice_index ns 1) (slice_index ns 3) (memory_size (slice_index ns 4))

-- of zt, rn, pg, zm
abbrev pub gather : List ℕ → List ℕ → List ℕ
gather mnemonic ns = mnemonic ++ loaded 3 (slice_index ns 0) (slice_index ns 2) ++ at_vector (slice_index ns 1) (slice_index ns 3)

abbrev pub text_of : Name → List ℕ → List ℕ
text_of ptrue ns = codes "ptrue " ++ p_register (slice_index ns 0) ++ dotted (slice_index ns 1)
text_of pfalse ns = codes "pfalse " ++ p_register (slice_index ns 0) ++ codes ".b"
text_of whilelo ns = codes "whilelo " ++ p_register (slice_index ns 0) ++ dotted (slice_index ns 3) ++ comma ++ x_register (slice_index ns 1) ++ comma ++ x_register (slice_index ns 2)
text_of ptest ns = codes "ptest " ++ p_register (slice_index ns 1) ++ comma ++ p_register (slice_index ns 0) ++ codes ".b"
text_of p_and ns = predicate_logical (codes "and ") ns
text_of p_bic ns = predicate_logical (codes "bic ") ns
text_of p_eor ns = predicate_logical (codes "eor ") ns
text_of p_orr ns = predicate_logical (codes "orr ") ns
text_of p_ands ns = predicate_logical (codes "ands ") ns
text_of brka ns = break_at (codes "brka ") ns
text_of brkb ns = break_at (codes "brkb ") ns
text_of rdffr ns = codes "rdffr " ++ p_register (slice_index ns 0) ++ codes ".b"
text_of rdffr_z ns = codes "rdffr " ++ p_register (slice_index ns 0) ++ codes ".b, " ++ p_register (slice_index ns 1) ++ codes "/z"
text_of setffr ns = codes "setffr"
text_of wrffr ns = codes "wrffr " ++ p_register (slice_index ns 0) ++ codes ".b"
text_of cntb ns = element_count (codes "cntb ") ns
text_of cnth ns = element_count (codes "cnth ") ns
text_of cntw ns = element_count (codes "cntw ") ns
text_of cntd ns = element_count (codes "cntd ") ns
text_of incp ns = codes "incp " ++ x_register (slice_index ns 0) ++ comma ++ p_register (slice_index ns 1) ++ dotted (slice_index ns 2)
text_of cntp ns = codes "cntp " ++ x_register (slice_index ns 0) ++ comma ++ p_register (slice_index ns 2) ++ comma ++ p_register (slice_index ns 1) ++ dotted (slice_index ns 3)
text_of dup ns = codes "dup " ++ z_register (slice_index ns 2) (slice_index ns 0) ++ comma ++ (if slice_index ns 2 == 3 then x_or_sp (slice_index ns 1) else w_or_sp (slice_index ns 1))
text_of index_row ns = codes "index " ++ z_register (slice_index ns 3) (slice_index ns 0) ++ comma ++ (if slice_index ns 3 == 3 then x_register (slice_index ns 1) else w_register (slice_index ns 1)) ++ comma ++ signed_constant 1 5 (slice_index ns 2)
text_of sel ns = codes "sel " ++ z_register (slice_index ns 4) (slice_index ns 0) ++ comma ++ p_register (slice_index ns 2) ++ comma ++ z_register (slice_index ns 4) (slice_index ns 1) ++ comma ++ z_register (slice_index ns 4) (slice_index ns 3)
text_of z_add ns = vectors (codes "add ") ns
text_of z_sub ns = vectors (codes "sub ") ns
text_of z_and ns = bitwise (codes "and ") ns
text_of z_orr ns = bitwise (codes "orr ") ns
text_of z_eor ns = bitwise (codes "eor ") ns
text_of z_bic ns = bitwise (codes "bic ") ns
text_of lsl_imm ns = shift_immediate (codes "lsl ") left_amount ns
text_of lsr_imm ns = shift_immediate (codes "lsr ") right_amount ns
text_of asr_imm ns = shift_immediate (codes "asr ") right_amount ns
text_of m_add ns = binary_predicated (codes "add ") ns
text_of m_sub ns = binary_predicated (codes "sub ") ns
text_of m_smax ns = binary_predicated (codes "smax ") ns
text_of m_umax ns = binary_predicated (codes "umax ") ns
text_of m_smin ns = binary_predicated (codes "smin ") ns
text_of m_umin ns = binary_predicated (codes "umin ") ns
text_of m_mul ns = binary_predicated (codes "mul ") ns
text_of m_orr ns = binary_predicated (codes "orr ") ns
text_of m_eor ns = binary_predicated (codes "eor ") ns
text_of m_and ns = binary_predicated (codes "and ") ns
text_of m_abs ns = unary_predicated (codes "abs ") ns
text_of m_neg ns = unary_predicated (codes "neg ") ns
text_of m_not ns = unary_predicated (codes "not ") ns
text_of sxtb ns = unary_predicated (codes "sxtb ") ns
text_of uxtb ns = unary_predicated (codes "uxtb ") ns
text_of sxth ns = unary_predicated (codes "sxth ") ns
text_of uxth ns = unary_predicated (codes "uxth ") ns
text_of sxtw ns = extend_word (codes "sxtw ") ns
text_of uxtw ns = extend_word (codes "uxtw ") ns
text_of uaddv ns = reduction (codes "uaddv ") (codes "d") ns
text_of smaxv ns = reduction (codes "smaxv ") (size_letter (slice_index ns 3)) ns
text_of umaxv ns = reduction (codes "umaxv ") (size_letter (slice_index ns 3)) ns
text_of sminv ns = reduction (codes "sminv ") (size_letter (slice_index ns 3)) ns
text_of uminv ns = reduction (codes "uminv ") (size_letter (slice_index ns 3)) ns
text_of orv ns = reduction (codes "orv ") (size_letter (slice_index ns 3)) ns
text_of eorv ns = reduction (codes "eorv ") (size_letter (slice_index ns 3)) ns
text_of andv ns = reduction (codes "andv ") (size_letter (slice_index ns 3)) ns
text_of cmphs ns = compare_vectors (codes "cmphs ") ns
text_of cmphi ns = compare_vectors (codes "cmphi ") ns
text_of cmpge ns = compare_vectors (codes "cmpge ") ns
text_of cmpgt ns = compare_vectors (codes "cmpgt ") ns
text_of cmpeq ns = compare_vectors (codes "cmpeq ") ns
text_of cmpne ns = compare_vectors (codes "cmpne ") ns
text_of ld1 ns = load (codes "ld1") ns
text_of ldff1 ns = load (codes "ldff1") ns
text_of ldnf1 ns = codes "ldnf1" ++ access_name (slice_index ns 3) ++ loaded (element_size (slice_index ns 3)) (slice_index ns 0) (slice_index ns 2) ++ at_offset (slice_index ns 1) 0
text_of gld1b ns = gather (codes "ld1b") ns
text_of gld1h ns = gather (codes "ld1h") ns
text_of gld1w ns = gather (codes "ld1w") ns
text_of gld1d ns = gather (codes "ld1d") ns
text_of gld1sb ns = gather (codes "ld1sb") ns
text_of gld1sh ns = gather (codes "ld1sh") ns
text_of gld1sw ns = gather (codes "ld1sw") ns
text_of st1 ns = codes "st1" ++ access_letter (slice_index ns 5) ++ codes " {" ++ z_register (slice_index ns 4) (slice_index ns 0) ++ codes "}, " ++ p_register (slice_index ns 2) ++ at_register (slice_index ns 1) (slice_index ns 3) (slice_index ns 5)

abbrev pub sve_text : Instruction Name → List ℕ
sve_text i = text_of i.name i.numbers
