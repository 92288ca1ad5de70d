-- How long the text of each word is, and a listing.
use Rattle.std.proofs.Common.{◌≡◌, ℕ, zero, suc, ◌+◌, ◌*◌, ◌/◌, ◌%◌, ◌^◌, ◌<◌, ◌≤◌, List, [], ◌∷◌, length, Option, Some, None, refl, sym, subst, arith, length-append}
use Rattle.std.specs.Prelude.{◌==◌, codes, slice_index}
use Rattle.std.specs.List.{AllByRecursion}
use Rattle.std.proofs.Math.Nat.{mod-le, div-le_self}
use Rattle.std.proofs.lemmas.Bool.{cond_both}
use Rattle.word_rows.specs.Field.{Field}
use Rattle.word_rows.specs.Row.{Row, Instruction, reads, numbers_in}
use Rattle.a64_code.specs.Table as a64
use Rattle.sve_code.specs.Table as sve
use Rattle.sve_code.specs.Numbers.{left_amount, right_amount}
use Rattle.list_text.specs.Parts.{x_register, w_register, x_or_sp, w_or_sp, comma, size_letter}
use Rattle.list_text.specs.A64Text as a64_text
use Rattle.list_text.specs.SveText as sve_text
use Rattle.list_text.specs.Text.{word_text, hex_word, line_text, list_text, unlisted_text, sve_text_or, a64_text_or}
use Rattle.sve_asm.proofs.Complete.{found_of_reads}
use Rattle.sve_asm.proofs.TextLengths.{AreSmall, Fits, fits_its_length, fits_append, of_length, fits_of_le, signed_length, x_length, w_length, x_or_sp_length, w_or_sp_length, condition_length, size_length, access_length, dotted_length, z_length, p_length, number_length, index_length, near_branch_length, far_branch_length, left_small, right_small, add_sub_length, shifted_register_length, move_wide_length, multiply_add_length, shift_variable_length, bitfield_length, conditional_select_length, compare_branch_length, exception_length, immediate_length, byte_register_length, at_register_length, predicate_logical_length, break_at_length, element_count_length, vectors_length, bitwise_length, shift_immediate_length, binary_length, unary_length, extend_length, reduction_length, compare_length, load_length, load_first_length, gather_length}

-- ---- the text of each row
a64_length : (name : a64.Name) (ns : List ℕ) → AreSmall ns → Fits 100 (a64_text.text_of name ns)
a64_length a64.add_imm ns small = add_sub_length (codes "add ") ns refl small x_or_sp x_or_sp_length
a64_length a64.sub_imm ns small = add_sub_length (codes "sub ") ns refl small x_or_sp x_or_sp_length
a64_length a64.subs_imm ns small = add_sub_length (codes "subs ") ns refl small x_register x_length
a64_length a64.add ns small = shifted_register_length (codes "add ") ns refl small
a64_length a64.sub ns small = shifted_register_length (codes "sub ") ns refl small
a64_length a64.subs ns small = shifted_register_length (codes "subs ") ns refl small
a64_length a64.land ns small = shifted_register_length (codes "and ") ns refl small
a64_length a64.orr ns small = shifted_register_length (codes "orr ") ns refl small
a64_length a64.eor ns small = shifted_register_length (codes "eor ") ns refl small
a64_length a64.orn ns small = shifted_register_length (codes "orn ") ns refl small
a64_length a64.movz ns small = move_wide_length (codes "movz ") ns refl small
a64_length a64.movk ns small = move_wide_length (codes "movk ") ns refl small
a64_length a64.movn ns small = move_wide_length (codes "movn ") ns refl small
a64_length a64.madd ns small = multiply_add_length (codes "madd ") ns refl small
a64_length a64.msub ns small = multiply_add_length (codes "msub ") ns refl small
a64_length a64.lslv ns small = shift_variable_length (codes "lslv ") ns refl small
a64_length a64.lsrv ns small = shift_variable_length (codes "lsrv ") ns refl small
a64_length a64.asrv ns small = shift_variable_length (codes "asrv ") ns refl small
a64_length a64.sbfm ns small = bitfield_length (codes "sbfm ") ns refl small
a64_length a64.ubfm ns small = bitfield_length (codes "ubfm ") ns refl small
a64_length a64.csel ns small = conditional_select_length (codes "csel ") ns refl small
a64_length a64.csinc ns small = conditional_select_length (codes "csinc ") ns refl small
a64_length a64.b ns small = fits_of_le 100 (fits_append (fits_its_length (codes "b ")) (far_branch_length ns small 0)) refl
a64_length a64.b_cond ns small = fits_of_le 100 (fits_append (fits_append (fits_append (fits_its_length (codes "b.")) (condition_length (slice_index ns 0))) (fits_its_length (codes " "))) (near_branch_length ns small 1)) refl
a64_length a64.cbz ns small = compare_branch_length (codes "cbz ") ns refl small
a64_length a64.cbnz ns small = compare_branch_length (codes "cbnz ") ns refl small
a64_length a64.ret ns small = fits_of_le 100 (fits_append (fits_its_length (codes "ret ")) (x_length (slice_index ns 0) (small.at 0))) refl
a64_length a64.svc ns small = exception_length (codes "svc ") ns refl small
a64_length a64.brk ns small = exception_length (codes "brk ") ns refl small
a64_length a64.nop ns small = fits_of_le 100 (fits_its_length (codes "nop")) refl
a64_length a64.umov ns small = fits_of_le 100 (fits_append (fits_append (fits_append (fits_append (fits_its_length (codes "umov ")) (x_length (slice_index ns 0) (small.at 0))) (fits_its_length (codes ", v"))) (number_length (slice_index ns 1) (small.at 1))) (fits_its_length (codes ".d[0]"))) refl
a64_length a64.ldrb ns small = immediate_length (codes "ldrb ") ns refl small w_register 1 w_length refl
a64_length a64.ldrsb ns small = immediate_length (codes "ldrsb ") ns refl small x_register 1 x_length refl
a64_length a64.strb ns small = immediate_length (codes "strb ") ns refl small w_register 1 w_length refl
a64_length a64.ldrh ns small = immediate_length (codes "ldrh ") ns refl small w_register 2 w_length refl
a64_length a64.ldr_w ns small = immediate_length (codes "ldr ") ns refl small w_register 4 w_length refl
a64_length a64.ldr_x ns small = immediate_length (codes "ldr ") ns refl small x_register 8 x_length refl
a64_length a64.ldrsh ns small = immediate_length (codes "ldrsh ") ns refl small x_register 2 x_length refl
a64_length a64.ldrsw ns small = immediate_length (codes "ldrsw ") ns refl small x_register 4 x_length refl
a64_length a64.strh ns small = immediate_length (codes "strh ") ns refl small w_register 2 w_length refl
a64_length a64.str_w ns small = immediate_length (codes "str ") ns refl small w_register 4 w_length refl
a64_length a64.str_x ns small = immediate_length (codes "str ") ns refl small x_register 8 x_length refl
a64_length a64.ldrb_register ns small = byte_register_length (codes "ldrb ") ns refl small w_register w_length
a64_length a64.ldrsb_register ns small = byte_register_length (codes "ldrsb ") ns refl small x_register x_length
a64_length a64.strb_register ns small = byte_register_length (codes "strb ") ns refl small w_register w_length
a64_length a64.ldrh_register ns small = at_register_length (codes "ldrh ") ns refl small w_register 1 w_length refl
a64_length a64.ldr_w_register ns small = at_register_length (codes "ldr ") ns refl small w_register 2 w_length refl
a64_length a64.ldr_x_register ns small = at_register_length (codes "ldr ") ns refl small x_register 3 x_length refl
a64_length a64.ldrsh_register ns small = at_register_length (codes "ldrsh ") ns refl small x_register 1 x_length refl
a64_length a64.ldrsw_register ns small = at_register_length (codes "ldrsw ") ns refl small x_register 2 x_length refl
a64_length a64.strh_register ns small = at_register_length (codes "strh ") ns refl small w_register 1 w_length refl
a64_length a64.str_w_register ns small = at_register_length (codes "str ") ns refl small w_register 2 w_length refl
a64_length a64.str_x_register ns small = at_register_length (codes "str ") ns refl small x_register 3 x_length refl

sve_length : (name : sve.Name) (ns : List ℕ) → AreSmall ns → Fits 100 (sve_text.text_of name ns)
sve_length sve.ptrue ns small = fits_of_le 100 (fits_append (fits_append (fits_its_length (codes "ptrue ")) (p_length (slice_index ns 0) (small.at 0))) (dotted_length (slice_index ns 1))) refl
sve_length sve.pfalse ns small = fits_of_le 100 (fits_append (fits_append (fits_its_length (codes "pfalse ")) (p_length (slice_index ns 0) (small.at 0))) (fits_its_length (codes ".b"))) refl
sve_length sve.whilelo ns small = fits_of_le 100 (fits_append (fits_append (fits_append (fits_append (fits_append (fits_append (fits_its_length (codes "whilelo ")) (p_length (slice_index ns 0) (small.at 0))) (dotted_length (slice_index ns 3))) (fits_its_length comma)) (x_length (slice_index ns 1) (small.at 1))) (fits_its_length comma)) (x_length (slice_index ns 2) (small.at 2))) refl
sve_length sve.ptest ns small = fits_of_le 100 (fits_append (fits_append (fits_append (fits_append (fits_its_length (codes "ptest ")) (p_length (slice_index ns 1) (small.at 1))) (fits_its_length comma)) (p_length (slice_index ns 0) (small.at 0))) (fits_its_length (codes ".b"))) refl
sve_length sve.p_and ns small = predicate_logical_length (codes "and ") ns refl small
sve_length sve.p_bic ns small = predicate_logical_length (codes "bic ") ns refl small
sve_length sve.p_eor ns small = predicate_logical_length (codes "eor ") ns refl small
sve_length sve.p_orr ns small = predicate_logical_length (codes "orr ") ns refl small
sve_length sve.p_ands ns small = predicate_logical_length (codes "ands ") ns refl small
sve_length sve.brka ns small = break_at_length (codes "brka ") ns refl small
sve_length sve.brkb ns small = break_at_length (codes "brkb ") ns refl small
sve_length sve.rdffr ns small = fits_of_le 100 (fits_append (fits_append (fits_its_length (codes "rdffr ")) (p_length (slice_index ns 0) (small.at 0))) (fits_its_length (codes ".b"))) refl
sve_length sve.rdffr_z ns small = fits_of_le 100 (fits_append (fits_append (fits_append (fits_append (fits_its_length (codes "rdffr ")) (p_length (slice_index ns 0) (small.at 0))) (fits_its_length (codes ".b, "))) (p_length (slice_index ns 1) (small.at 1))) (fits_its_length (codes "/z"))) refl
sve_length sve.setffr ns small = fits_of_le 100 (fits_its_length (codes "setffr")) refl
sve_length sve.wrffr ns small = fits_of_le 100 (fits_append (fits_append (fits_its_length (codes "wrffr ")) (p_length (slice_index ns 0) (small.at 0))) (fits_its_length (codes ".b"))) refl
sve_length sve.cntb ns small = element_count_length (codes "cntb ") ns refl small
sve_length sve.cnth ns small = element_count_length (codes "cnth ") ns refl small
sve_length sve.cntw ns small = element_count_length (codes "cntw ") ns refl small
sve_length sve.cntd ns small = element_count_length (codes "cntd ") ns refl small
sve_length sve.incp ns small = fits_of_le 100 (fits_append (fits_append (fits_append (fits_append (fits_its_length (codes "incp ")) (x_length (slice_index ns 0) (small.at 0))) (fits_its_length comma)) (p_length (slice_index ns 1) (small.at 1))) (dotted_length (slice_index ns 2))) refl
sve_length sve.cntp ns small = fits_of_le 100 (fits_append (fits_append (fits_append (fits_append (fits_append (fits_append (fits_its_length (codes "cntp ")) (x_length (slice_index ns 0) (small.at 0))) (fits_its_length comma)) (p_length (slice_index ns 2) (small.at 2))) (fits_its_length comma)) (p_length (slice_index ns 1) (small.at 1))) (dotted_length (slice_index ns 3))) refl
sve_length sve.dup ns small = fits_of_le 100 (fits_append (fits_append (fits_append (fits_its_length (codes "dup ")) (z_length (slice_index ns 2) (slice_index ns 0) (small.at 0))) (fits_its_length comma)) (cond_both (slice_index ns 2 == 3) (x_or_sp (slice_index ns 1)) (w_or_sp (slice_index ns 1)) (λ t. Fits 11 t) (λ e. x_or_sp_length (slice_index ns 1) (small.at 1)) (λ e. w_or_sp_length (slice_index ns 1) (small.at 1)))) refl
sve_length sve.index_row ns small = fits_of_le 100 (fits_append (fits_append (fits_append (fits_append (fits_append (fits_its_length (codes "index ")) (z_length (slice_index ns 3) (slice_index ns 0) (small.at 0))) (fits_its_length comma)) (cond_both (slice_index ns 3 == 3) (x_register (slice_index ns 1)) (w_register (slice_index ns 1)) (λ t. Fits 11 t) (λ e. x_length (slice_index ns 1) (small.at 1)) (λ e. w_length (slice_index ns 1) (small.at 1)))) (fits_its_length comma)) (let s = small.at 2 in signed_length 1 16 (slice_index ns 2) (omega (arith, s)) (omega (arith, s)))) refl
sve_length sve.sel ns small = fits_of_le 100 (fits_append (fits_append (fits_append (fits_append (fits_append (fits_append (fits_append (fits_its_length (codes "sel ")) (z_length (slice_index ns 4) (slice_index ns 0) (small.at 0))) (fits_its_length comma)) (p_length (slice_index ns 2) (small.at 2))) (fits_its_length comma)) (z_length (slice_index ns 4) (slice_index ns 1) (small.at 1))) (fits_its_length comma)) (z_length (slice_index ns 4) (slice_index ns 3) (small.at 3))) refl
sve_length sve.z_add ns small = vectors_length (codes "add ") ns refl small
sve_length sve.z_sub ns small = vectors_length (codes "sub ") ns refl small
sve_length sve.z_and ns small = bitwise_length (codes "and ") ns refl small
sve_length sve.z_orr ns small = bitwise_length (codes "orr ") ns refl small
sve_length sve.z_eor ns small = bitwise_length (codes "eor ") ns refl small
sve_length sve.z_bic ns small = bitwise_length (codes "bic ") ns refl small
sve_length sve.lsl_imm ns small = shift_immediate_length (codes "lsl ") ns refl small left_amount left_small
sve_length sve.lsr_imm ns small = shift_immediate_length (codes "lsr ") ns refl small right_amount right_small
sve_length sve.asr_imm ns small = shift_immediate_length (codes "asr ") ns refl small right_amount right_small
sve_length sve.m_add ns small = binary_length (codes "add ") ns refl small
sve_length sve.m_sub ns small = binary_length (codes "sub ") ns refl small
sve_length sve.m_smax ns small = binary_length (codes "smax ") ns refl small
sve_length sve.m_umax ns small = binary_length (codes "umax ") ns refl small
sve_length sve.m_smin ns small = binary_length (codes "smin ") ns refl small
sve_length sve.m_umin ns small = binary_length (codes "umin ") ns refl small
sve_length sve.m_mul ns small = binary_length (codes "mul ") ns refl small
sve_length sve.m_orr ns small = binary_length (codes "orr ") ns refl small
sve_length sve.m_eor ns small = binary_length (codes "eor ") ns refl small
sve_length sve.m_and ns small = binary_length (codes "and ") ns refl small
sve_length sve.m_abs ns small = unary_length (codes "abs ") ns refl small
sve_length sve.m_neg ns small = unary_length (codes "neg ") ns refl small
sve_length sve.m_not ns small = unary_length (codes "not ") ns refl small
sve_length sve.sxtb ns small = unary_length (codes "sxtb ") ns refl small
sve_length sve.uxtb ns small = unary_length (codes "uxtb ") ns refl small
sve_length sve.sxth ns small = unary_length (codes "sxth ") ns refl small
sve_length sve.uxth ns small = unary_length (codes "uxth ") ns refl small
sve_length sve.sxtw ns small = extend_length (codes "sxtw ") ns refl small
sve_length sve.uxtw ns small = extend_length (codes "uxtw ") ns refl small
sve_length sve.uaddv ns small = reduction_length (codes "uaddv ") ns refl small (codes "d") (fits_its_length (codes "d"))
sve_length sve.smaxv ns small = reduction_length (codes "smaxv ") ns refl small (size_letter (slice_index ns 3)) (size_length (slice_index ns 3))
sve_length sve.umaxv ns small = reduction_length (codes "umaxv ") ns refl small (size_letter (slice_index ns 3)) (size_length (slice_index ns 3))
sve_length sve.sminv ns small = reduction_length (codes "sminv ") ns refl small (size_letter (slice_index ns 3)) (size_length (slice_index ns 3))
sve_length sve.uminv ns small = reduction_length (codes "uminv ") ns refl small (size_letter (slice_index ns 3)) (size_length (slice_index ns 3))
sve_length sve.orv ns small = reduction_length (codes "orv ") ns refl small (size_letter (slice_index ns 3)) (size_length (slice_index ns 3))
sve_length sve.eorv ns small = reduction_length (codes "eorv ") ns refl small (size_letter (slice_index ns 3)) (size_length (slice_index ns 3))
sve_length sve.andv ns small = reduction_length (codes "andv ") ns refl small (size_letter (slice_index ns 3)) (size_length (slice_index ns 3))
sve_length sve.cmphs ns small = compare_length (codes "cmphs ") ns refl small
sve_length sve.cmphi ns small = compare_length (codes "cmphi ") ns refl small
sve_length sve.cmpge ns small = compare_length (codes "cmpge ") ns refl small
sve_length sve.cmpgt ns small = compare_length (codes "cmpgt ") ns refl small
sve_length sve.cmpeq ns small = compare_length (codes "cmpeq ") ns refl small
sve_length sve.cmpne ns small = compare_length (codes "cmpne ") ns refl small
sve_length sve.ld1 ns small = load_length (codes "ld1") ns refl small
sve_length sve.ldff1 ns small = load_length (codes "ldff1") ns refl small
sve_length sve.ldnf1 ns small = load_first_length (codes "ldnf1") ns refl small
sve_length sve.gld1b ns small = gather_length (codes "ld1b") ns refl small
sve_length sve.gld1h ns small = gather_length (codes "ld1h") ns refl small
sve_length sve.gld1w ns small = gather_length (codes "ld1w") ns refl small
sve_length sve.gld1d ns small = gather_length (codes "ld1d") ns refl small
sve_length sve.gld1sb ns small = gather_length (codes "ld1sb") ns refl small
sve_length sve.gld1sh ns small = gather_length (codes "ld1sh") ns refl small
sve_length sve.gld1sw ns small = gather_length (codes "ld1sw") ns refl small
sve_length sve.st1 ns small = fits_of_le 100 (fits_append (fits_append (fits_append (fits_append (fits_append (fits_append (fits_its_length (codes "st1")) (access_length (slice_index ns 5))) (fits_its_length (codes " {"))) (z_length (slice_index ns 4) (slice_index ns 0) (small.at 0))) (fits_its_length (codes "}, "))) (p_length (slice_index ns 2) (small.at 2))) (let s = small.at 5 in index_length (slice_index ns 1) (slice_index ns 3) (slice_index ns 5) (small.at 1) (small.at 3) (omega (arith, s)))) refl

-- ---- the text of a word
field_small : (word : ℕ) (fields : List Field) (k : ℕ) → word < 2 ^ 32 → slice_index (numbers_in word fields) k < 2 ^ 32
field_small word [] k h = omega arith
field_small word (f ∷ fs) zero h =
    let part = mod-le (word / 2 ^ f.low) (2 ^ f.width) in
    let front = div-le_self word (2 ^ f.low) in
    omega (arith, part, front, h)
field_small word (f ∷ fs) (suc k) h = field_small word fs k h

numbers_small : {Name : Type 0} (row : Name → Row) (names : List Name) (word : ℕ) (i : Instruction Name) → reads row names word ≡ Some i → word < 2 ^ 32 → AreSmall i.numbers
numbers_small row names word i e h =
    let f = found_of_reads row names word i e in
    subst AreSmall (sym f.numbers) (record { at = λ k. field_small word (row i.name).fields k h })

sve_text_length : (word : ℕ) (i : Option (Instruction sve.Name)) → reads sve.row sve.sve_names word ≡ i → word < 2 ^ 32 → Fits 100 (sve_text_or word i)
sve_text_length word None e h = of_length 100 (unlisted_text word) refl
sve_text_length word (Some i) e h = sve_length i.name i.numbers (numbers_small sve.row sve.sve_names word i e h)

a64_text_length : (word : ℕ) (i : Option (Instruction a64.Name)) → reads a64.row a64.a64_names word ≡ i → word < 2 ^ 32 → Fits 100 (a64_text_or word i)
a64_text_length word None e h = sve_text_length word (reads sve.row sve.sve_names word) refl h
a64_text_length word (Some i) e h = a64_length i.name i.numbers (numbers_small a64.row a64.a64_names word i e h)

text_length : (word : ℕ) → word < 2 ^ 32 → Fits 100 (word_text word)
text_length word h = a64_text_length word (reads a64.row a64.a64_names word) refl h

-- ---- a listing
line_length : (address word : ℕ) → word < 2 ^ 32 → length (line_text address word) ≤ 128
line_length address word h =
    (fits_append (fits_append (fits_append (fits_append (fits_append (fits_append (fits_its_length (hex_word (address / 2 ^ 32))) (fits_its_length (hex_word (address % 2 ^ 32)))) (fits_its_length (codes ": "))) (fits_its_length (hex_word word))) (fits_its_length (codes " "))) (text_length word h)) (fits_its_length (codes "\n"))).bound

lines_length : (address : ℕ) (words : List ℕ) → AllByRecursion (λ w. w < 2 ^ 32) words → length (list_text address words) ≤ 128 * length words
unfolding list_text
lines_length address [] small = omega arith
lines_length address (word ∷ words) small =
    let line = line_length address word small.0 in
    let rest = lines_length (address + 4) words small.1 in
    omega (arith, line, rest, length-append (line_text address word) (list_text (address + 4) words))

-- a listing of at most 65,536 words has at most eight mebibytes
pub short_listing : (address : ℕ) (words : List ℕ) → AllByRecursion (λ w. w < 2 ^ 32) words → length words ≤ 65536 → length (list_text address words) ≤ 8388608
short_listing address words small few = let all = lines_length address words small in omega (arith, all, few)
