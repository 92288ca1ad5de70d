-- The texts of the SVE rows, read back.
use Rattle.std.proofs.Common.{◌≡◌, ℕ, ◌+◌, ◌*◌, ◌^◌, ◌<◌, [], ◌∷◌, true, Some, refl, arith}
use Rattle.std.specs.Prelude.{codes}
use Rattle.std.proofs.lemmas.Bool.{and_parts}
use Rattle.word_rows.specs.Field.{bits}
use Rattle.word_rows.specs.Row.{takes, numbers_in}
use Rattle.sve_code.specs.Table as sve
use Rattle.list_text.specs.SveText as sve_text
use Rattle.asm_forms.specs.Rules.{form_of, form_in, base_of, data_processing, branches, offset_accesses, indexed_accesses, predicates, counts, vectors, vector_accesses}
use Rattle.asm_forms.specs.Reading.{candidate}
use Rattle.sve_asm.proofs.Sums.{sum_into, row-sum}
use Rattle.sve_asm.proofs.VectorForms.{form_binary, form_bitwise, form_compare_z, form_extend, form_reduce, form_unary, form_vectors}
use Rattle.sve_asm.proofs.PredicateForms.{form_break, form_count_true, form_false, form_increment, form_logical, form_read_z, form_sel, form_test, form_true, form_while, form_write}
use Rattle.sve_asm.proofs.ScalarForms.{form_count}
use Rattle.sve_asm.proofs.VectorAccessForms.{form_gather, form_load, form_load_lsl, form_load_no, form_store, form_store_lsl}
use Rattle.sve_asm.proofs.Pieces.{d-blanked}
use Rattle.sve_asm.proofs.Cases.{dup_any, left_any, reduce_any, right_any, series_any, whole_word, bits_below, wider, at_least, holds_below}

pub sve_row : (n : sve.Name) (w : ℕ) → w < 2 ^ 32 → takes (sve.row n) w ≡ true → candidate (sve_text.text_of n (numbers_in w (sve.row n).fields)) ≡ Some w
unfolding sum_into form_of form_in base_of data_processing branches offset_accesses indexed_accesses predicates counts vectors vector_accesses
sve_row sve.ptrue w h t = form_true (codes "ptrue") 0x2518E3E0 w (bits w 0 4) (bits w 22 2) refl refl (bits_below w 0 4) (bits_below w 22 2) h (row-sum (sve.row sve.ptrue) w refl h t)
sve_row sve.pfalse w h t = form_false (codes "pfalse") 0x2518E400 w (bits w 0 4) refl refl (bits_below w 0 4) h (row-sum (sve.row sve.pfalse) w refl h t)
sve_row sve.whilelo w h t = form_while (codes "whilelo") 0x25201C00 w (bits w 0 4) (bits w 5 5) (bits w 16 5) (bits w 22 2) refl refl (bits_below w 0 4) (bits_below w 5 5) (bits_below w 16 5) (bits_below w 22 2) h (row-sum (sve.row sve.whilelo) w refl h t)
sve_row sve.ptest w h t = form_test (codes "ptest") 0x2550C000 w (bits w 5 4) (bits w 10 4) refl refl (bits_below w 5 4) (bits_below w 10 4) h (row-sum (sve.row sve.ptest) w refl h t)
sve_row sve.p_and w h t = form_logical (codes "and") 0x25004000 w (bits w 0 4) (bits w 5 4) (bits w 10 4) (bits w 16 4) refl refl (bits_below w 0 4) (bits_below w 5 4) (bits_below w 10 4) (bits_below w 16 4) h (row-sum (sve.row sve.p_and) w refl h t)
sve_row sve.p_bic w h t = form_logical (codes "bic") 0x25004010 w (bits w 0 4) (bits w 5 4) (bits w 10 4) (bits w 16 4) refl refl (bits_below w 0 4) (bits_below w 5 4) (bits_below w 10 4) (bits_below w 16 4) h (row-sum (sve.row sve.p_bic) w refl h t)
sve_row sve.p_eor w h t = form_logical (codes "eor") 0x25004200 w (bits w 0 4) (bits w 5 4) (bits w 10 4) (bits w 16 4) refl refl (bits_below w 0 4) (bits_below w 5 4) (bits_below w 10 4) (bits_below w 16 4) h (row-sum (sve.row sve.p_eor) w refl h t)
sve_row sve.p_orr w h t = form_logical (codes "orr") 0x25804000 w (bits w 0 4) (bits w 5 4) (bits w 10 4) (bits w 16 4) refl refl (bits_below w 0 4) (bits_below w 5 4) (bits_below w 10 4) (bits_below w 16 4) h (row-sum (sve.row sve.p_orr) w refl h t)
sve_row sve.p_ands w h t = form_logical (codes "ands") 0x25404000 w (bits w 0 4) (bits w 5 4) (bits w 10 4) (bits w 16 4) refl refl (bits_below w 0 4) (bits_below w 5 4) (bits_below w 10 4) (bits_below w 16 4) h (row-sum (sve.row sve.p_ands) w refl h t)
sve_row sve.brka w h t = form_break (codes "brka") 0x25104000 w (bits w 0 4) (bits w 5 4) (bits w 10 4) refl refl (bits_below w 0 4) (bits_below w 5 4) (bits_below w 10 4) h (row-sum (sve.row sve.brka) w refl h t)
sve_row sve.brkb w h t = form_break (codes "brkb") 0x25904000 w (bits w 0 4) (bits w 5 4) (bits w 10 4) refl refl (bits_below w 0 4) (bits_below w 5 4) (bits_below w 10 4) h (row-sum (sve.row sve.brkb) w refl h t)
sve_row sve.rdffr w h t = form_false (codes "rdffr") 0x2519F000 w (bits w 0 4) refl refl (bits_below w 0 4) h (row-sum (sve.row sve.rdffr) w refl h t)
sve_row sve.rdffr_z w h t = form_read_z (codes "rdffr") 0x2518F000 w (bits w 0 4) (bits w 5 4) refl refl (bits_below w 0 4) (bits_below w 5 4) h (row-sum (sve.row sve.rdffr_z) w refl h t)
sve_row sve.setffr w h t = whole_word (codes "setffr") 0x252C9000 w refl refl h (row-sum (sve.row sve.setffr) w refl h t)
sve_row sve.wrffr w h t = form_write (codes "wrffr") 0x25289000 w (bits w 5 4) refl refl (bits_below w 5 4) h (row-sum (sve.row sve.wrffr) w refl h t)
sve_row sve.cntb w h t = form_count (codes "cntb") 0x0420E3E0 w (bits w 0 5) refl refl (bits_below w 0 5) h (row-sum (sve.row sve.cntb) w refl h t)
sve_row sve.cnth w h t = form_count (codes "cnth") 0x0460E3E0 w (bits w 0 5) refl refl (bits_below w 0 5) h (row-sum (sve.row sve.cnth) w refl h t)
sve_row sve.cntw w h t = form_count (codes "cntw") 0x04A0E3E0 w (bits w 0 5) refl refl (bits_below w 0 5) h (row-sum (sve.row sve.cntw) w refl h t)
sve_row sve.cntd w h t = form_count (codes "cntd") 0x04E0E3E0 w (bits w 0 5) refl refl (bits_below w 0 5) h (row-sum (sve.row sve.cntd) w refl h t)
sve_row sve.incp w h t = form_increment (codes "incp") 0x252C8800 w (bits w 0 5) (bits w 5 4) (bits w 22 2) refl refl (bits_below w 0 5) (bits_below w 5 4) (bits_below w 22 2) h (row-sum (sve.row sve.incp) w refl h t)
sve_row sve.cntp w h t = form_count_true (codes "cntp") 0x25208000 w (bits w 0 5) (bits w 5 4) (bits w 10 4) (bits w 22 2) refl refl (bits_below w 0 5) (bits_below w 5 4) (bits_below w 10 4) (bits_below w 22 2) h (row-sum (sve.row sve.cntp) w refl h t)
sve_row sve.dup w h t = dup_any (codes "dup") 0x05203800 w (bits w 0 5) (bits w 5 5) (bits w 22 2) refl refl refl (bits_below w 0 5) (bits_below w 5 5) (bits_below w 22 2) h (row-sum (sve.row sve.dup) w refl h t)
sve_row sve.index_row w h t = series_any (codes "index") 0x04204400 0x04404400 w (bits w 0 5) (bits w 5 5) (bits w 16 5) (bits w 22 2) refl refl refl refl refl refl (bits_below w 0 5) (bits_below w 5 5) (bits_below w 16 5) (bits_below w 22 2) h (row-sum (sve.row sve.index_row) w refl h t)
sve_row sve.sel w h t = form_sel (codes "sel") 0x0520C000 w (bits w 0 5) (bits w 5 5) (bits w 10 4) (bits w 16 5) (bits w 22 2) refl refl (bits_below w 0 5) (bits_below w 5 5) (bits_below w 10 4) (bits_below w 16 5) (bits_below w 22 2) h (row-sum (sve.row sve.sel) w refl h t)
sve_row sve.z_add w h t = form_vectors (codes "add") 0x04200000 w (bits w 0 5) (bits w 5 5) (bits w 16 5) (bits w 22 2) refl refl (bits_below w 0 5) (bits_below w 5 5) (bits_below w 16 5) (bits_below w 22 2) h (row-sum (sve.row sve.z_add) w refl h t)
sve_row sve.z_sub w h t = form_vectors (codes "sub") 0x04200400 w (bits w 0 5) (bits w 5 5) (bits w 16 5) (bits w 22 2) refl refl (bits_below w 0 5) (bits_below w 5 5) (bits_below w 16 5) (bits_below w 22 2) h (row-sum (sve.row sve.z_sub) w refl h t)
sve_row sve.z_and w h t = form_bitwise (codes "and") 0x04203000 w (bits w 0 5) (bits w 5 5) (bits w 16 5) refl refl (bits_below w 0 5) (bits_below w 5 5) (bits_below w 16 5) h (row-sum (sve.row sve.z_and) w refl h t)
sve_row sve.z_orr w h t = form_bitwise (codes "orr") 0x04603000 w (bits w 0 5) (bits w 5 5) (bits w 16 5) refl refl (bits_below w 0 5) (bits_below w 5 5) (bits_below w 16 5) h (row-sum (sve.row sve.z_orr) w refl h t)
sve_row sve.z_eor w h t = form_bitwise (codes "eor") 0x04A03000 w (bits w 0 5) (bits w 5 5) (bits w 16 5) refl refl (bits_below w 0 5) (bits_below w 5 5) (bits_below w 16 5) h (row-sum (sve.row sve.z_eor) w refl h t)
sve_row sve.z_bic w h t = form_bitwise (codes "bic") 0x04E03000 w (bits w 0 5) (bits w 5 5) (bits w 16 5) refl refl (bits_below w 0 5) (bits_below w 5 5) (bits_below w 16 5) h (row-sum (sve.row sve.z_bic) w refl h t)
sve_row sve.lsl_imm w h t = left_any (codes "lsl") 0x04209C00 w (bits w 0 5) (bits w 5 5) (bits w 16 3) (bits w 19 2) (bits w 22 2) refl refl (bits_below w 0 5) (bits_below w 5 5) (bits_below w 16 3) (bits_below w 19 2) (bits_below w 22 2) h (at_least _ 8 (and_parts _ _ t).1) (row-sum (sve.row sve.lsl_imm) w refl h t)
sve_row sve.lsr_imm w h t = right_any (codes "lsr") 0x04209400 w (bits w 0 5) (bits w 5 5) (bits w 16 3) (bits w 19 2) (bits w 22 2) refl refl (bits_below w 0 5) (bits_below w 5 5) (bits_below w 16 3) (bits_below w 19 2) (bits_below w 22 2) h (at_least _ 8 (and_parts _ _ t).1) (row-sum (sve.row sve.lsr_imm) w refl h t)
sve_row sve.asr_imm w h t = right_any (codes "asr") 0x04209000 w (bits w 0 5) (bits w 5 5) (bits w 16 3) (bits w 19 2) (bits w 22 2) refl refl (bits_below w 0 5) (bits_below w 5 5) (bits_below w 16 3) (bits_below w 19 2) (bits_below w 22 2) h (at_least _ 8 (and_parts _ _ t).1) (row-sum (sve.row sve.asr_imm) w refl h t)
sve_row sve.m_add w h t = form_binary (codes "add") 0x04000000 w (bits w 0 5) (bits w 5 5) (bits w 10 3) (bits w 22 2) refl refl (bits_below w 0 5) (bits_below w 5 5) (wider w 10) (bits_below w 22 2) h (row-sum (sve.row sve.m_add) w refl h t)
sve_row sve.m_sub w h t = form_binary (codes "sub") 0x04010000 w (bits w 0 5) (bits w 5 5) (bits w 10 3) (bits w 22 2) refl refl (bits_below w 0 5) (bits_below w 5 5) (wider w 10) (bits_below w 22 2) h (row-sum (sve.row sve.m_sub) w refl h t)
sve_row sve.m_smax w h t = form_binary (codes "smax") 0x04080000 w (bits w 0 5) (bits w 5 5) (bits w 10 3) (bits w 22 2) refl refl (bits_below w 0 5) (bits_below w 5 5) (wider w 10) (bits_below w 22 2) h (row-sum (sve.row sve.m_smax) w refl h t)
sve_row sve.m_umax w h t = form_binary (codes "umax") 0x04090000 w (bits w 0 5) (bits w 5 5) (bits w 10 3) (bits w 22 2) refl refl (bits_below w 0 5) (bits_below w 5 5) (wider w 10) (bits_below w 22 2) h (row-sum (sve.row sve.m_umax) w refl h t)
sve_row sve.m_smin w h t = form_binary (codes "smin") 0x040A0000 w (bits w 0 5) (bits w 5 5) (bits w 10 3) (bits w 22 2) refl refl (bits_below w 0 5) (bits_below w 5 5) (wider w 10) (bits_below w 22 2) h (row-sum (sve.row sve.m_smin) w refl h t)
sve_row sve.m_umin w h t = form_binary (codes "umin") 0x040B0000 w (bits w 0 5) (bits w 5 5) (bits w 10 3) (bits w 22 2) refl refl (bits_below w 0 5) (bits_below w 5 5) (wider w 10) (bits_below w 22 2) h (row-sum (sve.row sve.m_umin) w refl h t)
sve_row sve.m_mul w h t = form_binary (codes "mul") 0x04100000 w (bits w 0 5) (bits w 5 5) (bits w 10 3) (bits w 22 2) refl refl (bits_below w 0 5) (bits_below w 5 5) (wider w 10) (bits_below w 22 2) h (row-sum (sve.row sve.m_mul) w refl h t)
sve_row sve.m_orr w h t = form_binary (codes "orr") 0x04180000 w (bits w 0 5) (bits w 5 5) (bits w 10 3) (bits w 22 2) refl refl (bits_below w 0 5) (bits_below w 5 5) (wider w 10) (bits_below w 22 2) h (row-sum (sve.row sve.m_orr) w refl h t)
sve_row sve.m_eor w h t = form_binary (codes "eor") 0x04190000 w (bits w 0 5) (bits w 5 5) (bits w 10 3) (bits w 22 2) refl refl (bits_below w 0 5) (bits_below w 5 5) (wider w 10) (bits_below w 22 2) h (row-sum (sve.row sve.m_eor) w refl h t)
sve_row sve.m_and w h t = form_binary (codes "and") 0x041A0000 w (bits w 0 5) (bits w 5 5) (bits w 10 3) (bits w 22 2) refl refl (bits_below w 0 5) (bits_below w 5 5) (wider w 10) (bits_below w 22 2) h (row-sum (sve.row sve.m_and) w refl h t)
sve_row sve.m_abs w h t = form_unary (codes "abs") 0x0416A000 w (bits w 0 5) (bits w 5 5) (bits w 10 3) (bits w 22 2) refl refl (bits_below w 0 5) (bits_below w 5 5) (wider w 10) (bits_below w 22 2) h (row-sum (sve.row sve.m_abs) w refl h t)
sve_row sve.m_neg w h t = form_unary (codes "neg") 0x0417A000 w (bits w 0 5) (bits w 5 5) (bits w 10 3) (bits w 22 2) refl refl (bits_below w 0 5) (bits_below w 5 5) (wider w 10) (bits_below w 22 2) h (row-sum (sve.row sve.m_neg) w refl h t)
sve_row sve.m_not w h t = form_unary (codes "not") 0x041EA000 w (bits w 0 5) (bits w 5 5) (bits w 10 3) (bits w 22 2) refl refl (bits_below w 0 5) (bits_below w 5 5) (wider w 10) (bits_below w 22 2) h (row-sum (sve.row sve.m_not) w refl h t)
sve_row sve.sxtb w h t = form_unary (codes "sxtb") 0x0410A000 w (bits w 0 5) (bits w 5 5) (bits w 10 3) (bits w 22 2) refl refl (bits_below w 0 5) (bits_below w 5 5) (wider w 10) (bits_below w 22 2) h (row-sum (sve.row sve.sxtb) w refl h t)
sve_row sve.uxtb w h t = form_unary (codes "uxtb") 0x0411A000 w (bits w 0 5) (bits w 5 5) (bits w 10 3) (bits w 22 2) refl refl (bits_below w 0 5) (bits_below w 5 5) (wider w 10) (bits_below w 22 2) h (row-sum (sve.row sve.uxtb) w refl h t)
sve_row sve.sxth w h t = form_unary (codes "sxth") 0x0412A000 w (bits w 0 5) (bits w 5 5) (bits w 10 3) (bits w 22 2) refl refl (bits_below w 0 5) (bits_below w 5 5) (wider w 10) (bits_below w 22 2) h (row-sum (sve.row sve.sxth) w refl h t)
sve_row sve.uxth w h t = form_unary (codes "uxth") 0x0413A000 w (bits w 0 5) (bits w 5 5) (bits w 10 3) (bits w 22 2) refl refl (bits_below w 0 5) (bits_below w 5 5) (wider w 10) (bits_below w 22 2) h (row-sum (sve.row sve.uxth) w refl h t)
sve_row sve.sxtw w h t = form_extend (codes "sxtw") 0x04D4A000 w (bits w 0 5) (bits w 5 5) (bits w 10 3) refl refl (bits_below w 0 5) (bits_below w 5 5) (wider w 10) h (row-sum (sve.row sve.sxtw) w refl h t)
sve_row sve.uxtw w h t = form_extend (codes "uxtw") 0x04D5A000 w (bits w 0 5) (bits w 5 5) (bits w 10 3) refl refl (bits_below w 0 5) (bits_below w 5 5) (wider w 10) h (row-sum (sve.row sve.uxtw) w refl h t)
sve_row sve.uaddv w h t = form_reduce (codes "d") d-blanked (codes "uaddv") 0x04012000 w (bits w 0 5) (bits w 5 5) (bits w 10 3) (bits w 22 2) refl refl (bits_below w 0 5) (bits_below w 5 5) (wider w 10) (bits_below w 22 2) h (row-sum (sve.row sve.uaddv) w refl h t)
sve_row sve.smaxv w h t = reduce_any (codes "smaxv") 0x04082000 w (bits w 0 5) (bits w 5 5) (bits w 10 3) (bits w 22 2) refl refl (bits_below w 0 5) (bits_below w 5 5) (wider w 10) (bits_below w 22 2) h (row-sum (sve.row sve.smaxv) w refl h t)
sve_row sve.umaxv w h t = reduce_any (codes "umaxv") 0x04092000 w (bits w 0 5) (bits w 5 5) (bits w 10 3) (bits w 22 2) refl refl (bits_below w 0 5) (bits_below w 5 5) (wider w 10) (bits_below w 22 2) h (row-sum (sve.row sve.umaxv) w refl h t)
sve_row sve.sminv w h t = reduce_any (codes "sminv") 0x040A2000 w (bits w 0 5) (bits w 5 5) (bits w 10 3) (bits w 22 2) refl refl (bits_below w 0 5) (bits_below w 5 5) (wider w 10) (bits_below w 22 2) h (row-sum (sve.row sve.sminv) w refl h t)
sve_row sve.uminv w h t = reduce_any (codes "uminv") 0x040B2000 w (bits w 0 5) (bits w 5 5) (bits w 10 3) (bits w 22 2) refl refl (bits_below w 0 5) (bits_below w 5 5) (wider w 10) (bits_below w 22 2) h (row-sum (sve.row sve.uminv) w refl h t)
sve_row sve.orv w h t = reduce_any (codes "orv") 0x04182000 w (bits w 0 5) (bits w 5 5) (bits w 10 3) (bits w 22 2) refl refl (bits_below w 0 5) (bits_below w 5 5) (wider w 10) (bits_below w 22 2) h (row-sum (sve.row sve.orv) w refl h t)
sve_row sve.eorv w h t = reduce_any (codes "eorv") 0x04192000 w (bits w 0 5) (bits w 5 5) (bits w 10 3) (bits w 22 2) refl refl (bits_below w 0 5) (bits_below w 5 5) (wider w 10) (bits_below w 22 2) h (row-sum (sve.row sve.eorv) w refl h t)
sve_row sve.andv w h t = reduce_any (codes "andv") 0x041A2000 w (bits w 0 5) (bits w 5 5) (bits w 10 3) (bits w 22 2) refl refl (bits_below w 0 5) (bits_below w 5 5) (wider w 10) (bits_below w 22 2) h (row-sum (sve.row sve.andv) w refl h t)
sve_row sve.cmphs w h t = form_compare_z (codes "cmphs") 0x24000000 w (bits w 0 4) (bits w 5 5) (bits w 10 3) (bits w 16 5) (bits w 22 2) refl refl (bits_below w 0 4) (bits_below w 5 5) (wider w 10) (bits_below w 16 5) (bits_below w 22 2) h (row-sum (sve.row sve.cmphs) w refl h t)
sve_row sve.cmphi w h t = form_compare_z (codes "cmphi") 0x24000010 w (bits w 0 4) (bits w 5 5) (bits w 10 3) (bits w 16 5) (bits w 22 2) refl refl (bits_below w 0 4) (bits_below w 5 5) (wider w 10) (bits_below w 16 5) (bits_below w 22 2) h (row-sum (sve.row sve.cmphi) w refl h t)
sve_row sve.cmpge w h t = form_compare_z (codes "cmpge") 0x24008000 w (bits w 0 4) (bits w 5 5) (bits w 10 3) (bits w 16 5) (bits w 22 2) refl refl (bits_below w 0 4) (bits_below w 5 5) (wider w 10) (bits_below w 16 5) (bits_below w 22 2) h (row-sum (sve.row sve.cmpge) w refl h t)
sve_row sve.cmpgt w h t = form_compare_z (codes "cmpgt") 0x24008010 w (bits w 0 4) (bits w 5 5) (bits w 10 3) (bits w 16 5) (bits w 22 2) refl refl (bits_below w 0 4) (bits_below w 5 5) (wider w 10) (bits_below w 16 5) (bits_below w 22 2) h (row-sum (sve.row sve.cmpgt) w refl h t)
sve_row sve.cmpeq w h t = form_compare_z (codes "cmpeq") 0x2400A000 w (bits w 0 4) (bits w 5 5) (bits w 10 3) (bits w 16 5) (bits w 22 2) refl refl (bits_below w 0 4) (bits_below w 5 5) (wider w 10) (bits_below w 16 5) (bits_below w 22 2) h (row-sum (sve.row sve.cmpeq) w refl h t)
sve_row sve.cmpne w h t = form_compare_z (codes "cmpne") 0x2400A010 w (bits w 0 4) (bits w 5 5) (bits w 10 3) (bits w 16 5) (bits w 22 2) refl refl (bits_below w 0 4) (bits_below w 5 5) (wider w 10) (bits_below w 16 5) (bits_below w 22 2) h (row-sum (sve.row sve.cmpne) w refl h t)
sve_row sve.ld1 w h t = holds_below (λ d. 0xA4004000 + (bits w 0 5) * 1 + (bits w 5 5) * 32 + (bits w 10 3) * 1024 + (bits w 16 5) * 65536 + d * 2097152 ≡ w → candidate (sve_text.text_of sve.ld1 ((bits w 0 5) ∷ (bits w 5 5) ∷ (bits w 10 3) ∷ (bits w 16 5) ∷ d ∷ [])) ≡ Some w) 16 (
  (λ e. form_load_lsl 2097152 (codes "ld1d") 0xA5804000 w (bits w 0 5) (bits w 5 5) (bits w 10 3) (bits w 16 5) 3 3 refl refl (bits_below w 0 5) (bits_below w 5 5) (wider w 10) (bits_below w 16 5) (omega arith) (omega arith) refl (omega arith)),
  (
    (λ e. form_load 18446744073707454464 (codes "ld1sb") 0xA5E04000 w (bits w 0 5) (bits w 5 5) (bits w 10 3) (bits w 16 5) 1 refl refl (bits_below w 0 5) (bits_below w 5 5) (wider w 10) (bits_below w 16 5) (omega arith) (omega arith)),
    (
      (λ e. form_load 18446744073707454464 (codes "ld1sb") 0xA5E04000 w (bits w 0 5) (bits w 5 5) (bits w 10 3) (bits w 16 5) 2 refl refl (bits_below w 0 5) (bits_below w 5 5) (wider w 10) (bits_below w 16 5) (omega arith) (omega arith)),
      (
        (λ e. form_load 18446744073707454464 (codes "ld1sb") 0xA5E04000 w (bits w 0 5) (bits w 5 5) (bits w 10 3) (bits w 16 5) 3 refl refl (bits_below w 0 5) (bits_below w 5 5) (wider w 10) (bits_below w 16 5) (omega arith) (omega arith)),
        (
          (λ e. form_load_lsl 2097152 (codes "ld1w") 0xA5004000 w (bits w 0 5) (bits w 5 5) (bits w 10 3) (bits w 16 5) 3 2 refl refl (bits_below w 0 5) (bits_below w 5 5) (wider w 10) (bits_below w 16 5) (omega arith) (omega arith) refl (omega arith)),
          (
            (λ e. form_load_lsl 2097152 (codes "ld1w") 0xA5004000 w (bits w 0 5) (bits w 5 5) (bits w 10 3) (bits w 16 5) 2 2 refl refl (bits_below w 0 5) (bits_below w 5 5) (wider w 10) (bits_below w 16 5) (omega arith) (omega arith) refl (omega arith)),
            (
              (λ e. form_load_lsl 18446744073707454464 (codes "ld1sh") 0xA5604000 w (bits w 0 5) (bits w 5 5) (bits w 10 3) (bits w 16 5) 2 1 refl refl (bits_below w 0 5) (bits_below w 5 5) (wider w 10) (bits_below w 16 5) (omega arith) (omega arith) refl (omega arith)),
              (
                (λ e. form_load_lsl 18446744073707454464 (codes "ld1sh") 0xA5604000 w (bits w 0 5) (bits w 5 5) (bits w 10 3) (bits w 16 5) 3 1 refl refl (bits_below w 0 5) (bits_below w 5 5) (wider w 10) (bits_below w 16 5) (omega arith) (omega arith) refl (omega arith)),
                (
                  (λ e. form_load_lsl 2097152 (codes "ld1h") 0xA4804000 w (bits w 0 5) (bits w 5 5) (bits w 10 3) (bits w 16 5) 3 1 refl refl (bits_below w 0 5) (bits_below w 5 5) (wider w 10) (bits_below w 16 5) (omega arith) (omega arith) refl (omega arith)),
                  (
                    (λ e. form_load_lsl 2097152 (codes "ld1h") 0xA4804000 w (bits w 0 5) (bits w 5 5) (bits w 10 3) (bits w 16 5) 2 1 refl refl (bits_below w 0 5) (bits_below w 5 5) (wider w 10) (bits_below w 16 5) (omega arith) (omega arith) refl (omega arith)),
                    (
                      (λ e. form_load_lsl 2097152 (codes "ld1h") 0xA4804000 w (bits w 0 5) (bits w 5 5) (bits w 10 3) (bits w 16 5) 1 1 refl refl (bits_below w 0 5) (bits_below w 5 5) (wider w 10) (bits_below w 16 5) (omega arith) (omega arith) refl (omega arith)),
                      (
                        (λ e. form_load_lsl 18446744073707454464 (codes "ld1sw") 0xA4E04000 w (bits w 0 5) (bits w 5 5) (bits w 10 3) (bits w 16 5) 3 2 refl refl (bits_below w 0 5) (bits_below w 5 5) (wider w 10) (bits_below w 16 5) (omega arith) (omega arith) refl (omega arith)),
                        (
                          (λ e. form_load 2097152 (codes "ld1b") 0xA4004000 w (bits w 0 5) (bits w 5 5) (bits w 10 3) (bits w 16 5) 3 refl refl (bits_below w 0 5) (bits_below w 5 5) (wider w 10) (bits_below w 16 5) (omega arith) (omega arith)),
                          (
                            (λ e. form_load 2097152 (codes "ld1b") 0xA4004000 w (bits w 0 5) (bits w 5 5) (bits w 10 3) (bits w 16 5) 2 refl refl (bits_below w 0 5) (bits_below w 5 5) (wider w 10) (bits_below w 16 5) (omega arith) (omega arith)),
                            (
                              (λ e. form_load 2097152 (codes "ld1b") 0xA4004000 w (bits w 0 5) (bits w 5 5) (bits w 10 3) (bits w 16 5) 1 refl refl (bits_below w 0 5) (bits_below w 5 5) (wider w 10) (bits_below w 16 5) (omega arith) (omega arith)),
                              (
                                (λ e. form_load 2097152 (codes "ld1b") 0xA4004000 w (bits w 0 5) (bits w 5 5) (bits w 10 3) (bits w 16 5) 0 refl refl (bits_below w 0 5) (bits_below w 5 5) (wider w 10) (bits_below w 16 5) (omega arith) (omega arith)),
                                tt,
                              ),
                            ),
                          ),
                        ),
                      ),
                    ),
                  ),
                ),
              ),
            ),
          ),
        ),
      ),
    ),
  ),
) (bits w 21 4) (bits_below w 21 4) (row-sum (sve.row sve.ld1) w refl h t)
sve_row sve.ldff1 w h t = holds_below (λ d. 0xA4006000 + (bits w 0 5) * 1 + (bits w 5 5) * 32 + (bits w 10 3) * 1024 + (bits w 16 5) * 65536 + d * 2097152 ≡ w → candidate (sve_text.text_of sve.ldff1 ((bits w 0 5) ∷ (bits w 5 5) ∷ (bits w 10 3) ∷ (bits w 16 5) ∷ d ∷ [])) ≡ Some w) 16 (
  (λ e. form_load_lsl 2097152 (codes "ldff1d") 0xA5806000 w (bits w 0 5) (bits w 5 5) (bits w 10 3) (bits w 16 5) 3 3 refl refl (bits_below w 0 5) (bits_below w 5 5) (wider w 10) (bits_below w 16 5) (omega arith) (omega arith) refl (omega arith)),
  (
    (λ e. form_load 18446744073707454464 (codes "ldff1sb") 0xA5E06000 w (bits w 0 5) (bits w 5 5) (bits w 10 3) (bits w 16 5) 1 refl refl (bits_below w 0 5) (bits_below w 5 5) (wider w 10) (bits_below w 16 5) (omega arith) (omega arith)),
    (
      (λ e. form_load 18446744073707454464 (codes "ldff1sb") 0xA5E06000 w (bits w 0 5) (bits w 5 5) (bits w 10 3) (bits w 16 5) 2 refl refl (bits_below w 0 5) (bits_below w 5 5) (wider w 10) (bits_below w 16 5) (omega arith) (omega arith)),
      (
        (λ e. form_load 18446744073707454464 (codes "ldff1sb") 0xA5E06000 w (bits w 0 5) (bits w 5 5) (bits w 10 3) (bits w 16 5) 3 refl refl (bits_below w 0 5) (bits_below w 5 5) (wider w 10) (bits_below w 16 5) (omega arith) (omega arith)),
        (
          (λ e. form_load_lsl 2097152 (codes "ldff1w") 0xA5006000 w (bits w 0 5) (bits w 5 5) (bits w 10 3) (bits w 16 5) 3 2 refl refl (bits_below w 0 5) (bits_below w 5 5) (wider w 10) (bits_below w 16 5) (omega arith) (omega arith) refl (omega arith)),
          (
            (λ e. form_load_lsl 2097152 (codes "ldff1w") 0xA5006000 w (bits w 0 5) (bits w 5 5) (bits w 10 3) (bits w 16 5) 2 2 refl refl (bits_below w 0 5) (bits_below w 5 5) (wider w 10) (bits_below w 16 5) (omega arith) (omega arith) refl (omega arith)),
            (
              (λ e. form_load_lsl 18446744073707454464 (codes "ldff1sh") 0xA5606000 w (bits w 0 5) (bits w 5 5) (bits w 10 3) (bits w 16 5) 2 1 refl refl (bits_below w 0 5) (bits_below w 5 5) (wider w 10) (bits_below w 16 5) (omega arith) (omega arith) refl (omega arith)),
              (
                (λ e. form_load_lsl 18446744073707454464 (codes "ldff1sh") 0xA5606000 w (bits w 0 5) (bits w 5 5) (bits w 10 3) (bits w 16 5) 3 1 refl refl (bits_below w 0 5) (bits_below w 5 5) (wider w 10) (bits_below w 16 5) (omega arith) (omega arith) refl (omega arith)),
                (
                  (λ e. form_load_lsl 2097152 (codes "ldff1h") 0xA4806000 w (bits w 0 5) (bits w 5 5) (bits w 10 3) (bits w 16 5) 3 1 refl refl (bits_below w 0 5) (bits_below w 5 5) (wider w 10) (bits_below w 16 5) (omega arith) (omega arith) refl (omega arith)),
                  (
                    (λ e. form_load_lsl 2097152 (codes "ldff1h") 0xA4806000 w (bits w 0 5) (bits w 5 5) (bits w 10 3) (bits w 16 5) 2 1 refl refl (bits_below w 0 5) (bits_below w 5 5) (wider w 10) (bits_below w 16 5) (omega arith) (omega arith) refl (omega arith)),
                    (
                      (λ e. form_load_lsl 2097152 (codes "ldff1h") 0xA4806000 w (bits w 0 5) (bits w 5 5) (bits w 10 3) (bits w 16 5) 1 1 refl refl (bits_below w 0 5) (bits_below w 5 5) (wider w 10) (bits_below w 16 5) (omega arith) (omega arith) refl (omega arith)),
                      (
                        (λ e. form_load_lsl 18446744073707454464 (codes "ldff1sw") 0xA4E06000 w (bits w 0 5) (bits w 5 5) (bits w 10 3) (bits w 16 5) 3 2 refl refl (bits_below w 0 5) (bits_below w 5 5) (wider w 10) (bits_below w 16 5) (omega arith) (omega arith) refl (omega arith)),
                        (
                          (λ e. form_load 2097152 (codes "ldff1b") 0xA4006000 w (bits w 0 5) (bits w 5 5) (bits w 10 3) (bits w 16 5) 3 refl refl (bits_below w 0 5) (bits_below w 5 5) (wider w 10) (bits_below w 16 5) (omega arith) (omega arith)),
                          (
                            (λ e. form_load 2097152 (codes "ldff1b") 0xA4006000 w (bits w 0 5) (bits w 5 5) (bits w 10 3) (bits w 16 5) 2 refl refl (bits_below w 0 5) (bits_below w 5 5) (wider w 10) (bits_below w 16 5) (omega arith) (omega arith)),
                            (
                              (λ e. form_load 2097152 (codes "ldff1b") 0xA4006000 w (bits w 0 5) (bits w 5 5) (bits w 10 3) (bits w 16 5) 1 refl refl (bits_below w 0 5) (bits_below w 5 5) (wider w 10) (bits_below w 16 5) (omega arith) (omega arith)),
                              (
                                (λ e. form_load 2097152 (codes "ldff1b") 0xA4006000 w (bits w 0 5) (bits w 5 5) (bits w 10 3) (bits w 16 5) 0 refl refl (bits_below w 0 5) (bits_below w 5 5) (wider w 10) (bits_below w 16 5) (omega arith) (omega arith)),
                                tt,
                              ),
                            ),
                          ),
                        ),
                      ),
                    ),
                  ),
                ),
              ),
            ),
          ),
        ),
      ),
    ),
  ),
) (bits w 21 4) (bits_below w 21 4) (row-sum (sve.row sve.ldff1) w refl h t)
sve_row sve.ldnf1 w h t = holds_below (λ d. 0xA410A000 + (bits w 0 5) * 1 + (bits w 5 5) * 32 + (bits w 10 3) * 1024 + d * 2097152 ≡ w → candidate (sve_text.text_of sve.ldnf1 ((bits w 0 5) ∷ (bits w 5 5) ∷ (bits w 10 3) ∷ d ∷ [])) ≡ Some w) 16 (
  (λ e. form_load_no 2097152 (codes "ldnf1d") 0xA590A000 w (bits w 0 5) (bits w 5 5) (bits w 10 3) 3 refl refl (bits_below w 0 5) (bits_below w 5 5) (wider w 10) (omega arith) (omega arith)),
  (
    (λ e. form_load_no 18446744073707454464 (codes "ldnf1sb") 0xA5F0A000 w (bits w 0 5) (bits w 5 5) (bits w 10 3) 1 refl refl (bits_below w 0 5) (bits_below w 5 5) (wider w 10) (omega arith) (omega arith)),
    (
      (λ e. form_load_no 18446744073707454464 (codes "ldnf1sb") 0xA5F0A000 w (bits w 0 5) (bits w 5 5) (bits w 10 3) 2 refl refl (bits_below w 0 5) (bits_below w 5 5) (wider w 10) (omega arith) (omega arith)),
      (
        (λ e. form_load_no 18446744073707454464 (codes "ldnf1sb") 0xA5F0A000 w (bits w 0 5) (bits w 5 5) (bits w 10 3) 3 refl refl (bits_below w 0 5) (bits_below w 5 5) (wider w 10) (omega arith) (omega arith)),
        (
          (λ e. form_load_no 2097152 (codes "ldnf1w") 0xA510A000 w (bits w 0 5) (bits w 5 5) (bits w 10 3) 3 refl refl (bits_below w 0 5) (bits_below w 5 5) (wider w 10) (omega arith) (omega arith)),
          (
            (λ e. form_load_no 2097152 (codes "ldnf1w") 0xA510A000 w (bits w 0 5) (bits w 5 5) (bits w 10 3) 2 refl refl (bits_below w 0 5) (bits_below w 5 5) (wider w 10) (omega arith) (omega arith)),
            (
              (λ e. form_load_no 18446744073707454464 (codes "ldnf1sh") 0xA570A000 w (bits w 0 5) (bits w 5 5) (bits w 10 3) 2 refl refl (bits_below w 0 5) (bits_below w 5 5) (wider w 10) (omega arith) (omega arith)),
              (
                (λ e. form_load_no 18446744073707454464 (codes "ldnf1sh") 0xA570A000 w (bits w 0 5) (bits w 5 5) (bits w 10 3) 3 refl refl (bits_below w 0 5) (bits_below w 5 5) (wider w 10) (omega arith) (omega arith)),
                (
                  (λ e. form_load_no 2097152 (codes "ldnf1h") 0xA490A000 w (bits w 0 5) (bits w 5 5) (bits w 10 3) 3 refl refl (bits_below w 0 5) (bits_below w 5 5) (wider w 10) (omega arith) (omega arith)),
                  (
                    (λ e. form_load_no 2097152 (codes "ldnf1h") 0xA490A000 w (bits w 0 5) (bits w 5 5) (bits w 10 3) 2 refl refl (bits_below w 0 5) (bits_below w 5 5) (wider w 10) (omega arith) (omega arith)),
                    (
                      (λ e. form_load_no 2097152 (codes "ldnf1h") 0xA490A000 w (bits w 0 5) (bits w 5 5) (bits w 10 3) 1 refl refl (bits_below w 0 5) (bits_below w 5 5) (wider w 10) (omega arith) (omega arith)),
                      (
                        (λ e. form_load_no 18446744073707454464 (codes "ldnf1sw") 0xA4F0A000 w (bits w 0 5) (bits w 5 5) (bits w 10 3) 3 refl refl (bits_below w 0 5) (bits_below w 5 5) (wider w 10) (omega arith) (omega arith)),
                        (
                          (λ e. form_load_no 2097152 (codes "ldnf1b") 0xA410A000 w (bits w 0 5) (bits w 5 5) (bits w 10 3) 3 refl refl (bits_below w 0 5) (bits_below w 5 5) (wider w 10) (omega arith) (omega arith)),
                          (
                            (λ e. form_load_no 2097152 (codes "ldnf1b") 0xA410A000 w (bits w 0 5) (bits w 5 5) (bits w 10 3) 2 refl refl (bits_below w 0 5) (bits_below w 5 5) (wider w 10) (omega arith) (omega arith)),
                            (
                              (λ e. form_load_no 2097152 (codes "ldnf1b") 0xA410A000 w (bits w 0 5) (bits w 5 5) (bits w 10 3) 1 refl refl (bits_below w 0 5) (bits_below w 5 5) (wider w 10) (omega arith) (omega arith)),
                              (
                                (λ e. form_load_no 2097152 (codes "ldnf1b") 0xA410A000 w (bits w 0 5) (bits w 5 5) (bits w 10 3) 0 refl refl (bits_below w 0 5) (bits_below w 5 5) (wider w 10) (omega arith) (omega arith)),
                                tt,
                              ),
                            ),
                          ),
                        ),
                      ),
                    ),
                  ),
                ),
              ),
            ),
          ),
        ),
      ),
    ),
  ),
) (bits w 21 4) (bits_below w 21 4) (row-sum (sve.row sve.ldnf1) w refl h t)
sve_row sve.gld1b w h t = form_gather (codes "ld1b") 0xC440C000 w (bits w 0 5) (bits w 5 5) (bits w 10 3) (bits w 16 5) refl refl (bits_below w 0 5) (bits_below w 5 5) (wider w 10) (bits_below w 16 5) h (row-sum (sve.row sve.gld1b) w refl h t)
sve_row sve.gld1h w h t = form_gather (codes "ld1h") 0xC4C0C000 w (bits w 0 5) (bits w 5 5) (bits w 10 3) (bits w 16 5) refl refl (bits_below w 0 5) (bits_below w 5 5) (wider w 10) (bits_below w 16 5) h (row-sum (sve.row sve.gld1h) w refl h t)
sve_row sve.gld1w w h t = form_gather (codes "ld1w") 0xC540C000 w (bits w 0 5) (bits w 5 5) (bits w 10 3) (bits w 16 5) refl refl (bits_below w 0 5) (bits_below w 5 5) (wider w 10) (bits_below w 16 5) h (row-sum (sve.row sve.gld1w) w refl h t)
sve_row sve.gld1d w h t = form_gather (codes "ld1d") 0xC5C0C000 w (bits w 0 5) (bits w 5 5) (bits w 10 3) (bits w 16 5) refl refl (bits_below w 0 5) (bits_below w 5 5) (wider w 10) (bits_below w 16 5) h (row-sum (sve.row sve.gld1d) w refl h t)
sve_row sve.gld1sb w h t = form_gather (codes "ld1sb") 0xC4408000 w (bits w 0 5) (bits w 5 5) (bits w 10 3) (bits w 16 5) refl refl (bits_below w 0 5) (bits_below w 5 5) (wider w 10) (bits_below w 16 5) h (row-sum (sve.row sve.gld1sb) w refl h t)
sve_row sve.gld1sh w h t = form_gather (codes "ld1sh") 0xC4C08000 w (bits w 0 5) (bits w 5 5) (bits w 10 3) (bits w 16 5) refl refl (bits_below w 0 5) (bits_below w 5 5) (wider w 10) (bits_below w 16 5) h (row-sum (sve.row sve.gld1sh) w refl h t)
sve_row sve.gld1sw w h t = form_gather (codes "ld1sw") 0xC5408000 w (bits w 0 5) (bits w 5 5) (bits w 10 3) (bits w 16 5) refl refl (bits_below w 0 5) (bits_below w 5 5) (wider w 10) (bits_below w 16 5) h (row-sum (sve.row sve.gld1sw) w refl h t)
sve_row sve.st1 w h t = holds_below (λ d. 0xE4004000 + (bits w 0 5) * 1 + (bits w 5 5) * 32 + (bits w 10 3) * 1024 + (bits w 16 5) * 65536 + (bits w 21 2) * 2097152 + d * 8388608 ≡ w → candidate (sve_text.text_of sve.st1 ((bits w 0 5) ∷ (bits w 5 5) ∷ (bits w 10 3) ∷ (bits w 16 5) ∷ (bits w 21 2) ∷ d ∷ [])) ≡ Some w) 4 (
  (λ e. form_store_lsl (codes "st1d") 0xE5804000 w (bits w 0 5) (bits w 5 5) (bits w 10 3) (bits w 16 5) (bits w 21 2) 3 refl refl (bits_below w 0 5) (bits_below w 5 5) (wider w 10) (bits_below w 16 5) (bits_below w 21 2) (omega arith) refl h (omega arith)),
  (
    (λ e. form_store_lsl (codes "st1w") 0xE5004000 w (bits w 0 5) (bits w 5 5) (bits w 10 3) (bits w 16 5) (bits w 21 2) 2 refl refl (bits_below w 0 5) (bits_below w 5 5) (wider w 10) (bits_below w 16 5) (bits_below w 21 2) (omega arith) refl h (omega arith)),
    (
      (λ e. form_store_lsl (codes "st1h") 0xE4804000 w (bits w 0 5) (bits w 5 5) (bits w 10 3) (bits w 16 5) (bits w 21 2) 1 refl refl (bits_below w 0 5) (bits_below w 5 5) (wider w 10) (bits_below w 16 5) (bits_below w 21 2) (omega arith) refl h (omega arith)),
      (
        (λ e. form_store (codes "st1b") 0xE4004000 w (bits w 0 5) (bits w 5 5) (bits w 10 3) (bits w 16 5) (bits w 21 2) refl refl (bits_below w 0 5) (bits_below w 5 5) (wider w 10) (bits_below w 16 5) (bits_below w 21 2) h (omega arith)),
        tt,
      ),
    ),
  ),
) (bits w 23 2) (bits_below w 23 2) (row-sum (sve.row sve.st1) w refl h t)
