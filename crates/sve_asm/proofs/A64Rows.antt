-- The texts of the A64 rows, read back.
use Rattle.std.proofs.Common.{◌≡◌, ℕ, ◌^◌, ◌<◌, true, Some, refl, arith}
use Rattle.std.specs.Prelude.{codes}
use Rattle.std.proofs.lemmas.Bool.{and_parts}
use Rattle.word_rows.specs.Field.{bits}
use Rattle.word_rows.specs.Row.{takes, numbers_in}
use Rattle.a64_code.specs.Table as a64
use Rattle.list_text.specs.A64Text as a64_text
use Rattle.asm_forms.specs.Rules.{form_of, form_in, base_of, data_processing, branches, offset_accesses, indexed_accesses, predicates, counts, vectors, vector_accesses}
use Rattle.asm_forms.specs.Reading.{candidate}
use Rattle.list_text.specs.Parts.{x_register, w_register, x_or_sp}
use Rattle.sve_asm.proofs.Pieces.{x-blanked, w-blanked, x_or_sp-blanked}
use Rattle.sve_asm.proofs.Sums.{sum_into, row-sum}
use Rattle.sve_asm.proofs.ScalarForms.{form_bitfield, form_exception, form_multiply, form_ret, form_select, form_umov, form_variable}
use Rattle.sve_asm.proofs.AccessForms.{form_index}
use Rattle.sve_asm.proofs.Cases.{branch, branch_if, compare, imm, indexed, offset, shifted, wide, whole_word, bits_below, admitted}

pub a64_row : (n : a64.Name) (w : ℕ) → w < 2 ^ 32 → takes (a64.row n) w ≡ true → candidate (a64_text.text_of n (numbers_in w (a64.row n).fields)) ≡ Some w
unfolding sum_into form_of form_in base_of data_processing branches offset_accesses indexed_accesses predicates counts vectors vector_accesses
a64_row a64.add_imm w h t = imm x_or_sp x_or_sp-blanked (codes "add") 0x91000000 0x91400000 w (bits w 0 5) (bits w 5 5) (bits w 10 12) (bits w 22 1) refl refl refl refl (bits_below w 0 5) (bits_below w 5 5) (bits_below w 10 12) (bits_below w 22 1) h (row-sum (a64.row a64.add_imm) w refl h t)
a64_row a64.sub_imm w h t = imm x_or_sp x_or_sp-blanked (codes "sub") 0xD1000000 0xD1400000 w (bits w 0 5) (bits w 5 5) (bits w 10 12) (bits w 22 1) refl refl refl refl (bits_below w 0 5) (bits_below w 5 5) (bits_below w 10 12) (bits_below w 22 1) h (row-sum (a64.row a64.sub_imm) w refl h t)
a64_row a64.subs_imm w h t = imm x_register x-blanked (codes "subs") 0xF1000000 0xF1400000 w (bits w 0 5) (bits w 5 5) (bits w 10 12) (bits w 22 1) refl refl refl refl (bits_below w 0 5) (bits_below w 5 5) (bits_below w 10 12) (bits_below w 22 1) h (row-sum (a64.row a64.subs_imm) w refl h t)
a64_row a64.add w h t = shifted (codes "add") 0x8B000000 w (bits w 0 5) (bits w 5 5) (bits w 10 6) (bits w 16 5) (bits w 22 2) refl refl refl (bits_below w 0 5) (bits_below w 5 5) (bits_below w 10 6) (bits_below w 16 5) (bits_below w 22 2) h (row-sum (a64.row a64.add) w refl h t)
a64_row a64.sub w h t = shifted (codes "sub") 0xCB000000 w (bits w 0 5) (bits w 5 5) (bits w 10 6) (bits w 16 5) (bits w 22 2) refl refl refl (bits_below w 0 5) (bits_below w 5 5) (bits_below w 10 6) (bits_below w 16 5) (bits_below w 22 2) h (row-sum (a64.row a64.sub) w refl h t)
a64_row a64.subs w h t = shifted (codes "subs") 0xEB000000 w (bits w 0 5) (bits w 5 5) (bits w 10 6) (bits w 16 5) (bits w 22 2) refl refl refl (bits_below w 0 5) (bits_below w 5 5) (bits_below w 10 6) (bits_below w 16 5) (bits_below w 22 2) h (row-sum (a64.row a64.subs) w refl h t)
a64_row a64.land w h t = shifted (codes "and") 0x8A000000 w (bits w 0 5) (bits w 5 5) (bits w 10 6) (bits w 16 5) (bits w 22 2) refl refl refl (bits_below w 0 5) (bits_below w 5 5) (bits_below w 10 6) (bits_below w 16 5) (bits_below w 22 2) h (row-sum (a64.row a64.land) w refl h t)
a64_row a64.orr w h t = shifted (codes "orr") 0xAA000000 w (bits w 0 5) (bits w 5 5) (bits w 10 6) (bits w 16 5) (bits w 22 2) refl refl refl (bits_below w 0 5) (bits_below w 5 5) (bits_below w 10 6) (bits_below w 16 5) (bits_below w 22 2) h (row-sum (a64.row a64.orr) w refl h t)
a64_row a64.eor w h t = shifted (codes "eor") 0xCA000000 w (bits w 0 5) (bits w 5 5) (bits w 10 6) (bits w 16 5) (bits w 22 2) refl refl refl (bits_below w 0 5) (bits_below w 5 5) (bits_below w 10 6) (bits_below w 16 5) (bits_below w 22 2) h (row-sum (a64.row a64.eor) w refl h t)
a64_row a64.orn w h t = shifted (codes "orn") 0xAA200000 w (bits w 0 5) (bits w 5 5) (bits w 10 6) (bits w 16 5) (bits w 22 2) refl refl refl (bits_below w 0 5) (bits_below w 5 5) (bits_below w 10 6) (bits_below w 16 5) (bits_below w 22 2) h (row-sum (a64.row a64.orn) w refl h t)
a64_row a64.movz w h t = wide (codes "movz") 0xD2800000 w (bits w 0 5) (bits w 5 16) (bits w 21 2) refl refl refl (bits_below w 0 5) (bits_below w 5 16) (bits_below w 21 2) h (row-sum (a64.row a64.movz) w refl h t)
a64_row a64.movk w h t = wide (codes "movk") 0xF2800000 w (bits w 0 5) (bits w 5 16) (bits w 21 2) refl refl refl (bits_below w 0 5) (bits_below w 5 16) (bits_below w 21 2) h (row-sum (a64.row a64.movk) w refl h t)
a64_row a64.movn w h t = wide (codes "movn") 0x92800000 w (bits w 0 5) (bits w 5 16) (bits w 21 2) refl refl refl (bits_below w 0 5) (bits_below w 5 16) (bits_below w 21 2) h (row-sum (a64.row a64.movn) w refl h t)
a64_row a64.madd w h t = form_multiply (codes "madd") 0x9B000000 w (bits w 0 5) (bits w 5 5) (bits w 10 5) (bits w 16 5) refl refl (bits_below w 0 5) (bits_below w 5 5) (bits_below w 10 5) (bits_below w 16 5) h (row-sum (a64.row a64.madd) w refl h t)
a64_row a64.msub w h t = form_multiply (codes "msub") 0x9B008000 w (bits w 0 5) (bits w 5 5) (bits w 10 5) (bits w 16 5) refl refl (bits_below w 0 5) (bits_below w 5 5) (bits_below w 10 5) (bits_below w 16 5) h (row-sum (a64.row a64.msub) w refl h t)
a64_row a64.lslv w h t = form_variable (codes "lslv") 0x9AC02000 w (bits w 0 5) (bits w 5 5) (bits w 16 5) refl refl (bits_below w 0 5) (bits_below w 5 5) (bits_below w 16 5) h (row-sum (a64.row a64.lslv) w refl h t)
a64_row a64.lsrv w h t = form_variable (codes "lsrv") 0x9AC02400 w (bits w 0 5) (bits w 5 5) (bits w 16 5) refl refl (bits_below w 0 5) (bits_below w 5 5) (bits_below w 16 5) h (row-sum (a64.row a64.lsrv) w refl h t)
a64_row a64.asrv w h t = form_variable (codes "asrv") 0x9AC02800 w (bits w 0 5) (bits w 5 5) (bits w 16 5) refl refl (bits_below w 0 5) (bits_below w 5 5) (bits_below w 16 5) h (row-sum (a64.row a64.asrv) w refl h t)
a64_row a64.sbfm w h t = form_bitfield (codes "sbfm") 0x93400000 w (bits w 0 5) (bits w 5 5) (bits w 10 6) (bits w 16 6) refl refl (bits_below w 0 5) (bits_below w 5 5) (bits_below w 10 6) (bits_below w 16 6) h (row-sum (a64.row a64.sbfm) w refl h t)
a64_row a64.ubfm w h t = form_bitfield (codes "ubfm") 0xD3400000 w (bits w 0 5) (bits w 5 5) (bits w 10 6) (bits w 16 6) refl refl (bits_below w 0 5) (bits_below w 5 5) (bits_below w 10 6) (bits_below w 16 6) h (row-sum (a64.row a64.ubfm) w refl h t)
a64_row a64.csel w h t = form_select (codes "csel") 0x9A800000 w (bits w 0 5) (bits w 5 5) (bits w 12 4) (bits w 16 5) refl refl (bits_below w 0 5) (bits_below w 5 5) (admitted (bits w 12 4) 15 (and_parts _ _ t).1) (bits_below w 16 5) h (row-sum (a64.row a64.csel) w refl h t)
a64_row a64.csinc w h t = form_select (codes "csinc") 0x9A800400 w (bits w 0 5) (bits w 5 5) (bits w 12 4) (bits w 16 5) refl refl (bits_below w 0 5) (bits_below w 5 5) (admitted (bits w 12 4) 15 (and_parts _ _ t).1) (bits_below w 16 5) h (row-sum (a64.row a64.csinc) w refl h t)
a64_row a64.b w h t = branch (codes "b") 0x14000000 0x18000000 w (bits w 0 26) refl refl refl refl (bits_below w 0 26) h (row-sum (a64.row a64.b) w refl h t)
a64_row a64.b_cond w h t = branch_if (codes "b") 0x54000000 0x55000000 w (bits w 0 4) (bits w 5 19) refl refl refl refl (admitted (bits w 0 4) 15 (and_parts _ _ t).1) (bits_below w 5 19) h (row-sum (a64.row a64.b_cond) w refl h t)
a64_row a64.cbz w h t = compare (codes "cbz") 0xB4000000 0xB5000000 w (bits w 0 5) (bits w 5 19) refl refl refl refl (bits_below w 0 5) (bits_below w 5 19) h (row-sum (a64.row a64.cbz) w refl h t)
a64_row a64.cbnz w h t = compare (codes "cbnz") 0xB5000000 0xB6000000 w (bits w 0 5) (bits w 5 19) refl refl refl refl (bits_below w 0 5) (bits_below w 5 19) h (row-sum (a64.row a64.cbnz) w refl h t)
a64_row a64.ret w h t = form_ret (codes "ret") 0xD65F0000 w (bits w 5 5) refl refl (bits_below w 5 5) h (row-sum (a64.row a64.ret) w refl h t)
a64_row a64.svc w h t = form_exception (codes "svc") 0xD4000001 w (bits w 5 16) refl refl (bits_below w 5 16) h (row-sum (a64.row a64.svc) w refl h t)
a64_row a64.brk w h t = form_exception (codes "brk") 0xD4200000 w (bits w 5 16) refl refl (bits_below w 5 16) h (row-sum (a64.row a64.brk) w refl h t)
a64_row a64.nop w h t = whole_word (codes "nop") 0xD503201F w refl refl h (row-sum (a64.row a64.nop) w refl h t)
a64_row a64.umov w h t = form_umov (codes "umov") 0x4E083C00 w (bits w 0 5) (bits w 5 5) refl refl (bits_below w 0 5) (bits_below w 5 5) h (row-sum (a64.row a64.umov) w refl h t)
a64_row a64.ldrb w h t = offset w_register 119 1 1024 w-blanked (λ n h. (omega arith, omega arith)) (codes "ldrb") 0x39400000 w (bits w 0 5) (bits w 5 5) (bits w 10 12) refl refl refl (bits_below w 0 5) (bits_below w 5 5) (bits_below w 10 12) h (row-sum (a64.row a64.ldrb) w refl h t)
a64_row a64.ldrsb w h t = offset x_register 120 1 1024 x-blanked (λ n h. (omega arith, omega arith)) (codes "ldrsb") 0x39800000 w (bits w 0 5) (bits w 5 5) (bits w 10 12) refl refl refl (bits_below w 0 5) (bits_below w 5 5) (bits_below w 10 12) h (row-sum (a64.row a64.ldrsb) w refl h t)
a64_row a64.strb w h t = offset w_register 119 1 1024 w-blanked (λ n h. (omega arith, omega arith)) (codes "strb") 0x39000000 w (bits w 0 5) (bits w 5 5) (bits w 10 12) refl refl refl (bits_below w 0 5) (bits_below w 5 5) (bits_below w 10 12) h (row-sum (a64.row a64.strb) w refl h t)
a64_row a64.ldrh w h t = offset w_register 119 2 512 w-blanked (λ n h. (omega arith, omega arith)) (codes "ldrh") 0x79400000 w (bits w 0 5) (bits w 5 5) (bits w 10 12) refl refl refl (bits_below w 0 5) (bits_below w 5 5) (bits_below w 10 12) h (row-sum (a64.row a64.ldrh) w refl h t)
a64_row a64.ldr_w w h t = offset w_register 119 4 256 w-blanked (λ n h. (omega arith, omega arith)) (codes "ldr") 0xB9400000 w (bits w 0 5) (bits w 5 5) (bits w 10 12) refl refl refl (bits_below w 0 5) (bits_below w 5 5) (bits_below w 10 12) h (row-sum (a64.row a64.ldr_w) w refl h t)
a64_row a64.ldr_x w h t = offset x_register 120 8 128 x-blanked (λ n h. (omega arith, omega arith)) (codes "ldr") 0xF9400000 w (bits w 0 5) (bits w 5 5) (bits w 10 12) refl refl refl (bits_below w 0 5) (bits_below w 5 5) (bits_below w 10 12) h (row-sum (a64.row a64.ldr_x) w refl h t)
a64_row a64.ldrsh w h t = offset x_register 120 2 512 x-blanked (λ n h. (omega arith, omega arith)) (codes "ldrsh") 0x79800000 w (bits w 0 5) (bits w 5 5) (bits w 10 12) refl refl refl (bits_below w 0 5) (bits_below w 5 5) (bits_below w 10 12) h (row-sum (a64.row a64.ldrsh) w refl h t)
a64_row a64.ldrsw w h t = offset x_register 120 4 256 x-blanked (λ n h. (omega arith, omega arith)) (codes "ldrsw") 0xB9800000 w (bits w 0 5) (bits w 5 5) (bits w 10 12) refl refl refl (bits_below w 0 5) (bits_below w 5 5) (bits_below w 10 12) h (row-sum (a64.row a64.ldrsw) w refl h t)
a64_row a64.strh w h t = offset w_register 119 2 512 w-blanked (λ n h. (omega arith, omega arith)) (codes "strh") 0x79000000 w (bits w 0 5) (bits w 5 5) (bits w 10 12) refl refl refl (bits_below w 0 5) (bits_below w 5 5) (bits_below w 10 12) h (row-sum (a64.row a64.strh) w refl h t)
a64_row a64.str_w w h t = offset w_register 119 4 256 w-blanked (λ n h. (omega arith, omega arith)) (codes "str") 0xB9000000 w (bits w 0 5) (bits w 5 5) (bits w 10 12) refl refl refl (bits_below w 0 5) (bits_below w 5 5) (bits_below w 10 12) h (row-sum (a64.row a64.str_w) w refl h t)
a64_row a64.str_x w h t = offset x_register 120 8 128 x-blanked (λ n h. (omega arith, omega arith)) (codes "str") 0xF9000000 w (bits w 0 5) (bits w 5 5) (bits w 10 12) refl refl refl (bits_below w 0 5) (bits_below w 5 5) (bits_below w 10 12) h (row-sum (a64.row a64.str_x) w refl h t)
a64_row a64.ldrb_register w h t = form_index w_register 119 w-blanked (codes "ldrb") 0x38606800 w (bits w 0 5) (bits w 5 5) (bits w 16 5) 0 refl refl (bits_below w 0 5) (bits_below w 5 5) (bits_below w 16 5) refl h (row-sum (a64.row a64.ldrb_register) w refl h t)
a64_row a64.ldrsb_register w h t = form_index x_register 120 x-blanked (codes "ldrsb") 0x38A06800 w (bits w 0 5) (bits w 5 5) (bits w 16 5) 0 refl refl (bits_below w 0 5) (bits_below w 5 5) (bits_below w 16 5) refl h (row-sum (a64.row a64.ldrsb_register) w refl h t)
a64_row a64.strb_register w h t = form_index w_register 119 w-blanked (codes "strb") 0x38206800 w (bits w 0 5) (bits w 5 5) (bits w 16 5) 0 refl refl (bits_below w 0 5) (bits_below w 5 5) (bits_below w 16 5) refl h (row-sum (a64.row a64.strb_register) w refl h t)
a64_row a64.ldrh_register w h t = indexed w_register 119 1 w-blanked refl refl (omega arith) (codes "ldrh") 0x78606800 0x78607800 w (bits w 0 5) (bits w 5 5) (bits w 12 1) (bits w 16 5) refl refl refl refl (bits_below w 0 5) (bits_below w 5 5) (bits_below w 12 1) (bits_below w 16 5) h (row-sum (a64.row a64.ldrh_register) w refl h t)
a64_row a64.ldr_w_register w h t = indexed w_register 119 2 w-blanked refl refl (omega arith) (codes "ldr") 0xB8606800 0xB8607800 w (bits w 0 5) (bits w 5 5) (bits w 12 1) (bits w 16 5) refl refl refl refl (bits_below w 0 5) (bits_below w 5 5) (bits_below w 12 1) (bits_below w 16 5) h (row-sum (a64.row a64.ldr_w_register) w refl h t)
a64_row a64.ldr_x_register w h t = indexed x_register 120 3 x-blanked refl refl (omega arith) (codes "ldr") 0xF8606800 0xF8607800 w (bits w 0 5) (bits w 5 5) (bits w 12 1) (bits w 16 5) refl refl refl refl (bits_below w 0 5) (bits_below w 5 5) (bits_below w 12 1) (bits_below w 16 5) h (row-sum (a64.row a64.ldr_x_register) w refl h t)
a64_row a64.ldrsh_register w h t = indexed x_register 120 1 x-blanked refl refl (omega arith) (codes "ldrsh") 0x78A06800 0x78A07800 w (bits w 0 5) (bits w 5 5) (bits w 12 1) (bits w 16 5) refl refl refl refl (bits_below w 0 5) (bits_below w 5 5) (bits_below w 12 1) (bits_below w 16 5) h (row-sum (a64.row a64.ldrsh_register) w refl h t)
a64_row a64.ldrsw_register w h t = indexed x_register 120 2 x-blanked refl refl (omega arith) (codes "ldrsw") 0xB8A06800 0xB8A07800 w (bits w 0 5) (bits w 5 5) (bits w 12 1) (bits w 16 5) refl refl refl refl (bits_below w 0 5) (bits_below w 5 5) (bits_below w 12 1) (bits_below w 16 5) h (row-sum (a64.row a64.ldrsw_register) w refl h t)
a64_row a64.strh_register w h t = indexed w_register 119 1 w-blanked refl refl (omega arith) (codes "strh") 0x78206800 0x78207800 w (bits w 0 5) (bits w 5 5) (bits w 12 1) (bits w 16 5) refl refl refl refl (bits_below w 0 5) (bits_below w 5 5) (bits_below w 12 1) (bits_below w 16 5) h (row-sum (a64.row a64.strh_register) w refl h t)
a64_row a64.str_w_register w h t = indexed w_register 119 2 w-blanked refl refl (omega arith) (codes "str") 0xB8206800 0xB8207800 w (bits w 0 5) (bits w 5 5) (bits w 12 1) (bits w 16 5) refl refl refl refl (bits_below w 0 5) (bits_below w 5 5) (bits_below w 12 1) (bits_below w 16 5) h (row-sum (a64.row a64.str_w_register) w refl h t)
a64_row a64.str_x_register w h t = indexed x_register 120 3 x-blanked refl refl (omega arith) (codes "str") 0xF8206800 0xF8207800 w (bits w 0 5) (bits w 5 5) (bits w 12 1) (bits w 16 5) refl refl refl refl (bits_below w 0 5) (bits_below w 5 5) (bits_below w 12 1) (bits_below w 16 5) h (row-sum (a64.row a64.str_x_register) w refl h t)
