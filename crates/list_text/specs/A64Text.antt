-- The text of an A64 instruction, by its row and the numbers of the row's fields, lowest field first: the assembly syntax of
-- Arm DDI 0487, chapter C6, without aliases, and with the offsets of branches in bytes.
use Rattle.std.specs.Prelude.{ℕ, ◌*◌, List, ◌++◌, codes, decimal, slice_index}
use Rattle.word_rows.specs.Row.{Instruction}
use Rattle.a64_code.specs.Table.{Name, add_imm, sub_imm, subs_imm, add, sub, subs, land, orr, eor, orn, movz, movk, movn, madd, msub, lslv, lsrv, asrv, sbfm, ubfm, csel, csinc, b, b_cond, cbz, cbnz, ret, svc, brk, nop, umov, ldrb, ldrsb, strb, ldrh, ldr_w, ldr_x, ldrsh, ldrsw, strh, str_w, str_x, ldrb_register, ldrsb_register, strb_register, ldrh_register, ldr_w_register, ldr_x_register, ldrsh_register, ldrsw_register, strh_register, str_w_register, str_x_register}
use Rattle.list_text.specs.Parts.{x_register, w_register, x_or_sp, comma, constant, signed_constant, lsl_by, shifted_by, at_offset, at_register, cond_name}

-- of rd, rn, imm12, sh
abbrev pub add_sub_immediate : List ℕ → (ℕ → List ℕ) → List ℕ → List ℕ
add_sub_immediate mnemonic destination ns =
    mnemonic ++ destination (slice_index ns 0) ++ comma ++ x_or_sp (slice_index ns 1) ++ comma ++ constant (slice_index ns 2) ++ lsl_by (12 * slice_index ns 3)

-- of rd, rn, imm6, rm, shift
abbrev pub shifted_register : List ℕ → List ℕ → List ℕ
shifted_register mnemonic ns =
    mnemonic ++ x_register (slice_index ns 0) ++ comma ++ x_register (slice_index ns 1) ++ comma ++ x_register (slice_index ns 3) ++ shifted_by (slice_index ns 4) (slice_index ns 2)

-- of rd, imm16, hw
abbrev pub move_wide : List ℕ → List ℕ → List ℕ
move_wide mnemonic ns =
    mnemonic ++ x_register (slice_index ns 0) ++ comma ++ constant (slice_index ns 1) ++ lsl_by (16 * slice_index ns 2)

-- of rd, rn, ra, rm
abbrev pub multiply_add : List ℕ → List ℕ → List ℕ
multiply_add mnemonic ns =
    mnemonic ++ x_register (slice_index ns 0) ++ comma ++ x_register (slice_index ns 1) ++ comma ++ x_register (slice_index ns 3) ++ comma ++ x_register (slice_index ns 2)

-- of rd, rn, rm
abbrev pub shift_variable : List ℕ → List ℕ → List ℕ
shift_variable mnemonic ns =
    mnemonic ++ x_register (slice_index ns 0) ++ comma ++ x_register (slice_index ns 1) ++ comma ++ x_register (slice_index ns 2)

-- of rd, rn, imms, immr
abbrev pub bitfield : List ℕ → List ℕ → List ℕ
bitfield mnemonic ns =
    mnemonic ++ x_register (slice_index ns 0) ++ comma ++ x_register (slice_index ns 1) ++ comma ++ constant (slice_index ns 3) ++ comma ++ constant (slice_index ns 2)

-- of rd, rn, cond, rm
abbrev pub conditional_select : List ℕ → List ℕ → List ℕ
conditional_select mnemonic ns =
    mnemonic ++ x_register (slice_index ns 0) ++ comma ++ x_register (slice_index ns 1) ++ comma ++ x_register (slice_index ns 3) ++ comma ++ cond_name (slice_index ns 2)

-- of rt, imm19
abbrev pub compare_branch : List ℕ → List ℕ → List ℕ
compare_branch mnemonic ns =
    mnemonic ++ x_register (slice_index ns 0) ++ comma ++ signed_constant 4 19 (slice_index ns 1)

-- of imm16
abbrev pub exception : List ℕ → List ℕ → List ℕ
exception mnemonic ns =
    mnemonic ++ constant (slice_index ns 0)

-- of rt, rn, imm12, where a number of `size` bytes is accessed
abbrev pub load_store_immediate : List ℕ → (ℕ → List ℕ) → ℕ → List ℕ → List ℕ
load_store_immediate mnemonic register size ns =
    mnemonic ++ register (slice_index ns 0) ++ at_offset (slice_index ns 1) (size * slice_index ns 2)

-- of rt, rn, rm
abbrev pub load_store_byte_register : List ℕ → (ℕ → List ℕ) → List ℕ → List ℕ
load_store_byte_register mnemonic register ns =
    mnemonic ++ register (slice_index ns 0) ++ at_register (slice_index ns 1) (slice_index ns 2) 0

-- of rt, rn, S, rm, where a number of 2 ^ `log` bytes is accessed
abbrev pub load_store_register : List ℕ → (ℕ → List ℕ) → ℕ → List ℕ → List ℕ
load_store_register mnemonic register log ns =
    mnemonic ++ register (slice_index ns 0) ++ at_register (slice_index ns 1) (slice_index ns 3) (log * slice_index ns 2)

abbrev pub text_of : Name → List ℕ → List ℕ
text_of add_imm ns = add_sub_immediate (codes "add ") x_or_sp ns
text_of sub_imm ns = add_sub_immediate (codes "sub ") x_or_sp ns
text_of subs_imm ns = add_sub_immediate (codes "subs ") x_register ns
text_of add ns = shifted_register (codes "add ") ns
text_of sub ns = shifted_register (codes "sub ") ns
text_of subs ns = shifted_register (codes "subs ") ns
text_of land ns = shifted_register (codes "and ") ns
text_of orr ns = shifted_register (codes "orr ") ns
text_of eor ns = shifted_register (codes "eor ") ns
text_of orn ns = shifted_register (codes "orn ") ns
text_of movz ns = move_wide (codes "movz ") ns
text_of movk ns = move_wide (codes "movk ") ns
text_of movn ns = move_wide (codes "movn ") ns
text_of madd ns = multiply_add (codes "madd ") ns
text_of msub ns = multiply_add (codes "msub ") ns
text_of lslv ns = shift_variable (codes "lslv ") ns
text_of lsrv ns = shift_variable (codes "lsrv ") ns
text_of asrv ns = shift_variable (codes "asrv ") ns
text_of sbfm ns = bitfield (codes "sbfm ") ns
text_of ubfm ns = bitfield (codes "ubfm ") ns
text_of csel ns = conditional_select (codes "csel ") ns
text_of csinc ns = conditional_select (codes "csinc ") ns
text_of b ns = codes "b " ++ signed_constant 4 26 (slice_index ns 0)
text_of b_cond ns = codes "b." ++ cond_name (slice_index ns 0) ++ codes " " ++ signed_constant 4 19 (slice_index ns 1)
text_of cbz ns = compare_branch (codes "cbz ") ns
text_of cbnz ns = compare_branch (codes "cbnz ") ns
text_of ret ns = codes "ret " ++ x_register (slice_index ns 0)
text_of svc ns = exception (codes "svc ") ns
text_of brk ns = exception (codes "brk ") ns
text_of nop ns = codes "nop"
text_of umov ns = codes "umov " ++ x_register (slice_index ns 0) ++ codes ", v" ++ decimal (slice_index ns 1) ++ codes ".d[0]"
text_of ldrb ns = load_store_immediate (codes "ldrb ") w_register 1 ns
text_of ldrsb ns = load_store_immediate (codes "ldrsb ") x_register 1 ns
text_of strb ns = load_store_immediate (codes "strb ") w_register 1 ns
text_of ldrh ns = load_store_immediate (codes "ldrh ") w_register 2 ns
text_of ldr_w ns = load_store_immediate (codes "ldr ") w_register 4 ns
text_of ldr_x ns = load_store_immediate (codes "ldr ") x_register 8 ns
text_of ldrsh ns = load_store_immediate (codes "ldrsh ") x_register 2 ns
text_of ldrsw ns = load_store_immediate (codes "ldrsw ") x_register 4 ns
text_of strh ns = load_store_immediate (codes "strh ") w_register 2 ns
text_of str_w ns = load_store_immediate (codes "str ") w_register 4 ns
text_of str_x ns = load_store_immediate (codes "str ") x_register 8 ns
text_of ldrb_register ns = load_store_byte_register (codes "ldrb ") w_register ns
text_of ldrsb_register ns = load_store_byte_register (codes "ldrsb ") x_register ns
text_of strb_register ns = load_store_byte_register (codes "strb ") w_register ns
text_of ldrh_register ns = load_store_register (codes "ldrh ") w_register 1 ns
text_of ldr_w_register ns = load_store_register (codes "ldr ") w_register 2 ns
text_of ldr_x_register ns = load_store_register (codes "ldr ") x_register 3 ns
text_of ldrsh_register ns = load_store_register (codes "ldrsh ") x_register 1 ns
text_of ldrsw_register ns = load_store_register (codes "ldrsw ") x_register 2 ns
text_of strh_register ns = load_store_register (codes "strh ") w_register 1 ns
text_of str_w_register ns = load_store_register (codes "str ") w_register 2 ns
text_of str_x_register ns = load_store_register (codes "str ") x_register 3 ns

abbrev pub a64_text : Instruction Name → List ℕ
a64_text i = text_of i.name i.numbers
