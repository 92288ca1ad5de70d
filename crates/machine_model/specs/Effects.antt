-- What each A64 instruction does (Arm DDI 0487, chapter C6, "A64 Base Instruction Descriptions", and of UMOV chapter C7). An instruction is the name of its row and
-- the numbers of that row's fields, from the lowest field of the word to the highest.
use Rattle.std.specs.Prelude.{ℕ, ◌*◌, ◌%◌, ◌^◌, Bool, not, ◌&&◌, List, Ok, Err, nat_eq, bit_and, bit_or, bit_xor, slice_index, if◌then◌else◌}
use Rattle.std.specs.Int.{w8, w16, w32, w64, cast_signed, cast_unsigned}
use Rattle.guest_types.specs.Memory.{loaded, stored}
use Rattle.guest_types.specs.Elements.{element}
use Rattle.a64_code.specs.Table.{Name, add_imm, sub_imm, subs_imm, add, sub, subs, land, orr, eor, orn, movz, movk, movn, madd, msub, lslv, lsrv, asrv, sbfm, ubfm, csel, csinc, b, b_cond, cbz, cbnz, ret, svc, brk, nop, umov, ldrb, ldrsb, strb, ldrh, ldr_w, ldr_x, ldrsh, ldrsw, strh, str_w, str_x, ldrb_register, ldrsb_register, strb_register, ldrh_register, ldr_w_register, ldr_x_register, ldrsh_register, ldrsw_register, strh_register, str_w_register, str_x_register}
use Rattle.machine_model.specs.declared.outcome.StopKind.TheVariants.{Read, Write, Call, Break}
use Rattle.machine_model.specs.Arithmetic.{sum, difference, inverted, flags_of, shifted_word, replaced, signed_field, unsigned_field, holds, target}
use Rattle.machine_model.specs.Machine.{State, Step, Went, Ended, Stopped, x_at, with_x, x_or_sp, with_x_or_sp, z_at, jump, next}

-- the number of the field in this place
abbrev pub arg : List ℕ → ℕ → ℕ
arg numbers place = slice_index numbers place

-- ---- what an instruction leaves

abbrev pub jump_if : Bool → State → ℕ → Step
jump_if taken s pc = Went (if taken then jump s pc else next s)

abbrev pub write : State → ℕ → ℕ → Step
write s rd v = Went (next (with_x s rd v))

abbrev pub write_or_sp : State → ℕ → ℕ → Step
write_or_sp s rd v = Went (next (with_x_or_sp s rd v))

-- a difference, with its flags
abbrev pub write_with_flags : State → ℕ → ℕ → ℕ → Step
write_with_flags s rd left right = Went (next (record (with_x s rd (difference left right)) { flags = flags_of left right }))

-- a load of so many bytes, whose number is extended to 64 bits
abbrev pub load_to : State → ℕ → ℕ → ℕ → (ℕ → ℕ) → Step
load_to s rt address size extended =
    elim (loaded s.memory address size) [
      | Ok v ↦ write s rt (extended v)
      | Err fault ↦ Stopped Read s.pc fault.address s.memory
    ]

-- a store of the low bytes of a register
abbrev pub store_from : State → ℕ → ℕ → ℕ → Step
store_from s rt address size =
    elim (stored s.memory address size (x_at s rt)) [
      | Ok memory ↦ Went (next (record s { memory = memory }))
      | Err fault ↦ Stopped Write s.pc fault.address s.memory
    ]

abbrev pub as_it_is : ℕ → ℕ
as_it_is v = v

abbrev pub from_byte : ℕ → ℕ
from_byte v = cast_unsigned w64 (cast_signed w8 v)

abbrev pub from_half : ℕ → ℕ
from_half v = cast_unsigned w64 (cast_signed w16 v)

abbrev pub from_word : ℕ → ℕ
from_word v = cast_unsigned w64 (cast_signed w32 v)

-- ---- operands by the places of the fields

-- Rd, Rn, imm12, sh: the immediate, and the base
abbrev pub immediate : List ℕ → ℕ
immediate ns = arg ns 2 * 2 ^ (12 * arg ns 3)

abbrev pub base : List ℕ → State → ℕ
base ns s = x_or_sp s (arg ns 1)

-- Rd, Rn, imm6, Rm, shift: the first operand, and the second, shifted
abbrev pub first : List ℕ → State → ℕ
first ns s = x_at s (arg ns 1)

abbrev pub second : List ℕ → State → ℕ
second ns s = shifted_word (arg ns 4) (x_at s (arg ns 3)) (arg ns 2)

-- Rd, imm16, hw: the first bit of the field that is moved to
abbrev pub half_place : List ℕ → ℕ
half_place ns = 16 * arg ns 2

-- Rd, Rn, Ra, Rm: the product
abbrev pub product : List ℕ → State → ℕ
product ns s = first ns s * x_at s (arg ns 3) % 2 ^ 64

-- Rd, Rn, Rm: Rn shifted by Rm modulo 64
abbrev pub shift_by : ℕ → List ℕ → State → ℕ
shift_by kind ns s = shifted_word kind (first ns s) (x_at s (arg ns 2) % 64)

-- Rt, Rn, imm12: the address, with the offset in units of the size
abbrev pub at_offset : ℕ → List ℕ → State → ℕ
at_offset size ns s = sum (base ns s) (arg ns 2 * size)

-- Rt, Rn, Rm, and Rt, Rn, S, Rm: the address, with Rm shifted by the size's logarithm where S is 1
abbrev pub at_register : List ℕ → State → ℕ
at_register ns s = sum (base ns s) (x_at s (arg ns 2))

abbrev pub at_scaled : ℕ → List ℕ → State → ℕ
at_scaled logarithm ns s = sum (base ns s) (shifted_word 0 (x_at s (arg ns 3)) (logarithm * arg ns 2))

-- ---- the instructions

abbrev pub act : Name → List ℕ → State → Step
act add_imm ns s = write_or_sp s (arg ns 0) (sum (base ns s) (immediate ns))
act sub_imm ns s = write_or_sp s (arg ns 0) (difference (base ns s) (immediate ns))
act subs_imm ns s = write_with_flags s (arg ns 0) (base ns s) (immediate ns)
act add ns s = write s (arg ns 0) (sum (first ns s) (second ns s))
act sub ns s = write s (arg ns 0) (difference (first ns s) (second ns s))
act subs ns s = write_with_flags s (arg ns 0) (first ns s) (second ns s)
act land ns s = write s (arg ns 0) (bit_and (first ns s) (second ns s))
act orr ns s = write s (arg ns 0) (bit_or (first ns s) (second ns s))
act eor ns s = write s (arg ns 0) (bit_xor (first ns s) (second ns s))
act orn ns s = write s (arg ns 0) (bit_or (first ns s) (inverted (second ns s)))
act movz ns s = write s (arg ns 0) (arg ns 1 * 2 ^ half_place ns)
act movk ns s = write s (arg ns 0) (replaced (x_at s (arg ns 0)) (half_place ns) (arg ns 1))
act movn ns s = write s (arg ns 0) (inverted (arg ns 1 * 2 ^ half_place ns))
act madd ns s = write s (arg ns 0) (sum (x_at s (arg ns 2)) (product ns s))
act msub ns s = write s (arg ns 0) (difference (x_at s (arg ns 2)) (product ns s))
act lslv ns s = write s (arg ns 0) (shift_by 0 ns s)
act lsrv ns s = write s (arg ns 0) (shift_by 1 ns s)
act asrv ns s = write s (arg ns 0) (shift_by 2 ns s)
act sbfm ns s = write s (arg ns 0) (signed_field (first ns s) (arg ns 3) (arg ns 2))
act ubfm ns s = write s (arg ns 0) (unsigned_field (first ns s) (arg ns 3) (arg ns 2))
act csel ns s = write s (arg ns 0) (if holds (arg ns 2) s.flags then first ns s else x_at s (arg ns 3))
act csinc ns s = write s (arg ns 0) (if holds (arg ns 2) s.flags then first ns s else sum (x_at s (arg ns 3)) 1)
act b ns s = Went (jump s (target s.pc 26 (arg ns 0)))
act b_cond ns s = jump_if (holds (arg ns 0) s.flags) s (target s.pc 19 (arg ns 1))
act cbz ns s = jump_if (nat_eq (x_at s (arg ns 0)) 0) s (target s.pc 19 (arg ns 1))
act cbnz ns s = jump_if (not (nat_eq (x_at s (arg ns 0)) 0)) s (target s.pc 19 (arg ns 1))
act ret ns s = Went (jump s (x_at s (arg ns 0)))
-- the exit call of Linux on arm64 has number 93
act svc ns s = if nat_eq (arg ns 0) 0 && nat_eq (x_at s 8) 93 then Ended (x_at s 0) else Stopped Call s.pc (x_at s 8) s.memory
act brk ns s = Stopped Break s.pc (arg ns 0) s.memory
act nop ns s = Went (next s)
act umov ns s = write s (arg ns 0) (element 8 (z_at s (arg ns 1)) 0)
act ldrb ns s = load_to s (arg ns 0) (at_offset 1 ns s) 1 as_it_is
act ldrsb ns s = load_to s (arg ns 0) (at_offset 1 ns s) 1 from_byte
act strb ns s = store_from s (arg ns 0) (at_offset 1 ns s) 1
act ldrh ns s = load_to s (arg ns 0) (at_offset 2 ns s) 2 as_it_is
act ldr_w ns s = load_to s (arg ns 0) (at_offset 4 ns s) 4 as_it_is
act ldr_x ns s = load_to s (arg ns 0) (at_offset 8 ns s) 8 as_it_is
act ldrsh ns s = load_to s (arg ns 0) (at_offset 2 ns s) 2 from_half
act ldrsw ns s = load_to s (arg ns 0) (at_offset 4 ns s) 4 from_word
act strh ns s = store_from s (arg ns 0) (at_offset 2 ns s) 2
act str_w ns s = store_from s (arg ns 0) (at_offset 4 ns s) 4
act str_x ns s = store_from s (arg ns 0) (at_offset 8 ns s) 8
act ldrb_register ns s = load_to s (arg ns 0) (at_register ns s) 1 as_it_is
act ldrsb_register ns s = load_to s (arg ns 0) (at_register ns s) 1 from_byte
act strb_register ns s = store_from s (arg ns 0) (at_register ns s) 1
act ldrh_register ns s = load_to s (arg ns 0) (at_scaled 1 ns s) 2 as_it_is
act ldr_w_register ns s = load_to s (arg ns 0) (at_scaled 2 ns s) 4 as_it_is
act ldr_x_register ns s = load_to s (arg ns 0) (at_scaled 3 ns s) 8 as_it_is
act ldrsh_register ns s = load_to s (arg ns 0) (at_scaled 1 ns s) 2 from_half
act ldrsw_register ns s = load_to s (arg ns 0) (at_scaled 2 ns s) 4 from_word
act strh_register ns s = store_from s (arg ns 0) (at_scaled 1 ns s) 2
act str_w_register ns s = store_from s (arg ns 0) (at_scaled 2 ns s) 4
act str_x_register ns s = store_from s (arg ns 0) (at_scaled 3 ns s) 8
