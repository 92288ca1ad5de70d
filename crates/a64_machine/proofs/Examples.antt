-- Outside values, by computation: what instructions leave, worked out by hand from the manual's descriptions.
use Rattle.std.proofs.Common.{◌≡◌, ℕ, zero, suc, List, [], ◌∷◌, Bool, true, false, take, replicate, refl}
use Rattle.guest_types.specs.EarlyLoads.{never}
use Rattle.guest_types.specs.Memory.{Memory, number_at}
use Rattle.guest_types.specs.Elements.{Flags, nzcv}
use Rattle.guest_types.specs.declared.memory.Perm.TheVariants.{Read, ReadWrite}
use Rattle.a64_code.specs.Table.{Name, add_imm, sub_imm, subs_imm, add, sub, subs, orn, movz, movk, movn, madd, msub, lslv, lsrv, asrv, csel, csinc, b, b_cond, cbz, cbnz, ret, svc, brk, ldrb, ldrsb, ldrh, ldrsh, ldr_w, ldrsw, ldr_x, strb, str_x, ldr_x_register, strh_register}
use Rattle.machine_model.specs.declared.outcome.StopKind.{StopKind}
use Rattle.machine_model.specs.declared.outcome.StopKind.TheVariants.{Read as ReadStop, Write as WriteStop, Call, Break}
use Rattle.machine_model.specs.Arithmetic.{flags_of, signed_field, unsigned_field, holds, shifted_word}
use Rattle.machine_model.specs.Machine.{State, Step, Went, Ended, Stopped}
use Rattle.machine_model.specs.InstructionTable.{Scalar}
use Rattle.machine_model.specs.OneStep.{does}

-- ---- the flags of a - b, N the highest of four bits

equal : nzcv (flags_of 0 0) ≡ 6
equal = refl

below : nzcv (flags_of 0 1) ≡ 8
below = refl

-- the least signed number, minus 1
overflows_down : nzcv (flags_of 0x8000000000000000 1) ≡ 3
overflows_down = refl

-- the greatest signed number, minus -1
overflows_up : nzcv (flags_of 0x7fffffffffffffff 0xffffffffffffffff) ≡ 9
overflows_up = refl

-- ---- conditions 0 to 14 on those flags

abbrev all_from : ℕ → ℕ → Flags → List Bool
all_from k zero flags = []
all_from k (suc n) flags = holds k flags ∷ all_from (suc k) n flags

after_equal : all_from 0 15 (flags_of 0 0)
    ≡ true ∷ false ∷ true ∷ false ∷ false ∷ true ∷ false ∷ true ∷ false ∷ true ∷ true ∷ false ∷ false ∷ true ∷ true ∷ []
after_equal = refl

after_below : all_from 0 15 (flags_of 0 1)
    ≡ false ∷ true ∷ false ∷ true ∷ true ∷ false ∷ false ∷ true ∷ false ∷ true ∷ false ∷ true ∷ false ∷ true ∷ true ∷ []
after_below = refl

after_overflow_down : all_from 0 15 (flags_of 0x8000000000000000 1)
    ≡ false ∷ true ∷ true ∷ false ∷ false ∷ true ∷ true ∷ false ∷ true ∷ false ∷ false ∷ true ∷ false ∷ true ∷ true ∷ []
after_overflow_down = refl

after_overflow_up : all_from 0 15 (flags_of 0x7fffffffffffffff 0xffffffffffffffff)
    ≡ false ∷ true ∷ false ∷ true ∷ true ∷ false ∷ true ∷ false ∷ false ∷ true ∷ true ∷ false ∷ true ∷ false ∷ true ∷ []
after_overflow_up = refl

-- ---- bit fields, by their aliases: immr above, at and below imms

-- lsl #4
lsl : unsigned_field 0xf000000000000001 60 59 ≡ 0x10
lsl = refl

-- lsr #4
lsr : unsigned_field 0xf000000000000010 4 63 ≡ 0x0f00000000000001
lsr = refl

-- asr #4
asr : signed_field 0xf000000000000010 4 63 ≡ 0xff00000000000001
asr = refl

-- sxtb, sxth, sxtw
sxtb : signed_field 0x180 0 7 ≡ 0xffffffffffffff80
sxtb = refl

sxtb_positive : signed_field 0xff7f 0 7 ≡ 0x7f
sxtb_positive = refl

sxth : signed_field 0x18000 0 15 ≡ 0xffffffffffff8000
sxth = refl

sxtw : signed_field 0x180000000 0 31 ≡ 0xffffffff80000000
sxtw = refl

-- uxtb
uxtb : unsigned_field 0x1ff 0 7 ≡ 0xff
uxtb = refl

-- ubfx #8, #4 and ubfiz #8, #4, and the signed ones
ubfx : unsigned_field 0xabcd 8 11 ≡ 0xb
ubfx = refl

sbfx : signed_field 0xabcd 8 11 ≡ 0xfffffffffffffffb
sbfx = refl

ubfiz : unsigned_field 0xab 56 3 ≡ 0xb00
ubfiz = refl

sbfiz : signed_field 0xab 56 3 ≡ 0xfffffffffffffb00
sbfiz = refl

-- one bit, and all bits
one_bit : unsigned_field 0x20 5 5 ≡ 1
one_bit = refl

one_bit_signed : signed_field 0x20 5 5 ≡ 0xffffffffffffffff
one_bit_signed = refl

all_bits : signed_field 0x8000000000000001 0 63 ≡ 0x8000000000000001
all_bits = refl

-- bit 0 at bit 63
top_bit : unsigned_field 3 1 0 ≡ 0x8000000000000000
top_bit = refl

-- ---- shifts of a register

shift_left : shifted_word 0 0x8000000000000001 1 ≡ 2
shift_left = refl

shift_right : shifted_word 1 0x8000000000000001 1 ≡ 0x4000000000000000
shift_right = refl

shift_signed : shifted_word 2 0x8000000000000001 1 ≡ 0xc000000000000000
shift_signed = refl

rotate : shifted_word 3 0x8000000000000001 1 ≡ 0xc000000000000000
rotate = refl

rotate_by_none : shifted_word 3 0x8000000000000001 0 ≡ 0x8000000000000001
rotate_by_none = refl

-- ---- instructions, on a state with a page to read at 0x1000 and a page to write at 0x2000

abbrev memory : Memory
memory =
    record { page = 1; perm = Read; bytes = 0x80 ∷ 0xff ∷ 0x7f ∷ 0x80 ∷ 1 ∷ 2 ∷ 3 ∷ 4 ∷ [] }
    ∷ record { page = 2; perm = ReadWrite; bytes = 10 ∷ 11 ∷ 12 ∷ 13 ∷ 14 ∷ 15 ∷ 16 ∷ 17 ∷ 18 ∷ 19 ∷ [] } ∷ []

-- X0 is 0x1000, X1 is 0x2000, X2 is 10, X3 is 20, X4 is -1, X5 to X30 are 0; the flags are those of 0 - 0
abbrev state : State
state = record {
  memory = memory;
  pc = 0x400080;
  x = 0x1000 ∷ 0x2000 ∷ 10 ∷ 20 ∷ 0xffffffffffffffff ∷ 0 ∷ 0 ∷ 0 ∷ 0 ∷ 0 ∷ 0 ∷ 0 ∷ 0 ∷ 0 ∷ 0 ∷ 0 ∷ 0 ∷ 0 ∷ 0 ∷ 0 ∷ 0 ∷ 0 ∷ 0 ∷ 0 ∷ 0 ∷ 0
      ∷ 0 ∷ 0 ∷ 0 ∷ 0 ∷ 0 ∷ [];
  sp = 0x2ffc;
  flags = flags_of 0 0;
  z = [];
  p = [];
  ffr = [];
  vl = 128;
  stops = never;
}

-- what a step shows: PC, the flags, SP and X0 to X5; the end; or the stop
data Shown : Type 0 where
  Goes : (pc flags sp : ℕ) → List ℕ → Shown
  Ends : (result : ℕ) → Shown
  Stops : (kind : StopKind) (pc at : ℕ) → Shown

abbrev shown : Step → Shown
shown (Went s) = Goes s.pc (nzcv s.flags) s.sp (take 6 s.x)
shown (Ended result) = Ends result
shown (Stopped kind pc at left) = Stops kind pc at

abbrev of : Name → List ℕ → Shown
of name numbers = shown (does (Scalar (record { name = name; numbers = numbers })) state)

-- on to the next word with this X5
abbrev fifth : ℕ → Shown
fifth value = Goes 0x400084 6 0x2ffc (0x1000 ∷ 0x2000 ∷ 10 ∷ 20 ∷ 0xffffffffffffffff ∷ value ∷ [])

-- on to a place with nothing else changed
abbrev goes_to : ℕ → Shown
goes_to pc = Goes pc 6 0x2ffc (0x1000 ∷ 0x2000 ∷ 10 ∷ 20 ∷ 0xffffffffffffffff ∷ 0 ∷ [])

-- add x5, x2, #3, lsl #12
adds_shifted : of add_imm (5 ∷ 2 ∷ 3 ∷ 1 ∷ []) ≡ fifth 0x300a
adds_shifted = refl

-- sub sp, sp, #16
moves_sp : of sub_imm (31 ∷ 31 ∷ 16 ∷ 0 ∷ []) ≡ Goes 0x400084 6 0x2fec (0x1000 ∷ 0x2000 ∷ 10 ∷ 20 ∷ 0xffffffffffffffff ∷ 0 ∷ [])
moves_sp = refl

-- subs xzr, sp, #0, lsl #12: the operand is SP, and nothing is written but the flags
compares_sp : of subs_imm (31 ∷ 31 ∷ 0 ∷ 1 ∷ []) ≡ Goes 0x400084 2 0x2ffc (0x1000 ∷ 0x2000 ∷ 10 ∷ 20 ∷ 0xffffffffffffffff ∷ 0 ∷ [])
compares_sp = refl

-- subs x5, x2, x3
subtracts : of subs (5 ∷ 2 ∷ 0 ∷ 3 ∷ 0 ∷ []) ≡ Goes 0x400084 8 0x2ffc (0x1000 ∷ 0x2000 ∷ 10 ∷ 20 ∷ 0xffffffffffffffff ∷ 0xfffffffffffffff6 ∷ [])
subtracts = refl

-- add xzr, x2, x3 writes nothing; sub x5, xzr, x2 is the negation
writes_nothing : of add (31 ∷ 2 ∷ 0 ∷ 3 ∷ 0 ∷ []) ≡ goes_to 0x400084
writes_nothing = refl

negates : of sub (5 ∷ 31 ∷ 0 ∷ 2 ∷ 0 ∷ []) ≡ fifth 0xfffffffffffffff6
negates = refl

-- orn x5, xzr, x2
inverts : of orn (5 ∷ 31 ∷ 0 ∷ 2 ∷ 0 ∷ []) ≡ fifth 0xfffffffffffffff5
inverts = refl

-- movz x5, #0x1234, lsl #16; movk x4, #0x1234, lsl #32; movn x5, #0 and movn x5, #1, lsl #48
moves : of movz (5 ∷ 0x1234 ∷ 1 ∷ []) ≡ fifth 0x12340000
moves = refl

keeps : of movk (4 ∷ 0x1234 ∷ 2 ∷ []) ≡ Goes 0x400084 6 0x2ffc (0x1000 ∷ 0x2000 ∷ 10 ∷ 20 ∷ 0xffff1234ffffffff ∷ 0 ∷ [])
keeps = refl

moves_inverted : of movn (5 ∷ 0 ∷ 0 ∷ []) ≡ fifth 0xffffffffffffffff
moves_inverted = refl

moves_inverted_high : of movn (5 ∷ 1 ∷ 3 ∷ []) ≡ fifth 0xfffeffffffffffff
moves_inverted_high = refl

-- madd x5, x2, x3, x4 and msub x5, x2, x3, x4
multiplies : of madd (5 ∷ 2 ∷ 4 ∷ 3 ∷ []) ≡ fifth 199
multiplies = refl

multiplies_and_subtracts : of msub (5 ∷ 2 ∷ 4 ∷ 3 ∷ []) ≡ fifth 0xffffffffffffff37
multiplies_and_subtracts = refl

-- lslv x5, x2, x4 shifts by 63; asrv x5, x4, x2 by 10; lsrv x5, x4, x0 by 0x1000 modulo 64
shifts_left : of lslv (5 ∷ 3 ∷ 2 ∷ []) ≡ fifth 0x5000
shifts_left = refl

shifts_out : of lslv (5 ∷ 2 ∷ 4 ∷ []) ≡ fifth 0
shifts_out = refl

shifts_signed : of asrv (5 ∷ 4 ∷ 2 ∷ []) ≡ fifth 0xffffffffffffffff
shifts_signed = refl

shifts_by_none : of lsrv (5 ∷ 4 ∷ 0 ∷ []) ≡ fifth 0xffffffffffffffff
shifts_by_none = refl

-- csel and csinc of x2 and x3, where equal and where not
selects : of csel (5 ∷ 2 ∷ 0 ∷ 3 ∷ []) ≡ fifth 10
selects = refl

selects_other : of csel (5 ∷ 2 ∷ 1 ∷ 3 ∷ []) ≡ fifth 20
selects_other = refl

increments : of csinc (5 ∷ 2 ∷ 1 ∷ 3 ∷ []) ≡ fifth 21
increments = refl

increments_not : of csinc (5 ∷ 2 ∷ 0 ∷ 3 ∷ []) ≡ fifth 10
increments_not = refl

-- cset x5, ne: csinc x5, xzr, xzr, eq
sets : of csinc (5 ∷ 31 ∷ 0 ∷ 31 ∷ []) ≡ fifth 0
sets = refl

-- b #-8, b.eq #-4, b.ne #-4, cbz x5, #12, cbnz x5, #12, ret x0
back : of b (0x3fffffe ∷ []) ≡ goes_to 0x400078
back = refl

back_where_equal : of b_cond (0 ∷ 0x7ffff ∷ []) ≡ goes_to 0x40007c
back_where_equal = refl

on_where_equal : of b_cond (1 ∷ 0x7ffff ∷ []) ≡ goes_to 0x400084
on_where_equal = refl

branches_on_zero : of cbz (5 ∷ 3 ∷ []) ≡ goes_to 0x40008c
branches_on_zero = refl

goes_on_at_zero : of cbnz (5 ∷ 3 ∷ []) ≡ goes_to 0x400084
goes_on_at_zero = refl

returns : of ret (0 ∷ []) ≡ goes_to 0x1000
returns = refl

-- svc #0 with X8 0, and brk #7
calls : of svc (0 ∷ []) ≡ Stops Call 0x400080 0
calls = refl

breaks : of brk (7 ∷ []) ≡ Stops Break 0x400080 7
breaks = refl

-- loads from 0x1000: bytes 80 ff 7f 80
loads_byte : of ldrb (5 ∷ 0 ∷ 0 ∷ []) ≡ fifth 0x80
loads_byte = refl

loads_signed_byte : of ldrsb (5 ∷ 0 ∷ 0 ∷ []) ≡ fifth 0xffffffffffffff80
loads_signed_byte = refl

loads_positive_byte : of ldrsb (5 ∷ 0 ∷ 2 ∷ []) ≡ fifth 0x7f
loads_positive_byte = refl

loads_half : of ldrh (5 ∷ 0 ∷ 0 ∷ []) ≡ fifth 0xff80
loads_half = refl

loads_signed_half : of ldrsh (5 ∷ 0 ∷ 0 ∷ []) ≡ fifth 0xffffffffffffff80
loads_signed_half = refl

loads_word : of ldr_w (5 ∷ 0 ∷ 0 ∷ []) ≡ fifth 0x807fff80
loads_word = refl

loads_signed_word : of ldrsw (5 ∷ 0 ∷ 0 ∷ []) ≡ fifth 0xffffffff807fff80
loads_signed_word = refl

-- ldr x5, [sp] and str x4, [sp]: SP is 0x2ffc, and the page at 0x3000 is not mapped
loads_by_sp : of ldr_x (5 ∷ 31 ∷ 0 ∷ []) ≡ Stops ReadStop 0x400080 0x3000
loads_by_sp = refl

stores_by_sp : of str_x (4 ∷ 31 ∷ 0 ∷ []) ≡ Stops WriteStop 0x400080 0x3000
stores_by_sp = refl

-- ldr x5, [x1, xzr, lsl #3], and ldr x5, [x5, x2]: the byte at 10 is not mapped
loads_by_register : of ldr_x_register (5 ∷ 1 ∷ 1 ∷ 31 ∷ []) ≡ fifth 0x11100f0e0d0c0b0a
loads_by_register = refl

refuses_to_load : of ldr_x_register (5 ∷ 5 ∷ 0 ∷ 2 ∷ []) ≡ Stops ReadStop 0x400080 10
refuses_to_load = refl

-- strb w2, [x0]: the page may not be written
refuses_to_store : of strb (2 ∷ 0 ∷ 0 ∷ []) ≡ Stops WriteStop 0x400080 0x1000
refuses_to_store = refl

-- strh w4, [x1, x2, lsl #1] goes to 0x2014
stores_where : of strh_register (4 ∷ 1 ∷ 1 ∷ 2 ∷ []) ≡ goes_to 0x400084
stores_where = refl

-- str xzr, [x1] leaves the two bytes after it
abbrev left_by : Step → ℕ → ℕ → ℕ
left_by (Went s) address size = number_at s.memory address size
left_by (Ended result) address size = 0
left_by (Stopped kind pc at left) address size = number_at left address size

stores_zero : left_by (does (Scalar (record { name = str_x; numbers = 31 ∷ 1 ∷ 0 ∷ [] })) state) 0x2000 10 ≡ 0x13120000000000000000
stores_zero = refl

-- a store whose first bytes might be written, and whose others not, writes none
abbrev whole_page : State
whole_page = record state { memory = record { page = 2; perm = ReadWrite; bytes = replicate 4096 7 } ∷ [] }

refuses_all : left_by (does (Scalar (record { name = str_x; numbers = 4 ∷ 31 ∷ 0 ∷ [] })) whole_page) 0x2ffc 4 ≡ 0x07070707
refuses_all = refl

-- and one that may be written is
stores_all : left_by (does (Scalar (record { name = str_x; numbers = 4 ∷ 1 ∷ 511 ∷ [] })) whole_page) 0x2ff7 9 ≡ 0xffffffffffffffff07
stores_all = refl
