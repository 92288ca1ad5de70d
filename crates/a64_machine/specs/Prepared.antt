-- What a prepared instruction does.
use Rattle.std.specs.Prelude.{◌≡◌, ℕ, Option, Some, None, ◌*◌, ◌%◌, ◌^◌, not, nat_eq, bit_and, bit_or, bit_xor}
use Rattle.guest_types.specs.Elements.{nzcv}
use Rattle.a64_code.specs.View.{instruction_view}
use Rattle.a64_code.specs.declared.A64.{A64}
use Rattle.a64_code.specs.declared.BitfieldOp.{BitfieldOp}
use Rattle.a64_code.specs.declared.BitfieldOp.TheVariants as bitfield_ops
use Rattle.a64_code.specs.declared.LogicalOp.{LogicalOp}
use Rattle.a64_code.specs.declared.LogicalOp.TheVariants as logical_ops
use Rattle.machine_model.specs.Arithmetic.{sum, difference, inverted, shifted_word, signed_field, unsigned_field}
use Rattle.machine_model.specs.Machine.{State, Step, Went, x_at, jump}
use Rattle.machine_model.specs.Effects.{jump_if, write, write_with_flags}
use Rattle.machine_model.specs.InstructionTable.{Scalar}
use Rattle.machine_model.specs.OneStep.{does}
use Rattle.a64_machine.specs.Cores.{is_set}
use Rattle.a64_machine.specs.Accesses.{byte_access, access}
use Rattle.a64_machine.specs.declared.prepared_form.Prepared.{Prepared}
use Rattle.a64_machine.specs.declared.prepared_form.Prepared.TheVariants.{AddNumber, LessNumber, CompareNumber, Add, Subtract, Compare, Logical, Field, MultiplyAdd, Constant, Jump, JumpWhere, JumpAtZero, JumpElse, LessNumberJump, CompareNumberJump, CompareJump, ByteAtRegister, ByteAtNumber, WideAtRegister, WideAtNumber}

abbrev pub logical : LogicalOp → ℕ → ℕ → ℕ
logical logical_ops.And a b = bit_and a b
logical logical_ops.Orr a b = bit_or a b
logical logical_ops.Eor a b = bit_xor a b
logical logical_ops.Orn a b = bit_or a (inverted b)

abbrev pub field : BitfieldOp → ℕ → ℕ → ℕ → ℕ
field bitfield_ops.Sbfm v immr imms = signed_field v immr imms
field bitfield_ops.Ubfm v immr imms = unsigned_field v immr imms

-- register 31 takes no write, so a comparison is a subtraction to it
abbrev pub prepared_does : Prepared → State → Step
prepared_does (AddNumber rd rn number) s = write s rd.number (sum (x_at s rn.number) number)
prepared_does (LessNumber rd rn number) s = write_with_flags s rd.number (x_at s rn.number) number
prepared_does (CompareNumber rn number) s = write_with_flags s 31 (x_at s rn.number) number
prepared_does (Add rd rn rm by) s = write s rd.number (sum (x_at s rn.number) (shifted_word 0 (x_at s rm.number) by.number))
prepared_does (Subtract rd rn rm by) s = write s rd.number (difference (x_at s rn.number) (shifted_word 0 (x_at s rm.number) by.number))
prepared_does (Compare rn rm by) s = write_with_flags s 31 (x_at s rn.number) (shifted_word 0 (x_at s rm.number) by.number)
prepared_does (Logical op rd rn rm by) s = write s rd.number (logical op (x_at s rn.number) (shifted_word 0 (x_at s rm.number) by.number))
prepared_does (Field op rd rn imms immr) s = write s rd.number (field op (x_at s rn.number) immr.number imms.number)
prepared_does (MultiplyAdd rd rn ra rm) s = write s rd.number (sum (x_at s ra.number) (x_at s rn.number * x_at s rm.number % 2 ^ 64))
prepared_does (Constant rd number) s = write s rd.number number
prepared_does (Jump place) s = Went (jump s place)
prepared_does (JumpWhere taken place) s = jump_if (is_set taken (nzcv s.flags)) s place
prepared_does (JumpAtZero rt place) s = jump_if (nat_eq (x_at s rt.number) 0) s place
prepared_does (JumpElse rt place) s = jump_if (not (nat_eq (x_at s rt.number) 0)) s place
prepared_does (LessNumberJump taken rd rn number place) s = write_with_flags s rd.number (x_at s rn.number) number
prepared_does (CompareNumberJump taken rn number place) s = write_with_flags s 31 (x_at s rn.number) number
prepared_does (CompareJump taken rn rm by place) s = write_with_flags s 31 (x_at s rn.number) (shifted_word 0 (x_at s rm.number) by.number)
prepared_does (ByteAtRegister op rt rn rm) s = byte_access op s rt.number (sum (x_at s rn.number) (x_at s rm.number))
prepared_does (ByteAtNumber op rt rn number) s = byte_access op s rt.number (sum (x_at s rn.number) number)
prepared_does (WideAtRegister op rt rn rm by) s = access op s rt.number (sum (x_at s rn.number) (x_at s rm.number * 2 ^ by.number % 2 ^ 64))
prepared_does (WideAtNumber op rt rn number) s = access op s rt.number (sum (x_at s rn.number) number)

-- the branch of the word after it, where that may be done with it
abbrev pub branch_after : Prepared → Option Prepared
branch_after (LessNumberJump taken rd rn number place) = Some (JumpWhere taken place)
branch_after (CompareNumberJump taken rn number place) = Some (JumpWhere taken place)
branch_after (CompareJump taken rn rm by place) = Some (JumpWhere taken place)
branch_after _ = None

-- a prepared instruction and the branch after it go on, one after the other
pub record BothGo (prepared : Prepared) (before after : State) : Type 0 where
  pub branch : Prepared
  pub is : branch_after prepared ≡ Some branch
  pub middle : State
  pub first : prepared_does prepared before ≡ Went middle
  pub second : prepared_does branch middle ≡ Went after

-- at this place a prepared instruction does what the instruction does
abbrev pub IsReady : A64 → (pc : ℕ) → Prepared → Type 0
IsReady word pc prepared = (s : State) → s.pc ≡ pc → does (Scalar (instruction_view word)) s ≡ prepared_does prepared s
