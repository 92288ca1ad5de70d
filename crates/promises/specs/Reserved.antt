-- The registers that the words of a compiled file leave alone, so that they may stand in a function: X18, which a platform may keep
-- for itself, X29, the frame pointer, X30, the link register (Procedure Call Standard for the Arm 64-bit Architecture, section
-- 6.1.1), and SP.
use Rattle.std.specs.Prelude.{◌≡◌, ℕ, Bool, true, false, ◌&&◌, ◌||◌, not, nat_eq, Option, Some, None, option_map}
use Rattle.machine_model.specs.Frames.{x_field, x_written, sp_written}
use Rattle.machine_model.specs.InstructionTable.{Listed, Scalar, Vector, listed}
use Rattle.machine_model.specs.VectorEffects.{field_of}

-- the registers by number. SP has 31 where it is the base of an access, or a side of a sum with a number.
abbrev pub platform_register : ℕ
platform_register = 18

abbrev pub frame_pointer : ℕ
frame_pointer = 29

abbrev pub link_register : ℕ
link_register = 30

abbrev pub stack_pointer : ℕ
stack_pointer = 31

-- the general register that an instruction writes, if it writes one
abbrev pub register_written : Listed → Option ℕ
register_written (Scalar i) = x_written i.name i.numbers
register_written (Vector i) = option_map (field_of i.name i.numbers) (x_field i.name)

abbrev pub writes_stack_pointer : Listed → Bool
writes_stack_pointer (Scalar i) = sp_written i.name i.numbers
writes_stack_pointer (Vector i) = false

abbrev pub is_reserved : ℕ → Bool
is_reserved n = nat_eq n platform_register || nat_eq n frame_pointer || nat_eq n link_register

abbrev pub none_reserved : Option ℕ → Bool
none_reserved None = true
none_reserved (Some n) = not (is_reserved n)

abbrev pub leaves_reserved : Listed → Bool
leaves_reserved i = none_reserved (register_written i) && not (writes_stack_pointer i)

-- a word is that of an instruction of the table which leaves them alone
pub record LeavesReserved (word : ℕ) : Type 0 where
  pub instruction : Listed
  pub is : listed word ≡ Some instruction
  pub leaves : leaves_reserved instruction ≡ true
