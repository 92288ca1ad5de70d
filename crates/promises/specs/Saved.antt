-- What a function keeps for its caller, in a frame on the stack below SP (Procedure Call Standard for the Arm 64-bit Architecture,
-- AAPCS64, sections 6.1.1 and 6.1.2): of the registers that a caller finds as they were, those that its words write, and no others.
use Rattle.std.specs.Prelude.{ℕ, zero, suc, ◌+◌, ◌*◌, ◌/◌, Bool, false, ◌||◌, nat_eq, if◌then◌else◌, List, [], ◌∷◌, length, Option, Some, None, option_map}
use Rattle.machine_model.specs.Frames.{z_field}
use Rattle.machine_model.specs.InstructionTable.{Listed, Scalar, Vector, listed}
use Rattle.machine_model.specs.VectorEffects.{field_of}
use Rattle.promises.specs.Reserved.{register_written}

-- ---- the frame

-- general registers, and vector registers of which the low doubleword is kept
pub record Saved : Type 0 where
  pub x : List ℕ
  pub z : List ℕ

-- the doublewords that the frame holds
abbrev pub doublewords : Saved → ℕ
doublewords v = length v.x + length v.z

-- the bytes of the frame: SP stays a multiple of 16 (AAPCS64, section 6.4.5.1)
abbrev pub frame_size : Saved → ℕ
frame_size v = 16 * ((doublewords v + 1) / 2)

-- SP goes down and up again where the frame has bytes
abbrev pub sp_steps : (frame : ℕ) → ℕ
sp_steps zero = 0
sp_steps (suc n) = 2

-- The steps of a call beside those of the code: a store and a load for each general register, and one more each for a vector register,
-- whose low doubleword passes through a general one; those that move SP, and RET.
abbrev pub call_steps : Saved → ℕ
call_steps v = 2 * length v.x + 4 * length v.z + sp_steps (frame_size v) + 1

-- ---- what is kept

-- the registers that a caller finds as they were: general ones, and vector registers in their low 64 bits
abbrev pub kept_x : List ℕ
kept_x = 19 ∷ 20 ∷ 21 ∷ 22 ∷ 23 ∷ 24 ∷ 25 ∷ 26 ∷ 27 ∷ 28 ∷ []

abbrev pub kept_z : List ℕ
kept_z = 8 ∷ 9 ∷ 10 ∷ 11 ∷ 12 ∷ 13 ∷ 14 ∷ 15 ∷ []

-- the vector register that an instruction writes, if it writes one
abbrev pub vector_written : Listed → Option ℕ
vector_written (Scalar i) = None
vector_written (Vector v) = option_map (field_of v.name v.numbers) (z_field v.name)

abbrev pub is_number : ℕ → Option ℕ → Bool
is_number r None = false
is_number r (Some d) = nat_eq d r

-- the register that the instruction of a word writes, where `written` says which one an instruction does
abbrev pub written_by : (written : Listed → Option ℕ) → (word : ℕ) → Option ℕ
written_by written word = elim (listed word) [ None ↦ None | Some i ↦ written i ]

abbrev pub word_writes : (written : Listed → Option ℕ) → (r word : ℕ) → Bool
word_writes written r word = is_number r (written_by written word)

-- whether that of some word does
unfoldable pub is_written : (written : Listed → Option ℕ) → (r : ℕ) → (words : List ℕ) → Bool
is_written written r [] = false
is_written written r (word ∷ words) = word_writes written r word || is_written written r words

-- those of some registers that the words write
unfoldable pub written_among : (written : Listed → Option ℕ) → (words rs : List ℕ) → List ℕ
written_among written words [] = []
written_among written words (r ∷ rs) =
    if is_written written r words then r ∷ written_among written words rs else written_among written words rs

-- what a function with these words keeps
abbrev pub saved_by : List ℕ → Saved
saved_by words = record { x = written_among register_written words kept_x; z = written_among vector_written words kept_z }
