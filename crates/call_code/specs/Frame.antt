-- The words around the code of a function: what it keeps of the registers that a caller finds as they were is stored in a frame below
-- SP, and put back before it returns (Procedure Call Standard for the Arm 64-bit Architecture, AAPCS64, sections 6.1.1 and 6.1.2: X19 to
-- X28, and the low 64 bits of V8 to V15).
use Rattle.std.specs.Prelude.{ℕ, zero, suc, ◌+◌, List, [], ◌∷◌, ◌++◌, length, map}
use Rattle.a64_code.specs.Table as a64
use Rattle.sve_code.specs.Table as sve
use Rattle.guest_types.specs.Elements.{element}
use Rattle.guest_types.specs.Memory.{Memory, put_number}
use Rattle.machine_model.specs.InstructionTable.{Listed, Scalar, Vector}
use Rattle.machine_model.specs.Machine.{State, x_at, z_at}
use Rattle.promises.specs.Reserved.{link_register, stack_pointer}
use Rattle.promises.specs.Saved.{Saved, frame_size}

-- ---- the instructions

abbrev pub a64_of : a64.Name → List ℕ → Listed
a64_of name numbers = Scalar (record { name = name; numbers = numbers })

-- STR and LDR of Xr at doubleword p of the frame
abbrev pub store_at : ℕ → ℕ → Listed
store_at r p = a64_of a64.str_x (r ∷ stack_pointer ∷ p ∷ [])

abbrev pub load_at : ℕ → ℕ → Listed
load_at r p = a64_of a64.ldr_x (r ∷ stack_pointer ∷ p ∷ [])

-- X9, through which vector registers are kept: UMOV X9, Vr.D[0], and DUP Zr.D, X9
abbrev pub carrier : ℕ
carrier = 9

abbrev pub take_low : ℕ → Listed
take_low r = a64_of a64.umov (carrier ∷ r ∷ [])

abbrev pub spread_low : ℕ → Listed
spread_low r = Vector (record { name = sve.dup; numbers = r ∷ carrier ∷ 3 ∷ [] })

-- ADD or SUB of so many bytes to SP, where there are some
abbrev pub move_sp : a64.Name → ℕ → List Listed
move_sp name zero = []
move_sp name (suc n) = a64_of name (stack_pointer ∷ stack_pointer ∷ suc n ∷ 0 ∷ []) ∷ []

-- RET
abbrev pub back : Listed
back = a64_of a64.ret (link_register ∷ [])

-- ---- the code

-- general registers, from doubleword p on
abbrev pub save_x : ℕ → List ℕ → List Listed
save_x p [] = []
save_x p (r ∷ rs) = store_at r p ∷ save_x (p + 1) rs

abbrev pub restore_x : ℕ → List ℕ → List Listed
restore_x p [] = []
restore_x p (r ∷ rs) = load_at r p ∷ restore_x (p + 1) rs

-- the low doublewords of vector registers
abbrev pub save_z : ℕ → List ℕ → List Listed
save_z p [] = []
save_z p (r ∷ rs) = take_low r ∷ store_at carrier p ∷ save_z (p + 1) rs

abbrev pub restore_z : ℕ → List ℕ → List Listed
restore_z p [] = []
restore_z p (r ∷ rs) = load_at carrier p ∷ spread_low r ∷ restore_z (p + 1) rs

abbrev pub enter : Saved → List Listed
enter v = move_sp a64.sub_imm (frame_size v) ++ (save_x 0 v.x ++ save_z (length v.x) v.z)

abbrev pub leave : Saved → List Listed
leave v = restore_z (length v.x) v.z ++ (restore_x 0 v.x ++ (move_sp a64.add_imm (frame_size v) ++ back ∷ []))

-- ---- the frame

-- the low doubleword of Zr
abbrev pub low_at : State → ℕ → ℕ
low_at s r = element 8 (z_at s r) 0

-- the doublewords of the frame
abbrev pub kept_words : Saved → State → List ℕ
kept_words v s = map (x_at s) v.x ++ map (low_at s) v.z

-- the memory with doublewords written from an address on
abbrev pub with_words : Memory → ℕ → List ℕ → Memory
with_words m a [] = m
with_words m a (v ∷ vs) = with_words (put_number m a 8 v) (a + 8) vs
