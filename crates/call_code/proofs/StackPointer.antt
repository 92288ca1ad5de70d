-- SP moved by the bytes of a frame, where it has some.
use Rattle.std.proofs.Common.{◌≡◌, ℕ, zero, suc, ◌+◌, ◌-◌, ◌*◌, ◌%◌, ◌^◌, ◌<◌, ◌≤◌, List, [], ◌∷◌, ◌++◌, length, Some, refl, arith}
use Rattle.a64_code.specs.Table as a64
use Rattle.a64_code.proofs.Valid.{is_instruction}
use Rattle.machine_model.specs.Arithmetic.{sum, difference}
use Rattle.machine_model.specs.CodeInMemory.{AllListed, HasCode, place_after}
use Rattle.machine_model.specs.InstructionTable.{Listed}
use Rattle.machine_model.specs.Machine.{State, Went, next}
use Rattle.machine_model.specs.OneStep.{step}
use Rattle.machine_model.specs.Run.{after_steps}
use Rattle.machine_model.proofs.CodeInMemory.{code_does}
use Rattle.call_code.specs.Frame.{a64_of, move_sp}
use Rattle.call_code.proofs.Walks.{first_then}

-- the steps over code lead from s to t, where SP has another number, and all else is as it was
pub record Moves (s t : State) (code : List Listed) (to : ℕ) : Type 0 where
  pub after : after_steps (length code) s ≡ Some t
  pub memory : t.memory ≡ s.memory
  pub x : t.x ≡ s.x
  pub z : t.z ≡ s.z
  pub vl : t.vl ≡ s.vl
  pub sp : t.sp ≡ to
  pub pc : t.pc ≡ place_after s.pc code

pub moves_down : (n : ℕ) (rest : List Listed) (s : State) → HasCode s.memory s.pc (move_sp a64.sub_imm n ++ rest) → n ≤ s.sp → s.sp < 2 ^ 64 → (t : State) × Moves s t (move_sp a64.sub_imm n) (s.sp - n)
moves_down zero rest s code room low = (s, record { after = refl; memory = refl; x = refl; z = refl; vl = refl; sp = omega arith; pc = refl })
moves_down (suc n) rest s code room low =
    let to : difference s.sp (suc n * 1) ≡ s.sp - suc n = let e : (s.sp + (2 ^ 64 - suc n * 1)) % 2 ^ 64 ≡ s.sp - suc n = omega (arith, room, low) in e in
    let t : State = next (record s { sp = difference s.sp (suc n * 1) }) in
    let one : step s ≡ Went t = code_does s (a64_of a64.sub_imm (31 ∷ 31 ∷ suc n ∷ 0 ∷ [])) rest code in
    (t, record { after = first_then 0 s t t one refl; memory = refl; x = refl; z = refl; vl = refl; sp = to; pc = refl })

pub moves_up : (n : ℕ) (rest : List Listed) (s : State) → HasCode s.memory s.pc (move_sp a64.add_imm n ++ rest) → s.sp + n < 2 ^ 64 → (t : State) × Moves s t (move_sp a64.add_imm n) (s.sp + n)
moves_up zero rest s code low = (s, record { after = refl; memory = refl; x = refl; z = refl; vl = refl; sp = omega arith; pc = refl })
moves_up (suc n) rest s code low =
    let to : sum s.sp (suc n * 1) ≡ s.sp + suc n = let e : (s.sp + suc n * 1) % 2 ^ 64 ≡ s.sp + suc n = omega (arith, low) in e in
    let t : State = next (record s { sp = sum s.sp (suc n * 1) }) in
    let one : step s ≡ Went t = code_does s (a64_of a64.add_imm (31 ∷ 31 ∷ suc n ∷ 0 ∷ [])) rest code in
    (t, record { after = first_then 0 s t t one refl; memory = refl; x = refl; z = refl; vl = refl; sp = to; pc = refl })

pub down_listed : (n : ℕ) → n < 4096 → AllListed (move_sp a64.sub_imm n)
down_listed zero few = tt
down_listed (suc n) few = (is_instruction _ (let z : 31 < 2 ^ 5 = omega arith in z, (let z : 31 < 2 ^ 5 = omega arith in z, (few, (let x : 0 < 2 ^ 1 = omega arith in x, tt)))) refl, tt)

pub up_listed : (n : ℕ) → n < 4096 → AllListed (move_sp a64.add_imm n)
up_listed zero few = tt
up_listed (suc n) few = (is_instruction _ (let z : 31 < 2 ^ 5 = omega arith in z, (let z : 31 < 2 ^ 5 = omega arith in z, (few, (let x : 0 < 2 ^ 1 = omega arith in x, tt)))) refl, tt)
