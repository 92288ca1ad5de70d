-- The words around the code of a function are listed, and how many they are.
use Rattle.std.proofs.Common.{◌≡◌, ℕ, ◌+◌, ◌*◌, ◌^◌, ◌<◌, ◌≤◌, List, [], ◌∷◌, ◌++◌, length, refl, arith}
use Rattle.a64_code.specs.Table as a64
use Rattle.a64_code.proofs.Valid.{is_instruction}
use Rattle.sve_code.proofs.Valid.{is_instruction as sve_instruction}
use Rattle.machine_model.specs.CodeInMemory.{IsListed, AllListed}
use Rattle.machine_model.specs.InstructionTable.{Listed}
use Rattle.promises.specs.Reserved.{register_written}
use Rattle.promises.specs.Saved.{Saved, doublewords, frame_size, kept_x, kept_z, vector_written, saved_by}
use Rattle.call_code.specs.Frame.{store_at, load_at, take_low, spread_low, move_sp, back, save_x, save_z, restore_x, restore_z, enter, leave}
use Rattle.call_code.proofs.Among.{among_registers, among_few}
use Rattle.call_code.proofs.Restores.{AreRegisters, registers}
use Rattle.call_code.proofs.StackPointer.{down_listed, up_listed}

store_listed : (r p : ℕ) → r < 32 → p < 4096 → IsListed (store_at r p)
store_listed r p low few = is_instruction _ (low, (let z : 31 < 2 ^ 5 = omega arith in z, (few, tt))) refl

load_listed : (r p : ℕ) → r < 32 → p < 4096 → IsListed (load_at r p)
load_listed r p low few = is_instruction _ (low, (let z : 31 < 2 ^ 5 = omega arith in z, (few, tt))) refl

take_listed : (r : ℕ) → r < 32 → IsListed (take_low r)
take_listed r low = is_instruction _ (let z : 9 < 2 ^ 5 = omega arith in z, (low, tt)) refl

spread_listed : (r : ℕ) → r < 32 → IsListed (spread_low r)
spread_listed r low = sve_instruction _ (low, (let z : 9 < 2 ^ 5 = omega arith in z, (let y : 3 < 2 ^ 2 = omega arith in y, tt))) refl

-- a list of registers, each below 32
abbrev pub AreLow : List ℕ → Type 0
AreLow [] = Unit {0}
AreLow (r ∷ rs) = (r < 32) × AreLow rs

low_by : (m : ℕ) (rs : List ℕ) → m ≤ 32 → AreRegisters m rs → AreLow rs
low_by m [] le h = tt
low_by m (r ∷ rs) le h = let lt = h.0 in (omega (arith, lt, le), low_by m rs le h.2)

save_x_listed : (rs : List ℕ) (p : ℕ) → AreLow rs → p + length rs ≤ 4096 → AllListed (save_x p rs)
save_x_listed [] p h few = tt
save_x_listed (r ∷ rs) p h few = (store_listed r p h.0 (omega (arith, few)), save_x_listed rs (p + 1) h.1 (omega (arith, few)))

save_z_listed : (rs : List ℕ) (p : ℕ) → AreLow rs → p + length rs ≤ 4096 → AllListed (save_z p rs)
save_z_listed [] p h few = tt
save_z_listed (r ∷ rs) p h few = (take_listed r h.0, (store_listed 9 p (omega arith) (omega (arith, few)), save_z_listed rs (p + 1) h.1 (omega (arith, few))))

restore_x_listed : (rs : List ℕ) (p : ℕ) → AreLow rs → p + length rs ≤ 4096 → AllListed (restore_x p rs)
restore_x_listed [] p h few = tt
restore_x_listed (r ∷ rs) p h few = (load_listed r p h.0 (omega (arith, few)), restore_x_listed rs (p + 1) h.1 (omega (arith, few)))

restore_z_listed : (rs : List ℕ) (p : ℕ) → AreLow rs → p + length rs ≤ 4096 → AllListed (restore_z p rs)
restore_z_listed [] p h few = tt
restore_z_listed (r ∷ rs) p h few = (load_listed 9 p (omega arith) (omega (arith, few)), (spread_listed r h.0, restore_z_listed rs (p + 1) h.1 (omega (arith, few))))

listed_both : (is js : List Listed) → AllListed is → AllListed js → AllListed (is ++ js)
listed_both [] js h k = k
listed_both (i ∷ is) js h k = (h.0, listed_both is js h.1 k)

-- ---- what is kept

-- different registers, and no more than a caller can find as they were
pub record AreSaved (v : Saved) : Type 0 where
  pub x : AreRegisters 31 v.x
  pub z : AreRegisters 32 v.z
  pub few_x : length v.x ≤ 10
  pub few_z : length v.z ≤ 8

pub are_saved : (words : List ℕ) → AreSaved (saved_by words)
are_saved words = record {
  x = among_registers register_written words 31 kept_x (registers 31 kept_x refl);
  z = among_registers vector_written words 32 kept_z (registers 32 kept_z refl);
  few_x = among_few register_written words kept_x;
  few_z = among_few vector_written words kept_z;
}

module _ (v : Saved) (h : AreSaved v) where
  pub x_low : AreLow v.x
  x_low = low_by 31 v.x (omega arith) h.x

  pub z_low : AreLow v.z
  z_low = low_by 32 v.z (omega arith) h.z

  pub few_saved : doublewords v ≤ 18
  few_saved = let x = h.few_x in let z = h.few_z in omega (arith, x, z)

  -- the frame has the room
  pub frame_small : frame_size v ≤ 144
  frame_small = let few = few_saved in omega (arith, few)

  pub frame_holds : 8 * doublewords v ≤ frame_size v
  frame_holds = omega arith

  pub enter_listed : AllListed (enter v)
  enter_listed =
      let few = few_saved in
      let small = frame_small in
      listed_both (move_sp a64.sub_imm (frame_size v)) (save_x 0 v.x ++ save_z (length v.x) v.z) (down_listed (frame_size v) (omega (arith, small)))
      (listed_both (save_x 0 v.x) (save_z (length v.x) v.z) (save_x_listed v.x 0 x_low (omega (arith, few))) (save_z_listed v.z (length v.x) z_low (omega (arith, few))))

  back_listed : AllListed (back ∷ [])
  back_listed = (is_instruction _ (let z : 30 < 2 ^ 5 = omega arith in z, tt) refl, tt)

  pub leave_listed : AllListed (leave v)
  leave_listed =
      let few = few_saved in
      let small = frame_small in
      listed_both (restore_z (length v.x) v.z) (restore_x 0 v.x ++ (move_sp a64.add_imm (frame_size v) ++ back ∷ [])) (restore_z_listed v.z (length v.x) z_low (omega (arith, few)))
      (listed_both (restore_x 0 v.x) (move_sp a64.add_imm (frame_size v) ++ back ∷ []) (restore_x_listed v.x 0 x_low (omega (arith, few)))
      (listed_both (move_sp a64.add_imm (frame_size v)) (back ∷ []) (up_listed (frame_size v) (omega (arith, small))) back_listed))
