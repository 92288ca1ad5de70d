-- How many words a function has.
use Rattle.std.proofs.Common.{◌≡◌, ℕ, zero, suc, ◌+◌, ◌*◌, ◌≤◌, List, [], ◌∷◌, ◌++◌, length, arith, length-append}
use Rattle.std.proofs.lemmas.List.{length-map}
use Rattle.a64_code.specs.Table as a64
use Rattle.machine_model.specs.CodeInMemory.{spell, words_of}
use Rattle.call_code.specs.Called.{function_words}
use Rattle.promises.specs.Saved.{Saved, doublewords, frame_size, sp_steps, call_steps, saved_by}
use Rattle.call_code.specs.Frame.{move_sp, back, save_x, save_z, restore_x, restore_z, enter, leave}
use Rattle.call_code.specs.Returning.{returning}
use Rattle.call_code.proofs.AroundWords.{AreSaved, are_saved}
use Rattle.call_code.proofs.ReturnedRuns.{length_returning}

sp_words : (n : ℕ) → length (move_sp a64.sub_imm n) + length (move_sp a64.add_imm n) ≡ sp_steps n
sp_words zero = omega arith
sp_words (suc n) = omega arith

moves_few : (n : ℕ) → sp_steps n ≤ 2
moves_few zero = omega arith
moves_few (suc n) = omega arith

saves : (rs : List ℕ) (p : ℕ) → length (save_x p rs) ≡ length rs
saves [] p = omega arith
saves (r ∷ rs) p = omega (arith, saves rs (p + 1))

low_saves : (rs : List ℕ) (p : ℕ) → length (save_z p rs) ≡ 2 * length rs
low_saves [] p = omega arith
low_saves (r ∷ rs) p = omega (arith, low_saves rs (p + 1))

restores : (rs : List ℕ) (p : ℕ) → length (restore_x p rs) ≡ length rs
restores [] p = omega arith
restores (r ∷ rs) p = omega (arith, restores rs (p + 1))

low_restores : (rs : List ℕ) (p : ℕ) → length (restore_z p rs) ≡ 2 * length rs
low_restores [] p = omega arith
low_restores (r ∷ rs) p = omega (arith, low_restores rs (p + 1))

-- the words around its code, by the registers that it keeps
pub around_is : (v : Saved) → length (enter v) + length (leave v) ≡ call_steps v
around_is v =
    let n = length v.x in
    let a = length-append (move_sp a64.sub_imm (frame_size v)) (save_x 0 v.x ++ save_z n v.z) in
    let b = length-append (save_x 0 v.x) (save_z n v.z) in
    let c = length-append (restore_z n v.z) (restore_x 0 v.x ++ (move_sp a64.add_imm (frame_size v) ++ back ∷ [])) in
    let d = length-append (restore_x 0 v.x) (move_sp a64.add_imm (frame_size v) ++ back ∷ []) in
    let e = length-append (move_sp a64.add_imm (frame_size v)) (back ∷ []) in
    omega (arith, a, b, c, d, e, sp_words (frame_size v), saves v.x 0, low_saves v.z n, restores v.x 0, low_restores v.z n)

-- no more than 55 of them, and the BRK
pub steps_few : (v : Saved) → AreSaved v → call_steps v ≤ 55
steps_few v h = let x = h.few_x in let z = h.few_z in omega (arith, moves_few (frame_size v), x, z)

pub function_length : (words : List ℕ) → length (function_words words) ≤ length words + 56
function_length words =
    let v = saved_by words in
    let a = length-append (words_of (enter v)) (returning words ++ words_of (leave v)) in
    let b = length-append (returning words) (words_of (leave v)) in
    let c = length-map (enter v) spell in
    let d = length-map (leave v) spell in
    let e = length_returning words in
    let few = steps_few v (are_saved words) in
    omega (arith, a, b, c, d, e, around_is v, few)
