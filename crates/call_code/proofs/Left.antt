-- The words behind the code of a function: the registers are loaded again, SP goes up, and RET.
use Rattle.std.proofs.Common.{◌≡◌, ◌≢◌, ℕ, ◌+◌, ◌*◌, ◌^◌, ◌<◌, ◌≤◌, true, List, [], ◌∷◌, ◌++◌, length, Some, refl, sym, ap, ◌∙◌, subst, arith, length-append}
use Rattle.std.specs.Prelude.{map, slice_index, slice_index_or}
use Rattle.std.proofs.lemmas.List.{length-map}
use Rattle.guest_types.specs.Elements.{element}
use Rattle.guest_types.specs.Memory.{can_read}
use Rattle.a64_code.specs.Table as a64
use Rattle.machine_model.specs.CodeInMemory.{HasCode, place_after}
use Rattle.machine_model.specs.InstructionTable.{Listed}
use Rattle.machine_model.specs.Machine.{State, Went, x_at, z_at, jump}
use Rattle.machine_model.specs.OneStep.{step}
use Rattle.machine_model.specs.Run.{after_steps}
use Rattle.machine_model.specs.States.{IsState}
use Rattle.machine_model.proofs.CodeInMemory.{code_does, code_back}
use Rattle.promises.specs.Saved.{Saved, doublewords, frame_size}
use Rattle.call_code.specs.Frame.{move_sp, back, restore_x, restore_z, leave, low_at, kept_words}
use Rattle.call_code.proofs.AroundWords.{AreSaved, frame_holds, z_low}
use Rattle.call_code.proofs.Entered.{place_low}
use Rattle.call_code.proofs.FrameNumbers.{holds_front, holds_back, z_words_small}
use Rattle.call_code.proofs.Restores.{Absent, Back, restores_x, restores_z}
use Rattle.call_code.proofs.SavedWords.{Holds}
use Rattle.call_code.proofs.StackPointer.{moves_up}
use Rattle.call_code.proofs.Walks.{first_then, after_add, code_later}

-- what they lead to
pub record Outside (v : Saved) (s u w : State) : Type 0 where
  pub after : after_steps (length (leave v)) u ≡ Some w
  pub pc : w.pc ≡ x_at w 30
  pub memory : w.memory ≡ u.memory
  pub sp : w.sp ≡ u.sp + frame_size v
  pub x : Back (x_at w) v.x (map (x_at s) v.x)
  pub other_x : (r : ℕ) → r ≢ 9 → Absent r v.x → x_at w r ≡ x_at u r
  pub z : Back (low_at w) v.z (map (low_at s) v.z)
  pub other_z : (r : ℕ) → Absent r v.z → z_at w r ≡ z_at u r

-- from a state with these doublewords in the frame
module _ (v : Saved) (saved : AreSaved v) (s u : State) (is_s : IsState s) (is : IsState u) (code : HasCode u.memory u.pc (leave v)) (low : u.sp + frame_size v < 2 ^ 64) (free : (x : ℕ) → u.sp ≤ x → x < u.sp + 8 * doublewords v → can_read u.memory x ≡ true) (holds : Holds u.memory u.sp (kept_words v s)) where
  abbrev n : ℕ
  n = length v.x

  abbrev of_x : List ℕ
  of_x = map (x_at s) v.x

  abbrev of_z : List ℕ
  of_z = map (low_at s) v.z

  abbrev up : List Listed
  up = move_sp a64.add_imm (frame_size v)

  abbrev tail : List Listed
  tail = up ++ back ∷ []

  abbrev out_x : List Listed
  out_x = restore_x 0 v.x

  abbrev out_z : List Listed
  out_z = restore_z (length v.x) v.z

  held_z : Holds u.memory (u.sp + 8 * n) of_z
  held_z = subst (λ k. Holds u.memory (u.sp + 8 * k) of_z) (length-map v.x (x_at s)) (holds_back u.memory u.sp of_x of_z holds)

  pub out : (w : State) × Outside v s u w
  out =
      let fits = frame_holds v saved in
      let in_z = restores_z v.z of_z n (u.sp + 8 * n) (out_x ++ tail) u code is.x_count is.z_count is.sized saved.z (length-map v.z (low_at s)) (z_words_small s v.z is_s (z_low v saved)) (omega arith) (omega (arith, low, fits)) (λ x from until. free x (omega (arith, from)) (omega (arith, until))) held_z in
      let a = in_z.0 in
      let ha = in_z.1 in
      let place_a : place_after u.pc out_z < 2 ^ 64 = place_low out_z u.pc is.place in
      let low_a : a.pc < 2 ^ 64 = subst (λ p. p < 2 ^ 64) (sym ha.pc) place_a in
      let code_a : HasCode a.memory a.pc (out_x ++ tail) = code_later (length out_z) u a (out_x ++ tail) (place_after u.pc out_z) ha.after ha.pc place_a (code_back u.memory u.pc out_z (out_x ++ tail) code) in
      let sp_a = ha.sp in
      let in_x = restores_x v.x of_x 0 u.sp tail a code_a ha.sized saved.x (length-map v.x (x_at s)) (omega (arith, sp_a)) (omega (arith, low, fits)) (λ x from until. ap (λ m. can_read m x) ha.memory ∙ free x from (omega (arith, until))) (subst (λ m. Holds m u.sp of_x) (sym ha.memory) (holds_front u.memory u.sp of_x of_z holds)) in
      let b = in_x.0 in
      let hb = in_x.1 in
      let place_b : place_after a.pc out_x < 2 ^ 64 = place_low out_x a.pc low_a in
      let low_b : b.pc < 2 ^ 64 = subst (λ p. p < 2 ^ 64) (sym hb.pc) place_b in
      let code_b : HasCode b.memory b.pc tail = code_later (length out_x) a b tail (place_after a.pc out_x) hb.after hb.pc place_b (code_back a.memory a.pc out_x tail code_a) in
      let sp_b : b.sp ≡ u.sp = hb.sp ∙ sp_a in
      let third = moves_up (frame_size v) (back ∷ []) b code_b (omega (arith, sp_b, low)) in
      let c = third.0 in
      let hc = third.1 in
      let code_c : HasCode c.memory c.pc (back ∷ []) = code_later (length up) b c (back ∷ []) (place_after b.pc up) hc.after hc.pc (place_low up b.pc low_b) (code_back b.memory b.pc up (back ∷ []) code_b) in
      let w : State = jump c (x_at c 30) in
      let fourth : step c ≡ Went w = code_does c back [] code_c in
      let parts : length (leave v) ≡ length out_z + (length out_x + (length up + 1)) =
      let i = length-append out_z (out_x ++ tail) in let j = length-append out_x tail in let k = length-append up (back ∷ []) in omega (arith, i, j, k) in (
        w,
        record {
          after = ap (λ k. after_steps k u) parts ∙ after_add (length out_z) (length out_x + (length up + 1)) u a w ha.after (after_add (length out_x) (length up + 1) a b w hb.after (after_add (length up) 1 b c w hc.after (first_then 0 c w w fourth refl)));
          pc = refl;
          memory = hc.memory ∙ hb.memory ∙ ha.memory;
          sp = hc.sp ∙ ap (λ k. k + frame_size v) sp_b;
          x = subst (λ x. Back (λ r. slice_index x r) v.x of_x) (sym hc.x) hb.back;
          other_x = λ r ne off. ap (λ x. slice_index x r) hc.x ∙ hb.others r off ∙ ha.x r ne;
          z = subst (λ z. Back (λ r. element 8 (slice_index_or z r []) 0) v.z of_z) (sym (hc.z ∙ hb.z)) ha.back;
          other_z = λ r off. ap (λ z. slice_index_or z r []) (hc.z ∙ hb.z) ∙ ha.others r off;
        },
      )
