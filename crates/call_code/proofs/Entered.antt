-- The words before the code of a function: SP goes down, and the registers are kept in the frame.
use Rattle.std.proofs.Common.{◌≡◌, ℕ, ◌+◌, ◌-◌, ◌*◌, ◌%◌, ◌^◌, ◌<◌, ◌≤◌, true, List, [], ◌∷◌, ◌++◌, length, Some, refl, sym, ap, ◌∙◌, subst, arith, append-nil, length-append}
use Rattle.std.specs.Prelude.{map, slice_index, slice_index_or}
use Rattle.std.proofs.Math.Nat.{mod-lt}
use Rattle.std.proofs.lemmas.List.{length-map}
use Rattle.std.proofs.lemmas.Nat.{pow_pos}
use Rattle.guest_types.specs.Elements.{element}
use Rattle.guest_types.specs.Memory.{can_write}
use Rattle.a64_code.specs.Table as a64
use Rattle.machine_model.specs.CodeInMemory.{HasCode, place_after, word_after, words_of as listed_words}
use Rattle.machine_model.specs.InstructionTable.{Listed}
use Rattle.machine_model.specs.Machine.{State, x_at}
use Rattle.machine_model.specs.Run.{after_steps}
use Rattle.machine_model.proofs.CodeInMemory.{code_back}
use Rattle.machine_model.proofs.StatesOfRuns.{steps_keep}
use Rattle.call_code.specs.Called.{words_around, Enters, before}
use Rattle.promises.specs.Function.{IsCall}
use Rattle.promises.specs.Saved.{Saved, doublewords, frame_size}
use Rattle.call_code.specs.Frame.{move_sp, save_x, save_z, enter, leave, low_at, kept_words, with_words}
use Rattle.call_code.specs.Returning.{returning}
use Rattle.call_code.proofs.AroundWords.{AreSaved, frame_holds, enter_listed}
use Rattle.call_code.proofs.FrameNumbers.{words_append}
use Rattle.call_code.proofs.SavedWords.{words_write}
use Rattle.call_code.proofs.Saves.{saves_x, saves_z}
use Rattle.call_code.proofs.StackPointer.{moves_down}
use Rattle.call_code.proofs.Stands.{stand_front, has_code, place_by_count}
use Rattle.call_code.proofs.Walks.{after_add, code_later}

pub place_append : (is js : List Listed) (pc : ℕ) → place_after pc (is ++ js) ≡ place_after (place_after pc is) js
place_append [] js pc = refl
place_append (i ∷ is) js pc = place_append is js (word_after pc)

pub place_low : (is : List Listed) (pc : ℕ) → pc < 2 ^ 64 → place_after pc is < 2 ^ 64
place_low is pc low = subst (λ p. p < 2 ^ 64) (sym (place_by_count is pc low)) (mod-lt (pc + 4 * length is) (pow_pos 64))

-- the state after them
pub record Inside (v : Saved) (s t : State) : Type 0 where
  pub after : after_steps (before v) s ≡ Some t
  pub enters : Enters v s t
  pub pc : t.pc ≡ (s.pc + 4 * before v) % 2 ^ 64

module _ (v : Saved) (saved : AreSaved v) (words : List ℕ) (s : State) (c : IsCall v (words_around v words) s) where
  abbrev foot : ℕ
  foot = s.sp - frame_size v

  abbrev down : List Listed
  down = move_sp a64.sub_imm (frame_size v)

  abbrev in_x : List Listed
  in_x = save_x 0 v.x

  abbrev in_z : List Listed
  in_z = save_z (length v.x) v.z

  -- the bytes of the doublewords below a number may be written
  free_at : (x : ℕ) → foot ≤ x → x < foot + 8 * doublewords v → can_write s.memory x ≡ true
  free_at x from until = let room = c.room in c.free x (omega (arith, room, from), omega (arith, room, until))

  pub code_entered : (t : State) × Inside v s t
  code_entered =
      let place = c.state.place in
      let low = c.state.sp_small in
      let room = c.room in
      let holds = frame_holds v saved in
      let n = length v.x in
      let code : HasCode s.memory s.pc (down ++ (in_x ++ in_z)) = has_code s.memory (enter v) s.pc place (enter_listed v saved) (stand_front s.memory s.pc (listed_words (enter v)) (returning words ++ listed_words (leave v)) c.code) in
      let first = moves_down (frame_size v) (in_x ++ in_z) s code room low in
      let a = first.0 in
      let ha = first.1 in
      let place_a : place_after s.pc down < 2 ^ 64 = place_low down s.pc place in
      let code_a : HasCode a.memory a.pc (in_x ++ in_z) = code_later (length down) s a (in_x ++ in_z) (place_after s.pc down) ha.after ha.pc place_a (code_back s.memory s.pc down (in_x ++ in_z) code) in
      let a_sp = ha.sp in
      let low_a : a.pc < 2 ^ 64 = subst (λ p. p < 2 ^ 64) (sym ha.pc) place_a in
      let sized : length a.x ≡ 31 = ap length ha.x ∙ c.state.x_count in
      let saved_x = saves_x v.x 0 foot in_z a code_a sized (omega (arith, a_sp)) (omega (arith, room, low, holds)) (λ x from until. ap (λ m. can_write m x) ha.memory ∙ free_at x from (omega (arith, until))) in
      let b = saved_x.0 in
      let hb = saved_x.1 in
      let place_b : place_after a.pc in_x < 2 ^ 64 = place_low in_x a.pc low_a in
      let code_b : HasCode b.memory b.pc in_z = code_later (length in_x) a b in_z (place_after a.pc in_x) hb.after hb.pc place_b (code_back a.memory a.pc in_x in_z code_a) in
      let b_sp : b.sp ≡ foot = hb.sp ∙ a_sp in
      let saved_z = saves_z v.z n (foot + 8 * n) [] b (subst (HasCode b.memory b.pc) (sym (append-nil in_z)) code_b) hb.sized (omega (arith, b_sp)) (omega (arith, room, low, holds))
      (λ x from until. ap (λ m. can_write m x) (hb.memory ∙ ap (λ m. with_words m foot (map (x_at a) v.x)) ha.memory) ∙ words_write s.memory foot (map (x_at a) v.x) x ∙ free_at x (omega (arith, from)) (omega (arith, until))) in
      let t = saved_z.0 in
      let ht = saved_z.1 in
      let parts : before v ≡ length down + (length in_x + length in_z) = let i = length-append down (in_x ++ in_z) in let j = length-append in_x in_z in omega (arith, i, j) in
      let whole : after_steps (before v) s ≡ Some t = ap (λ k. after_steps k s) parts ∙ after_add (length down) (length in_x + length in_z) s a t ha.after (after_add (length in_x) (length in_z) a b t hb.after ht.after) in
      let t_sp : t.sp ≡ foot = ht.sp ∙ b_sp in
      let same_z : b.z ≡ s.z = hb.z ∙ ha.z in
      let bytes : t.memory ≡ with_words s.memory foot (kept_words v s) =
      ht.memory
      ∙ ap (λ z. with_words b.memory (foot + 8 * n) (map (λ r. element 8 (slice_index_or z r []) 0) v.z)) same_z
      ∙ ap (λ m. with_words m (foot + 8 * n) (map (low_at s) v.z)) (hb.memory ∙ ap (λ m. with_words m foot (map (x_at a) v.x)) ha.memory ∙ ap (λ x. with_words s.memory foot (map (λ r. slice_index x r) v.x)) ha.x)
      ∙ ap (λ k. with_words (with_words s.memory foot (map (x_at s) v.x)) (foot + 8 * k) (map (low_at s) v.z)) (sym (length-map v.x (x_at s)))
      ∙ sym (words_append s.memory foot (map (x_at s) v.x) (map (low_at s) v.z)) in
      let place_t : t.pc ≡ place_after s.pc (enter v) =
      ht.pc ∙ ap (λ p. place_after p in_z) (hb.pc ∙ ap (λ p. place_after p in_x) ha.pc)
      ∙ sym (place_append down (in_x ++ in_z) s.pc ∙ place_append in_x in_z (place_after s.pc down)) in (
        t,
        record {
          after = whole;
          enters = record {
            state = steps_keep (before v) s t c.state whole;
            x = λ r ne. ht.x r ne ∙ hb.x r ne ∙ ap (λ x. slice_index x r) ha.x;
            sp = omega (arith, t_sp, room);
            z = ht.z ∙ same_z;
            vl = ht.vl ∙ hb.vl ∙ ha.vl;
            memory = bytes ∙ ap (λ k. with_words s.memory k (kept_words v s)) (sym t_sp);
          };
          pc = place_t ∙ place_by_count (enter v) s.pc place;
        },
      )
