-- Registers kept in the frame.
use Rattle.std.proofs.Common.{◌≡◌, ◌≢◌, ℕ, suc, ◌+◌, ◌*◌, ◌%◌, ◌^◌, ◌<◌, ◌≤◌, true, List, [], ◌∷◌, ◌++◌, length, Some, None, Ok, Err, refl, ap, ◌∙◌, arith, get_or-set_same, get_or-set_other, length-set}
use Rattle.std.specs.Prelude.{map}
use Rattle.std.proofs.Math.Nat.{mod-lt}
use Rattle.std.proofs.lemmas.Nat.{pow_pos}
use Rattle.guest_types.specs.Memory.{Memory, can_write, first_fault, put_number}
use Rattle.guest_types.proofs.Stores.{stored-done, can_write-put_number}
use Rattle.machine_model.specs.declared.outcome.StopKind.TheVariants.{Write}
use Rattle.machine_model.specs.CodeInMemory.{HasCode, place_after, word_after}
use Rattle.machine_model.specs.Effects.{store_from}
use Rattle.machine_model.specs.InstructionTable.{Listed}
use Rattle.machine_model.specs.Machine.{State, Step, Went, Stopped, x_at, with_x, next}
use Rattle.machine_model.specs.OneStep.{step}
use Rattle.machine_model.specs.Run.{after_steps}
use Rattle.machine_model.proofs.CodeInMemory.{code_does}
use Rattle.call_code.specs.Frame.{store_at, take_low, save_x, save_z, low_at, with_words}
use Rattle.call_code.proofs.SavedWords.{none_faults}
use Rattle.call_code.proofs.Walks.{word_after_below, first_then, code_on}

-- so many doublewords may be written from an address on
abbrev pub AreFree : Memory → ℕ → ℕ → Type 0
AreFree m a n = (x : ℕ) → a ≤ x → x < a + 8 * n → can_write m x ≡ true

-- the steps over code lead from s to t, and write these doublewords, X9, and nothing else of what a call is asked to keep
pub record Saves (s t : State) (code : List Listed) (a : ℕ) (vs : List ℕ) : Type 0 where
  pub after : after_steps (length code) s ≡ Some t
  pub memory : t.memory ≡ with_words s.memory a vs
  pub sized : length t.x ≡ 31
  pub x : (r : ℕ) → r ≢ 9 → x_at t r ≡ x_at s r
  pub sp : t.sp ≡ s.sp
  pub z : t.z ≡ s.z
  pub vl : t.vl ≡ s.vl
  pub pc : t.pc ≡ place_after s.pc code

stored_as : (s : State) (r a : ℕ) → first_fault (can_write s.memory) a 8 ≡ None → store_from s r a 8 ≡ Went (next (record s { memory = put_number s.memory a 8 (x_at s r) }))
stored_as s r a free = ap (λ o. elim o as (λ o. Step) [ Ok memory ↦ Went (next (record s { memory = memory })) | Err fault ↦ Stopped Write s.pc fault.address s.memory ]) (stored-done s.memory a 8 (x_at s r) free)

pub store_goes : (s : State) (r p a n : ℕ) (rest : List Listed) → HasCode s.memory s.pc (store_at r p ∷ rest) → s.sp + 8 * p ≡ a → a + 8 * suc n ≤ 2 ^ 64 → AreFree s.memory a (suc n) → step s ≡ Went (next (record s { memory = put_number s.memory a 8 (x_at s r) }))
store_goes s r p a n rest code at room free =
    let e : (s.sp + p * 8) % 2 ^ 64 ≡ a = omega (arith, at, room) in
    code_does s (store_at r p) rest code
    ∙ ap (λ c. store_from s r c 8) e
    ∙ stored_as s r a (none_faults (can_write s.memory) a 8 (omega (arith, room)) (λ x from until. free x from (omega (arith, until))))

free_next : (m : Memory) (a n v : ℕ) → AreFree m a (suc n) → AreFree (put_number m a 8 v) (a + 8) n
free_next m a n v free x from until = can_write-put_number m a 8 v x ∙ free x (omega (arith, from)) (omega (arith, until))

pub saves_x : (rs : List ℕ) (p a : ℕ) (rest : List Listed) (s : State) → HasCode s.memory s.pc (save_x p rs ++ rest) → length s.x ≡ 31 → s.sp + 8 * p ≡ a → a + 8 * length rs ≤ 2 ^ 64 → AreFree s.memory a (length rs) → (t : State) × Saves s t (save_x p rs) a (map (x_at s) rs)
saves_x [] p a rest s code sized at room free = (s, record { after = refl; memory = refl; sized = sized; x = λ r ne. refl; sp = refl; z = refl; vl = refl; pc = refl })
saves_x (r ∷ rs) p a rest s code sized at room free =
    let s1 : State = next (record s { memory = put_number s.memory a 8 (x_at s r) }) in
    let one : step s ≡ Went s1 = store_goes s r p a (length rs) (save_x (p + 1) rs ++ rest) code at room free in
    let more = saves_x rs (p + 1) (a + 8) rest s1 (code_on s s1 (word_after s.pc) (save_x (p + 1) rs ++ rest) one (word_after_below s.pc) code.2) sized (omega (arith, at)) (omega (arith, room)) (free_next s.memory a (length rs) (x_at s r) free) in
    let h = more.1 in
    (more.0, record { after = first_then (length (save_x (p + 1) rs)) s s1 more.0 one h.after; memory = h.memory; sized = h.sized; x = h.x; sp = h.sp; z = h.z; vl = h.vl; pc = h.pc })

pub saves_z : (rs : List ℕ) (p a : ℕ) (rest : List Listed) (s : State) → HasCode s.memory s.pc (save_z p rs ++ rest) → length s.x ≡ 31 → s.sp + 8 * p ≡ a → a + 8 * length rs ≤ 2 ^ 64 → AreFree s.memory a (length rs) → (t : State) × Saves s t (save_z p rs) a (map (low_at s) rs)
saves_z [] p a rest s code sized at room free = (s, record { after = refl; memory = refl; sized = sized; x = λ r ne. refl; sp = refl; z = refl; vl = refl; pc = refl })
saves_z (r ∷ rs) p a rest s code sized at room free =
    let v = low_at s r in
    let s1 : State = next (with_x s 9 v) in
    let tail = save_z (p + 1) rs ++ rest in
    let one : step s ≡ Went s1 = code_does s (take_low r) (store_at 9 p ∷ tail) code in
    let code1 = code_on s s1 (word_after s.pc) (store_at 9 p ∷ tail) one (word_after_below s.pc) code.2 in
    let taken : x_at s1 9 ≡ v = get_or-set_same s.x 9 v 0 (omega (arith, sized)) in
    let sized1 : length s1.x ≡ 31 = length-set s.x 9 v ∙ sized in
    let s2 : State = next (record s1 { memory = put_number s.memory a 8 (x_at s1 9) }) in
    let two : step s1 ≡ Went s2 = store_goes s1 9 p a (length rs) tail code1 at room free in
    let more = saves_z rs (p + 1) (a + 8) rest s2 (code_on s1 s2 (word_after s1.pc) tail two (word_after_below s1.pc) code1.2) sized1 (omega (arith, at)) (omega (arith, room)) (free_next s.memory a (length rs) (x_at s1 9) free) in
    let h = more.1 in (
      more.0,
      record {
        after = first_then (suc (length (save_z (p + 1) rs))) s s1 more.0 one (first_then (length (save_z (p + 1) rs)) s1 s2 more.0 two h.after);
        memory = h.memory ∙ ap (λ k. with_words (put_number s.memory a 8 k) (a + 8) (map (low_at s) rs)) taken;
        sized = h.sized;
        x = λ n ne. h.x n ne ∙ get_or-set_other s.x 9 n v 0 ne;
        sp = h.sp;
        z = h.z;
        vl = h.vl;
        pc = h.pc;
      },
    )
