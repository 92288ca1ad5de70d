-- Registers put back from the frame.
use Rattle.std.proofs.Common.{◌≡◌, ◌≢◌, ℕ, suc, ◌+◌, ◌*◌, ◌%◌, ◌^◌, ◌<◌, ◌≤◌, Bool, true, List, [], ◌∷◌, ◌++◌, length, Some, None, Ok, Err, refl, sym, ap, ◌∙◌, arith, get_or-set_same, get_or-set_other, length-set}
use Rattle.std.specs.Prelude.{All, not, ◌&&◌, nat_eq, nat_lt}
use Rattle.std.proofs.lemmas.Bool.{and_parts, eq-eqb, ltb-true}
use Rattle.std.proofs.lemmas.List.Elements.{All-head, All-tail}
use Rattle.std.proofs.Math.Nat.{mod-lt, mod-eq_of_lt}
use Rattle.std.proofs.lemmas.Nat.{pow_pos}
use Rattle.guest_types.specs.declared.length.Width.TheVariants.{D}
use Rattle.guest_types.specs.Elements.{element, register}
use Rattle.guest_types.specs.Lanes.{dup_at}
use Rattle.guest_types.specs.Length.{IsLength, lanes}
use Rattle.guest_types.specs.Memory.{Memory, can_read, first_fault, number_at}
use Rattle.guest_types.proofs.Registers.{element-register}
use Rattle.guest_types.proofs.Stores.{loaded-done}
use Rattle.machine_model.specs.declared.outcome.StopKind.TheVariants.{Read}
use Rattle.machine_model.specs.CodeInMemory.{HasCode, place_after, word_after}
use Rattle.machine_model.specs.Effects.{load_to, write, as_it_is}
use Rattle.machine_model.specs.InstructionTable.{Listed}
use Rattle.machine_model.specs.Machine.{State, Step, Went, Stopped, x_at, with_x, z_at, with_z, next}
use Rattle.machine_model.specs.OneStep.{step}
use Rattle.machine_model.specs.Run.{after_steps}
use Rattle.machine_model.proofs.CodeInMemory.{code_does}
use Rattle.call_code.specs.Frame.{load_at, spread_low, restore_x, restore_z, low_at}
use Rattle.call_code.proofs.SavedWords.{none_faults, Holds}
use Rattle.call_code.proofs.Walks.{word_after_below, first_then, code_on}

-- ---- lists of registers

-- n is none of them
abbrev pub Absent : ℕ → List ℕ → Type 0
Absent n [] = Unit {0}
Absent n (r ∷ rs) = (n ≢ r) × Absent n rs

-- they differ from one another, and are below m
abbrev pub AreRegisters : ℕ → List ℕ → Type 0
AreRegisters m [] = Unit {0}
AreRegisters m (r ∷ rs) = (r < m) × Absent r rs × AreRegisters m rs

-- the same as tests, which compute
abbrev pub is_absent : ℕ → List ℕ → Bool
is_absent n [] = true
is_absent n (r ∷ rs) = not (nat_eq n r) && is_absent n rs

abbrev pub are_registers : ℕ → List ℕ → Bool
are_registers m [] = true
are_registers m (r ∷ rs) = nat_lt r m && (is_absent r rs && are_registers m rs)

differ : (n r : ℕ) → not (nat_eq n r) ≡ true → n ≢ r
differ n r h e = let same = eq-eqb n r e in let off = ap not (sym same) in absurd cc

pub absent : (n : ℕ) (rs : List ℕ) → is_absent n rs ≡ true → Absent n rs
absent n [] h = tt
absent n (r ∷ rs) h = let two = and_parts (not (nat_eq n r)) (is_absent n rs) h in (differ n r two.0, absent n rs two.1)

pub registers : (m : ℕ) (rs : List ℕ) → are_registers m rs ≡ true → AreRegisters m rs
registers m [] h = tt
registers m (r ∷ rs) h =
    let one = and_parts (nat_lt r m) (is_absent r rs && are_registers m rs) h in
    let two = and_parts (is_absent r rs) (are_registers m rs) one.1 in
    (ltb-true r m one.0, absent r rs two.0, registers m rs two.1)

-- each has its number
abbrev pub Back : (ℕ → ℕ) → List ℕ → List ℕ → Type 0
Back at [] vs = Unit {0}
Back at (r ∷ rs) [] = ⊥
Back at (r ∷ rs) (v ∷ vs) = (at r ≡ v) × Back at rs vs

-- so many doublewords may be read from an address on
abbrev pub AreReadable : Memory → ℕ → ℕ → Type 0
AreReadable m a n = (x : ℕ) → a ≤ x → x < a + 8 * n → can_read m x ≡ true

doubleword_loaded : (s : State) (r a v : ℕ) → first_fault (can_read s.memory) a 8 ≡ None → number_at s.memory a 8 ≡ v → load_to s r a 8 as_it_is ≡ Went (next (with_x s r v))
doubleword_loaded s r a v free is = ap (λ o. elim o as (λ o. Step) [ Ok v ↦ write s r (as_it_is v) | Err fault ↦ Stopped Read s.pc fault.address s.memory ]) (loaded-done s.memory a 8 free ∙ ap Ok is)

pub load_step : (s : State) (r p a v n : ℕ) (rest : List Listed) → HasCode s.memory s.pc (load_at r p ∷ rest) → s.sp + 8 * p ≡ a → a + 8 * suc n ≤ 2 ^ 64 → AreReadable s.memory a (suc n) → number_at s.memory a 8 ≡ v → step s ≡ Went (next (with_x s r v))
load_step s r p a v n rest code at room free is =
    let e : (s.sp + p * 8) % 2 ^ 64 ≡ a = omega (arith, at, room) in
    code_does s (load_at r p) rest code
    ∙ ap (λ c. load_to s r c 8 as_it_is) e
    ∙ doubleword_loaded s r a v (none_faults (can_read s.memory) a 8 (omega (arith, room)) (λ x from until. free x from (omega (arith, until)))) is

-- ---- general registers

pub record RestoresX (s t : State) (code : List Listed) (rs vs : List ℕ) : Type 0 where
  pub after : after_steps (length code) s ≡ Some t
  pub memory : t.memory ≡ s.memory
  pub sized : length t.x ≡ 31
  pub others : (r : ℕ) → Absent r rs → x_at t r ≡ x_at s r
  pub back : Back (x_at t) rs vs
  pub sp : t.sp ≡ s.sp
  pub z : t.z ≡ s.z
  pub pc : t.pc ≡ place_after s.pc code

pub restores_x : (rs vs : List ℕ) (p a : ℕ) (rest : List Listed) (s : State) → HasCode s.memory s.pc (restore_x p rs ++ rest) → length s.x ≡ 31 → AreRegisters 31 rs → length vs ≡ length rs → s.sp + 8 * p ≡ a → a + 8 * length rs ≤ 2 ^ 64 → AreReadable s.memory a (length rs) → Holds s.memory a vs → (t : State) × RestoresX s t (restore_x p rs) rs vs
restores_x [] vs p a rest s code sized regs long at room free holds = (s, record { after = refl; memory = refl; sized = sized; others = λ r ne. refl; back = tt; sp = refl; z = refl; pc = refl })
restores_x (r ∷ rs) [] p a rest s code sized regs long at room free holds = absurd (omega (arith, long))
restores_x (r ∷ rs) (v ∷ vs) p a rest s code sized regs long at room free holds =
    let s1 : State = next (with_x s r v) in
    let tail = restore_x (p + 1) rs ++ rest in
    let one : step s ≡ Went s1 = load_step s r p a v (length rs) tail code at room free holds.0 in
    let sized1 : length s1.x ≡ 31 = length-set s.x r v ∙ sized in
    let low : r < 31 = regs.0 in
    let given : x_at s1 r ≡ v = get_or-set_same s.x r v 0 (omega (arith, sized, low)) in
    let more = restores_x rs vs (p + 1) (a + 8) rest s1 (code_on s s1 (word_after s.pc) tail one (word_after_below s.pc) code.2) sized1 regs.2 (omega (arith, long)) (omega (arith, at)) (omega (arith, room)) (λ x from until. free x (omega (arith, from)) (omega (arith, until))) holds.1 in
    let h = more.1 in (
      more.0,
      record {
        after = first_then (length (restore_x (p + 1) rs)) s s1 more.0 one h.after;
        memory = h.memory;
        sized = h.sized;
        others = λ n ne. h.others n ne.1 ∙ get_or-set_other s.x r n v 0 ne.0;
        back = (h.others r regs.1 ∙ given, h.back);
        sp = h.sp;
        z = h.z;
        pc = h.pc;
      },
    )

-- ---- the low doublewords of vector registers

pub record RestoresZ (s t : State) (code : List Listed) (rs vs : List ℕ) : Type 0 where
  pub after : after_steps (length code) s ≡ Some t
  pub memory : t.memory ≡ s.memory
  pub sized : length t.x ≡ 31
  pub x : (r : ℕ) → r ≢ 9 → x_at t r ≡ x_at s r
  pub others : (r : ℕ) → Absent r rs → z_at t r ≡ z_at s r
  pub back : Back (low_at t) rs vs
  pub sp : t.sp ≡ s.sp
  pub pc : t.pc ≡ place_after s.pc code

pub restores_z : (rs vs : List ℕ) (p a : ℕ) (rest : List Listed) (s : State) → HasCode s.memory s.pc (restore_z p rs ++ rest) → length s.x ≡ 31 → length s.z ≡ 32 → IsLength s.vl → AreRegisters 32 rs → length vs ≡ length rs → All (λ v. v < 2 ^ 64) vs → s.sp + 8 * p ≡ a → a + 8 * length rs ≤ 2 ^ 64 → AreReadable s.memory a (length rs) → Holds s.memory a vs
    → (t : State) × RestoresZ s t (restore_z p rs) rs vs
restores_z [] vs p a rest s code sized wide vl regs long small at room free holds = (s, record { after = refl; memory = refl; sized = sized; x = λ r ne. refl; others = λ r ne. refl; back = tt; sp = refl; pc = refl })
restores_z (r ∷ rs) [] p a rest s code sized wide vl regs long small at room free holds = absurd (omega (arith, long))
restores_z (r ∷ rs) (v ∷ vs) p a rest s code sized wide vl regs long small at room free holds =
    let s1 : State = next (with_x s 9 v) in
    let tail = restore_z (p + 1) rs ++ rest in
    let one : step s ≡ Went s1 = load_step s 9 p a v (length rs) (spread_low r ∷ tail) code at room free holds.0 in
    let code1 = code_on s s1 (word_after s.pc) (spread_low r ∷ tail) one (word_after_below s.pc) code.2 in
    let sized1 : length s1.x ≡ 31 = length-set s.x 9 v ∙ sized in
    let taken : x_at s1 9 ≡ v = get_or-set_same s.x 9 v 0 (omega (arith, sized)) in
    let made = register 8 (dup_at (x_at s1 9)) (lanes s.vl D) in
    let s2 : State = next (with_z s1 r made) in
    let two : step s1 ≡ Went s2 = code_does s1 (spread_low r) tail code1 in
    let some : 0 < lanes s.vl D = omega (arith, vl.1) in
    let fits : v % 256 ^ 8 ≡ v = mod-eq_of_lt (let lt : v < 256 ^ 8 = All-head (λ v. v < 2 ^ 64) v vs small in lt) in
    let low : r < 32 = regs.0 in
    let stands : z_at s2 r ≡ made = get_or-set_same s.z r made [] (omega (arith, wide, low)) in
    let given : low_at s2 r ≡ v = ap (λ z. element 8 z 0) stands ∙ element-register 8 (dup_at (x_at s1 9)) (lanes s.vl D) 0 some ∙ ap (λ k. k % 256 ^ 8) taken ∙ fits in
    let wide2 : length s2.z ≡ 32 = length-set s.z r made ∙ wide in
    let more = restores_z rs vs (p + 1) (a + 8) rest s2 (code_on s1 s2 (word_after s1.pc) tail two (word_after_below s1.pc) code1.2) sized1 wide2 vl regs.2 (omega (arith, long)) (All-tail (λ v. v < 2 ^ 64) v vs small) (omega (arith, at)) (omega (arith, room)) (λ x from until. free x (omega (arith, from)) (omega (arith, until))) holds.1 in
    let h = more.1 in (
      more.0,
      record {
        after = first_then (suc (length (restore_z (p + 1) rs))) s s1 more.0 one (first_then (length (restore_z (p + 1) rs)) s1 s2 more.0 two h.after);
        memory = h.memory;
        sized = h.sized;
        x = λ n ne. h.x n ne ∙ get_or-set_other s.x 9 n v 0 ne;
        others = λ n ne. h.others n ne.1 ∙ get_or-set_other s.z r n made [] ne.0;
        back = (ap (λ z. element 8 z 0) (h.others r regs.1) ∙ given, h.back);
        sp = h.sp;
        pc = h.pc;
      },
    )
