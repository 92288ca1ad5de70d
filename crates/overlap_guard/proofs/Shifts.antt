-- The code that moves an address in X26 by a number of bytes.
use Rattle.std.proofs.Common.{◌≡◌, ℕ, suc, ◌+◌, ◌-◌, ◌*◌, ◌/◌, ◌%◌, ◌^◌, ◌<◌, ◌≤◌, ℤ, pos, negsuc, Bool, true, false, List, [], ◌∷◌, length, refl, ap, ◌∙◌, arith}
use Rattle.std.proofs.lemmas.Int.{ints}
use Rattle.std.proofs.lemmas.Bool.{eqb-true}
use Rattle.std.specs.Prelude.{◌+ℤ◌, nat_eq}
use Rattle.machine_model.specs.Machine.{State, Went, x_at}
use Rattle.machine_model.specs.Arithmetic.{sum, difference}
use Rattle.a64_code.specs.Table.{add_imm, sub_imm}
use Rattle.label_fix.specs.DraftRun.{DraftEntry, Laid, effect, word_of}
use Rattle.label_fix.proofs.StretchSteps.{Goes, put_goes, chain, stay}
use Rattle.overlap_guard.specs.Guard.{step_if, step_code, steps_code, shift_code}
use Rattle.overlap_guard.proofs.Ends.{IsWithin}
use Rattle.overlap_guard.proofs.Tests.{wrote, wrote_same, Same, same_none, same_on, same_wrote}

-- words that leave a number in X26
pub record Leaves (L : Laid) (c e : List DraftEntry) (s : State) (word most : ℕ) : Type 0 where
  pub end : State
  pub goes : Goes L c s e end most
  pub same : Same s end
  pub held : x_at end 26 ≡ word

-- one more
pub leaves_on : {L : Laid} {c e g : List DraftEntry} {s : State} {v w m n : ℕ} (most : ℕ) → m + n ≤ most → (a : Leaves L c e s v m) → Leaves L e g a.end w n → Leaves L c g s w most
leaves_on most le a b = record { end = b.end; goes = chain most le a.goes b.goes; same = same_on a.same b.same; held = b.held }

module _ (L : Laid) where
  by_add : (s : State) (rest : List DraftEntry) (m sh x v : ℕ) → length s.x ≡ 31 → x_at s 26 ≡ x → sum x (m * 2 ^ (12 * sh)) ≡ v → (m ≡ 0 → x ≡ v) → Leaves L (step_code add_imm m sh rest) rest s v 1
  by_add s rest m sh x v z e f h = if_none (nat_eq m 0) refl
    where
      if_none : (t : Bool) → nat_eq m 0 ≡ t → Leaves L (step_if t add_imm m sh rest) rest s v 1
      if_none true q = record { end = s; goes = stay 1; same = same_none s; held = e ∙ h (eqb-true _ _ q) }
      if_none false q =
          let does : effect (word_of add_imm (26 ∷ 26 ∷ m ∷ sh ∷ [])) s ≡ Went (wrote s 26 v) = ap (λ b. Went (wrote s 26 (sum b (m * 2 ^ (12 * sh))))) e ∙ ap (λ b. Went (wrote s 26 b)) f in
          record { end = wrote s 26 v; goes = put_goes does; same = same_wrote s 26 v (omega arith); held = wrote_same s 26 v (omega (arith, z)) }

  by_sub : (s : State) (rest : List DraftEntry) (m sh x v : ℕ) → length s.x ≡ 31 → x_at s 26 ≡ x → difference x (m * 2 ^ (12 * sh)) ≡ v → (m ≡ 0 → x ≡ v) → Leaves L (step_code sub_imm m sh rest) rest s v 1
  by_sub s rest m sh x v z e f h = if_none (nat_eq m 0) refl
    where
      if_none : (t : Bool) → nat_eq m 0 ≡ t → Leaves L (step_if t sub_imm m sh rest) rest s v 1
      if_none true q = record { end = s; goes = stay 1; same = same_none s; held = e ∙ h (eqb-true _ _ q) }
      if_none false q =
          let does : effect (word_of sub_imm (26 ∷ 26 ∷ m ∷ sh ∷ [])) s ≡ Went (wrote s 26 v) = ap (λ b. Went (wrote s 26 (difference b (m * 2 ^ (12 * sh))))) e ∙ ap (λ b. Went (wrote s 26 b)) f in
          record { end = wrote s 26 v; goes = put_goes does; same = same_wrote s 26 v (omega arith); held = wrote_same s 26 v (omega (arith, z)) }

  steps_up : (s : State) (rest : List DraftEntry) (c x : ℕ) → length s.x ≡ 31 → x_at s 26 ≡ x → x < 2 ^ 62 → c < 2 ^ 24 → Leaves L (steps_code add_imm c rest) rest s (x + c) 2
  steps_up s rest c x z e low few =
      let y = x + c % 4096 in
      let one = by_add s (step_code add_imm (c / 4096 % 4096) 1 rest) (c % 4096) 0 x y z e (omega (arith, low)) (λ n. omega (arith, n)) in
      leaves_on 2 (omega arith) one (by_add one.end rest (c / 4096 % 4096) 1 y (x + c) (one.same.sized ∙ z) one.held (omega (arith, low, few)) (λ n. omega (arith, n, few)))

  steps_down : (s : State) (rest : List DraftEntry) (c x : ℕ) → length s.x ≡ 31 → x_at s 26 ≡ x → x < 2 ^ 62 → c < 2 ^ 24 → c ≤ x → Leaves L (steps_code sub_imm c rest) rest s (x - c) 2
  steps_down s rest c x z e low few le =
      let y = x - c % 4096 in
      let one = by_sub s (step_code sub_imm (c / 4096 % 4096) 1 rest) (c % 4096) 0 x y z e (omega (arith, low, le)) (λ n. omega (arith, n)) in
      leaves_on 2 (omega arith) one (by_sub one.end rest (c / 4096 % 4096) 1 y (x - c) (one.same.sized ∙ z) one.held (omega (arith, low, few, le)) (λ n. omega (arith, n, few, le)))

  -- the same for an integer
  pub record Shifts (c e : List DraftEntry) (s : State) (x : ℕ) (k : ℤ) : Type 0 where
    pub word : ℕ
    pub leaves : Leaves L c e s word 2
    pub is : pos x +ℤ k ≡ pos word
    pub low : word < 2 ^ 63

  pub shifts : (s : State) (rest : List DraftEntry) (k : ℤ) (x : ℕ) → length s.x ≡ 31 → x_at s 26 ≡ x → 2 ^ 16 ≤ x → x < 2 ^ 53 → IsWithin 16384 k → Shifts (shift_code k rest) rest s x k
  shifts s rest (pos c) x z e high low h = let near = h.1 in let few : c ≤ 16384 = omega (arith, ints) in record {
    word = x + c;
    leaves = steps_up s rest c x z e (omega (arith, low)) (omega (arith, few));
    is = refl;
    low = omega (arith, low, few);
  }
  shifts s rest (negsuc c) x z e high low h = let near = h.0 in let few : suc c ≤ 16384 = omega (arith, ints) in record {
    word = x - suc c;
    leaves = steps_down s rest (suc c) x z e (omega (arith, low)) (omega (arith, few)) (omega (arith, high, few));
    is = omega (arith, ints, high, few);
    low = omega (arith, low, few);
  }
