-- The state before a pass, where registers change that the words before a chunk may change.
use Rattle.std.proofs.Common.{◌≡◌, ◌≢◌, ℕ, ◌<◌, ◌≤◌, ◌^◌, ℤ, true, List, sym, ap, ◌∙◌, subst, arith}
use Rattle.std.proofs.lemmas.List.Elements.{All-get_or}
use Rattle.guest_types.specs.Elements.{at, active}
use Rattle.guest_types.specs.Memory.{Memory}
use Rattle.kernel_meaning.specs.Eval.{Names}
use Rattle.machine_model.specs.Machine.{State, x_at, z_at, p_at}
use Rattle.machine_model.specs.States.{IsState}
use Rattle.loop_form.specs.declared.loop_item.Operand.{Operand}
use Rattle.loop_form.specs.declared.loop_item.Operand.TheVariants.{LoopIndex}
use Rattle.dependence.specs.Apart.{bound_place}
use Rattle.lane_emit.specs.AccumulatorLanes as accumulators
use Rattle.chunk_emit.specs.Head.{Ground, IsGround, AtHead, layout, width, limit}

-- What words before a chunk leave: memory, the registers of arguments and of the iteration, P1, and the vector registers of
-- accumulators and of values from before the loop, but for the loop variable's.
pub record Kept (g : Ground) (s t : State) : Type 0 where
  pub is : IsState t
  pub vl : t.vl ≡ s.vl
  pub memory : t.memory ≡ s.memory
  pub x : (r : ℕ) → r ≤ 25 → x_at t r ≡ x_at s r
  pub all : p_at t 1 ≡ p_at s 1
  pub held : (x : Operand) → (layout g).held x ≡ true → x ≢ LoopIndex → z_at t ((layout g).registers.source x) ≡ z_at s ((layout g).registers.source x)
  pub sums : (x : List ℕ) → (layout g).updated x ≡ true → z_at t ((layout g).sum x) ≡ z_at s ((layout g).sum x)

pub head_kept : {g : Ground} {i : ℕ} {cur : Names} {m : Memory} {sum : List ℕ → ℕ → ℤ} {s t : State} → AtHead g i cur m sum s → Kept g s t → AtHead g i cur m sum t
head_kept {g = g} {sum = sum} h k = record {
  between = h.between;
  is = k.is;
  vl = k.vl ∙ h.vl;
  memory = k.memory ∙ h.memory;
  index = k.x 9 (omega arith) ∙ h.index;
  x = λ r le ne. k.x r le ∙ h.x r le ne;
  all = λ e lt. ap (λ p. active (width g) p e) k.all ∙ h.all e lt;
  held = λ x is ne. let old = h.held x is ne in
      record {
        right = λ a e lt. ap (λ z. at (width g) z e) (k.held x is ne) ∙ old.right a e lt;
        typed = old.typed;
      };
  lanes = λ x is e lt. subst (λ z. accumulators.Holds ((layout g).update x) ((layout g).sum_type x) (width g) (at (width g) z e) (sum x e)) (sym (k.sums x is)) (h.lanes x is e lt);
}

-- the register of the bound
pub bound_at : {g : Ground} {i : ℕ} {cur : Names} {m : Memory} {sum : List ℕ → ℕ → ℤ} {s : State} → IsGround g → AtHead g i cur m sum s → x_at s (bound_place g.kernel) ≡ limit g
bound_at {g = g} ground h = h.x (bound_place g.kernel) (omega (arith, ground.near)) (λ e. absurd (omega (arith, e, ground.near))) ∙ ground.bound

pub limit_below : {g : Ground} {i : ℕ} {cur : Names} {m : Memory} {sum : List ℕ → ℕ → ℤ} {s : State} → IsGround g → AtHead g i cur m sum s → limit g < 2 ^ 64
limit_below {g = g} {s = s} ground h =
    subst (λ n. n < 2 ^ 64) (bound_at ground h) (All-get_or (λ v. v < 2 ^ 64) s.x (bound_place g.kernel) 0 (omega (arith, ground.near, h.is.x_count)) h.is.x_small)
