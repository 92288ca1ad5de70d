-- The same loop, with other numbers in the general registers past the parameters'.
use Rattle.std.proofs.Common.{◌≡◌, ◌≢◌, ℕ, ◌≤◌, List, [], refl, sym, ap, ◌∙◌, subst, arith}
use Rattle.std.specs.Prelude.{ℤ, slice_index, slice_index_or}
use Rattle.guest_types.specs.Memory.{Memory}
use Rattle.machine_model.specs.declared.outcome.StopKind.{StopKind}
use Rattle.guest_types.specs.Lanes.{all_at}
use Rattle.guest_types.specs.Elements.{at}
use Rattle.machine_model.specs.Machine.{State, x_at, p_at}
use Rattle.machine_model.specs.States.{IsState}
use Rattle.kernel_meaning.specs.Eval.{Names}
use Rattle.loop_form.specs.declared.loop_item.Operand.{Operand}
use Rattle.dependence.specs.Apart.{bound_place}
use Rattle.lane_emit.specs.Right.{PRight}
use Rattle.lane_emit.specs.AccumulatorLanes.{LanesHold}
use Rattle.chunk_emit.specs.Head.{Ground, IsGround, AtHead, Between, HeldAll, layout, width, most_lanes}
use Rattle.vector_emit.specs.VectorRuns.{Near}
use Rattle.vector_emit.proofs.Tests.{z_same}

abbrev pub from_x : Ground → List ℕ → Ground
from_x g xs = record {
  kernel = g.kernel;
  for_loop = g.for_loop;
  vectors = g.vectors;
  predicates = g.predicates;
  args = g.args;
  start = g.start;
  names = g.names;
  vl = g.vl;
  x = xs;
}

pub ground_from : (g : Ground) (xs : List ℕ) → IsGround g → ((r : ℕ) → r ≤ 7 → slice_index xs r ≡ slice_index g.x r) → IsGround (from_x g xs)
ground_from g xs ground same = record {
  spelled = ground.spelled;
  sound = ground.sound;
  loops = ground.loops;
  vector = ground.vector;
  apart = ground.apart;
  begins = ground.begins;
  z_fits = ground.z_fits;
  p_fits = ground.p_fits;
  sized = ground.sized;
  few = ground.few;
  given = λ p lt. same p (let f = ground.few in omega (arith, lt, f)) ∙ ground.given p lt;
  bound = same (bound_place g.kernel) ground.near ∙ ground.bound;
  near = ground.near;
}

-- what words leave that change X8 and the flags alone
pub record Aside (s t : State) : Type 0 where
  pub is : IsState t
  pub vl : t.vl ≡ s.vl
  pub memory : t.memory ≡ s.memory
  pub x : (r : ℕ) → r ≤ 25 → r ≢ 8 → x_at t r ≡ x_at s r
  pub p : t.p ≡ s.p
  pub z : t.z ≡ s.z

pub aside_then : {s t u : State} → Aside s t → Aside t u → Aside s u
aside_then a b = record { is = b.is; vl = b.vl ∙ a.vl; memory = b.memory ∙ a.memory; x = λ r le ne. b.x r le ne ∙ a.x r le ne; p = b.p ∙ a.p; z = b.z ∙ a.z }

pub aside_same : (s : State) → IsState s → Aside s s
aside_same s is = record { is = is; vl = refl; memory = refl; x = λ r le ne. refl; p = refl; z = refl }

pub between_from : {g : Ground} (xs : List ℕ) {i : ℕ} {cur : Names} {sum : List ℕ → ℕ → ℤ} → Between g i cur sum → Between (from_x g xs) i cur sum
between_from xs b = record {
  within = b.within;
  steady = b.steady;
  still = b.still;
  sums = λ x is. let old = b.sums x is in record { typed = old.typed; first = old.first; now = old.now };
}

-- the state before a pass, of the ground that has these registers
pub head_from : {g : Ground} {i : ℕ} {cur : Names} {m : Memory} {sum : List ℕ → ℕ → ℤ} {s t : State} → AtHead g i cur m sum s → Aside s t → AtHead (from_x g t.x) i cur m sum t
head_from {g = g} {sum = sum} {s = s} {t = t} h k = record {
  between = between_from t.x h.between;
  is = k.is;
  vl = k.vl ∙ h.vl;
  memory = k.memory ∙ h.memory;
  index = k.x 9 (omega arith) (λ e. absurd (omega (arith, e))) ∙ h.index;
  x = λ r le ne. refl;
  all = subst (λ p. PRight (width g) (most_lanes g) p all_at) (sym (same_p 1)) h.all;
  held = λ x is ne. held_on x (h.held x is ne);
  lanes = λ x is. subst (λ z. LanesHold ((layout g).update x) ((layout g).sum_type x) (width g) (most_lanes g) z (sum x)) (z_same s t k.z ((layout g).sum x)) (h.lanes x is);
}
  where
    same_p : (n : ℕ) → p_at t n ≡ p_at s n
    same_p n = ap (λ ps. slice_index_or ps n []) k.p

    held_on : (x : Operand) → HeldAll g s x → HeldAll (from_x g t.x) t x
    held_on x old = record {
      right = λ a e lt. ap (λ z. at (width g) z e) (sym (z_same s t k.z ((layout g).registers.source x))) ∙ old.right a e lt;
      typed = old.typed;
    }

-- the other registers are those of before
pub same_at : {g : Ground} {i : ℕ} {cur : Names} {m : Memory} {sum : List ℕ → ℕ → ℤ} {s t : State} → AtHead g i cur m sum s → Aside s t → (r : ℕ) → r ≤ 25 → r ≢ 9 → r ≢ 8 → slice_index t.x r ≡ slice_index g.x r
same_at h k r le nine eight = k.x r le eight ∙ h.x r le nine

-- and it is a ground
pub ground_at : {g : Ground} {i : ℕ} {cur : Names} {m : Memory} {sum : List ℕ → ℕ → ℤ} {s t : State} → IsGround g → AtHead g i cur m sum s → Aside s t → IsGround (from_x g t.x)
ground_at {g = g} {t = t} ground h k = ground_from g t.x ground (λ r le. k.x r (omega (arith, le)) (λ e. absurd (omega (arith, le, e))) ∙ h.x r (omega (arith, le)) (λ e. absurd (omega (arith, le, e))))

-- a stop of that ground is one of the first
pub near_from : {g : Ground} {xs : List ℕ} {bg at : ℕ} {kind : StopKind} {left faulted : Memory} → Near (from_x g xs) bg kind at left faulted → Near g bg kind at left faulted
near_from n = record { i = n.i; k = n.k; few = n.few; within = n.within; from = n.from; until = n.until; kept = n.kept; comes = n.comes }
