-- The loop of passes of a kernel, and what follows from a pass that stops.
use Rattle.std.proofs.Common.{◌≡◌, ℕ, ◌+◌, ◌<◌, ◌≤◌, Bool, List, subst, arith}
use Rattle.std.specs.Prelude.{ℤ, ◌^◌}
use Rattle.guest_types.specs.Memory.{Memory, byte_at}
use Rattle.machine_model.specs.declared.outcome.StopKind.{StopKind}
use Rattle.machine_model.specs.Machine.{State}
use Rattle.kernel_tree.specs.Typing.{var_scope}
use Rattle.kernel_meaning.specs.Eval.{Names}
use Rattle.label_fix.specs.DraftRun.{DraftEntry, Laid}
use Rattle.label_fix.specs.Stretches.{Leads}
use Rattle.label_fix.proofs.StretchSteps.{Goes, leads_of}
use Rattle.machine_model.specs.Run.{IsAccess}
use Rattle.vector_order.specs.Elsewhere.{Elsewhere}
use Rattle.close_bound.specs.CloseBound.{pass_steps}
use Rattle.chunk_emit.specs.Head.{Ground, IsGround, AtHead, width, most_lanes, limit}
use Rattle.first_fault.proofs.Stretches.{follow, follow-cut}
use Rattle.chunk_emit.specs.StopPlaces.{SomeComesTo}
use Rattle.chunk_pass.specs.Chunks.{items_of}
use Rattle.vector_emit.specs.VectorRuns.{Near}
use Rattle.vector_emit.proofs.Flags.{some_lanes}
use Rattle.vector_emit.proofs.PassLoop.{Rounds}

-- a state before a pass
pub record HeadOf (g : Ground) (i : ℕ) (cur : Names) (m : Memory) (s : State) : Type 0 where
  pub sum : List ℕ → ℕ → ℤ
  pub head : AtHead g i cur m sum s

-- a stop at an address, where the scalar loop faults in iteration j
pub record StopOf (g : Ground) (kind : StopKind) (at j : ℕ) (left faulted : Memory) : Type 0 where
  pub access : IsAccess kind
  pub near : Near g (j + 1) kind at left faulted

abbrev pub loop_of : Ground → (breaks : Bool) → Laid → List DraftEntry → Rounds
loop_of g b d rest = record {
  scope = var_scope g.kernel;
  for_loop = g.for_loop;
  breaks = b;
  limit = limit g;
  lanes = most_lanes g;
  unit = pass_steps g.kernel;
  draft = d;
  rest = rest;
  Head = HeadOf g;
  Ends = StopOf g;
}

-- a stop within k lanes from iteration i on
pub stop_of : (g : Ground) (i k j : ℕ) (left faulted : Memory) (kind : StopKind) {at : ℕ} → k ≤ most_lanes g → i + k ≤ limit g → i ≤ j → j < i + k → IsAccess kind → ((z : ℕ) → z < 2 ^ 64 → Elsewhere g.kernel g.args i k z → byte_at left z ≡ byte_at faulted z) → SomeComesTo g.names (items_of g) i k kind at → StopOf g kind at j left faulted
stop_of g i k j left faulted kind few within lo hi access kept comes = record { access = access; near = record { i = i; k = k; few = few; within = within; from = omega (arith, lo); until = omega (arith, hi); kept = kept; comes = comes } }

pub has_lanes : (g : Ground) → IsGround g → 0 < most_lanes g
has_lanes g ground = some_lanes g.vl (width g) ground.sized

pub head_at : {g : Ground} {i j : ℕ} {cur : Names} {m : Memory} {sum : List ℕ → ℕ → ℤ} {s : State} → i ≡ j → AtHead g i cur m sum s → AtHead g j cur m sum s
head_at {g = g} {cur = cur} {m = m} {sum = sum} {s = s} e h = subst (λ i. AtHead g i cur m sum s) e h

-- what holds of a place holds of one that is the same
pub same_place : (P : ℕ → Memory → Names → Type 0) {i j : ℕ} {m m2 : Memory} {ns ns2 : Names} → i ≡ j → m ≡ m2 → ns ≡ ns2 → P i m ns → P j m2 ns2
same_place P {j = j} {m = m} {m2 = m2} {ns = ns} e f h p = subst (P j m2) h (subst (λ m. P j m ns) f (subst (λ i. P i m ns) e p))

-- ---- stretches that suppress at least so many free elements

pub record Longer (d : Laid) (c : List DraftEntry) (s : State) (e : List DraftEntry) (t : State) (most r : ℕ) : Type 0 where
  pub leads : Leads d c s e t most
  pub more : r ≤ leads.cut

pub following_leads : {d : Laid} {c e g : List DraftEntry} {s t u : State} {m n r : ℕ} (most : ℕ) → m + n ≤ most → Longer d c s e t m r → Leads d e t g u n → Longer d c s g u most r
following_leads most le a b = record { leads = follow most le a.leads b; more = let c = follow-cut most le a.leads b in let k = a.more in omega (arith, c, k) }

pub following_goes : {d : Laid} {c e g : List DraftEntry} {s t u : State} {m n r : ℕ} (most : ℕ) → m + n ≤ most → Longer d c s e t m r → Goes d e t g u n → Longer d c s g u most r
following_goes most le a b = following_leads most le a (leads_of b)
