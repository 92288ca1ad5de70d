-- Stretches of a draft's run.
use Rattle.std.specs.Prelude.{◌≡◌, ℕ, ◌+◌, ◌*◌, ◌<◌, ◌≤◌, List, [], ◌∷◌}
use Rattle.guest_types.specs.Memory.{Memory}
use Rattle.machine_model.specs.declared.outcome.StopKind.{StopKind}
use Rattle.machine_model.specs.Machine.{State}
use Rattle.machine_model.specs.Run.{End, Stop}
use Rattle.machine_model.specs.States.{IsState}
use Rattle.label_fix.specs.DraftRun.{DraftEntry, Put, Branch, Place, Laid, following, draft_run}
use Rattle.label_fix.specs.Finished.{AreFit}
use Rattle.label_fix.specs.Suppressions.{cuts}

-- each label that these entries place leads to what stands after its place
abbrev pub Resolves : Laid → List DraftEntry → Type 0
Resolves d [] = Unit {0}
Resolves d (Put i ∷ rest) = Resolves d rest
Resolves d (Branch k l ∷ rest) = Resolves d rest
Resolves d (Place l ∷ rest) = (following d l ≡ rest) × Resolves d rest

-- At most this many words lead from the entries c and the state s to e and t. What free elements the words after them
-- suppress is counted from c too; and of a fit draft the shape of the state is kept.
pub record Goes (d : Laid) (c : List DraftEntry) (s : State) (e : List DraftEntry) (t : State) (most : ℕ) : Type 0 where
  pub count : ℕ
  pub within : count ≤ most
  pub by : (k taken : ℕ) → draft_run d (count + k) taken c s ≡ draft_run d k (taken + count) e t
  pub tells : (k : ℕ) → cuts d k e t ≤ cuts d (count + k) c s
  pub keeps : (labels : ℕ) → AreFit labels d.entries → AreFit labels c → IsState s → IsState t × AreFit labels e

-- At most this many words lead from the entries c and the state s to e and t; `cut` free elements are suppressed by them.
pub record Leads (d : Laid) (c : List DraftEntry) (s : State) (e : List DraftEntry) (t : State) (most : ℕ) : Type 0 where
  pub count : ℕ
  pub within : count ≤ most
  pub by : (k taken : ℕ) → draft_run d (count + k) taken c s ≡ draft_run d k (taken + count) e t
  pub cut : ℕ
  pub tells : (k : ℕ) → cut + cuts d k e t ≤ cuts d (count + k) c s

-- at most this many words lead to a stop of this kind that leaves this memory
pub record Stops (d : Laid) (c : List DraftEntry) (s : State) (kind : StopKind) (m : Memory) (most : ℕ) : Type 0 where
  pub count : ℕ
  pub within : count ≤ most
  pub pc : ℕ
  pub at : ℕ
  pub by : (k taken : ℕ) → draft_run d (count + k) taken c s ≡ Stop kind pc at m (taken + count)

-- at most this many words lead to the end
pub record Ends (d : Laid) (c : List DraftEntry) (s : State) (m : Memory) (result most : ℕ) : Type 0 where
  pub count : ℕ
  pub within : count ≤ most
  pub by : (k taken : ℕ) → draft_run d (count + k) taken c s ≡ End m result (taken + count)

-- ---- paces

-- Of a run of `count` words: before each of them, fewer were taken than the base and a unit for each free element that was
-- suppressed so far.
abbrev pub Paced : Laid → List DraftEntry → State → (count unit base : ℕ) → Type 0
Paced d c s count unit base = (n : ℕ) → n < count → n < base + unit * cuts d n c s

-- the run comes to a stop of this kind that leaves this memory, within a pace
pub record StopsPaced (d : Laid) (c : List DraftEntry) (s : State) (kind : StopKind) (m : Memory) (unit base : ℕ) : Type 0 where
  pub count : ℕ
  pub pc : ℕ
  pub at : ℕ
  pub by : (k taken : ℕ) → draft_run d (count + k) taken c s ≡ Stop kind pc at m (taken + count)
  pub paced : Paced d c s count unit base

-- the run comes to the end, within a pace
pub record EndsPaced (d : Laid) (c : List DraftEntry) (s : State) (m : Memory) (result unit base : ℕ) : Type 0 where
  pub count : ℕ
  pub by : (k taken : ℕ) → draft_run d (count + k) taken c s ≡ End m result (taken + count)
  pub paced : Paced d c s count unit base
