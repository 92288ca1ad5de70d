-- Whatever the run of a draft comes to, what is mapped stays so, and nothing else becomes mapped.
use Rattle.std.proofs.Common.{◌≡◌, ℕ, zero, suc, ◌+◌, Bool, true, false, List, [], ◌∷◌}
use Rattle.std.specs.Prelude.{if◌then◌else◌}
use Rattle.guest_types.specs.Memory.{can_read}
use Rattle.guest_types.specs.AfterStores.{AfterStores, Unchanged}
use Rattle.guest_types.proofs.AfterStores.{can_read-after}
use Rattle.machine_model.specs.Machine.{State, jump, next}
use Rattle.machine_model.specs.Run.{run, memory_left}
use Rattle.machine_model.proofs.MemoryStays.{does_stores, stores_on, run_stores}
use Rattle.label_fix.specs.DraftRun.{DraftEntry, Put, Branch, Place, Laid, is_taken, effect, following, address_of, walk, draft_run}

module _ (d : Laid) (n taken : ℕ) (ih : (rest : List DraftEntry) (s : State) → AfterStores s.memory (memory_left (draft_run d n taken rest s))) where
  branch_stores : (b : Bool) (l : ℕ) (rest : List DraftEntry) (s : State) → AfterStores s.memory (memory_left (if b then draft_run d n taken (following d l) (jump s (address_of d l)) else draft_run d n taken rest (next s)))
  branch_stores true l rest s = ih (following d l) (jump s (address_of d l))
  branch_stores false l rest s = ih rest (next s)

  walk_stores : (m before : ℕ) (rest : List DraftEntry) (s : State) → AfterStores s.memory (memory_left (walk d (draft_run d n taken) (run m before) taken rest s))
  walk_stores m before [] s = run_stores m before s
  walk_stores m before (Put i ∷ rest) s = stores_on (effect i s) s taken (draft_run d n taken rest) (does_stores i s) (ih rest)
  walk_stores m before (Branch k l ∷ rest) s = branch_stores (is_taken k s) l rest s
  walk_stores m before (Place l ∷ rest) s = walk_stores m before rest s

-- all that it does to memory is stores
pub draft_stores : (d : Laid) (n taken : ℕ) (rest : List DraftEntry) (s : State) → AfterStores s.memory (memory_left (draft_run d n taken rest s))
draft_stores d zero taken rest s = Unchanged s.memory
draft_stores d (suc n) taken rest s = walk_stores d n (taken + 1) (λ es t. draft_stores d n (taken + 1) es t) (suc n) taken rest s

pub draft_map : (d : Laid) (n taken : ℕ) (rest : List DraftEntry) (s : State) (a : ℕ) → can_read (memory_left (draft_run d n taken rest s)) a ≡ can_read s.memory a
draft_map d n taken rest s a = can_read-after (draft_stores d n taken rest s) a
