-- What stores leave alone, however many there are: what may be read and written, and the code.
use Rattle.std.proofs.Common.{◌≡◌, ℕ, zero, suc, ◌+◌, ◌^◌, ◌<◌, Bool, true, false, Result, Ok, Err, refl, ◌∙◌}
use Rattle.std.specs.Prelude.{if◌then◌else◌}
use Rattle.guest_types.specs.declared.memory.AccessFault.{AccessFault}
use Rattle.guest_types.specs.Memory.{Memory, IsMemory, can_read, can_write, fetched, stored}
use Rattle.guest_types.specs.LaneMemory.{StoredLanes, AllStored, StoreFault, store_on, store_lanes}
use Rattle.guest_types.specs.AfterStores.{AfterStores, Unchanged, Stored}
use Rattle.guest_types.proofs.Stores.{can_read-stored, can_write-stored, fetched-stored, IsMemory-stored}

pub can_read-after : {m n : Memory} → AfterStores m n → (a : ℕ) → can_read n a ≡ can_read m a
can_read-after (Unchanged m) a = refl
can_read-after (Stored before between after address size v is rest) a = can_read-after rest a ∙ can_read-stored before between address size v a is

pub can_write-after : {m n : Memory} → AfterStores m n → (a : ℕ) → can_write n a ≡ can_write m a
can_write-after (Unchanged m) a = refl
can_write-after (Stored before between after address size v is rest) a = can_write-after rest a ∙ can_write-stored before between address size v a is

pub fetched-after : {m n : Memory} → AfterStores m n → (a : ℕ) → a < 2 ^ 64 → fetched n a ≡ fetched m a
fetched-after (Unchanged m) a low = refl
fetched-after (Stored before between after address size v is rest) a low = fetched-after rest a low ∙ fetched-stored before between address size v a low is

pub IsMemory-after : {m n : Memory} → AfterStores m n → IsMemory m → IsMemory n
IsMemory-after (Unchanged m) is_memory = is_memory
IsMemory-after (Stored before between after address size v is rest) is_memory = IsMemory-after rest (IsMemory-stored before between address size v is is_memory)

-- stores, and then some more
pub joined-after : {l m n : Memory} → AfterStores l m → AfterStores m n → AfterStores l n
joined-after (Unchanged m) more = more
joined-after (Stored before between after address size v is rest) more = Stored before between _ address size v is (joined-after rest more)

-- ---- a store of lanes, also where it stops

-- the memory that it leaves
abbrev pub left_by : StoredLanes → Memory
left_by (AllStored memory) = memory
left_by (StoreFault fault memory) = memory

lane_after : (o : Result Memory AccessFault) (m : Memory) (rest : Memory → StoredLanes) (address size v : ℕ) → stored m address size v ≡ o → ((x : Memory) → AfterStores x (left_by (rest x))) → AfterStores m (left_by (store_on o m rest))
lane_after (Ok x) m rest address size v is on = Stored m x (left_by (rest x)) address size v is (on x)
lane_after (Err fault) m rest address size v is on = Unchanged m

maybe_after : (b : Bool) (m : Memory) (rest : Memory → StoredLanes) (address size v : ℕ) → ((x : Memory) → AfterStores x (left_by (rest x))) → AfterStores m (left_by (if b then store_on (stored m address size v) m rest else rest m))
maybe_after true m rest address size v on = lane_after (stored m address size v) m rest address size v refl on
maybe_after false m rest address size v on = on m

pub lanes-after : (on : ℕ → Bool) (f v : ℕ → ℕ) (k left e : ℕ) (m : Memory) → AfterStores m (left_by (store_lanes on f v k left e m))
lanes-after on f v k zero e m = Unchanged m
lanes-after on f v k (suc left) e m = maybe_after (on e) m (store_lanes on f v k left (e + 1)) (f e) k (v e) (λ x. lanes-after on f v k left (e + 1) x)
