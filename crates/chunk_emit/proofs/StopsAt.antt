-- Stops at addresses of which something holds.
use Rattle.std.proofs.Common.{◌≡◌, ℕ, zero, suc, ◌+◌, ◌%◌, ◌^◌, ◌<◌, ◌≤◌, Bool, true, false, List, ◌∷◌, Option, Some, None, Result, Ok, Err, refl, sym, ap, ◌∙◌, arith}
use Rattle.std.specs.Prelude.{if◌then◌else◌}
use Rattle.guest_types.specs.declared.memory.AccessFault.{AccessFault}
use Rattle.guest_types.specs.Memory.{Memory, stored, put_number, can_write, next_address, first_fault}
use Rattle.guest_types.specs.LaneMemory.{StoredLanes, StoreFault, store_on, store_lanes}
use Rattle.machine_model.specs.declared.outcome.StopKind.{StopKind}
use Rattle.machine_model.specs.InstructionTable.{Listed}
use Rattle.machine_model.specs.Machine.{State, Stopped}
use Rattle.machine_model.specs.Run.{Stop, go_on}
use Rattle.label_fix.specs.DraftRun.{DraftEntry, Put, Laid, effect, draft_run}
use Rattle.label_fix.specs.Stretches.{Goes, Leads, Stops}
use Rattle.chunk_emit.specs.StopPlaces.{StopsAt}

-- ---- words

pub stop_at : {d : Laid} {i : Listed} {rest : List DraftEntry} {s : State} {kind : StopKind} {m : Memory} {near : ℕ → Type 0} (pc at : ℕ) → effect i s ≡ Stopped kind pc at m → near at → StopsAt d (Put i ∷ rest) s kind m 1 near
stop_at {d = d} {i = i} {rest = rest} {s = s} pc at h here = record {
  stop = record {
    count = 1;
    within = omega arith;
    pc = pc;
    at = at;
    by = λ k taken. let e : 1 + k ≡ suc k = omega arith in ap (λ j. draft_run d j taken (Put i ∷ rest) s) e ∙ ap (λ o. go_on o s (taken + 1) (draft_run d k (taken + 1) rest)) h;
  };
  near = here;
}

pub stop_at_more : {d : Laid} {c : List DraftEntry} {s : State} {kind : StopKind} {memory : Memory} {m : ℕ} {near : ℕ → Type 0} (most : ℕ) → m ≤ most → StopsAt d c s kind memory m near → StopsAt d c s kind memory most near
stop_at_more most le g = record { stop = record { count = g.stop.count; within = let w = g.stop.within in omega (arith, w, le); pc = g.stop.pc; at = g.stop.at; by = g.stop.by }; near = g.near }

-- the stop is of any other code that leads to it
moved : {d : Laid} {c e : List DraftEntry} {s t : State} {m n : ℕ} {kind : StopKind} {memory : Memory} {near : ℕ → Type 0} (most count : ℕ) → count ≤ m → m + n ≤ most → ((k taken : ℕ) → draft_run d (count + k) taken c s ≡ draft_run d k (taken + count) e t) → StopsAt d e t kind memory n near → StopsAt d c s kind memory most near
moved {d = d} {c = c} {s = s} {kind = kind} {memory = memory} most count within le by b =
    let w = b.stop.within in
    record {
      stop = record {
        count = count + b.stop.count;
        within = omega (arith, within, w, le);
        pc = b.stop.pc;
        at = b.stop.at;
        by = λ k taken.
            let e : count + b.stop.count + k ≡ count + (b.stop.count + k) = omega arith in
            let f : taken + count + b.stop.count ≡ taken + (count + b.stop.count) = omega arith in
            ap (λ j. draft_run d j taken c s) e ∙ by (b.stop.count + k) taken ∙ b.stop.by k (taken + count) ∙ ap (λ n. Stop kind b.stop.pc b.stop.at memory n) f;
      };
      near = b.near;
    }

pub stop_at_after : {d : Laid} {c e : List DraftEntry} {s t : State} {m n : ℕ} {kind : StopKind} {memory : Memory} {near : ℕ → Type 0} (most : ℕ) → m + n ≤ most → Goes d c s e t m → StopsAt d e t kind memory n near → StopsAt d c s kind memory most near
stop_at_after most le a b = moved most a.count a.within le a.by b

pub stop_at_following : {d : Laid} {c e : List DraftEntry} {s t : State} {m n : ℕ} {kind : StopKind} {memory : Memory} {near : ℕ → Type 0} (most : ℕ) → m + n ≤ most → Leads d c s e t m → StopsAt d e t kind memory n near → StopsAt d c s kind memory most near
stop_at_following most le a b = moved most a.count a.within le a.by b

pub stop_at_near : {d : Laid} {c : List DraftEntry} {s : State} {kind : StopKind} {memory : Memory} {most : ℕ} {near other : ℕ → Type 0} → ((at : ℕ) → near at → other at) → StopsAt d c s kind memory most near → StopsAt d c s kind memory most other
stop_at_near more g = record { stop = g.stop; near = more g.stop.at g.near }

-- ---- the byte at which an access faults

following_byte : (a u : ℕ) → ((a + 1) % 2 ^ 64 + u) % 2 ^ 64 ≡ (a + suc u) % 2 ^ 64
following_byte a u = omega arith

pub fault_byte : (test : ℕ → Bool) (a n z : ℕ) → a < 2 ^ 64 → first_fault test a n ≡ Some z → (u : ℕ) × (u < n) × (z ≡ (a + u) % 2 ^ 64)
fault_byte test a zero z low h = absurd cc
fault_byte test a (suc n) z low h = by (test a) h (fault_byte test (next_address a) n z (omega arith))
  where
    by : (b : Bool) → (if b then first_fault test (next_address a) n else Some a) ≡ Some z → (first_fault test (next_address a) n ≡ Some z → (u : ℕ) × (u < n) × (z ≡ (next_address a + u) % 2 ^ 64)) → (u : ℕ) × (u < suc n) × (z ≡ (a + u) % 2 ^ 64)
    by true k more = let r = more k in (suc r.0, let l = r.1 in omega (arith, l), r.2 ∙ following_byte a r.0)
    by false k more =
        let same : a ≡ z = cc in
        let whole : a ≡ (a + 0) % 2 ^ 64 = omega (arith, low) in
        (0, omega arith, sym same ∙ whole)

abbrev address_in : Result Memory AccessFault → ℕ
address_in (Ok m) = 0
address_in (Err fault) = fault.address

refused : (memory : Memory) (a n v : ℕ) (fault : AccessFault) (o : Option ℕ) → elim o as (λ _. Result Memory AccessFault) [ None ↦ Ok (put_number memory a n v) | Some fault ↦ Err (record { address = fault; write = true }) ] ≡ Err fault → o ≡ Some fault.address
refused memory a n v fault None h = absurd cc
refused memory a n v fault (Some z) h = ap (λ r. Some (address_in r)) h

-- The lane, of so many from element e on, in which a store of lanes faults: its access does, in some memory.
abbrev pub StoreFaults : (ℕ → ℕ) → (k n e : ℕ) → AccessFault → Type 0
StoreFaults f k n e fault = (j : ℕ) × (e ≤ j) × (j < e + n) × (memory : Memory) × (first_fault (can_write memory) (f j) k ≡ Some fault.address)

later_fault : (f : ℕ → ℕ) (k n e : ℕ) (fault : AccessFault) → StoreFaults f k n (e + 1) fault → StoreFaults f k (suc n) e fault
later_fault f k n e fault r = let l = r.1 in let u = r.2 in (r.0, omega (arith, l), omega (arith, u), r.3, r.4)

pub store_fault : (on : ℕ → Bool) (f v : ℕ → ℕ) (k n e : ℕ) (m : Memory) (fault : AccessFault) (left : Memory) → store_lanes on f v k n e m ≡ StoreFault fault left → StoreFaults f k n e fault
store_fault on f v k zero e m fault left h = absurd cc
store_fault on f v k (suc n) e m fault left h = by_mask (on e) h (λ x g. later_fault f k n e fault (store_fault on f v k n (e + 1) x fault left g))
  where
    by_write : (o : Result Memory AccessFault) → stored m (f e) k (v e) ≡ o → store_on o m (store_lanes on f v k n (e + 1)) ≡ StoreFault fault left → ((x : Memory) → store_lanes on f v k n (e + 1) x ≡ StoreFault fault left → StoreFaults f k (suc n) e fault) → StoreFaults f k (suc n) e fault
    by_write (Ok x) is g more = more x g
    by_write (Err z) is g more =
        let same : z ≡ fault = cc in
        (e, omega arith, omega arith, m, refused m (f e) k (v e) z (first_fault (can_write m) (f e) k) is ∙ ap (λ (x : AccessFault). Some x.address) same)

    by_mask : (b : Bool) → (if b then store_on (stored m (f e) k (v e)) m (store_lanes on f v k n (e + 1)) else store_lanes on f v k n (e + 1) m) ≡ StoreFault fault left → ((x : Memory) → store_lanes on f v k n (e + 1) x ≡ StoreFault fault left → StoreFaults f k (suc n) e fault) → StoreFaults f k (suc n) e fault
    by_mask true g more = by_write (stored m (f e) k (v e)) refl g more
    by_mask false g more = more m g
