-- Columns lane by lane: an act that changes its own lane alone, and one that stores.
use Rattle.std.proofs.Common.{◌≡◌, ℕ, zero, suc, ◌+◌, ◌-◌, ◌<◌, ◌≤◌, Bool, true, false, Option, Some, None, Result, Ok, Err, refl, sym, ap, ap₂, ◌∙◌, subst, arith, ⊎_elim}
use Rattle.std.specs.Prelude.{if◌then◌else◌}
use Rattle.std.proofs.lemmas.Bool.Decides.{eqb_tells}
use Rattle.guest_types.specs.declared.memory.AccessFault.{AccessFault}
use Rattle.guest_types.specs.Memory.{Memory, stored}
use Rattle.guest_types.specs.Elements.{first_true}
use Rattle.guest_types.specs.LaneMemory.{StoredLanes, AllStored, StoreFault, store_on, store_lanes}
use Rattle.vector_order.specs.Orders.{Lane, Lanes, Keeps, Writes, Act, Out, Fine, Fail, with_lane, wrote, done, act_does, go_on, column}
use Rattle.vector_order.proofs.Interchange.{lane_other, lane_same}

-- ---- tests over elements

pub first_none : (test : ℕ → Bool) (n e : ℕ) → ((j : ℕ) → e ≤ j → j < e + n → test j ≡ false) → first_true test n e ≡ None
first_none test zero e h = refl
first_none test (suc n) e h = ap (λ b. if b then Some e else first_true test n (e + 1)) (h e (omega arith) (omega arith)) ∙ first_none test n (e + 1) (λ j le lt. h j (omega arith) (omega arith))

-- elements past n do not count where the test fails there
pub first_short : (test : ℕ → Bool) (m n e : ℕ) → n ≤ m → ((j : ℕ) → e + n ≤ j → j < e + m → test j ≡ false) → first_true test m e ≡ first_true test n e
first_short test zero zero e le h = refl
first_short test zero (suc n) e le h = absurd (omega arith)
first_short test (suc m) zero e le h = first_none test (suc m) e (λ j l u. h j (omega arith) (omega arith))
first_short test (suc m) (suc n) e le h = ap (λ o. if test e then Some e else o) (first_short test m n (e + 1) (omega arith) (λ j l u. h j (omega arith) (omega arith)))

-- the test holds at the first element at which it does
pub first_holds : (test : ℕ → Bool) (n e j : ℕ) → first_true test n e ≡ Some j → test j ≡ true
first_holds test zero e j h = absurd cc
first_holds test (suc n) e j h = by (test e) refl h (first_holds test n (e + 1) j)
  where
    by : (b : Bool) → test e ≡ b → (if b then Some e else first_true test n (e + 1)) ≡ Some j → (first_true test n (e + 1) ≡ Some j → test j ≡ true) → test j ≡ true
    by true is k more = let same : e ≡ j = cc in subst (λ i. test i ≡ true) same is
    by false is k more = more k

-- that element is one of those that are looked at
pub first_within : (test : ℕ → Bool) (n e j : ℕ) → first_true test n e ≡ Some j → (e ≤ j) × (j < e + n)
first_within test zero e j h = absurd cc
first_within test (suc n) e j h = by (test e) h (first_within test n (e + 1) j)
  where
    by : (b : Bool) → (if b then Some e else first_true test n (e + 1)) ≡ Some j → (first_true test n (e + 1) ≡ Some j → (e + 1 ≤ j) × (j < e + 1 + n)) → (e ≤ j) × (j < e + suc n)
    by true k more = let same : e ≡ j = cc in (omega (arith, same), omega (arith, same))
    by false k more = let r = more k in let l = r.0 in let u = r.1 in (omega (arith, l), omega (arith, u))

-- ---- an act that changes its own lane alone

abbrev pub lane_out : Bool → (i : ℕ) → Lane → Lanes → Out
lane_out true i l s = Fail s.memory
lane_out false i l s = Fine (record { memory = s.memory; lane = with_lane s.lane i l })

-- where the memory is m, it faults in a lane or gives the lane what it then holds
pub record Own (p : Act) (m : Memory) (bad : ℕ → Lane → Bool) (new : ℕ → Lane → Lane) : Type 0 where
  pub does : (i : ℕ) (s : Lanes) → s.memory ≡ m → act_does p i s ≡ lane_out (bad i (s.lane i)) i (new i (s.lane i)) s

pub data OwnColumn (new : ℕ → Lane → Lane) (n j : ℕ) (s : Lanes) : Option ℕ → Out → Type 0 where
  own_fine : (t : Lanes) → t.memory ≡ s.memory → ((e : ℕ) → e < n → t.lane (j + e) ≡ new (j + e) (s.lane (j + e))) → ((i : ℕ) → i < j → t.lane i ≡ s.lane i) → ((i : ℕ) → j + n ≤ i → t.lane i ≡ s.lane i) → OwnColumn new n j s None (Fine t)
  own_fail : (e : ℕ) → OwnColumn new n j s (Some e) (Fail s.memory)

module _ (p : Act) (bad : ℕ → Lane → Bool) (new : ℕ → Lane → Lane) (test : ℕ → Bool) (j0 : ℕ) where
  one_lane : (n e j : ℕ) (s : Lanes) → j ≡ j0 + e → (b : Bool) → test e ≡ b
      → OwnColumn new n (j + 1) (record { memory = s.memory; lane = with_lane s.lane j (new j (s.lane j)) }) (first_true test n (e + 1)) (column p n (j + 1) (record { memory = s.memory; lane = with_lane s.lane j (new j (s.lane j)) }))
      → OwnColumn new (suc n) j s (if b then Some e else first_true test n (e + 1)) (go_on (lane_out b j (new j (s.lane j)) s) (column p n (j + 1)))
  one_lane n e j s at true is ih = own_fail e
  one_lane n e j s at false is ih = wider ih
    where
      wider : {o : Option ℕ} {out : Out} → OwnColumn new n (j + 1) (record { memory = s.memory; lane = with_lane s.lane j (new j (s.lane j)) }) o out → OwnColumn new (suc n) j s o out
      wider (own_fine t mem here before past) = own_fine t mem
          (λ d lt. ⊎_elim
          (λ z. let at : j + d ≡ j = omega arith in
          subst (λ i. t.lane i ≡ new i (s.lane i)) (sym at) (before j (omega arith) ∙ lane_same s.lane j (new j (s.lane j))))
          (λ z. let at : j + 1 + (d - 1) ≡ j + d = omega arith in
          subst (λ i. t.lane i ≡ new i (s.lane i)) at (here (d - 1) (omega arith) ∙ ap (new (j + 1 + (d - 1))) (lane_other s.lane j (j + 1 + (d - 1)) (new j (s.lane j)) (λ eq. absurd (omega arith)))))
          (eqb_tells d 0))
          (λ i lt. before i (omega arith) ∙ lane_other s.lane j i (new j (s.lane j)) (λ eq. absurd (omega arith)))
          (λ i le. past i (omega arith) ∙ lane_other s.lane j i (new j (s.lane j)) (λ eq. absurd (omega arith)))
      wider (own_fail e) = own_fail e

  pub own_column : (n e j : ℕ) (s : Lanes) → j ≡ j0 + e → Own p s.memory bad new → ((d : ℕ) → e ≤ d → d < e + n → test d ≡ bad (j0 + d) (s.lane (j0 + d))) → OwnColumn new n j s (first_true test n e) (column p n j s)
  own_column zero e j s at own h = own_fine s refl (λ e lt. absurd (omega arith)) (λ i lt. refl) (λ i le. refl)
  own_column (suc n) e j s at own h =
      let is : test e ≡ bad j (s.lane j) = h e (omega arith) (omega arith) ∙ ap (λ i. bad i (s.lane i)) (sym at) in
      let s' : Lanes = record { memory = s.memory; lane = with_lane s.lane j (new j (s.lane j)) } in
      let ih = own_column n (e + 1) (j + 1) s' (omega arith) own
      (λ d le lt. h d (omega arith) (omega arith) ∙ ap (bad (j0 + d)) (sym (lane_other s.lane j (j0 + d) (new j (s.lane j)) (λ eq. absurd (omega arith))))) in
      subst (λ o. OwnColumn new (suc n) j s (first_true test (suc n) e) (go_on o (column p n (j + 1)))) (sym (own.does j s refl ∙ ap (λ b. lane_out b j (new j (s.lane j)) s) (sym is)))
      (one_lane n e j s at (test e) refl ih)

-- ---- an act that stores

store_none : (on : ℕ → Bool) (f v : ℕ → ℕ) (k n e : ℕ) (m : Memory) → ((j : ℕ) → e ≤ j → j < e + n → on j ≡ false) → store_lanes on f v k n e m ≡ AllStored m
store_none on f v k zero e m h = refl
store_none on f v k (suc n) e m h =
    ap (λ b. if b then store_on (stored m (f e) k (v e)) m (store_lanes on f v k n (e + 1)) else store_lanes on f v k n (e + 1) m) (h e (omega arith) (omega arith)) ∙ store_none on f v k n (e + 1) m (λ j le lt. h j (omega arith) (omega arith))

pub store_short : (on : ℕ → Bool) (f v : ℕ → ℕ) (k l n e : ℕ) (m : Memory) → n ≤ l → ((j : ℕ) → e + n ≤ j → j < e + l → on j ≡ false) → store_lanes on f v k l e m ≡ store_lanes on f v k n e m
store_short on f v k zero zero e m le h = refl
store_short on f v k zero (suc n) e m le h = absurd (omega arith)
store_short on f v k (suc l) zero e m le h = store_none on f v k (suc l) e m (λ j a u. h j (omega arith) (omega arith))
store_short on f v k (suc l) (suc n) e m le h =
    let ih : (x : Memory) → store_lanes on f v k l (e + 1) x ≡ store_lanes on f v k n (e + 1) x = λ x. store_short on f v k l n (e + 1) x (omega arith) (λ j a u. h j (omega arith) (omega arith)) in
    ap₂ (λ a b. if on e then a else b) (by_write (stored m (f e) k (v e)) ih) (ih m)
  where
    by_write : (o : Result Memory AccessFault) → ((x : Memory) → store_lanes on f v k l (e + 1) x ≡ store_lanes on f v k n (e + 1) x) → store_on o m (store_lanes on f v k l (e + 1)) ≡ store_on o m (store_lanes on f v k n (e + 1))
    by_write (Ok x) ih = ih x
    by_write (Err fault) ih = refl

-- the lanes stay, and the memory is what the store of the elements leaves
pub data StoreColumn (ls : ℕ → Lane) : StoredLanes → Out → Type 0 where
  all_stored : {m : Memory} (t : Lanes) → t.memory ≡ m → ((j : ℕ) → t.lane j ≡ ls j) → StoreColumn ls (AllStored m) (Fine t)
  store_stopped : {fault : AccessFault} {m : Memory} → StoreColumn ls (StoreFault fault m) (Fail m)

module _ (p : Act) (on : ℕ → Bool) (f u v : ℕ → ℕ) (k j0 : ℕ) (ls : ℕ → Lane) where
  pub store_column : (n e j : ℕ) (s : Lanes) → j ≡ j0 + e → ((x : ℕ) → s.lane x ≡ ls x)
      → ((d : ℕ) → e ≤ d → d < e + n → (m : Memory) → p (j0 + d) m (ls (j0 + d)) ≡ (if on d then Writes (f d) k (u d) else Keeps (ls (j0 + d))))
      → ((d : ℕ) → e ≤ d → d < e + n → (m : Memory) → stored m (f d) k (u d) ≡ stored m (f d) k (v d))
      → StoreColumn ls (store_lanes on f v k n e s.memory) (column p n j s)
  store_column zero e j s at lanes acts same = all_stored s refl lanes
  store_column (suc n) e j s at lanes acts same =
      let does : p j s.memory (s.lane j) ≡ (if on e then Writes (f e) k (u e) else Keeps (ls j)) =
      ap (p j s.memory) (lanes j) ∙ subst (λ i. p i s.memory (ls i) ≡ (if on e then Writes (f e) k (u e) else Keeps (ls i))) (sym at) (acts e (omega arith) (omega arith) s.memory) in
      let ih : (t : Lanes) → ((x : ℕ) → t.lane x ≡ ls x) → StoreColumn ls (store_lanes on f v k n (e + 1) t.memory) (column p n (j + 1) t) =
      λ t same_lanes. store_column n (e + 1) (j + 1) t (omega arith) same_lanes (λ d le lt. acts d (omega arith) (omega arith)) (λ d le lt. same d (omega arith) (omega arith)) in
      subst (λ o. StoreColumn ls (store_lanes on f v k (suc n) e s.memory) (go_on (done o j s) (column p n (j + 1)))) (sym does) (by_mask (on e) (stored s.memory (f e) k (v e)) (same e (omega arith) (omega arith) s.memory) ih)
    where
      kept_lane : (x : ℕ) → with_lane s.lane j (ls j) x ≡ ls x
      kept_lane x = ⊎_elim
          (λ eq. subst (λ y. with_lane s.lane j (ls j) y ≡ ls y) eq.1 (lane_same s.lane j (ls j)))
          (λ ne. lane_other s.lane j x (ls j) ne.1 ∙ lanes x)
          (eqb_tells j x)

      by_mask : (b : Bool) (o : Result Memory AccessFault) → stored s.memory (f e) k (u e) ≡ o
          → ((t : Lanes) → ((x : ℕ) → t.lane x ≡ ls x) → StoreColumn ls (store_lanes on f v k n (e + 1) t.memory) (column p n (j + 1) t))
          → StoreColumn ls (if b then store_on o s.memory (store_lanes on f v k n (e + 1)) else store_lanes on f v k n (e + 1) s.memory) (go_on (done (if b then Writes (f e) k (u e) else Keeps (ls j)) j s) (column p n (j + 1)))
      by_mask true (Ok after) is ih =
          subst (λ o. StoreColumn ls (store_lanes on f v k n (e + 1) after) (go_on (wrote o s) (column p n (j + 1)))) (sym is) (ih (record { memory = after; lane = s.lane }) lanes)
      by_mask true (Err fault) is ih = subst (λ o. StoreColumn ls (StoreFault fault s.memory) (go_on (wrote o s) (column p n (j + 1)))) (sym is) store_stopped
      by_mask false o is ih = ih (record { memory = s.memory; lane = with_lane s.lane j (ls j) }) kept_lane
