-- What the parts of a load say of the whole.
use Rattle.std.proofs.Common.{◌≡◌, ℕ, zero, suc, ◌+◌, ◌<◌, ◌≤◌, Bool, false, ◌&&◌, ◌||◌, cond, List, Option, Some, None, Ok, inl, inr, refl, sym, ap, ap₂, ◌∙◌, arith}
use Rattle.std.specs.Prelude.{is_some}
use Rattle.std.proofs.lemmas.Bool.{cases_lt, lt-ltb, le-ltb, le-leb, lt-leb, and_left, and_parts, false≢true, and_right}
use mathlib.Core.Bool.{and-true}
use Rattle.guest_types.specs.declared.memory.AccessFault.{AccessFault}
use Rattle.guest_types.specs.declared.row.LoadMode.{LoadMode}
use Rattle.guest_types.specs.Length.{width_bytes, lanes}
use Rattle.guest_types.specs.Memory.{Memory}
use Rattle.guest_types.specs.Elements.{active, first_true}
use Rattle.guest_types.specs.LaneMemory.{LoadForm, lane_address, lane_fault, lane_faults, read_fault, fault_at, loaded_with, cleared_from, load_form}
use Rattle.guest_types.specs.EarlyLoads.{StopList, stop_at, later, rank, suppressed_at, looked_at, early_load, unless_fault, later_than, first_fault_early}
use Rattle.lane_memory.specs.declared.reading.Reading.{Reading}
use Rattle.lane_memory.specs.Readings.{form_of, place_of, on_of, on_from, faults_of, refused_of, place_after, IsFreeFrom}
use Rattle.lane_memory.specs.Loads.{LoadLeft, left_by, left_by_early, left_by_first, load_of}
use Rattle.lane_memory.proofs.FirstTrue.{first_true-some, first_true-none, first_true-absent, first_true-ext}
use Rattle.lane_memory.proofs.EarlySteps.{on_from-below}

-- ---- no fault

no_read_fault : (o : Option ℕ) → read_fault o ≡ None → is_some o ≡ false
no_read_fault None h = refl
no_read_fault (Some a) h = cc

pub none-refused : (r : Reading) (memory : Memory) (pg : List ℕ) (n : ℕ) → fault_at (form_of r) memory (place_of r) (first_true (refused_of r memory pg) n 0) ≡ None → first_true (refused_of r memory pg) n 0 ≡ None
none-refused r memory pg n h = go (first_true (refused_of r memory pg) n 0) refl h
  where
    go : (o : Option ℕ) → first_true (refused_of r memory pg) n 0 ≡ o → fault_at (form_of r) memory (place_of r) o ≡ None → o ≡ None
    go None e h = refl
    go (Some i) e h =
        let f = first_true-some (refused_of r memory pg) n 0 i e in
        let both = and_parts (on_of r pg i) (faults_of r memory i) f.here in
        absurd (false≢true (sym (no_read_fault (lane_fault (form_of r) memory (place_of r) i) h) ∙ both.1))

-- ---- LDFF1

pub free-inside : (r : Reading) (memory : Memory) (pg : List ℕ) (n from : ℕ) → IsFreeFrom r memory pg n from → from ≤ n
free-inside r memory pg n from free = go (first_true (on_of r pg) n 0) refl free.place
  where
    go : (o : Option ℕ) → first_true (on_of r pg) n 0 ≡ o → from ≡ place_after o n → from ≤ n
    go None e p = omega arith
    go (Some i) e p = let f = first_true-some (on_of r pg) n 0 i e in omega (arith, f.below)

pub free-read : (r : Reading) (memory : Memory) (pg : List ℕ) (n from : ℕ) → IsFreeFrom r memory pg n from → first_true (refused_of r memory pg) from 0 ≡ None
free-read r memory pg n from free = first_true-absent (refused_of r memory pg) from 0 (λ j _ l. go (first_true (on_of r pg) n 0) refl free.place free.no_fault j (omega arith))
  where
    go : (o : Option ℕ) → first_true (on_of r pg) n 0 ≡ o → from ≡ place_after o n → fault_at (form_of r) memory (place_of r) o ≡ None → (j : ℕ) → j < from → refused_of r memory pg j ≡ false
    go None e p h j l = and_left (on_of r pg j) (faults_of r memory j) (first_true-none (on_of r pg) n 0 e j (omega arith) (omega arith))
    go (Some i) e p h j l =
        let f = first_true-some (on_of r pg) n 0 i e in
        elim (cases_lt j i) [
          | inl before ↦ and_left (on_of r pg j) (faults_of r memory j) (f.before j (omega arith) before)
          | inr least ↦
              let same : i ≡ j = omega arith in
              and_right (on_of r pg j) (faults_of r memory j) (ap (faults_of r memory) (sym same) ∙ no_read_fault (lane_fault (form_of r) memory (place_of r) i) h)
        ]

-- the free elements are those that the sentence names
free-same : (r : Reading) (pg : List ℕ) (n from : ℕ) (o : Option ℕ) → from ≡ place_after o n → (j : ℕ) → j < n → on_from r pg from j ≡ later_than o (on_of r pg) j
free-same r pg n from None p j l = on_from-below r pg from j (omega arith)
free-same r pg n from (Some i) p j l = ap (λ t. on_of r pg j && t) (elim (cases_lt i j) [
  | inl after ↦ le-leb from j (omega arith) ∙ sym (lt-ltb i j after)
  | inr upto ↦ lt-leb from j (omega arith) ∙ sym (le-ltb i j upto)
])

rank-ext : (f g : ℕ → Bool) (n : ℕ) → ((j : ℕ) → j < n → f j ≡ g j) → rank f n ≡ rank g n
rank-ext f g zero same = refl
rank-ext f g (suc n) same = ap₂ (λ k b. k + cond b 1 0) (rank-ext f g n (λ j l. same j (omega arith))) (same n (omega arith))

early-ext : (form : LoadForm) (memory : Memory) (stops : StopList) (on free other : ℕ → Bool) (f : ℕ → ℕ) (n : ℕ) (ffr : List ℕ) → ((j : ℕ) → j < n → free j ≡ other j) → left_by_early (early_load form memory stops on free f n ffr) ≡ left_by_early (early_load form memory stops on other f n ffr)
early-ext form memory stops on free other f n ffr same =
    let faults = lane_faults form memory f in
    let first : first_true (suppressed_at free faults (stop_at stops)) n 0 ≡ first_true (suppressed_at other faults (stop_at stops)) n 0 =
    first_true-ext (suppressed_at free faults (stop_at stops)) (suppressed_at other faults (stop_at stops)) n 0 (λ j _ l.
    ap₂ (λ b k. b && (faults j || stop_at stops k)) (same j (omega arith)) (rank-ext free other j (λ i u. same i (omega arith)))) in
    let left : Option ℕ → ℕ → LoadLeft = λ o seen.
    let loaded = loaded_with form memory on f n (cleared_from form.element o ffr) in
    record { z = loaded.z; ffr = loaded.ffr; stops = later stops seen } in
    ap₂ left first (ap (looked_at free faults n) first ∙ looked (first_true (suppressed_at other faults (stop_at stops)) n 0) refl)
  where
    looked : (o : Option ℕ) → first_true (suppressed_at other (lane_faults form memory f) (stop_at stops)) n 0 ≡ o → looked_at free (lane_faults form memory f) n o ≡ looked_at other (lane_faults form memory f) n o
    looked None e = rank-ext free other n same
    looked (Some i) e =
        let g = first_true-some (suppressed_at other (lane_faults form memory f) (stop_at stops)) n 0 i e in
        ap (λ k. cond (lane_faults form memory f i) k (k + 1)) (rank-ext free other i (λ j l. same j (omega (arith, g.below))))

unless_none : (o : Option AccessFault) (form : LoadForm) (memory : Memory) (stops : StopList) (on free : ℕ → Bool) (f : ℕ → ℕ) (n : ℕ) (ffr : List ℕ) → o ≡ None → left_by_first (unless_fault o (early_load form memory stops on free f n ffr)) ≡ Ok (left_by_early (early_load form memory stops on free f n ffr))
unless_none None form memory stops on free f n ffr e = refl
unless_none (Some a) form memory stops on free f n ffr e = cc

-- what an LDFF1 leaves that does not fault
pub first-done : (r : Reading) (memory : Memory) (stops : StopList) (pg : List ℕ) (n from : ℕ) (ffr : List ℕ) (left : LoadLeft) → IsFreeFrom r memory pg n from → left_by_early (early_load (form_of r) memory stops (on_of r pg) (on_from r pg from) (place_of r) n ffr) ≡ left → left_by_first (first_fault_early (form_of r) memory stops (on_of r pg) (place_of r) n ffr) ≡ Ok left
first-done r memory stops pg n from ffr left free h =
    let first = first_true (on_of r pg) n 0 in
    unless_none (fault_at (form_of r) memory (place_of r) first) (form_of r) memory stops (on_of r pg) (later_than first (on_of r pg)) (place_of r) n ffr free.no_fault
    ∙ ap Ok (sym (early-ext (form_of r) memory stops (on_of r pg) (on_from r pg from) (later_than first (on_of r pg)) (place_of r) n ffr (free-same r pg n from first free.place)) ∙ h)

-- ---- LDNF1

pub all-free : (r : Reading) (memory : Memory) (stops : StopList) (pg : List ℕ) (n : ℕ) (ffr : List ℕ) (left : LoadLeft) → left_by_early (early_load (form_of r) memory stops (on_of r pg) (on_from r pg 0) (place_of r) n ffr) ≡ left → left_by_early (early_load (form_of r) memory stops (on_of r pg) (on_of r pg) (place_of r) n ffr) ≡ left
all-free r memory stops pg n ffr left h =
    early-ext (form_of r) memory stops (on_of r pg) (on_of r pg) (on_from r pg 0) (place_of r) n ffr (λ j l. sym (ap (λ t. on_of r pg j && t) (le-leb 0 j (omega arith)) ∙ and-true (on_of r pg j))) ∙ h

-- ---- the operands

pub load_of-reading : (mode : LoadMode) (dtype base index vl : ℕ) (memory : Memory) (stops : StopList) (pg ffr : List ℕ) (r : Reading) (n : ℕ) → form_of r ≡ load_form dtype → r.base ≡ base → r.index ≡ index → n ≡ lanes vl r.element → load_of mode dtype base index vl memory stops pg ffr ≡ left_by mode (form_of r) memory stops (on_of r pg) (place_of r) n ffr
load_of-reading mode dtype base index vl memory stops pg ffr r n form b i count =
    ap (λ (form : LoadForm). left_by mode form memory stops (active form.element pg) (lane_address base index (width_bytes form.memory)) (lanes vl form.element) ffr) (sym form)
    ∙ ap₂ (λ b i. left_by mode (form_of r) memory stops (on_of r pg) (lane_address b i (width_bytes r.memory)) (lanes vl r.element) ffr) (sym b) (sym i)
    ∙ ap (λ n. left_by mode (form_of r) memory stops (on_of r pg) (place_of r) n ffr) (sym count)
