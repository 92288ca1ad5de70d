-- Loads that may stop early, element by element.
use Rattle.std.proofs.Common.{◌≡◌, ℕ, zero, suc, ◌+◌, ◌-◌, ◌*◌, ◌<◌, ◌≤◌, Bool, true, false, ◌&&◌, ◌||◌, cond, List, Option, Some, None, inl, inr, refl, sym, ap, ap₂, ◌∙◌, subst, arith, add-one}
use Rattle.std.specs.Prelude.{nat_le, unwrap_or}
use Rattle.std.proofs.lemmas.Bool.{cases_lt, cond-true, cond-false, lt-ltb, le-ltb, le-leb, lt-leb, and_left, and_parts, false≢true, and_right}
use Rattle.std.proofs.Math.Nat.{mul-le-mul_left, add-zero}
use mathlib.Core.Bool.{and-true}
use Rattle.guest_types.specs.Length.{width_bytes, all_lanes}
use Rattle.guest_types.specs.Memory.{Memory}
use Rattle.guest_types.specs.Elements.{both, first_true, register}
use Rattle.guest_types.specs.LaneMemory.{LoadForm, loaded_lane, kept_lane, is_clear, cleared_from}
use Rattle.guest_types.specs.EarlyLoads.{StopList, never, stop_at, later, rank, suppressed_at, looked_at, early_load}
use Rattle.guest_types.proofs.EarlyLoads.{suppressed-never, later-later, stop_at-later}
use Rattle.guest_types.proofs.AtWidths.{register-zeros}
use Rattle.guest_types.proofs.Registers.{register-ext}
use Rattle.guest_types.proofs.Widths.{whole-register}
use Rattle.guest_types.proofs.LaneSteps.{first_true-on, first_true-off, first_true-end}
use Rattle.lane_memory.specs.declared.reading.Reading.{Reading}
use Rattle.lane_memory.specs.Readings.{form_of, place_of, on_of, on_from, faults_of, refused_of, lanes_of}
use Rattle.lane_memory.specs.Loads.{LoadLeft, left_by_early}
use Rattle.lane_memory.proofs.FirstTrue.{first_true-some, first_true-none, first_true-from, first_true-ext}
use Rattle.lane_memory.proofs.FfrCleared.{clear-there}

-- ---- the first suppressed element

-- where the search has come: no element below e is suppressed, and the list is counted from there
pub record Going (s0 : StopList) (free faults : ℕ → Bool) (lanes e : ℕ) (s : StopList) : Type 0 where
  pub stops : s ≡ later s0 (rank free e)
  pub first : first_true (suppressed_at free faults (stop_at s0)) lanes 0 ≡ first_true (suppressed_at free faults (stop_at s0)) (lanes - e) e

-- what the search gives
pub record Found (s0 : StopList) (free faults : ℕ → Bool) (lanes : ℕ) (found : Option ℕ) (s : StopList) : Type 0 where
  pub first : found ≡ first_true (suppressed_at free faults (stop_at s0)) lanes 0
  pub stops : s ≡ later s0 (looked_at free faults lanes found)

rank-none : (free : ℕ → Bool) (e : ℕ) → ((j : ℕ) → j < e → free j ≡ false) → rank free e ≡ 0
rank-none free zero none = refl
rank-none free (suc e) none = ap₂ (λ n b. n + cond b 1 0) (rank-none free e (λ j l. none j (omega arith))) (none e (omega arith))

rank-more : (free : ℕ → Bool) (e : ℕ) (b : Bool) → free e ≡ b → rank free (e + 1) ≡ rank free e + cond b 1 0
rank-more free e b h = ap (rank free) (add-one e) ∙ ap (λ b. rank free e + cond b 1 0) h

-- whether the next free element is suppressed
next-stop : (s : StopList) (a : ℕ) → stop_at (later s a) 0 ≡ stop_at s a
next-stop s a = stop_at-later s a 0 ∙ ap (stop_at s) (add-zero a)

module _ (s0 : StopList) (free faults : ℕ → Bool) (lanes e : ℕ) where
  bad : ℕ → Bool
  bad = suppressed_at free faults (stop_at s0)

  pub going-begins : later s0 0 ≡ s0 → e ≤ lanes → ((j : ℕ) → j < e → free j ≡ false) → Going s0 free faults lanes e s0
  going-begins here l none = record {
    stops = sym (ap (later s0) (rank-none free e none) ∙ here);
    first = first_true-from (suppressed_at free faults (stop_at s0)) lanes e l (λ j u. and_left (free j) (faults j || stop_at s0 (rank free j)) (none j u));
  }

  pub going-faults : (s : StopList) → Going s0 free faults lanes e s → e < lanes → free e ≡ true → faults e ≡ true → Found s0 free faults lanes (Some e) s
  going-faults s g l f h = record {
    first = sym (g.first ∙ first_true-on (suppressed_at free faults (stop_at s0)) lanes e l (ap₂ (λ a b. a && (b || stop_at s0 (rank free e))) f h));
    stops = g.stops ∙ ap (later s0) (sym (cond-true _ _ _ h));
  }

  pub going-stops : (s t : StopList) → Going s0 free faults lanes e s → e < lanes → free e ≡ true → faults e ≡ false → stop_at s 0 ≡ true → t ≡ later s 1 → Found s0 free faults lanes (Some e) t
  going-stops s t g l f h stop next = record {
    first = sym (g.first ∙ first_true-on (suppressed_at free faults (stop_at s0)) lanes e l (ap₂ (λ a b. a && b) f (ap₂ (λ a b. a || b) h (sym (next-stop s0 (rank free e)) ∙ ap (λ s. stop_at s 0) (sym g.stops) ∙ stop))));
    stops = next ∙ ap (λ s. later s 1) g.stops ∙ later-later s0 (rank free e) 1 ∙ ap (later s0) (sym (cond-false _ _ _ h));
  }

  pub going-on : (s t : StopList) → Going s0 free faults lanes e s → e < lanes → free e ≡ true → faults e ≡ false → stop_at s 0 ≡ false → t ≡ later s 1 → Going s0 free faults lanes (e + 1) t
  going-on s t g l f h stop next = record {
    stops = next ∙ ap (λ s. later s 1) g.stops ∙ later-later s0 (rank free e) 1 ∙ ap (later s0) (sym (rank-more free e true f));
    first = g.first ∙ first_true-off (suppressed_at free faults (stop_at s0)) lanes e l (ap₂ (λ a b. a && b) f (ap₂ (λ a b. a || b) h (sym (next-stop s0 (rank free e)) ∙ ap (λ s. stop_at s 0) (sym g.stops) ∙ stop)));
  }

  pub going-past : (s : StopList) → Going s0 free faults lanes e s → e < lanes → free e ≡ false → Going s0 free faults lanes (e + 1) s
  going-past s g l f = record {
    stops = g.stops ∙ ap (later s0) (sym (rank-more free e false f ∙ add-zero (rank free e)));
    first = g.first ∙ first_true-off (suppressed_at free faults (stop_at s0)) lanes e l (and_left (free e) (faults e || stop_at s0 (rank free e)) f);
  }

  pub going-ends : (s : StopList) → Going s0 free faults lanes e s → e ≤ lanes → lanes ≤ e → Found s0 free faults lanes None s
  going-ends s g u l = record {
    first = sym (g.first ∙ first_true-end (suppressed_at free faults (stop_at s0)) lanes e l);
    stops = g.stops ∙ ap (λ n. later s0 (rank free n)) (let q : e ≡ lanes = omega arith in q);
  }

-- ---- the elements from one on are free

pub on_from-below : (r : Reading) (pg : List ℕ) (from j : ℕ) → j < from → on_from r pg from j ≡ false
on_from-below r pg from j l = and_right (on_of r pg j) (nat_le from j) (lt-leb from j l)

pub on_from-above : (r : Reading) (pg : List ℕ) (from j : ℕ) → from ≤ j → on_from r pg from j ≡ on_of r pg j
on_from-above r pg from j l = ap (λ t. on_of r pg j && t) (le-leb from j l) ∙ and-true (on_of r pg j)

-- with the empty list only a fault suppresses
pub first-never : (r : Reading) (memory : Memory) (s : StopList) (pg : List ℕ) (from lanes : ℕ) → s ≡ never → from ≤ lanes → first_true (refused_of r memory pg) (lanes - from) from ≡ first_true (suppressed_at (on_from r pg from) (faults_of r memory) (stop_at s)) lanes 0
first-never r memory s pg from lanes none fits =
    let free = on_from r pg from in
    let faults = faults_of r memory in
    sym (
    ap (λ s. first_true (suppressed_at free faults (stop_at s)) lanes 0) none
    ∙ suppressed-never free faults lanes 0
    ∙ first_true-from (both free faults) lanes from fits (λ j l. and_left (free j) (faults j) (on_from-below r pg from j l))
    ∙ first_true-ext (both free faults) (refused_of r memory pg) (lanes - from) from (λ j least _. ap (λ b. b && faults j) (on_from-above r pg from j least))
    )

-- ---- elements past the first clear one are zero

pub kept-register : (form : LoadForm) (memory : Memory) (on : ℕ → Bool) (f : ℕ → ℕ) (limit : Option ℕ) (lanes : ℕ) → lanes ≤ all_lanes form.element → unwrap_or limit lanes ≤ lanes → register (width_bytes form.element) (kept_lane form memory on f limit) lanes ≡ register (width_bytes form.element) (loaded_lane form memory on f) (unwrap_or limit lanes)
kept-register form memory on f None lanes fits l = refl
kept-register form memory on f (Some e) lanes fits l =
    let k = width_bytes form.element in
    let g = kept_lane form memory on f (Some e) in
    let split : e + (lanes - e) ≡ lanes = omega arith in
    ap (register k g) (sym split)
    ∙ register-zeros k g e (lanes - e) (subst (λ n. k * n ≤ 256) (sym split) (omega (arith, whole-register form.element, mul-le-mul_left k fits))) (λ i least below. cond-false _ _ _ (le-ltb i e least))
    ∙ register-ext k g (loaded_lane form memory on f) e (λ i below. cond-true _ _ _ (lt-ltb i e below))

-- ---- the whole load

-- what the parts of the code give
pub record Parts (r : Reading) (memory : Memory) (s0 : StopList) (pg : List ℕ) (from lanes : ℕ) (old : List ℕ) (first limit : Option ℕ) (ffr : List ℕ) : Type 0 where
  pub found : first ≡ first_true (suppressed_at (on_from r pg from) (faults_of r memory) (stop_at s0)) lanes 0
  pub cleared : ffr ≡ cleared_from r.element first old
  pub clear : limit ≡ first_true (is_clear r.element ffr) lanes 0

module _ (r : Reading) (memory : Memory) (s0 : StopList) (pg : List ℕ) (from lanes : ℕ) (old : List ℕ) (first limit : Option ℕ) (ffr : List ℕ) where
  pub limit-inside : Parts r memory s0 pg from lanes old first limit ffr → unwrap_or limit lanes ≤ lanes
  limit-inside parts = go limit parts.clear
    where
      go : (o : Option ℕ) → o ≡ first_true (is_clear r.element ffr) lanes 0 → unwrap_or o lanes ≤ lanes
      go None e = omega arith
      go (Some l) e = let f = first_true-some (is_clear r.element ffr) lanes 0 l (sym e) in omega (arith, f.below)

  -- no active element that is kept faults
  pub kept-read : Parts r memory s0 pg from lanes old first limit ffr → lanes ≤ all_lanes r.element → first_true (refused_of r memory pg) from 0 ≡ None → (j : ℕ) → j < unwrap_or limit lanes → refused_of r memory pg j ≡ false
  kept-read parts fits read j l = go (refused_of r memory pg j) refl
    where
      from_on : from ≤ j → on_of r pg j ≡ true → faults_of r memory j ≡ true → suppressed_at (on_from r pg from) (faults_of r memory) (stop_at s0) j ≡ true
      from_on least on faults = ap₂ (λ a b. a && (b || stop_at s0 (rank (on_from r pg from) j))) (on_from-above r pg from j least ∙ on) faults

      stopped : (o p : Option ℕ) → first ≡ o → limit ≡ p → suppressed_at (on_from r pg from) (faults_of r memory) (stop_at s0) j ≡ true → ⊥
      stopped None p e q bad =
          false≢true (sym (first_true-none (suppressed_at (on_from r pg from) (faults_of r memory) (stop_at s0)) lanes 0 (sym parts.found ∙ e) j (omega arith) (omega (arith, l, limit-inside parts))) ∙ bad)
      stopped (Some c) p e q bad =
          let f = first_true-some (suppressed_at (on_from r pg from) (faults_of r memory) (stop_at s0)) lanes 0 c (sym parts.found ∙ e) in
          let clear : is_clear r.element ffr c ≡ true = ap (λ z. is_clear r.element z c) (parts.cleared ∙ ap (λ o. cleared_from r.element o old) e) ∙ clear-there r.element old c (omega (arith, f.below, fits)) in
          elim (cases_lt j c) [
            | inl before ↦ false≢true (sym (f.before j (omega arith) before) ∙ bad)
            | inr after ↦ kept p q c (omega (arith, f.below)) clear after
          ]
        where
          kept : (p : Option ℕ) → limit ≡ p → (c : ℕ) → c < lanes → is_clear r.element ffr c ≡ true → c ≤ j → ⊥
          kept None q c inside clear after = false≢true (sym (first_true-none (is_clear r.element ffr) lanes 0 (sym parts.clear ∙ q) c (omega arith) (omega arith)) ∙ clear)
          kept (Some m) q c inside clear after =
              let g = first_true-some (is_clear r.element ffr) lanes 0 m (sym parts.clear ∙ q) in
              let here : j < m = subst (λ o. j < unwrap_or o lanes) q l in
              false≢true (sym (g.before c (omega arith) (omega arith)) ∙ clear)

      go : (t : Bool) → refused_of r memory pg j ≡ t → refused_of r memory pg j ≡ false
      go false e = e
      go true e =
          let both = and_parts (on_of r pg j) (faults_of r memory j) e in
          elim (cases_lt j from) [
            | inl before ↦ absurd (false≢true (sym (first_true-none (refused_of r memory pg) from 0 read j (omega arith) (omega arith)) ∙ e))
            | inr least ↦ absurd (stopped first limit refl refl (from_on least both.0 both.1))
          ]

  pub early-whole : (stops : StopList) (out : List ℕ) → Parts r memory s0 pg from lanes old first limit ffr → lanes ≤ all_lanes r.element → stops ≡ later s0 (looked_at (on_from r pg from) (faults_of r memory) lanes first) → out ≡ lanes_of r memory pg (unwrap_or limit lanes) → left_by_early (early_load (form_of r) memory s0 (on_of r pg) (on_from r pg from) (place_of r) lanes old) ≡ record { z = out; ffr = ffr; stops = stops }
  early-whole stops out parts fits counted filled =
      let w = r.element in
      let free = on_from r pg from in
      let load : Option ℕ → LoadLeft = λ o.
      record {
        z = register (width_bytes w) (kept_lane (form_of r) memory (on_of r pg) (place_of r) (first_true (is_clear w (cleared_from w o old)) lanes 0)) lanes;
        ffr = cleared_from w o old;
        stops = later s0 (looked_at free (faults_of r memory) lanes o);
      } in
      let kept : register (width_bytes w) (kept_lane (form_of r) memory (on_of r pg) (place_of r) (first_true (is_clear w ffr) lanes 0)) lanes ≡ out =
      ap (λ o. register (width_bytes w) (kept_lane (form_of r) memory (on_of r pg) (place_of r) o) lanes) (sym parts.clear)
      ∙ kept-register (form_of r) memory (on_of r pg) (place_of r) limit lanes fits (limit-inside parts) ∙ sym filled in
      ap load (sym parts.found)
      ∙ ap₂ (λ (f : List ℕ) (s : StopList). record { z = register (width_bytes w) (kept_lane (form_of r) memory (on_of r pg) (place_of r) (first_true (is_clear w f) lanes 0)) lanes; ffr = f; stops = s }) (sym parts.cleared) (sym counted)
      ∙ ap (λ (z : List ℕ). record { z = z; ffr = ffr; stops = stops }) kept
