-- The walk over the intervals: what holds of the registers given so far, and of the last use of each register.
use Rattle.std.proofs.Common.{◌≡◌, ◌≢◌, ℕ, zero, suc, ◌+◌, ◌<◌, ◌≤◌, Bool, true, false, cond, List, [], ◌∷◌, ◌++◌, length, take, drop, get_or, set, Option, Some, None, refl, sym, ap, ◌∙◌, subst, arith, ⊎_elim, inl, inr, ◌⊎◌, drop-cons}
use Rattle.std.specs.Prelude.{nat_lt, slice_get, slice_index}
use Rattle.std.specs.List.{count_by}
use Rattle.std.proofs.lemmas.Bool.{cases_lt, lt-ltb, le-ltb}
use Rattle.std.proofs.lemmas.List.{take_more, take_all, take-append-drop, get_or-set_same, get_or-set_other, get_or_append_left, length_push}
use Rattle.std.proofs.Math.ListN.{length-set}
use Rattle.std.proofs.lemmas.List.Sums.{sum_by_push, sum_by-set, count_by-le-length}
use Rattle.std.proofs.lemmas.Option.{slice_get_within}
use Rattle.std.proofs.Math.Seq.{get_or-append_seam}
use Rattle.reg_assign.specs.declared.interval.Interval.{Interval}
use Rattle.reg_assign.specs.Intervals.{is_live, overlap, need_of, AscendFrom, Ascend}
use Rattle.reg_assign.specs.Registers.{assignment, is_live_one, is_live_in, IsAssignment}
use Rattle.reg_assign.specs.Taking.{is_needed, Takes, Empty, Ended, Unused, Full}
use Rattle.reg_assign.proofs.Overlaps.{one, live-from, live-last_use, is_live_of_begun, not_begun, overlap-push, overlap-append, overlap-cons, need-at, need-most}

-- all begin by a point
abbrev pub BegunBy : ℕ → List Interval → Type 0
BegunBy p [] = Unit {0}
BegunBy p (i ∷ is) = (i.from ≤ p) × BegunBy p is

-- of n registers: those of the intervals done, and the last use of each register that was ever taken
pub record IsWalk (n : ℕ) (done : List Interval) (registers ends : List ℕ) : Type 0 where
  pub room : length ends ≤ n
  pub fits : IsAssignment n (assignment done registers)
  -- an interval that is not empty ends no later than its register
  pub holds : (j : ℕ) (s : Interval) → slice_get done j ≡ Some s → s.from < s.last_use → (slice_index registers j < length ends) × (s.last_use ≤ slice_index ends (slice_index registers j))
  -- from the last start on, as many are live as registers are still needed
  pub counted : (p : ℕ) → BegunBy p done → overlap done p ≡ count_by (is_needed p) ends
  pub enough : (p : ℕ) → overlap done p ≤ n

begun-later : (p q : ℕ) (is : List Interval) → p ≤ q → BegunBy p is → BegunBy q is
begun-later p q [] le h = tt
begun-later p q (i ∷ is) le h = (omega (arith, h.0), begun-later p q is le h.1)

begun-push : (p : ℕ) (is : List Interval) (i : Interval) → BegunBy p (is ++ i ∷ []) → BegunBy p is × (i.from ≤ p)
begun-push p [] i h = (tt, h.0)
begun-push p (x ∷ is) i h = let r = begun-push p is i h.1 in ((h.0, r.0), r.1)

-- the next interval of an ascending list begins no earlier than those before it
begun-take : (m : ℕ) (is : List Interval) (k : ℕ) (d : Interval) → AscendFrom m is → k < length is → BegunBy (get_or is k d).from (take k is)
begun-take m [] k d a lt = absurd (omega arith)
begun-take m (i ∷ is) zero d a lt = tt
begun-take m (i ∷ is) (suc k) d a lt = (first i.from is k d a.1 (omega arith), begun-take i.from is k d a.1 (omega arith))
  where
    first : (m : ℕ) (is : List Interval) (k : ℕ) (d : Interval) → AscendFrom m is → k < length is → m ≤ (get_or is k d).from
    first m [] k d a lt = absurd (omega arith)
    first m (y ∷ is) zero d a lt = a.0
    first m (y ∷ is) (suc k) d a lt = let h = first y.from is k d a.1 (omega arith) in let g = a.0 in omega (arith, h, g)

-- an element of a list with one more at its end
get-push : (is : List Interval) (i : Interval) (j : ℕ) (s : Interval) → slice_get (is ++ i ∷ []) j ≡ Some s → (slice_get is j ≡ Some s) ⊎ ((j ≡ length is) × (i ≡ s))
get-push [] i zero s e = inr (refl, cc)
get-push [] i (suc j) s e = absurd cc
get-push (x ∷ is) i zero s e = inl e
get-push (x ∷ is) i (suc j) s e = ⊎_elim (λ (h : slice_get is j ≡ Some s). inl h) (λ (h : (j ≡ length is) × (i ≡ s)). inr (ap suc h.0, h.1)) (get-push is i j s e)

-- intervals at places of a list, for those that are live there
apart_of : (is : List Interval) (rs : List ℕ) → ((j k p : ℕ) (s t : Interval) → j ≢ k → slice_get is j ≡ Some s → slice_get is k ≡ Some t → is_live p s ≡ true → is_live p t ≡ true → slice_index rs j ≢ slice_index rs k)
    → (j k p : ℕ) → j ≢ k → is_live_in is j p ≡ true → is_live_in is k p ≡ true → slice_index rs j ≢ slice_index rs k
apart_of is rs f j k p ne a b = by (slice_get is j) (slice_get is k) refl refl a b
  where
    by : (o u : Option Interval) → slice_get is j ≡ o → slice_get is k ≡ u → is_live_one p o ≡ true → is_live_one p u ≡ true → slice_index rs j ≢ slice_index rs k
    by (Some s) (Some t) e g a b = f j k p s t ne e g a b
    by (Some s) None e g a b = absurd cc
    by None u e g a b = absurd cc

pub start : (n : ℕ) → IsWalk n [] [] []
start n = record {
  room = omega arith;
  fits = record { each = refl; below = λ j l. absurd (omega arith); apart = λ i j p d e. absurd cc };
  holds = λ j s e. absurd cc;
  counted = λ p h. refl;
  enough = λ p. omega arith;
}

-- what a step owes for a register r of the next interval
record Owes (n : ℕ) (done : List Interval) (registers ends : List ℕ) (i : Interval) (r : ℕ) (new : List ℕ) : Type 0 where
  small : r < n
  room : length new ≤ n
  kept : (j : ℕ) (s : Interval) → slice_get done j ≡ Some s → s.from < s.last_use → (slice_index registers j < length new) × (s.last_use ≤ slice_index new (slice_index registers j))
  own : i.from < i.last_use → (r < length new) × (i.last_use ≤ slice_index new r)
  free : (j : ℕ) (s : Interval) → i.from < i.last_use → slice_get done j ≡ Some s → i.from < s.last_use → s.from < s.last_use → slice_index registers j ≢ r
  counted : (p : ℕ) → BegunBy p done → i.from ≤ p → overlap done p + cond (is_live p i) 1 0 ≡ count_by (is_needed p) new

step_of : (n : ℕ) (done : List Interval) (registers ends : List ℕ) (i : Interval) (r : ℕ) (new : List ℕ) → IsWalk n done registers ends → BegunBy i.from done → Owes n done registers ends i r new → IsWalk n (done ++ i ∷ []) (registers ++ r ∷ []) new
step_of n done registers ends i r new w before o = record {
  room = o.room;
  fits = record { each = each; below = below; apart = apart_of (done ++ i ∷ []) (registers ++ r ∷ []) apart };
  holds = λ j s e live. ⊎_elim
      (λ (h : slice_get done j ≡ Some s). let k = o.kept j s h live in let q = old j s h in (let a = k.0 in omega (arith, q, a), let a = k.1 in let b = ap (slice_index new) q in omega (arith, a, b)))
      (λ (h : (j ≡ length done) × (i ≡ s)). let live' : i.from < i.last_use = (let f = ap (λ (t : Interval). t.from) h.1 in let u = ap (λ (t : Interval). t.last_use) h.1 in omega (arith, f, u)) in let k = o.own live' in let q = last j h.0 in (let a = k.0 in omega (arith, q, a), let a = k.1 in let b = ap (slice_index new) q in let u = ap (λ (t : Interval). t.last_use) h.1 in omega (arith, a, b, u)))
      (get-push done i j s e);
  counted = λ p h. let b = begun-push p done i h in overlap-push done i p ∙ o.counted p b.0 b.1;
  enough = λ p. ⊎_elim (λ (h : p < i.from). early p h) (λ (h : i.from ≤ p). late p h) (cases_lt p i.from);
}
  where
    each : length (registers ++ r ∷ []) ≡ length (done ++ i ∷ [])
    each = let a = length_push registers r in let b = length_push done i in let c = w.fits.each in omega (arith, a, b, c)

    old : (j : ℕ) (s : Interval) → slice_get done j ≡ Some s → slice_index (registers ++ r ∷ []) j ≡ slice_index registers j
    old j s e = let a = slice_get_within done j s e in let b = w.fits.each in get_or_append_left registers (r ∷ []) 0 j (omega (arith, a, b))

    last : (j : ℕ) → j ≡ length done → slice_index (registers ++ r ∷ []) j ≡ r
    last j e = ap (slice_index (registers ++ r ∷ [])) (let c = w.fits.each in let q : j ≡ length registers = omega (arith, c, e) in q) ∙ get_or-append_seam registers r [] 0

    below : (j : ℕ) → j < length (registers ++ r ∷ []) → slice_index (registers ++ r ∷ []) j < n
    below j lt = ⊎_elim
        (λ (h : j < length registers). let a = get_or_append_left registers (r ∷ []) 0 j h in let b = w.fits.below j h in omega (arith, a, b))
        (λ (h : length registers ≤ j). let a = length_push registers r in let c = w.fits.each in let b = last j (omega (arith, a, c, lt)) in let m = o.small in omega (arith, b, m))
        (cases_lt j (length registers))

    -- the new interval and one before it
    apart_last : (j p : ℕ) (s : Interval) → slice_get done j ≡ Some s → is_live p s ≡ true → is_live p i ≡ true → slice_index registers j ≢ r
    apart_last j p s e ls li = let a = live-from p s ls in let b = live-last_use p s ls in let c = live-from p i li in let d = live-last_use p i li in o.free j s (omega (arith, c, d)) e (omega (arith, c, b)) (omega (arith, a, b))

    same_live : (p : ℕ) (s : Interval) → i ≡ s → is_live p s ≡ true → is_live p i ≡ true
    same_live p s e l = ap (is_live p) e ∙ l

    apart : (j k p : ℕ) (s t : Interval) → j ≢ k → slice_get (done ++ i ∷ []) j ≡ Some s → slice_get (done ++ i ∷ []) k ≡ Some t → is_live p s ≡ true → is_live p t ≡ true → slice_index (registers ++ r ∷ []) j ≢ slice_index (registers ++ r ∷ []) k
    apart j k p s t ne e f ls lt q = ⊎_elim
        (λ (a : slice_get done j ≡ Some s). ⊎_elim
        (λ (b : slice_get done k ≡ Some t). w.fits.apart j k p ne (ap (is_live_one p) a ∙ ls) (ap (is_live_one p) b ∙ lt) (sym (old j s a) ∙ q ∙ old k t b))
        (λ (b : (k ≡ length done) × (i ≡ t)). apart_last j p s a ls (same_live p t b.1 lt) (sym (old j s a) ∙ q ∙ last k b.0))
        (get-push done i k t f))
        (λ (a : (j ≡ length done) × (i ≡ s)). ⊎_elim
        (λ (b : slice_get done k ≡ Some t). apart_last k p t b lt (same_live p s a.1 ls) (sym (old k t b) ∙ sym q ∙ last j a.0))
        (λ (b : (k ≡ length done) × (i ≡ t)). ne (a.0 ∙ sym b.0))
        (get-push done i k t f))
        (get-push done i j s e)

    early : (p : ℕ) → p < i.from → overlap (done ++ i ∷ []) p ≤ n
    early p h = let a = overlap-push done i p in let b = ap one (not_begun p i h) in let c = w.enough p in omega (arith, a, b, c)

    late : (p : ℕ) → i.from ≤ p → overlap (done ++ i ∷ []) p ≤ n
    late p h = let a = overlap-push done i p in let b = o.counted p (begun-later i.from p done h before) h in let c = count_by-le-length (is_needed p) new in let d = o.room in omega (arith, a, b, c, d)

-- ---- the kinds of steps

not_live : (p : ℕ) (i : Interval) → i.last_use ≤ i.from → is_live p i ≡ false
not_live p i h = by (is_live p i) refl
  where
    by : (b : Bool) → is_live p i ≡ b → b ≡ false
    by true e = let a = live-from p i e in let b = live-last_use p i e in absurd (omega (arith, a, b))
    by false e = refl

-- a use counts where it is past the point
needed : (p u : ℕ) (b : Bool) → nat_lt p u ≡ b → one (is_needed p u) ≡ one b
needed p u b e = ap one e

live_needed : (p : ℕ) (i : Interval) → i.from ≤ p → one (is_live p i) ≡ one (is_needed p i.last_use)
live_needed p i f = ap one (is_live_of_begun p i f)

owes_empty_interval : (n : ℕ) (done : List Interval) (registers ends : List ℕ) (i : Interval) → 1 ≤ n → IsWalk n done registers ends → i.last_use ≤ i.from → Owes n done registers ends i 0 ends
owes_empty_interval n done registers ends i some w h = record {
  small = omega arith;
  room = w.room;
  kept = w.holds;
  own = λ l. absurd (omega arith);
  free = λ j s l. absurd (omega arith);
  counted = λ p b f. let a = w.counted p b in let c = ap one (not_live p i h) in omega (arith, a, c);
}

interval_ended : (n : ℕ) (done : List Interval) (registers ends : List ℕ) (i : Interval) (r : ℕ) → IsWalk n done registers ends → i.from < i.last_use → r < length ends → slice_index ends r ≤ i.from → Owes n done registers ends i r (set ends r i.last_use)
interval_ended n done registers ends i r w h lt e = record {
  small = let a = w.room in omega (arith, a);
  room = let a = w.room in let b = size in omega (arith, a, b);
  kept = λ j s g l. let k = w.holds j s g l in (let a = k.0 in let b = size in omega (arith, a, b), keeps (slice_index registers j) s.last_use k.1);
  own = λ l. (let b = size in omega (arith, b), let a = get_or-set_same ends r i.last_use 0 lt in omega (arith, a));
  free = λ j s l g past own q. let k = (w.holds j s g own).1 in let a = ap (slice_index ends) q in omega (arith, k, a);
  counted = λ p b f.
      let a = w.counted p b in
      let c = sum_by-set (λ u. cond (is_needed p u) 1 0) ends r i.last_use 0 lt in
      let d = live_needed p i f in
      let g = needed p (slice_index ends r) false (le-ltb p (slice_index ends r) (omega (arith, f))) in
      omega (arith, a, c, d, g);
}
  where
    size : length (set ends r i.last_use) ≡ length ends
    size = length-set ends r i.last_use

    keeps : (j u : ℕ) → u ≤ slice_index ends j → u ≤ slice_index (set ends r i.last_use) j
    keeps j u le = ⊎_elim
        (λ (a : j < r). let b = get_or-set_other ends r j i.last_use 0 (λ q. absurd (omega arith)) in omega (arith, b))
        (λ (a : r ≤ j). ⊎_elim
        (λ (c : r < j). let b = get_or-set_other ends r j i.last_use 0 (λ q. absurd (omega arith)) in omega (arith, b))
        (λ (c : j ≤ r). let q : j ≡ r = omega arith in let b = get_or-set_same ends r i.last_use 0 lt in let d = ap (slice_index ends) q in let f = ap (slice_index (set ends r i.last_use)) q in omega (arith, b, d, f))
        (cases_lt r j))
        (cases_lt j r)

unused : (n : ℕ) (done : List Interval) (registers ends : List ℕ) (i : Interval) → IsWalk n done registers ends → i.from < i.last_use → length ends < n → Owes n done registers ends i (length ends) (ends ++ i.last_use ∷ [])
unused n done registers ends i w h lt = record {
  small = lt;
  room = let a = length_push ends i.last_use in omega (arith, a);
  kept = λ j s g l. let k = w.holds j s g l in let a = k.0 in let b = k.1 in let c = length_push ends i.last_use in let d = get_or_append_left ends (i.last_use ∷ []) 0 (slice_index registers j) a in (omega (arith, a, c), omega (arith, b, d));
  own = λ l. let c = length_push ends i.last_use in let d = get_or-append_seam ends i.last_use [] 0 in (omega (arith, c), omega (arith, d));
  free = λ j s l g past own q. let k = (w.holds j s g own).0 in absurd (omega (arith, k, q));
  counted = λ p b f. let a = w.counted p b in let c = sum_by_push (λ u. cond (is_needed p u) 1 0) ends i.last_use in let d = live_needed p i f in omega (arith, a, c, d);
}

-- an interval with its register
pub walk_of_interval : (n : ℕ) (done : List Interval) (registers ends : List ℕ) (i : Interval) (r : ℕ) (new : List ℕ) → 1 ≤ n → IsWalk n done registers ends → BegunBy i.from done → Takes n i ends new (Some r) → IsWalk n (done ++ i ∷ []) (registers ++ r ∷ []) new
walk_of_interval n done registers ends i _ new some w b (Empty h e) = step_of n done registers ends i 0 new w b (subst (Owes n done registers ends i 0) (sym e) (owes_empty_interval n done registers ends i some w h))
walk_of_interval n done registers ends i _ new some w b (Ended r h lt u e) = step_of n done registers ends i r new w b (subst (Owes n done registers ends i r) (sym e) (interval_ended n done registers ends i r w h lt u))
walk_of_interval n done registers ends i _ new some w b (Unused r h lt q e) = step_of n done registers ends i r new w b (subst (λ m. Owes n done registers ends i m new) (sym q) (subst (Owes n done registers ends i (length ends)) (sym e) (unused n done registers ends i w h lt)))

-- where no register is free, more than n are needed
pub full : (n : ℕ) (all done : List Interval) (registers ends : List ℕ) (i : Interval) (rest : List Interval) (new : List ℕ) → all ≡ done ++ i ∷ rest → IsWalk n done registers ends → BegunBy i.from done → Takes n i ends new None → n < need_of all
full n all done registers ends i rest new e w b (Full h le c) =
    let a = need-at all done i rest e in
    let d = ap (λ l. overlap l i.from) e ∙ overlap-append done (i ∷ rest) i.from in
    let f = overlap-cons i rest i.from in
    let g = ap one (is_live_of_begun i.from i (omega arith) ∙ lt-ltb i.from i.last_use h) in
    let k = w.counted i.from b in
    omega (arith, a, d, f, g, k, c)

-- ---- the walk over the list

module _ (n : ℕ) (all : List Interval) (k : ℕ) (d : Interval) (registers ends new : List ℕ) (ascend : Ascend all) (w : IsWalk n (take k all) registers ends) where
  pub walk_of_suc : (r : ℕ) → 1 ≤ n → k < length all → Takes n (get_or all k d) ends new (Some r) → IsWalk n (take (k + 1) all) (registers ++ r ∷ []) new
  walk_of_suc r some lt t = subst (λ l. IsWalk n l (registers ++ r ∷ []) new) (sym (take_more all k d lt)) (walk_of_interval n (take k all) registers ends (get_or all k d) r new some w (begun-take 0 all k d ascend lt) t)

  pub walk_stops_without_register : k < length all → Takes n (get_or all k d) ends new None → n < need_of all
  walk_stops_without_register lt t = full n all (take k all) registers ends (get_or all k d) (drop (suc k) all) new (sym (take-append-drop k all) ∙ ap (λ l. take k all ++ l) (drop-cons all k d lt)) w (begun-take 0 all k d ascend lt) t

  pub arrives : length all ≤ k → need_of all ≤ n
  arrives le = need-most all n (λ p. let a = w.enough p in let e = ap (λ l. overlap l p) (take_all k all le) in omega (arith, a, e))
