-- Laws of the intervals of a kernel: they stand in the order in which they begin, none ends before it begins, they are few,
-- and the need of a class is their greatest overlap.
use Rattle.std.proofs.Common.{◌≡◌, ℕ, zero, suc, ◌+◌, ◌-◌, ◌*◌, ◌<◌, ◌≤◌, Bool, true, false, cond, List, [], ◌∷◌, ◌++◌, length, Option, Some, None, refl, ap, arith, length-append}
use Rattle.std.specs.Prelude.{map, filter, max, fold}
use Rattle.std.specs.List.{list_any, cons_option}
use Rattle.std.proofs.Math.Nat.{le-max_left, le-max_right, max-le}
use Rattle.std.proofs.Math.ListN.{replicate}
use Rattle.std.proofs.lemmas.List.{length-map}
use Rattle.std.proofs.lemmas.List.Sums.{count_by-le-length, length-filter}
use mathlib.Core.Bool.{and-false}
use Rattle.kernel_tree.specs.Plain.{Program}
use Rattle.kernel_tree.specs.Items.{size_of, loop_index, loop_start}
use Rattle.reg_assign.specs.declared.interval.RegClass.{RegClass}
use Rattle.reg_assign.specs.declared.interval.RegClass.TheVariants.{Z, P, X}
use Rattle.reg_assign.specs.declared.interval.Interval.{Interval}
use Rattle.reg_assign.specs.Intervals.{is_live, overlap, greater_overlap, need_of, AscendFrom, Ascend}
use Rattle.reg_assign.proofs.Overlaps.{one, live, overlap-cons, overlap-append, overlap-need, need-most}
use Rattle.loop_form.specs.Entries.{Content, IsLiteral, IsName, IsLet, Entry, kind_of, entries_of, loop_entries}
use Rattle.loop_form.specs.Listing.{names, last_of, last_use_at, last_use_in, has_value, held}
use Rattle.loop_form.specs.Needs.{Throughout, Index, Constant, is_constant, is_scalar, throughout, scalars, is_named_scalar, scalar_of, constants, new_constant, index_held, is_updated, accumulating_of, span, spans_of, counted, values, most_live, need, whole, intervals}
use Rattle.loop_form.specs.Numbers.{Numbered, AreForward}
use Rattle.loop_form.proofs.FewItems.{vars-small}
use Rattle.loop_form.proofs.Numbers.{AreUsed, loop-listed, all-listed}
use Rattle.loop_form.proofs.NameUses.{last_from}

-- ---- order

values-ascend : (class : RegClass) (all es : List Entry) (p b : ℕ) → Numbered b es → p ≤ b → AscendFrom p (spans_of class all es)
values-ascend class all [] p b h le = tt
values-ascend class all (e ∷ es) p b h le = by (last_use_in class all e) (values-ascend class all es p (suc b) h.1 (omega arith)) (values-ascend class all es e.item (suc b) h.1 (let a = h.0 in omega (arith, a)))
  where
    by : (o : Option ℕ) → AscendFrom p (spans_of class all es) → AscendFrom e.item (spans_of class all es) → AscendFrom p (cons_option (span e.item o) (spans_of class all es))
    by None f g = f
    by (Some u) f g = (let a = h.0 in omega (arith, a), g)

whole-ascend : (k : Program) (ts : List Throughout) (is : List Interval) → Ascend is → Ascend (map (whole k) ts ++ is)
whole-ascend k [] is h = h
whole-ascend k (t ∷ ts) is h = (omega arith, whole-ascend k ts is h)

counted-numbered : (k : Program) (class : RegClass) → (b : ℕ) × Numbered b (counted k class)
counted-numbered k X = (0, (all-listed k).numbered)
counted-numbered k Z = (loop_start k, (loop-listed k).numbered)
counted-numbered k P = (loop_start k, (loop-listed k).numbered)

pub intervals-ascend : (k : Program) (class : RegClass) → Ascend (intervals k class)
intervals-ascend k class = let n = counted-numbered k class in whole-ascend k (throughout k class) (values k class) (values-ascend class (entries_of k) (counted k class) 0 n.0 n.1 (omega arith))

-- ---- ends

last_use-grows : (all : List Entry) (e : Entry) → e.last_use ≤ last_use_at all e
last_use-grows all e = by e.content
  where
    by : (c : Content) → e.last_use ≤ last_of all c e.last_use
    by (IsLet x) = last_from x e.last_use all
    by _ = omega arith

values-forward : (class : RegClass) (all es : List Entry) → AreUsed es → AreForward (spans_of class all es)
values-forward class all [] h = tt
values-forward class all (e ∷ es) h = by (has_value class (kind_of e.content)) (values-forward class all es h.1)
  where
    by : (b : Bool) → AreForward (spans_of class all es) → AreForward (cons_option (span e.item (held b (last_use_at all e))) (spans_of class all es))
    by true g = (let a = last_use-grows all e in let f = h.0 in omega (arith, a, f), g)
    by false g = g

whole-forward : (k : Program) (ts : List Throughout) (is : List Interval) → AreForward is → AreForward (map (whole k) ts ++ is)
whole-forward k [] is h = h
whole-forward k (t ∷ ts) is h = (omega arith, whole-forward k ts is h)

counted-used : (k : Program) (class : RegClass) → AreUsed (counted k class)
counted-used k X = (all-listed k).used
counted-used k Z = (loop-listed k).used
counted-used k P = (loop-listed k).used

pub intervals-forward : (k : Program) (class : RegClass) → AreForward (intervals k class)
intervals-forward k class = whole-forward k (throughout k class) (values k class) (values-forward class (entries_of k) (counted k class) (counted-used k class))

-- ---- intervals over all items

pub whole-replicate : (k : Program) (ts : List Throughout) → map (whole k) ts ≡ replicate (length ts) (record { from = 0; last_use = size_of k })
whole-replicate k [] = refl
whole-replicate k (t ∷ ts) = ap (λ l. whole k t ∷ l) (whole-replicate k ts)

-- ---- how many

values-few : (class : RegClass) (all es : List Entry) → length (spans_of class all es) ≤ length es
values-few class all [] = omega arith
values-few class all (e ∷ es) = by (last_use_in class all e) (values-few class all es)
  where
    by : (o : Option ℕ) → length (spans_of class all es) ≤ length es → length (cons_option (span e.item o) (spans_of class all es)) ≤ length (e ∷ es)
    by None h = omega arith
    by (Some u) h = omega arith

pub filter-few : {A : Type 0} (p : A → Bool) (xs : List A) → length (filter p xs) ≤ length xs
filter-few p xs = let a = length-filter p xs in let b = count_by-le-length p xs in omega (arith, a, b)

pub constant-few : (before : List Entry) (e : Entry) (c : Content) → length (new_constant before e.type c) ≤ 1
constant-few before e (IsLiteral n) = by (list_any (is_constant e.type n) before)
  where
    by : (b : Bool) → length (cond b [] (Constant e.type n ∷ [])) ≤ 1
    by true = omega arith
    by false = omega arith
constant-few before e (IsName x) = omega arith
constant-few before e other = omega arith

pub constants-few : (before es : List Entry) → length (constants before es) ≤ length es
unfolding constants
constants-few before [] = omega arith
constants-few before (e ∷ es) = let a = length-append (new_constant before e.type e.content) (constants (before ++ e ∷ []) es) in let b = constant-few before e e.content in let c = constants-few (before ++ e ∷ []) es in omega (arith, a, b, c)

pub index-few : (es : List Entry) (o : Option (List ℕ)) → length (index_held es o) ≤ 1
index-few es None = omega arith
index-few es (Some i) = by (list_any (names i) es)
  where
    by : (b : Bool) → length (cond b (Index ∷ []) []) ≤ 1
    by true = omega arith
    by false = omega arith

pub counted-few : (k : Program) (class : RegClass) → length (counted k class) ≤ size_of k
counted-few k X = let a = (all-listed k).count in omega (arith, a)
counted-few k Z = let a = (loop-listed k).count in omega (arith, a)
counted-few k P = let a = (loop-listed k).count in omega (arith, a)

pub throughout-few : (k : Program) (class : RegClass) → length (throughout k class) ≤ length k.params + length k.vars + size_of k + 1
throughout-few k X = let a = length-map k.vars accumulating_of in omega (arith, a)
throughout-few k P = omega arith
throughout-few k Z =
    let es : List Entry = loop_entries k in
    let a = length-map (filter (is_named_scalar es) k.params) scalar_of in
    let b = filter-few (is_named_scalar es) k.params in
    let c = constants-few [] es in
    let d = index-few es (loop_index k) in
    let e = length-map (filter (is_updated es) k.vars) accumulating_of in
    let f = filter-few (is_updated es) k.vars in
    let g = counted-few k Z in
    let h = length-append (scalars es k.params) (constants [] es ++ (index_held es (loop_index k) ++ map accumulating_of (filter (is_updated es) k.vars))) in
    let i = length-append (constants [] es) (index_held es (loop_index k) ++ map accumulating_of (filter (is_updated es) k.vars)) in
    let j = length-append (index_held es (loop_index k)) (map accumulating_of (filter (is_updated es) k.vars)) in
    omega (arith, a, b, c, d, e, f, g, h, i, j)

pub intervals-few : (k : Program) (class : RegClass) → length (intervals k class) ≤ length k.params + length k.vars + 2 * size_of k + 1
intervals-few k class =
    let a = throughout-few k class in
    let b = counted-few k class in
    let c = values-few class (entries_of k) (counted k class) in
    let d = length-append (map (whole k) (throughout k class)) (values k class) in
    let e = length-map (throughout k class) (whole k) in
    omega (arith, a, b, c, d, e)

-- ---- the need is the greatest overlap

whole-overlap : (k : Program) (ts : List Throughout) (p : ℕ) → p < size_of k → overlap (map (whole k) ts) p ≡ length ts
whole-overlap k [] p h = refl
whole-overlap k (t ∷ ts) p h =
    let a = overlap-cons (whole k t) (map (whole k) ts) p in
    let b = ap one (live p (whole k t) (omega arith) h) in
    let c = whole-overlap k ts p h in
    omega (arith, a, b, c)

whole-most : (k : Program) (ts : List Throughout) (p : ℕ) → overlap (map (whole k) ts) p ≤ length ts
whole-most k ts p = let a = count_by-le-length (is_live p) (map (whole k) ts) in let b = length-map ts (whole k) in omega (arith, a, b)

max-mono : (a b c : ℕ) → a ≤ b → max a c ≤ max b c
max-mono a b c h = let l = le-max_left b c in max-le (omega (arith, l)) (le-max_right b c)

values-most : (class : RegClass) (all es : List Entry) (vs : List Interval) (a m : ℕ) → a ≤ m → fold (greater_overlap vs) a (spans_of class all es) ≤ most_live vs m es
unfolding most_live
values-most class all [] vs a m h = h
values-most class all (e ∷ es) vs a m h =
    by (last_use_in class all e)
    (values-most class all es vs a (max m (overlap vs e.item)) (let l = le-max_left m (overlap vs e.item) in omega (arith, l)))
    (values-most class all es vs (max a (overlap vs e.item)) (max m (overlap vs e.item)) (max-mono a m (overlap vs e.item) h))
  where
    by : (o : Option ℕ) → fold (greater_overlap vs) a (spans_of class all es) ≤ most_live vs (max m (overlap vs e.item)) es → fold (greater_overlap vs) (max a (overlap vs e.item)) (spans_of class all es) ≤ most_live vs (max m (overlap vs e.item)) es
        → fold (greater_overlap vs) a (cons_option (span e.item o) (spans_of class all es)) ≤ most_live vs (max m (overlap vs e.item)) es
    by None f g = f
    by (Some u) f g = g

need-enough : (k : Program) (class : RegClass) → need_of (intervals k class) ≤ need k class
need-enough k class = need-most (intervals k class) (need k class) (λ p.
    let a = overlap-append (map (whole k) (throughout k class)) (values k class) p in
    let b = whole-most k (throughout k class) p in
    let c = overlap-need (values k class) p in
    let d = values-most class (entries_of k) (counted k class) (values k class) 0 0 (omega arith) in
    omega (arith, a, b, c, d))

most-below : (vs : List Interval) (base n size : ℕ) → ((p : ℕ) → p < size → base + overlap vs p ≤ n) → (b m : ℕ) (es : List Entry) → Numbered b es → b + length es ≤ size → base + m ≤ n → base + most_live vs m es ≤ n
unfolding most_live
most-below vs base n size f b m [] num le h = h
most-below vs base n size f b m (e ∷ es) num le h = most-below vs base n size f (suc b) (max m (overlap vs e.item)) es num.1 (omega arith) (more m (overlap vs e.item) h (let q = num.0 in f e.item (omega (arith, q))))
  where
    more : (x y : ℕ) → base + x ≤ n → base + y ≤ n → base + max x y ≤ n
    more x y a b = let c : x ≤ n - base = omega arith in let d : y ≤ n - base = omega arith in let e = max-le c d in omega (arith, e)

constants-none : constants [] [] ≡ []
unfolding constants
constants-none = refl

-- where there are no items, nothing is held
nothing-held : (k : Program) (class : RegClass) → size_of k ≡ 0 → length (throughout k class) ≡ 0
nothing-held k X e = let a = length-map k.vars accumulating_of in let b = vars-small (loop_index k) k.vars in omega (arith, a, b, e)
nothing-held k P e = refl
nothing-held k Z e = let n = throughout-none (loop_entries k) (let a = (loop-listed k).count in omega (arith, a, e)) in n
  where
    filter-none : {A : Type 0} (p : A → Bool) (xs : List A) → ((x : A) → p x ≡ false) → filter p xs ≡ []
    filter-none p [] h = refl
    filter-none p (x ∷ xs) h = rw (h x) (filter-none p xs h)

    index-none : (o : Option (List ℕ)) → index_held [] o ≡ []
    index-none None = refl
    index-none (Some i) = refl

    throughout-none : (es : List Entry) → length es ≡ 0 → length (scalars es k.params ++ (constants [] es ++ (index_held es (loop_index k) ++ map accumulating_of (filter (is_updated es) k.vars)))) ≡ 0
    throughout-none [] h =
        let a = ap (map scalar_of) (filter-none (is_named_scalar []) k.params (λ p. and-false (is_scalar p.shape))) in
        let b = ap (map accumulating_of) (filter-none (is_updated []) k.vars (λ v. refl)) in
        rw (a, constants-none, index-none (loop_index k), b) refl
    throughout-none (x ∷ es) h = absurd (omega arith)

counted-within : (k : Program) (class : RegClass) → (b : ℕ) × (Numbered b (counted k class) × (b + length (counted k class) ≤ size_of k))
counted-within k X = (0, ((all-listed k).numbered, let a = (all-listed k).count in omega (arith, a)))
counted-within k Z = (loop_start k, ((loop-listed k).numbered, let a = (loop-listed k).count in omega (arith, a)))
counted-within k P = (loop_start k, ((loop-listed k).numbered, let a = (loop-listed k).count in omega (arith, a)))

need-reached : (k : Program) (class : RegClass) → need k class ≤ need_of (intervals k class)
need-reached k class =
    let w = counted-within k class in
    most-below (values k class) (length (throughout k class)) (need_of (intervals k class)) (size_of k) at w.0 0 (counted k class) w.1.0 w.1.1 (by (size_of k) refl)
  where
    at : (p : ℕ) → p < size_of k → length (throughout k class) + overlap (values k class) p ≤ need_of (intervals k class)
    at p lt =
        let a = overlap-append (map (whole k) (throughout k class)) (values k class) p in
        let b = whole-overlap k (throughout k class) p lt in
        let c = overlap-need (intervals k class) p in
        omega (arith, a, b, c)

    by : (n : ℕ) → size_of k ≡ n → length (throughout k class) + 0 ≤ need_of (intervals k class)
    by zero e = let h = nothing-held k class e in omega (arith, h)
    by (suc n) e = let h = at 0 (omega (arith, e)) in omega (arith, h)

-- how many registers of a class are needed is the greatest number of its intervals that share a point
pub need-overlap : (k : Program) (class : RegClass) → need_of (intervals k class) ≡ need k class
need-overlap k class = let a = need-enough k class in let b = need-reached k class in omega (arith, a, b)
