-- The places of intervals: what is held throughout comes first, and the place of an item is that of its interval.
use Rattle.std.proofs.Common.{◌≡◌, ℕ, zero, suc, ◌+◌, ◌<◌, List, [], ◌∷◌, ◌++◌, length, map, Option, Some, None, refl, ap, ◌∙◌, arith}
use Rattle.std.specs.Prelude.{slice_get}
use Rattle.std.specs.List.{cons_option}
use Rattle.std.proofs.lemmas.List.{length-map}
use Rattle.kernel_tree.specs.Plain.{Program}
use Rattle.kernel_tree.specs.Items.{size_of}
use Rattle.reg_assign.specs.declared.interval.Interval.{Interval}
use Rattle.reg_assign.specs.declared.interval.RegClass.{RegClass}
use Rattle.reg_assign.specs.declared.interval.RegClass.TheVariants.{Z, P, X}
use Rattle.loop_form.specs.Entries.{Entry, entries_of}
use Rattle.loop_form.specs.Listing.{last_use_in}
use Rattle.loop_form.specs.Needs.{Throughout, throughout, whole, span, spans_of, counted, values, intervals}
use Rattle.loop_form.specs.Numbers.{Numbered}
use Rattle.loop_form.specs.Places.{place_of, places_from, value_places, first_counted, IsValueOf}
use Rattle.loop_form.proofs.Numbers.{loop-listed, all-listed, item-at}

-- item n of some makes a value, and its interval has place m, where the first one has place j
record Placed (class : RegClass) (all es : List Entry) (j n m : ℕ) : Type 0 where
  i : ℕ
  entry : Entry
  last_use : ℕ
  is : slice_get es n ≡ Some entry
  made : last_use_in class all entry ≡ Some last_use
  at : m ≡ j + i
  interval : slice_get (spans_of class all es) i ≡ Some (record { from = entry.item; last_use = last_use })

placed_of_places_from : (class : RegClass) (all es : List Entry) (j n m : ℕ) → slice_get (places_from class all j es) n ≡ Some (Some m) → Placed class all es j n m
placed_of_places_from class all [] j n m e = absurd cc
placed_of_places_from class all (x ∷ es) j n m e = by (last_use_in class all x) refl n e (λ i k q. placed_of_places_from class all es i k m q)
  where
    by : (o : Option ℕ) → last_use_in class all x ≡ o → (n : ℕ) → slice_get (place_of j o (λ i. places_from class all i es)) n ≡ Some (Some m) → ((i k : ℕ) → slice_get (places_from class all i es) k ≡ Some (Some m) → Placed class all es i k m) → Placed class all (x ∷ es) j n m
    by None q zero e more = absurd cc
    by None q (suc k) e more =
        let p = more j k e in
        record { i = p.i; entry = p.entry; last_use = p.last_use; is = p.is; made = p.made; at = p.at; interval = ap (λ o. slice_get (cons_option (span x.item o) (spans_of class all es)) p.i) q ∙ p.interval }
    by (Some u) q zero e more =
        let same : j ≡ m = cc in
        record { i = 0; entry = x; last_use = u; is = refl; made = q; at = (let f : m ≡ j + 0 = omega arith in f); interval = ap (λ o. slice_get (cons_option (span x.item o) (spans_of class all es)) 0) q }
    by (Some u) q (suc k) e more =
        let p = more (j + 1) k e in
        record { i = suc p.i; entry = p.entry; last_use = p.last_use; is = p.is; made = p.made; at = (let a = p.at in omega (arith, a)); interval = ap (λ o. slice_get (cons_option (span x.item o) (spans_of class all es)) (suc p.i)) q ∙ p.interval }

get-append : {A : Type 0} (xs ys : List A) (m : ℕ) → slice_get (xs ++ ys) (length xs + m) ≡ slice_get ys m
get-append [] ys m = ap (slice_get ys) (let e : 0 + m ≡ m = omega arith in e)
get-append (x ∷ xs) ys m = ap (slice_get (x ∷ (xs ++ ys))) (let e : length (x ∷ xs) + m ≡ suc (length xs + m) = omega arith in e) ∙ get-append xs ys m

get-whole : (k : Program) (ts : List Throughout) (is : List Interval) (v : ℕ) → v < length ts → slice_get (map (whole k) ts ++ is) v ≡ Some (record { from = 0; last_use = size_of k })
get-whole k [] is v h = absurd (omega arith)
get-whole k (t ∷ ts) is zero h = refl
get-whole k (t ∷ ts) is (suc v) h = get-whole k ts is v (omega arith)

-- what is held throughout comes first, over all items
pub throughout-place : (k : Program) (class : RegClass) (v : ℕ) → v < length (throughout k class) → slice_get (intervals k class) v ≡ Some (record { from = 0; last_use = size_of k })
throughout-place k class v h = get-whole k (throughout k class) (values k class) v h

-- the values come after what is held throughout
pub interval-following : (k : Program) (class : RegClass) (i : ℕ) → slice_get (intervals k class) (length (throughout k class) + i) ≡ slice_get (values k class) i
interval-following k class i = ap (slice_get (intervals k class)) (let a = length-map (throughout k class) (whole k) in let e : length (throughout k class) + i ≡ length (map (whole k) (throughout k class)) + i = omega (arith, a) in e) ∙ get-append (map (whole k) (throughout k class)) (values k class) i

counted-numbers : (k : Program) (class : RegClass) → Numbered (first_counted k class) (counted k class)
counted-numbers k X = (all-listed k).numbered
counted-numbers k Z = (loop-listed k).numbered
counted-numbers k P = (loop-listed k).numbered

pub place-value : (k : Program) (class : RegClass) (n m : ℕ) → slice_get (value_places k class) n ≡ Some (Some m) → IsValueOf (first_counted k class + n) (slice_get (intervals k class) m)
place-value k class n m e =
    let p = placed_of_places_from class (entries_of k) (counted k class) (length (throughout k class)) n m e in
    let number = item-at (first_counted k class) n (counted k class) p.entry (counted-numbers k class) p.is in
    (p.last_use, ap (slice_get (intervals k class)) p.at ∙ interval-following k class p.i ∙ p.interval ∙ ap (λ q. Some (record { from = q; last_use = p.last_use })) number)

places-length : (class : RegClass) (all es : List Entry) (j : ℕ) → length (places_from class all j es) ≡ length es
places-length class all [] j = refl
places-length class all (e ∷ es) j = by (last_use_in class all e) (λ i. places-length class all es i)
  where
    by : (o : Option ℕ) → ((i : ℕ) → length (places_from class all i es) ≡ length es) → length (place_of j o (λ i. places_from class all i es)) ≡ length (e ∷ es)
    by None more = let a = more j in omega (arith, a)
    by (Some u) more = let a = more (j + 1) in omega (arith, a)

pub value-places-length : (k : Program) (class : RegClass) → length (value_places k class) ≡ length (counted k class)
value-places-length k class = places-length class (entries_of k) (counted k class) (length (throughout k class))
