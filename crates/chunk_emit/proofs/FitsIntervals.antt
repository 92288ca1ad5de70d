-- An item of a loop whose value is used has a place, and the interval there begins at the item.
use Rattle.std.proofs.Common.{◌≡◌, ℕ, zero, suc, ◌+◌, ◌-◌, ◌<◌, ◌≤◌, List, [], ◌∷◌, length, map, Option, Some, None, refl, sym, ap, ◌∙◌, arith, ⊎_elim}
use Rattle.std.specs.Prelude.{slice_get, slice_index, unwrap_or}
use Rattle.std.specs.List.{cons_option}
use Rattle.std.proofs.lemmas.Bool.{cases_lt}
use Rattle.std.proofs.lemmas.List.{get_or_past, length-map}
use Rattle.kernel_tree.specs.Plain.{PlainLoop, Program}
use Rattle.kernel_tree.specs.Items.{size_of, loop_start}
use Rattle.reg_assign.specs.declared.interval.Interval.{Interval}
use Rattle.reg_assign.specs.declared.interval.RegClass.{RegClass}
use Rattle.reg_assign.specs.declared.interval.RegClass.TheVariants.{Z, P, X}
use Rattle.loop_form.specs.Entries.{Entry, entries_of, for_loop_entries, loop_entries}
use Rattle.loop_form.specs.Listing.{last_use_in}
use Rattle.loop_form.specs.Needs.{throughout, span, spans_of, counted, intervals}
use Rattle.loop_form.specs.Numbers.{Numbered}
use Rattle.loop_form.specs.Places.{place_of, places_from, value_places, first_counted, IsValueOf}
use Rattle.loop_form.proofs.Numbers.{loop-listed}
use Rattle.loop_form.proofs.PlaceLaws.{interval-following, place-value}
use Rattle.chunk_emit.specs.KernelLayout.{flat, item_place, last_in, item_last_use}

-- ---- items

-- where an item's value stands among the places of items, and among the intervals
record Placed (class : RegClass) (all es : List Entry) (j b n last_use : ℕ) : Type 0 where
  i : ℕ
  place : slice_get (places_from class all j es) n ≡ Some (Some (j + i))
  interval : slice_get (spans_of class all es) i ≡ Some (record { from = b + n; last_use = last_use })

placed_entry_interval : (class : RegClass) (all es : List Entry) (j b n u : ℕ) → Numbered b es → slice_index (map (last_in class all) es) n ≡ suc u → Placed class all es j b n (suc u)
placed_entry_interval class all [] j b n u h e = absurd cc
placed_entry_interval class all (x ∷ es) j b n u h e = by (last_use_in class all x) refl n e (λ i m q. placed_entry_interval class all es i (suc b) m u h.1 q)
  where
    by : (o : Option ℕ) → last_use_in class all x ≡ o → (n : ℕ) → slice_index (unwrap_or o 0 ∷ map (last_in class all) es) n ≡ suc u → ((i m : ℕ) → slice_index (map (last_in class all) es) m ≡ suc u → Placed class all es i (suc b) m (suc u)) → Placed class all (x ∷ es) j b n (suc u)
    by None q zero e more = absurd cc
    by None q (suc m) e more =
        let p = more j m e in
        let number : suc b + m ≡ b + suc m = omega arith in
        record {
          i = p.i;
          place = ap (λ o. slice_get (place_of j o (λ i. places_from class all i es)) (suc m)) q ∙ p.place;
          interval = ap (λ o. slice_get (cons_option (span x.item o) (spans_of class all es)) p.i) q ∙ p.interval ∙ ap (λ r. Some (record { from = r; last_use = suc u })) number;
        }
    by (Some v) q zero e more =
        let here : j ≡ j + 0 = omega arith in
        let number : x.item ≡ b + 0 = (let f = h.0 in omega (arith, f)) in
        let same : v ≡ suc u = e in
        record {
          i = 0;
          place = ap (λ o. slice_get (place_of j o (λ i. places_from class all i es)) 0) q ∙ ap (λ r. Some (Some r)) here;
          interval = ap (λ o. slice_get (cons_option (span x.item o) (spans_of class all es)) 0) q ∙ ap (λ r. Some (record { from = r; last_use = v })) number ∙ ap (λ r. Some (record { from = b + 0; last_use = r })) same;
        }
    by (Some v) q (suc m) e more =
        let p = more (j + 1) m e in
        let number : suc b + m ≡ b + suc m = omega arith in
        let later : j + 1 + p.i ≡ j + suc p.i = omega arith in
        record {
          i = suc p.i;
          place = ap (λ o. slice_get (place_of j o (λ i. places_from class all i es)) (suc m)) q ∙ p.place ∙ ap (λ r. Some (Some r)) later;
          interval = ap (λ o. slice_get (cons_option (span x.item o) (spans_of class all es)) (suc p.i)) q ∙ p.interval ∙ ap (λ r. Some (record { from = r; last_use = suc u })) number;
        }

-- the classes of vector registers
pub data OfVectors : RegClass → Type 0 where
  of_z : OfVectors Z
  of_p : OfVectors P

-- an item with a value that is used: its place, the interval there, and where it stands
pub record IsPlaced (k : Program) (class : RegClass) (q : ℕ) : Type 0 where
  pub m : ℕ
  pub place : item_place k class q ≡ Some m
  pub interval : slice_get (intervals k class) m ≡ Some (record { from = q; last_use = item_last_use k class q })
  pub following : length (throughout k class) ≤ m
  pub within : q < size_of k

-- the number 0 is that of `for`, which makes nothing
pub first_nothing : (k : Program) (class : RegClass) → OfVectors class → slice_index (map (last_in class (entries_of k)) (loop_entries k)) 0 ≡ 0
first_nothing k Z of_z = by k.for_loop
  where
    by : (o : Option PlainLoop) → slice_index (map (last_in Z (entries_of k)) (for_loop_entries k (loop_start k) o)) 0 ≡ 0
    by None = refl
    by (Some l) = refl
first_nothing k X c = elim c [ ]
first_nothing k P of_p = by k.for_loop
  where
    by : (o : Option PlainLoop) → slice_index (map (last_in P (entries_of k)) (for_loop_entries k (loop_start k) o)) 0 ≡ 0
    by None = refl
    by (Some l) = refl

after_first : (k : Program) (class : RegClass) → OfVectors class → (q u : ℕ) → item_last_use k class q ≡ suc u → loop_start k ≤ q
after_first k class c q u e =
    ⊎_elim
    (λ (lt : q < loop_start k).
    let first : q - loop_start k ≡ 0 = omega (arith, lt) in
    let none : item_last_use k class q ≡ 0 = ap (slice_index (map (last_in class (entries_of k)) (loop_entries k))) first ∙ first_nothing k class c in
    absurd (omega (arith, none, e)))
    (λ (ge : loop_start k ≤ q). ge)
    (cases_lt q (loop_start k))

placed_in : (k : Program) (class : RegClass) → OfVectors class → (q u : ℕ) → item_last_use k class q ≡ suc u → Placed class (entries_of k) (loop_entries k) (length (throughout k class)) (loop_start k) (q - loop_start k) (suc u) → counted k class ≡ loop_entries k → IsPlaced k class q
placed_in k class c q u e p f =
    let start = after_first k class c q u e in
    let number : loop_start k + (q - loop_start k) ≡ q = omega (arith, start) in
    let count = (loop-listed k).count in
    let len = length-map (loop_entries k) (last_in class (entries_of k)) in
    record {
      m = length (throughout k class) + p.i;
      place = ap (λ es. flat (slice_get (places_from class (entries_of k) (length (throughout k class)) es) (q - loop_start k))) f ∙ ap flat p.place;
      interval = interval-following k class p.i ∙ ap (λ es. slice_get (spans_of class (entries_of k) es) p.i) f ∙ p.interval ∙ ap (λ r. Some (record { from = r; last_use = suc u })) number ∙ ap (λ r. Some (record { from = q; last_use = r })) (sym e);
      following = omega arith;
      within = ⊎_elim
          (λ (lt : q < size_of k). lt)
          (λ (ge : size_of k ≤ q).
          let past : item_last_use k class q ≡ 0 = get_or_past (map (last_in class (entries_of k)) (loop_entries k)) (q - loop_start k) 0 (omega (arith, count, len, ge, start)) in
          absurd (omega (arith, past, e)))
          (cases_lt q (size_of k));
    }

pub is_placed : (k : Program) (class : RegClass) → OfVectors class → (q x : ℕ) → x < item_last_use k class q → IsPlaced k class q
is_placed k class c q x lt = by (item_last_use k class q) refl (omega (arith, lt))
  where
    by_class : (class : RegClass) → OfVectors class → counted k class ≡ loop_entries k
    by_class Z of_z = refl
    by_class P of_p = refl
    by_class X c = elim c [ ]

    by : (n : ℕ) → item_last_use k class q ≡ n → 0 < n → IsPlaced k class q
    by zero e h = absurd (omega (arith, h))
    by (suc u) e h = placed_in k class c q u e (placed_entry_interval class (entries_of k) (loop_entries k) (length (throughout k class)) (loop_start k) (q - loop_start k) u (loop-listed k).numbered e) (by_class class c)

-- an item with a place has an interval there
pub placed_interval : (k : Program) (class : RegClass) (q m : ℕ) → item_place k class q ≡ Some m → (s : Interval) × (slice_get (intervals k class) m ≡ Some s)
placed_interval k class q m e = by (slice_get (value_places k class) (q - loop_start k)) refl e
  where
    by : (o : Option (Option ℕ)) → slice_get (value_places k class) (q - loop_start k) ≡ o → flat o ≡ Some m → (s : Interval) × (slice_get (intervals k class) m ≡ Some s)
    by None g e = absurd cc
    by (Some o) g e = let v : IsValueOf (first_counted k class + (q - loop_start k)) (slice_get (intervals k class) m) = place-value k class (q - loop_start k) m (g ∙ ap Some e) in (record { from = first_counted k class + (q - loop_start k); last_use = v.0 }, v.1)
