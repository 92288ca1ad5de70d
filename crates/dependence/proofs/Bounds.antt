-- The test of Apart, and the order of the bounds.
use Rattle.std.proofs.Common.{◌≡◌, ℕ, ◌+◌, ◌*◌, ◌/◌, ◌^◌, ◌<◌, ◌≤◌, Bool, true, false, List, [], ◌∷◌, length, refl, ap, arith, ⊎_elim, inl, inr}
use Rattle.std.proofs.lemmas.Bool.{leb-true, le-leb}
use Rattle.std.proofs.lemmas.Bool.Decides.{Decides-and, Decides-or, Decides-ltb, Decides-like}
use Rattle.std.proofs.lemmas.Int.{ints, by_lt_z}
use Rattle.std.proofs.Math.Nat.{mul-le-mul_left, mul-le-mul_right}
use Rattle.std.specs.Bool.{Decides}
use Rattle.std.specs.Int.{div_ceil}
use Rattle.std.specs.Prelude.{ℤ, ◌≤ℤ◌, ◌⊎◌, not, ◌&&◌, ◌||◌, nat_le, nat_lt, int_le, slice_index, if◌then◌else◌}
use Rattle.std.specs.List.{list_any, list_all}
use Rattle.guest_types.specs.declared.length.Width.{Width}
use Rattle.guest_types.specs.declared.length.Width.TheVariants.{B}
use Rattle.guest_types.specs.Length.{IsLength, lanes}
use Rattle.kernel_tree.specs.Plain.{Program}
use Rattle.kernel_tree.specs.Items.{size_of}
use Rattle.loop_form.specs.Lanes.{lane_width_of}
use Rattle.dependence.specs.declared.used.Used.{Used}
use Rattle.dependence.specs.Apart.{AreDisjoint, AreBased, PairApart, IsApartFrom, AreApart, ApartInRange, ApartBy, Apart, is_stored, used_of, bound_place, base_in, begin_in, end_in}
use Rattle.dependence.specs.Bound.{is_disjoint, is_based, is_pair_apart, are_apart, is_apart_by, is_apart, runs_in_chunks, at_once, steps_for, bound, slow_bound, free_bound}

decides_le : (a b : ℕ) → Decides (nat_le a b) (a ≤ b)
decides_le a b = (leb-true a b, le-leb a b)

decides_int_le : (a b : ℤ) → Decides (int_le a b) (a ≤ℤ b)
decides_int_le a b = ((λ t. grind (arith, ints)), (λ h. grind (arith, ints)))

disjoint_if : (b e c f : ℤ) → ((e ≤ℤ b) ⊎ ((f ≤ℤ c) ⊎ ((e ≤ℤ c) ⊎ (f ≤ℤ b)))) → AreDisjoint b e c f
disjoint_if b e c f h a p q r s =
    ⊎_elim (λ (h : e ≤ℤ b). absurd (omega (arith, ints)))
    (⊎_elim (λ (h : f ≤ℤ c). absurd (omega (arith, ints)))
    (⊎_elim (λ (h : e ≤ℤ c). absurd (omega (arith, ints))) (λ (h : f ≤ℤ b). absurd (omega (arith, ints))))) h

disjoint_only : (b e c f : ℤ) → AreDisjoint b e c f → (e ≤ℤ b) ⊎ ((f ≤ℤ c) ⊎ ((e ≤ℤ c) ⊎ (f ≤ℤ b)))
disjoint_only b e c f d =
    by_lt_z b e (λ p. by_lt_z c f (λ q. by_lt_z c e (λ r. by_lt_z b f
    (λ s. by_lt_z b c
    (λ h. absurd (d c (omega (arith, ints)) r (omega (arith, ints)) q))
    (λ h. absurd (d b (omega (arith, ints)) p (omega (arith, ints)) s)))
    (λ h. inr (inr (inr h)))) (λ h. inr (inr (inl h)))) (λ h. inr (inl h))) (λ h. inl h)

decides_disjoint : (b e c f : ℤ) → Decides (is_disjoint b e c f) (AreDisjoint b e c f)
decides_disjoint b e c f = Decides-like (is_disjoint b e c f) (disjoint_if b e c f) (disjoint_only b e c f)
    (Decides-or (int_le e b) (int_le f c || (int_le e c || int_le f b)) (decides_int_le e b)
    (Decides-or (int_le f c) (int_le e c || int_le f b) (decides_int_le f c)
    (Decides-or (int_le e c) (int_le f b) (decides_int_le e c) (decides_int_le f b))))

decides_implied : (t x : Bool) (P : Type 0) → Decides x P → Decides (not t || x) (t ≡ true → P)
decides_implied true x P d = ((λ e h. d.0 e), (λ f. d.1 (f refl)))
decides_implied false x P d = ((λ e h. absurd cc), (λ f. refl))

decides_pair : (args : List ℕ) (n : ℕ) (u v : Used) → Decides (is_pair_apart args n u v) (PairApart args n u v)
decides_pair args n u v = decides_implied (u.stored || v.stored) _ _ (decides_disjoint (begin_in args u) (end_in args n u) (begin_in args v) (end_in args n v))

decides_from : (args : List ℕ) (n : ℕ) (u : Used) (vs : List Used) → Decides (list_all (is_pair_apart args n u) vs) (IsApartFrom args n u vs)
decides_from args n u [] = ((λ e. tt), (λ h. refl))
decides_from args n u (v ∷ vs) = Decides-and (is_pair_apart args n u v) (list_all (is_pair_apart args n u) vs) (decides_pair args n u v) (decides_from args n u vs)

decides_apart : (args : List ℕ) (n : ℕ) (us : List Used) → Decides (are_apart args n us) (AreApart args n us)
decides_apart args n [] = ((λ e. tt), (λ h. refl))
decides_apart args n (u ∷ us) = Decides-and (list_all (is_pair_apart args n u) us) (are_apart args n us) (decides_from args n u us) (decides_apart args n us)

decides_based : (args : List ℕ) (us : List Used) → Decides (list_all (is_based args) us) (AreBased args us)
decides_based args [] = ((λ e. tt), (λ h. refl))
decides_based args (u ∷ us) = Decides-and (is_based args u) (list_all (is_based args) us) (Decides-and _ _ (decides_le (2 ^ 16) (base_in args u)) (Decides-ltb (base_in args u) (2 ^ 48))) (decides_based args us)

decides_stores : (t : Bool) → Decides (not t) (t ≡ false)
decides_stores true = ((λ e. absurd cc), (λ h. absurd cc))
decides_stores false = ((λ e. refl), (λ h. refl))

decides_by : (args : List ℕ) (n : ℕ) (us : List Used) → Decides (is_apart_by args n us) (ApartBy args n us)
decides_by args n us =
    let nested : Decides (nat_lt n (2 ^ 40) && (list_all (is_based args) us && are_apart args n us)) ((n < 2 ^ 40) × (AreBased args us × AreApart args n us)) = Decides-and _ _ (Decides-ltb n (2 ^ 40)) (Decides-and _ _ (decides_based args us) (decides_apart args n us)) in
    let flat : Decides (nat_lt n (2 ^ 40) && (list_all (is_based args) us && are_apart args n us)) (ApartInRange args n us) = Decides-like _ (λ h. (h.0, h.1.0, h.1.1)) (λ h. (h.0, (h.1, h.2))) nested in
    Decides-or _ _ (decides_stores (list_any is_stored us)) (Decides-or _ _ (decides_le (length us) 1) flat)

pub tested : (k : Program) (args : List ℕ) → Decides (is_apart k args) (Apart k args)
tested k args = decides_by args (slice_index args (bound_place k)) (used_of k)

-- ---- bounds

lanes_some : (vl : ℕ) (w : Width) → 128 ≤ vl → 1 ≤ lanes vl w
lanes_some vl B h = omega arith
lanes_some vl other h = omega arith

some_at_once : (k : Program) (args : List ℕ) (vl : ℕ) → 128 ≤ vl → 1 ≤ at_once k args vl
some_at_once k args vl h = elim (runs_in_chunks k args) as (λ c. 1 ≤ (if c then lanes vl (lane_width_of k) else 1)) [ true ↦ lanes_some vl (lane_width_of k) h | false ↦ omega arith ]

-- rounded up, a quotient is no more than the number
up_within : (n d : ℕ) → 1 ≤ d → div_ceil n d ≤ n
up_within n d h = omega (arith, mul-le-mul_right (n / d) h)

more_rounds : (k : Program) (c d : ℕ) → c ≤ d → steps_for k c ≤ steps_for k d
more_rounds k c d h = omega (arith, mul-le-mul_left (32 + 8 * size_of k) h)

pub slow : (k : Program) (args : List ℕ) (vl m : ℕ) → IsLength vl → bound k args vl m ≤ slow_bound k m
slow k args vl m h = more_rounds k (div_ceil m (at_once k args vl) + 2) (m + 2) (omega (arith, up_within m (at_once k args vl) (some_at_once k args vl h.1)))

pub free : (k : Program) (args : List ℕ) (vl m q : ℕ) → bound k args vl m ≤ free_bound k args vl m q
free k args vl m q = more_rounds k (div_ceil m (at_once k args vl) + 2) (div_ceil m (at_once k args vl) + 2 + 4 * q) (omega arith)

pub free_bound_of_none : (k : Program) (args : List ℕ) (vl m : ℕ) → free_bound k args vl m 0 ≡ bound k args vl m
free_bound_of_none k args vl m = ap (steps_for k) (let e : div_ceil m (at_once k args vl) + 2 + 4 * 0 ≡ div_ceil m (at_once k args vl) + 2 = omega arith in e)
