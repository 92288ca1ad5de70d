-- Whether the elements that a loop stores lie apart from those that it comes to by other parameters.
use Rattle.std.specs.Prelude.{◌≡◌, ℕ, ◌+◌, ◌^◌, ◌<◌, ◌≤◌, ℤ, pos, ◌+ℤ◌, ◌*ℤ◌, ◌≤ℤ◌, ◌<ℤ◌, ◌⊎◌, List, [], ◌∷◌, ◌++◌, length, Option, Some, None, unwrap_or, option_and_then, Bool, true, false, ◌||◌, slice_index, filter, max, nat_eq}
use Rattle.std.specs.Int.{int_min, int_max}
use Rattle.std.specs.List.{list_any}
use Rattle.guest_types.specs.declared.length.Width.{Width}
use Rattle.guest_types.specs.Length.{width_bytes}
use Rattle.kernel_tree.specs.declared.ast.Shape.{Shape}
use Rattle.kernel_tree.specs.Plain.{Parameter, PlainLoop, Program}
use Rattle.loop_form.specs.declared.stream.Stream.{Stream}
use Rattle.loop_form.specs.declared.reach.Reach.{Reach}
use Rattle.loop_form.specs.Reaches.{reaches_of}
use Rattle.loop_form.specs.Streams.{place_of, streams_of, is_of}
use Rattle.loop_form.specs.Lanes.{type_width}
use Rattle.dependence.specs.declared.used.Extent.{Extent}
use Rattle.dependence.specs.declared.used.Extent.TheVariants.{Streams, Computed, Both}
use Rattle.dependence.specs.declared.used.Used.{Used}
use Rattle.kernel_tree.specs.declared.ast.Shape.TheVariants as shape

abbrev pub is_store : Stream → Bool
is_store s = s.store

unfoldable pub least_of : ℤ → List Stream → ℤ
least_of c [] = c
least_of c (s ∷ ss) = least_of (int_min c s.offset) ss

unfoldable pub greatest_of : ℤ → List Stream → ℤ
greatest_of c [] = c
greatest_of c (s ∷ ss) = greatest_of (int_max c s.offset) ss

-- a parameter by its accesses at stream indexes, where it has some
abbrev pub used_by : ℕ → Width → List Stream → List Used
used_by n w [] = []
used_by n w (s ∷ ss) = record { place = n; width = w; least = least_of s.offset ss; extent = Streams (greatest_of s.offset ss); stored = list_any is_store (s ∷ ss) } ∷ []

-- ---- reads at computed indexes. One without a reach has no part here: where the loop stores, its class is then Scalar.

-- the read is of the parameter at a place
abbrev pub is_reach_of : ℕ → Reach → Bool
is_reach_of p r = nat_eq r.param p

unfoldable pub most_reach : ℕ → List Reach → ℕ
most_reach m [] = m
most_reach m (r ∷ rs) = most_reach (max m r.reach) rs

-- the greatest reach, where there is one
abbrev pub greatest_reach : List Reach → Option ℕ
greatest_reach [] = None
greatest_reach (r ∷ rs) = Some (most_reach r.reach rs)

abbrev pub reaching : ℕ → Extent → Extent
reaching r (Streams g) = Both g r
reaching r (Computed q) = Computed r
reaching r (Both g q) = Both g r

-- a parameter by its accesses at stream indexes, and by its reads at computed ones that reach so far
abbrev pub with_reach : ℕ → Width → Option ℕ → List Used → List Used
with_reach n w None us = us
with_reach n w (Some r) [] = record { place = n; width = w; least = pos 0; extent = Computed r; stored = false } ∷ []
with_reach n w (Some r) (u ∷ us) = record { place = u.place; width = u.width; least = int_min u.least (pos 0); extent = reaching r u.extent; stored = u.stored } ∷ us

abbrev pub used_at : List Stream → List Reach → ℕ → Shape → List Used
used_at ss rs n (shape.Scalar t) = []
used_at ss rs n (shape.Array t) = with_reach n (type_width t) (greatest_reach (filter (is_reach_of n) rs)) (used_by n (type_width t) (filter (is_of n) ss))

unfoldable pub used_from : List Stream → List Reach → ℕ → List Parameter → List Used
used_from ss rs n [] = []
used_from ss rs n (p ∷ ps) = used_at ss rs n p.shape ++ used_from ss rs (n + 1) ps

-- the array parameters that the loop uses, in the order of the parameters
abbrev pub used_of : Program → List Used
used_of k = used_from (streams_of k) (reaches_of k) 0 k.params

abbrev pub bound_in : List Parameter → PlainLoop → Option ℕ
bound_in ps l = place_of l.bound ps

-- the place of the loop's bound; a loop of a kernel that meets the rules has one
abbrev pub bound_place : Program → ℕ
bound_place k = unwrap_or (option_and_then (bound_in k.params) k.for_loop) 0

-- ---- the elements as intervals of plain integers

abbrev pub base_in : List ℕ → Used → ℕ
base_in args u = slice_index args u.place

-- the first address of the least element in the first iteration, and of the first element where there are reads at
-- computed indexes
abbrev pub begin_in : List ℕ → Used → ℤ
begin_in args u = pos (base_in args u) +ℤ pos (width_bytes u.width) *ℤ u.least

-- the number of the element at which the elements end
abbrev pub highest : ℕ → Extent → ℤ
highest n (Streams g) = pos n +ℤ g
highest n (Computed r) = pos r
highest n (Both g r) = int_max (pos n +ℤ g) (pos r)

-- the address at which they end: that of the greatest element in iteration n, which is none, or of the reach
abbrev pub end_in : List ℕ → ℕ → Used → ℤ
end_in args n u = pos (base_in args u) +ℤ pos (width_bytes u.width) *ℤ highest n u.extent

-- the intervals from b up to but not including e, and from c up to but not including f, have no number in common
abbrev pub AreDisjoint : (b e c f : ℤ) → Type 0
AreDisjoint b e c f = (a : ℤ) → b ≤ℤ a → a <ℤ e → c ≤ℤ a → a <ℤ f → ⊥

abbrev pub IsBased : ℕ → Type 0
IsBased base = (2 ^ 16 ≤ base) × (base < 2 ^ 48)

abbrev pub AreBased : List ℕ → List Used → Type 0
AreBased args [] = Unit {0}
AreBased args (u ∷ us) = IsBased (base_in args u) × AreBased args us

-- two parameters, where the loop stores to one of them
abbrev pub PairApart : List ℕ → ℕ → Used → Used → Type 0
PairApart args n u v = (u.stored || v.stored) ≡ true → AreDisjoint (begin_in args u) (end_in args n u) (begin_in args v) (end_in args n v)

abbrev pub IsApartFrom : List ℕ → ℕ → Used → List Used → Type 0
IsApartFrom args n u [] = Unit {0}
IsApartFrom args n u (v ∷ vs) = PairApart args n u v × IsApartFrom args n u vs

-- any two of the parameters
abbrev pub AreApart : List ℕ → ℕ → List Used → Type 0
AreApart args n [] = Unit {0}
AreApart args n (u ∷ us) = IsApartFrom args n u us × AreApart args n us

abbrev pub is_stored : Used → Bool
is_stored u = u.stored

abbrev pub ApartInRange : List ℕ → ℕ → List Used → Type 0
ApartInRange args n us = (n < 2 ^ 40) × AreBased args us × AreApart args n us

abbrev pub ApartBy : List ℕ → ℕ → List Used → Type 0
ApartBy args n us = (list_any is_stored us ≡ false) ⊎ ((length us ≤ 1) ⊎ ApartInRange args n us)

-- The loop stores nothing, or it uses at most one array parameter, or the bound is below 2^40, the arrays lie from 2^16 to
-- 2^48 - 1, and what it stores by one parameter lies apart from what it comes to by another one.
abbrev pub Apart : Program → List ℕ → Type 0
Apart k args = ApartBy args (slice_index args (bound_place k)) (used_of k)
