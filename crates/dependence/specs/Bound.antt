-- How many steps a compiled kernel may take.
use Rattle.std.specs.Prelude.{ℕ, ◌+◌, ◌*◌, ◌^◌, ℤ, List, [], ◌∷◌, length, slice_index, Bool, true, false, not, ◌&&◌, ◌||◌, nat_le, nat_lt, int_le, if◌then◌else◌}
use Rattle.std.specs.Int.{div_ceil}
use Rattle.std.specs.List.{list_any, list_all}
use Rattle.guest_types.specs.Length.{lanes}
use Rattle.kernel_tree.specs.Plain.{Program}
use Rattle.kernel_tree.specs.Items.{size_of}
use Rattle.loop_form.specs.Lanes.{lane_width_of}
use Rattle.dependence.specs.declared.reason.Class.{Class}
use Rattle.dependence.specs.declared.reason.Class.TheVariants.{Vector, Scalar}
use Rattle.dependence.specs.declared.used.Used.{Used}
use Rattle.dependence.specs.Classes.{class_of}
use Rattle.dependence.specs.Apart.{is_stored, used_of, bound_place, base_in, begin_in, end_in}

-- ---- Apart, as a test

-- the intervals from b and from c: one of them is empty, or one ends before the other begins
abbrev pub is_disjoint : (b e c f : ℤ) → Bool
is_disjoint b e c f = int_le e b || (int_le f c || (int_le e c || int_le f b))

abbrev pub is_based : List ℕ → Used → Bool
is_based args u = nat_le (2 ^ 16) (base_in args u) && nat_lt (base_in args u) (2 ^ 48)

abbrev pub is_pair_apart : List ℕ → ℕ → Used → Used → Bool
is_pair_apart args n u v = not (u.stored || v.stored) || is_disjoint (begin_in args u) (end_in args n u) (begin_in args v) (end_in args n v)

abbrev pub are_apart : List ℕ → ℕ → List Used → Bool
are_apart args n [] = true
are_apart args n (u ∷ us) = list_all (is_pair_apart args n u) us && are_apart args n us

abbrev pub is_apart_by : List ℕ → ℕ → List Used → Bool
is_apart_by args n us = not (list_any is_stored us) || (nat_le (length us) 1 || (nat_lt n (2 ^ 40) && (list_all (is_based args) us && are_apart args n us)))

-- whether Apart holds
abbrev pub is_apart : Program → List ℕ → Bool
is_apart k args = is_apart_by args (slice_index args (bound_place k)) (used_of k)

-- ---- steps

abbrev pub is_vector : Class → Bool
is_vector Vector = true
is_vector (Scalar why) = false

-- the loop may be run in chunks of lanes: the class is Vector, and Apart holds
abbrev pub runs_in_chunks : Program → List ℕ → Bool
runs_in_chunks k args = is_vector (class_of k) && is_apart k args

-- how many iterations are run at once: the lanes of a chunk, or one
abbrev pub at_once : Program → List ℕ → ℕ → ℕ
at_once k args vl = if runs_in_chunks k args then lanes vl (lane_width_of k) else 1

-- the steps of a run with so many rounds: a round is a chunk, or an iteration of the scalar code
abbrev pub steps_for : Program → ℕ → ℕ
steps_for k rounds = 1000 + 100 * size_of k + (32 + 8 * size_of k) * rounds

-- a run that begins m iterations, with vectors of vl bits
abbrev pub bound : Program → List ℕ → (vl m : ℕ) → ℕ
bound k args vl m = steps_for k (div_ceil m (at_once k args vl) + 2)

-- the same where the iterations are run one by one
abbrev pub slow_bound : Program → ℕ → ℕ
slow_bound k m = steps_for k (m + 2)

-- the same where q free elements of first-fault and non-fault loads are suppressed
abbrev pub free_bound : Program → List ℕ → (vl m q : ℕ) → ℕ
free_bound k args vl m q = steps_for k (div_ceil m (at_once k args vl) + 2 + 4 * q)
