-- What a guard finds in a checked kernel: near offsets.
use Rattle.std.proofs.Common.{◌≡◌, ℕ, ◌+◌, ◌≤◌, ℤ, pos, Bool, true, false, cond, List, [], ◌∷◌, ◌++◌, length, Option, Some, None, refl, arith, inl, inr}
use Rattle.std.proofs.lemmas.Int.{ints}
use Rattle.std.specs.Prelude.{unsigned_abs, filter, int_lt, max, ◌≤ℤ◌}
use Rattle.std.specs.Int.{int_min, int_max}
use Rattle.kernel_tree.specs.declared.ast.Shape.{Shape}
use Rattle.kernel_tree.specs.Limits.{most_offset}
use Rattle.kernel_tree.specs.Plain.{Parameter, Program}
use Rattle.kernel_tree.specs.Items.{loop_index}
use Rattle.guest_types.specs.declared.length.Width.{Width}
use Rattle.loop_form.specs.declared.stream.Stream.{Stream}
use Rattle.loop_form.specs.declared.reach.Reach.{Reach}
use Rattle.loop_form.specs.Reaches.{reaches_of}
use Rattle.loop_form.proofs.ReachLaws.{AreReaches, reaches-given}
use Rattle.loop_form.specs.Entries.{loop_entries}
use Rattle.loop_form.specs.Near.{AreNear}
use Rattle.loop_form.specs.Streams.{streams_of, is_of}
use Rattle.loop_form.specs.Lanes.{type_width}
use Rattle.loop_form.proofs.StreamLaws.{NearStreams, streams-near}
use Rattle.dependence.specs.declared.used.Used.{Used}
use Rattle.dependence.specs.Apart.{least_of, greatest_of, is_reach_of, most_reach, greatest_reach, used_by, with_reach, used_at, used_from, used_of}
use Rattle.overlap_guard.specs.Guard.{IsReach, AreFit}
use Rattle.kernel_tree.specs.declared.ast.Shape.TheVariants as shape

-- ---- near offsets

filtered-near : (p : Stream → Bool) (ss : List Stream) → NearStreams ss → NearStreams (filter p ss)
filtered-near p [] h = tt
filtered-near p (s ∷ ss) h = by (p s) (filtered-near p ss h.1)
  where
    by : (b : Bool) → NearStreams (filter p ss) → NearStreams (cond b (s ∷ filter p ss) (filter p ss))
    by true k = (h.0, k)
    by false k = k

chosen-near : (b : Bool) (c d : ℤ) → unsigned_abs c ≤ most_offset → unsigned_abs d ≤ most_offset → unsigned_abs (cond b c d) ≤ most_offset
chosen-near true c d h k = h
chosen-near false c d h k = k

least-near : (c : ℤ) (ss : List Stream) → unsigned_abs c ≤ most_offset → NearStreams ss → unsigned_abs (least_of c ss) ≤ most_offset
unfolding least_of
least-near c [] h k = h
least-near c (s ∷ ss) h k = least-near (int_min c s.offset) ss (chosen-near (int_lt s.offset c) s.offset c k.0 h) k.1

greatest-near : (c : ℤ) (ss : List Stream) → unsigned_abs c ≤ most_offset → NearStreams ss → unsigned_abs (greatest_of c ss) ≤ most_offset
unfolding greatest_of
greatest-near c [] h k = h
greatest-near c (s ∷ ss) h k = greatest-near (int_max c s.offset) ss (chosen-near (int_lt s.offset c) c s.offset h k.0) k.1

-- ---- the least offset is not above the greatest

lower-min : (b : Bool) (c d : ℤ) → int_lt d c ≡ b → cond b d c ≤ℤ c
lower-min true c d e = grind (arith, ints)
lower-min false c d e = omega (arith, ints)

upper-max : (b : Bool) (c d : ℤ) → int_lt d c ≡ b → c ≤ℤ cond b c d
upper-max true c d e = omega (arith, ints)
upper-max false c d e = grind (arith, ints)

pub le_z_trans : (a b c : ℤ) → a ≤ℤ b → b ≤ℤ c → a ≤ℤ c
le_z_trans a b c h k = omega (arith, ints)

least-low : (c : ℤ) (ss : List Stream) → least_of c ss ≤ℤ c
unfolding least_of
least-low c [] = omega (arith, ints)
least-low c (s ∷ ss) = le_z_trans (least_of (int_min c s.offset) ss) (int_min c s.offset) c (least-low (int_min c s.offset) ss) (lower-min (int_lt s.offset c) c s.offset refl)

greatest-high : (c : ℤ) (ss : List Stream) → c ≤ℤ greatest_of c ss
unfolding greatest_of
greatest-high c [] = omega (arith, ints)
greatest-high c (s ∷ ss) = le_z_trans c (int_max c s.offset) (greatest_of (int_max c s.offset) ss) (upper-max (int_lt s.offset c) c s.offset refl) (greatest-high (int_max c s.offset) ss)

least-first : (c : ℤ) (ss : List Stream) → least_of c ss ≤ℤ greatest_of c ss
least-first c ss = le_z_trans (least_of c ss) c (greatest_of c ss) (least-low c ss) (greatest-high c ss)

-- ---- the parameters that the loop uses

filtered-given : (p : Reach → Bool) (rs : List Reach) → AreReaches rs → AreReaches (filter p rs)
filtered-given p [] h = tt
filtered-given p (r ∷ rs) h = by (p r) (filtered-given p rs h.1)
  where
    by : (b : Bool) → AreReaches (filter p rs) → AreReaches (cond b (r ∷ filter p rs) (filter p rs))
    by true k = (h.0, k)
    by false k = k

greater-given : (a b : ℕ) → IsReach a → IsReach b → IsReach (max a b)
greater-given a b (inl e) (inl f) = inl (omega (arith, e, f))
greater-given a b (inl e) (inr f) = inr (omega (arith, e, f))
greater-given a b (inr e) (inl f) = inr (omega (arith, e, f))
greater-given a b (inr e) (inr f) = inr (omega (arith, e, f))

most-given : (m : ℕ) (rs : List Reach) → IsReach m → AreReaches rs → IsReach (most_reach m rs)
unfolding most_reach
most-given m [] h k = h
most-given m (r ∷ rs) h k = most-given (max m r.reach) rs (greater-given m r.reach h k.0) k.1

abbrev AllFit : Option ℕ → Type 0
AllFit None = Unit {0}
AllFit (Some r) = IsReach r

greatest-given : (rs : List Reach) → AreReaches rs → AllFit (greatest_reach rs)
greatest-given [] h = tt
greatest-given (r ∷ rs) h = most-given r.reach rs h.0 h.1

lower-near : (c : ℤ) → unsigned_abs c ≤ most_offset → unsigned_abs (int_min c (pos 0)) ≤ most_offset
lower-near c h = chosen-near (int_lt (pos 0) c) (pos 0) c (omega arith) h

lower-none : (b : Bool) (c : ℤ) → int_lt (pos 0) c ≡ b → cond b (pos 0) c ≤ℤ pos 0
lower-none true c e = grind (arith, ints)
lower-none false c e = grind (arith, ints)

reach-fit : (n : ℕ) (w : Width) (o : Option ℕ) (ss : List Stream) → n ≤ 7 → NearStreams ss → AllFit o → AreFit (with_reach n w o (used_by n w ss))
reach-fit n w None [] h k g = tt
reach-fit n w (Some r) [] h k g = ((h, omega arith, (g, omega (arith, ints))), tt)
reach-fit n w None (s ∷ ss) h k g = ((h, least-near s.offset ss k.0 k.1, (greatest-near s.offset ss k.0 k.1, least-first s.offset ss)), tt)
reach-fit n w (Some r) (s ∷ ss) h k g = ((h, lower-near (least_of s.offset ss) (least-near s.offset ss k.0 k.1), (greatest-near s.offset ss k.0 k.1, g, lower-none (int_lt (pos 0) (least_of s.offset ss)) (least_of s.offset ss) refl)), tt)

at-fit : (ss : List Stream) (rs : List Reach) (n : ℕ) (h : Shape) → n ≤ 7 → NearStreams ss → AreReaches rs → AreFit (used_at ss rs n h)
at-fit ss rs n (shape.Scalar t) h k g = tt
at-fit ss rs n (shape.Array t) h k g = reach-fit n (type_width t) (greatest_reach (filter (is_reach_of n) rs)) (filter (is_of n) ss) h (filtered-near (is_of n) ss k) (greatest-given (filter (is_reach_of n) rs) (filtered-given (is_reach_of n) rs g))

fit-append : (us vs : List Used) → AreFit us → AreFit vs → AreFit (us ++ vs)
fit-append [] vs h k = k
fit-append (u ∷ us) vs h k = (h.0, fit-append us vs h.1 k)

from-fit : (ss : List Stream) (rs : List Reach) (n : ℕ) (ps : List Parameter) → n + length ps ≤ 8 → NearStreams ss → AreReaches rs → AreFit (used_from ss rs n ps)
unfolding used_from
from-fit ss rs n [] h k g = tt
from-fit ss rs n (p ∷ ps) h k g = fit-append (used_at ss rs n p.shape) (used_from ss rs (n + 1) ps) (at-fit ss rs n p.shape (omega (arith, h)) k g) (from-fit ss rs (n + 1) ps (omega (arith, h)) k g)

pub used-fit : (k : Program) → length k.params ≤ 8 → AreNear (loop_index k) (loop_entries k) → AreFit (used_of k)
used-fit k h near = from-fit (streams_of k) (reaches_of k) 0 k.params (omega (arith, h)) (streams-near k (loop_entries k) near) (reaches-given k (loop_entries k))
