-- The close bound is no more than the other one.
use Rattle.std.proofs.Common.{◌≡◌, ℕ, zero, suc, ◌+◌, ◌*◌, ◌≤◌, Bool, true, false, List, [], ◌∷◌, length, Option, Some, None, ℤ, pos, ap, arith, length-append}
use Rattle.std.specs.Prelude.{if◌then◌else◌, ◌||◌, filter}
use Rattle.std.specs.Int.{div_ceil}
use Rattle.std.proofs.Math.Nat.{mul-le-mul_left, mul-le-mul_right}
use Rattle.guest_types.specs.declared.length.Width.{Width}
use Rattle.guest_types.specs.Length.{lanes}
use Rattle.kernel_tree.specs.declared.ast.Shape.{Shape}
use Rattle.kernel_tree.specs.declared.ast.Shape.TheVariants as shape
use Rattle.kernel_tree.specs.Plain.{Parameter, Program}
use Rattle.kernel_tree.specs.Items.{size_of}
use Rattle.reg_assign.specs.declared.interval.RegClass.TheVariants.{Z}
use Rattle.loop_form.specs.declared.stream.Stream.{Stream}
use Rattle.loop_form.specs.declared.reach.Reach.{Reach}
use Rattle.loop_form.specs.Lanes.{type_width, lane_width_of}
use Rattle.loop_form.specs.LoopItems.{Op, Item, loop_items_of}
use Rattle.loop_form.specs.LoopItems as ops
use Rattle.loop_form.specs.Needs.{Throughout, Scalar, throughout}
use Rattle.loop_form.specs.Reaches.{reaches_of}
use Rattle.loop_form.specs.Streams.{streams_of, is_of}
use Rattle.dependence.specs.declared.used.Used.{Used}
use Rattle.dependence.specs.Apart.{is_reach_of, greatest_reach, with_reach, used_by, used_at, used_from, used_of}
use Rattle.dependence.specs.Bound.{runs_in_chunks, free_bound}
use Rattle.close_bound.specs.CloseBound.{has_break, offset_steps, lane_steps, early_steps, item_steps, items_steps, around_steps, pass_steps, spare, passes, iteration_steps, last_steps, turning_steps, laid_steps, joined_steps, held_steps, one_if, pairs_with, stored_pairs, is_free, test_steps, guard_steps, outside_steps, loop_steps, close_bound}
use Rattle.close_bound.proofs.LoopSizes.{all_items}
use Rattle.close_bound.proofs.HeldCounts.{few_held}

-- ---- items

offset_few : (c : ℤ) → offset_steps c ≤ 1
offset_few (pos zero) = omega arith
offset_few other = omega arith

pub lane_few : (op : Op) → lane_steps op ≤ 3
lane_few (ops.Load a base t c) = let k = offset_few c in omega (arith, k)
lane_few (ops.Store a base t c v) = let k = offset_few c in omega (arith, k)
lane_few other = omega arith

pub early_few : (mask : Option ℕ) (op : Op) → early_steps mask op ≤ 6
early_few None op = let k = lane_few op in omega (arith, k)
early_few (Some m) op = let k = lane_few op in omega (arith, k)

pub lanes_few : (items : List Item) → items_steps false items ≤ 3 * length items
lanes_few [] = omega arith
lanes_few (it ∷ items) = let k = lane_few it.op in let more = lanes_few items in omega (arith, k, more)

item_few : (b : Bool) (it : Item) → item_steps b it ≤ 6
item_few true it = early_few it.mask it.op
item_few false it = let k = lane_few it.op in omega (arith, k)

pub items_few : (b : Bool) (items : List Item) → items_steps b items ≤ 6 * length items
items_few b [] = omega arith
items_few b (it ∷ items) = let k = item_few b it in let more = items_few b items in omega (arith, k, more)

around_few : (b : Bool) → around_steps b ≤ 7
around_few true = omega arith
around_few false = omega arith

pub pass_few : (k : Program) → pass_steps k ≤ 32 + 8 * size_of k
pass_few k = let a = items_few (has_break k) (loop_items_of k) in let b = around_few (has_break k) in let c = all_items k in omega (arith, a, b, c)

-- ---- outside the loop

one_held : (t : Throughout) → laid_steps t + joined_steps t ≤ 11
one_held (Scalar x) = omega arith
one_held other = omega arith

pub held_few : (ts : List Throughout) → held_steps ts ≤ 11 * length ts
held_few [] = omega arith
held_few (t ∷ ts) = let here = one_held t in let more = held_few ts in omega (arith, here, more)

one_few : (b : Bool) → one_if b ≤ 1
one_few true = omega arith
one_few false = omega arith

with_few : (u : Used) (vs : List Used) → pairs_with u vs ≤ length vs
with_few u [] = omega arith
with_few u (v ∷ vs) = let k = one_few (u.stored || v.stored) in let more = with_few u vs in omega (arith, k, more)

-- all pairs of so many
abbrev pub all_pairs : ℕ → ℕ
all_pairs zero = 0
all_pairs (suc n) = n + all_pairs n

pub pairs_few : (n : ℕ) (us : List Used) → length us ≤ n → stored_pairs us ≤ all_pairs n
pairs_few n [] h = omega arith
pairs_few zero (u ∷ us) h = absurd (omega (arith, h))
pairs_few (suc n) (u ∷ us) h = step (pairs_with u us) (stored_pairs us) (length us) n (all_pairs n) (omega (arith, h)) (with_few u us) (pairs_few n us (omega (arith, h)))
  where
    step : (a b l n q : ℕ) → l ≤ n → a ≤ l → b ≤ q → a + b ≤ n + q
    step a b l n q h i j = omega (arith, h, i, j)

one_reached : (n : ℕ) (w : Width) (o : Option ℕ) (us : List Used) → length us ≤ 1 → length (with_reach n w o us) ≤ 1
one_reached n w None us h = h
one_reached n w (Some r) [] h = omega arith
one_reached n w (Some r) (u ∷ us) h = h

pub at-few : (ss : List Stream) (rs : List Reach) (n : ℕ) (h : Shape) → length (used_at ss rs n h) ≤ 1
at-few ss rs n (shape.Scalar t) = omega arith
at-few ss rs n (shape.Array t) = one_reached n (type_width t) (greatest_reach (filter (is_reach_of n) rs)) (used_by n (type_width t) (filter (is_of n) ss)) (by (filter (is_of n) ss))
  where
    by : (ss : List Stream) → length (used_by n (type_width t) ss) ≤ 1
    by [] = omega arith
    by (s ∷ ss) = omega arith

-- no more arrays are used than there are parameters
pub from-few : (ss : List Stream) (rs : List Reach) (n : ℕ) (ps : List Parameter) → length (used_from ss rs n ps) ≤ length ps
unfolding used_from
from-few ss rs n [] = omega arith
from-few ss rs n (p ∷ ps) = omega (arith, length-append (used_at ss rs n p.shape) (used_from ss rs (n + 1) ps), at-few ss rs n p.shape, from-few ss rs (n + 1) ps)

guard_few : (us : List Used) → length us ≤ 8 → guard_steps us ≤ 614
guard_few us h = by (is_free us)
  where
    by : (b : Bool) → test_steps b us ≤ 614
    by true = omega arith
    by false = let p = pairs_few 8 us h in omega (arith, h, p)

pub last_few : (b : Bool) (k : Program) → last_steps b k ≤ iteration_steps k
last_few true k = omega arith
last_few false k = omega arith

turning_few : (b : Bool) → turning_steps b ≤ 3
turning_few true = omega arith
turning_few false = omega arith

pub outside_few : (k : Program) → length k.params ≤ 8 → outside_steps k + iteration_steps k ≤ 1000 + 100 * size_of k
outside_few k few =
    let a = held_few (throughout k Z) in
    let b = few_held k in
    let t = turning_few (has_break k) in
    let c = guard_few (used_of k) (let u = from-few (streams_of k) (reaches_of k) 0 k.params in omega (arith, u, few)) in
    omega (arith, a, b, t, c)

-- ---- the whole

passes_few : (b : Bool) (d q : ℕ) → d + spare b * (1 + q) ≤ d + 2 + 4 * q
passes_few true d q = omega arith
passes_few false d q = omega arith

abbrev unit : Program → ℕ
unit k = 32 + 8 * size_of k

-- of a kernel with at most eight parameters
pub close : (k : Program) (args : List ℕ) (vl m q : ℕ) → length k.params ≤ 8 → close_bound k args vl m q ≤ free_bound k args vl m q
close k args vl m q few = by (runs_in_chunks k args)
  where
    by : (b : Bool) → outside_steps k + loop_steps b k (lanes vl (lane_width_of k)) m q ≤ 1000 + 100 * size_of k + unit k * (div_ceil m (if b then lanes vl (lane_width_of k) else 1) + 2 + 4 * q)
    by true =
        let at_once = lanes vl (lane_width_of k) in
        let out = outside_few k few in
        let last = last_few (has_break k) k in
        let each : pass_steps k * passes k at_once m q ≤ unit k * passes k at_once m q = mul-le-mul_right (passes k at_once m q) (pass_few k) in
        let more : unit k * passes k at_once m q ≤ unit k * (div_ceil m at_once + 2 + 4 * q) = mul-le-mul_left (unit k) (passes_few (has_break k) (div_ceil m at_once) q) in
        omega (arith, out, last, each, more)
    by false =
        let out = outside_few k few in
        let fits : iteration_steps k ≤ unit k = omega arith in
        let each : iteration_steps k * m ≤ unit k * m = mul-le-mul_right m fits in
        let ones : div_ceil m 1 ≡ m = omega arith in
        let more : unit k * m ≤ unit k * (m + 2 + 4 * q) = mul-le-mul_left (unit k) (omega arith) in
        let same = ap (λ d. unit k * (d + 2 + 4 * q)) ones in
        omega (arith, out, each, more, same)
