-- How many steps a compiled kernel may take, by what a reader counts in it: the items of its loop and the passes over it, and
-- outside the loop its parameters, what is held throughout, its arrays and its other items.
use Rattle.std.specs.Prelude.{ℕ, zero, suc, ◌+◌, ◌*◌, ℤ, pos, negsuc, List, [], ◌∷◌, length, Option, Some, None, Bool, true, false, not, ◌||◌, nat_le}
use Rattle.std.specs.Int.{div_ceil}
use Rattle.std.specs.List.{list_any}
use Rattle.guest_types.specs.Length.{lanes}
use Rattle.kernel_tree.specs.Plain.{Program}
use Rattle.kernel_tree.specs.Items.{vars_size, for_loop_size, answer_size, loop_index}
use Rattle.reg_assign.specs.declared.interval.RegClass.TheVariants.{Z}
use Rattle.loop_form.specs.Lanes.{lane_width_of}
use Rattle.loop_form.specs.LoopItems.{Op, Item, loop_items_of}
use Rattle.loop_form.specs.LoopItems as ops
use Rattle.loop_form.specs.Needs.{Throughout, Scalar, Constant, Index, Accumulating, throughout}
use Rattle.dependence.specs.declared.used.Used.{Used}
use Rattle.dependence.specs.Apart.{is_stored, used_of}
use Rattle.dependence.specs.Bound.{runs_in_chunks}

abbrev pub breaks_loop : Op → Bool
breaks_loop (ops.Break c) = true
breaks_loop _ = false

abbrev pub is_loop_break : Item → Bool
is_loop_break it = breaks_loop it.op

abbrev pub has_break : Program → Bool
has_break k = list_any is_loop_break (loop_items_of k)

-- ---- a pass: a chunk, or one iteration by itself after a chunk that no lane came through

-- an offset that is not 0 is added by a step of its own
abbrev pub offset_steps : ℤ → ℕ
offset_steps (pos zero) = 0
offset_steps (pos (suc c)) = 1
offset_steps (negsuc c) = 1

-- an operation over the lanes
abbrev pub lane_steps : Op → ℕ
lane_steps (ops.Load a base t c) = 1 + offset_steps c
lane_steps (ops.Store a base t c v) = 1 + offset_steps c
lane_steps (ops.Gather a base t reach u x) = 3
lane_steps (ops.Binary op t x y) = 3
lane_steps (ops.Unary op t x) = 2
lane_steps (ops.Shift left n t x) = 2
lane_steps _ = 1

-- the same in a loop with a break, where a read may stop early, and a mask loses the lanes that were left out
abbrev pub early_steps : Option ℕ → Op → ℕ
early_steps None op = 1 + lane_steps op
early_steps (Some mask) op = 3 + lane_steps op

abbrev pub item_steps : (breaks : Bool) → Item → ℕ
item_steps true it = early_steps it.mask it.op
item_steps false it = lane_steps it.op

abbrev pub items_steps : (breaks : Bool) → List Item → ℕ
items_steps b [] = 0
items_steps b (it ∷ items) = item_steps b it + items_steps b items

-- what takes the lanes, counts them and goes back
abbrev pub around_steps : (breaks : Bool) → ℕ
around_steps true = 7
around_steps false = 4

abbrev pub pass_steps : Program → ℕ
pass_steps k = items_steps (has_break k) (loop_items_of k) + around_steps (has_break k)

-- In a loop with a break, two passes and two for each free element that is suppressed may take fewer lanes on than a chunk has.
abbrev pub spare : (breaks : Bool) → ℕ
spare true = 2
spare false = 0

abbrev pub passes : Program → (at_once m q : ℕ) → ℕ
passes k at_once m q = div_ceil m at_once + spare (has_break k) * (1 + q)

-- ---- an iteration of the scalar code: four steps an item, of which `for` is one

abbrev pub iteration_steps : Program → ℕ
iteration_steps k = 4 * for_loop_size k.for_loop

-- the one that a break ends
abbrev pub last_steps : (breaks : Bool) → Program → ℕ
last_steps true k = iteration_steps k
last_steps false k = 0

-- ---- outside the loop

-- where no break stands in the loop, what finds how long four whole chunks are left
abbrev pub turning_steps : (breaks : Bool) → ℕ
turning_steps true = 0
turning_steps false = 3

-- values that are held throughout: each is laid into its register, and an accumulator joined from its lanes after the loop
abbrev pub laid_steps : Throughout → ℕ
laid_steps (Scalar x) = 1
laid_steps (Constant t n) = 5
laid_steps Index = 0
laid_steps (Accumulating x) = 5

abbrev pub joined_steps : Throughout → ℕ
joined_steps (Accumulating x) = 6
joined_steps _ = 0

abbrev pub laid_all : List Throughout → ℕ
laid_all [] = 0
laid_all (t ∷ ts) = laid_steps t + laid_all ts

abbrev pub joined_all : List Throughout → ℕ
joined_all [] = 0
joined_all (t ∷ ts) = joined_steps t + joined_all ts

abbrev pub held_steps : List Throughout → ℕ
held_steps ts = laid_all ts + joined_all ts

-- 1 where this holds
abbrev pub one_if : Bool → ℕ
one_if true = 1
one_if false = 0

-- how many pairs of arrays there are of which one is stored
abbrev pub pairs_with : Used → List Used → ℕ
pairs_with u [] = 0
pairs_with u (v ∷ vs) = one_if (u.stored || v.stored) + pairs_with u vs

abbrev pub stored_pairs : List Used → ℕ
stored_pairs [] = 0
stored_pairs (u ∷ us) = pairs_with u us + stored_pairs us

-- whether arrays lie apart for all arguments, and else the test that they do
abbrev pub is_free : List Used → Bool
is_free us = not (list_any is_stored us) || nat_le (length us) 1

abbrev pub test_steps : (free : Bool) → List Used → ℕ
test_steps true us = 0
test_steps false us = 2 + 3 * length us + 21 * stored_pairs us

abbrev pub guard_steps : List Used → ℕ
guard_steps us = test_steps (is_free us) us

-- after the last iteration: the returned value, whose items have four steps each, and the end
abbrev pub ending_steps : Program → ℕ
ending_steps k = 5 + 4 * answer_size (loop_index k) k.answer

-- the parameters, the items of the accumulators' first values, what is held, the test of the arrays, what stands before a pass,
-- and the end
abbrev pub outside_steps : Program → ℕ
outside_steps k =
    7 + turning_steps (has_break k) + length k.params + 4 * vars_size (loop_index k) k.vars + held_steps (throughout k Z) + guard_steps (used_of k) + ending_steps k

-- ---- the whole

-- so many iterations in chunks, or one by one
abbrev pub loop_steps : (chunks : Bool) → Program → (at_once m q : ℕ) → ℕ
loop_steps true k at_once m q = pass_steps k * passes k at_once m q + last_steps (has_break k) k
loop_steps false k at_once m q = iteration_steps k * m

-- A run that begins m iterations, with vectors of vl bits, in which q free elements are suppressed.
abbrev pub close_bound : Program → List ℕ → (vl m q : ℕ) → ℕ
close_bound k args vl m q = outside_steps k + loop_steps (runs_in_chunks k args) k (lanes vl (lane_width_of k)) m q
