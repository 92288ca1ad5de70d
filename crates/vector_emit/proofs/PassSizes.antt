-- The words of a pass are few.
use Rattle.std.proofs.Common.{◌≡◌, ℕ, ◌+◌, ◌≤◌, Bool, true, false, List, [], ◌∷◌, ◌++◌, length, Option, Some, None, refl, ap, ◌∙◌, arith}
use Rattle.std.specs.Prelude.{if◌then◌else◌}
use Rattle.std.specs.List.{list_any}
use Rattle.std.proofs.lemmas.List.{length-append}
use Rattle.guest_types.specs.declared.length.Width.{Width}
use Rattle.loop_form.specs.declared.loop_item.Operand.TheVariants.{LoopIndex}
use Rattle.loop_form.specs.LoopItems.{Item, for_loop_items}
use Rattle.close_bound.specs.CloseBound.{has_break, lane_steps, early_steps, items_steps, around_steps, pass_steps}
use Rattle.lane_emit.specs.LaneCode.{index_code}
use Rattle.chunk_emit.specs.Registers.{Layout}
use Rattle.chunk_emit.specs.ChunkCode.{vectors, items_words}
use Rattle.chunk_emit.specs.Head.{Ground, IsGround, layout, width}
use Rattle.chunk_emit.proofs.Counts.{few_words}
use Rattle.dependence.specs.Apart.{bound_place}
use Rattle.first_fault.specs.RegionCode.{exits_words, single_words}
use Rattle.first_fault.specs.BreakRegion.{is_loop_break, region_of, rest_of}
use Rattle.first_fault.proofs.Counts.{always_few}
use Rattle.chunk_pass.specs.Chunks.{items_of}
use Rattle.chunk_pass.specs.PassCode.{first_lane_words, index_words, advance_word, chunk_words, iteration_words, plain_words}

-- items take no fewer steps in a loop with a break
more_early : (items : List Item) → items_steps false items ≤ items_steps true items
more_early [] = omega arith
more_early (it ∷ items) = let here = at it.mask in let more = more_early items in omega (arith, here, more)
  where
    at : (mask : Option ℕ) → lane_steps it.op ≤ early_steps mask it.op
    at None = omega arith
    at (Some q) = omega arith

region_and_rest_steps : (items : List Item) → items_steps true (region_of items) + items_steps true (rest_of items) ≡ items_steps true items
region_and_rest_steps [] = refl
region_and_rest_steps (it ∷ items) = by_loop_break (list_any is_loop_break (it ∷ items)) (region_and_rest_steps items)
  where
    by_loop_break : (b : Bool) → items_steps true (region_of items) + items_steps true (rest_of items) ≡ items_steps true items → items_steps true (if b then it ∷ region_of items else []) + items_steps true (if b then rest_of items else it ∷ items) ≡ items_steps true (it ∷ items)
    by_loop_break true h = omega (arith, h)
    by_loop_break false h = omega arith

index_few : (l : Layout) → length (index_words l) ≤ 1
index_few l = by_held (l.held LoopIndex)
  where
    by_held : (b : Bool) → length (if b then vectors (index_code (l.registers.source LoopIndex) 9) else []) ≤ 1
    by_held true = omega arith
    by_held false = omega arith

-- the last word, after the items
items_end : (w : Width) (l : Layout) (items : List Item) → length (items_words w l items ++ advance_word w ∷ []) ≤ items_steps false items + 1
items_end w l items = let a = length-append (items_words w l items) (advance_word w ∷ []) in let few = few_words w l items in omega (arith, a, few)

pub chunk_few : (w : Width) (l : Layout) (n : ℕ) (items : List Item) → length (chunk_words w l n items) ≤ 4 + items_steps true items
chunk_few w l n items =
    let tail = items_words w l (rest_of items) ++ advance_word w ∷ [] in
    let a = length-append (index_words l) (exits_words w l (region_of items) ++ tail) in
    let b = length-append (exits_words w l (region_of items)) tail in
    let x = index_few l in
    let y = (always_few w l (region_of items)).exits in
    let z = items_end w l (rest_of items) in
    let early = more_early (rest_of items) in
    let all = region_and_rest_steps items in
    omega (arith, a, b, x, y, z, early, all)

pub iteration_few : (w : Width) (l : Layout) (items : List Item) → length (iteration_words w l items) ≤ 3 + items_steps true items
iteration_few w l items =
    let tail = items_words w l (rest_of items) ++ advance_word w ∷ [] in
    let a = length-append (first_lane_words w) (single_words w l (region_of items) ++ tail) in
    let b = length-append (single_words w l (region_of items)) tail in
    let y = (always_few w l (region_of items)).single in
    let z = items_end w l (rest_of items) in
    let early = more_early (rest_of items) in
    let all = region_and_rest_steps items in
    omega (arith, a, b, y, z, early, all)

pub plain_few : (w : Width) (l : Layout) (items : List Item) → length (plain_words w l items) ≤ 2 + items_steps false items
plain_few w l items =
    let a = length-append (index_words l) (items_words w l items ++ advance_word w ∷ []) in
    let x = index_few l in
    let z = items_end w l items in
    omega (arith, a, x, z)

-- ---- a pass with the tests after it

pub break_is : (g : Ground) → IsGround g → has_break g.kernel ≡ list_any is_loop_break (items_of g)
break_is g ground = ap (λ o. list_any is_loop_break (for_loop_items g.kernel o)) ground.loops

pass_is : (g : Ground) (b : Bool) → IsGround g → list_any is_loop_break (items_of g) ≡ b → pass_steps g.kernel ≡ items_steps b (items_of g) + around_steps b
pass_is g b ground e =
    ap (λ o. items_steps (list_any is_loop_break (for_loop_items g.kernel o)) (for_loop_items g.kernel o) + around_steps (list_any is_loop_break (for_loop_items g.kernel o))) ground.loops
    ∙ ap (λ b. items_steps b (items_of g) + around_steps b) e

pub chunk_fits : (g : Ground) → IsGround g → list_any is_loop_break (items_of g) ≡ true → length (chunk_words (width g) (layout g) (bound_place g.kernel) (items_of g)) + 3 ≤ pass_steps g.kernel
chunk_fits g ground breaks_loop = let few = chunk_few (width g) (layout g) (bound_place g.kernel) (items_of g) in let is = pass_is g true ground breaks_loop in omega (arith, few, is)

pub iteration_fits : (g : Ground) → IsGround g → list_any is_loop_break (items_of g) ≡ true → length (iteration_words (width g) (layout g) (items_of g)) + 4 ≤ pass_steps g.kernel
iteration_fits g ground breaks_loop = let few = iteration_few (width g) (layout g) (items_of g) in let is = pass_is g true ground breaks_loop in omega (arith, few, is)

pub plain_fits : (g : Ground) → IsGround g → list_any is_loop_break (items_of g) ≡ false → length (plain_words (width g) (layout g) (items_of g)) + 2 ≤ pass_steps g.kernel
plain_fits g ground breaks_loop = let few = plain_few (width g) (layout g) (items_of g) in let is = pass_is g false ground breaks_loop in omega (arith, few, is)
