-- An iteration of a sweep's loop goes on, where the arrays are mapped.
use Rattle.std.proofs.Common.{◌≡◌, ℕ, ◌+◌, ◌*◌, ◌%◌, ◌<◌, ◌^◌, Bool, true, false, [], ◌∷◌, ◌++◌, Option, Some, None, Result, Ok, refl, ap, ap₂, ◌∙◌, arith}
use Rattle.std.specs.Prelude.{ℤ, pos, ◌+ℤ◌, option_map}
use Rattle.kernel_tree.specs.declared.ops.Ty.TheVariants as ty
use Rattle.kernel_tree.specs.declared.ops.BinaryOp.TheVariants as binary
use Rattle.kernel_tree.specs.declared.ops.CompareOp.TheVariants as compare
use Rattle.kernel_tree.specs.declared.ops.UpdateOp.TheVariants as update
use Rattle.kernel_tree.specs.Plain.{Define, Update, Choose, Block, Done, Then, Else, Conversion, Variable}
use Rattle.kernel_tree.specs.Wrap.{wrap}
use Rattle.kernel_tree.specs.Typing.{Scope, in_loop, var_scope, after_action, after_block, left}
use Rattle.guest_types.specs.declared.memory.AccessFault.{AccessFault}
use Rattle.guest_types.specs.Memory.{Memory, number_at, put_number, stored}
use Rattle.kernel_meaning.specs.Ends.{BlockEnd, Next}
use Rattle.kernel_meaning.specs.Operators.{word, binary_value, compare_on, wrapped}
use Rattle.kernel_meaning.specs.Eval.{Names, read_element, on_both, or_else}
use Rattle.kernel_meaning.specs.Iterate.{named, define, cut, then_do, choose, do_block, do_otherwise, write, iterate}
use Rattle.sweep_kernel.specs.Tree.{s, i, t, scaled, chosen, summed, raised, kernel_with}
use Rattle.sweep_kernel.proofs.Arrays.{HasArrays}
use Rattle.sweep_kernel.proofs.IterationEnds.{names_with, loop_with, GoesOn, read_first, read_second, store_third, keeps_arrays}

abbrev pub scope_with : (initial offset level : ℕ) → Scope
scope_with initial offset level = var_scope (kernel_with initial offset level)

-- the scope of the loop's body, and after its `let`
abbrev inside : (initial offset level : ℕ) → Scope
inside initial offset level = in_loop (scope_with initial offset level) (loop_with offset level)

abbrev defined : (initial offset level : ℕ) → Scope
defined initial offset level = after_action (inside initial offset level) (Define t None (scaled offset))

-- the names with the loop variable, and with the value of the `let`
abbrev with_index : Names → ℕ → Names
with_index names x = names ++ named i (pos x) ∷ []

abbrev with_value : Names → ℕ → ℤ → Names
with_value names x v = with_index names x ++ named t v ∷ []

-- the value of the `let`
abbrev scaled_value : (factor p q : ℤ) → ℤ
scaled_value factor p q = binary_value binary.Add (Some ty.I32) (binary_value binary.Mul (Some ty.I32) (wrap ty.I32 p) factor) (wrap ty.I32 q)

abbrev rest : (level : ℕ) → Block
rest level = Then (Choose (chosen level) summed (Else raised)) Done

-- the iteration, by what the two reads of the `let` give
abbrev by_reads : (initial offset level x : ℕ) (memory : Memory) (factor count sum greatest : ℤ) → Option ℤ → Option ℤ → BlockEnd Names
by_reads initial offset level x memory factor count sum greatest p q =
    cut 7 (then_do (define t (Some ty.I32) memory (with_index (names_with factor count sum greatest) x) (on_both (binary_value binary.Add (Some ty.I32)) (on_both (binary_value binary.Mul (Some ty.I32)) (option_map (wrap ty.I32) p) (Some factor)) (option_map (wrap ty.I32) q))) (do_block (defined initial offset level) (rest level)))

-- the iteration after the `let`
abbrev by_value : (initial offset level x : ℕ) (memory : Memory) (factor count sum greatest v : ℤ) → BlockEnd Names
by_value initial offset level x memory factor count sum greatest v =
    cut 7 (do_block (defined initial offset level) (rest level) memory (with_value (names_with factor count sum greatest) x v))

by_reads-is : (initial offset level x : ℕ) (memory : Memory) (factor count sum greatest : ℤ) → iterate (scope_with initial offset level) (loop_with offset level) x memory (names_with factor count sum greatest) ≡ by_reads initial offset level x memory factor count sum greatest (read_element (Some ty.I16) memory (pos 0x1000000) (pos x +ℤ pos 0)) (read_element (Some ty.U8) memory (pos 0x2000000) (pos x +ℤ pos offset))
unfolding kernel_with
by_reads-is initial offset level x memory factor count sum greatest = refl

-- the two ways of the choice
abbrev one : (initial offset level x : ℕ) (memory : Memory) (factor count sum greatest v : ℤ) → BlockEnd Names
one initial offset level x memory factor count sum greatest v =
    cut 9 (do_block (defined initial offset level) summed memory (with_value (names_with factor count sum greatest) x v))

abbrev other : (initial offset level x : ℕ) (memory : Memory) (factor count sum greatest v : ℤ) → BlockEnd Names
other initial offset level x memory factor count sum greatest v =
    cut 9 (do_otherwise (left (defined initial offset level) (after_block (defined initial offset level) summed)) (Else raised) memory (with_value (names_with factor count sum greatest) x v))

-- the end of the iteration after the choice
abbrev following : BlockEnd Names → BlockEnd Names
following iteration_end = cut 7 (then_do iteration_end Next)

-- the iteration after the `let`, by what the read of the condition gives
by_value-is : (initial offset level x : ℕ) (memory : Memory) (factor count sum greatest v : ℤ) → by_value initial offset level x memory factor count sum greatest v ≡ following (choose memory (or_else (Some (compare_on compare.Gt v (wrapped (Some ty.I32) (pos level)))) (on_both (compare_on compare.Eq) (read_element (Some ty.U8) memory (pos 0x2000000) (pos x +ℤ pos 0)) (Some (wrapped (Some ty.U8) (pos 7))))) (one initial offset level x memory factor count sum greatest v) (other initial offset level x memory factor count sum greatest v))
unfolding kernel_with
by_value-is initial offset level x memory factor count sum greatest v = refl

-- ---- the two ways

-- the way that stores, by what the store gives
abbrev by_store : (initial offset level x : ℕ) (memory : Memory) (factor count sum greatest v : ℤ) → Result Memory AccessFault → BlockEnd Names
by_store initial offset level x memory factor count sum greatest v r =
    following (cut 9 (then_do (write memory (with_value (names_with factor count sum greatest) x v) r) (do_block (defined initial offset level) (Then (Update s update.Add (Conversion (Variable t) ty.I64)) Done))))

one-is : (initial offset level x : ℕ) (memory : Memory) (factor count sum greatest v : ℤ) → following (one initial offset level x memory factor count sum greatest v) ≡ by_store initial offset level x memory factor count sum greatest v (stored memory ((0x3000000 + 4 * (x + 0)) % 2 ^ 64) 4 (word v))
unfolding kernel_with
one-is initial offset level x memory factor count sum greatest v = refl

stored-is : (initial offset level x : ℕ) (memory after : Memory) (factor count sum greatest v : ℤ) → by_store initial offset level x memory factor count sum greatest v (Ok after) ≡ Next after (names_with factor count (binary_value binary.Add (Some ty.I64) sum (wrap ty.I64 v)) greatest)
unfolding kernel_with
stored-is initial offset level x memory after factor count sum greatest v = refl

one_goes : (initial offset level x : ℕ) (memory : Memory) (factor count sum greatest v : ℤ) → HasArrays memory → x < 102400 → GoesOn factor count (following (one initial offset level x memory factor count sum greatest v))
one_goes initial offset level x memory factor count sum greatest v h l =
    let at = (0x3000000 + 4 * (x + 0)) % 2 ^ 64 in
    let after = put_number memory at 4 (word v) in
    let e = store_third memory x (word v) h l in
    record {
      memory = after;
      sum = binary_value binary.Add (Some ty.I64) sum (wrap ty.I64 v);
      greatest = greatest;
      is = one-is initial offset level x memory factor count sum greatest v
          ∙ ap (by_store initial offset level x memory factor count sum greatest v) e
          ∙ stored-is initial offset level x memory after factor count sum greatest v;
      arrays = keeps_arrays memory after at 4 (word v) e h;
    }

other-is : (initial offset level x : ℕ) (memory : Memory) (factor count sum greatest v : ℤ) → following (other initial offset level x memory factor count sum greatest v) ≡ Next memory (names_with factor count sum (binary_value binary.Max (Some ty.I32) greatest v))
unfolding kernel_with
other-is initial offset level x memory factor count sum greatest v = refl

other_goes : (initial offset level x : ℕ) (memory : Memory) (factor count sum greatest v : ℤ) → HasArrays memory → GoesOn factor count (following (other initial offset level x memory factor count sum greatest v))
other_goes initial offset level x memory factor count sum greatest v h = record {
  memory = memory;
  sum = sum;
  greatest = binary_value binary.Max (Some ty.I32) greatest v;
  is = other-is initial offset level x memory factor count sum greatest v;
  arrays = h;
}

-- one of the two is chosen
picked : (factor count : ℤ) (memory : Memory) (p q : Bool) (one other : BlockEnd Names) → GoesOn factor count (following one) → GoesOn factor count (following other) → GoesOn factor count (following (choose memory (or_else (Some p) (Some q)) one other))
picked factor count memory true q one other g h = g
picked factor count memory false true one other g h = g
picked factor count memory false false one other g h = h

-- ---- an iteration

pub iterate_goes_on : (initial offset level x : ℕ) (memory : Memory) (factor count sum greatest : ℤ) → HasArrays memory → offset < 9 → x < 102000 → GoesOn factor count (iterate (scope_with initial offset level) (loop_with offset level) x memory (names_with factor count sum greatest))
iterate_goes_on initial offset level x memory factor count sum greatest h o l =
    let p = wrap ty.I16 (pos (number_at memory ((0x1000000 + 2 * (x + 0)) % 2 ^ 64) 2)) in
    let q = wrap ty.U8 (pos (number_at memory ((0x2000000 + 1 * (x + offset)) % 2 ^ 64) 1)) in
    let r = wrap ty.U8 (pos (number_at memory ((0x2000000 + 1 * (x + 0)) % 2 ^ 64) 1)) in
    let v = scaled_value factor p q in
    let first = by_reads-is initial offset level x memory factor count sum greatest
    ∙ ap₂ (by_reads initial offset level x memory factor count sum greatest) (read_first memory x h (omega (arith, l))) (read_second memory x offset h (omega (arith, l, o))) in
    let second = by_value-is initial offset level x memory factor count sum greatest v
    ∙ ap (λ (z : Option ℤ). following (choose memory (or_else (Some (compare_on compare.Gt v (wrapped (Some ty.I32) (pos level)))) (on_both (compare_on compare.Eq) z (Some (wrapped (Some ty.U8) (pos 7))))) (one initial offset level x memory factor count sum greatest v) (other initial offset level x memory factor count sum greatest v))) (read_second memory x 0 h (omega (arith, l))) in
    let g = picked factor count memory (compare_on compare.Gt v (wrapped (Some ty.I32) (pos level))) (compare_on compare.Eq r (wrapped (Some ty.U8) (pos 7))) (one initial offset level x memory factor count sum greatest v) (other initial offset level x memory factor count sum greatest v) (one_goes initial offset level x memory factor count sum greatest v h (omega (arith, l))) (other_goes initial offset level x memory factor count sum greatest v h) in
    record { memory = g.memory; sum = g.sum; greatest = g.greatest; is = first ∙ second ∙ g.is; arrays = g.arrays }
