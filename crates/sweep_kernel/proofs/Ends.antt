-- A sweep's kernel ends over its pages.
use Rattle.std.proofs.Common.{◌≡◌, ℕ, zero, suc, ◌+◌, ◌%◌, ◌<◌, ◌^◌, [], ◌∷◌, Some, refl, ap, ◌∙◌, arith}
use Rattle.std.specs.Prelude.{ℤ, pos}
use Rattle.std.proofs.lemmas.Nat.{mod_below}
use Rattle.kernel_tree.specs.declared.ops.Ty.TheVariants as ty
use Rattle.kernel_tree.specs.Wrap.{wrap}
use Rattle.guest_types.specs.Memory.{Memory, DoNotMeet, merged}
use Rattle.kernel_meaning.specs.Ends.{BlockEnd, LoopState, Going, go_on}
use Rattle.kernel_meaning.specs.Eval.{Names}
use Rattle.kernel_meaning.specs.Iterate.{iterate}
use Rattle.kernel_meaning.specs.ScalarRun.{Run, End, iterations, finish, started, run_named, scalar_run}
use Rattle.sweep_kernel.specs.Numbers.{random, initial_of, offset_of, level_of, factor_of, count_of}
use Rattle.sweep_kernel.specs.Tree.{kernel_with}
use Rattle.sweep_kernel.specs.Pages.{pages_of}
use Rattle.sweep_kernel.specs.Ends.{EndsOver}
use Rattle.sweep_kernel.proofs.Arrays.{HasArrays, has_arrays}
use Rattle.sweep_kernel.proofs.IterationEnds.{names_with, loop_with}
use Rattle.sweep_kernel.proofs.Iteration.{scope_with, iterate_goes_on}

-- a loop that comes through with other accumulators
record Through (factor count : ℤ) (reached : LoopState Names) : Type 0 where
  memory : Memory
  sum : ℤ
  greatest : ℤ
  is : reached ≡ Going memory (names_with factor count sum greatest)

iterations_suc : (initial offset level iteration_count x : ℕ) (memory : Memory) (names : Names) → iterations (scope_with initial offset level) (loop_with offset level) (suc iteration_count) x memory names ≡ go_on (iterate (scope_with initial offset level) (loop_with offset level) x memory names) x (iterations (scope_with initial offset level) (loop_with offset level) iteration_count (x + 1))
unfolding iterations
iterations_suc initial offset level iteration_count x memory names = refl

iterations_none : (initial offset level x : ℕ) (memory : Memory) (names : Names) → iterations (scope_with initial offset level) (loop_with offset level) 0 x memory names ≡ Going memory names
unfolding iterations
iterations_none initial offset level x memory names = refl

through : (initial offset level iteration_count x : ℕ) (memory : Memory) (factor count sum greatest : ℤ) → HasArrays memory → offset < 9 → x + iteration_count < 102000 → Through factor count (iterations (scope_with initial offset level) (loop_with offset level) iteration_count x memory (names_with factor count sum greatest))
through initial offset level zero x memory factor count sum greatest h o l =
    record { memory = memory; sum = sum; greatest = greatest; is = iterations_none initial offset level x memory (names_with factor count sum greatest) }
through initial offset level (suc iteration_count) x memory factor count sum greatest h o l =
    let g = iterate_goes_on initial offset level x memory factor count sum greatest h o (omega (arith, l)) in
    let c = through initial offset level iteration_count (x + 1) g.memory factor count g.sum g.greatest g.arrays o (omega (arith, l)) in
    record {
      memory = c.memory;
      sum = c.sum;
      greatest = c.greatest;
      is = iterations_suc initial offset level iteration_count x memory (names_with factor count sum greatest)
          ∙ ap (λ (r : BlockEnd Names). go_on r x (iterations (scope_with initial offset level) (loop_with offset level) iteration_count (x + 1))) g.is
          ∙ c.is;
    }

-- the names at the start
abbrev first_names : (factor count initial : ℕ) → Names
first_names factor count initial = names_with (wrap ty.I32 (pos factor)) (wrap ty.U64 (pos count)) (wrap ty.I64 (pos 0)) (wrap ty.I32 (pos initial))

started-is : (initial offset level factor count : ℕ) (memory : Memory) → started (kernel_with initial offset level) (0x1000000 ∷ 0x2000000 ∷ 0x3000000 ∷ factor ∷ count ∷ []) memory ≡ Some (first_names factor count initial)
unfolding kernel_with
started-is initial offset level factor count memory = refl

-- the run from the names at the start, of so many iterations
abbrev from_names : (initial offset level : ℕ) → Memory → Names → ℕ → Run
from_names initial offset level memory names iteration_count =
    finish (scope_with initial offset level) (loop_with offset level) (kernel_with initial offset level).answer iteration_count (iterations (scope_with initial offset level) (loop_with offset level) iteration_count 0 memory names)

named-is : (initial offset level factor count : ℕ) (memory : Memory) → run_named (kernel_with initial offset level) memory (Some (first_names factor count initial)) ≡ from_names initial offset level memory (first_names factor count initial) (count % 2 ^ 64 % 2 ^ 64)
unfolding kernel_with
named-is initial offset level factor count memory = refl

-- a loop that came through ends with a result
record Returns (iteration_count : ℕ) (r : Run) : Type 0 where
  memory : Memory
  result : ℕ
  is : r ≡ End memory result iteration_count

returns_of : (initial offset level iteration_count : ℕ) (memory : Memory) (factor count sum greatest : ℤ) → Returns iteration_count (finish (scope_with initial offset level) (loop_with offset level) (kernel_with initial offset level).answer iteration_count (Going memory (names_with factor count sum greatest)))
unfolding kernel_with
returns_of initial offset level iteration_count memory factor count sum greatest = record { memory = memory; result = _; is = refl }

ends_with : (initial offset level factor count : ℕ) (memory : Memory) → HasArrays memory → offset < 9 → count < 102000 → Returns count (scalar_run (kernel_with initial offset level) (0x1000000 ∷ 0x2000000 ∷ 0x3000000 ∷ factor ∷ count ∷ []) memory)
ends_with initial offset level factor count memory h o l =
    let small : count % 2 ^ 64 % 2 ^ 64 ≡ count = omega (arith, l) in
    let c = through initial offset level count 0 memory (wrap ty.I32 (pos factor)) (wrap ty.U64 (pos count)) (wrap ty.I64 (pos 0)) (wrap ty.I32 (pos initial)) h o (omega (arith, l)) in
    let r = returns_of initial offset level count c.memory (wrap ty.I32 (pos factor)) (wrap ty.U64 (pos count)) c.sum c.greatest in
    record {
      memory = r.memory;
      result = r.result;
      is = ap (run_named (kernel_with initial offset level) memory) (started-is initial offset level factor count memory)
          ∙ named-is initial offset level factor count memory
          ∙ ap (from_names initial offset level memory (first_names factor count initial)) small
          ∙ ap (finish (scope_with initial offset level) (loop_with offset level) (kernel_with initial offset level).answer count) c.is
          ∙ r.is;
    }

pub all_end : (program : Memory) (seed : ℕ) → DoNotMeet program (pages_of seed) → EndsOver program seed
all_end program seed apart =
    let o : offset_of seed < 9 = mod_below (random seed 1) 9 (omega arith) in
    let few : random seed 5 % 1000 < 1000 = mod_below (random seed 5) 1000 (omega arith) in
    let r = ends_with (initial_of seed) (offset_of seed) (level_of seed) (factor_of seed) (count_of seed) (merged program (pages_of seed)) (has_arrays program seed apart) o (omega (arith, few)) in
    record { memory = r.memory; result = r.result; ends = r.is }
