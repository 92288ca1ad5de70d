-- What a kernel does: its iterations run one after another, each statement by statement.
use Rattle.std.specs.Prelude.{◌≡◌, ℕ, zero, suc, ◌+◌, ◌-◌, ◌≤◌, ℤ, pos, List, [], ◌∷◌, drop, slice_index, Option, Some, None, option_map, option_and_then}
use Rattle.kernel_tree.specs.declared.ast.Shape.{Shape}
use Rattle.kernel_tree.specs.declared.ast.Shape.TheVariants as shape
use Rattle.kernel_tree.specs.declared.fault.Binding.TheVariants as binding
use Rattle.kernel_tree.specs.Plain.{Parameter, Accumulator, PlainLoop, Returned, Program}
use Rattle.kernel_tree.specs.Wrap.{wrap}
use Rattle.kernel_tree.specs.Typing.{Scope, declared, after_for_loop, param_scope, var_scope}
use Rattle.guest_types.specs.Memory.{Memory}
use Rattle.kernel_meaning.specs.Ends.{LoopState, Going, Left, Failed, go_on}
use Rattle.kernel_meaning.specs.Operators.{word}
use Rattle.kernel_meaning.specs.Eval.{Names, value_at, value}
use Rattle.kernel_meaning.specs.Iterate.{named, with_name, iterate}

-- ---- parameters and accumulators

-- a scalar argument is wrapped to its type; an array argument is its address
abbrev pub argument : Shape → ℕ → ℤ
argument (shape.Scalar t) n = wrap t (pos n)
argument (shape.Array t) n = pos n

-- the parameters with the arguments; missing ones are zero
abbrev pub argument_names : List Parameter → List ℕ → Names
argument_names [] args = []
argument_names (p ∷ ps) args = named p.name (argument p.shape (slice_index args 0)) ∷ argument_names ps (drop 1 args)

-- the accumulators with their initial values, after the names that are there
abbrev pub initial : Scope → List Accumulator → Memory → Names → Option Names
initial scope [] memory names = Some names
initial scope (v ∷ vs) memory names =
    option_and_then (initial (declared scope v.name (binding.Accumulator v.type)) vs memory) (option_map (with_name v.name names) (value scope (Some v.type) v.init memory names))

-- ---- the loop

-- so many iterations, from iteration i on
unfoldable pub iterations : Scope → PlainLoop → ℕ → ℕ → Memory → Names → LoopState Names
iterations scope l zero i memory names = Going memory names
iterations scope l (suc count) i memory names = go_on (iterate scope l i memory names) i (iterations scope l count (i + 1))

-- how often the loop is to run
abbrev pub bound_of : PlainLoop → Names → ℕ
bound_of l names = word (value_at names l.bound)

-- ---- the whole run

-- How a run ends: with a result, or with a fault. `begun` is the number of iterations begun.
pub data Run : Type 0 where
  End : (memory : Memory) (result begun : ℕ) → Run
  Fault : (memory : Memory) (begun : ℕ) → Run

abbrev pub begun : Run → ℕ
begun (End memory result n) = n
begun (Fault memory n) = n

-- the returned value, extended to 64 bits by its type, or 0 where none is returned
abbrev pub returned : Scope → Option Returned → Memory → Names → Option ℕ
returned scope None memory names = Some 0
returned scope (Some a) memory names = option_map word (value scope (Some a.type) a.value memory names)

abbrev pub ended : Memory → ℕ → Option ℕ → Run
ended memory n None = Fault memory n
ended memory n (Some result) = End memory result n

-- the end of a loop after `done` completed iterations
abbrev pub closed : Scope → PlainLoop → Option Returned → Memory → Names → (done begun : ℕ) → Run
closed scope l answer memory names done n = ended memory n (returned (after_for_loop scope (Some l)) answer memory (with_name l.index names (pos done)))

-- The end of a loop of n iterations. In the returned expression the loop variable is the number of completed iterations,
-- and one that a `break` ended is not completed.
abbrev pub finish : Scope → PlainLoop → Option Returned → ℕ → LoopState Names → Run
finish scope l answer n (Going memory names) = closed scope l answer memory names n n
finish scope l answer n (Left memory names i) = closed scope l answer memory names i (i + 1)
finish scope l answer n (Failed memory i) = Fault memory (i + 1)

abbrev pub run_for_loop : Scope → Option PlainLoop → Option Returned → Memory → Names → Run
run_for_loop scope None answer memory names = ended memory 0 (returned scope answer memory names)
run_for_loop scope (Some l) answer memory names = finish scope l answer (bound_of l names) (iterations scope l (bound_of l names) 0 memory names)

abbrev pub run_named : Program → Memory → Option Names → Run
run_named k memory None = Fault memory 0
run_named k memory (Some names) = run_for_loop (var_scope k) k.for_loop k.answer memory names

-- the names at the start of the loop
abbrev pub started : Program → List ℕ → Memory → Option Names
started k args memory = initial (param_scope k) k.vars memory (argument_names k.params args)

-- the run of a kernel from arguments and a memory
abbrev pub scalar_run : Program → List ℕ → Memory → Run
scalar_run k args memory = run_named k memory (started k args memory)

-- ---- the run from an iteration on

-- what the loop does from iteration i on, up to the end of the run
abbrev pub for_loop_from : Scope → Option PlainLoop → Option Returned → ℕ → Memory → Names → Run
for_loop_from scope None answer i memory names = ended memory 0 (returned scope answer memory names)
for_loop_from scope (Some l) answer i memory names = finish scope l answer (bound_of l names) (iterations scope l (bound_of l names - i) i memory names)

abbrev pub run_from : Program → ℕ → Memory → Names → Run
run_from k i memory names = for_loop_from (var_scope k) k.for_loop k.answer i memory names

-- no more iterations than the loop has are completed; without a loop there are none
abbrev pub IsWithin : Option PlainLoop → ℕ → Names → Type 0
IsWithin None i names = i ≡ 0
IsWithin (Some l) i names = i ≤ bound_of l names

-- ---- a part of a run

abbrev pub memory_of : LoopState Names → Memory
memory_of (Going memory names) = memory
memory_of (Left memory names i) = memory
memory_of (Failed memory i) = memory

abbrev pub for_loop_leaves : Scope → Option PlainLoop → ℕ → Memory → Option Names → Memory
for_loop_leaves scope None count memory names = memory
for_loop_leaves scope (Some l) count memory None = memory
for_loop_leaves scope (Some l) count memory (Some names) = memory_of (iterations scope l count 0 memory names)

-- the memory that the first iterations leave, so many of them
abbrev pub first_leave : Program → List ℕ → ℕ → Memory → Memory
first_leave k args count memory = for_loop_leaves (var_scope k) k.for_loop count memory (started k args memory)
