-- Courses of iterations, one after another, and the run from an iteration on.
use Rattle.std.proofs.Common.{◌≡◌, ℕ, zero, suc, ◌+◌, ◌-◌, ◌<◌, ◌≤◌, List, Option, Some, None, refl, sym, ap, ap₂, ◌∙◌, arith}
use Rattle.guest_types.specs.Memory.{Memory}
use Rattle.kernel_tree.specs.Plain.{PlainLoop, Returned, Program}
use Rattle.kernel_tree.specs.Typing.{Scope, var_scope}
use Rattle.kernel_meaning.specs.Ends.{BlockEnd, Next, Broke, Faulted, LoopState, Going, Left, Failed, go_on}
use Rattle.kernel_meaning.specs.Eval.{Names}
use Rattle.kernel_meaning.specs.Iterate.{iterate}
use Rattle.kernel_meaning.specs.ScalarRun.{iterations, bound_of, Fault, closed, finish, run_for_loop, run_named, started, scalar_run, for_loop_from, run_from, IsWithin}

-- ---- where a course ends

-- where a course ends: at an iteration before its last, or it goes on
pub data Ends (from last_use : ℕ) : LoopState Names → Type 0 where
  GoesOn : (m : Memory) (ns : Names) → Ends from last_use (Going m ns)
  LeftAt : (m : Memory) (ns : Names) (i : ℕ) → from ≤ i → i < last_use → Ends from last_use (Left m ns i)
  FailedAt : (m : Memory) (i : ℕ) → from ≤ i → i < last_use → Ends from last_use (Failed m i)

ends_from_earlier : (from next last_use : ℕ) (st : LoopState Names) → from ≤ next → Ends next last_use st → Ends from last_use st
ends_from_earlier from next last_use _ le (GoesOn m ns) = GoesOn m ns
ends_from_earlier from next last_use _ le (LeftAt m ns i h g) = LeftAt m ns i (omega arith) g
ends_from_earlier from next last_use _ le (FailedAt m i h g) = FailedAt m i (omega arith) g

ends_step : (t : BlockEnd Names) (i last_use : ℕ) (rest : Memory → Names → LoopState Names) → i < last_use → ((m : Memory) (ns : Names) → Ends (i + 1) last_use (rest m ns)) → Ends i last_use (go_on t i rest)
ends_step (Next m ns) i last_use rest lt next = ends_from_earlier i (i + 1) last_use (rest m ns) (omega arith) (next m ns)
ends_step (Broke m ns) i last_use rest lt next = LeftAt m ns i (omega arith) lt
ends_step (Faulted m) i last_use rest lt next = FailedAt m i (omega arith) lt

pub iterations-ends : (s : Scope) (l : PlainLoop) (count i last_use : ℕ) (m : Memory) (ns : Names) → last_use ≡ i + count → Ends i last_use (iterations s l count i m ns)
unfolding iterations
iterations-ends s l zero i last_use m ns e = GoesOn m ns
iterations-ends s l (suc count) i last_use m ns e = ends_step (iterate s l i m ns) i last_use (iterations s l count (i + 1)) (omega arith) (λ m' ns'. iterations-ends s l count (i + 1) last_use m' ns' (omega arith))

-- ---- one after another

-- more iterations after a course
abbrev pub further : Scope → PlainLoop → ℕ → ℕ → LoopState Names → LoopState Names
further s l more i (Going m ns) = iterations s l more i m ns
further s l more i (Left m ns j) = Left m ns j
further s l more i (Failed m j) = Failed m j

further_step : (s : Scope) (l : PlainLoop) (more i last_use : ℕ) (t : BlockEnd Names) (rest whole : Memory → Names → LoopState Names) → ((m : Memory) (ns : Names) → whole m ns ≡ further s l more last_use (rest m ns)) → go_on t i whole ≡ further s l more last_use (go_on t i rest)
further_step s l more i last_use (Next m ns) rest whole h = h m ns
further_step s l more i last_use (Broke m ns) rest whole h = refl
further_step s l more i last_use (Faulted m) rest whole h = refl

-- a course of count and more iterations
pub iterations-further : (s : Scope) (l : PlainLoop) (more count i all last_use : ℕ) (m : Memory) (ns : Names) → all ≡ count + more → last_use ≡ i + count → iterations s l all i m ns ≡ further s l more last_use (iterations s l count i m ns)
unfolding iterations
iterations-further s l more zero i all last_use m ns e f =
    let p : all ≡ more = omega arith in
    let q : i ≡ last_use = omega arith in
    ap₂ (λ a b. iterations s l a b m ns) p q
iterations-further s l more (suc count) i all last_use m ns e f =
    let p : all ≡ suc (count + more) = omega arith in
    ap (λ a. iterations s l a i m ns) p
    ∙ further_step s l more i last_use (iterate s l i m ns) (iterations s l count (i + 1)) (iterations s l (count + more) (i + 1)) (λ m' ns'. iterations-further s l more count (i + 1) (count + more) last_use m' ns' refl (omega arith))

-- iterations after some that went on
pub iterations_on : (s : Scope) (l : PlainLoop) (a b i : ℕ) (m : Memory) (ns : Names) (now : Memory) (names : Names) → iterations s l a i m ns ≡ Going now names → iterations s l (a + b) i m ns ≡ iterations s l b (i + a) now names
iterations_on s l a b i m ns now names h = iterations-further s l b a i (a + b) (i + a) m ns refl refl ∙ ap (further s l b (i + a)) h

-- iterations after a fault are none
pub fails_on : (s : Scope) (l : PlainLoop) (a b i : ℕ) (m : Memory) (ns : Names) (now : Memory) (j : ℕ) → iterations s l a i m ns ≡ Failed now j → iterations s l (a + b) i m ns ≡ Failed now j
fails_on s l a b i m ns now j h = iterations-further s l b a i (a + b) (i + a) m ns refl refl ∙ ap (further s l b (i + a)) h

pub no_iterations : (s : Scope) (l : PlainLoop) (i : ℕ) (m : Memory) (ns : Names) → iterations s l 0 i m ns ≡ Going m ns
unfolding iterations
no_iterations s l i m ns = refl

-- no iteration is done by a course of none
pub none_done : (s : Scope) (l : PlainLoop) (i : ℕ) (m : Memory) (ns : Names) (now : Memory) (names : Names) → iterations s l 0 i m ns ≡ Going now names → (now ≡ m) × (names ≡ ns)
none_done s l i m ns now names h = let g : Going m ns ≡ Going now names = sym (no_iterations s l i m ns) ∙ h in (cc, cc)

-- ---- the run from an iteration on

pub from_start : (s : Scope) (for_loop : Option PlainLoop) (answer : Option Returned) (m : Memory) (names : Names) → for_loop_from s for_loop answer 0 m names ≡ run_for_loop s for_loop answer m names
from_start s None answer m names = refl
from_start s (Some l) answer m names = let e : bound_of l names - 0 ≡ bound_of l names = omega arith in ap (λ n. finish s l answer (bound_of l names) (iterations s l n 0 m names)) e

pub start_within : (for_loop : Option PlainLoop) (names : Names) → IsWithin for_loop 0 names
start_within None names = refl
start_within (Some l) names = omega arith

-- from iteration 0 on it is the whole run
pub whole_run : (k : Program) (args : List ℕ) (m : Memory) (names : Names) → started k args m ≡ Some names → run_from k 0 m names ≡ scalar_run k args m
whole_run k args m names starts = from_start (var_scope k) k.for_loop k.answer m names ∙ sym (ap (run_named k m) starts)

-- it is that from a later iteration to which the iterations between lead
pub for_loop_on : (s : Scope) (l : PlainLoop) (answer : Option Returned) (b a i : ℕ) (m : Memory) (ns : Names) (now : Memory) (names : Names) → bound_of l ns ≡ b → bound_of l names ≡ b → i + a ≤ b → iterations s l a i m ns ≡ Going now names
    → for_loop_from s (Some l) answer i m ns ≡ for_loop_from s (Some l) answer (i + a) now names
for_loop_on s l answer b a i m ns now names e f le h =
    let split : b - i ≡ a + (b - (i + a)) = omega (arith, le) in
    ap (λ n. finish s l answer n (iterations s l (n - i) i m ns)) e
    ∙ ap (λ n. finish s l answer b (iterations s l n i m ns)) split
    ∙ ap (finish s l answer b) (iterations_on s l a (b - (i + a)) i m ns now names h)
    ∙ ap (λ n. finish s l answer n (iterations s l (n - (i + a)) (i + a) now names)) (sym f)

pub for_loop_fails : (s : Scope) (l : PlainLoop) (answer : Option Returned) (b a i : ℕ) (m : Memory) (ns : Names) (now : Memory) (j : ℕ) → bound_of l ns ≡ b → i + a ≤ b → iterations s l a i m ns ≡ Failed now j → for_loop_from s (Some l) answer i m ns ≡ Fault now (j + 1)
for_loop_fails s l answer b a i m ns now j e le h =
    let split : b - i ≡ a + (b - (i + a)) = omega (arith, le) in
    ap (λ n. finish s l answer n (iterations s l (n - i) i m ns)) e
    ∙ ap (λ n. finish s l answer b (iterations s l n i m ns)) split
    ∙ ap (finish s l answer b) (fails_on s l a (b - (i + a)) i m ns now j h)

-- ---- one iteration more

pub one_on : (s : Scope) (l : PlainLoop) (answer : Option Returned) (i : ℕ) (m : Memory) (names : Names) → i < bound_of l names
    → for_loop_from s (Some l) answer i m names ≡ finish s l answer (bound_of l names) (go_on (iterate s l i m names) i (iterations s l (bound_of l names - (i + 1)) (i + 1)))
unfolding iterations
one_on s l answer i m names lt =
    let more : bound_of l names - i ≡ suc (bound_of l names - (i + 1)) = omega (arith, lt) in
    ap (λ n. finish s l answer (bound_of l names) (iterations s l n i m names)) more

for_loop_is : (k : Program) (l : PlainLoop) (i : ℕ) (m : Memory) (names : Names) → k.for_loop ≡ Some l → run_from k i m names ≡ for_loop_from (var_scope k) (Some l) k.answer i m names
for_loop_is k l i m names has = ap (λ t. for_loop_from (var_scope k) t k.answer i m names) has

-- one that ends so
iteration_ended : (k : Program) (l : PlainLoop) (i : ℕ) (m : Memory) (names : Names) (t : BlockEnd Names) → k.for_loop ≡ Some l → i < bound_of l names → iterate (var_scope k) l i m names ≡ t
    → run_from k i m names ≡ finish (var_scope k) l k.answer (bound_of l names) (go_on t i (iterations (var_scope k) l (bound_of l names - (i + 1)) (i + 1)))
iteration_ended k l i m names t has lt e =
    for_loop_is k l i m names has ∙ one_on (var_scope k) l k.answer i m names lt ∙ ap (λ t. finish (var_scope k) l k.answer (bound_of l names) (go_on t i (iterations (var_scope k) l (bound_of l names - (i + 1)) (i + 1)))) e

pub run_from_next_iteration : (k : Program) (l : PlainLoop) (i : ℕ) (m now : Memory) (names next : Names) → k.for_loop ≡ Some l → i < bound_of l names → bound_of l next ≡ bound_of l names → iterate (var_scope k) l i m names ≡ Next now next → run_from k i m names ≡ run_from k (i + 1) now next
run_from_next_iteration k l i m now names next has lt same e =
    iteration_ended k l i m names (Next now next) has lt e
    ∙ ap (λ n. finish (var_scope k) l k.answer n (iterations (var_scope k) l (n - (i + 1)) (i + 1) now next)) (sym same) ∙ sym (for_loop_is k l (i + 1) now next has)

pub breaks : (k : Program) (l : PlainLoop) (i : ℕ) (m now : Memory) (names next : Names) → k.for_loop ≡ Some l → i < bound_of l names → iterate (var_scope k) l i m names ≡ Broke now next → run_from k i m names ≡ closed (var_scope k) l k.answer now next i (i + 1)
breaks k l i m now names next has lt e = iteration_ended k l i m names (Broke now next) has lt e

pub faults : (k : Program) (l : PlainLoop) (i : ℕ) (m now : Memory) (names : Names) → k.for_loop ≡ Some l → i < bound_of l names → iterate (var_scope k) l i m names ≡ Faulted now → run_from k i m names ≡ Fault now (i + 1)
faults k l i m now names has lt e = iteration_ended k l i m names (Faulted now) has lt e

-- no iteration is left
pub over : (k : Program) (l : PlainLoop) (i : ℕ) (m : Memory) (names : Names) → k.for_loop ≡ Some l → i ≡ bound_of l names → run_from k i m names ≡ closed (var_scope k) l k.answer m names i i
over k l i m names has e =
    let none : bound_of l names - i ≡ 0 = omega (arith, e) in
    for_loop_is k l i m names has
    ∙ ap (λ n. finish (var_scope k) l k.answer (bound_of l names) (iterations (var_scope k) l n i m names)) none
    ∙ ap (finish (var_scope k) l k.answer (bound_of l names)) (no_iterations (var_scope k) l i m names)
    ∙ ap (λ n. closed (var_scope k) l k.answer m names n n) (sym e)
