-- How the run from an iteration on ends: at once, or at an iteration that does not go on.
use Rattle.std.proofs.Common.{◌≡◌, ℕ, zero, suc, ◌+◌, ◌-◌, ◌<◌, ◌≤◌, inl, inr, Option, Some, refl, sym, ap, subst, arith, ⊎_elim}
use Rattle.std.specs.Prelude.{pos, ◌⊎◌}
use Rattle.std.proofs.lemmas.Bool.{cases_lt}
use Rattle.guest_types.specs.Memory.{Memory}
use Rattle.kernel_tree.specs.Plain.{PlainLoop, Returned}
use Rattle.kernel_tree.specs.Typing.{Scope, after_for_loop}
use Rattle.kernel_meaning.specs.Ends.{BlockEnd, Next, Broke, Faulted, LoopState, Going, Failed, go_on}
use Rattle.kernel_meaning.specs.Eval.{Names}
use Rattle.kernel_meaning.specs.Iterate.{with_name, iterate}
use Rattle.kernel_meaning.specs.ScalarRun.{iterations, bound_of, Run, End, returned, ended, closed, finish, for_loop_from}
use Rattle.scalar_words.proofs.Present.{IsThere}
use Rattle.chunk_pass.specs.Halts.{Breaks, Faults}

-- ---- an iteration that does not go on

abbrev pub Halts : BlockEnd Names → Type 0
Halts t = Breaks t ⊎ Faults t

no_next : (m : Memory) (ns : Names) → Halts (Next m ns) → ⊥
no_next m ns (inl h) = h
no_next m ns (inr h) = h

pub none_gone : (s : Scope) (l : PlainLoop) (k i : ℕ) (m : Memory) (ns : Names) (now : Memory) (names : Names) → Halts (iterate s l i m ns) → iterations s l k i m ns ≡ Going now names → k ≡ 0
unfolding iterations
none_gone s l zero i m ns now names h e = refl
none_gone s l (suc k) i m ns now names h e = absurd (by_one_iteration (iterate s l i m ns) h e)
  where
    by_one_iteration : (t : BlockEnd Names) → Halts t → go_on t i (iterations s l k (i + 1)) ≡ Going now names → ⊥
    by_one_iteration (Next m2 ns2) h e = no_next m2 ns2 h
    by_one_iteration (Broke m2 ns2) h e = cc
    by_one_iteration (Faulted m2) h e = cc

pub fails_here : (s : Scope) (l : PlainLoop) (k i : ℕ) (m : Memory) (ns : Names) (now : Memory) (j : ℕ) → Halts (iterate s l i m ns) → iterations s l k i m ns ≡ Failed now j → j ≡ i
unfolding iterations
fails_here s l zero i m ns now j h e = let g : Going m ns ≡ Failed now j = e in absurd cc
fails_here s l (suc k) i m ns now j h e = by_one_iteration (iterate s l i m ns) h e
  where
    by_one_iteration : (t : BlockEnd Names) → Halts t → go_on t i (iterations s l k (i + 1)) ≡ Failed now j → j ≡ i
    by_one_iteration (Next m2 ns2) h e = absurd (no_next m2 ns2 h)
    by_one_iteration (Broke m2 ns2) h e = absurd cc
    by_one_iteration (Faulted m2) h e = cc

-- ---- the end

-- the run ends, with at most so many iterations begun
pub record EndsBy (run : Run) (most : ℕ) : Type 0 where
  pub memory : Memory
  pub result : ℕ
  pub count : ℕ
  pub is : run ≡ End memory result count
  pub few : count ≤ most

-- the answer is there whatever the names are
abbrev pub Answers : Scope → PlainLoop → Option Returned → Type 0
Answers s l answer = (m : Memory) (ns : Names) → IsThere (returned (after_for_loop s (Some l)) answer m ns)

closed_ends : (s : Scope) (l : PlainLoop) (answer : Option Returned) (m : Memory) (ns : Names) (done n most : ℕ) → Answers s l answer → n ≤ most → EndsBy (closed s l answer m ns done n) most
closed_ends s l answer m ns done n most there le = let h = there m (with_name l.index ns (pos done)) in record { memory = m; result = h.0; count = n; is = ap (ended m n) h.1; few = le }

-- no iteration is left
pub bound_ends : (s : Scope) (l : PlainLoop) (answer : Option Returned) (b j : ℕ) (m : Memory) (ns : Names) → Answers s l answer → bound_of l ns ≡ b → j ≡ b → EndsBy (for_loop_from s (Some l) answer j m ns) j
unfolding iterations
bound_ends s l answer b j m ns there e last =
    let none : b - j ≡ 0 = omega (arith, last) in
    subst (λ r. EndsBy r j) (sym (ap (λ n. finish s l answer n (iterations s l (n - j) j m ns)) e))
    (subst (λ n. EndsBy (finish s l answer b (iterations s l n j m ns)) j) (sym none) (closed_ends s l answer m ns b b j there (omega (arith, last))))

abbrev pub more_ends : {run : Run} (most : ℕ) {few : ℕ} → few ≤ most → EndsBy run few → EndsBy run most
more_ends most le e = record { memory = e.memory; result = e.result; count = e.count; is = e.is; few = let f = e.few in omega (arith, f, le) }

-- or the next one breaks
pub break_ends : (s : Scope) (l : PlainLoop) (answer : Option Returned) (b j : ℕ) (m : Memory) (ns : Names) → Answers s l answer → bound_of l ns ≡ b → j ≤ b → Breaks (iterate s l j m ns) → EndsBy (for_loop_from s (Some l) answer j m ns) (j + 1)
unfolding iterations
break_ends s l answer b j m ns there e le breaks =
    ⊎_elim
    (λ lt. subst (λ r. EndsBy r (j + 1)) (sym (ap (λ n. finish s l answer n (iterations s l (n - j) j m ns)) e)) (breaking lt))
    (λ ge. more_ends (j + 1) (omega arith) (bound_ends s l answer b j m ns there e (omega (arith, le, ge))))
    (cases_lt j b)
  where
    by_one_iteration : (t : BlockEnd Names) (rest : Memory → Names → LoopState Names) → Breaks t → EndsBy (finish s l answer b (go_on t j rest)) (j + 1)
    by_one_iteration (Next m2 ns2) rest h = absurd h
    by_one_iteration (Broke m2 ns2) rest h = closed_ends s l answer m2 ns2 j (j + 1) (j + 1) there (omega arith)
    by_one_iteration (Faulted m2) rest h = absurd h

    breaking : j < b → EndsBy (finish s l answer b (iterations s l (b - j) j m ns)) (j + 1)
    breaking lt =
        let more : b - j ≡ suc (b - j - 1) = omega (arith, lt) in
        subst (λ n. EndsBy (finish s l answer b (iterations s l n j m ns)) (j + 1)) (sym more) (by_one_iteration (iterate s l j m ns) (iterations s l (b - j - 1) (j + 1)) breaks)
