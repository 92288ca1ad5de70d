-- What a run of at most some iterations answers is what the whole run does.
use Rattle.std.proofs.Common.{◌≡◌, ℕ, ◌+◌, ◌-◌, ◌<◌, ◌≤◌, List, [], ◌∷◌, Bool, true, false, cond, Option, Some, None, length, refl, sym, ap, subst, ◌∙◌, arith, ltb}
use Rattle.std.specs.Prelude.{pos, nat_lt, min}
use Rattle.std.proofs.lemmas.Bool.{ltb-true, ltb-false}
use Rattle.kernel_tree.specs.Plain.{Action, Choose, Block, Done, Then, Otherwise, Nothing, Else, Accumulator, PlainLoop, Returned, Program}
use Rattle.kernel_tree.specs.Items.{action_size, block_size, otherwise_size, vars_size, for_loop_size, loop_index, size_of}
use Rattle.kernel_tree.specs.Limits.{most_items}
use Rattle.kernel_tree.specs.Typing.{Scope, after_for_loop, var_scope, check_fault, Refusal, TooLarge}
use Rattle.guest_types.specs.Memory.{Memory}
use Rattle.kernel_meaning.specs.Ends.{LoopState}
use Rattle.kernel_meaning.specs.Eval.{Names}
use Rattle.kernel_meaning.specs.Iterate.{with_name}
use Rattle.kernel_meaning.specs.ScalarRun.{iterations, bound_of, Run, End, Fault, begun, returned, ended, closed, finish, run_for_loop, run_named, started, scalar_run, memory_of, for_loop_leaves, first_leave}
use Rattle.kernel_meaning.specs.Answers.{IsOutcome}
use Rattle.kernel_meaning.specs.declared.outcome.ScalarOutcome.{ScalarOutcome}
use Rattle.kernel_meaning.specs.declared.outcome.ScalarOutcome.TheVariants as outcome
use Rattle.kernel_plan.specs.Resolve.{most_slots}
use Rattle.kernel_eval.specs.SlotRuns.{Ended, Cut, limited_of}
use Rattle.kernel_eval.proofs.ResolvedStatements.{action_lets, block_lets, otherwise_lets}
use Rattle.kernel_eval.proofs.ResolvedRuns.{finish_limited, loop_limited, for_loop_limited, run_limited, for_loop_lets}
use Rattle.kernel_meaning.proofs.RunsFrom.{Ends, GoesOn, LeftAt, FailedAt, iterations-ends, further, iterations-further}

-- ---- outcomes

-- a run that ended within some iterations
pub within_limit : (outcome : ScalarOutcome) (limit : ℕ) (run : Run) (after first : Memory) → limited_of outcome after ≡ Ended run → begun run ≤ limit → IsOutcome outcome limit run after first
within_limit (outcome.End r n) limit run after first e le = let h : run ≡ End after r n = cc in (h, subst (λ r. begun r ≤ limit) h le)
within_limit (outcome.Fault n) limit run after first e le = let h : run ≡ Fault after n = cc in (h, subst (λ r. begun r ≤ limit) h le)
within_limit outcome.Spent limit run after first e le = absurd (let no : Cut after ≡ Ended run = e in cc)

pub past_limit : (outcome : ScalarOutcome) (limit : ℕ) (run : Run) (after first : Memory) → limited_of outcome after ≡ Cut first → limit < begun run → IsOutcome outcome limit run after first
past_limit (outcome.End r n) limit run after first e lt = absurd (let no : Ended (End after r n) ≡ Cut first = e in cc)
past_limit (outcome.Fault n) limit run after first e lt = absurd (let no : Ended (Fault after n) ≡ Cut first = e in cc)
past_limit outcome.Spent limit run after first e lt = let h : after ≡ first = cc in (lt, h)

-- ---- loops

begun_ended : (m : Memory) (n : ℕ) (o : Option ℕ) → begun (ended m n o) ≡ n
begun_ended m n None = refl
begun_ended m n (Some r) = refl

-- a loop that begins no more iterations than the limit
finish_within : (s : Scope) (l : PlainLoop) (a : Option Returned) (n limit : ℕ) (st : LoopState Names) (outcome : ScalarOutcome) (after first : Memory) → Ends 0 n st → n ≤ limit → nat_lt limit n ≡ false → limited_of outcome after ≡ finish_limited s l a n limit st → IsOutcome outcome limit (finish s l a n st) after first
finish_within s l a n limit _ outcome after first (GoesOn m ns) le e h =
    within_limit outcome limit (closed s l a m ns n n) after first (h ∙ ap (λ b. cond b (Cut m) (Ended (closed s l a m ns n n))) e) (omega (arith, begun_ended m n (returned (after_for_loop s (Some l)) a m (with_name l.index ns (pos n)))))
finish_within s l a n limit _ outcome after first (LeftAt m ns i f g) le e h =
    within_limit outcome limit (closed s l a m ns i (i + 1)) after first h (omega (arith, begun_ended m (i + 1) (returned (after_for_loop s (Some l)) a m (with_name l.index ns (pos i)))))
finish_within s l a n limit _ outcome after first (FailedAt m i f g) le e h = within_limit outcome limit (Fault m (i + 1)) after first h (omega arith)

begun_past : (s : Scope) (l : PlainLoop) (a : Option Returned) (n limit : ℕ) (st : LoopState Names) → Ends limit n st → limit < n → limit < begun (finish s l a n st)
begun_past s l a n limit _ (GoesOn m ns) lt = omega (arith, begun_ended m n (returned (after_for_loop s (Some l)) a m (with_name l.index ns (pos n))))
begun_past s l a n limit _ (LeftAt m ns i f g) lt = omega (arith, begun_ended m (i + 1) (returned (after_for_loop s (Some l)) a m (with_name l.index ns (pos i))))
begun_past s l a n limit _ (FailedAt m i f g) lt = omega arith

-- one that may begin more
finish_past : (s : Scope) (l : PlainLoop) (a : Option Returned) (n limit more : ℕ) (st : LoopState Names) (outcome : ScalarOutcome) (after : Memory) → Ends 0 limit st → n ≡ limit + more → limit < n → nat_lt limit n ≡ true → limited_of outcome after ≡ finish_limited s l a n limit st → IsOutcome outcome limit (finish s l a n (further s l more limit st)) after (memory_of st)
finish_past s l a n limit more _ outcome after (GoesOn m ns) e lt f h =
    past_limit outcome limit (finish s l a n (iterations s l more limit m ns)) after m (h ∙ ap (λ b. cond b (Cut m) (Ended (closed s l a m ns n n))) f) (begun_past s l a n limit (iterations s l more limit m ns) (iterations-ends s l more limit n m ns e) lt)
finish_past s l a n limit more _ outcome after (LeftAt m ns i f g) e lt t h =
    within_limit outcome limit (closed s l a m ns i (i + 1)) after m h (omega (arith, begun_ended m (i + 1) (returned (after_for_loop s (Some l)) a m (with_name l.index ns (pos i)))))
finish_past s l a n limit more _ outcome after (FailedAt m i f g) e lt t h = within_limit outcome limit (Fault m (i + 1)) after m h (omega arith)

loop-outcome : (s : Scope) (l : PlainLoop) (a : Option Returned) (limit n : ℕ) (m : Memory) (ns : Names) (outcome : ScalarOutcome) (after : Memory) → limited_of outcome after ≡ loop_limited s l a limit n m ns → IsOutcome outcome limit (finish s l a n (iterations s l n 0 m ns)) after (memory_of (iterations s l limit 0 m ns))
loop-outcome s l a limit n m ns outcome after h = by_limit (ltb limit n) refl
  where
    by_limit : (b : Bool) → ltb limit n ≡ b → IsOutcome outcome limit (finish s l a n (iterations s l n 0 m ns)) after (memory_of (iterations s l limit 0 m ns))
    by_limit false e =
        let le = ltb-false limit n e in
        let short : min n limit ≡ n = omega arith in
        finish_within s l a n limit (iterations s l n 0 m ns) outcome after (memory_of (iterations s l limit 0 m ns)) (iterations-ends s l n 0 n m ns (omega arith)) le e (h ∙ ap (λ c. finish_limited s l a n limit (iterations s l c 0 m ns)) short)
    by_limit true e =
        let lt = ltb-true limit n e in
        let short : min n limit ≡ limit = omega arith in
        let whole : iterations s l n 0 m ns ≡ further s l (n - limit) limit (iterations s l limit 0 m ns) = iterations-further s l (n - limit) limit 0 n limit m ns (omega arith) (omega arith) in
        subst (λ st. IsOutcome outcome limit (finish s l a n st) after (memory_of (iterations s l limit 0 m ns))) (sym whole)
        (finish_past s l a n limit (n - limit) (iterations s l limit 0 m ns) outcome after (iterations-ends s l limit 0 limit m ns (omega arith)) (omega arith) lt e (h ∙ ap (λ c. finish_limited s l a n limit (iterations s l c 0 m ns)) short))

-- ---- kernels

for_loop-outcome : (s : Scope) (t : Option PlainLoop) (a : Option Returned) (limit : ℕ) (m : Memory) (ns : Names) (outcome : ScalarOutcome) (after : Memory) → limited_of outcome after ≡ for_loop_limited s t a limit m ns → IsOutcome outcome limit (run_for_loop s t a m ns) after (for_loop_leaves s t limit m (Some ns))
for_loop-outcome s None a limit m ns outcome after h = within_limit outcome limit (ended m 0 (returned s a m ns)) after m h (omega (arith, begun_ended m 0 (returned s a m ns)))
for_loop-outcome s (Some l) a limit m ns outcome after h = loop-outcome s l a limit (bound_of l ns) m ns outcome after h

named-outcome : (k : Program) (limit : ℕ) (m : Memory) (o : Option Names) (outcome : ScalarOutcome) (after : Memory) → limited_of outcome after ≡ run_limited k limit m o → IsOutcome outcome limit (run_named k m o) after (for_loop_leaves (var_scope k) k.for_loop limit m o)
named-outcome k limit m None outcome after h = within_limit outcome limit (Fault m 0) after (for_loop_leaves (var_scope k) k.for_loop limit m None) h (omega arith)
named-outcome k limit m (Some ns) outcome after h = for_loop-outcome (var_scope k) k.for_loop k.answer limit m ns outcome after h

-- the answer of a run of at most some iterations
pub run-outcome : (k : Program) (args : List ℕ) (limit : ℕ) (m : Memory) (outcome : ScalarOutcome) (after : Memory) → limited_of outcome after ≡ run_limited k limit m (started k args m) → IsOutcome outcome limit (scalar_run k args m) after (first_leave k args limit m)
run-outcome k args limit m outcome after h = named-outcome k limit m (started k args m) outcome after h

-- ---- sizes

mutual
  action_within : (a : Action) (i : Option (List ℕ)) → action_lets a ≤ action_size i a
  action_within (Choose c b d) i = omega (arith, block_within b i, otherwise_within d i)
  action_within other i = omega arith

  block_within : (b : Block) (i : Option (List ℕ)) → block_lets b ≤ block_size i b
  block_within Done i = omega arith
  block_within (Then a b) i = omega (arith, action_within a i, block_within b i)

  otherwise_within : (d : Otherwise) (i : Option (List ℕ)) → otherwise_lets d ≤ otherwise_size i d
  otherwise_within Nothing i = omega arith
  otherwise_within (Else b) i = omega (arith, block_within b i)

vars_within : (us : List Accumulator) (i : Option (List ℕ)) → length us ≤ vars_size i us
vars_within [] i = omega arith
vars_within (v ∷ us) i = omega (arith, vars_within us i)

for_loop_within : (t : Option PlainLoop) → for_loop_lets t ≤ for_loop_size t
for_loop_within None = omega arith
for_loop_within (Some l) = omega (arith, block_within l.body (Some l.index))

not_large : (b : Bool) (x : Refusal) (o : Option Refusal) → cond b (Some x) o ≡ None → b ≡ false
not_large true x o h = cc
not_large false x o h = refl

-- a checked kernel has fewer names than slots
pub checked-room : (k : Program) → check_fault k ≡ None → length k.params + length k.vars + for_loop_lets k.for_loop ≤ most_slots
checked-room k h =
    let small = ltb-false most_items (size_of k) (not_large (nat_lt most_items (size_of k)) (TooLarge (size_of k)) _ h) in
    omega (arith, small, vars_within k.vars (loop_index k), for_loop_within k.for_loop)
