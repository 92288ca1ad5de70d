-- A resolved kernel does what its kernel does.
use Rattle.std.proofs.Common.{◌≡◌, ℕ, zero, suc, ◌+◌, ◌-◌, ◌<◌, ◌≤◌, List, [], ◌∷◌, ◌++◌, Option, Some, None, length, map, replicate, refl, sym, ap, ap₂, subst, ◌∙◌, arith}
use Rattle.std.specs.Prelude.{ℤ, pos, option_map, option_and_then, nat_lt, min, slice_set, drop, if◌then◌else◌}
use Rattle.std.proofs.lemmas.List.{length-set, length-append, length-map, length-replicate}
use Rattle.kernel_tree.specs.Plain.{Parameter, Accumulator, PlainLoop, Returned, Program}
use Rattle.kernel_tree.specs.Typing.{Scope, Local, local, declared, in_loop, after_for_loop, after_block, after_vars, param_scope, var_scope}
use Rattle.kernel_tree.specs.Scopes.{locals_of}
use Rattle.kernel_tree.proofs.Scopes.{param_visible}
use Rattle.guest_types.specs.Memory.{Memory}
use Rattle.kernel_meaning.specs.Ends.{BlockEnd, Next, Faulted, LoopState, Going, Left, Failed, go_on}
use Rattle.kernel_meaning.specs.Operators.{word}
use Rattle.kernel_meaning.specs.Eval.{Names, value_of, value}
use Rattle.kernel_meaning.specs.Iterate.{with_name, do_block, iterate}
use Rattle.kernel_meaning.specs.ScalarRun.{argument_names, initial, iterations, bound_of, Fault, returned, ended, closed, started}
use Rattle.kernel_eval.specs.Slots.{Slots, set_slot, then_go, do_tasks}
use Rattle.kernel_plan.specs.Resolve.{most_slots, resolved_block}
use Rattle.kernel_plan.specs.Plans.{resolved_vars, resolved_loop, resolved_for_loop, resolved_answer, planned}
use Rattle.kernel_eval.specs.SlotRuns.{filled, slot_iteration, slot_iterations, slot_answer, slot_closed, Limited, Ended, Cut, slot_finish, slot_loop, slot_for_loop, slot_begun, slot_run}
use Rattle.kernel_eval.proofs.HeldSlots.{AreInSlots, value-held, named-held, held-length}
use Rattle.kernel_eval.proofs.ResolvedValues.{resolved_value_is_same}
use Rattle.kernel_meaning.proofs.Extends.{Extends, extends_one, extends_on, visible_block}
use Rattle.kernel_eval.proofs.ResolvedStatements.{Closed, NextsIn, BreaksIn, FaultsIn, widen, cut-same, block-same, block_lets}
use Rattle.kernel_tree.specs.declared.fault.Binding.TheVariants as binding

-- ---- iterations

body_extends : (s : Scope) (l : PlainLoop) → Extends s.visible (after_block (in_loop s l) l.body).visible
body_extends s l = extends_on (extends_one s.visible (local l.index binding.Index)) (visible_block (in_loop s l) l.body)

iterate-same : (s : Scope) (l : PlainLoop) (i : ℕ) (m : Memory) (ns : Names) (vs : Slots) → AreInSlots s.visible ns vs → length vs ≡ most_slots → length s.visible + 1 + block_lets l.body ≤ most_slots → Closed s (iterate s l i m ns) (slot_iteration (resolved_loop s l) i m vs)
iterate-same s l i m ns vs h n room =
    let ns' = with_name l.index ns (pos i) in
    let vs' = slice_set vs (length s.visible) (pos i) in
    let h' = named-held s.visible ns vs l.index binding.Index (pos i) h (omega arith) in
    let n' : length vs' ≡ most_slots = length-set vs (length s.visible) (pos i) ∙ n in
    let more : length (in_loop s l).visible ≡ length s.visible + 1 = length-append s.visible (local l.index binding.Index ∷ []) in
    cut-same s (after_block (in_loop s l) l.body) (length ns) (do_block (in_loop s l) l.body m ns') (do_tasks (resolved_block (in_loop s l) l.body) m vs')
    (widen s (in_loop s l) (after_block (in_loop s l) l.body) _ _ (extends_one s.visible (local l.index binding.Index)) (block-same l.body (in_loop s l) m ns' vs' h' n' (omega arith)))
    (body_extends s l) (held-length s.visible ns vs h)

-- two loops that stand alike
pub data Alongside (s : Scope) : LoopState Names → LoopState Slots → Type 0 where
  GoesOn : (m : Memory) (ns : Names) (vs : Slots) → AreInSlots s.visible ns vs → length vs ≡ most_slots → Alongside s (Going m ns) (Going m vs)
  LeftAt : (m : Memory) (ns : Names) (vs : Slots) (i : ℕ) → AreInSlots s.visible ns vs → length vs ≡ most_slots → Alongside s (Left m ns i) (Left m vs i)
  FailedAt : (m : Memory) (i : ℕ) → Alongside s (Failed m i) (Failed m i)

go_on-same : (s : Scope) (t : BlockEnd Names) (stand : BlockEnd Slots) (i : ℕ) (rest : Memory → Names → LoopState Names) (others : Memory → Slots → LoopState Slots) → Closed s t stand → ((m : Memory) (ns : Names) (vs : Slots) → AreInSlots s.visible ns vs → length vs ≡ most_slots → Alongside s (rest m ns) (others m vs)) → Alongside s (go_on t i rest) (go_on stand i others)
go_on-same s _ _ i rest others (NextsIn m ns vs h n) next = next m ns vs h n
go_on-same s _ _ i rest others (BreaksIn m ns vs h n) next = LeftAt m ns vs i h n
go_on-same s _ _ i rest others (FaultsIn m) next = FailedAt m i

iterations-same : (count i : ℕ) (s : Scope) (l : PlainLoop) (m : Memory) (ns : Names) (vs : Slots) → AreInSlots s.visible ns vs → length vs ≡ most_slots → length s.visible + 1 + block_lets l.body ≤ most_slots → Alongside s (iterations s l count i m ns) (slot_iterations (resolved_loop s l) count i m vs)
unfolding iterations slot_iterations
iterations-same zero i s l m ns vs h n room = GoesOn m ns vs h n
iterations-same (suc count) i s l m ns vs h n room =
    go_on-same s (iterate s l i m ns) (slot_iteration (resolved_loop s l) i m vs) i (iterations s l count (i + 1)) (slot_iterations (resolved_loop s l) count (i + 1)) (iterate-same s l i m ns vs h n room)
    (λ m' ns' vs' h' n'. iterations-same count (i + 1) s l m' ns' vs' h' n' room)

-- ---- the end

answer-same : (s : Scope) (a : Option Returned) (m : Memory) (ns : Names) (vs : Slots) → AreInSlots s.visible ns vs → length vs ≡ most_slots → returned s a m ns ≡ slot_answer (resolved_answer s a) m vs
answer-same s None m ns vs h n = refl
answer-same s (Some a) m ns vs h n = ap (option_map word) (sym ((resolved_value_is_same s a.value m ns vs h (omega arith)).value_is (Some a.type)))

closed-same : (s : Scope) (l : PlainLoop) (a : Option Returned) (m : Memory) (ns : Names) (vs : Slots) (done n : ℕ) → AreInSlots s.visible ns vs → length vs ≡ most_slots → length s.visible + 1 ≤ most_slots → closed s l a m ns done n ≡ slot_closed (resolved_answer (after_for_loop s (Some l)) a) (length s.visible) m vs done n
closed-same s l a m ns vs done n h e room =
    ap (ended m n) (answer-same (after_for_loop s (Some l)) a m (with_name l.index ns (pos done)) (slice_set vs (length s.visible) (pos done)) (named-held s.visible ns vs l.index binding.Index (pos done) h (omega arith)) (length-set vs (length s.visible) (pos done) ∙ e))

-- a run that is cut short after some iterations
abbrev pub finish_limited : Scope → PlainLoop → Option Returned → (n limit : ℕ) → LoopState Names → Limited
finish_limited s l a n limit (Going m ns) = if nat_lt limit n then Cut m else Ended (closed s l a m ns n n)
finish_limited s l a n limit (Left m ns i) = Ended (closed s l a m ns i (i + 1))
finish_limited s l a n limit (Failed m i) = Ended (Fault m (i + 1))

abbrev pub loop_limited : Scope → PlainLoop → Option Returned → ℕ → ℕ → Memory → Names → Limited
loop_limited s l a limit n m ns = finish_limited s l a n limit (iterations s l (min n limit) 0 m ns)

abbrev pub for_loop_limited : Scope → Option PlainLoop → Option Returned → ℕ → Memory → Names → Limited
for_loop_limited s None a limit m ns = Ended (ended m 0 (returned s a m ns))
for_loop_limited s (Some l) a limit m ns = loop_limited s l a limit (bound_of l ns) m ns

abbrev pub run_limited : Program → ℕ → Memory → Option Names → Limited
run_limited k limit m None = Ended (Fault m 0)
run_limited k limit m (Some ns) = for_loop_limited (var_scope k) k.for_loop k.answer limit m ns

finish-same : (s : Scope) (l : PlainLoop) (a : Option Returned) (n limit : ℕ) (st : LoopState Names) (c : LoopState Slots) → Alongside s st c → length s.visible + 1 ≤ most_slots → finish_limited s l a n limit st ≡ slot_finish (resolved_answer (after_for_loop s (Some l)) a) (length s.visible) n limit c
finish-same s l a n limit _ _ (GoesOn m ns vs h e) room = ap (λ r. if nat_lt limit n then Cut m else Ended r) (closed-same s l a m ns vs n n h e room)
finish-same s l a n limit _ _ (LeftAt m ns vs i h e) room = ap Ended (closed-same s l a m ns vs i (i + 1) h e room)
finish-same s l a n limit _ _ (FailedAt m i) room = refl

abbrev pub for_loop_lets : Option PlainLoop → ℕ
for_loop_lets None = 0
for_loop_lets (Some l) = 1 + block_lets l.body

for_loop-same : (s : Scope) (t : Option PlainLoop) (a : Option Returned) (limit : ℕ) (m : Memory) (ns : Names) (vs : Slots) → AreInSlots s.visible ns vs → length vs ≡ most_slots → length s.visible + for_loop_lets t ≤ most_slots → for_loop_limited s t a limit m ns ≡ slot_for_loop (resolved_answer (after_for_loop s t) a) (resolved_for_loop s t) limit m vs
for_loop-same s None a limit m ns vs h e room = ap (λ r. Ended (ended m 0 r)) (answer-same s a m ns vs h e)
for_loop-same s (Some l) a limit m ns vs h e room =
    let bound = value-held s.visible ns vs l.bound h (omega arith) in
    finish-same s l a (bound_of l ns) limit (iterations s l (min (bound_of l ns) limit) 0 m ns) (slot_iterations (resolved_loop s l) (min (bound_of l ns) limit) 0 m vs) (iterations-same (min (bound_of l ns) limit) 0 s l m ns vs h e (omega arith)) (omega arith)
    ∙ ap (λ z. slot_loop (resolved_answer (after_for_loop s (Some l)) a) (resolved_loop s l) limit (word z) m vs) (sym bound)

-- ---- the start

pub data Started (s : Scope) (m : Memory) : Option Names → BlockEnd Slots → Type 0 where
  Begins : (ns : Names) (vs : Slots) → AreInSlots s.visible ns vs → length vs ≡ most_slots → Started s m (Some ns) (Next m vs)
  Stops : Started s m None (Faulted m)

vars_step : (s t : Scope) (v : Accumulator) (rest : Names → Option Names) (others : Memory → Slots → BlockEnd Slots) (m : Memory) (ns : Names) (vs : Slots) (o : Option ℤ) → AreInSlots s.visible ns vs → length vs ≡ most_slots → length s.visible < most_slots → ((ns' : Names) (vs' : Slots) → AreInSlots (declared s v.name (binding.Accumulator v.type)).visible ns' vs' → length vs' ≡ most_slots → Started t m (rest ns') (others m vs')) → Started t m (option_and_then rest (option_map (with_name v.name ns) o)) (then_go (set_slot (length s.visible) m vs o) others)
vars_step s t v rest others m ns vs None h e room next = Stops
vars_step s t v rest others m ns vs (Some z) h e room next = next (with_name v.name ns z) (slice_set vs (length s.visible) z) (named-held s.visible ns vs v.name (binding.Accumulator v.type) z h (omega arith)) (length-set vs (length s.visible) z ∙ e)

vars-same : (us : List Accumulator) (s : Scope) (m : Memory) (ns : Names) (vs : Slots) → AreInSlots s.visible ns vs → length vs ≡ most_slots → length s.visible + length us ≤ most_slots → Started (after_vars s us) m (initial s us m ns) (do_tasks (resolved_vars s us) m vs)
vars-same [] s m ns vs h e room = Begins ns vs h e
vars-same (v ∷ us) s m ns vs h e room =
    let t = declared s v.name (binding.Accumulator v.type) in
    let more : length t.visible ≡ length s.visible + 1 = length-append s.visible (local v.name (binding.Accumulator v.type) ∷ []) in
    let o = (resolved_value_is_same s v.init m ns vs h (omega arith)).value_is (Some v.type) in
    subst (λ p. Started (after_vars t us) m (initial s (v ∷ us) m ns) (then_go (set_slot (length s.visible) m vs p) (do_tasks (resolved_vars t us)))) (sym o)
    (vars_step s (after_vars t us) v (initial t us m) (do_tasks (resolved_vars t us)) m ns vs (value s (Some v.type) v.init m ns) h e (omega arith) (λ ns' vs' h' e'. vars-same us t m ns' vs' h' e' (omega arith)))

given-held : (ps : List Parameter) (args : List ℕ) (rest : Slots) → AreInSlots (locals_of ps) (argument_names ps args) (map value_of (argument_names ps args) ++ rest)
given-held [] args rest = tt
given-held (p ∷ ps) args rest = (refl, refl, given-held ps (drop 1 args) rest)

locals-length : (ps : List Parameter) → length (locals_of ps) ≡ length ps
locals-length [] = refl
locals-length (p ∷ ps) = ap suc (locals-length ps)

given-length : (ps : List Parameter) (args : List ℕ) → length (argument_names ps args) ≡ length ps
given-length [] args = refl
given-length (p ∷ ps) args = ap suc (given-length ps (drop 1 args))

filled-length : (ns : Names) → length ns ≤ most_slots → length (filled ns) ≡ most_slots
filled-length ns le = length-append (map value_of ns) (replicate (most_slots - length ns) (pos 0)) ∙ ap₂ (λ a b. a + b) (length-map ns value_of) (length-replicate (most_slots - length ns) (pos 0)) ∙ omega arith

vars_visible : (us : List Accumulator) (s : Scope) → length (after_vars s us).visible ≡ length s.visible + length us
vars_visible [] s = omega arith
vars_visible (v ∷ us) s =
    let t = declared s v.name (binding.Accumulator v.type) in
    let more : length t.visible ≡ length s.visible + 1 = length-append s.visible (local v.name (binding.Accumulator v.type) ∷ []) in
    omega (arith, vars_visible us t)

run-same : (k : Program) (limit : ℕ) (m : Memory) (o : Option Names) (stand : BlockEnd Slots) → Started (var_scope k) m o stand → length (var_scope k).visible + for_loop_lets k.for_loop ≤ most_slots → run_limited k limit m o ≡ slot_begun (planned k) limit stand
run-same k limit m _ _ (Begins ns vs h e) room = for_loop-same (var_scope k) k.for_loop k.answer limit m ns vs h e room
run-same k limit m _ _ Stops room = refl

-- the run of a resolved kernel is that of its kernel
pub planned-same : (k : Program) (args : List ℕ) (limit : ℕ) (m : Memory) → length k.params + length k.vars + for_loop_lets k.for_loop ≤ most_slots → run_limited k limit m (started k args m) ≡ slot_run (planned k) limit m (filled (argument_names k.params args))
planned-same k args limit m room =
    let p = param_scope k in
    let ns = argument_names k.params args in
    let visible = param_visible k in
    let few : length ns ≤ most_slots = omega (arith, given-length k.params args) in
    let count : length p.visible ≡ length k.params = ap (length {A = Local}) visible ∙ locals-length k.params in
    let h = subst (λ ls. AreInSlots ls ns (filled ns)) (sym visible) (given-held k.params args (replicate (most_slots - length ns) (pos 0))) in
    run-same k limit m (started k args m) (do_tasks (resolved_vars p k.vars) m (filled ns)) (vars-same k.vars p m ns (filled ns) h (filled-length ns few) (omega arith)) (omega (arith, vars_visible k.vars p))
