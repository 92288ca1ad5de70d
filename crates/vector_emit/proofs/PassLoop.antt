-- What a loop of passes comes to, where a pass is any stretch that does iterations of the scalar loop.
use Rattle.std.proofs.Common.{◌≡◌, ℕ, ◌+◌, ◌-◌, ◌*◌, ◌<◌, ◌≤◌, Bool, true, false, List, ap, ◌∙◌, subst, arith, ⊎_elim}
use Rattle.std.specs.Prelude.{◌⊎◌}
use Rattle.std.proofs.lemmas.Bool.{cases_lt}
use Rattle.guest_types.specs.Memory.{Memory}
use Rattle.machine_model.specs.declared.outcome.StopKind.{StopKind}
use Rattle.machine_model.specs.Machine.{State}
use Rattle.machine_model.specs.Run.{Stop}
use Rattle.label_fix.specs.DraftRun.{DraftEntry, Laid, draft_run}
use Rattle.label_fix.specs.Suppressions.{cuts}
use Rattle.label_fix.specs.Stretches.{Leads, Stops}
use Rattle.kernel_tree.specs.Plain.{PlainLoop}
use Rattle.kernel_tree.specs.Typing.{Scope}
use Rattle.kernel_meaning.specs.Ends.{Going, Failed}
use Rattle.kernel_meaning.specs.Eval.{Names}
use Rattle.kernel_meaning.specs.Iterate.{iterate}
use Rattle.kernel_meaning.specs.ScalarRun.{iterations}
use Rattle.kernel_meaning.proofs.RunsFrom.{iterations_on, no_iterations}
use Rattle.close_bound.specs.CloseBound.{spare}
use Rattle.chunk_pass.specs.Halts.{Breaks}
use Rattle.vector_emit.proofs.Iterations.{Halts, none_gone, fails_here}
use Rattle.vector_emit.proofs.Paces.{Spends, ahead, in_place, in_iteration, in_two, in_stop, Paid, by_lanes, by_two, by_cut, by_last, by_one, spends_on, InIterations, last_iterations, in_iterations_on}

-- A loop of the language as passes do it: whether it has a break, its bound, the lanes of a chunk, the words of a pass at most,
-- and the entries after the passes. `Head` holds of a state before a pass, `Ends` of a stop: its kind and its address, the iteration
-- that faults, and the memory that was left and that of the scalar loop.
pub record Rounds : Type 1 where
  pub scope : Scope
  pub for_loop : PlainLoop
  pub breaks : Bool
  pub limit : ℕ
  pub lanes : ℕ
  pub unit : ℕ
  pub draft : Laid
  pub rest : List DraftEntry
  pub Head : ℕ → Names → Memory → State → Type 0
  pub Ends : StopKind → (at j : ℕ) → Memory → Memory → Type 0

-- no iteration is left, or the next one breaks
abbrev pub Late : Rounds → ℕ → Memory → Names → Type 0
Late w j m ns = (j ≡ w.limit) ⊎ ((w.breaks ≡ true) × Breaks (iterate w.scope w.for_loop j m ns))

-- From a state before iteration i: the passes lead after the loop, before an iteration at which it ends; or they stop, where
-- an iteration faults.
pub data Passing (w : Rounds) (c : List DraftEntry) (s : State) (i : ℕ) (cur : Names) (m : Memory) : Type 0 where
  leaves : (k j : ℕ) (now : Memory) (names : Names) (end : State) (count : ℕ) → j ≡ i + k → j ≤ w.limit → iterations w.scope w.for_loop k i m cur ≡ Going now names → Late w j now names → w.Head j names now end
      → ((k taken : ℕ) → draft_run w.draft (count + k) taken c s ≡ draft_run w.draft k (taken + count) w.rest end) → ((n : ℕ) → n ≤ count → Spends w.breaks w.lanes w.unit i j n (cuts w.draft n c s)) → InIterations w.unit i j count → Passing w c s i cur m
  stops : (k j : ℕ) (left faulted : Memory) (kind : StopKind) (count pc at : ℕ) → i + k ≤ w.limit → i ≤ j → j < i + k → iterations w.scope w.for_loop k i m cur ≡ Failed faulted j → w.Ends kind at j left faulted
      → ((k taken : ℕ) → draft_run w.draft (count + k) taken c s ≡ Stop kind pc at left (taken + count)) → ((n : ℕ) → n ≤ count → Spends w.breaks w.lanes w.unit i (j + ahead w.breaks) n (cuts w.draft n c s)) → InIterations w.unit i j count
      → Passing w c s i cur m

pub split : (P : ℕ → Type 0) (a b : ℕ) → ((n : ℕ) → n ≤ a → P n) → ((n : ℕ) → n ≤ b → P (a + n)) → (n : ℕ) → n ≤ a + b → P n
split P a b inner outer n le = ⊎_elim (λ lt. inner n (omega (arith, lt))) (λ ge. (let e : a + (n - a) ≡ n = omega (arith, ge) in subst P e (outer (n - a) (omega (arith, le, ge))))) (cases_lt n a)

module _ (w : Rounds) (some : 0 < w.lanes) where
  -- a loop that ends here
  pub leaves_here : {c : List DraftEntry} {s t : State} {i : ℕ} {cur : Names} {m : Memory} {most : ℕ} (a : ℕ) → (leads : Leads w.draft c s w.rest t most) → most ≤ w.unit * a → a ≤ spare w.breaks → a ≤ 2 → i ≤ w.limit → Late w i m cur → w.Head i cur m t → Passing w c s i cur m
  leaves_here {c = c} {s = s} {t = t} {i = i} {cur = cur} {m = m} a leads few spares small le late head =
      leaves 0 i m cur t leads.count (omega arith) le (no_iterations w.scope w.for_loop i m cur) late head leads.by
      (λ n below. in_place w.breaks w.lanes w.unit i i n (cuts w.draft n c s) a some (omega arith) spares (let f = leads.within in omega (arith, below, few, f)))
      (last_iterations w.unit i i leads.count a (omega arith) small (let f = leads.within in omega (arith, few, f)))

  pub stops_here : {c : List DraftEntry} {s : State} {i : ℕ} {cur : Names} {m left : Memory} {kind : StopKind} {most : ℕ} (a k j : ℕ) (faulted : Memory) → (stop : Stops w.draft c s kind left most) → most ≤ w.unit * a → a ≤ spare w.breaks + ahead w.breaks → a ≤ 2
      → i + k ≤ w.limit → i ≤ j → j < i + k → iterations w.scope w.for_loop k i m cur ≡ Failed faulted j → w.Ends kind stop.at j left faulted → Passing w c s i cur m
  stops_here {c = c} {s = s} {i = i} {left = left} {kind = kind} a k j faulted stop few spares small le lo hi fails ends =
      stops k j left faulted kind stop.count stop.pc stop.at le lo hi fails ends stop.by
      (λ n below. in_stop w.breaks w.lanes w.unit i j n (cuts w.draft n c s) a some lo spares (let f = stop.within in omega (arith, below, few, f)))
      (last_iterations w.unit i j stop.count a lo small (let f = stop.within in omega (arith, few, f)))

  -- What pays for passes, before it is known where the loop ends. They take some iterations on, whatever pays: so passes come to
  -- an end.
  pub data Pays (k r : ℕ) (stuck : Type 0) : ℕ → Type 0 where
    pays_lanes : w.lanes ≤ k → Pays k r stuck 1
    pays_two : w.lanes * 2 ≤ k → Pays k r stuck 2
    pays_cut : w.breaks ≡ true → 0 < k → 0 < r → Pays k r stuck 1
    pays_last : 0 < k → stuck → Pays k r stuck 1
    pays_one : w.breaks ≡ true → 0 < r → k ≡ 1 → Pays k r stuck 2

  advances : {k r a : ℕ} {stuck : Type 0} → Pays k r stuck a → 0 < k
  advances (pays_lanes le) = omega (arith, some, le)
  advances (pays_two le) = omega (arith, some, le)
  advances (pays_cut b lt cut) = lt
  advances (pays_last lt h) = lt
  advances (pays_one b cut e) = omega (arith, e)

  -- two of a loop with a break
  two_with : (b : Bool) → b ≡ true → 2 ≤ 1 + spare b
  two_with true e = omega arith
  two_with false e = absurd cc

  few_paid : {k r a : ℕ} {stuck : Type 0} → Pays k r stuck a → a ≤ 2
  few_paid (pays_lanes le) = omega arith
  few_paid (pays_two le) = omega arith
  few_paid (pays_cut b lt cut) = omega arith
  few_paid (pays_last lt h) = omega arith
  few_paid (pays_one b cut e) = omega arith

  -- the words of passes that are paid, where the loop goes on past them
  on_the_way : {k r a : ℕ} {stuck : Type 0} → Pays k r stuck a → (i j n q : ℕ) → i + k ≤ j → n ≤ w.unit * a → Spends w.breaks w.lanes w.unit i j n q
  on_the_way (pays_lanes le) i j n q past few = in_iteration w.breaks w.lanes w.unit i j n q 1 (omega (arith, some, le, past)) (omega arith) few
  on_the_way (pays_two le) i j n q past few = in_two w.breaks w.lanes w.unit i j n q some (omega (arith, le, past)) few
  on_the_way (pays_cut b lt cut) i j n q past few = in_iteration w.breaks w.lanes w.unit i j n q 1 (omega (arith, lt, past)) (omega arith) few
  on_the_way (pays_last lt h) i j n q past few = in_iteration w.breaks w.lanes w.unit i j n q 1 (omega (arith, lt, past)) (omega arith) few
  on_the_way (pays_one b cut e) i j n q past few = in_iteration w.breaks w.lanes w.unit i j n q 2 (omega (arith, e, past)) (two_with w.breaks b) few

  -- no iteration goes on from here
  abbrev pub Stuck : ℕ → Memory → Names → Type 0
  Stuck i m ns = (i ≡ w.limit) ⊎ ((w.breaks ≡ true) × Halts (iterate w.scope w.for_loop i m ns))

  paid : {k r a i j : ℕ} {stuck : Type 0} → Pays k r stuck a → (stuck → j ≡ i + k) → Paid w.breaks w.lanes k i j r a
  paid (pays_lanes le) at = by_lanes le
  paid (pays_two le) at = by_two le
  paid (pays_cut b lt cut) at = by_cut b cut
  paid (pays_last lt h) at = by_last lt (at h)
  paid (pays_one b cut e) at = by_one b cut e

  -- in passes that lead on, and after them
  rounds_of_leads : {c e : List DraftEntry} {s t : State} {i k r a most : ℕ} {stuck : Type 0} (leads : Leads w.draft c s e t most) → most ≤ w.unit * a → Pays k r stuck a → (j n : ℕ) → i + k ≤ j → n ≤ leads.count → Spends w.breaks w.lanes w.unit i j n (cuts w.draft n c s)
  rounds_of_leads {c = c} {s = s} {i = i} leads few pay j n past le = on_the_way pay i j n (cuts w.draft n c s) past (let f = leads.within in omega (arith, le, few, f))

  outer : {c e : List DraftEntry} {s t : State} {i k a most : ℕ} {stuck : Type 0} (leads : Leads w.draft c s e t most) → most ≤ w.unit * a → Pays k leads.cut stuck a → (j n : ℕ) → (stuck → j ≡ i + k) → Spends w.breaks w.lanes w.unit (i + k) j n (cuts w.draft n e t)
      → Spends w.breaks w.lanes w.unit i j (leads.count + n) (cuts w.draft (leads.count + n) c s)
  outer leads few pay j n at spent = spends_on (let f = leads.within in omega (arith, few, f)) (paid pay at) (leads.tells n) spent

  -- of a loop with a break the iteration that faults is not counted
  none_ahead : (b : Bool) (j : ℕ) → b ≡ true → j + ahead b ≡ j
  none_ahead true j e = omega arith
  none_ahead false j e = absurd cc

  module _ {c e : List DraftEntry} {s t : State} {i : ℕ} {cur names : Names} {m now : Memory} {most : ℕ} (a k : ℕ) (leads : Leads w.draft c s e t most) (few : most ≤ w.unit * a) (goes : iterations w.scope w.for_loop k i m cur ≡ Going now names) (pay : Pays k leads.cut (Stuck (i + k) now names) a) where
    -- passes lead on to the head, and the loop goes on from there
    pub passes_on : Passing w e t (i + k) names now → Passing w c s i cur m
    passes_on (leaves k2 j now2 names2 end count at le goes2 late head by pace few2) =
        let stuck : Stuck (i + k) now names → j ≡ i + k = ⊎_elim (λ end. omega (arith, end, at, le)) (λ h. (let z = none_gone w.scope w.for_loop k2 (i + k) now names now2 names2 h.1 goes2 in omega (arith, z, at))) in
        let lt = advances pay in
        let paid = few_paid pay in
        leaves (k + k2) j now2 names2 end (leads.count + count) (omega (arith, at)) le (iterations_on w.scope w.for_loop k k2 i m cur now names goes ∙ goes2) late head
        (λ n taken.
        let e : leads.count + count + n ≡ leads.count + (count + n) = omega arith in
        let f : taken + leads.count + count ≡ taken + (leads.count + count) = omega arith in
        ap (λ n. draft_run w.draft n taken c s) e ∙ leads.by (count + n) taken ∙ by n (taken + leads.count) ∙ ap (λ taken. draft_run w.draft n taken w.rest end) f)
        (split (λ n. Spends w.breaks w.lanes w.unit i j n (cuts w.draft n c s)) leads.count count (λ n below. rounds_of_leads leads few pay j n (omega (arith, at)) below) (λ n below. outer leads few pay j n stuck (pace n below)))
        (in_iterations_on w.unit i j k a leads.count count paid lt (let f = leads.within in omega (arith, few, f)) few2)
    passes_on (stops k2 j left faulted kind count pc at le lo hi fails ends by pace few2) =
        let stuck : Stuck (i + k) now names → j + ahead w.breaks ≡ i + k = ⊎_elim (λ end. absurd (omega (arith, end, le, lo, hi))) (λ h. none_ahead w.breaks j h.0 ∙ fails_here w.scope w.for_loop k2 (i + k) now names faulted j h.1 fails) in
        let lt = advances pay in
        let paid = few_paid pay in
        stops (k + k2) j left faulted kind (leads.count + count) pc at (omega (arith, le)) (omega (arith, lo)) (omega (arith, hi)) (iterations_on w.scope w.for_loop k k2 i m cur now names goes ∙ fails) ends
        (λ n taken.
        let e : leads.count + count + n ≡ leads.count + (count + n) = omega arith in
        let f : taken + leads.count + count ≡ taken + (leads.count + count) = omega arith in
        ap (λ n. draft_run w.draft n taken c s) e ∙ leads.by (count + n) taken ∙ by n (taken + leads.count) ∙ ap (Stop kind pc at left) f)
        (split (λ n. Spends w.breaks w.lanes w.unit i (j + ahead w.breaks) n (cuts w.draft n c s)) leads.count count (λ n below. rounds_of_leads leads few pay (j + ahead w.breaks) n (omega (arith, lo)) below) (λ n below. outer leads few pay (j + ahead w.breaks) n stuck (pace n below)))
        (in_iterations_on w.unit i j k a leads.count count paid lt (let f = leads.within in omega (arith, few, f)) few2)
