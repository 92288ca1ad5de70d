-- Runs in pieces.
use Rattle.std.proofs.Common.{◌≡◌, ℕ, zero, suc, ◌+◌, ◌-◌, ◌<◌, ◌≤◌, true, Option, Some, None, refl, ap, ◌∙◌, subst, arith, add-one}
use Rattle.machine_model.specs.Machine.{State, Step, Went, Ended, Stopped}
use Rattle.machine_model.specs.OneStep.{step}
use Rattle.machine_model.specs.Run.{End, run, go_on, after_steps, is_over, steps_taken}

-- ---- runs

-- the machine goes from s to t in n steps
pub record Leads (n : ℕ) (s t : State) : Type 0 where
  pub by : (j k taken : ℕ) → j ≡ k + n → run j taken s ≡ run k (taken + n) t

pub leads_none : (s : State) → Leads 0 s s
leads_none s = record {
  by = λ j k taken e.
      let e1 : j ≡ k = omega arith in
      let e2 : taken ≡ taken + 0 = omega arith in
      ap (λ n. run n taken s) e1 ∙ ap (λ n. run k n s) e2;
}

pub leads_one : (s t : State) → step s ≡ Went t → Leads 1 s t
leads_one s t h = record {
  by = λ j k taken e.
      let e1 : j ≡ suc k = omega arith in
      ap (λ n. run n taken s) e1 ∙ ap (λ r. go_on r s (taken + 1) (run k (taken + 1))) h;
}

pub leads_on : (m n : ℕ) (s t u : State) → Leads m s t → Leads n t u → Leads (m + n) s u
leads_on m n s t u a b = record {
  by = λ j k taken e.
      let e2 : taken + m + n ≡ taken + (m + n) = omega arith in
      a.by j (k + n) taken (omega arith) ∙ b.by (k + n) k (taken + m) refl ∙ ap (λ c. run k c u) e2;
}

steps_after_went : (o : Step) (n : ℕ) (s t : State) → step s ≡ o → elim o as (λ o. Option State) [ Went u ↦ after_steps n u | Ended result ↦ None | Stopped kind pc at memory ↦ None ] ≡ Some t → ((u : State) → after_steps n u ≡ Some t → Leads n u t) → Leads (suc n) s t
steps_after_went (Went u) n s t e h rest =
    let two : 1 + n ≡ suc n = omega arith in
    subst (λ k. Leads k s t) two (leads_on 1 n s u t (leads_one s u e) (rest u h))
steps_after_went (Ended r) n s t e h rest = cc
steps_after_went (Stopped k p a m) n s t e h rest = cc

-- the steps that all go on lead to their state
pub leads_after : (n : ℕ) (s t : State) → after_steps n s ≡ Some t → Leads n s t
leads_after zero s t h = let e : s ≡ t = cc in subst (λ u. Leads 0 s u) e (leads_none s)
leads_after (suc n) s t h = steps_after_went (step s) n s t refl h (λ u e. leads_after n u t e)

after_go : (o : Step) (n : ℕ) (t u : State) → ((v : State) → after_steps n v ≡ Some t → after_steps (suc n) v ≡ Some u) → elim o as (λ o. Option State) [ Went v ↦ after_steps n v | Ended result ↦ None | Stopped kind pc at memory ↦ None ] ≡ Some t → elim o as (λ o. Option State) [ Went v ↦ after_steps (suc n) v | Ended result ↦ None | Stopped kind pc at memory ↦ None ] ≡ Some u
after_go (Went v) n t u more h = more v h
after_go (Ended r) n t u more h = absurd cc
after_go (Stopped k p a m) n t u more h = absurd cc

after_one_more_step : (n : ℕ) (s t u : State) → after_steps n s ≡ Some t → step t ≡ Went u → after_steps (suc n) s ≡ Some u
after_one_more_step zero s t u h e =
    let same : s ≡ t = cc in
    ap (λ o. elim o as (λ o. Option State) [ Went v ↦ Some v | Ended result ↦ None | Stopped kind pc at memory ↦ None ]) (ap step same ∙ e)
after_one_more_step (suc n) s t u h e = after_go (step s) n t u (λ v k. after_one_more_step n v t u k e) h

-- one more step that goes on
pub after_more : (n : ℕ) (s t u : State) → after_steps n s ≡ Some t → step t ≡ Went u → after_steps (n + 1) s ≡ Some u
after_more n s t u h e = ap (λ k. after_steps k s) (add-one n) ∙ after_one_more_step n s t u h e

-- what a run comes to at its last step
pub comes_to : (n steps taken : ℕ) (s t : State) (o : Step) → after_steps n s ≡ Some t → n < steps → step t ≡ o → run steps taken s ≡ go_on o t (taken + n + 1) (run (steps - n - 1) (taken + n + 1))
comes_to n steps taken s t o h lt e =
    let k = steps - n - 1 in
    (leads_after n s t h).by steps (suc k) taken (omega arith)
    ∙ ap (λ o. go_on o t (taken + n + 1) (run k (taken + n + 1))) e

-- a run that comes to an end has it at every number of steps from then on
pub run_ends_of_leads : (n steps r : ℕ) (s t : State) → Leads n s t → step t ≡ Ended r → n + 1 ≤ steps → run steps 0 s ≡ End t.memory r (n + 1)
run_ends_of_leads n steps r s t leads e h =
    let k = steps - (n + 1) in
    let e1 : steps ≡ suc k + n = omega arith in
    let e2 : 0 + n + 1 ≡ n + 1 = omega arith in
    leads.by steps (suc k) 0 e1
    ∙ ap (λ o. go_on o t (0 + n + 1) (run k (0 + n + 1))) e
    ∙ ap (λ c. End t.memory r c) e2

over_on : (o : Step) (s : State) (n m taken : ℕ) → is_over (go_on o s (taken + 1) (run n (taken + 1))) ≡ true → ((u : State) → is_over (run n (taken + 1) u) ≡ true → run m (taken + 1) u ≡ run n (taken + 1) u) → go_on o s (taken + 1) (run m (taken + 1)) ≡ go_on o s (taken + 1) (run n (taken + 1))
over_on (Went u) s n m taken h rest = rest u h
over_on (Ended r) s n m taken h rest = refl
over_on (Stopped k p a memory) s n m taken h rest = refl

-- a run that is over stays as it is at every greater number of steps
pub settled : (n m taken : ℕ) (s : State) → n ≤ m → is_over (run n taken s) ≡ true → run m taken s ≡ run n taken s
settled zero m taken s h over = cc
settled (suc n) zero taken s h over = absurd (omega arith)
settled (suc n) (suc m) taken s h over = over_on (step s) s n m taken over (λ u e. settled n m (taken + 1) u (omega arith) e)

count_on : (o : Step) (s : State) (n taken : ℕ) → ((u : State) → steps_taken (run n (taken + 1) u) ≤ taken + 1 + n) → steps_taken (go_on o s (taken + 1) (run n (taken + 1))) ≤ taken + suc n
count_on (Went u) s n taken rest = let h = rest u in omega (arith, h)
count_on (Ended r) s n taken rest = omega arith
count_on (Stopped k p a memory) s n taken rest = omega arith

pub steps_taken_le : (n taken : ℕ) (s : State) → steps_taken (run n taken s) ≤ taken + n
steps_taken_le zero taken s = omega arith
steps_taken_le (suc n) taken s = count_on (step s) s n taken (λ u. steps_taken_le n (taken + 1) u)
