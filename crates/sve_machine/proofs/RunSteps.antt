-- What some steps leave, one after another.
use Rattle.std.proofs.Common.{◌≡◌, ℕ, ◌+◌, ◌-◌, ◌<◌, ◌≤◌, Bool, true, false, [], ◌∷◌, Option, Some, None, refl, sym, ap, ◌∙◌, subst, arith, ⊎_elim}
use Rattle.std.proofs.lemmas.Bool.{both_ways, cases_eq}
use Rattle.machine_model.specs.declared.outcome.Step.{Step as StepAnswer}
use Rattle.machine_model.specs.declared.outcome.Step.TheVariants as answers
use Rattle.machine_model.specs.declared.outcome.Stop.{Stop as StopAnswer}
use Rattle.machine_model.specs.Machine.{State, Step, Went, Ended, Stopped, x_at}
use Rattle.machine_model.specs.OneStep.{step}
use Rattle.machine_model.specs.Run.{End, Stop, Spent, run, after_steps}
use Rattle.machine_model.specs.Answers.{IsAnswer}
use Rattle.machine_model.specs.Debugged.{View, CameTo, ending_by}
use Rattle.machine_model.proofs.Runs.{leads_after, comes_to, after_more}
use Rattle.machine_model.specs.Debugged.{RunLeaves, is_never}
use Rattle.machine_model.specs.declared.outcome.Ending.{Ending}
use Rattle.machine_model.specs.declared.outcome.Ending.TheVariants as endings
use Rattle.std.specs.Option.{IfSome}
use Rattle.debug_history.specs.Answered.{answer_of}
use Rattle.machine_model.specs.Answers.{outcome_of}
use Rattle.machine_model.proofs.Quiet.{step_quiet, steps_quiet}
use Rattle.guest_types.specs.EarlyLoads.{StopList, Listed, Each, never}
use Rattle.a64_machine.specs.Cores.{said}
use Rattle.sve_machine.specs.View.{Leaves, Last, TwoGo, outcome_at}

-- ---- the outcome of a run

pub spent : (steps taken after : ℕ) (s t : State) → after_steps steps s ≡ Some t → after ≡ taken + steps → run steps taken s ≡ Spent t.pc t.memory after
spent steps taken after s t h e = (leads_after steps s t h).by steps 0 taken (omega arith) ∙ ap (Spent t.pc t.memory) (sym e)

pub run_of_ended_step : (steps taken after done : ℕ) (s t : State) → Last answers.Ended steps done s t → after ≡ taken + done → run steps taken s ≡ End t.memory (x_at t 0) after
run_of_ended_step steps taken after done s t h e =
    let counted : taken + h.went + 1 ≡ after = omega (arith, h.counted, e) in
    comes_to h.went steps taken s h.last (Ended (x_at h.last 0)) h.state h.within h.answered.0
    ∙ ap (λ (u : State). End u.memory (x_at u 0) (taken + h.went + 1)) (sym h.answered.1)
    ∙ ap (End t.memory (x_at t 0)) counted

pub stopped : (stop : StopAnswer) (steps taken after done : ℕ) (s t : State) → Last (answers.Stopped stop) steps done s t → after ≡ taken + done → run steps taken s ≡ Stop stop.kind stop.pc stop.at t.memory after
stopped stop steps taken after done s t h e =
    let counted : taken + h.went + 1 ≡ after = omega (arith, h.counted, e) in
    comes_to h.went steps taken s h.last (Stopped stop.kind stop.pc stop.at t.memory) h.state h.within h.answered.0
    ∙ ap (Stop stop.kind stop.pc stop.at t.memory) counted

pub came : (answer : StepAnswer) (steps done : ℕ) (before after : View) → Last answer steps done before.state after.state → after.steps ≡ before.steps + done → after.over ≡ ending_by answer → CameTo answer steps before after
came answer steps done before after h e over = record {
  went = h.went;
  within = h.within;
  last = h.last;
  state = h.state;
  answered = h.answered;
  steps_done = omega (arith, e, h.counted);
  over = over;
}

pub run_outcome : (answer : StepAnswer) (x0 steps taken after done : ℕ) (s t : State) → Leaves answer steps done s t → x0 ≡ x_at t 0 → after ≡ taken + done → run steps taken s ≡ outcome_of (outcome_at answer x0) t.memory t.pc after
run_outcome answers.Went x0 steps taken after done s t h x e = spent steps taken after s t h.1 (omega (arith, h.0, e))
run_outcome answers.Ended x0 steps taken after done s t h x e = run_of_ended_step steps taken after done s t h e ∙ ap (λ n. End t.memory n after) (sym x)
run_outcome (answers.Stopped stop) x0 steps taken after done s t h x e = stopped stop steps taken after done s t h e

pub run_leaves : (answer : StepAnswer) (x0 steps done : ℕ) (before after : View) → Leaves answer steps done before.state after.state → x0 ≡ x_at after.state 0 → after.steps ≡ before.steps + done → after.over ≡ ending_by answer → RunLeaves (outcome_at answer x0) steps before after
run_leaves answers.Went x0 steps done before after h x e over = record { state = h.1; steps_done = omega (arith, h.0, e); over = over }
run_leaves answers.Ended x0 steps done before after h x e over = (x, came answers.Ended steps done before after h e over)
run_leaves (answers.Stopped stop) x0 steps done before after h x e over = came (answers.Stopped stop) steps done before after h e over

-- ---- without a stop list

never_of_is_never : (l : StopList) → is_never l ≡ true → l ≡ never
never_of_is_never (Listed []) h = refl
never_of_is_never (Listed (x ∷ xs)) h = cc
never_of_is_never (Each period seen) h = cc

left_quiet : (answer : StepAnswer) (steps done : ℕ) (s t : State) → Leaves answer steps done s t → s.stops ≡ never → t.stops ≡ never
left_quiet answers.Went steps done s t h q = steps_quiet steps s t q h.1
left_quiet answers.Ended steps done s t h q = ap (λ (u : State). u.stops) h.answered.1 ∙ steps_quiet h.went s h.last q h.state
left_quiet (answers.Stopped stop) steps done s t h q = ap (λ (u : State). u.stops) h.answered.1 ∙ steps_quiet h.went s h.last q h.state

pub quiet_left : (answer : StepAnswer) (steps done : ℕ) (s t : State) → Leaves answer steps done s t → is_never s.stops ≡ true → is_never t.stops ≡ true
quiet_left answer steps done s t h q = ap is_never (left_quiet answer steps done s t h (never_of_is_never s.stops q))

pub one_quiet : (answer : StepAnswer) (s t : State) → IsAnswer (step s) answer s t → is_never s.stops ≡ true → is_never t.stops ≡ true
one_quiet answers.Went s t h q = ap is_never (step_quiet s t (never_of_is_never s.stops q) h)
one_quiet answers.Ended s t h q = ap (λ (u : State). is_never u.stops) h.1 ∙ q
one_quiet (answers.Stopped stop) s t h q = ap (λ (u : State). is_never u.stops) h.1 ∙ q

-- ---- a step whose answer is told in two parts

pub said_on : (o : Step) (went : Bool) (answer : StepAnswer) (s t : State) → went ≡ true → IsAnswer o (said went answer) s t → o ≡ Went t
said_on o went answer s t e h = subst (λ w. IsAnswer o (said w answer) s t) e h

pub said_else : (o : Step) (went : Bool) (answer : StepAnswer) (s t : State) → went ≡ false → answer ≡ answers.Went → IsAnswer o (said went answer) s t → o ≡ Went t
said_else o went answer s t e is h = subst (λ a. IsAnswer o a s t) is (subst (λ w. IsAnswer o (said w answer) s t) e h)

-- ---- a step with which another may be done

-- as many are left, or one less
pub no_more_than : (p q : ℕ) → ((p ≡ q → ⊥) → p + 1 ≡ q) → p ≤ q
no_more_than p q fewer = ⊎_elim (λ (same : p ≡ q). at_most same) (λ other. below (fewer other)) (cases_eq p q)
  where
    at_most : p ≡ q → p ≤ q
    at_most e = omega (arith, e)

    below : p + 1 ≡ q → p ≤ q
    below e = omega (arith, e)

pub not_even_one : (p : ℕ) → ((p ≡ 0 → ⊥) → p + 1 ≡ 0) → p ≡ 0
not_even_one p fewer = ⊎_elim (λ (same : p ≡ 0). same) (λ other. none (fewer other)) (cases_eq p 0)
  where
    none : p + 1 ≡ 0 → p ≡ 0
    none e = omega (arith, e)

pub same_unless_gone : {X : Type 0} (p q : ℕ) (went : Bool) → ((p ≡ q → ⊥) → (went ≡ true) × X) → went ≡ false → p ≡ q
same_unless_gone p q went both e = ⊎_elim (λ (same : p ≡ q). same) (λ other. absurd (both_ways went e (both other).0)) (cases_eq p q)

-- some steps and one more, or two more
pub more_steps : (steps left p : ℕ) (start s t : State) (went : Bool) (answer : StepAnswer) → 0 < left → left ≤ steps → went ≡ true → after_steps (steps - left) start ≡ Some s → (p ≡ left - 1 → IsAnswer (step s) (said went answer) s t) → ((p ≡ left - 1 → ⊥) → p + 1 ≡ left - 1) → ((p ≡ left - 1 → ⊥) → (went ≡ true) × TwoGo s t) → after_steps (steps - p) start ≡ Some t
more_steps steps left p start s t went answer some few e h answered fewer both = ⊎_elim one two (cases_eq p (left - 1))
  where
    one : p ≡ left - 1 → after_steps (steps - p) start ≡ Some t
    one same =
        let counted : steps - left + 1 ≡ steps - p = omega (arith, some, few, same) in
        subst (λ n. after_steps n start ≡ Some t) counted (after_more (steps - left) start s t h (said_on (step s) went answer s t e (answered same)))

    two : (p ≡ left - 1 → ⊥) → after_steps (steps - p) start ≡ Some t
    two other =
        let less = fewer other in
        let counted : steps - left + 1 + 1 ≡ steps - p = omega (arith, some, few, less) in
        let go = (both other).1 in
        subst (λ n. after_steps n start ≡ Some t) counted
        (after_more (steps - left + 1) start go.middle t (after_more (steps - left) start s go.middle h go.first) go.second)

-- the last of some steps, which came to this answer
pub last_is : (a : StepAnswer) (steps done : ℕ) (start last after : State) (went : Bool) (answer : StepAnswer) → done < steps → after_steps done start ≡ Some last → went ≡ false → answer ≡ a → IsAnswer (step last) (said went answer) last after → Last a steps (done + 1) start after
last_is a steps done start last after went answer lt h e is answered = record {
  went = done;
  within = lt;
  counted = refl;
  last = last;
  state = h;
  answered = subst (λ x. IsAnswer (step last) x last after) is (subst (λ w. IsAnswer (step last) (said w answer) last after) e answered);
}

pub answer_went_on : (over : Option Ending) (went : Bool) (answer : StepAnswer) (s t : State) → went ≡ true → over ≡ None → IsAnswer (step s) (said went answer) s t → IsAnswer (step s) (answer_of over) s t
answer_went_on over went answer s t e none h =
    subst (λ o. IsAnswer (step s) (answer_of o) s t) (sym none) (said_on (step s) went answer s t e h)

answered : (answer : StepAnswer) → answer_of (ending_by answer) ≡ answer
answered answers.Went = refl
answered answers.Ended = refl
answered (answers.Stopped stop) = refl

pub came_to : (over : Option Ending) (went : Bool) (answer : StepAnswer) (s t : State) → went ≡ false → over ≡ ending_by answer → IsAnswer (step s) (said went answer) s t → IsAnswer (step s) (answer_of over) s t
came_to over went answer s t e is h =
    subst (λ a. IsAnswer (step s) a s t) (sym (ap answer_of is ∙ answered answer)) (subst (λ w. IsAnswer (step s) (said w answer) s t) e h)

-- the steps of a machine are those that it counts
pub leaves_seen : (answer : StepAnswer) (steps done : ℕ) (own seen : View) (after : State) → own ≡ seen → Leaves answer steps done own.state after → Leaves answer steps (own.steps + done - seen.steps) seen.state after
leaves_seen answer steps done own seen after is h =
    let e : done ≡ own.steps + done - own.steps = omega arith in
    subst (λ (v : View). Leaves answer steps (own.steps + done - v.steps) v.state after) is (subst (λ n. Leaves answer steps n own.state after) e h)

ended_by : (over : Option Ending) → ending_by (answer_of over) ≡ over
ended_by None = refl
ended_by (Some endings.Ended) = refl
ended_by (Some (endings.Stopped stop)) = refl

pub over_by : (over : Option Ending) (answer : StepAnswer) → answer ≡ answer_of over → over ≡ ending_by answer
over_by over answer e = sym (ap ending_by e ∙ ended_by over)

-- ---- a machine that came to its end, or did not

pub some_over : (P : Ending → Type 0) (over : Option Ending) (ending : Ending) → over ≡ Some ending → P ending → IfSome over P
some_over P over ending e p = subst (λ o. IfSome o P) (sym e) p

pub none_over : (P : Ending → Type 0) (over : Option Ending) → over ≡ None → IfSome over P
none_over P over e = subst (λ o. IfSome o P) (sym e) tt

pub not_over : {P : Type 0} (over : Option Ending) (ending : Ending) → over ≡ Some ending → over ≡ None → P
not_over over ending some none = absurd cc
