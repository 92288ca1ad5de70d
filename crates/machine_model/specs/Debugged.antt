-- What contracts see of a machine that is stepped, and what its steps leave.
use Rattle.std.specs.Prelude.{◌≡◌, ℕ, zero, suc, ◌+◌, ◌<◌, Bool, true, false, Option, Some, None, List, [], ◌∷◌}
use Rattle.guest_types.specs.EarlyLoads.{StopList, Listed, Each}
use Rattle.machine_model.specs.declared.outcome.Ending.{Ending}
use Rattle.machine_model.specs.declared.outcome.Ending.TheVariants as endings
use Rattle.machine_model.specs.declared.outcome.Step.{Step as StepAnswer}
use Rattle.machine_model.specs.declared.outcome.Step.TheVariants as answers
use Rattle.machine_model.specs.declared.outcome.Outcome.{Outcome as OutcomeAnswer}
use Rattle.machine_model.specs.declared.outcome.Outcome.TheVariants as outcomes
use Rattle.machine_model.specs.Machine.{State, x_at}
use Rattle.machine_model.specs.OneStep.{step}
use Rattle.machine_model.specs.Run.{after_steps}
use Rattle.machine_model.specs.Answers.{IsAnswer}

-- The state, the number of steps done, the end or the stop that was answered, where one was, and whether the machine is quiet:
-- then its steps are those of the model.
pub record Past : Type 0 where
  pub state : State
  pub steps : ℕ
  pub over : Option Ending
  pub quiet : Bool

-- the same of a machine as it is now, and of what it was each time that it was kept, oldest first
pub record View : Type 0 where
  pub state : State
  pub steps : ℕ
  pub over : Option Ending
  pub quiet : Bool
  pub past : List Past

-- a machine as it is now
abbrev pub now : View → Past
now v = record { state = v.state; steps = v.steps; over = v.over; quiet = v.quiet }

-- a step that went leaves the machine running, and an end or a stop stays
abbrev pub ending_by : StepAnswer → Option Ending
ending_by answers.Went = None
ending_by answers.Ended = Some endings.Ended
ending_by (answers.Stopped stop) = Some (endings.Stopped stop)

-- what a step answers from then on
abbrev pub answer_by : Ending → StepAnswer
answer_by endings.Ended = answers.Ended
answer_by (endings.Stopped stop) = answers.Stopped stop

-- what a run answers from then on, in this state; a run of no steps is spent at once
abbrev pub outcome_by : Ending → (steps : ℕ) → State → OutcomeAnswer
outcome_by ending zero s = outcomes.Spent
outcome_by endings.Ended (suc n) s = outcomes.End (x_at s 0)
outcome_by (endings.Stopped stop) (suc n) s = outcomes.Stop stop

-- nothing is suppressed
abbrev pub is_never : StopList → Bool
is_never (Listed []) = true
is_never (Listed (number ∷ numbers)) = false
is_never (Each period seen) = false

-- ---- what a run of at most so many steps leaves of a machine that has not answered an end or a stop

-- all of them went
pub record WentOn (steps : ℕ) (before after : View) : Type 0 where
  pub state : after_steps steps before.state ≡ Some after.state
  pub steps_done : after.steps ≡ before.steps + steps
  pub over : after.over ≡ None

-- some went, and the one after them answered an end or a stop
pub record CameTo (answer : StepAnswer) (steps : ℕ) (before after : View) : Type 0 where
  pub went : ℕ
  pub within : went < steps
  pub last : State
  pub state : after_steps went before.state ≡ Some last
  pub answered : IsAnswer (step last) answer last after.state
  pub steps_done : after.steps ≡ before.steps + went + 1
  pub over : after.over ≡ ending_by answer

abbrev pub RunLeaves : OutcomeAnswer → (steps : ℕ) → (before after : View) → Type 0
RunLeaves outcomes.Spent n before after = WentOn n before after
RunLeaves (outcomes.End result) n before after = (result ≡ x_at after.state 0) × CameTo answers.Ended n before after
RunLeaves (outcomes.Stop stop) n before after = CameTo (answers.Stopped stop) n before after
