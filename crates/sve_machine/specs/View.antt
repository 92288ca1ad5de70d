-- What contracts see of a machine.
use Rattle.std.specs.Prelude.{◌≡◌, ℕ, ◌+◌, ◌<◌, List, Option, Some}
use Rattle.guest_types.specs.Memory.{Memory}
use Rattle.machine_model.specs.declared.outcome.Ending.{Ending}
use Rattle.machine_model.specs.declared.outcome.Step.{Step as StepAnswer}
use Rattle.machine_model.specs.declared.outcome.Step.TheVariants as answers
use Rattle.machine_model.specs.declared.outcome.Outcome.{Outcome as OutcomeAnswer}
use Rattle.machine_model.specs.declared.outcome.Outcome.TheVariants as outcomes
use Rattle.machine_model.specs.Machine.{State, Went}
use Rattle.machine_model.specs.OneStep.{step}
use Rattle.machine_model.specs.Run.{after_steps}
use Rattle.machine_model.specs.Answers.{IsAnswer}
use Rattle.machine_model.specs.Debugged.{Past, View, is_never}
use Rattle.a64_machine.specs.Cores.{VectorState, state_of}
use Rattle.a64_machine.specs.declared.core_state.Core.{Core}

-- what is seen of the parts of a machine
abbrev pub view_of : Core → Memory → VectorState → (steps : ℕ) → Option Ending → (past : List Past) → View
view_of core memory rest steps over past =
    record { state = state_of core memory rest; steps = steps; over = over; quiet = is_never rest.stops; past = past }

-- the part of a state that A64 instructions leave alone
abbrev pub vector_part : State → VectorState
vector_part s = record { z = s.z; p = s.p; ffr = s.ffr; vl = s.vl; stops = s.stops }

-- some steps went, and the one after them came to this answer
pub record Last (answer : StepAnswer) (steps done : ℕ) (before after : State) : Type 0 where
  pub went : ℕ
  pub within : went < steps
  pub counted : done ≡ went + 1
  pub last : State
  pub state : after_steps went before ≡ Some last
  pub answered : IsAnswer (step last) answer last after

-- two steps go on, one after the other
pub record TwoGo (before after : State) : Type 0 where
  pub middle : State
  pub first : step before ≡ Went middle
  pub second : step middle ≡ Went after

-- what at most so many steps leave, of which `done` were done
abbrev pub Leaves : StepAnswer → (steps done : ℕ) → (before after : State) → Type 0
Leaves answers.Went steps done before after = (done ≡ steps) × (after_steps steps before ≡ Some after)
Leaves answers.Ended steps done before after = Last answers.Ended steps done before after
Leaves (answers.Stopped stop) steps done before after = Last (answers.Stopped stop) steps done before after

-- what a run answers whose last step came to this answer, where X0 is the result
abbrev pub outcome_at : StepAnswer → (x0 : ℕ) → OutcomeAnswer
outcome_at answers.Went x0 = outcomes.Spent
outcome_at answers.Ended x0 = outcomes.End x0
outcome_at (answers.Stopped stop) x0 = outcomes.Stop stop
