-- What a machine's answers say in terms of the model.
use Rattle.std.specs.Prelude.{◌≡◌, ℕ}
use Rattle.guest_types.specs.Memory.{Memory}
use Rattle.machine_model.specs.declared.outcome.Step.{Step as StepAnswer}
use Rattle.machine_model.specs.declared.outcome.Step.TheVariants as answers
use Rattle.machine_model.specs.declared.outcome.Outcome.{Outcome as OutcomeAnswer}
use Rattle.machine_model.specs.declared.outcome.Outcome.TheVariants as outcomes
use Rattle.machine_model.specs.Machine.{State, Step, Went, Ended, Stopped, x_at}
use Rattle.machine_model.specs.Run.{Outcome, End, Stop, Spent}

-- The answer to a step that the model takes from the state `before`, and the state that it left. An end and a stop leave every
-- register as it was; what a stop leaves of memory is the model's.
abbrev pub IsAnswer : Step → StepAnswer → (before after : State) → Type 0
IsAnswer model answers.Went before after = model ≡ Went after
IsAnswer model answers.Ended before after = (model ≡ Ended (x_at before 0)) × (after ≡ before)
IsAnswer model (answers.Stopped stop) before after =
    (model ≡ Stopped stop.kind stop.pc stop.at after.memory) × (after ≡ record before { memory = after.memory })

-- the answer to a run, with the memory and the place that it left and the number of steps taken
abbrev pub outcome_of : OutcomeAnswer → (memory : Memory) (pc steps : ℕ) → Outcome
outcome_of (outcomes.End result) memory pc steps = End memory result steps
outcome_of (outcomes.Stop stop) memory pc steps = Stop stop.kind stop.pc stop.at memory steps
outcome_of outcomes.Spent memory pc steps = Spent pc memory steps
