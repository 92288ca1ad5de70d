-- Outcomes of runs, as the machine answers them.
use Rattle.std.proofs.Common.{◌≡◌, ℕ, refl}
use Rattle.guest_types.specs.Memory.{Memory}
use Rattle.machine_model.specs.declared.outcome.Outcome.{Outcome as OutcomeAnswer}
use Rattle.machine_model.specs.declared.outcome.Outcome.TheVariants as outcomes
use Rattle.machine_model.specs.Answers.{outcome_of}
use Rattle.machine_model.specs.OutcomeText.{outcome_text}
use Rattle.machine_model.specs.Run.{memory_left}
use Rattle.outcome_text.specs.View.{text_of as text_of_outcome}
use Rattle.command_answers.specs.Works.{done_by, done_of}

pub same_done : (o : OutcomeAnswer) (memory : Memory) (pc steps : ℕ) → done_by (outcome_of o memory pc steps) ≡ done_of o
same_done (outcomes.End result) memory pc steps = refl
same_done other memory pc steps = refl

pub same_text : (o : OutcomeAnswer) (memory : Memory) (pc steps : ℕ) → outcome_text (outcome_of o memory pc steps) ≡ text_of_outcome o pc steps
same_text (outcomes.End result) memory pc steps = refl
same_text other memory pc steps = refl

pub same_memory : (o : OutcomeAnswer) (memory : Memory) (pc steps : ℕ) → memory_left (outcome_of o memory pc steps) ≡ memory
same_memory (outcomes.End result) memory pc steps = refl
same_memory other memory pc steps = refl
