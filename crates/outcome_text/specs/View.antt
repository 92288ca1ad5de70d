-- The text of an outcome as the machine answers it.
use Rattle.std.specs.Prelude.{ℕ, List, []}
use Rattle.machine_model.specs.declared.outcome.Outcome.{Outcome}
use Rattle.machine_model.specs.Answers.{outcome_of}
use Rattle.machine_model.specs.OutcomeText.{outcome_text}

-- an outcome's text does not speak of memory
abbrev pub text_of : Outcome → (pc steps : ℕ) → List ℕ
text_of outcome pc steps = outcome_text (outcome_of outcome [] pc steps)
