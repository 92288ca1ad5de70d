-- What a step was answered.
use Rattle.std.specs.Prelude.{Option, Some, None}
use Rattle.machine_model.specs.declared.outcome.Ending.{Ending}
use Rattle.machine_model.specs.declared.outcome.Step.{Step as StepAnswer}
use Rattle.machine_model.specs.declared.outcome.Step.TheVariants as answers
use Rattle.machine_model.specs.Debugged.{answer_by}

-- by how the machine came to its end with it, where it did
abbrev pub answer_of : Option Ending → StepAnswer
answer_of None = answers.Went
answer_of (Some ending) = answer_by ending
