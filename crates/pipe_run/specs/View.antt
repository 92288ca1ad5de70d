-- What contracts see of lines.
use Rattle.std.specs.Prelude.{◌≡◌}
use Rattle.machine_model.specs.Answers.{outcome_of}
use Rattle.machine_model.specs.Run.{Outcome, memory_left}
use Rattle.pipe_run.specs.declared.line.LineOutcome.{LineOutcome}

-- what came of a line, with the memory that it left
abbrev pub IsOutcomeOf : LineOutcome → Outcome → Type 0
IsOutcomeOf line outcome = outcome ≡ outcome_of line.outcome (memory_left outcome) line.pc line.steps
