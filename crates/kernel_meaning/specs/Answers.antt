-- What the evaluator answers.
use Rattle.std.specs.Prelude.{◌≡◌, ℕ, ◌<◌, ◌≤◌}
use Rattle.guest_types.specs.Memory.{Memory}
use Rattle.kernel_meaning.specs.ScalarRun.{Run, End, Fault, begun}
use Rattle.kernel_meaning.specs.declared.outcome.ScalarOutcome.{ScalarOutcome}
use Rattle.kernel_meaning.specs.declared.outcome.ScalarOutcome.TheVariants as outcome

-- The outcome of at most `limit` iterations of a run, with the memory that is left: the run's own where it begins no more;
-- else it is spent, and the memory is what the first `limit` iterations leave.
abbrev pub IsOutcome : ScalarOutcome → (limit : ℕ) → Run → (after first : Memory) → Type 0
IsOutcome (outcome.End result n) limit run after first = (run ≡ End after result n) × (n ≤ limit)
IsOutcome (outcome.Fault n) limit run after first = (run ≡ Fault after n) × (n ≤ limit)
IsOutcome outcome.Spent limit run after first = (limit < begun run) × (after ≡ first)
