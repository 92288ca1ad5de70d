-- The words of a draft run as it does.
use Rattle.std.specs.Prelude.{◌≡◌, ℕ, ◌≤◌, ◌%◌, ◌^◌}
use Rattle.machine_model.specs.Machine.{State}
use Rattle.machine_model.specs.Run.{run, suppressed}
use Rattle.label_fix.specs.DraftRun.{Laid, draft_run}
use Rattle.label_fix.specs.Suppressions.{cuts}
use Rattle.label_fix.specs.Finished.{AreFit, StandAt, size, words_of}

-- Wherever the words of fit entries stand, the machine's run from the first of them on is the draft's, for every number of
-- steps. The stop list is part of the state.
abbrev pub RunsAsDraft : Type 0
RunsAsDraft = (d : Laid) (labels : ℕ) (s : State) → AreFit labels d.entries → size d.entries ≤ 65536 → StandAt s.memory d.base (words_of d.entries) → s.pc ≡ d.base % 2 ^ 64 → (steps taken : ℕ) → run steps taken s ≡ draft_run d steps taken d.entries s

-- The free elements that the draft suppresses are among those that the machine does.
abbrev pub CutsAreSuppressed : Type 0
CutsAreSuppressed = (d : Laid) (labels : ℕ) (s : State) → AreFit labels d.entries → size d.entries ≤ 65536 → StandAt s.memory d.base (words_of d.entries) → s.pc ≡ d.base % 2 ^ 64 → (steps : ℕ) → cuts d steps d.entries s ≤ suppressed steps s
