-- The words of a compiled file, run from any place and from any state that has the arguments: what other registers, flags, vectors and
-- predicates hold does not matter.
use Rattle.std.specs.Prelude.{ℕ, ◌≤◌, List}
use Rattle.machine_model.specs.Machine.{State}
use Rattle.machine_model.specs.Run.{run, suppressed}
use Rattle.machine_model.specs.States.{IsState}
use Rattle.kernel_tree.specs.Plain.{Program}
use Rattle.kernel_meaning.specs.ScalarRun.{begun, scalar_run}
use Rattle.label_fix.specs.Finished.{StandAt}
use Rattle.loop_code.specs.Runs.{HasArguments}
use Rattle.close_bound.specs.CloseBound.{close_bound}
use Rattle.promises.specs.Faithful.{Follows, end_steps}

-- a state whose PC is at the first of the words, with arguments in X0 to X7, zero where there is none
pub record IsBegun (words args : List ℕ) (s : State) : Type 0 where
  pub state : IsState s
  pub code : StandAt s.memory s.pc words
  pub given : HasArguments args s.memory s

-- within a bound, the machine's run is over, and is as the scalar loop's
abbrev pub RunsAnywhere : (enough : Program → (args : List ℕ) (vl m q : ℕ) → ℕ) → Program → (words : List ℕ) → Type 0
RunsAnywhere enough k words =
    (args : List ℕ) (s : State) (steps : ℕ) → IsBegun words args s
    → enough k args s.vl (begun (scalar_run k args s.memory)) (suppressed steps s) ≤ steps
    → Follows k args s.vl (scalar_run k args s.memory) (run steps 0 s)

abbrev pub ClosesAnywhere : Program → List ℕ → Type 0
ClosesAnywhere k words = RunsAnywhere close_bound k words

abbrev pub EndsAnywhere : Program → List ℕ → Type 0
EndsAnywhere k words = RunsAnywhere end_steps k words
