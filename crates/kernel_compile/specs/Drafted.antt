-- The words of a kernel as those of a draft, whose run follows the scalar loop wherever the draft is laid, from any state that has
-- arguments in X0 to X7.
use Rattle.std.specs.Prelude.{◌≡◌, ℕ, ◌≤◌, List}
use Rattle.machine_model.specs.Machine.{State}
use Rattle.machine_model.specs.States.{IsState}
use Rattle.kernel_tree.specs.Plain.{Program}
use Rattle.kernel_meaning.specs.ScalarRun.{begun, scalar_run}
use Rattle.label_fix.specs.DraftRun.{DraftEntry, Laid, draft_run}
use Rattle.label_fix.specs.Finished.{AreFit, size, words_of}
use Rattle.label_fix.specs.Suppressions.{cuts}
use Rattle.loop_code.specs.Runs.{HasArguments}
use Rattle.close_bound.specs.CloseBound.{close_bound}
use Rattle.promises.specs.Faithful.{Follows, end_steps, close_slow_steps}
use Rattle.reserved_registers.specs.Alone.{AreAlone}

-- Within a bound: with at least so many steps, of which no more than q suppress a free element, the draft's run is over, and is as the
-- scalar loop's.
abbrev pub FollowsAnywhere : (enough : Program → (args : List ℕ) (vl m q : ℕ) → ℕ) → Program → List DraftEntry → Type 0
FollowsAnywhere enough k entries =
    (base steps q : ℕ) (args : List ℕ) (s : State) → HasArguments args s.memory s → IsState s
    → cuts (record { base = base; entries = entries }) steps entries s ≤ q → enough k args s.vl (begun (scalar_run k args s.memory)) q ≤ steps
    → Follows k args s.vl (scalar_run k args s.memory) (draft_run (record { base = base; entries = entries }) steps 0 entries s)

-- words of a fit draft of which something holds; none of its instructions writes X18, X29, X30 or SP, and one is an exit call
pub record AreDrafted (Holds : List DraftEntry → Type 0) (words : List ℕ) : Type 0 where
  pub entries : List DraftEntry
  pub labels : ℕ
  pub is : words ≡ words_of entries
  pub fit : AreFit labels entries
  pub few : size entries ≤ 65536
  pub alone : AreAlone 1 entries
  pub holds : Holds entries

abbrev pub FollowsSlowly : Program → List DraftEntry → Type 0
FollowsSlowly k entries = FollowsAnywhere close_slow_steps k entries

-- within the close bound, and within the one that no stop list moves
abbrev pub FollowsClosely : Program → List DraftEntry → Type 0
FollowsClosely k entries = FollowsAnywhere close_bound k entries × FollowsAnywhere end_steps k entries
