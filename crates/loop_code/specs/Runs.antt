-- What the code of a kernel does, by the run of a draft: what it leaves before the loop, and how it ends.
use Rattle.std.specs.Prelude.{◌≡◌, ℕ, ◌+◌, ◌*◌, ◌<◌, ◌≤◌, ◌^◌, List, length, Some, All, slice_index}
use Rattle.guest_types.specs.Memory.{Memory, IsMemory}
use Rattle.machine_model.specs.Machine.{State, x_at}
use Rattle.kernel_tree.specs.Plain.{Program}
use Rattle.kernel_tree.specs.Items.{vars_size, for_loop_size, answer_size, loop_index}
use Rattle.kernel_meaning.specs.Eval.{Names}
use Rattle.kernel_meaning.specs.ScalarRun.{started, run_from, IsWithin}
use Rattle.label_fix.specs.DraftRun.{DraftEntry, Laid, following}
use Rattle.label_fix.specs.Stretches.{Resolves, Goes}
use Rattle.loop_code.specs.Kernel.{begin_code, scalar_code}
use Rattle.scalar_words.specs.Iterations.{frame_of, AtIteration, Comes}

-- a state that has arguments in X0 to X7, and zero in those after the last one
pub record HasArguments (args : List ℕ) (m : Memory) (s : State) : Type 0 where
  pub few : length args ≤ 8
  pub words : All (λ arg. arg < 2 ^ 64) args
  pub sized : length s.x ≡ 31
  pub held : (r : ℕ) → r < 8 → x_at s r ≡ slice_index args r
  pub memory : s.memory ≡ m
  pub good : IsMemory m

-- ---- before the loop

-- At most so many words lead from the entries c and a state with arguments to the entries `rest`, before iteration 0, with
-- the names as the scalar loop starts with them. No initial value faults.
pub record Begins (R : ℕ → ℕ) (k : Program) (D : Laid) (c : List DraftEntry) (s : State) (rest : List DraftEntry) (args : List ℕ) (m : Memory) (most : ℕ) : Type 0 where
  pub names : Names
  pub starts : started k args m ≡ Some names
  pub end : State
  pub goes : Goes D c s rest end most
  pub at : AtIteration R k 0 names m end
  pub frame : frame_of end ≡ frame_of s

-- a word for each parameter, four for each item of the accumulators, and one
abbrev pub begin_steps : Program → ℕ
begin_steps k = 1 + length k.params + 4 * vars_size (loop_index k) k.vars

abbrev pub BeginRuns : (ℕ → ℕ) → Program → Type 0
BeginRuns R k = (D : Laid) (n : ℕ) (rest : List DraftEntry) (args : List ℕ) (m : Memory) (s : State) → HasArguments args m s → Resolves D (begin_code R k n rest) → Begins R k D (begin_code R k n rest) s rest args m (begin_steps k)

-- four words for each item of an iteration, of which `for` is one; and for each of the returned value, with five
abbrev pub steps_per_iteration : Program → ℕ
steps_per_iteration k = 4 * for_loop_size k.for_loop

abbrev pub end_steps : Program → ℕ
end_steps k = 5 + 4 * answer_size (loop_index k) k.answer

-- Code that is entered before an iteration, at its first entry or after its label, does what the scalar loop does from there on.
pub record ScalarRuns (R : ℕ → ℕ) (k : Program) : Type 0 where
  pub reached : (D : Laid) (n : ℕ) (rest : List DraftEntry) (i : ℕ) (names : Names) (m : Memory) (s : State) → Resolves D (scalar_code R k n rest) → IsWithin k.for_loop i names → AtIteration R k i names m s
      → Comes D (scalar_code R k n rest) s (steps_per_iteration k) (end_steps k) i (run_from k i m names)
  pub entered : (D : Laid) (n : ℕ) (rest : List DraftEntry) (i : ℕ) (names : Names) (m : Memory) (s : State) → Resolves D (scalar_code R k n rest) → IsWithin k.for_loop i names → AtIteration R k i names m s
      → Comes D (following D n) s (steps_per_iteration k) (end_steps k) i (run_from k i m names)
