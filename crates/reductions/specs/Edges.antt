-- What the code before and after the loop of chunks does.
use Rattle.std.specs.Prelude.{◌≡◌, ℕ, ◌+◌, ◌≤◌, ℤ, List, length, slice_index}
use Rattle.guest_types.specs.Memory.{Memory}
use Rattle.kernel_tree.specs.Plain.{Program}
use Rattle.kernel_tree.specs.Items.{size_of}
use Rattle.kernel_tree.specs.Typing.{var_scope}
use Rattle.kernel_meaning.specs.Eval.{Names}
use Rattle.kernel_meaning.specs.Ranges.{AreRanged}
use Rattle.machine_model.specs.Machine.{State, x_at}
use Rattle.machine_model.specs.States.{IsState}
use Rattle.label_fix.specs.DraftRun.{DraftEntry, Laid}
use Rattle.label_fix.specs.Stretches.{Goes}
use Rattle.label_fix.specs.Registers.{iteration}
use Rattle.reg_assign.specs.declared.interval.RegClass.TheVariants.{X, Z}
use Rattle.reg_assign.specs.Registers.{Assignment}
use Rattle.loop_form.specs.Needs.{throughout}
use Rattle.loop_form.specs.Registers.{FitsKernel}
use Rattle.close_bound.specs.CloseBound.{laid_all, joined_all}
use Rattle.scalar_words.specs.KernelRegisters.{kernel_homes, register_in}
use Rattle.scalar_words.specs.Iterations.{AreHeld, AtIteration}
use Rattle.lane_emit.specs.Joins.{identity}
use Rattle.chunk_emit.specs.Head.{Ground, IsGround, AtHead, layout}
use Rattle.reductions.specs.EdgeCode.{start_code, fold_code}

-- what the elements of accumulators have taken in as the loop begins
abbrev pub nothing_taken : Ground → List ℕ → ℕ → ℤ
nothing_taken g x e = identity ((layout g).update x) ((layout g).sum_type x)

-- At most so many words lead to the state before the first pass.
pub record Starts (g : Ground) (m : Memory) (d : Laid) (code : List DraftEntry) (s : State) (rest : List DraftEntry) (most : ℕ) : Type 0 where
  pub end : State
  pub goes : Goes d code s rest end most
  pub head : AtHead g 0 g.names m (nothing_taken g) end

-- The code before the loop, from a state with the names as the loop begins: the registers of the ground are those of the state.
abbrev pub StartRuns : Type 0
StartRuns =
    (g : Ground) (m : Memory) (d : Laid) (rest : List DraftEntry) (s : State) → IsGround g → IsState s → s.vl ≡ g.vl → s.memory ≡ m → x_at s iteration ≡ 0 → ((r : ℕ) → r ≤ 25 → x_at s r ≡ slice_index g.x r)
    → Starts g m d (start_code g.kernel g.vectors rest) s rest (1 + laid_all (throughout g.kernel Z))

-- At most so many words lead to a state before iteration i, from which scalar code goes on.
pub record Folds (R : ℕ → ℕ) (g : Ground) (i : ℕ) (cur : Names) (m : Memory) (d : Laid) (code : List DraftEntry) (s : State) (rest : List DraftEntry) (most : ℕ) : Type 0 where
  pub end : State
  pub goes : Goes d code s rest end most
  pub at : AtIteration R g.kernel i cur m end

-- The code after the loop, from a state before a pass.
abbrev pub FoldRuns : Type 0
FoldRuns =
    (g : Ground) (c : Assignment) (i : ℕ) (cur : Names) (m : Memory) (sum : List ℕ → ℕ → ℤ) (d : Laid) (rest : List DraftEntry) (s : State) → IsGround g → FitsKernel g.kernel X c → AreRanged (var_scope g.kernel).visible g.names
    → AreHeld (kernel_homes (register_in c) g.kernel) g.names s → AtHead g i cur m sum s
    → Folds (register_in c) g i cur m d (fold_code (register_in c) g.kernel g.vectors rest) s rest (joined_all (throughout g.kernel Z))

-- A kernel holds no more values throughout than it has items.
abbrev pub FewHeld : Type 0
FewHeld = (k : Program) → length (throughout k Z) ≤ size_of k
