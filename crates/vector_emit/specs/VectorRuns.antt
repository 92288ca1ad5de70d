-- What the vector code of a kernel's loop does: what the scalar loop does, within a pace that counts chunks, and within a number
-- of words that counts iterations.
use Rattle.std.specs.Prelude.{◌≡◌, ℕ, ◌+◌, ◌*◌, ◌<◌, ◌≤◌, ◌^◌, List, slice_index}
use Rattle.guest_types.specs.Memory.{Memory, byte_at}
use Rattle.kernel_tree.specs.Plain.{Program}
use Rattle.kernel_meaning.specs.Eval.{Names}
use Rattle.kernel_meaning.specs.ScalarRun.{Run, End, Fault, IsWithin, run_from}
use Rattle.machine_model.specs.declared.outcome.StopKind.{StopKind}
use Rattle.machine_model.specs.Machine.{State, x_at}
use Rattle.machine_model.specs.States.{IsState}
use Rattle.machine_model.specs.Run.{IsAccess}
use Rattle.label_fix.specs.DraftRun.{DraftEntry, Laid, following}
use Rattle.label_fix.specs.Stretches.{Resolves, StopsPaced, EndsPaced}
use Rattle.reg_assign.specs.declared.interval.RegClass.TheVariants.{X, Z}
use Rattle.reg_assign.specs.Registers.{Assignment}
use Rattle.loop_form.specs.Needs.{throughout}
use Rattle.loop_form.specs.Registers.{FitsKernel}
use Rattle.close_bound.specs.CloseBound.{has_break, pass_steps, passes, spare, iteration_steps, last_steps, turning_steps, held_steps, ending_steps}
use Rattle.vector_order.specs.Elsewhere.{Elsewhere}
use Rattle.scalar_words.specs.KernelRegisters.{register_in}
use Rattle.scalar_words.specs.Iterations.{AtIteration, Comes}
use Rattle.chunk_emit.specs.Head.{Ground, IsGround, most_lanes, limit}
use Rattle.chunk_emit.specs.StopPlaces.{SomeComesTo}
use Rattle.chunk_pass.specs.Chunks.{items_of}
use Rattle.vector_emit.specs.VectorCode.{vector_code}

-- A stop at an address in a chunk of k lanes from iteration i on, where the scalar loop's fault is in the last one of bg iterations:
-- no byte differs but those of elements that these lanes store, and the address is of a byte that one of these iterations comes to.
pub record Near (g : Ground) (bg : ℕ) (kind : StopKind) (at : ℕ) (left faulted : Memory) : Type 0 where
  pub i : ℕ
  pub k : ℕ
  pub few : k ≤ most_lanes g
  pub within : i + k ≤ limit g
  pub from : i < bg
  pub until : bg ≤ i + k
  pub kept : (z : ℕ) → z < 2 ^ 64 → Elsewhere g.kernel g.args i k z → byte_at left z ≡ byte_at faulted z
  pub comes : SomeComesTo g.names (items_of g) i k kind at

-- Where the scalar loop ends, the code does with its memory and result; where it faults, the code stops at a read or a write.
-- Each is within a pace, whose base counts the iterations that were begun, and within `most` words, whatever free elements are
-- suppressed.
pub data Follows (g : Ground) (d : Laid) (c : List DraftEntry) (s : State) (unit : ℕ) (base most : ℕ → ℕ) : Run → Type 0 where
  ends_so : {m : Memory} {r bg : ℕ} → (end : EndsPaced d c s m r unit (base bg)) → end.count ≤ most bg → Follows g d c s unit base most (End m r bg)
  faults_so : {m : Memory} {bg : ℕ} (kind : StopKind) (left : Memory) → IsAccess kind → (stop : StopsPaced d c s kind left unit (base bg)) → Near g bg kind stop.at left m → stop.count ≤ most bg
      → Follows g d c s unit base most (Fault m bg)

-- the words before and after the passes, and of the end of the run
abbrev pub edge_steps : Program → ℕ
edge_steps k = 4 + turning_steps (has_break k) + held_steps (throughout k Z) + last_steps (has_break k) k + ending_steps k

-- the words of the passes over so many iterations, and of what stands before and after them
abbrev pub vector_base : Ground → ℕ → ℕ
vector_base g bg = 1 + edge_steps g.kernel + pass_steps g.kernel * passes g.kernel (most_lanes g) bg 0

-- those that a free element adds which is suppressed
abbrev pub vector_unit : Ground → ℕ
vector_unit g = pass_steps g.kernel * spare (has_break g.kernel)

-- the words of the passes where each iteration takes a chunk that no lane comes through and a pass by itself, and of what stands
-- before and after them
abbrev pub vector_most : Ground → ℕ → ℕ
vector_most g bg = edge_steps g.kernel + pass_steps g.kernel * (2 * bg + 2)

-- scalar code stands after the label: entered before an iteration, it does what the scalar loop does from there on
abbrev pub ReachesScalar : Ground → Assignment → Laid → (scalar : ℕ) → Type 0
ReachesScalar g c d scalar =
    (i : ℕ) (names : Names) (m : Memory) (s : State) → IsWithin g.kernel.for_loop i names → AtIteration (register_in c) g.kernel i names m s
    → Comes d (following d scalar) s (iteration_steps g.kernel) (ending_steps g.kernel) i (run_from g.kernel i m names)

-- The vector code, from a state as the loop begins; `scalar` is the label of scalar code.
abbrev pub VectorRuns : Type 0
VectorRuns =
    (g : Ground) (c : Assignment) (d : Laid) (scalar n : ℕ) (rest : List DraftEntry) (m : Memory) (s : State) → IsGround g → FitsKernel g.kernel X c → IsState s → s.vl ≡ g.vl → AtIteration (register_in c) g.kernel 0 g.names m s
    → ((r : ℕ) → r ≤ 25 → x_at s r ≡ slice_index g.x r) → Resolves d (vector_code (register_in c) g.kernel g.vectors g.predicates scalar n rest) → ReachesScalar g c d scalar
    → Follows g d (vector_code (register_in c) g.kernel g.vectors g.predicates scalar n rest) s (vector_unit g) (vector_base g) (vector_most g) (run_from g.kernel 0 m g.names)
