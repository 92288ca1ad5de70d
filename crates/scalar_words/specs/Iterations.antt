-- A state before an iteration, and code that ends the run from there.
use Rattle.std.specs.Prelude.{◌≡◌, ℕ, ◌+◌, ◌*◌, List, [], ◌∷◌, length}
use Rattle.guest_types.specs.Memory.{Memory, IsMemory}
use Rattle.guest_types.specs.EarlyLoads.{StopList}
use Rattle.machine_model.specs.declared.outcome.StopKind.{StopKind}
use Rattle.machine_model.specs.Run.{IsAccess}
use Rattle.machine_model.specs.Machine.{State, x_at}
use Rattle.kernel_tree.specs.Plain.{Program}
use Rattle.kernel_tree.specs.Typing.{var_scope}
use Rattle.kernel_meaning.specs.Operators.{word}
use Rattle.kernel_meaning.specs.Ranges.{AreRanged}
use Rattle.kernel_meaning.specs.Eval.{Names}
use Rattle.kernel_meaning.specs.ScalarRun.{Run, End, Fault}
use Rattle.label_fix.specs.DraftRun.{DraftEntry, Laid}
use Rattle.label_fix.specs.Registers.{iteration}
use Rattle.label_fix.specs.Stretches.{Stops, Ends}
use Rattle.scalar_words.specs.Layout.{Homes}
use Rattle.scalar_words.specs.KernelRegisters.{kernel_homes}

-- ---- names

-- each name's register has its value
abbrev pub AreHeld : Homes → Names → State → Type 0
AreHeld [] [] s = Unit {0}
AreHeld [] (n ∷ ns) s = ⊥
AreHeld (h ∷ hs) [] s = ⊥
AreHeld (h ∷ hs) (n ∷ ns) s = (n.name ≡ h.name) × (x_at s h.register ≡ word n.value) × AreHeld hs ns s

-- ---- states

-- what scalar code leaves alone besides registers and memory
pub record Frame : Type 0 where
  pub sp : ℕ
  pub z : List (List ℕ)
  pub p : List (List ℕ)
  pub ffr : List ℕ
  pub vl : ℕ
  pub stops : StopList

abbrev pub frame_of : State → Frame
frame_of s = record { sp = s.sp; z = s.z; p = s.p; ffr = s.ffr; vl = s.vl; stops = s.stops }

-- A state before iteration i, which stands in X9: the parameters and the accumulators have their values in their registers.
pub record AtIteration (R : ℕ → ℕ) (k : Program) (i : ℕ) (names : Names) (m : Memory) (s : State) : Type 0 where
  pub sized : length s.x ≡ 31
  pub index : x_at s iteration ≡ i
  pub ranged : AreRanged (var_scope k).visible names
  pub held : AreHeld (kernel_homes R k) names s
  pub memory : s.memory ≡ m
  pub good : IsMemory m

-- ---- the loop, and what follows it

-- What code does that ends the run: within K words for each iteration begun from i on, and F more.
pub data Comes (D : Laid) (c : List DraftEntry) (s : State) (K F i : ℕ) : Run → Type 0 where
  ends_so : {m : Memory} {r bg : ℕ} (n : ℕ) → bg ≡ i + n → Ends D c s m r (K * n + F) → Comes D c s K F i (End m r bg)
  faults_so : {m : Memory} {bg : ℕ} (n : ℕ) (kind : StopKind) → bg ≡ i + n → IsAccess kind → Stops D c s kind m (K * n + F) → Comes D c s K F i (Fault m bg)
