-- When a frame is none of a kernel's memory: it lies in other pages, or apart from the arrays that the kernel's run stays in.
use Rattle.std.specs.Prelude.{◌≡◌, ◌⊎◌, ℕ, ◌+◌, ◌^◌, ◌≤◌, true, List, [], ◌∷◌}
use Rattle.guest_types.specs.Memory.{Memory, DoNotMeet, can_read, merged}
use Rattle.machine_model.specs.Machine.{State}
use Rattle.kernel_tree.specs.Plain.{Program}
use Rattle.kernel_meaning.specs.ScalarRun.{End, scalar_run}
use Rattle.meaning_frame.specs.Accesses.{Access}
use Rattle.promises.specs.Function.{arguments, InFrame}
use Rattle.promises.specs.Saved.{Saved, frame_size}

-- The frame lies in pages that the kernel's run does without: over the other pages alone it ends.
pub record IsElsewhere (v : Saved) (k : Program) (s : State) : Type 0 where
  pub frames : Memory
  pub pages : Memory
  pub apart : DoNotMeet frames pages
  pub memory : s.memory ≡ merged frames pages
  pub mapped : (x : ℕ) → InFrame v s x → can_read frames x ≡ true
  pub after : Memory
  pub result : ℕ
  pub count : ℕ
  pub ends : scalar_run k (arguments s) pages ≡ End after result count

-- each access lies in one of some arrays, given by their addresses and their bytes
abbrev pub IsInside : Access → Access → Type 0
IsInside array access = (array.address ≤ access.address) × (access.address + access.bytes ≤ array.address + array.bytes)

abbrev pub InSome : List Access → Access → Type 0
InSome [] access = ⊥
InSome (array ∷ arrays) access = IsInside array access ⊎ InSome arrays access

abbrev pub AreInside : (arrays accesses : List Access) → Type 0
AreInside arrays [] = Unit {0}
AreInside arrays (access ∷ rest) = InSome arrays access × AreInside arrays rest

-- The frame ends below each of the arrays, or begins at the end of one or above it. No array goes on past the last address.
abbrev pub FrameApart : Saved → State → List Access → Type 0
FrameApart v s [] = Unit {0}
FrameApart v s (array ∷ arrays) =
    (array.address + array.bytes ≤ 2 ^ 64) × ((s.sp ≤ array.address) ⊎ (array.address + array.bytes + frame_size v ≤ s.sp)) × FrameApart v s arrays
