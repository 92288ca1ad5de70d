-- What a step leaves alone where its word leaves the reserved registers alone.
use Rattle.std.specs.Prelude.{◌≡◌, ℕ, true, Some}
use Rattle.guest_types.specs.Memory.{fetched}
use Rattle.machine_model.specs.Machine.{State, Went, x_at}
use Rattle.machine_model.specs.OneStep.{step}
use Rattle.promises.specs.Reserved.{is_reserved, LeavesReserved}

pub record AreKept (before after : State) : Type 0 where
  pub x : (n : ℕ) → is_reserved n ≡ true → x_at after n ≡ x_at before n
  pub sp : after.sp ≡ before.sp

-- X18, X29, X30 and SP are after the step what they were before it
abbrev pub StepsKeep : Type 0
StepsKeep = (s t : State) (word : ℕ) → fetched s.memory s.pc ≡ Some word → LeavesReserved word → step s ≡ Went t → AreKept s t
