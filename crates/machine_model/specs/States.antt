-- What holds of every state of a run: the lengths of its lists, the bounds of its numbers, and zeros past the vector length.
use Rattle.std.specs.Prelude.{◌≡◌, ℕ, ◌-◌, ◌/◌, ◌^◌, ◌<◌, ◌≤◌, false, List, length, drop, replicate, All}
use Rattle.guest_types.specs.Length.{IsLength}
use Rattle.guest_types.specs.Memory.{Memory, IsMemory, DoNotMeet}
use Rattle.guest_types.specs.Elements.{bit}
use Rattle.machine_model.specs.Load.{Image}
use Rattle.machine_model.specs.Machine.{State}

pub record IsVector (vl : ℕ) (bytes : List ℕ) : Type 0 where
  pub whole : length bytes ≡ 256
  pub small : All (λ b. b < 256) bytes
  pub past : drop (vl / 8) bytes ≡ replicate (256 - vl / 8) 0

pub record IsPredicate (vl : ℕ) (bytes : List ℕ) : Type 0 where
  pub whole : length bytes ≡ 32
  pub small : All (λ b. b < 256) bytes
  pub past : (j : ℕ) → vl / 8 ≤ j → j < 256 → bit bytes j ≡ false

pub record IsState (s : State) : Type 0 where
  pub sized : IsLength s.vl
  pub mapped : IsMemory s.memory
  pub place : s.pc < 2 ^ 64
  pub x_count : length s.x ≡ 31
  pub x_small : All (λ v. v < 2 ^ 64) s.x
  pub sp_small : s.sp < 2 ^ 64
  pub z_count : length s.z ≡ 32
  pub z_each : All (IsVector s.vl) s.z
  pub p_count : length s.p ≡ 16
  pub p_each : All (IsPredicate s.vl) s.p
  pub ffr_is : IsPredicate s.vl s.ffr

-- what a run starts from: an image and pages that do not meet, arguments of 64 bits for the registers, and a vector length
pub record CanStart (image : Image) (args : List ℕ) (pages : Memory) (vl : ℕ) : Type 0 where
  pub sized : IsLength vl
  pub few : length args ≤ 31
  pub small : All (λ v. v < 2 ^ 64) args
  pub loaded : IsMemory image.pages
  pub mapped : IsMemory pages
  pub apart : DoNotMeet image.pages pages
  pub place : image.entry < 2 ^ 64
