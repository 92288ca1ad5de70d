-- Registers of intervals.
use Rattle.std.specs.Prelude.{◌≡◌, ◌≢◌, ℕ, ◌<◌, List, length, Option, Some, None, Bool, false, IsTrue, slice_get, slice_index}
use Rattle.reg_assign.specs.declared.interval.Interval.{Interval}
use Rattle.reg_assign.specs.declared.interval.RegClass.{RegClass}
use Rattle.reg_assign.specs.declared.fault.AssignFault.{AssignFault}
use Rattle.reg_assign.specs.declared.fault.AssignFault.TheVariants.{TooMany, Memory}
use Rattle.reg_assign.specs.Intervals.{is_live, need_of}

-- intervals, and the number of the register of each
pub record Assignment : Type 0 where
  pub intervals : List Interval
  pub registers : List ℕ

abbrev pub assignment : List Interval → List ℕ → Assignment
assignment intervals registers = record { intervals = intervals; registers = registers }

-- whether a place of a list has an interval that is live at p
abbrev pub is_live_one : ℕ → Option Interval → Bool
is_live_one p None = false
is_live_one p (Some i) = is_live p i

abbrev pub is_live_in : List Interval → ℕ → ℕ → Bool
is_live_in intervals j p = is_live_one p (slice_get intervals j)

-- Each interval has one of n registers, and two of them that are live at one point have different ones.
pub record IsAssignment (n : ℕ) (a : Assignment) : Type 0 where
  pub each : length a.registers ≡ length a.intervals
  pub below : (j : ℕ) → j < length a.registers → slice_index a.registers j < n
  pub apart : (i j p : ℕ) → i ≢ j → IsTrue (is_live_in a.intervals i p) → IsTrue (is_live_in a.intervals j p)
      → slice_index a.registers i ≢ slice_index a.registers j

-- a refusal names the class and the need, which is more than n; want of memory may come at any time
abbrev pub IsRefusal : RegClass → List Interval → ℕ → AssignFault → Type 0
IsRefusal class intervals n (TooMany c need) = (c ≡ class) × (need ≡ need_of intervals) × (n < need)
IsRefusal class intervals n Memory = Unit {0}
