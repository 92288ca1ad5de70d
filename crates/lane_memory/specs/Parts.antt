-- Elements that a part of one page has room for.
use Rattle.std.specs.Prelude.{◌≡◌, ℕ, ◌+◌, ◌*◌, ◌<◌, ◌≤◌, List, true}
use Rattle.guest_types.specs.Length.{all_lanes, width_bytes}
use Rattle.guest_types.specs.Elements.{active}
use Rattle.lane_memory.specs.declared.writing.Writing.{Writing}

-- so many elements from a place on are elements of a register, and fill so many bytes
pub record FitsPart (w : Writing) (from count len : ℕ) : Type 0 where
  pub inside : from + count ≤ all_lanes w.element
  pub whole : len ≡ width_bytes w.memory * count

-- the same, where all up to them are active, and as wide in memory as in the register
pub record FitsWhole (w : Writing) (pg : List ℕ) (from count len : ℕ) : Type 0 where
  pub part : FitsPart w from count len
  pub same : w.memory ≡ w.element
  pub full : (e : ℕ) → e < from + count → active w.element pg e ≡ true
