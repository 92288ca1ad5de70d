-- What the reader's values stand for.
use Rattle.std.specs.Prelude.{◌≡◌, ℕ, ◌+◌, ◌<◌, ◌≤◌, List, length, slice_index, Option, None, Result, Err}
use Rattle.guest_types.specs.Memory.{Memory, IsMemory, DoNotMeet, page_numbers}
use Rattle.guest_types.specs.declared.memory.TheConstants.{MOST_PAGES}
use Rattle.map_text.specs.declared.fault.MapFault.{MapFault}
use Rattle.map_text.specs.declared.fault.MapFault.TheVariants as faults
use Rattle.map_text.specs.declared.map_line.MapLine.{MapLine as ReadLine}
use Rattle.map_text.specs.declared.map_line.MapLine.TheVariants as read
use Rattle.map_text.specs.declared.map_line.MappedRange.{MappedRange}
use Rattle.map_text.specs.declared.map_line.Patch.{Patch}
use Rattle.map_text.specs.Lines.{MapLine, Blank, Maps, Sets}

abbrev pub range_view : MappedRange → MapLine
range_view span = Maps span.address span.count span.perm

abbrev pub patch_view : Patch → MapLine
patch_view patch = Sets patch.address patch.bytes.items

abbrev pub line_view : ReadLine → MapLine
line_view read.Blank = Blank
line_view (read.Maps span) = range_view span
line_view (read.Sets patch) = patch_view patch

-- a fault is the wanted refusal, or want of memory, which alone is free
abbrev pub Refuses : Result Memory MapFault → MapFault → Type 0
Refuses wanted faults.Memory = Unit {0}
Refuses wanted fault = wanted ≡ Err fault

-- a fault of a line's form alone
abbrev pub IsLineFault : (line : ℕ) → Option MapLine → MapFault → Type 0
IsLineFault line form faults.Memory = Unit {0}
IsLineFault line form fault = (form ≡ None) × (fault ≡ faults.BadLine line)

-- pages that may stand beside those of an image
pub record IsBeside (image pages : Memory) : Type 0 where
  pub memory : IsMemory pages
  pub apart : DoNotMeet image pages
  pub few : length image + length pages ≤ MOST_PAGES

-- numbers before place `low` are below this one, and those from place `high` on are not
pub record IsAround (number : ℕ) (numbers : List ℕ) (low high : ℕ) : Type 0 where
  pub ordered : low ≤ high
  pub within : high ≤ length numbers
  pub below : (k : ℕ) → k < low → slice_index numbers k < number
  pub above : (k : ℕ) → high ≤ k → k < length numbers → number ≤ slice_index numbers k

-- the place of a number among pages
abbrev pub IsPlaceOf : (number : ℕ) → Memory → ℕ → Type 0
IsPlaceOf number pages place = IsAround number (page_numbers pages) place place
