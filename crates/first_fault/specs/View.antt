-- What contracts see of the break region's code.
use Rattle.std.specs.Prelude.{ℕ, suc, ◌+◌, List, [], ◌∷◌, if◌then◌else◌}
use Rattle.std.specs.List.{list_any}
use Rattle.loop_form.specs.LoopItems.{Item}
use Rattle.first_fault.specs.declared.mode.Mode.{Mode}
use Rattle.first_fault.specs.declared.mode.Mode.TheVariants as mode
use Rattle.first_fault.specs.RegionCode as plain
use Rattle.first_fault.specs.BreakRegion.{is_loop_break}

abbrev pub mode_of : Mode → plain.Mode
mode_of mode.Early = plain.Early
mode_of mode.Single = plain.Single

-- how many items the break region has
abbrev pub region_size : List Item → ℕ
region_size [] = 0
region_size (it ∷ items) = if list_any is_loop_break (it ∷ items) then suc (region_size items) else 0

-- the same of items from a place on, where the ones before it come to a size
abbrev pub size_from : (size place : ℕ) → List Item → ℕ
size_from size place items = if list_any is_loop_break items then place + region_size items else size
