-- Until when the values of items are needed, as the listing has it.
use Rattle.std.specs.Prelude.{ℕ, unwrap_or}
use Rattle.loop_form.specs.declared.item.Item.{Item}

-- the item that uses an item's value last, or 0 where it makes none; the same of its condition
abbrev pub z_last : Item → ℕ
z_last it = unwrap_or it.z_last_use 0

abbrev pub p_last : Item → ℕ
p_last it = unwrap_or it.p_last_use 0
