-- The items of a kernel, as they are listed once.
use Rattle.std.specs.Prelude.{◌≡◌}
use Rattle.kernel_tree.specs.Plain.{Program}
use Rattle.loop_form.specs.Entries.{entries_of, loop_entries}
use Rattle.loop_form.specs.View.{entries_view}
use Rattle.loop_lists.specs.declared.items.Items.{Items}

-- all items of a kernel, and those of its loop
abbrev pub AreItems : Program → Items → Type 0
AreItems k items = (entries_view items.all.items ≡ entries_of k) × (entries_view items.looped.items ≡ loop_entries k)
