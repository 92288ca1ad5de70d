-- The code of items from one item to the next.
use Rattle.std.specs.Prelude.{List, Bool, true, false, Option, Some, None, drop}
use Rattle.guest_types.specs.declared.length.Width.{Width}
use Rattle.machine_model.specs.InstructionTable.{Listed}
use Rattle.loop_form.specs.LoopItems.{Op, Item}
use Rattle.chunk_emit.specs.Registers.{Layout}
use Rattle.chunk_emit.specs.ChunkCode.{past_cast, items_words}

-- an item with another operation, and whether there is one
abbrev pub with_op : (it next : Item) → Option Op → Item
with_op it next None = it
with_op it next (Some op) = record next { op = op }

abbrev pub is_op : Option Op → Bool
is_op None = false
is_op (Some op) = true

-- the store of a cast's operand, where the next item is one, or else the item itself
abbrev pub chosen : Item → Option Item → Item
chosen it None = it
chosen it (Some next) = with_op it next (past_cast it.item it.op next.op)

-- whether the next item is done with it
abbrev pub takes_next : Item → Option Item → Bool
takes_next it None = false
takes_next it (Some next) = is_op (past_cast it.item it.op next.op)

-- the code of items, the first of which may be done
abbrev pub left_words : Width → Layout → Bool → List Item → List Listed
left_words w l true items = items_words w l (drop 1 items)
left_words w l false items = items_words w l items
