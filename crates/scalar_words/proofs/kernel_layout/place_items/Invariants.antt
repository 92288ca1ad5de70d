use Rattle.std.proofs.Common.{◌≡◌, ◌+◌, ◌≤◌, ◌++◌, drop, length, map}
use Rattle.scalar_words.specs.View.{register_number}
use Rattle.scalar_words.specs.KernelRegisters.{register_in, count_values, item_regs, item_last_use}
use Rattle.scalar_words.proofs.kernel_layout.place_items.Given as goal

abbrev pub invariant-loop-item : goal.invariant-loop-item
invariant-loop-item l = record {
  within : l.interval + count_values (drop l.item-index l.items) ≤ length l.regs.registers;
  room : l.interval ≤ l.first + l.item-index;
  regs : map register_number l.found.items ++ item_regs (register_in l.regs) l.interval (drop l.item-index l.items) ≡ map register_number l.fn.found.items ++ item_regs (register_in l.regs) l.first l.items;
  last_uses : l.last_uses.items ++ map item_last_use (drop l.item-index l.items) ≡ l.fn.last_uses.items ++ map item_last_use l.items;
}
