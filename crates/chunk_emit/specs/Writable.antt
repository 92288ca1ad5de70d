-- What the fields of instructions admit of the items of a loop.
use Rattle.std.specs.Prelude.{◌<◌, ◌≤◌, ℤ, List, [], ◌∷◌, Some, unsigned_abs}
use Rattle.guest_types.specs.declared.length.Width.{Width}
use Rattle.loop_form.specs.declared.loop_item.Operand.{Operand}
use Rattle.loop_form.specs.LoopItems.{Op, Item}
use Rattle.loop_form.specs.LoopItems as ops
use Rattle.lane_emit.specs.LaneCode.{size_of}
use Rattle.chunk_emit.specs.Registers.{base_of}
use Rattle.kernel_tree.specs.Wrap.{log_bytes}

-- the place of an element: a general register, and an offset of 12 bits
abbrev pub IsPlace : Operand → ℤ → Type 0
IsPlace base c = (base_of base < 32) × (unsigned_abs c < 4096)

-- a stored type is no wider than the lanes
abbrev pub IsWritable : Width → Op → Type 0
IsWritable w (ops.Load a base (Some t) c) = IsPlace base c
IsWritable w (ops.Gather a base (Some t) reach (Some u) x) = base_of base < 32
IsWritable w (ops.Store a base (Some t) c v) = IsPlace base c × (log_bytes t ≤ size_of w)
IsWritable w _ = Unit {0}

abbrev pub AreWritable : Width → List Item → Type 0
AreWritable w [] = Unit {0}
AreWritable w (it ∷ items) = IsWritable w it.op × AreWritable w items
