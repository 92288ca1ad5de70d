-- What contracts see of the layout of a kernel's loop.
use Rattle.guest_types.specs.declared.length.Width.{Width}
use Rattle.loop_form.specs.Lanes.{lane_width_of}
use Rattle.lane_emit.specs.RegistersView.{kernel_in, vectors_in, predicates_in}
use Rattle.chunk_emit.specs.declared.layout.LoopLayout.{LoopLayout}
use Rattle.chunk_emit.specs.Registers.{Layout}
use Rattle.chunk_emit.specs.KernelLayout.{layout_of_loop}

abbrev pub layout_in : LoopLayout → Layout
layout_in l = layout_of_loop (kernel_in l.registers) (vectors_in l.registers) (predicates_in l.registers)

abbrev pub width_in : LoopLayout → Width
width_in l = lane_width_of (kernel_in l.registers)
