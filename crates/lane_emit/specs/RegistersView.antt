-- What contracts see of the registers of a loop's values.
use Rattle.kernel_tree.specs.Plain.{Program}
use Rattle.reg_assign.specs.Registers.{Assignment}
use Rattle.loop_form.specs.View.{program}
use Rattle.lane_emit.specs.declared.registers.LaneRegisters.{LaneRegisters}
use Rattle.lane_emit.specs.ItemCode.{Registers}
use Rattle.lane_emit.specs.LoopRegisters.{loop_registers}

-- the kernel, and the registers of its vector and of its predicate intervals
abbrev pub kernel_in : LaneRegisters → Program
kernel_in r = program r.facts.now.kernel.now

abbrev pub vectors_in : LaneRegisters → Assignment
vectors_in r = r.regs.now.z

abbrev pub predicates_in : LaneRegisters → Assignment
predicates_in r = r.regs.now.p

abbrev pub registers_of : LaneRegisters → Registers
registers_of r = loop_registers (kernel_in r) (vectors_in r) (predicates_in r)
