-- What contracts see of an instruction: its row of the joint table and the numbers of its fields.
use Rattle.a64_code.specs.View as a64
use Rattle.sve_code.specs.View as sve
use Rattle.machine_model.specs.InstructionTable as table
use Rattle.machine_model.specs.InstructionTable.{Listed}
use Rattle.sve_machine.specs.declared.instruction.Instruction.{Instruction}
use Rattle.sve_machine.specs.declared.instruction.Instruction.TheVariants.{Scalar, Vector}

abbrev pub view_of : Instruction → Listed
view_of (Scalar word) = table.Scalar (a64.instruction_view word)
view_of (Vector word) = table.Vector (sve.instruction_view word)
