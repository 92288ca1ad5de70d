-- Registers that fit a kernel.
use Rattle.std.specs.Prelude.{◌≡◌, ℕ}
use Rattle.kernel_tree.specs.Plain.{Program}
use Rattle.reg_assign.specs.declared.interval.RegClass.{RegClass}
use Rattle.reg_assign.specs.declared.interval.RegClass.TheVariants.{Z, P, X}
use Rattle.reg_assign.specs.Registers.{Assignment, IsAssignment}
use Rattle.loop_form.specs.Needs as needs

-- how many registers of a class hold values
abbrev pub counted_registers : RegClass → ℕ
counted_registers Z = 30
counted_registers P = 6
counted_registers X = 15

-- registers of a kernel's intervals of a class, among those that hold values
pub record FitsKernel (k : Program) (class : RegClass) (a : Assignment) : Type 0 where
  pub intervals : a.intervals ≡ needs.intervals k class
  pub assigned : IsAssignment (counted_registers class) a
