use Rattle.loop_form.specs.View.{program}
use Rattle.loop_form.proofs.IntervalRegisters.{held_few}
use Rattle.loop_form.proofs.laws.held_registers.Goals as goal

pub returns : goal.returns
returns c = held_few (program c.args.kernel.now) c.args.class c.args.regs.now c.requires
