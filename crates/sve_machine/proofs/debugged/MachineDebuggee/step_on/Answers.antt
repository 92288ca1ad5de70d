use Rattle.sve_machine.proofs.debugged.MachineDebuggee.step_on.Goals as goal

pub returns : goal.returns
returns c = record { answer = λ quiet. c.step_on.ensures.answer; steps = c.step_on.ensures.steps; over = c.step_on.ensures.over; quiet = c.step_on.ensures.quiet; past = c.step_on.ensures.past }
