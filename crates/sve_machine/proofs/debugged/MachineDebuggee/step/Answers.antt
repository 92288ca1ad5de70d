use Rattle.sve_machine.proofs.debugged.MachineDebuggee.step.Goals as goal

pub returns : goal.returns
returns c = record { again = c.step.ensures.again; unchanged = c.step.ensures.unchanged; answer = λ none quiet. c.step.ensures.answer none; steps = c.step.ensures.steps; over = c.step.ensures.over; quiet = c.step.ensures.quiet; past = c.step.ensures.past }
