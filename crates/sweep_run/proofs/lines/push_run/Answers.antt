use Rattle.std.proofs.Common.{◌++◌, refl, sym, ap, ◌∙◌}
use Rattle.machine_model.specs.Answers.{outcome_of}
use Rattle.sweep_run.proofs.SweepLines.{run_line_is}
use Rattle.sweep_run.proofs.lines.push_run.Goals as goal

pub returns : goal.returns
returns c =
    let after = c.run-outcome.new.self in
    let came = outcome_of c.run-outcome.result after.state.memory after.state.pc after.steps in
    c.in_ok-push_outcome.ensures
    ∙ ap (λ l. c.args.text.now.items ++ l)
    (sym (run_line_is c.args.vl 100000000 c.args.machine.now.steps c.args.machine.now.state came refl c.requires.steps (c.run-outcome.ensures.outcome c.requires.over)))
