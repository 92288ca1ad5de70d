use Rattle.refusals.specs.Statuses.{of_pipe}
use Rattle.pipe_command.specs.Pipes.{entries_of}
use Rattle.pipe_command.proofs.Causes.{script_refused, pipe_content, by_error, by_content}
use Rattle.pipe_command.proofs.script.entries.Goals as goal

pub returns-in_err-lines-clause-refusal : goal.returns-in_err-lines-clause-refusal
returns-in_err-lines-clause-refusal c =
    by_error (entries_of c.args.script.now) (of_pipe c.in_err-lines.field-0.0) c.from_residual.result c.from_residual.ensures.1
    (script_refused c.args.script.now c.in_err-lines.field-0.0 c.in_err-lines.ensures.refused)

pub returns-in_err-lines-clause-content : goal.returns-in_err-lines-clause-content
returns-in_err-lines-clause-content c = by_content (of_pipe c.in_err-lines.field-0.0) c.from_residual.result c.from_residual.ensures.1 (pipe_content c.in_err-lines.field-0.0)
