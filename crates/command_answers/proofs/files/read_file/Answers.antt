use Rattle.std.proofs.Common.{Ok}
use Rattle.refusals.specs.Statuses.{of_files}
use Rattle.command_answers.specs.Requests.{IsOk}
use Rattle.command_answers.proofs.Reading.{is_err}
use Rattle.command_answers.proofs.Asks.{read_well, failed_read}
use Rattle.command_answers.proofs.files.read_file.Goals as goal

pub returns-in_err-read-clause-asked : goal.returns-in_err-read-clause-asked
returns-in_err-read-clause-asked g c =
    failed_read IsOk (g.F.Files.requests c.args.files.now) (g.F.Files.requests c.read.new.self) c.args.name.now c.in_err-read.field-0.0 c.read.result c.from_residual.result
    c.in_err-read.was (is_err (of_files c.in_err-read.field-0.0) c.from_residual.result c.from_residual.ensures.1) c.read.ensures.asked

pub returns-clause-asked : goal.returns-clause-asked
returns-clause-asked g c =
    read_well IsOk (g.F.Files.requests c.args.files.now) (g.F.Files.requests c.read.new.self) c.args.name.now c.read.result (Ok c.read.new.into) c.in_ok-read.was tt c.read.ensures.asked
