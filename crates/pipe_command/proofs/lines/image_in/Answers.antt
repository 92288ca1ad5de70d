use Rattle.std.proofs.Common.{None}
use Rattle.elf_image.specs.Loaded.{plain}
use Rattle.refusals.specs.Statuses.{of_elf, of_pipe}
use Rattle.pipe_command.specs.Pipes.{image_in}
use Rattle.pipe_command.proofs.Causes.{elf_refused, elf_content, fit_refused, pipe_content, image_is, by_error, by_content}
use Rattle.pipe_command.proofs.lines.image_in.Goals as goal

pub returns-in_err-image-clause-refusal : goal.returns-in_err-image-clause-refusal
returns-in_err-image-clause-refusal c =
    by_error (image_in c.args.map.now.pages.items c.args.line c.args.bytes.now) (of_elf c.in_err-image.field-0.0) c.from_residual.result c.from_residual.ensures.1
    (elf_refused c.args.bytes.now c.args.map.now.pages.items c.args.line c.in_err-image.field-0.0 c.in_err-image.ensures.refusal)

pub returns-in_err-image-clause-content : goal.returns-in_err-image-clause-content
returns-in_err-image-clause-content c = by_content (of_elf c.in_err-image.field-0.0) c.from_residual.result c.from_residual.ensures.1 (elf_content c.in_err-image.field-0.0)

pub returns-in_err-fits-clause-refusal : goal.returns-in_err-fits-clause-refusal
returns-in_err-fits-clause-refusal c =
    by_error (image_in c.args.map.now.pages.items c.args.line c.args.bytes.now) (of_pipe c.in_err-fits.field-0.0) c.from_residual-in_err-fits.result c.from_residual-in_err-fits.ensures.1
    (fit_refused c.args.bytes.now c.args.map.now.pages.items c.args.line (plain c.in_ok-image.image) c.in_err-fits.field-0.0 c.in_ok-image.ensures.image c.in_err-fits.ensures.refused)

pub returns-in_err-fits-clause-content : goal.returns-in_err-fits-clause-content
returns-in_err-fits-clause-content c = by_content (of_pipe c.in_err-fits.field-0.0) c.from_residual-in_err-fits.result c.from_residual-in_err-fits.ensures.1 (pipe_content c.in_err-fits.field-0.0)

pub returns-clause-image : goal.returns-clause-image
returns-clause-image c =
    image_is c.args.bytes.now c.args.map.now.pages.items c.args.line (plain c.in_ok-image.image) None c.in_ok-image.ensures.image c.in_ok-fits.ensures.none
