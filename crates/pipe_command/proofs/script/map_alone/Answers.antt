use Rattle.std.proofs.Common.{ap, ◌∙◌, sym}
use Rattle.map_text.specs.Mapping.{map_of}
use Rattle.refusals.specs.Statuses.{of_map}
use Rattle.command_answers.specs.Works.{mapped}
use Rattle.pipe_command.specs.Pipes.{map_alone}
use Rattle.pipe_command.proofs.Causes.{map_refused, map_content, by_error, by_content}
use Rattle.pipe_command.proofs.script.map_alone.Goals as goal

pub returns-in_err-pages-clause-refusal : goal.returns-in_err-pages-clause-refusal
returns-in_err-pages-clause-refusal c =
    by_error (map_alone c.args.map.now) (of_map c.in_err-pages.field-0.0) c.from_residual.result c.from_residual.ensures.1
    (map_refused c.args.map.now c.empty-none.result.pages.items c.in_err-pages.field-0.0 c.empty-none.ensures.pages c.in_err-pages.ensures.refused)

pub returns-in_err-pages-clause-content : goal.returns-in_err-pages-clause-content
returns-in_err-pages-clause-content c = by_content (of_map c.in_err-pages.field-0.0) c.from_residual.result c.from_residual.ensures.1 (map_content c.in_err-pages.field-0.0)

pub returns-clause-map : goal.returns-clause-map
returns-clause-map c =
    ap mapped (ap (map_of c.args.map.now) (sym c.empty-none.ensures.pages) ∙ c.in_ok-pages.ensures.map)
