use Rattle.std.proofs.Common.{◌∙◌, sym, ap, Some}
use Rattle.std.specs.Prelude.{option_map}
use Rattle.std.proofs.lemmas.Result.{IfOk-from_err}
use Rattle.command_line.specs.Given.{Given}
use Rattle.command_line.specs.Taken.{given_view}
use Rattle.command_line.specs.Line.{Words}
use Rattle.command_line.specs.View.{texts}
use Rattle.command_line.proofs.Lines.{words_alone}
use Rattle.command_line.proofs.read.words_alone.Goals as goal

pub returns-in_err-found : goal.returns-in_err-found
returns-in_err-found c = IfOk-from_err _ _ c.from_residual.ensures.0

pub returns-in_default : goal.returns-in_default
returns-in_default c = sym (words_alone (texts c.args.words.now) ∙ ap (option_map (λ (g : Given). g.words)) (sym c.in_ok-found.ensures ∙ ap (option_map given_view) c.in_default.is))

pub returns-in_err-words : goal.returns-in_err-words
returns-in_err-words c = IfOk-from_err _ _ c.from_residual-in_err-words.ensures.0

pub returns : goal.returns
returns c =
    sym (words_alone (texts c.args.words.now) ∙ ap (option_map (λ (g : Given). g.words)) (sym c.in_ok-found.ensures ∙ ap (option_map given_view) c.in-Some.is)
    ∙ ap (λ (words : Words). Some words) (sym c.in_ok-words.ensures))
