use Rattle.std.proofs.Common.{◌∙◌, sym, ap, Some}
use Rattle.std.specs.Prelude.{option_map}
use Rattle.std.proofs.lemmas.Result.{IfOk-from_err}
use Rattle.command_line.specs.Line.{Words, Options}
use Rattle.command_line.specs.View.{options_view}
use Rattle.command_line.specs.Given.{options_and_words}
use Rattle.command_line.specs.Taken.{given_view}
use Rattle.command_line.proofs.read.options_and_words.Goals as goal

pub returns-in_err-found : goal.returns-in_err-found
returns-in_err-found c = IfOk-from_err _ _ c.from_residual.ensures.0

pub returns-in_default : goal.returns-in_default
returns-in_default c = sym (ap options_and_words (sym c.in_ok-found.ensures ∙ ap (option_map given_view) c.in_default.is))

pub returns-in_default-read_settings : goal.returns-in_default-read_settings
returns-in_default-read_settings c =
    sym (ap options_and_words (sym c.in_ok-found.ensures ∙ ap (option_map given_view) c.in-Some.is)
    ∙ ap (option_map (λ (o : Options). (o, (given_view c.in-Some.found).words))) (sym c.read_settings.ensures ∙ ap (option_map options_view) c.in_default-read_settings.is))

pub returns-in_err-words : goal.returns-in_err-words
returns-in_err-words c = IfOk-from_err _ _ c.from_residual-in_err-words.ensures.0

pub returns : goal.returns
returns c =
    sym (ap options_and_words (sym c.in_ok-found.ensures ∙ ap (option_map given_view) c.in-Some.is)
    ∙ ap (option_map (λ (o : Options). (o, (given_view c.in-Some.found).words))) (sym c.read_settings.ensures ∙ ap (option_map options_view) c.in-Some-read_settings.is)
    ∙ ap (λ (words : Words). Some (options_view c.in-Some-read_settings.settings, words)) (sym c.in_ok-words.ensures))
