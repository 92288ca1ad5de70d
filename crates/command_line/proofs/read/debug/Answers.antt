use Rattle.std.proofs.Common.{◌∙◌, sym, ap}
use Rattle.std.specs.Prelude.{option_map, option_and_then}
use Rattle.std.proofs.lemmas.Result.{IfOk-from_err}
use Rattle.command_line.specs.Line.{Words, Options, debug_with}
use Rattle.command_line.specs.View.{texts, all_left, options_view, settings_and_words}
use Rattle.command_line.proofs.Lines.{debug_is}
use Rattle.command_line.proofs.Outcomes.{ok_is}
use Rattle.command_line.proofs.read.debug.Goals as goal

pub returns-in_err-settings : goal.returns-in_err-settings
returns-in_err-settings c = IfOk-from_err _ _ c.from_residual.ensures.0

pub returns-in-Some : goal.returns-in-Some
returns-in-Some c =
    ok_is _ _ _ _ c.debug_with.ensures (ap (debug_with (options_view c.in-Some.settings)) (ap all_left c.deref.ensures.value)
    ∙ sym (debug_is (texts c.args.words.now) ∙ ap (option_and_then (λ (p : Options × Words). debug_with p.0 p.1)) (sym c.in_ok-settings.ensures ∙ ap (option_map settings_and_words) c.in-Some.is)))

pub returns-in-None : goal.returns-in-None
returns-in-None c =
    sym (debug_is (texts c.args.words.now) ∙ ap (option_and_then (λ (p : Options × Words). debug_with p.0 p.1)) (sym c.in_ok-settings.ensures ∙ ap (option_map settings_and_words) c.in-None.is))
