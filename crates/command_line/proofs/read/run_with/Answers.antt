use Rattle.std.proofs.Common.{◌∙◌, sym, ap, ℕ, Some}
use Rattle.std.specs.Prelude.{option_map, is_some}
use Rattle.std.proofs.lemmas.Result.{IfOk-from_err}
use Rattle.command_line.specs.Line.{RunLine, or_default}
use Rattle.command_line.specs.View.{options_view, all_left, task_view}
use Rattle.command_line.proofs.WithOptions.{sized, sized_as, run_unsized, run_sized}
use Rattle.command_line.proofs.read.run_with.Goals as goal

pub returns-in_default : goal.returns-in_default
returns-in_default c =
    sym (run_unsized (options_view c.args.settings) (all_left c.args.words.now) (sized c.args.settings.vl _ _ c.unwrap_or.ensures c.length_of.ensures.some ∙ ap is_some c.in_default.is))

pub returns-in_err-task : goal.returns-in_err-task
returns-in_err-task c = IfOk-from_err _ _ c.from_residual.ensures.0

pub returns-in_default-2 : goal.returns-in_default-2
returns-in_default-2 c =
    sym (run_sized (options_view c.args.settings) (all_left c.args.words.now) (sized c.args.settings.vl _ _ c.unwrap_or.ensures c.length_of.ensures.some ∙ ap is_some c.in-Some.is)
    ∙ ap (option_map (RunLine (or_default c.args.settings.vl 128) c.args.settings.suppress)) (sym c.in_ok-task.ensures ∙ ap (option_map task_view) c.in_default-2.is))

pub returns : goal.returns
returns c =
    sym (run_sized (options_view c.args.settings) (all_left c.args.words.now) (sized c.args.settings.vl _ _ c.unwrap_or.ensures c.length_of.ensures.some ∙ ap is_some c.in-Some.is)
    ∙ ap (option_map (RunLine (or_default c.args.settings.vl 128) c.args.settings.suppress)) (sym c.in_ok-task.ensures ∙ ap (option_map task_view) c.in-Some-2.is)
    ∙ ap (λ (vl : ℕ). Some (RunLine vl c.args.settings.suppress (task_view c.in-Some-2.task))) (sized_as c.args.settings.vl _ _ _ c.unwrap_or.ensures c.length_of.ensures.value c.in-Some.is))
