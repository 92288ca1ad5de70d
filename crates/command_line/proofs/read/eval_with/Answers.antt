use Rattle.std.proofs.Common.{◌∙◌, sym, ap}
use Rattle.std.specs.Prelude.{option_map}
use Rattle.std.proofs.lemmas.Result.{IfOk-from_err}
use Rattle.command_line.specs.Line.{EvalLine}
use Rattle.command_line.specs.View.{options_view, all_left, task_view}
use Rattle.command_line.proofs.WithOptions.{eval_vl, eval_suppress, eval_task}
use Rattle.command_line.proofs.read.eval_with.Goals.{then-is_some-via-then-is_some, then-is_some-via-else-is_some+then-is_some-2}
use Rattle.command_line.proofs.read.eval_with.Goals as goal

pub returns-then-is_some : goal.returns-then-is_some
returns-then-is_some c = elim c.then-is_some.branch [
  | then-is_some-via-then-is_some w ↦ sym (eval_vl (options_view c.args.settings) (all_left c.args.words.now) (sym c.is_some.ensures ∙ w.if-is_some.true))
  | then-is_some-via-else-is_some+then-is_some-2 w ↦
      sym (eval_suppress (options_view c.args.settings) (all_left c.args.words.now) (sym c.is_some.ensures ∙ w.if-is_some.false) (sym w.is_some-else-is_some.ensures ∙ w.if-is_some-2.true))
]

pub returns-in_err-task : goal.returns-in_err-task
returns-in_err-task c = IfOk-from_err _ _ c.from_residual.ensures.0

pub returns-in-Some : goal.returns-in-Some
returns-in-Some c =
    sym (eval_task (options_view c.args.settings) (all_left c.args.words.now) (sym c.is_some.ensures ∙ c.if-is_some.false) (sym c.is_some-else-is_some.ensures ∙ c.if-is_some-2.false)
    ∙ ap (option_map EvalLine) (sym c.in_ok-task.ensures ∙ ap (option_map task_view) c.in-Some.is))

pub returns-in-None : goal.returns-in-None
returns-in-None c =
    sym (eval_task (options_view c.args.settings) (all_left c.args.words.now) (sym c.is_some.ensures ∙ c.if-is_some.false) (sym c.is_some-else-is_some.ensures ∙ c.if-is_some-2.false)
    ∙ ap (option_map EvalLine) (sym c.in_ok-task.ensures ∙ ap (option_map task_view) c.in-None.is))
