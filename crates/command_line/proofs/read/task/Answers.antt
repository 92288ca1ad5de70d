use Rattle.std.proofs.Common.{◌∙◌, sym, ap, []}
use Rattle.std.specs.Prelude.{option_map}
use Rattle.std.proofs.lemmas.Result.{IfOk-from_err}
use Rattle.number_text.specs.View.{bytes_left, items_in}
use Rattle.command_line.specs.View.{options_view, all_left}
use Rattle.command_line.proofs.Outcomes.{opened, no_elements}
use Rattle.command_line.proofs.WithOptions.{no_task, task_unread, task_is}
use Rattle.command_line.proofs.read.task.Goals as goal

pub returns-in_default : goal.returns-in_default
returns-in_default c = sym (no_task (options_view c.args.settings) (all_left c.args.words.now) (no_elements bytes_left c.args.words.now c.in_default.len_below))

pub returns-in_err-args : goal.returns-in_err-args
returns-in_err-args c = IfOk-from_err _ _ c.from_residual.ensures.0

pub returns-in_default-2 : goal.returns-in_default-2
returns-in_default-2 c =
    sym (task_unread (options_view c.args.settings) (all_left c.args.words.now) _ _ (opened bytes_left c.args.words.now (record { ref_ptr = (0, 0); now = [] }) c.in-len1-up.len_at_least)
    (sym c.in_ok-args.ensures.read ∙ ap (option_map items_in) c.in_default-2.is))

pub returns-in_err-owned : goal.returns-in_err-owned
returns-in_err-owned c = IfOk-from_err _ _ c.from_residual-in_err-owned.ensures.0

pub returns-in_err-from_str : goal.returns-in_err-from_str
returns-in_err-from_str c = IfOk-from_err _ _ c.from_residual-in_err-from_str.ensures.0

pub returns : goal.returns
returns c =
    sym (task_is (options_view c.args.settings) (all_left c.args.words.now) _ _ _ _ _ _ (opened bytes_left c.args.words.now (record { ref_ptr = (0, 0); now = [] }) c.in-len1-up.len_at_least)
    (sym c.in_ok-args.ensures.read ∙ ap (option_map items_in) c.in-Some.is) c.unwrap_or.ensures c.in_ok-owned.ensures c.in_ok-from_str.ensures.ok)
