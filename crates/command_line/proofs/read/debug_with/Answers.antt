use Rattle.std.proofs.Common.{◌∙◌, sym, ap, ℕ, Some}
use Rattle.std.specs.Prelude.{option_map, is_some}
use Rattle.std.proofs.lemmas.Result.{IfOk-from_err}
use Rattle.command_line.specs.Line.{DebugLine, or_default}
use Rattle.command_line.specs.View.{options_view, all_left, task_view, extent_view}
use Rattle.command_line.proofs.WithOptions.{is_some_map, sized, sized_as, debug_steps, debug_dump, debug_suppress, debug_unsized, debug_sized}
use Rattle.command_line.proofs.read.debug_with.Goals.{then-is_some-via-then-is_some, then-is_some-via-else-is_some+then-is_some-2, then-is_some-via-else-is_some+else-is_some-2+then-is_some-3}
use Rattle.command_line.proofs.read.debug_with.Goals as goal

pub returns-then-is_some : goal.returns-then-is_some
returns-then-is_some c = elim c.then-is_some.branch [
  | then-is_some-via-then-is_some w ↦ sym (debug_steps (options_view c.args.settings) (all_left c.args.words.now) (sym c.is_some.ensures ∙ w.if-is_some.true))
  | then-is_some-via-else-is_some+then-is_some-2 w ↦
      sym (debug_dump (options_view c.args.settings) (all_left c.args.words.now) (sym c.is_some.ensures ∙ w.if-is_some.false)
      (is_some_map extent_view c.args.settings.dump ∙ sym w.is_some-else-is_some.ensures ∙ w.if-is_some-2.true))
  | then-is_some-via-else-is_some+else-is_some-2+then-is_some-3 w ↦
      sym (debug_suppress (options_view c.args.settings) (all_left c.args.words.now) (sym c.is_some.ensures ∙ w.if-is_some.false)
      (is_some_map extent_view c.args.settings.dump ∙ sym w.is_some-else-is_some.ensures ∙ w.if-is_some-2.false) (sym w.is_some-else-is_some-2.ensures ∙ w.if-is_some-3.true))
]

pub returns-in_default : goal.returns-in_default
returns-in_default c =
    sym (debug_unsized (options_view c.args.settings) (all_left c.args.words.now) (sym c.is_some.ensures ∙ c.if-is_some.false)
    (is_some_map extent_view c.args.settings.dump ∙ sym c.is_some-else-is_some.ensures ∙ c.if-is_some-2.false) (sym c.is_some-else-is_some-2.ensures ∙ c.if-is_some-3.false)
    (sized c.args.settings.vl _ _ c.unwrap_or.ensures c.length_of.ensures.some ∙ ap is_some c.in_default.is))

pub returns-in_err-task : goal.returns-in_err-task
returns-in_err-task c = IfOk-from_err _ _ c.from_residual.ensures.0

pub returns-in_default-2 : goal.returns-in_default-2
returns-in_default-2 c =
    sym (debug_sized (options_view c.args.settings) (all_left c.args.words.now) (sym c.is_some.ensures ∙ c.if-is_some.false)
    (is_some_map extent_view c.args.settings.dump ∙ sym c.is_some-else-is_some.ensures ∙ c.if-is_some-2.false) (sym c.is_some-else-is_some-2.ensures ∙ c.if-is_some-3.false)
    (sized c.args.settings.vl _ _ c.unwrap_or.ensures c.length_of.ensures.some ∙ ap is_some c.in-Some.is)
    ∙ ap (option_map (DebugLine (or_default c.args.settings.vl 128))) (sym c.in_ok-task.ensures ∙ ap (option_map task_view) c.in_default-2.is))

pub returns : goal.returns
returns c =
    sym (debug_sized (options_view c.args.settings) (all_left c.args.words.now) (sym c.is_some.ensures ∙ c.if-is_some.false)
    (is_some_map extent_view c.args.settings.dump ∙ sym c.is_some-else-is_some.ensures ∙ c.if-is_some-2.false) (sym c.is_some-else-is_some-2.ensures ∙ c.if-is_some-3.false)
    (sized c.args.settings.vl _ _ c.unwrap_or.ensures c.length_of.ensures.some ∙ ap is_some c.in-Some.is)
    ∙ ap (option_map (DebugLine (or_default c.args.settings.vl 128))) (sym c.in_ok-task.ensures ∙ ap (option_map task_view) c.in-Some-2.is)
    ∙ ap (λ (vl : ℕ). Some (DebugLine vl (task_view c.in-Some-2.task))) (sized_as c.args.settings.vl _ _ _ c.unwrap_or.ensures c.length_of.ensures.value c.in-Some.is))
