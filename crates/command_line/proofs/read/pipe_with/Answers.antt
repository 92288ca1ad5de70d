use Rattle.std.proofs.Common.{◌∙◌, sym, ap, ℕ, Some}
use Rattle.std.specs.Prelude.{option_map, is_some}
use Rattle.std.proofs.lemmas.Result.{IfOk-from_err}
use Rattle.command_line.specs.Line.{PipeLine, or_default}
use Rattle.command_line.specs.View.{options_view, all_left, task_view}
use Rattle.command_line.proofs.WithOptions.{sized, sized_as, pipe_suppress, many_words, at_most_one_word_left, pipe_words, pipe_unsized, pipe_sized}
use Rattle.command_line.proofs.read.pipe_with.Goals.{then-is_some-via-then-is_some, then-is_some-via-else-is_some+then-words-gt1}
use Rattle.command_line.proofs.read.pipe_with.Goals as goal

pub returns-then-is_some : goal.returns-then-is_some
returns-then-is_some c = elim c.then-is_some.branch [
  | then-is_some-via-then-is_some w ↦ sym (pipe_suppress (options_view c.args.settings) (all_left c.args.words.now) (sym c.is_some.ensures ∙ w.if-is_some.true))
  | then-is_some-via-else-is_some+then-words-gt1 w ↦ sym (pipe_words (options_view c.args.settings) (all_left c.args.words.now) (sym c.is_some.ensures ∙ w.if-is_some.false) (many_words c.args.words.now w.if-words-gt1.true))
]

pub returns-in_default : goal.returns-in_default
returns-in_default c =
    sym (pipe_unsized (options_view c.args.settings) (all_left c.args.words.now) (sym c.is_some.ensures ∙ c.if-is_some.false) (at_most_one_word_left c.args.words.now c.if-words-gt1.false)
    (sized c.args.settings.vl _ _ c.unwrap_or.ensures c.length_of.ensures.some ∙ ap is_some c.in_default.is))

pub returns-in_err-task : goal.returns-in_err-task
returns-in_err-task c = IfOk-from_err _ _ c.from_residual.ensures.0

pub returns-in_default-2 : goal.returns-in_default-2
returns-in_default-2 c =
    sym (pipe_sized (options_view c.args.settings) (all_left c.args.words.now) (sym c.is_some.ensures ∙ c.if-is_some.false) (at_most_one_word_left c.args.words.now c.if-words-gt1.false)
    (sized c.args.settings.vl _ _ c.unwrap_or.ensures c.length_of.ensures.some ∙ ap is_some c.in-Some.is)
    ∙ ap (option_map (PipeLine (or_default c.args.settings.vl 128))) (sym c.in_ok-task.ensures ∙ ap (option_map task_view) c.in_default-2.is))

pub returns : goal.returns
returns c =
    sym (pipe_sized (options_view c.args.settings) (all_left c.args.words.now) (sym c.is_some.ensures ∙ c.if-is_some.false) (at_most_one_word_left c.args.words.now c.if-words-gt1.false)
    (sized c.args.settings.vl _ _ c.unwrap_or.ensures c.length_of.ensures.some ∙ ap is_some c.in-Some.is)
    ∙ ap (option_map (PipeLine (or_default c.args.settings.vl 128))) (sym c.in_ok-task.ensures ∙ ap (option_map task_view) c.in-Some-2.is)
    ∙ ap (λ (vl : ℕ). Some (PipeLine vl (task_view c.in-Some-2.task))) (sized_as c.args.settings.vl _ _ _ c.unwrap_or.ensures c.length_of.ensures.value c.in-Some.is))
