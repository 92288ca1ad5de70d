use Rattle.std.proofs.Common.{◌≡◌, ◌++◌, ◌∷◌, [], ℕ, List, ap, ap₂, sym, ◌∙◌, codes}
use Rattle.std.specs.Prelude.{decimal}
use Rattle.machine_model.specs.OutcomeText.{outcome_text}
use Rattle.machine_model.specs.Run.{memory_left}
use Rattle.command_answers.proofs.Outcomes.{same_text}
use Rattle.pipe_command.proofs.LineRuns.{put_together}
use Rattle.pipe_command.proofs.runs.push_run.Goals as goal

pub returns : goal.returns
returns c = λ outcome is.
    let ran = c.args.ran.now in
    let shown : outcome_text outcome ≡ c.deref.result.now = ap outcome_text is ∙ same_text ran.outcome (memory_left outcome) ran.pc ran.steps ∙ sym c.in_ok-shown.ensures ∙ sym c.deref.ensures.value in
    let digits = c.as_bytes.ensures.value ∙ c.format.ensures.text in
    c.in_ok-extend_from_slice-3.ensures.items
    ∙ ap (λ t. t ++ c.deref.result.now) (c.in_ok-push.ensures.items ∙ ap (λ t. t ++ 10 ∷ []) (c.in_ok-extend_from_slice-2.ensures.items ∙ ap₂ (λ (t d : List ℕ). t ++ d) c.in_ok-extend_from_slice.ensures.items digits))
    ∙ put_together c.args.text.now.items (codes "run ") (decimal c.args.number) (10 ∷ []) c.deref.result.now
    ∙ ap (λ t. c.args.text.now.items ++ (codes "run " ++ (decimal c.args.number ++ (10 ∷ t)))) (sym shown)
