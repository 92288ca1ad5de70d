use Rattle.std.proofs.Common.{◌∙◌, subst}
use Rattle.kernel_tree.specs.Plain.{program_of}
use Rattle.kernel_tree.specs.Checked.{kernel_of}
use Rattle.kernel_front.specs.Verdict.{Verdict, Sound, IsVerdict, Explains}
use Rattle.loop_form.specs.View.{program}
use Rattle.sweep_run.proofs.Causes.{accepted}
use Rattle.sweep_run.proofs.file.generated.Goals as goal

pub returns-in-Ok : goal.returns-in-Ok
unfolding program
returns-in-Ok c =
    let k = program_of (kernel_of c.in-Ok.kernel) in
    accepted c.accepts_sweep.ensures c.args.number k (subst (λ t. IsVerdict t (Sound k)) (c.deref.ensures.value ∙ c.in_ok-text.ensures) c.in-Ok.ensures.sound)

pub reading_failed-requires : goal.reading_failed-requires
reading_failed-requires c =
    subst (λ t. (v : Verdict) → IsVerdict t v → Explains v c.in-Err.fault) (c.deref.ensures.value ∙ c.in_ok-text.ensures) c.in-Err.ensures.refused
