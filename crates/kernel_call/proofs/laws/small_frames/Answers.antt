use Rattle.promises.specs.Saved.{saved_by}
use Rattle.call_code.proofs.AroundWords.{are_saved, frame_small}
use Rattle.kernel_call.proofs.Lengths.{steps_few}
use Rattle.kernel_call.proofs.laws.small_frames.Goals as goal

pub returns-clause-frame : goal.returns-clause-frame
returns-clause-frame c = λ words. frame_small (saved_by words) (are_saved words)

pub returns-clause-steps : goal.returns-clause-steps
returns-clause-steps c = λ words. steps_few (saved_by words) (are_saved words)
