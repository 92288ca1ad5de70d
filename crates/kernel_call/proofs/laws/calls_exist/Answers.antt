use Rattle.promises.specs.Saved.{saved_by}
use Rattle.call_code.proofs.AroundWords.{are_saved, frame_small, frame_holds}
use Rattle.kernel_call.proofs.CallExists.{call_exists}
use Rattle.kernel_call.proofs.laws.calls_exist.Goals as goal

pub returns : goal.returns
returns c = λ words few small. call_exists words few small (saved_by words) (frame_small (saved_by words) (are_saved words)) (frame_holds (saved_by words) (are_saved words))
