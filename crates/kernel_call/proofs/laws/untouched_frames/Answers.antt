use Rattle.promises.specs.Saved.{saved_by}
use Rattle.call_code.proofs.AroundWords.{are_saved, frame_holds}
use Rattle.kernel_call.proofs.Untouched.{untouched}
use Rattle.kernel_call.proofs.laws.untouched_frames.Goals as goal

pub returns : goal.returns
returns c = λ k words s room low h. untouched c.more_pages.ensures.same c.more_pages.ensures.apart (saved_by words) k s (frame_holds (saved_by words) (are_saved words)) room low h
