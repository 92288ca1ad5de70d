use Rattle.promises.specs.Saved.{saved_by}
use Rattle.call_code.proofs.AroundWords.{are_saved, frame_holds}
use Rattle.kernel_call.proofs.Arrays.{untouched_apart}
use Rattle.kernel_call.proofs.laws.untouched_arrays.Goals as goal

pub returns : goal.returns
returns c = λ k words s arrays room low inside apart. untouched_apart c.other_bytes.ensures (saved_by words) k s (frame_holds (saved_by words) (are_saved words)) room low arrays inside apart
