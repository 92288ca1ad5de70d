use Rattle.meaning_frame.proofs.OtherBytes.{run_same}
use Rattle.meaning_frame.proofs.other_bytes.Goals as goal

pub returns : goal.returns
returns c = λ k args memory a n v low off. run_same a n v low k args memory off
