use Rattle.promises.proofs.Promises as promises
use Rattle.promises.proofs.laws.faithful_files.Goals as goal

pub returns : goal.returns
returns c = record { close = promises.close; free = promises.free; slow = promises.slow; free_slow = promises.free_slow; ends = promises.free_ends }
