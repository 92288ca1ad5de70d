use Rattle.promises.proofs.ScalarFiles.{scalar_free, scalar_close, scalar_slow}
use Rattle.promises.proofs.laws.scalar_files.Goals as goal

pub returns : goal.returns
returns c = record { free = scalar_free; close = scalar_close; slow = scalar_slow }
