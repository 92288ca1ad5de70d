use Rattle.io_edges.proofs.CallCounts.{steady_at_start}
use Rattle.io_edges.proofs.memory_files.MemoryFiles.new.Goals as goal

pub returns-clause-steady : goal.returns-clause-steady
returns-clause-steady c = rw c.new.ensures (steady_at_start c.args.fail.items)
