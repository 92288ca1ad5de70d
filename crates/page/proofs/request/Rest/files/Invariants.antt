use Rattle.std.proofs.Common.{◌≡◌, ◌++◌, ◌≤◌, ◌-◌, length}
use Rattle.std.specs.Prelude.{flat_map}
use Rattle.io_edges.specs.NamedFile.{entries}
use Rattle.page.specs.Request.{file_bytes}
use Rattle.page.proofs.request.Rest.files.Given as goal

abbrev pub invariant-loop-alloc : goal.invariant-loop-alloc
invariant-loop-alloc l = (l.initial.self.bytes.now ≡ flat_map file_bytes (entries l.files.items) ++ l.self.bytes.now) × (length l.files.items ≤ l.count)

abbrev pub decreases-loop-alloc : goal.decreases-loop-alloc
decreases-loop-alloc l = l.count - length l.files.items
