use Rattle.std.proofs.Common.{◌≡◌, ◌++◌, ◌≤◌, ◌-◌, length}
use Rattle.std.specs.Prelude.{flat_map}
use Rattle.command_line.specs.View.{texts}
use Rattle.page.specs.Answer.{field}
use Rattle.page.proofs.request.Rest.words.Given as goal

abbrev pub invariant-loop-alloc : goal.invariant-loop-alloc
invariant-loop-alloc l = (l.initial.self.bytes.now ≡ flat_map field (texts l.words.items) ++ l.self.bytes.now) × (length l.words.items ≤ l.count)

abbrev pub decreases-loop-alloc : goal.decreases-loop-alloc
decreases-loop-alloc l = l.count - length l.words.items
