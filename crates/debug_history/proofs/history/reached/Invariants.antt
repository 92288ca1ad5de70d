use Rattle.std.proofs.Common.{◌≡◌, ◌+◌, ◌-◌, ◌≤◌, drop}
use Rattle.std.specs.List.{prefix_len}
use Rattle.debug_history.specs.Kept.{is_reached}
use Rattle.debug_history.proofs.history.reached.Given as goal

abbrev pub invariant-loop-n : goal.invariant-loop-n
invariant-loop-n g l =
    let kept = (g.D.Debuggee.view_of l.machine).past in
    record {
      few : l.n ≤ l.count;
      so_far : l.n + prefix_len (is_reached l.target) (drop l.n kept) ≡ prefix_len (is_reached l.target) kept;
    }

abbrev pub decreases-loop-n : goal.decreases-loop-n
decreases-loop-n g l = l.count - l.n
