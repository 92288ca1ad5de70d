use Rattle.std.proofs.Common.{◌≡◌, ℕ, ◌+◌, ◌<◌, ◌≤◌, List, [], None}
use Rattle.std.specs.Prelude.{IsTrue}
use Rattle.machine_model.specs.Machine.{State}
use Rattle.sve_debug.specs.DebuggerState.{Shows, held_by}
use Rattle.sve_debug.specs.Reaches.{Reaches}
use Rattle.sve_debug.specs.Replies.{Session}
use Rattle.sve_debug.proofs.run.run.Given as goal

abbrev pub invariant-loop-left : goal.invariant-loop-left
invariant-loop-left g l = record {
  running : 0 < l.left → (g.D.Debuggee.view_of l.machine).over ≡ None;
  room : l.places.capacity ≡ 64;
  quiet : IsTrue (g.D.Debuggee.view_of l.initial.machine).quiet → IsTrue (g.D.Debuggee.view_of l.machine).quiet;
  past : (g.D.Debuggee.view_of l.machine).past ≡ (g.D.Debuggee.view_of l.initial.machine).past;
  steps : (g.D.Debuggee.view_of l.machine).steps + l.left ≤ (g.D.Debuggee.view_of l.initial.machine).steps + l.most;
  session :
      (breaks : List ℕ) (start : State) (d : Session) → Shows (held_by (g.D.Debuggee.view_of l.initial.machine) breaks l.initial.places.items) start d
      → Reaches (held_by (g.D.Debuggee.view_of l.machine) breaks l.places.items) start d [] l.most l.left;
}

abbrev pub decreases-loop-left : goal.decreases-loop-left
decreases-loop-left g l = l.left
