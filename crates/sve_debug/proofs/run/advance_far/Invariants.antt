use Rattle.std.proofs.Common.{◌≡◌, ℕ, ◌-◌, ◌++◌, List, None, take}
use Rattle.std.specs.Prelude.{IsTrue}
use Rattle.circular_buffer.specs.Buffer.{keep_last}
use Rattle.machine_model.specs.Machine.{State}
use Rattle.sve_debug.specs.DebuggerState.{Shows, held_by}
use Rattle.sve_debug.specs.Reaches.{Reaches}
use Rattle.sve_debug.specs.Replies.{Session}
use Rattle.sve_debug.proofs.Runs.{counted_by}
use Rattle.sve_debug.proofs.run.advance_far.Given as goal

abbrev pub invariant-loop-done : goal.invariant-loop-done
invariant-loop-done g l = record {
  running : (g.D.Debuggee.view_of l.machine).over ≡ None;
  quiet : IsTrue (g.D.Debuggee.view_of l.initial.machine).quiet → IsTrue (g.D.Debuggee.view_of l.machine).quiet;
  past : (g.D.Debuggee.view_of l.machine).past ≡ (g.D.Debuggee.view_of l.initial.machine).past;
  steps : (g.D.Debuggee.view_of l.machine).steps ≡ (g.D.Debuggee.view_of l.initial.machine).steps;
  session :
      (breaks last : List ℕ) (start : State) (d : Session) → Shows (held_by (g.D.Debuggee.view_of l.initial.machine) breaks last) start d
      → Reaches (held_by (counted_by l.done (g.D.Debuggee.view_of l.machine)) breaks (keep_last 64 (last ++ take l.done l.recent))) start d l.stops l.left (l.left - l.done);
}
