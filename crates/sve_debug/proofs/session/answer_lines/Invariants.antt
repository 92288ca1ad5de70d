use Rattle.std.proofs.Common.{◌≡◌, ℕ, ◌-◌, ◌*◌, ◌≤◌, List, Some, take}
use Rattle.machine_model.specs.Machine.{State}
use Rattle.sve_debug.specs.DebuggerState.{Stands}
use Rattle.sve_debug.specs.Replies.{Session}
use Rattle.sve_debug.specs.Sessions.{most_input}
use Rattle.sve_debug.proofs.Answered.{SoFar}
use Rattle.sve_debug.proofs.Sessions.{IsPending, Under}
use Rattle.sve_debug.proofs.session.answer_lines.Given as goal

abbrev pub invariant-loop-taken : goal.invariant-loop-taken
invariant-loop-taken g l = record {
  pending : IsPending l.line.items;
  steps : l.debugger.machine.steps ≤ 100000000 * l.taken;
  later : g.S.Sink.faults l.initial.out ≤ g.S.Sink.faults l.out;
  input_later : g.I.Source.faults l.initial.input ≤ g.I.Source.faults l.input;
  session :
      (start : State) (d : Session) → Stands l.initial.debugger start d → (bytes : List ℕ) → g.I.Source.left l.initial.input ≡ Some bytes
      → Under l.debugger start d (take most_input bytes) l.line.items (most_input - l.taken) (g.I.Source.left l.input) (g.S.Sink.taken l.initial.out) (g.S.Sink.taken l.out);
  answered :
      (start : State) (d : Session) → Stands l.initial.debugger start d → (bytes : List ℕ) → g.I.Source.left l.initial.input ≡ Some bytes
      → SoFar l.debugger start d bytes l.line.items l.taken (g.I.Source.left l.input) (g.S.Sink.taken l.initial.out) (g.S.Sink.taken l.out);
}
