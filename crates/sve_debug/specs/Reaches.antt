-- What a debugger holds after some of the steps that a line asks for.
use Rattle.std.specs.Prelude.{◌≡◌, ℕ, ◌-◌, ◌≤◌, List}
use Rattle.machine_model.specs.Machine.{State}
use Rattle.sve_debug.specs.DebuggerState.{DebuggerState, Shows, Stands}
use Rattle.sve_debug.specs.Replies.{Session, steps_to, with_counts, counted_over}

-- What is held shows a session from which so many steps more lead to where n steps lead from the first session.
pub record Reaches (held : DebuggerState) (start : State) (d : Session) (stops : List ℕ) (n more : ℕ) : Type 0 where
  pub session : Session
  pub stands : Shows held start session
  pub same : steps_to stops n d ≡ steps_to stops more session

-- The same with the counts that are kept: those of the session that is stood for are those of the first one, counted on.
pub record ReachesCounted (held : DebuggerState) (start : State) (d : Session) (stops : List ℕ) (n more : ℕ) : Type 0 where
  pub session : Session
  pub stands : Stands held start session
  pub same : steps_to stops n (with_counts session.counts d) ≡ steps_to stops more session
  pub later : d.steps ≤ session.steps
  pub counts : session.counts ≡ counted_over d.steps (session.steps - d.steps) d.counts
