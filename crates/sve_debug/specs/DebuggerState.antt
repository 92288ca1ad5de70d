-- What contracts see of a debugger, and which sessions it stands for.
use Rattle.std.specs.Prelude.{◌≡◌, ℕ, List, [], ◌++◌, All, IsTrue, ◌<◌, Option, None, option_map, codes, decimal, if◌then◌else◌}
use Rattle.debug_history.specs.Kept.{counts_of}
use Rattle.machine_model.specs.declared.outcome.Stop.{Stop as StopAnswer}
use Rattle.machine_model.specs.declared.outcome.Ending.{Ending}
use Rattle.machine_model.specs.declared.outcome.Ending.TheVariants as endings
use Rattle.machine_model.specs.Machine.{State, x_at}
use Rattle.machine_model.specs.Debugged.{View, Past}
use Rattle.machine_model.specs.OutcomeText.{line_feed, steps_text, outcome_text}
use Rattle.number_text.specs.Hexadecimal.{hex_text}
use Rattle.machine_model.specs.Run.{Outcome, End, Stop}
use Rattle.sve_debug.specs.declared.command.Command.{Command}
use Rattle.sve_debug.specs.declared.command.Command.TheVariants.{Step, Go, Back, Break, Show, Quit}
use Rattle.sve_debug.specs.Replies.{Session, session_at, is_too_far, last_of, most_places, line, stand_text, break_text, part_text}

-- the machine, the breakpoints in the order in which they were set, and the places of the last steps
pub record DebuggerState : Type 0 where
  pub machine : View
  pub breaks : List ℕ
  pub last : List ℕ

abbrev pub held_by : View → (breaks last : List ℕ) → DebuggerState
held_by machine breaks last = record { machine = machine; breaks = breaks; last = last }

-- how a run came out that ended or stopped so, after so many steps
abbrev pub came_out : State → (steps : ℕ) → Ending → Outcome
came_out s steps endings.Ended = End s.memory (x_at s 0) steps
came_out s steps (endings.Stopped stop) = Stop stop.kind stop.pc stop.at s.memory steps

-- a machine that is the one after its number of steps from a start
pub record IsAt (start state : State) (steps : ℕ) (over : Option Outcome) : Type 0 where
  pub state_is : (session_at start steps).state ≡ state
  pub steps_is : (session_at start steps).steps ≡ steps
  pub over_is : (session_at start steps).over ≡ over

-- What is held, but for what the machine was, is a session's from a start, of the places the last alone, and the session's machine
-- is that of its number of steps from the start.
pub record Shows (held : DebuggerState) (start : State) (session : Session) : Type 0 where
  pub state : held.machine.state ≡ session.state
  pub steps : held.machine.steps ≡ session.steps
  pub over : session.over ≡ option_map (came_out session.state session.steps) held.machine.over
  pub quiet : IsTrue held.machine.quiet
  pub breaks : held.breaks ≡ session.breaks
  pub last : held.last ≡ last_of most_places session.places
  pub since : IsAt start session.state session.steps session.over

-- so is what the machine was at a count that is kept
pub record IsKept (start : State) (v : Past) : Type 0 where
  pub quiet : IsTrue v.quiet
  pub since : IsAt start v.state v.steps (option_map (came_out v.state v.steps) v.over)

-- A debugger stands for a session from a start where it holds all that the session has, but of the places the last alone, and
-- its machine, also as it was at each count that is kept, is that of its number of steps from the start.
pub record Stands (held : DebuggerState) (start : State) (session : Session) : Type 0 where
  pub shows : Shows held start session
  pub start_is : session.start ≡ start
  pub counts : counts_of held.machine.past ≡ session.counts
  pub each : All (IsKept start) held.machine.past

abbrev pub with_breaks : List ℕ → DebuggerState → DebuggerState
with_breaks breaks held = record held { breaks = breaks }

-- ---- texts

-- where a machine stands, or how it ended or stopped
abbrev pub held_stand : DebuggerState → List ℕ
held_stand held = stand_text held.machine.state held.machine.steps (option_map (came_out held.machine.state held.machine.steps) held.machine.over)

-- what is answered to a command, by what is held before it and after it
abbrev pub answer_text : Command → (before after : DebuggerState) → List ℕ
answer_text (Step n) h k = held_stand k
answer_text (Go n) h k = held_stand k
answer_text (Back n) h k = if is_too_far n h.machine.steps (counts_of h.machine.past) then line (codes "too far") else held_stand k
answer_text (Break a) h k = break_text a h.breaks
answer_text (Show part) h k = part_text part h.machine.state h.last
answer_text Quit h k = []

-- where a machine stands
abbrev pub at_text : (pc steps : ℕ) → List ℕ
at_text pc steps = line (codes "at " ++ (hex_text pc ++ (codes " steps " ++ decimal steps)))

abbrev pub end_text : (value steps : ℕ) → List ℕ
end_text value steps = codes "result " ++ (hex_text value ++ (line_feed ++ steps_text steps))

abbrev pub stop_text : StopAnswer → (steps : ℕ) → List ℕ
stop_text stop steps = outcome_text (Stop stop.kind stop.pc stop.at [] steps)

-- ---- what is kept of a machine

-- It is quiet, and has come to no end where the machine has done more steps or has come to none.
pub record IsTwin (v : View) (w : Past) : Type 0 where
  pub quiet : IsTrue w.quiet
  pub running : v.over ≡ None → w.over ≡ None
  pub before : w.steps < v.steps → w.over ≡ None
