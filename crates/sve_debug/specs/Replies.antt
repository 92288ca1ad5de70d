-- What a debugging session answers: a fold over its lines, over the machine after so many steps from the start.
use Rattle.std.specs.Prelude.{ℕ, zero, suc, ◌+◌, ◌-◌, ◌/◌, ◌||◌, Bool, true, false, List, [], ◌∷◌, ◌++◌, length, drop, take, Option, Some, None, is_some, nat_eq, nat_lt, nat_le, codes, decimal, cond, if◌then◌else◌}
use Rattle.std.specs.List.{flat_map, list_any, prefix_len, range_with_len}
use Rattle.guest_types.specs.Elements.{Flags, bit}
use Rattle.machine_model.specs.Machine.{State, Step as OneStep, Went, Ended, Stopped, x_at, z_at, p_at}
use Rattle.machine_model.specs.OneStep.{step}
use Rattle.machine_model.specs.Run.{Outcome, End, Stop}
use Rattle.machine_model.specs.OutcomeText.{line_feed, outcome_text}
use Rattle.number_text.specs.Hexadecimal.{hex_digits, hex_text}
use Rattle.machine_model.specs.DumpText.{dump_text}
use Rattle.sve_debug.specs.declared.command.Command.{Command}
use Rattle.sve_debug.specs.declared.command.Command.TheVariants.{Step, Go, Back, Break, Show, Quit}
use Rattle.sve_debug.specs.declared.command.Part.{Part}
use Rattle.sve_debug.specs.declared.command.Part.TheVariants as parts
use Rattle.sve_debug.specs.Lines.{command_of}
use Rattle.debug_history.specs.Kept.{counted, first_of, last_of as last_count}

-- The state of a session: the machine from which it started, the machine after the steps that were done, how it ended or
-- stopped, where it did, the place of each step in order, after a way back only of those from the count on to which it led, the
-- breakpoints in the order in which they were set, and the counts of steps that are kept.
pub record Session : Type 0 where
  pub start : State
  pub state : State
  pub steps : ℕ
  pub over : Option Outcome
  pub places : List ℕ
  pub breaks : List ℕ
  pub counts : List ℕ

-- before the first line
abbrev pub started : State → Session
started s = record { start = s; state = s; steps = 0; over = None; places = []; breaks = []; counts = 0 ∷ [] }

-- ---- steps

-- the state after a step that was answered so; a stop may leave memory changed
abbrev pub left_by : OneStep → State → State
left_by (Went t) s = t
left_by (Ended result) s = s
left_by (Stopped kind pc at memory) s = record s { memory = memory }

abbrev pub over_by : OneStep → (steps : ℕ) → State → Option Outcome
over_by (Went t) steps s = None
over_by (Ended result) steps s = Some (End s.memory result steps)
over_by (Stopped kind pc at memory) steps s = Some (Stop kind pc at memory steps)

-- one step of a machine that has not come to its end; its place is that of its instruction
abbrev pub stepped : Session → Session
stepped d =
    record d {
      state = left_by (step d.state) d.state;
      steps = d.steps + 1;
      over = over_by (step d.state) (d.steps + 1) d.state;
      places = d.places ++ d.state.pc ∷ [];
    }

abbrev pub is_break : List ℕ → ℕ → Bool
is_break breaks pc = list_any (λ a. nat_eq a pc) breaks

-- At most n steps, none after the end or a stop, and none after a step whose new place is one of these.
unfoldable pub steps_to : List ℕ → ℕ → Session → Session
steps_to breaks zero d = d
steps_to breaks (suc n) d =
    if is_some d.over then d
    else if is_break breaks (stepped d).state.pc then stepped d
    else steps_to breaks n (stepped d)

-- after so many steps of a session that has no breakpoint, from its first one on
abbrev pub session_at : State → ℕ → Session
session_at s n = steps_to [] n (started s)

-- ---- the counts that are kept

abbrev pub with_counts : List ℕ → Session → Session
with_counts counts d = record d { counts = counts }

-- the counts after so many steps more
unfoldable pub counted_over : (steps n : ℕ) → List ℕ → List ℕ
counted_over steps zero counts = counts
counted_over steps (suc n) counts = counted_over (steps + 1) n (counted (steps + 1) counts)

-- a session after steps, with its counts
abbrev pub counted_since : Session → Session → Session
counted_since d e = with_counts (counted_over d.steps (e.steps - d.steps) d.counts) e

-- at most n steps, as `steps_to`
abbrev pub counted_steps : List ℕ → ℕ → Session → Session
counted_steps breaks n d = counted_since d (steps_to breaks n d)

-- ---- steps back

-- So many steps back lead before the first step, or before the first count that is kept.
abbrev pub is_too_far : (n steps : ℕ) → (counts : List ℕ) → Bool
is_too_far n steps counts = nat_lt steps n || nat_lt (steps - n) (first_of counts)

-- the counts up to one
abbrev pub counts_to : (target : ℕ) → List ℕ → List ℕ
counts_to target counts = take (prefix_len (λ k. nat_le k target) counts) counts

-- the session at the target, whose places are told from a count on, where these are the counts and the breakpoints
abbrev pub back_at : State → (count target : ℕ) → (counts breaks : List ℕ) → Session
back_at s count target counts breaks =
    record (session_at s target) { places = drop count (session_at s target).places; breaks = breaks; counts = counts }

-- Back to the machine after the target number of steps. The counts above it are kept no longer, and the places are told from
-- the last of the others on.
abbrev pub gone_back : (target : ℕ) → Session → Session
gone_back target d =
    let counts = counts_to target d.counts in
    back_at d.start (last_count counts) target counts d.breaks

abbrev pub after_back : ℕ → Session → Session
after_back n d = if is_too_far n d.steps d.counts then d else gone_back (d.steps - n) d

-- ---- texts

abbrev pub line : List ℕ → List ℕ
line text = text ++ line_feed

-- `NAME 0x..`
abbrev pub named_text : List ℕ → ℕ → List ℕ
named_text name value = line (name ++ (codes " " ++ hex_text value))

-- where a machine stands after so many steps, or how it ended or stopped
abbrev pub stand_text : State → (steps : ℕ) → Option Outcome → List ℕ
stand_text s steps (Some outcome) = outcome_text outcome
stand_text s steps None = line (codes "at " ++ (hex_text s.pc ++ (codes " steps " ++ decimal steps)))

abbrev pub digit : Bool → ℕ
digit b = cond b 49 48

abbrev pub flags_digits : Flags → List ℕ
flags_digits f = digit f.n ∷ digit f.z ∷ digit f.c ∷ digit f.v ∷ []

abbrev pub flags_text : Flags → List ℕ
flags_text f = line (codes "nzcv " ++ flags_digits f)

-- so many bytes, byte 0 first
abbrev pub bytes_text : ℕ → List ℕ → List ℕ
bytes_text n bytes = flat_map (hex_digits 2) (take n bytes)

abbrev pub bit_text : List ℕ → ℕ → List ℕ
bit_text bits j = digit (bit bits j) ∷ []

-- so many bits, bit 0 first
abbrev pub bits_text : ℕ → List ℕ → List ℕ
bits_text n bits = flat_map (bit_text bits) (range_with_len 0 n)

-- the last so many of a list
abbrev pub last_of : ℕ → List ℕ → List ℕ
last_of n places = drop (length places - n) places

abbrev pub place_text : ℕ → List ℕ
place_text place = line (hex_text place)

-- ---- replies

-- how many breakpoints are held at most, and how many places are told
abbrev pub most_breaks : ℕ
most_breaks = 16

abbrev pub most_places : ℕ
most_places = 64

-- a breakpoint more, where it is held already or there is room
abbrev pub with_break : ℕ → List ℕ → List ℕ
with_break a breaks = if is_break breaks a then breaks else if nat_lt (length breaks) most_breaks then breaks ++ a ∷ [] else breaks

abbrev pub break_text : ℕ → List ℕ → List ℕ
break_text a breaks = if is_break breaks a || nat_lt (length breaks) most_breaks then named_text (codes "break") a else line (codes "no room")

-- a part of a machine, with the last places
abbrev pub part_text : Part → State → (last : List ℕ) → List ℕ
part_text (parts.General n) s last = named_text (codes "x" ++ decimal n) (x_at s n)
part_text (parts.Vector n) s last = line (codes "z" ++ (decimal n ++ (codes " " ++ bytes_text (s.vl / 8) (z_at s n))))
part_text (parts.Predicate n) s last = line (codes "p" ++ (decimal n ++ (codes " " ++ bits_text (s.vl / 8) (p_at s n))))
part_text (parts.Memory a n) s last = dump_text s.memory a n
part_text parts.Place s last = named_text (codes "pc") s.pc
part_text parts.Stack s last = named_text (codes "sp") s.sp
part_text parts.Flags s last = flags_text s.flags
part_text parts.FirstFault s last = line (codes "ffr " ++ bits_text (s.vl / 8) s.ffr)
part_text parts.Past s last = flat_map place_text last

-- the session after a command
abbrev pub after_command : Command → Session → Session
after_command (Step n) d = counted_steps [] n d
after_command (Go n) d = counted_steps d.breaks n d
after_command (Back n) d = after_back n d
after_command (Break a) d = record d { breaks = with_break a d.breaks }
after_command (Show _) d = d
after_command Quit d = d

-- what it answers, with the session after it
abbrev pub command_text : Command → (before after : Session) → List ℕ
command_text (Step n) d e = stand_text e.state e.steps e.over
command_text (Go n) d e = stand_text e.state e.steps e.over
command_text (Back n) d e = if is_too_far n d.steps d.counts then line (codes "too far") else stand_text e.state e.steps e.over
command_text (Break a) d e = break_text a d.breaks
command_text (Show part) d e = part_text part d.state (last_of most_places d.places)
command_text Quit d e = []

-- ---- lines

-- an empty line is passed over
abbrev pub after_line : List ℕ → Session → Session
after_line text d = elim (command_of text) [ Some command ↦ after_command command d | None ↦ d ]

abbrev pub line_text : List ℕ → Session → List ℕ
line_text [] d = []
line_text (b ∷ bytes) d =
    elim (command_of (b ∷ bytes)) [ Some command ↦ command_text command d (after_command command d) | None ↦ line (codes "bad line") ]

abbrev pub is_quit : Option Command → Bool
is_quit (Some Quit) = true
is_quit _ = false

-- whether a line ends the session
abbrev pub quits : List ℕ → Bool
quits text = is_quit (command_of text)

-- the replies to lines, up to the first that ends the session
unfoldable pub replies : Session → List (List ℕ) → List ℕ
replies d [] = []
replies d (text ∷ lines) = if quits text then [] else line_text text d ++ replies (after_line text d) lines
