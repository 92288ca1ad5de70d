-- Sessions over an input.
use Rattle.std.specs.Prelude.{◌≡◌, ℕ, Bool, false, List, [], ◌∷◌, ◌++◌, ◌+◌, ◌<◌, length, take, Option, Some, IfSome, OnOk, Result, All, nat_eq, if◌then◌else◌}
use Rattle.io_edges.specs.Sink.{GainsPart}
use Rattle.sve_debug.specs.declared.session.SessionFault.{SessionFault}
use Rattle.text_parts.specs.Parts.{lines_of}
use Rattle.machine_model.specs.Machine.{State}
use Rattle.sve_debug.specs.DebuggerState.{DebuggerState, Stands}
use Rattle.sve_debug.specs.Replies.{Session, after_line, line_text, quits, replies}

-- so many bytes of an input are taken at most
unfoldable pub most_input : ℕ
most_input = 1048576

-- what a session answers to an input
abbrev pub session_text : Session → List ℕ → List ℕ
session_text d input = replies d (lines_of (take most_input input))

-- the text was put on an output that tells what it has taken, or a part of it from its front where there is a fault
abbrev pub Tells : {T : Type 0} → (old new : Option (List ℕ)) → (text : List ℕ) → Result T SessionFault → Type 0
Tells old new text result = IfSome old (λ bytes. OnOk result (new ≡ Some (bytes ++ text)) × GainsPart bytes new text)

-- ---- one byte more of a line that is pending

abbrev pub is_end : ℕ → Bool
is_end byte = nat_eq byte 10

abbrev pub pending : List ℕ → ℕ → List ℕ
pending line byte = if is_end byte then [] else line ++ byte ∷ []

abbrev pub after_byte : List ℕ → ℕ → Session → Session
after_byte line byte d = if is_end byte then after_line line d else d

abbrev pub byte_answer : List ℕ → ℕ → Session → List ℕ
byte_answer line byte d = if is_end byte then line_text line d else []

abbrev pub ends : List ℕ → ℕ → Bool
ends line byte = if is_end byte then quits line else false

-- ---- answers as they come

-- the bytes of some lines, each with the line feed that ends it
abbrev pub ended_lines : List (List ℕ) → List ℕ
ended_lines [] = []
ended_lines (line ∷ lines) = line ++ 10 ∷ ended_lines lines

abbrev pub HasNoEnd : List ℕ → Type 0
HasNoEnd line = All (λ (b : ℕ). is_end b ≡ false) line

-- Of these bytes some lines were taken, none of which ends the session, and a part of one more, and those are left; the output has
-- gained the replies to the lines.
pub record IsAnswered (d : Session) (bytes left old new : List ℕ) : Type 0 where
  pub lines : List (List ℕ)
  pub each : All HasNoEnd lines
  pub go_on : All (λ line. quits line ≡ false) lines
  pub part : List ℕ
  pub no_end : HasNoEnd part
  pub taken : bytes ≡ ended_lines lines ++ (part ++ left)
  pub answers : new ≡ old ++ replies d lines

-- the same of an output and an input where they are told
abbrev pub AsItCame : Session → (bytes : List ℕ) → (left old new : Option (List ℕ)) → Type 0
AsItCame d bytes left old new =
    IfSome left (λ rest. IfSome old (λ before. (text : List ℕ) × (new ≡ Some text) × IsAnswered d bytes rest before text))

-- ---- answers before the next byte is asked for

-- fewer of these bytes were taken than are taken at most
abbrev pub IsWithin : (bytes : List ℕ) → (left : Option (List ℕ)) → Type 0
IsWithin bytes left = IfSome left (λ rest. length bytes < length rest + most_input)

-- A debugger stands for a session, and an input may be asked for its next bytes where fewer than the most were taken, and each line
-- that they ended is answered on the output. Of an input that does not tell its bytes it may always be asked.
pub record AsksInTime {I S : Type 0} (held : DebuggerState) (left : I → Option (List ℕ)) (taken : S → Option (List ℕ)) (may_take : I → Type 0) (input : I) (out : S) : Type 0 where
  pub start : State
  pub begun : Session
  pub stands : Stands held start begun
  pub may : (i : I) (s : S) → IfSome (left input) (λ bytes. IsWithin bytes (left i) × AsItCame begun bytes (left i) (taken out) (taken s)) → may_take i
