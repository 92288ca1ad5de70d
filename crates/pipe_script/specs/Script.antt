-- Scripts. A line is empty, begins with `#`, or is `run NAME` with at most eight arguments, with single spaces. A line ends with a line
-- feed; the last one may lack it. Lines count from 1.
use Rattle.std.specs.Prelude.{ℕ, ◌+◌, ◌&&◌, List, [], ◌∷◌, ◌++◌, length, Option, Some, None, Result, Ok, Err, Bool, option_map, nat_eq, nat_lt, bytes_eq, codes, if◌then◌else◌}
use Rattle.std.specs.Str.{is_utf8}
use Rattle.text_parts.specs.Parts.{lines_of, words_of}
use Rattle.command_line.specs.Line.{arguments_of}
use Rattle.pipe_script.specs.declared.fault.PipeFault.{PipeFault}
use Rattle.pipe_script.specs.declared.fault.PipeFault.TheVariants.{TooLong, BadLine}

-- a `run` line: its number, the name of its file, and its arguments
pub record ScriptEntry : Type 0 where
  pub line : ℕ
  pub file : List ℕ
  pub args : List ℕ

-- what a line says
pub data ScriptLine : Type 0 where
  Blank : ScriptLine
  Runs : (file args : List ℕ) → ScriptLine

-- a name: text, and not nothing
abbrev pub is_name : List ℕ → Bool
is_name name = nat_lt 0 (length name) && is_utf8 name

-- `run NAME ARG..`
unfoldable pub line_of_words : List (List ℕ) → Option ScriptLine
line_of_words [] = None
line_of_words (first ∷ []) = None
line_of_words (first ∷ name ∷ words) =
    if bytes_eq first (codes "run") && is_name name then option_map (Runs name) (arguments_of words) else None

-- what a line says, where it is one of these
unfoldable pub script_line_of : List ℕ → Option ScriptLine
script_line_of [] = Some Blank
script_line_of (b ∷ line) = if nat_eq b 35 then Some Blank else line_of_words (words_of (b ∷ line))

-- the entries after a line; there are at most 16
abbrev pub after_line : (line : ℕ) → Option ScriptLine → List ScriptEntry → Result (List ScriptEntry) PipeFault
after_line line None entries = Err (BadLine line)
after_line line (Some Blank) entries = Ok entries
after_line line (Some (Runs file args)) entries =
    if nat_lt (length entries) 16 then Ok (entries ++ record { line = line; file = file; args = args } ∷ []) else Err (BadLine line)

abbrev pub go_on : Result (List ScriptEntry) PipeFault → (List ScriptEntry → Result (List ScriptEntry) PipeFault) → Result (List ScriptEntry) PipeFault
go_on (Err fault) go = Err fault
go_on (Ok entries) go = go entries

-- the entries after lines, the first of which has this number
unfoldable pub after_lines : (line : ℕ) → List (List ℕ) → List ScriptEntry → Result (List ScriptEntry) PipeFault
after_lines line [] entries = Ok entries
after_lines line (text ∷ texts) entries = go_on (after_line line (script_line_of text) entries) (after_lines (line + 1) texts)

-- the entries of a script
unfoldable pub script_of : List ℕ → Result (List ScriptEntry) PipeFault
script_of text = if nat_lt 65536 (length text) then Err TooLong else after_lines 1 (lines_of text) []
