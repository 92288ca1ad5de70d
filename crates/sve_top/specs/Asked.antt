-- What the words of a call ask for.
use Rattle.std.specs.Prelude.{List, Option, String}
use Rattle.command_line.specs.Line.{Line, line_of}
use Rattle.command_line.specs.View.{texts}

-- the command that they spell, where they are one
abbrev pub asked : {A : Type 0} → List (String A) → Option Line
asked words = line_of (texts words)
