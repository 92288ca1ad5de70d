-- What contracts see of scripts and of their lines.
use Rattle.std.specs.Prelude.{◌≡◌, List, map, Result, Err, string_bytes}
use Rattle.pipe_script.specs.declared.fault.PipeFault.{PipeFault}
use Rattle.pipe_script.specs.declared.fault.PipeFault.TheVariants.{TooLong, BadLine, Clash, TooManyPages, Memory}
use Rattle.pipe_script.specs.declared.pipe_line.PipeLine.{PipeLine}
use Rattle.pipe_script.specs.declared.pipe_line.Said.{Said}
use Rattle.pipe_script.specs.declared.pipe_line.Said.TheVariants as said
use Rattle.pipe_script.specs.Script.{ScriptEntry, ScriptLine, Blank, Runs}

abbrev pub said_view : Said → ScriptLine
said_view said.Blank = Blank
said_view (said.Runs call) = Runs (string_bytes call.file) call.args.items

abbrev pub entry_view : PipeLine → ScriptEntry
entry_view line = record { line = line.line; file = string_bytes line.file; args = line.args.items }

abbrev pub entries_view : List PipeLine → List ScriptEntry
entries_view lines = map entry_view lines

-- want of memory, or the fault that the lines have
abbrev pub Refuses : Result (List ScriptEntry) PipeFault → PipeFault → Type 0
Refuses entries TooLong = entries ≡ Err TooLong
Refuses entries (BadLine line) = entries ≡ Err (BadLine line)
Refuses entries (Clash line) = ⊥
Refuses entries (TooManyPages line) = ⊥
Refuses entries Memory = Unit {0}
