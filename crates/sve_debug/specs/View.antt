-- What the reader of lines gives.
use Rattle.std.specs.Prelude.{◌+◌, ◌^◌, ◌≤◌}
use Rattle.sve_debug.specs.declared.command.Command.{Command}
use Rattle.sve_debug.specs.declared.command.Command.TheVariants.{Step, Go, Back, Break, Show, Quit}
use Rattle.sve_debug.specs.declared.command.Part.{Part}
use Rattle.sve_debug.specs.declared.command.Part.TheVariants.{General, Vector, Predicate, Memory}

-- a register's number is one of a register, and bytes are few and below 2^64
abbrev pub IsPart : Part → Type 0
IsPart (General n) = n ≤ 30
IsPart (Vector n) = n ≤ 31
IsPart (Predicate n) = n ≤ 15
IsPart (Memory address len) = (address + len ≤ 2 ^ 64) × (len ≤ 4096)
IsPart _ = Unit {0}

-- steps are few
abbrev pub IsWithin : Command → Type 0
IsWithin (Step n) = n ≤ 100000000
IsWithin (Go n) = n ≤ 100000000
IsWithin (Back n) = 1 ≤ n
IsWithin (Break a) = Unit {0}
IsWithin (Show part) = IsPart part
IsWithin Quit = Unit {0}
