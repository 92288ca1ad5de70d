-- The lines of a debugging session. The words of a line are divided by single spaces; numbers are decimal, or hexadecimal
-- after `0x`.
use Rattle.std.specs.Prelude.{ℕ, ◌+◌, ◌^◌, ◌&&◌, Bool, List, [], ◌∷◌, Option, Some, None, option_and_then, option_map, nat_le, bytes_eq, codes, if◌then◌else◌}
use Rattle.number_text.specs.Numbers.{number_of}
use Rattle.text_parts.specs.Parts.{words_of}
use Rattle.sve_debug.specs.declared.command.Command.{Command}
use Rattle.sve_debug.specs.declared.command.Command.TheVariants.{Step, Go, Back, Break, Show, Quit}
use Rattle.sve_debug.specs.declared.command.Part.TheVariants.{General, Vector, Predicate, Memory, Place, Stack, Flags, FirstFault, Past}

-- ---- words

abbrev pub checked : (ℕ → Bool) → ℕ → Option ℕ
checked holds n = if holds n then Some n else None

-- the number that a word spells, from one number to another
abbrev pub number_in : (least most : ℕ) → List ℕ → Option ℕ
number_in least most word = option_and_then (checked (λ n. nat_le least n && nat_le n most)) (number_of word)

-- ---- commands

-- a command of one word
abbrev pub alone : List ℕ → Option Command
alone name =
    if bytes_eq name (codes "pc") then Some (Show Place)
    else if bytes_eq name (codes "sp") then Some (Show Stack)
    else if bytes_eq name (codes "nzcv") then Some (Show Flags)
    else if bytes_eq name (codes "ffr") then Some (Show FirstFault)
    else if bytes_eq name (codes "past") then Some (Show Past)
    else if bytes_eq name (codes "quit") then Some Quit
    else None

abbrev pub general : ℕ → Command
general n = Show (General n)

abbrev pub vector : ℕ → Command
vector n = Show (Vector n)

abbrev pub predicate : ℕ → Command
predicate n = Show (Predicate n)

-- a command with a number
abbrev pub with_number : (name number : List ℕ) → Option Command
with_number name number =
    if bytes_eq name (codes "step") then option_map Step (number_in 1 1000000 number)
    else if bytes_eq name (codes "go") then option_map Go (number_in 1 100000000 number)
    else if bytes_eq name (codes "back") then option_map Back (number_in 1 100000000 number)
    else if bytes_eq name (codes "break") then option_map Break (number_of number)
    else if bytes_eq name (codes "x") then option_map general (number_in 0 30 number)
    else if bytes_eq name (codes "z") then option_map vector (number_in 0 31 number)
    else if bytes_eq name (codes "p") then option_map predicate (number_in 0 15 number)
    else None

abbrev pub bytes_from : (address len : ℕ) → Option Command
bytes_from address len = if nat_le (address + len) (2 ^ 64) then Some (Show (Memory address len)) else None

-- `mem ADDRESS LEN`
abbrev pub with_range : (name address len : List ℕ) → Option Command
with_range name address len =
    if bytes_eq name (codes "mem") then option_and_then (λ a. option_and_then (bytes_from a) (number_in 1 4096 len)) (number_of address)
    else None

-- what the words of a line ask for, where they are a command
abbrev pub command_in : List (List ℕ) → Option Command
command_in [] = None
command_in (name ∷ []) = alone name
command_in (name ∷ number ∷ []) = with_number name number
command_in (name ∷ address ∷ len ∷ []) = with_range name address len
command_in (name ∷ a ∷ b ∷ c ∷ more) = None

unfoldable pub command_of : List ℕ → Option Command
command_of line = command_in (words_of line)
