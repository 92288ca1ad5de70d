-- What contracts see of refusals and of lines.
use Rattle.std.specs.Prelude.{ℕ, ◌≡◌, List, Result, Err}
use Rattle.sve_asm.specs.declared.fault.AsmFault.{AsmFault}
use Rattle.sve_asm.specs.declared.fault.AsmFault.TheVariants.{TooLong, BadLine, Differs, TooManyWords, Memory}
use Rattle.sve_asm.specs.declared.line.Said.{Said}
use Rattle.sve_asm.specs.declared.line.Said.TheVariants as said
use Rattle.sve_asm.specs.Lines.{AsmLine, Blank, Word, Unlike}

abbrev pub line_view : Said → AsmLine
line_view said.Blank = Blank
line_view (said.Word word) = Word word
line_view (said.Unlike want found) = Unlike want found

-- want of memory, or the fault that the lines have
abbrev pub Refuses : Result (List ℕ) AsmFault → AsmFault → Type 0
Refuses words TooLong = words ≡ Err TooLong
Refuses words (BadLine line) = words ≡ Err (BadLine line)
Refuses words (Differs line want found) = words ≡ Err (Differs line want found)
Refuses words TooManyWords = words ≡ Err TooManyWords
Refuses words Memory = Unit {0}
