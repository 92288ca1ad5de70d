-- The listing of a program.
use Rattle.std.specs.Prelude.{ℕ, zero, suc, ◌+◌, ◌-◌, ◌/◌, List, [], ◌∷◌}
use Rattle.guest_types.specs.Memory.{Memory, number_at}
use Rattle.machine_model.specs.Load.{Image}
use Rattle.list_text.specs.Text.{list_text}

-- so many consecutive words of a memory, the first of them at this address
unfoldable pub words_from : Memory → ℕ → ℕ → List ℕ
words_from memory address zero = []
words_from memory address (suc count) = number_at memory address 4 ∷ words_from memory (address + 4) count

-- the lines of those words
unfoldable pub lines_from : Memory → ℕ → ℕ → List ℕ
lines_from memory address count = list_text address (words_from memory address count)

-- how many whole words the code of an image has; up to three bytes may be left at its end
abbrev pub word_count : Image → ℕ
word_count image = (image.code_end - image.code_from) / 4

-- the lines of the whole words from the first instruction of an image to the end of its code
unfoldable pub listing_of : Image → List ℕ
listing_of image = lines_from image.pages image.code_from (word_count image)
