-- The file that holds some words as a program: the ELF64 header, one program header, and the words.
use Rattle.std.specs.Prelude.{ℕ, ◌+◌, ◌*◌, List, [], ◌∷◌, ◌++◌, length, flat_map}
use Rattle.std.specs.Int.{to_le_bytes, w32, w64}
use Rattle.machine_model.specs.Load.{Segment, Image, image_of}

-- the bytes of a word
abbrev pub word_bytes : List ℕ → List ℕ
word_bytes words = flat_map (λ w. to_le_bytes w32 w) words

-- the file of these words: the header, one segment to be read and executed, and the words
abbrev pub file_of : List ℕ → List ℕ
file_of words =
    0x7f ∷ 0x45 ∷ 0x4c ∷ 0x46 ∷ 2 ∷ 1 ∷ 1 ∷ 0 ∷ 0 ∷ 0 ∷ 0 ∷ 0 ∷ 0 ∷ 0 ∷ 0 ∷ 0
    ∷ 2 ∷ 0 ∷ 183 ∷ 0 ∷ 1 ∷ 0 ∷ 0 ∷ 0 ∷ 0x78 ∷ 0 ∷ 0x40 ∷ 0 ∷ 0 ∷ 0 ∷ 0 ∷ 0
    ∷ 64 ∷ 0 ∷ 0 ∷ 0 ∷ 0 ∷ 0 ∷ 0 ∷ 0 ∷ 0 ∷ 0 ∷ 0 ∷ 0 ∷ 0 ∷ 0 ∷ 0 ∷ 0
    ∷ 0 ∷ 0 ∷ 0 ∷ 0 ∷ 64 ∷ 0 ∷ 56 ∷ 0 ∷ 1 ∷ 0 ∷ 0 ∷ 0 ∷ 0 ∷ 0 ∷ 0 ∷ 0
    ∷ 1 ∷ 0 ∷ 0 ∷ 0 ∷ 5 ∷ 0 ∷ 0 ∷ 0 ∷ 0 ∷ 0 ∷ 0 ∷ 0 ∷ 0 ∷ 0 ∷ 0 ∷ 0
    ∷ 0 ∷ 0 ∷ 0x40 ∷ 0 ∷ 0 ∷ 0 ∷ 0 ∷ 0 ∷ 0 ∷ 0 ∷ 0x40 ∷ 0 ∷ 0 ∷ 0 ∷ 0 ∷ 0
    ∷ (to_le_bytes w64 (120 + 4 * length words) ++ (to_le_bytes w64 (120 + 4 * length words)
    ++ (0 ∷ 16 ∷ 0 ∷ 0 ∷ 0 ∷ 0 ∷ 0 ∷ 0 ∷ word_bytes words)))

-- the place of the first word of such a file in memory
abbrev pub code_base : ℕ
code_base = 0x400078

-- the one segment of such a file of n bytes
abbrev pub whole : ℕ → Segment
whole n = record { kind = 1; flags = 5; offset = 0; vaddr = 0x400000; filesz = n; memsz = n }

-- the image of these words, the first of which stands at `code_base`
abbrev pub image_of_words : List ℕ → Image
image_of_words words = image_of (file_of words) code_base (whole (120 + 4 * length words) ∷ [])
