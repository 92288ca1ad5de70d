-- The word that a text spells: the one whose text by `list_text` is exactly these bytes.
use Rattle.std.specs.Prelude.{ℕ, ◌≡◌, ◌<◌, ◌^◌, List, Option, Some, None, bytes_eq, if◌then◌else◌}
use Rattle.list_text.specs.Text.{word_text}
use Rattle.asm_forms.specs.Reading.{candidate}

-- the word has this text
pub record Spells (text : List ℕ) (word : ℕ) : Type 0 where
  pub word_of_32 : word < 2 ^ 32
  pub spelled : word_text word ≡ text

-- the word, if it has this text
abbrev pub if_spelled : List ℕ → Option ℕ → Option ℕ
if_spelled text None = None
if_spelled text (Some word) = if bytes_eq (word_text word) text then Some word else None

-- No word but the candidate may have the text.
unfoldable pub word_of : List ℕ → Option ℕ
word_of text = if_spelled text (candidate text)
