-- The words of a line that has three or four, as a list.
use Rattle.std.specs.Prelude.{ℕ, List, [], ◌∷◌, Option, Some, None}
use Rattle.std.specs.Borrow.{Bor}
use Rattle.map_text.specs.declared.words.LineWords.{LineWords}

abbrev pub fourth_word : Option (Bor (List ℕ)) → List (List ℕ)
fourth_word None = []
fourth_word (Some word) = word.now ∷ []

abbrev pub words_view : LineWords → List (List ℕ)
words_view words = words.name.now ∷ words.address.now ∷ words.third.now ∷ fourth_word words.fourth
