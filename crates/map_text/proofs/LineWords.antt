-- The words of a line.
use Rattle.std.proofs.Common.{◌≡◌, ◌≢◌, ℕ, List, [], ◌∷◌, length, None, refl}
use Rattle.map_text.specs.Lines.{line_of_words}

-- five words or more have no form
pub five_words : (a b c d : List ℕ) (more : List (List ℕ)) → length more ≢ 0 → line_of_words (a ∷ b ∷ c ∷ d ∷ more) ≡ None
unfolding line_of_words
five_words a b c d [] some = absurd (some refl)
five_words a b c d (e ∷ more) some = refl
