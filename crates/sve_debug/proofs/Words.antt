-- The words of a line.
use Rattle.std.proofs.Common.{◌≡◌, ◌≢◌, ℕ, List, [], ◌∷◌, length, None, refl}
use Rattle.sve_debug.specs.Lines.{command_in}

-- four words or more are no command
pub four_words : (a b c : List ℕ) (more : List (List ℕ)) → length more ≢ 0 → command_in (a ∷ b ∷ c ∷ more) ≡ None
four_words a b c [] some = absurd (some refl)
four_words a b c (d ∷ more) some = refl
