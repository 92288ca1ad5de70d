-- What stands at the front of a text, as the reader gives it.
use Rattle.std.specs.Prelude.{ℕ, List, [], ◌∷◌, Bool, false}
use Rattle.std.specs.List.{prefix_len}
use Rattle.kernel_tokens.specs.declared.front.Front.{Front}
use Rattle.kernel_tokens.specs.declared.front.Front.TheVariants as front
use Rattle.kernel_tree.specs.Plain.{word_of}
use Rattle.kernel_tree.specs.Tokens.{Piece, Gap, Token, NoToken, is_letter, is_name_byte, run_from}

abbrev pub piece_of : Front → Piece
piece_of (front.Gap k) = Gap k
piece_of (front.Token t k) = Token (word_of t) k
piece_of front.NoToken = NoToken

-- the number of bytes after the first one
abbrev pub following_of : Piece → ℕ
following_of (Gap k) = k
following_of (Token w k) = k
following_of NoToken = 0

-- what stands at the front of a whole text, by its first byte and those after it
abbrev pub at_front : (ℕ → List ℕ → Piece) → List ℕ → Piece
at_front f [] = NoToken
at_front f (b ∷ rest) = f b rest

abbrev pub at_letter : List ℕ → Bool
at_letter [] = false
at_letter (b ∷ rest) = is_letter b

abbrev pub run_front_of : ℕ → List ℕ → Piece
run_front_of b rest = run_from b rest (prefix_len is_name_byte rest)
