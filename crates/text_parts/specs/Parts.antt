-- The parts of a text of bytes between those like a mark. After the last mark stands one part more, which may be empty.
use Rattle.std.specs.Prelude.{ℕ, ◌+◌, Bool, List, [], length, Option, Some, None, nat_eq}
use Rattle.std.specs.Borrow.{Bor}
use Rattle.std.specs.List.{slice_split}

abbrev pub is_byte : ℕ → ℕ → Bool
is_byte mark b = nat_eq b mark

abbrev pub parts_at : (mark : ℕ) → List ℕ → List (List ℕ)
parts_at mark text = slice_split (is_byte mark) text

-- the parts between line feeds
abbrev pub lines_of : List ℕ → List (List ℕ)
lines_of text = parts_at 10 text

-- the parts of a line between spaces, which are empty where spaces follow one another
abbrev pub words_of : List ℕ → List (List ℕ)
words_of line = parts_at 32 line

-- the parts of what stands after a part, where something does
abbrev pub parts_after : (mark : ℕ) → Option (Bor (List ℕ)) → List (List ℕ)
parts_after mark None = []
parts_after mark (Some rest) = parts_at mark rest.now

-- more than the bytes after a part, or 0 where nothing stands after it
abbrev pub left_size : Option (Bor (List ℕ)) → ℕ
left_size None = 0
left_size (Some rest) = length rest.now + 1
