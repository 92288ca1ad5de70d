-- What the reader's values stand for.
use Rattle.std.specs.Prelude.{ℕ, List, Vec}
use Rattle.std.specs.Borrow.{Bor}

abbrev pub bytes_left : Bor (List ℕ) → List ℕ
bytes_left bytes = bytes.now

abbrev pub items_in : {A B : Type 0} → Vec A B → List A
items_in xs = xs.items
