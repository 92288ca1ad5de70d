-- What a source does.
use Rattle.std.specs.Prelude.{◌≡◌, ℕ, ◌≤◌, List, take, drop, length, Option, Some, None, Result, Ok, Err, IfOk}
use Rattle.io_edges.specs.declared.sink.Failed.{Failed}

-- the bytes that are left after a take: those after the first n at `Ok n`, and all otherwise
abbrev pub left_after : List ℕ → Result ℕ Failed → List ℕ
left_after bytes (Ok n) = drop n bytes
left_after bytes (Err failed) = bytes

-- at `Ok n` the next n bytes went to the front of the buffer; what is told goes on to be told
abbrev pub Takes : Option (List ℕ) → Option (List ℕ) → List ℕ → Result ℕ Failed → Type 0
Takes None new into result = new ≡ None
Takes (Some bytes) new into result =
    (new ≡ Some (left_after bytes result)) × IfOk result (λ n. (n ≤ length bytes) × (take n into ≡ take n bytes))
