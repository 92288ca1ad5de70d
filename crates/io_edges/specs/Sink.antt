-- What a sink does.
use Rattle.std.specs.Prelude.{◌≡◌, ℕ, ◌≤◌, List, ◌++◌, map, take, length, Option, Some, None, IfSome, Result, Ok, Err, OnOk, OnErr}
use Rattle.std.specs.Borrow.{Bor}
use Rattle.std.specs.List.{concat}
use Rattle.io_edges.specs.declared.sink.Failed.{Failed}
use Rattle.io_edges.specs.Files.{Rose}

-- the count of faults never falls, and an `Err` is answered only where it rose
pub record HasCause {T : Type 0} (before now : ℕ) (result : Result T Failed) : Type 0 where
  pub later : before ≤ now
  pub failed : OnErr result (Rose before now)

-- the first n bytes are appended at `Ok n`, and nothing otherwise
abbrev pub appended : List ℕ → List ℕ → Result ℕ Failed → List ℕ
appended old bytes (Ok n) = old ++ take n bytes
appended old bytes (Err failed) = old

-- what is told goes on to be told
abbrev pub Puts : Option (List ℕ) → Option (List ℕ) → List ℕ → Result ℕ Failed → Type 0
Puts None new bytes result = new ≡ None
Puts (Some old) new bytes result = new ≡ Some (appended old bytes result)

-- ---- texts that are put piece by piece

-- a part of the text, from its front, was appended
abbrev pub GainsPart : List ℕ → Option (List ℕ) → List ℕ → Type 0
GainsPart bytes new text = (n : ℕ) × (n ≤ length text) × (new ≡ Some (bytes ++ take n text))

-- A text was put: all of it, or a part from its front where the sink failed.
pub record PutsText {T : Type 0} (old new : Option (List ℕ)) (before now : ℕ) (text : List ℕ) (result : Result T Failed) : Type 0 where
  pub all : OnOk result (IfSome old (λ bytes. new ≡ Some (bytes ++ text)))
  pub part : IfSome old (λ bytes. GainsPart bytes new text)
  pub untold : old ≡ None → new ≡ None
  pub cause : HasCause before now result

abbrev pub bytes_in : Bor (List ℕ) → List ℕ
bytes_in piece = piece.now

-- pieces, one after another
abbrev pub text_in : List (Bor (List ℕ)) → List ℕ
text_in pieces = concat (map bytes_in pieces)
