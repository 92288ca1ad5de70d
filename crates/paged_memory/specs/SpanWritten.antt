-- A part of one page that was written.
use Rattle.std.specs.Prelude.{◌≡◌, ℕ, List, length}
use Rattle.guest_types.specs.Memory.{Memory}
use Rattle.guest_types.specs.Spans.{span_of, with_span}

-- the memory after `len` bytes from an address on, in one page, were written so
pub record IsSpanWritten (writes : List ℕ → List ℕ → Type 0) (address len : ℕ) (old new : Memory) : Type 0 where
  pub bytes : List ℕ
  pub long : length bytes ≡ len
  pub written : writes (span_of old address len) bytes
  pub memory : new ≡ with_span old address bytes
