-- Pages one after another.
use Rattle.std.specs.Prelude.{◌≡◌, ℕ, ◌+◌, ◌-◌, ◌≤◌, ◌<◌, List, ◌++◌, length, replicate, All}
use Rattle.guest_types.specs.declared.memory.Perm.{Perm}
use Rattle.guest_types.specs.Memory.{Page, Memory, IsMemory}
use Rattle.guest_types.specs.declared.memory.TheConstants.{PAGE_BYTES}

-- the bytes of a page that begins with some, and is zero above them
unfoldable pub begun_with : List ℕ → List ℕ
begun_with front = front ++ replicate (PAGE_BYTES - length front) 0

abbrev pub BeginsWith : Perm → List ℕ → Page → Type 0
BeginsWith perm front page = (page.perm ≡ perm) × (page.bytes ≡ begun_with front)

-- a memory of so many pages from a number on, which may be used for the same and begin with the same bytes
pub record IsRun (from count : ℕ) (perm : Perm) (front : List ℕ) (pages : Memory) : Type 0 where
  pub memory : IsMemory pages
  pub whole : length pages ≡ count
  pub above : All (λ page. from ≤ page.page) pages
  pub below : All (λ page. page.page < from + count) pages
  pub alike : All (BeginsWith perm front) pages
