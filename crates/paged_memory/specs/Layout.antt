-- How the pages of a guest lie: their heads in order, each with the place from which on its page's bytes stand among those of all.
use Rattle.std.specs.Prelude.{◌≡◌, ℕ, ◌+◌, ◌^◌, ◌≤◌, ◌<◌, ◌⊎◌, List, [], ◌∷◌, ◌++◌, map, filter, length, take, drop, slice_index, nat_lt, nat_le, Bool, true, false, is_none, if◌then◌else◌, All, AllPairs}
use Rattle.std.specs.List.Sorted.{IsStrictlyIncreasing}
use Rattle.guest_types.specs.Memory.{Page, Memory, page_at}
use Rattle.guest_types.specs.declared.memory.TheConstants.{PAGE_BYTES, MOST_PAGES}
use Rattle.paged_memory.specs.declared.head.Head.{Head}

-- the page that has this head, of which 4,096 of these bytes are its own
abbrev pub page_in : List ℕ → Head → Page
page_in bs head = record { page = head.number; perm = head.perm; bytes = take PAGE_BYTES (drop head.start bs) }

-- the memory whose pages have these heads, and their bytes among these
abbrev pub memory_of : List Head → List ℕ → Memory
memory_of heads bs = map (page_in bs) heads

-- the numbers of the pages that have these heads
abbrev pub head_numbers : List Head → List ℕ
head_numbers heads = map (λ head. head.number) heads

-- the bytes of a page stand within so many
abbrev pub IsWithin : ℕ → Head → Type 0
IsWithin size head = head.start + PAGE_BYTES ≤ size

-- the bytes of two pages have none in common
abbrev pub AreApart : Head → Head → Type 0
AreApart here there = (here.start + PAGE_BYTES ≤ there.start) ⊎ (there.start + PAGE_BYTES ≤ here.start)

-- heads in order, of which there are at most 16,384, beside the bytes of their pages, each of which has its own
pub record IsLaidOut (heads : List Head) (bs : List ℕ) : Type 0 where
  pub ascending : IsStrictlyIncreasing (head_numbers heads)
  pub below : All (λ number. number < 2 ^ 36) (head_numbers heads)
  pub within : All (IsWithin (length bs)) heads
  pub apart : AllPairs AreApart heads
  pub few : length heads ≤ MOST_PAGES

-- the page of this number stands at this place
pub record StandsAt (heads : List Head) (number place : ℕ) : Type 0 where
  pub below : place < length heads
  pub here : slice_index (head_numbers heads) place ≡ number

-- ---- pages that come and go

-- the bytes of all pages, one page after another
abbrev pub all_bytes : Memory → List ℕ
all_bytes [] = []
all_bytes (page ∷ pages) = page.bytes ++ all_bytes pages

-- the heads of pages whose bytes stand one page after another from a place on
abbrev pub heads_from : ℕ → Memory → List Head
heads_from start [] = []
heads_from start (page ∷ pages) = record { number = page.page; perm = page.perm; start = start } ∷ heads_from (start + PAGE_BYTES) pages

-- two lists of heads as one in the order of their numbers; the second is passed as what is left of it after each of the first
abbrev pub joined_before : Head → (List Head → List Head) → List Head → List Head
joined_before head rest [] = head ∷ rest []
joined_before head rest (other ∷ others) =
    if nat_lt other.number head.number then other ∷ joined_before head rest others else head ∷ rest (other ∷ others)

abbrev pub joined : List Head → List Head → List Head
joined [] others = others
joined (head ∷ heads) others = joined_before head (joined heads) others

-- of what is left of two lists, the next head is the first of the one on the left
abbrev pub comes_first : List Head → List Head → Bool
comes_first [] others = false
comes_first (head ∷ heads) [] = true
comes_first (head ∷ heads) (other ∷ others) = nat_le head.number other.number

-- the pages of a memory whose numbers another has not
abbrev pub without : Memory → Memory → Memory
without others memory = filter (λ page. is_none (page_at others page.page)) memory
