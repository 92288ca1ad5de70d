-- The definitions at values worked out by hand.
use Rattle.std.proofs.Common.{◌≡◌, ℕ, List, [], ◌∷◌, ◌++◌, replicate, refl}
use Rattle.guest_types.specs.declared.memory.Perm.TheVariants.{ReadWrite}
use Rattle.guest_types.specs.Memory.{Page, Memory}
use Rattle.paged_memory.specs.declared.head.Head.{Head}
use Rattle.paged_memory.specs.Layout.{memory_of, heads_from, joined, without}
use Rattle.paged_memory.specs.Loans.{place_in}

page_of : ℕ → ℕ → Page
page_of n b = record { page = n; perm = ReadWrite; bytes = replicate 4096 b }

memory : Memory
memory = page_of 3 0x11 ∷ page_of 7 0x22 ∷ []

places : (place_in memory 7 ≡ 1) × (place_in memory 5 ≡ 2)
unfolding memory page_of
places = (refl, refl)

-- page 5 came after pages 3 and 7, so that its bytes stand behind theirs and its head between
heads : List Head
heads = record { number = 3; perm = ReadWrite; start = 0 } ∷ record { number = 5; perm = ReadWrite; start = 8192 } ∷ record { number = 7; perm = ReadWrite; start = 4096 } ∷ []

bytes : List ℕ
bytes = replicate 4096 0x11 ++ (replicate 4096 0x22 ++ replicate 4096 0x33)

joins : joined (heads_from 8192 (page_of 5 0x33 ∷ [])) (heads_from 0 memory) ≡ heads
unfolding memory heads page_of
joins = refl

laid : memory_of heads bytes ≡ page_of 3 0x11 ∷ page_of 5 0x33 ∷ page_of 7 0x22 ∷ []
unfolding heads bytes page_of
laid = refl

-- page 5 goes, and nothing else; page 9 was not there
goes : without (page_of 5 0 ∷ page_of 9 0 ∷ []) (memory_of heads bytes) ≡ memory
unfolding memory heads bytes page_of
goes = refl
