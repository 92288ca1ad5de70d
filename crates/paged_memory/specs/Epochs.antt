-- What pages were before they were written: epochs lead from one time that a memory was kept to the next.
use Rattle.std.specs.Prelude.{◌≡◌, ℕ, zero, suc, ◌*◌, ◌≤◌, ◌<◌, Bool, true, false, ◌||◌, List, [], ◌∷◌, ◌++◌, take, drop, length, nat_eq, slice_index_or, slice_set, All, ⊤}
use Rattle.guest_types.specs.Memory.{Memory}
use Rattle.guest_types.specs.declared.memory.TheConstants.{PAGE_BYTES, MOST_PAGES}
use Rattle.paged_memory.specs.Loans.{place_in}

-- the bytes of the page at a place
abbrev pub bytes_at : Memory → ℕ → List ℕ
bytes_at [] place = []
bytes_at (page ∷ pages) zero = page.bytes
bytes_at (page ∷ pages) (suc place) = bytes_at pages place

-- the memory with other bytes in the page at a place
abbrev pub with_page : ℕ → List ℕ → Memory → Memory
with_page place bytes [] = []
with_page zero bytes (page ∷ pages) = record page { bytes = bytes } ∷ pages
with_page (suc place) bytes (page ∷ pages) = page ∷ with_page place bytes pages

-- Pages that were saved before they were first written: their places, and beside these their images, of 4,096 bytes each.
-- There is room for as many as the memory has pages.
pub record Saved : Type 0 where
  pub pages : ℕ
  pub places : List ℕ
  pub images : List ℕ

-- the memory with images put back, the last first
abbrev pub put_back : (places images : List ℕ) → Memory → Memory
put_back [] images memory = memory
put_back (place ∷ places) images memory = with_page place (take PAGE_BYTES images) (put_back places (drop PAGE_BYTES images) memory)

-- what the memory was before the pages were written
abbrev pub undone : Saved → Memory → Memory
undone saved memory = put_back saved.places saved.images memory

-- none is saved
abbrev pub cleared : Saved → Saved
cleared saved = record saved { places = []; images = [] }

abbrev pub has_place : ℕ → List ℕ → Bool
has_place place [] = false
has_place place (here ∷ places) = nat_eq here place || has_place place places

-- ---- several of them, the newest first

-- what the memory was before each, oldest first
abbrev pub past_of : List Saved → Memory → List Memory
past_of [] memory = []
past_of (saved ∷ older) memory = let before = undone saved memory in past_of older before ++ before ∷ []

abbrev pub undone_first : List Saved → Memory → Memory
undone_first [] memory = memory
undone_first (saved ∷ older) memory = undone saved memory

abbrev pub cleared_first : List Saved → List Saved
cleared_first [] = []
cleared_first (saved ∷ older) = cleared saved ∷ older

-- the page at a place is saved in the newest one
abbrev pub IsSavedAt : ℕ → List Saved → Type 0
IsSavedAt place [] = ⊤
IsSavedAt place (saved ∷ older) = has_place place saved.places ≡ true

-- a page with a number is, where there is one
abbrev pub IsSaved : List Saved → Memory → (number : ℕ) → Type 0
IsSaved epochs memory number = place_in memory number < length memory → IsSavedAt (place_in memory number) epochs

-- epochs of a memory of so many pages
pub record Epochs : Type 0 where
  pub pages : ℕ
  pub epochs : List Saved

-- ---- as they stand

-- how many pages are marked
abbrev pub marked : List Bool → ℕ
marked [] = 0
marked (true ∷ marks) = suc (marked marks)
marked (false ∷ marks) = marked marks

-- marks without those of the pages at some places
abbrev pub unmarked : (places : List ℕ) → List Bool → List Bool
unmarked [] marks = marks
unmarked (place ∷ places) marks = unmarked places (slice_set marks place false)

-- Marks of the pages that are saved, with room for all.
pub record IsEpoch (marks : List Bool) (places images : List ℕ) (room wide : ℕ) : Type 0 where
  pub few : length marks ≤ MOST_PAGES
  pub whole : length images ≡ PAGE_BYTES * length places
  pub counted : marked marks ≡ length places
  pub saved : (place : ℕ) → slice_index_or marks place false ≡ true → has_place place places ≡ true
  pub fits : length marks ≤ room
  pub fits_images : PAGE_BYTES * length marks ≤ wide

-- Eight epochs, or none, of which the first so many count.
pub record IsLog (pages : ℕ) (epochs : List Saved) (count : ℕ) : Type 0 where
  pub few : pages ≤ MOST_PAGES
  pub most : count ≤ 8
  pub eight : 1 ≤ count → length epochs ≡ 8
  pub alike : All (λ saved. saved.pages ≡ pages) epochs

-- The epochs are of this memory, and the page that was opened last is saved. No page has a number from 2^52 on.
pub record IsKept (memory : Memory) (log : Epochs) (opened : ℕ) : Type 0 where
  pub pages : log.pages ≡ length memory
  pub saved : opened < 4503599627370496 → IsSaved log.epochs memory opened
