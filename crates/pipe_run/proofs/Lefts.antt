-- The pages of a map as a run leaves them are pages of a memory with the same numbers.
use Rattle.std.proofs.Common.{◌≡◌, ℕ, [], ◌∷◌, Bool, true, false, Option, Some, None, refl, sym, ap, subst, eqb}
use Rattle.std.proofs.lemmas.Option.{same_Some}
use Rattle.guest_types.specs.Memory.{Page, Memory, IsPage, IsMemory, DoNotMeet, page_at, page_numbers}
use Rattle.std.specs.List.Sorted.{IsStrictlyIncreasing}
use Rattle.std.specs.List.{AllByRecursion}
use Rattle.std.proofs.lemmas.List.Elements.{recursion_from_All, All-from_recursion}
use Rattle.pipe_run.specs.PipeRun.{bytes_or, map_left}

-- ---- a page of a memory
page_found_of_cons : (first : Page) (memory : Memory) (n : ℕ) (page : Page) (x : Bool) → eqb first.page n ≡ x → page_at (first ∷ memory) n ≡ Some page → IsPage first
    → (page_at memory n ≡ Some page → IsPage page) → IsPage page
page_found_of_cons first memory n page true w e is ih = let k : Some first ≡ Some page = rw w at e in subst IsPage (same_Some first page k) is
page_found_of_cons first memory n page false w e is ih = ih (rw w at e)

pub found-page : (memory : Memory) (n : ℕ) → AllByRecursion IsPage memory → (page : Page) → page_at memory n ≡ Some page → IsPage page
found-page [] n h page e = cc
found-page (first ∷ memory) n h page e = page_found_of_cons first memory n page (eqb first.page n) refl e h.0 (found-page memory n h.1 page)

-- ---- the pages of a map

pub numbers-left : (memory pages : Memory) → page_numbers (map_left memory pages) ≡ page_numbers pages
numbers-left memory [] = refl
numbers-left memory (page ∷ pages) = ap (λ ns. page.page ∷ ns) (numbers-left memory pages)

absent_step : (memory : Memory) (page : Page) (pages : Memory) (n : ℕ) (x : Bool) → eqb page.page n ≡ x → page_at (page ∷ pages) n ≡ None
    → (page_at pages n ≡ None → page_at (map_left memory pages) n ≡ None) → page_at (map_left memory (page ∷ pages)) n ≡ None
absent_step memory page pages n true w h ih = let k = rw w at h in cc
absent_step memory page pages n false w h ih = rw w (ih (rw w at h))

pub absent-left : (memory pages : Memory) (n : ℕ) → page_at pages n ≡ None → page_at (map_left memory pages) n ≡ None
absent-left memory [] n h = refl
absent-left memory (page ∷ pages) n h = absent_step memory page pages n (eqb page.page n) refl h (absent-left memory pages n)

pub apart-left : (image memory pages : Memory) → AllByRecursion (λ page. page_at pages page.page ≡ None) image → AllByRecursion (λ page. page_at (map_left memory pages) page.page ≡ None) image
apart-left [] memory pages h = h
apart-left (page ∷ image) memory pages h = (absent-left memory pages page.page h.0, apart-left image memory pages h.1)

pub DoNotMeet-left : (image memory pages : Memory) → DoNotMeet image pages → DoNotMeet image (map_left memory pages)
DoNotMeet-left image memory pages h =
    All-from_recursion (λ page. page_at (map_left memory pages) page.page ≡ None) image
    (apart-left image memory pages (recursion_from_All (λ page. page_at pages page.page ≡ None) image h))

page-with : (page : Page) (o : Option Page) → ((p : Page) → o ≡ Some p → IsPage p) → IsPage page → IsPage (record page { bytes = bytes_or page o })
page-with page None h is = is
page-with page (Some p) h is = let q = h p refl in record { below = is.below; whole = q.whole; small = q.small }

pages-left : (memory pages : Memory) → AllByRecursion IsPage memory → AllByRecursion IsPage pages → AllByRecursion IsPage (map_left memory pages)
pages-left memory [] h is = is
pages-left memory (page ∷ pages) h is =
    (page-with page (page_at memory page.page) (λ p e. found-page memory page.page h p e) is.0, pages-left memory pages h is.1)

pub IsMemory-left : (memory pages : Memory) → IsMemory memory → IsMemory pages → IsMemory (map_left memory pages)
IsMemory-left memory pages h is = record {
  ascending = subst IsStrictlyIncreasing (sym (numbers-left memory pages)) is.ascending;
  pages = All-from_recursion IsPage (map_left memory pages) (pages-left memory pages (recursion_from_All IsPage memory h.pages) (recursion_from_All IsPage pages is.pages));
}
