-- Writes within one page of a memory, among the bytes of all pages.
use Rattle.std.proofs.Common.{◌≡◌, ℕ, ◌+◌, ◌/◌, ◌%◌, ◌^◌, ◌<◌, ◌≤◌, true, List, ◌++◌, length, take, drop, Ok, refl, sym, ap, ap₂, ◌∙◌, arith}
use Rattle.std.proofs.lemmas.List.{drop-drop}
use Rattle.guest_types.specs.Elements.{bytes_of}
use Rattle.guest_types.specs.Memory.{put_number, is_writable, stored}
use Rattle.guest_types.specs.Spans.{with_span}
use Rattle.guest_types.proofs.Numbers.{length-bytes_of}
use Rattle.guest_types.proofs.Stores.{stored-done}
use Rattle.paged_memory.specs.declared.head.Head.{Head}
use Rattle.paged_memory.specs.Layout.{memory_of, IsLaidOut, StandsAt}
use Rattle.paged_memory.specs.Loans.{place_in}
use Rattle.paged_memory.specs.Numbers.{with_number}
use Rattle.paged_memory.specs.Epochs.{bytes_at, with_page}
use Rattle.paged_memory.proofs.Bytes.{length-with_number}
use Rattle.paged_memory.proofs.Parts.{put_at}
use Rattle.paged_memory.proofs.Places.{page_of, start_at, page_at-stands, within, length-page_of, length-memory_of}
use Rattle.paged_memory.proofs.PageLaws.{with_page-stands, bytes_at-memory_of, place_in-stands, with_span-place, put_number-place, laid-same}
use Rattle.paged_memory.proofs.OnePage.{writable-within}

-- a number written is its bytes put there
number-put : (bs : List ℕ) (at s v : ℕ) → with_number bs at s v ≡ put_at at (bytes_of s v) bs
unfolding with_number
number-put bs at s v =
    ap (λ rest. take at bs ++ (bytes_of s v ++ rest)) (sym (ap (λ n. drop n (drop at bs)) (length-bytes_of s v) ∙ drop-drop s at bs))

-- the page at a place in the memory
stands-bytes : (heads : List Head) (bs : List ℕ) (a i : ℕ) → IsLaidOut heads bs → StandsAt heads (a / 4096) i → (i ≡ place_in (memory_of heads bs) (a / 4096)) × (place_in (memory_of heads bs) (a / 4096) < length (memory_of heads bs)) × (bytes_at (memory_of heads bs) (place_in (memory_of heads bs) (a / 4096)) ≡ (page_of heads bs i).bytes)
stands-bytes heads bs a i laid here =
    let m = memory_of heads bs in
    let place = place_in-stands heads bs m (a / 4096) i refl laid here in
    (place, omega (arith, place, here.below, length-memory_of heads bs), sym (ap (bytes_at m) place) ∙ bytes_at-memory_of heads bs i here.below)

-- a number written within the page at a place
pub put_number-stands : (heads : List Head) (bs : List ℕ) (a s v i : ℕ) → IsLaidOut heads bs → StandsAt heads (a / 4096) i → a < 2 ^ 64 → a % 4096 + s ≤ 4096 → put_number (memory_of heads bs) a s v ≡ memory_of heads (with_number bs (start_at heads i + a % 4096) s v)
put_number-stands heads bs a s v i laid stands low fits =
    let m = memory_of heads bs in
    let o = a % 4096 in
    let is = stands-bytes heads bs a i laid stands in
    put_number-place m a s v is.1 (ap length is.2 ∙ length-page_of heads bs i laid stands.below) low fits
    ∙ ap₂ (λ p bytes. with_page p (with_number bytes o s v) m) (sym is.0) is.2
    ∙ ap (λ bytes. with_page i bytes m) (number-put (page_of heads bs i).bytes o s v)
    ∙ sym (with_page-stands heads bs i o (bytes_of s v) laid stands.below (omega (arith, fits, length-bytes_of s v)))
    ∙ ap (memory_of heads) (sym (number-put bs (start_at heads i + o) s v))

pub laid-with_number : (heads : List Head) (bs : List ℕ) (a s v i : ℕ) → IsLaidOut heads bs → StandsAt heads (a / 4096) i → a % 4096 + s ≤ 4096 → IsLaidOut heads (with_number bs (start_at heads i + a % 4096) s v)
laid-with_number heads bs a s v i laid stands fits =
    laid-same heads bs (with_number bs (start_at heads i + a % 4096) s v) laid (length-with_number bs (start_at heads i + a % 4096) s v (omega (arith, fits, (within heads bs i laid stands.below))))

-- a store within a page that may be written
pub stored-stands : (heads : List Head) (bs : List ℕ) (a s v i : ℕ) → IsLaidOut heads bs → StandsAt heads (a / 4096) i → is_writable (page_of heads bs i).perm ≡ true → a < 2 ^ 64 → a % 4096 + s ≤ 4096 → stored (memory_of heads bs) a s v ≡ Ok (memory_of heads (with_number bs (start_at heads i + a % 4096) s v))
stored-stands heads bs a s v i laid stands writable low fits =
    stored-done (memory_of heads bs) a s v (writable-within (memory_of heads bs) a s (page_of heads bs i) low (page_at-stands heads bs (a / 4096) i laid stands) writable fits)
    ∙ ap Ok (put_number-stands heads bs a s v i laid stands low fits)

-- bytes written within the page at a place
pub with_span-stands : (heads : List Head) (bs : List ℕ) (a i : ℕ) (w : List ℕ) → IsLaidOut heads bs → StandsAt heads (a / 4096) i → a % 4096 + length w ≤ 4096 → with_span (memory_of heads bs) a w ≡ memory_of heads (put_at (start_at heads i + a % 4096) w bs)
with_span-stands heads bs a i w laid stands fits =
    let m = memory_of heads bs in
    let is = stands-bytes heads bs a i laid stands in
    with_span-place m a w is.1
    ∙ ap₂ (λ p bytes. with_page p (put_at (a % 4096) w bytes) m) (sym is.0) is.2
    ∙ sym (with_page-stands heads bs i (a % 4096) w laid stands.below fits)
