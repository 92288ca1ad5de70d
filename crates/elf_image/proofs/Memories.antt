-- The pages of segments that do not meet are a memory.
use Rattle.std.proofs.Common.{◌≡◌, ℕ, zero, suc, ◌+◌, ◌-◌, ◌*◌, ◌^◌, ◌<◌, ◌≤◌, Bool, true, false, cond, List, [], ◌∷◌, ◌++◌, get_or, All, flat_map, ap, ◌∙◌, sym, subst, arith, length, refl}
use Rattle.std.specs.Prelude.{◌%◌, ◌&&◌, nat_eq, nat_le, nat_lt, slice_index, if◌then◌else◌, Ok}
use Rattle.std.specs.List.{range_with_len}
use Rattle.std.specs.List.Sorted.{IsStrictlyIncreasing}
use Rattle.std.proofs.lemmas.Bool.{ltb-false, cond-false, or_parts}
use Rattle.std.proofs.lemmas.List.Elements.{All-nil, All-cons, All-append, All-map, All-head, All-tail}
use Rattle.guest_types.specs.Memory.{Memory, IsPage, IsMemory, page_numbers}
use Rattle.machine_model.specs.Load.{Image, clash, code_end_of, in_order, Segment, segment_byte, page_bytes, pages_from, pages_of, first_page, page_count}
use Rattle.elf_image.specs.Loadable.{IsLoadable, AllLoadable, meets_from, placed}
use Rattle.elf_image.proofs.Laid.{length_page_bytes, laid}

-- page numbers that ascend, from a number on
abbrev Climbs : ℕ → Memory → Type 0
Climbs n [] = Unit {0}
Climbs n (page ∷ pages) = (n ≤ page.page) × Climbs (page.page + 1) pages

climbs-lower : (m n : ℕ) (pages : Memory) → m ≤ n → Climbs n pages → Climbs m pages
climbs-lower m n [] h c = tt
climbs-lower m n (page ∷ pages) h c =
    let below : m ≤ page.page = omega (arith, c.0) in
    (below, c.1)

ascending : (n : ℕ) (pages : Memory) → Climbs n pages → IsStrictlyIncreasing (page_numbers pages)
ascending n [] c k h = absurd (omega arith)
ascending n (page ∷ []) c k h = absurd (omega arith)
ascending n (page ∷ other ∷ pages) c zero h = omega (arith, c.1.0)
ascending n (page ∷ other ∷ pages) c (suc k) h =
    let here = ascending (page.page + 1) (other ∷ pages) c.1 k (omega arith) in
    let next : suc k + 1 ≡ suc (k + 1) = omega arith in
    let numbers = page_numbers (page ∷ other ∷ pages) in
    let P : ℕ → Type 0 = λ j. slice_index numbers (suc k) < slice_index numbers j in
    subst P (sym next) here

climbs-pages : (bytes : List ℕ) (s : Segment) (n first count : ℕ) (rest : Memory) → n ≤ first → Climbs (first + count) rest → Climbs n (pages_from bytes s first count ++ rest)
climbs-pages bytes s n first zero rest h c = climbs-lower n (first + 0) rest (omega arith) c
climbs-pages bytes s n first (suc count) rest h c =
    (h, climbs-pages bytes s (first + 1) (first + 1) count rest (omega arith) (climbs-lower (first + 1 + count) (first + suc count) rest (omega arith) c))

climbs-all : (bytes : List ℕ) (n : ℕ) (xs : List Segment) → meets_from n xs ≡ false → Climbs n (flat_map (pages_of bytes) xs)
unfolding pages_of
climbs-all bytes n [] e = tt
climbs-all bytes n (s ∷ xs) e =
    let end = first_page s + page_count s in
    let parts = or_parts (nat_lt (first_page s) n) (meets_from end xs) e in
    climbs-pages bytes s n (first_page s) (page_count s) (flat_map (pages_of bytes) xs) (ltb-false (first_page s) n parts.0) (climbs-all bytes end xs parts.1)

small-byte : (bytes : List ℕ) (s : Segment) (a : ℕ) → ((i : ℕ) → slice_index bytes i < 256) → segment_byte bytes s a < 256
small-byte bytes s a small = branch (nat_le s.vaddr a && nat_lt a (s.vaddr + s.filesz))
  where
    branch : (t : Bool) → cond t (slice_index bytes (s.offset + (a - s.vaddr))) 0 < 256
    branch true = small (s.offset + (a - s.vaddr))
    branch false = omega arith

is_page : (bytes : List ℕ) (s : Segment) (n : ℕ) → ((i : ℕ) → slice_index bytes i < 256) → n < 2 ^ 36 → IsPage (laid bytes s n)
unfolding page_bytes
is_page bytes s n small h = record {
  below = h;
  whole = length_page_bytes bytes s n;
  small = All-map (λ b. b < 256) (segment_byte bytes s) (range_with_len (4096 * n) 4096) (λ k d l. small-byte bytes s (get_or (range_with_len (4096 * n) 4096) k d) small);
}

are_pages : (bytes : List ℕ) (s : Segment) (first count : ℕ) → ((i : ℕ) → slice_index bytes i < 256) → first + count ≤ 2 ^ 36 → All IsPage (pages_from bytes s first count)
are_pages bytes s first zero small h = All-nil IsPage
are_pages bytes s first (suc count) small h =
    All-cons IsPage (laid bytes s first) (pages_from bytes s (first + 1) count) (is_page bytes s first small (omega arith))
    (are_pages bytes s (first + 1) count small (omega arith))

pages_end : (size : ℕ) (s : Segment) → IsLoadable size s → first_page s + page_count s ≤ 2 ^ 36
pages_end size s h = omega (arith, h.in_space, h.some)

all_pages : (size : ℕ) (bytes : List ℕ) (xs : List Segment) → ((i : ℕ) → slice_index bytes i < 256) → AllLoadable size xs → All IsPage (flat_map (pages_of bytes) xs)
unfolding pages_of
all_pages size bytes [] small all = All-nil IsPage
all_pages size bytes (s ∷ xs) small all =
    All-append IsPage (pages_from bytes s (first_page s) (page_count s)) (flat_map (pages_of bytes) xs)
    (are_pages bytes s (first_page s) (page_count s) small (pages_end size s (All-head (IsLoadable size) s xs all)))
    (all_pages size bytes xs small (All-tail (IsLoadable size) s xs all))

-- the pages of segments in order that do not meet
pub is_memory : (size : ℕ) (bytes : List ℕ) (xs : List Segment) (pages : Memory) → ((i : ℕ) → slice_index bytes i < 256) → AllLoadable size xs → meets_from 0 xs ≡ false → pages ≡ flat_map (pages_of bytes) xs → IsMemory pages
is_memory size bytes xs pages small all e is =
    subst IsMemory (sym is) (record {
      ascending = ascending 0 (flat_map (pages_of bytes) xs) (climbs-all bytes 0 xs e);
      pages = all_pages size bytes xs small all;
    })

-- the image of segments that do not clash
pub image_is : (bytes : List ℕ) (entry : ℕ) (loaded : List Segment) (code_from code_end : ℕ) (pages : Memory) → clash loaded ≡ false → code_end ≡ (if nat_eq (entry % 4) 0 then code_end_of entry loaded else 0) → code_from ≡ (if nat_eq code_end 0 then 0 else entry) → pages ≡ flat_map (pages_of bytes) (in_order loaded) → placed bytes entry loaded ≡ Ok (record { entry = entry; code_from = code_from; code_end = code_end; pages = pages })
image_is bytes entry loaded code_from code_end pages apart end from is =
    let image : ℕ → ℕ → Memory → Image = λ f e p. record { entry = entry; code_from = f; code_end = e; pages = p } in
    let last = if nat_eq (entry % 4) 0 then code_end_of entry loaded else 0 in
    cond-false _ _ _ apart
    ∙ ap (λ e. Ok (image (if nat_eq e 0 then 0 else entry) e (flat_map (pages_of bytes) (in_order loaded)))) (sym end)
    ∙ ap (λ f. Ok (image f code_end (flat_map (pages_of bytes) (in_order loaded)))) (sym from)
    ∙ ap (λ p. Ok (image code_from code_end p)) (sym is)

pub length-pages_from : (bytes : List ℕ) (s : Segment) (n count : ℕ) → length (pages_from bytes s n count) ≡ count
length-pages_from bytes s n zero = refl
length-pages_from bytes s n (suc count) = ap suc (length-pages_from bytes s (n + 1) count)
