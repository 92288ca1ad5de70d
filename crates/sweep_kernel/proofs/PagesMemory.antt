-- The pages of a sweep are a memory, above the program's own, and 175 of them.
use Rattle.std.proofs.Common.{◌≡◌, ℕ, zero, suc, ◌+◌, ◌*◌, ◌%◌, ◌<◌, ◌≤◌, ◌^◌, List, [], ◌∷◌, ◌++◌, length, refl, subst, arith, length-append, append-nil, append_assoc}
use Rattle.std.specs.List.{All}
use Rattle.std.proofs.lemmas.Nat.{mod_below}
use Rattle.std.proofs.lemmas.List.{length-replicate}
use Rattle.std.proofs.lemmas.List.Elements.{All-nil, All-cons, All-append, All-replicate, All-weaker}
use Rattle.guest_types.specs.Memory.{Page, Memory, IsMemory}
use Rattle.guest_types.proofs.Merges.{empty_memory, IsMemory-push}
use Rattle.sweep_kernel.specs.Numbers.{random}
use Rattle.sweep_kernel.specs.Pages.{page_with, low_bytes, drawn_page, zero_page, pages_from, pages_of}
use Rattle.sweep_kernel.proofs.PageLists.{length_low_bytes}

abbrev IsByte : ℕ → Type 0
IsByte b = b < 256

record IsWhole (bytes : List ℕ) : Type 0 where
  size : length bytes ≡ 4096
  small : All IsByte bytes

low_bytes_small : (seed j n : ℕ) → All IsByte (low_bytes seed j n)
unfolding low_bytes
low_bytes_small seed j zero = All-nil IsByte
low_bytes_small seed j (suc n) =
    All-append IsByte (low_bytes seed j n) (random seed (j + n) % 256 ∷ []) (low_bytes_small seed j n)
    (All-cons IsByte (random seed (j + n) % 256) [] (mod_below (random seed (j + n)) 256 (omega arith)) (All-nil IsByte))

drawn_whole : (seed j p : ℕ) → IsWhole (drawn_page seed j p)
unfolding drawn_page
drawn_whole seed j p = record { size = length_low_bytes seed (j + 4096 * p) 4096; small = low_bytes_small seed (j + 4096 * p) 4096 }

zero_whole : (p : ℕ) → IsWhole (zero_page p)
unfolding zero_page
zero_whole p = record { size = length-replicate {A = ℕ} 4096 0; small = All-replicate IsByte 4096 0 (omega arith) }

-- ---- pages after others

abbrev IsBelow : ℕ → Page → Type 0
IsBelow bound page = page.page < bound

abbrev IsAbove : Page → Type 0
IsAbove page = 4096 ≤ page.page

-- a memory of pages from 4,096 on and below a number
record Filled (memory : Memory) (bound size : ℕ) : Type 0 where
  is : IsMemory memory
  below : All (IsBelow bound) memory
  high : All IsAbove memory
  count : length memory ≡ size

filled_with_page : (memory : Memory) (page bound size : ℕ) (bytes : List ℕ) → Filled memory page size → IsWhole bytes → 4096 ≤ page → page < 2 ^ 36 → suc page ≡ bound → Filled (memory ++ page_with page bytes ∷ []) bound (size + 1)
filled_with_page memory page bound size bytes h whole low small e = record {
  is = IsMemory-push memory (page_with page bytes) h.is (record { below = small; whole = whole.size; small = whole.small }) h.below;
  below = All-append (IsBelow bound) memory (page_with page bytes ∷ [])
      (All-weaker (IsBelow page) (IsBelow bound) (λ q l. omega (arith, l)) memory h.below)
      (All-cons (IsBelow bound) (page_with page bytes) [] (omega arith) (All-nil (IsBelow bound)));
  high = All-append IsAbove memory (page_with page bytes ∷ []) h.high (All-cons IsAbove (page_with page bytes) [] low (All-nil IsAbove));
  count = omega (arith, h.count, length-append memory (page_with page bytes ∷ []));
}

filled_with_pages : (memory : Memory) (first size : ℕ) (bytes : ℕ → List ℕ) (n : ℕ) → Filled memory first size → ((p : ℕ) → IsWhole (bytes p)) → 4096 ≤ first → first + n ≤ 2 ^ 36 → Filled (memory ++ pages_from first bytes n) (first + n) (size + n)
unfolding pages_from
filled_with_pages memory first size bytes zero h whole low small =
    let a : first + 0 ≡ first = omega arith in
    let b : size + 0 ≡ size = omega arith in
    rw (append-nil memory, a, b) h
filled_with_pages memory first size bytes (suc n) h whole low small =
    let more = filled_with_page (memory ++ pages_from first bytes n) (first + n) (first + suc n) (size + n) (bytes n) (filled_with_pages memory first size bytes n h whole low (omega arith)) (whole n) (omega arith) (omega arith) (omega arith) in
    let e : size + n + 1 ≡ size + suc n = omega arith in
    subst (λ (k : ℕ). Filled (memory ++ (pages_from first bytes n ++ page_with (first + n) (bytes n) ∷ [])) (first + suc n) k) e
    (subst (λ (m : Memory). Filled m (first + suc n) (size + n + 1)) (append_assoc memory (pages_from first bytes n) (page_with (first + n) (bytes n) ∷ [])) more)

-- what lies below a number lies below a greater one
raised : (memory : Memory) (low high size : ℕ) → low ≤ high → Filled memory low size → Filled memory high size
raised memory low high size l h = record {
  is = h.is;
  below = All-weaker (IsBelow low) (IsBelow high) (λ q p. omega (arith, p, l)) memory h.below;
  high = h.high;
  count = h.count;
}

nothing : Filled [] 4096 0
nothing = record { is = empty_memory; below = All-nil (IsBelow 4096); high = All-nil IsAbove; count = refl }

all_filled : (seed : ℕ) → Filled (pages_of seed) 12388 175
unfolding pages_of
all_filled seed =
    let a = pages_from 0x1000 (drawn_page seed 6) 50 in
    let b = pages_from 0x2000 (drawn_page seed 204806) 25 in
    let c = pages_from 0x3000 zero_page 100 in
    let first = filled_with_pages [] 0x1000 0 (drawn_page seed 6) 50 nothing (drawn_whole seed 6) (omega arith) (omega arith) in
    let second = filled_with_pages a 0x2000 50 (drawn_page seed 204806) 25 (raised a 4146 0x2000 50 (omega arith) first) (drawn_whole seed 204806) (omega arith) (omega arith) in
    let third = filled_with_pages (a ++ b) 0x3000 75 zero_page 100 (raised (a ++ b) 8217 0x3000 75 (omega arith) second) zero_whole (omega arith) (omega arith) in
    subst (λ (m : Memory). Filled m 12388 175) (append_assoc a b c) third

pub are_memory : (seed : ℕ) → IsMemory (pages_of seed)
are_memory seed = (all_filled seed).is

pub are_high : (seed : ℕ) → All (λ page. 4096 ≤ page.page) (pages_of seed)
are_high seed = (all_filled seed).high

pub count : (seed : ℕ) → length (pages_of seed) ≡ 175
count seed = (all_filled seed).count
