-- The pages of segments, laid one after another.
use Rattle.std.proofs.Common.{◌≡◌, ℕ, zero, suc, ◌+◌, ◌-◌, ◌*◌, ◌<◌, ◌≤◌, List, [], ◌∷◌, ◌++◌, map, length, get_or, take, drop, replicate, refl, ap, ◌∙◌, sym, arith, append_assoc}
use Rattle.std.specs.List.{range_with_len}
use Rattle.std.proofs.lemmas.List.{drop_more, length-append, length-replicate}
use Rattle.std.proofs.lemmas.List.FromFn.{length-map-range_with_len}
use Rattle.std.proofs.lemmas.Bool.Decides.{nat_tests}
use Rattle.guest_types.specs.Memory.{Page, Memory}
use Rattle.machine_model.specs.Load.{Segment, segment_byte, page_bytes, pages_from, pages_of, perm_of, first_page, page_count}

-- a number of values of a function, in two parts
map-range_append : (f : ℕ → ℕ) (start a b : ℕ) → map f (range_with_len start (a + b)) ≡ map f (range_with_len start a) ++ map f (range_with_len (start + a) b)
map-range_append f start zero b =
    let count : 0 + b ≡ b = omega arith in
    let place : start ≡ start + 0 = omega arith in
    ap (λ n. map f (range_with_len start n)) count ∙ ap (λ p. map f (range_with_len p b)) place
map-range_append f start (suc a) b =
    let count : suc a + b ≡ suc (a + b) = omega arith in
    let place : start + 1 + a ≡ start + suc a = omega arith in
    ap (λ n. map f (range_with_len start n)) count
    ∙ ap (λ rest. f start ∷ rest) (map-range_append f (start + 1) a b
    ∙ ap (λ p. map f (range_with_len (start + 1) a) ++ map f (range_with_len p b)) place)

-- where a function is 0
zeros : (f : ℕ → ℕ) (start n : ℕ) → ((a : ℕ) → start ≤ a → a < start + n → f a ≡ 0) → replicate n 0 ≡ map f (range_with_len start n)
zeros f start zero h = refl
zeros f start (suc n) h =
    ap (λ x. x ∷ replicate n 0) (sym (h start (omega arith) (omega arith)))
    ∙ ap (λ rest. f start ∷ rest) (zeros f (start + 1) n (λ a low high. h a (omega arith) (omega arith)))

-- what a segment puts at an address outside its file bytes and inside them
pub byte_below : (bytes : List ℕ) (s : Segment) (a : ℕ) → a < s.vaddr → segment_byte bytes s a ≡ 0
byte_below bytes s a h = grind (arith, nat_tests)

pub byte_past : (bytes : List ℕ) (s : Segment) (a : ℕ) → s.vaddr + s.filesz ≤ a → segment_byte bytes s a ≡ 0
byte_past bytes s a h = grind (arith, nat_tests)

pub byte_inside : (bytes : List ℕ) (s : Segment) (a : ℕ) → s.vaddr ≤ a → a < s.vaddr + s.filesz → segment_byte bytes s a ≡ get_or bytes (s.offset + (a - s.vaddr)) 0
byte_inside bytes s a low high = grind (arith, nat_tests)

-- the file bytes of a segment from one address until another
pub file_bytes_are : (bytes : List ℕ) (s : Segment) (from count : ℕ) → s.offset + s.filesz ≤ length bytes → s.vaddr ≤ from → from + count ≤ s.vaddr + s.filesz → take count (drop (s.offset + (from - s.vaddr)) bytes) ≡ map (segment_byte bytes s) (range_with_len from count)
file_bytes_are bytes s from zero size low high = refl
file_bytes_are bytes s from (suc count) size low high =
    let at = s.offset + (from - s.vaddr) in
    let within : at < length bytes = omega arith in
    let place : at + 1 ≡ s.offset + (from + 1 - s.vaddr) = omega arith in
    ap (take (suc count)) (drop_more bytes at 0 within)
    ∙ ap (λ b. b ∷ take count (drop (at + 1) bytes)) (sym (byte_inside bytes s from low (omega arith)))
    ∙ ap (λ rest. segment_byte bytes s from ∷ rest) (ap (λ p. take count (drop p bytes)) place
    ∙ file_bytes_are bytes s (from + 1) count size (omega arith) (omega arith))

-- values of a function that is 0 but for a part in the middle
around : (f : ℕ → ℕ) (start from end stop total : ℕ) → start ≤ from → from ≤ end → end ≤ stop → start + total ≡ stop → ((a : ℕ) → start ≤ a → a < from → f a ≡ 0) → ((a : ℕ) → end ≤ a → a < stop → f a ≡ 0) → (replicate (from - start) 0 ++ map f (range_with_len from (end - from))) ++ replicate (stop - end) 0 ≡ map f (range_with_len start total)
around f start from end stop total a b c is low high =
    let x = from - start in
    let y = end - from in
    let z = stop - end in
    let front = map f (range_with_len start x) in
    let middle = map f (range_with_len from y) in
    let back = map f (range_with_len end z) in
    let count : total ≡ x + (y + z) = omega arith in
    let first : start + x ≡ from = omega arith in
    let second : from + y ≡ end = omega arith in
    let whole : map f (range_with_len start total) ≡ (front ++ middle) ++ back =
    ap (λ k. map f (range_with_len start k)) count ∙ map-range_append f start x (y + z)
    ∙ ap (λ p. front ++ map f (range_with_len p (y + z))) first
    ∙ ap (λ r. front ++ r) (map-range_append f from y z ∙ ap (λ p. middle ++ map f (range_with_len p z)) second)
    ∙ sym (append_assoc front middle back) in
    ap (λ r. (r ++ middle) ++ replicate z 0) (zeros f start x (λ k l h. low k l (omega arith)))
    ∙ ap (λ r. (front ++ middle) ++ r) (zeros f end z (λ k l h. high k l (omega arith)))
    ∙ sym whole

-- the bytes of a page: zeros, those of the file, and zeros
pub page_bytes_are : (bytes : List ℕ) (s : Segment) (n from end : ℕ) → 4096 * n ≤ from → from ≤ end → end ≤ 4096 * n + 4096 → (4096 * n < from → from ≤ s.vaddr) → (end < 4096 * n + 4096 → s.vaddr + s.filesz ≤ end) → replicate (from - 4096 * n) 0 ++ map (segment_byte bytes s) (range_with_len from (end - from)) ++ replicate (4096 * n + 4096 - end) 0 ≡ page_bytes bytes s n
unfolding page_bytes
page_bytes_are bytes s n from end a b c low high =
    around (segment_byte bytes s) (4096 * n) from end (4096 * n + 4096) 4096 a b c refl
    (λ k l h. byte_below bytes s k (omega arith))
    (λ k l h. byte_past bytes s k (omega arith))

-- a page with zeros and file bytes in it
pub page_filled_between : (f : ℕ → ℕ) (page first second : List ℕ) (start from end : ℕ) → page ≡ [] → first ≡ page ++ replicate (from - start - length page) 0 → second ≡ first ++ map f (range_with_len from (end - from)) → second ≡ replicate (from - start) 0 ++ map f (range_with_len from (end - from))
page_filled_between f page first second start from end none a b =
    let empty : length page ≡ 0 = ap length none in
    let count : from - start - length page ≡ from - start = omega arith in
    b ∙ ap (λ r. r ++ map f (range_with_len from (end - from)))
    (a ∙ ap (λ r. r ++ replicate (from - start - length page) 0) none ∙ ap (λ k. replicate k 0) count)

pub length_filled : (f : ℕ → ℕ) (second : List ℕ) (start from end : ℕ) → start ≤ from → from ≤ end → second ≡ replicate (from - start) 0 ++ map f (range_with_len from (end - from)) → length second ≡ end - start
length_filled f second start from end a b e =
    let middle = map f (range_with_len from (end - from)) in
    let sum = length-append (replicate {A = ℕ} (from - start) 0) middle in
    let left = length-replicate {A = ℕ} (from - start) 0 in
    let right = length-map-range_with_len f from (end - from) in
    let all = ap length e in
    omega arith

pub length_page_bytes : (bytes : List ℕ) (s : Segment) (n : ℕ) → length (page_bytes bytes s n) ≡ 4096
unfolding page_bytes
length_page_bytes bytes s n = length-map-range_with_len (segment_byte bytes s) (4096 * n) 4096

-- a page of a segment
abbrev pub laid : List ℕ → Segment → ℕ → Page
laid bytes s n = record { page = n; perm = perm_of s; bytes = page_bytes bytes s n }

-- one page more
pub pages_from_more : (bytes : List ℕ) (s : Segment) (first count place : ℕ) → place ≡ first + count → pages_from bytes s first (count + 1) ≡ pages_from bytes s first count ++ laid bytes s place ∷ []
pages_from_more bytes s first zero place e =
    let p : first ≡ place = omega arith in
    ap (λ n. laid bytes s n ∷ []) p
pages_from_more bytes s first (suc count) place e =
    let more : suc count + 1 ≡ suc (count + 1) = omega arith in
    ap (pages_from bytes s first) more
    ∙ ap (λ rest. laid bytes s first ∷ rest) (pages_from_more bytes s (first + 1) count place (omega arith))

-- all pages of a segment
pub is_pages_of : (bytes : List ℕ) (s : Segment) (pages old : Memory) (first count : ℕ) → first ≡ first_page s → count ≡ page_count s → pages ≡ old ++ pages_from bytes s first count → pages ≡ old ++ pages_of bytes s
unfolding pages_of
is_pages_of bytes s pages old first count f c h =
    h ∙ ap (λ n. old ++ pages_from bytes s n count) f ∙ ap (λ n. old ++ pages_from bytes s (first_page s) n) c
