-- The file of some words is loaded as their image.
use Rattle.std.proofs.Common.{◌≡◌, ℕ, ◌+◌, ◌*◌, ◌^◌, ◌<◌, ◌≤◌, true, false, List, [], ◌∷◌, length, None, Ok, refl, ap, ◌∙◌, arith, length-append}
use Rattle.std.specs.Prelude.{nat_lt, filter}
use Rattle.std.specs.Int.{to_le_bytes, w32, w64}
use Rattle.std.proofs.lemmas.Nat.{from_le_bytes-to_le_bytes_8}
use Rattle.std.proofs.lemmas.Bool.{le-ltb, cond-true, cond-false, ne_eqb, not_from_false, and_right}
use Rattle.machine_model.specs.Written.{file_of, word_bytes, whole}
use Rattle.machine_model.specs.Load.{le_at, segment_at, load, load_segments, image_of, is_loaded, is_bad, first_bad, page_count}

length_bytes : (words : List ℕ) → length (word_bytes words) ≡ 4 * length words
length_bytes [] = refl
length_bytes (w ∷ words) =
    omega (arith, length-append (to_le_bytes w32 w) (word_bytes words), length_bytes words)

pub length-file_of : (words : List ℕ) → length (file_of words) ≡ 120 + 4 * length words
length-file_of words = omega (arith, length_bytes words)

le8 : (n : ℕ) → n < 2 ^ 64 → le_at (to_le_bytes w64 n) 0 8 ≡ n
le8 n h = let e = from_le_bytes-to_le_bytes_8 n h in omega (arith, e)

pub segment_is : (words : List ℕ) → 120 + 4 * length words < 2 ^ 64 → segment_at (file_of words) 64 ≡ whole (120 + 4 * length words)
segment_is words h = ap whole (le8 (120 + 4 * length words) h)

load_head : (words : List ℕ) → load (file_of words) ≡ load_segments (file_of words) 0x400078 (segment_at (file_of words) 64 ∷ [])
load_head words =
    let n = length-file_of words in
    let a : nat_lt (length (file_of words)) 64 ≡ false = le-ltb _ _ (omega (arith, n)) in
    let b : nat_lt (length (file_of words)) 120 ≡ false = le-ltb _ _ (omega (arith, n)) in
    cond-false _ _ _ a ∙ cond-false _ _ _ b

not_bad : (n : ℕ) → n < 2 ^ 40 → is_bad n (whole n) ≡ false
not_bad n h =
    let a : nat_lt n n ≡ false = le-ltb n n (omega arith) in
    let b : nat_lt n (0 + n) ≡ false = le-ltb n (0 + n) (omega arith) in
    let c : nat_lt (2 ^ 48) (0x400000 + n) ≡ false = le-ltb (2 ^ 48) (0x400000 + n) (omega arith) in
    rw (a, b, c) refl

few_pages : (n : ℕ) → n < 2 ^ 25 → page_count (whole n) ≤ 16384
few_pages n h = omega arith

loads : (words : List ℕ) (n : ℕ) → length (file_of words) ≡ n → 0 < n → n < 2 ^ 25 → load_segments (file_of words) 0x400078 (whole n ∷ []) ≡ Ok (image_of (file_of words) 0x400078 (whole n ∷ []))
loads words n e p h =
    let l : is_loaded (whole n) ≡ true = not_from_false _ (ne_eqb n 0 (λ z. omega arith)) in
    let bad : is_bad (length (file_of words)) (whole n) ≡ false = ap (λ m. is_bad m (whole n)) e ∙ not_bad n (omega arith) in
    let f : nat_lt 16384 (0 + page_count (whole n)) ≡ false = le-ltb _ _ (omega (arith, few_pages n h)) in
    let all : filter is_loaded (whole n ∷ []) ≡ whole n ∷ [] = cond-true _ _ _ l in
    let none : first_bad (length (file_of words)) 0 (whole n ∷ []) ≡ None = cond-false _ _ _ (and_right _ _ bad) in
    rw (none, all) (cond-false _ _ _ f)

pub load-file_of : (words : List ℕ) → length words ≤ 65536 → load (file_of words) ≡ Ok (image_of (file_of words) 0x400078 (whole (120 + 4 * length words) ∷ []))
load-file_of words h =
    load_head words
    ∙ ap (λ s. load_segments (file_of words) 0x400078 (s ∷ [])) (segment_is words (omega arith))
    ∙ loads words (120 + 4 * length words) (length-file_of words) (omega arith) (omega arith)
