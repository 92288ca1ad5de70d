-- What putting bytes leaves at each address.
use Rattle.std.proofs.Common.{◌≡◌, ◌≢◌, ℕ, zero, suc, ◌+◌, ◌-◌, ◌*◌, ◌/◌, ◌%◌, ◌^◌, ◌<◌, ◌≤◌, ◌⊎◌, inl, inr, Bool, true, false, List, [], ◌∷◌, length, get_or, Option, Some, None, All, refl, sym, ap, ◌∙◌, arith}
use Rattle.std.specs.Prelude.{slice_index, option_map, is_some, IsSome, ◌↔◌}
use Rattle.std.proofs.lemmas.Bool.{cond-true, cond-false}
use Rattle.std.proofs.lemmas.List.{get_or-replicate}
use Rattle.std.proofs.lemmas.List.Elements.{All-head, All-tail}
use Rattle.std.specs.Option.{option_or}
use Rattle.guest_types.specs.declared.memory.Perm.{Perm}
use Rattle.guest_types.specs.Memory.{Page, Memory, IsMemory, DoNotMeet, can_read, put_byte, byte_at, byte_of, page_at, merged, next_address}
use Rattle.guest_types.proofs.Writes.{byte_at-put_byte_same, byte_at-put_byte_other, IsMemory-put_byte, can_read-put_byte}
use Rattle.guest_types.proofs.Merges.{page_at-place, page_at-merged, page_at-merged_right, page_at-absent}
use Rattle.map_text.specs.Mapping.{put_bytes, zero_page, zero_pages}
use Rattle.map_text.proofs.Zeros.{are_memory, get_zero, count}

same_some : (x y : Memory) → Some x ≡ Some y → x ≡ y
same_some x y e = cc

-- a first byte that was put, and the rest
record First (memory m : Memory) (a b : ℕ) (bytes : List ℕ) : Type 0 where
  readable : can_read memory a ≡ true
  rest : put_bytes (put_byte memory a b) (next_address a) bytes ≡ Some m

first : (memory m : Memory) (a b : ℕ) (bytes : List ℕ) → put_bytes memory a (b ∷ bytes) ≡ Some m → First memory m a b bytes
unfolding put_bytes
first memory m a b bytes e = go (can_read memory a) refl
  where
    go : (t : Bool) → can_read memory a ≡ t → First memory m a b bytes
    go true r = record { readable = r; rest = sym (cond-true _ _ _ r) ∙ e }
    go false r = let no : None ≡ Some m = sym (cond-false _ _ _ r) ∙ e in cc

put_no_bytes : (memory m : Memory) (a : ℕ) → put_bytes memory a [] ≡ Some m → memory ≡ m
unfolding put_bytes
put_no_bytes memory m a e = same_some memory m e

-- addresses are counted without a wrap in a, and with one in b
kept_by : (memory m : Memory) (a b c : ℕ) (bytes : List ℕ) → b ≡ a % 2 ^ 64 → a + length bytes ≤ 2 ^ 64 → put_bytes memory b bytes ≡ Some m → (c < a) ⊎ (a + length bytes ≤ c) → byte_at m c ≡ byte_at memory c
kept_by memory m a b c [] low l e out = ap (λ (m : Memory). byte_at m c) (sym (put_no_bytes memory m b e))
kept_by memory m a b c (x ∷ bytes) low l e out =
    let f = first memory m b x bytes e in
    let same : b ≡ a = omega arith in
    let next : next_address b ≡ (a + 1) % 2 ^ 64 = omega arith in
    kept_by (put_byte memory b x) m (a + 1) (next_address b) c bytes next (omega arith) f.rest (away out)
    ∙ byte_at-put_byte_other memory b x c (apart out same)
  where
    away : (c < a) ⊎ (a + length (x ∷ bytes) ≤ c) → (c < a + 1) ⊎ (a + 1 + length bytes ≤ c)
    away (inl h) = inl (omega arith)
    away (inr h) = inr (omega arith)

    apart : (c < a) ⊎ (a + length (x ∷ bytes) ≤ c) → b ≡ a → c ≢ b
    apart (inl h) same e = omega arith
    apart (inr h) same e = omega arith

put_bytes_at_residue : (memory m : Memory) (a b i : ℕ) (bytes : List ℕ) → IsMemory memory → All (λ b. b < 256) bytes → b ≡ a % 2 ^ 64 → a + length bytes ≤ 2 ^ 64 → put_bytes memory b bytes ≡ Some m → i < length bytes → byte_at m (a + i) ≡ Some (slice_index bytes i)
put_bytes_at_residue memory m a b i [] is small low l e h = absurd (omega arith)
put_bytes_at_residue memory m a b zero (x ∷ bytes) is small low l e h =
    let f = first memory m b x bytes e in
    let same : a + zero ≡ b = omega arith in
    let next : next_address b ≡ (a + 1) % 2 ^ 64 = omega arith in
    let under : b < a + 1 = omega arith in
    ap (byte_at m) same
    ∙ kept_by (put_byte memory b x) m (a + 1) (next_address b) b bytes next (omega arith) f.rest (inl under)
    ∙ byte_at-put_byte_same memory b x is f.readable
put_bytes_at_residue memory m a b (suc i) (x ∷ bytes) is small low l e h =
    let f = first memory m b x bytes e in
    let next : next_address b ≡ (a + 1) % 2 ^ 64 = omega arith in
    let at : a + suc i ≡ a + 1 + i = omega arith in
    ap (byte_at m) at
    ∙ put_bytes_at_residue (put_byte memory b x) m (a + 1) (next_address b) i bytes (IsMemory-put_byte memory b x is (All-head (λ b. b < 256) x bytes small)) (All-tail (λ b. b < 256) x bytes small) next (omega arith) f.rest (omega arith)

pub kept : (memory m : Memory) (a c : ℕ) (bytes : List ℕ) → a + length bytes ≤ 2 ^ 64 → put_bytes memory a bytes ≡ Some m → (c < a) ⊎ (a + length bytes ≤ c) → byte_at m c ≡ byte_at memory c
kept memory m a c [] l e out = ap (λ (m : Memory). byte_at m c) (sym (put_no_bytes memory m a e))
kept memory m a c (x ∷ bytes) l e out = kept_by memory m a a c (x ∷ bytes) (omega arith) l e out

pub put : (memory m : Memory) (a i : ℕ) (bytes : List ℕ) → IsMemory memory → All (λ b. b < 256) bytes → a + length bytes ≤ 2 ^ 64 → put_bytes memory a bytes ≡ Some m → i < length bytes → byte_at m (a + i) ≡ Some (slice_index bytes i)
put memory m a i bytes is small l e h = put_bytes_at_residue memory m a a i bytes is small (omega arith) l e h

-- ---- where bytes are put

abbrev AllMapped : Memory → ℕ → List ℕ → Type 0
AllMapped memory a bytes = (i : ℕ) → i < length bytes → can_read memory (a + i) ≡ true

to_mapped : (memory : Memory) (a b : ℕ) (bytes : List ℕ) → b ≡ a % 2 ^ 64 → a + length bytes ≤ 2 ^ 64 → IsSome (put_bytes memory b bytes) → AllMapped memory a bytes
unfolding put_bytes
to_mapped memory a b [] low l some = λ i h. absurd (omega arith)
to_mapped memory a b (x ∷ bytes) low l some =
    let next : next_address b ≡ (a + 1) % 2 ^ 64 = omega arith in
    go (can_read memory b) refl (to_mapped (put_byte memory b x) (a + 1) (next_address b) bytes next (omega arith))
  where
    go : (t : Bool) → can_read memory b ≡ t → (IsSome (put_bytes (put_byte memory b x) (next_address b) bytes) → AllMapped (put_byte memory b x) (a + 1) bytes) → AllMapped memory a (x ∷ bytes)
    go false r rest i h = let no : false ≡ true = ap is_some (sym (cond-false _ _ _ r)) ∙ some in cc
    go true r rest zero h = let at : a + zero ≡ b = omega arith in ap (can_read memory) at ∙ r
    go true r rest (suc i) h =
        let at : a + suc i ≡ a + 1 + i = omega arith in
        ap (can_read memory) at ∙ sym (can_read-put_byte memory b x (a + 1 + i)) ∙ rest (ap is_some (sym (cond-true _ _ _ r)) ∙ some) i (omega arith)

from_mapped : (memory : Memory) (a b : ℕ) (bytes : List ℕ) → b ≡ a % 2 ^ 64 → a + length bytes ≤ 2 ^ 64 → AllMapped memory a bytes → IsSome (put_bytes memory b bytes)
unfolding put_bytes
from_mapped memory a b [] low l each = refl
from_mapped memory a b (x ∷ bytes) low l each =
    let at : b ≡ a + 0 = omega arith in
    let next : next_address b ≡ (a + 1) % 2 ^ 64 = omega arith in
    let here = ap (can_read memory) at ∙ each 0 (omega arith) in
    ap is_some (cond-true _ _ _ here)
    ∙ from_mapped (put_byte memory b x) (a + 1) (next_address b) bytes next (omega arith) (λ i h. later i h)
  where
    later : (i : ℕ) → i < length bytes → can_read (put_byte memory b x) (a + 1 + i) ≡ true
    later i h =
        let at : a + 1 + i ≡ a + suc i = omega arith in
        can_read-put_byte memory b x (a + 1 + i) ∙ ap (can_read memory) at ∙ each (suc i) (omega arith)

pub mapped : (memory : Memory) (a : ℕ) (bytes : List ℕ) → a + length bytes ≤ 2 ^ 64 → IsSome (put_bytes memory a bytes) ↔ AllMapped memory a bytes
unfolding put_bytes
mapped memory a [] l = (λ some i h. absurd (omega arith), λ each. refl)
mapped memory a (x ∷ bytes) l = (to_mapped memory a a (x ∷ bytes) (omega arith) l, from_mapped memory a a (x ∷ bytes) (omega arith) l)

-- ---- pages of zeros

pub zero_byte : (pages : Memory) (perm : Perm) (first size a : ℕ) → first + size ≤ 2 ^ 36 → DoNotMeet pages (zero_pages perm first size) → 4096 * first ≤ a → a < 4096 * (first + size) → byte_at (merged pages (zero_pages perm first size)) a ≡ Some 0
zero_byte pages perm first size a range not_met low high =
    let zeros = zero_pages perm first size in
    let i = a / 4096 - first in
    let d = zero_page perm 0 in
    let inside : i < size = omega arith in
    let number : first + i ≡ a / 4096 = omega arith in
    let page = get_zero perm first size i d inside in
    let here : (get_or zeros i d).page ≡ a / 4096 = ap (λ (p : Page). p.page) page ∙ number in
    let found : page_at zeros (a / 4096) ≡ Some (zero_page perm (first + i)) =
    page_at-place zeros i (a / 4096) d (are_memory perm first size range) (omega (arith, count perm first size)) here ∙ ap Some page in
    ap (option_map (λ p. byte_of p a)) (page_at-merged_right pages zeros (a / 4096) (zero_page perm (first + i)) not_met found)
    ∙ ap Some (get_or-replicate {A = ℕ} 4096 (a % 4096) 0 0 (omega arith))

no_zero : (perm : Perm) (first size n : ℕ) → (n < first) ⊎ (first + size ≤ n) → page_at (zero_pages perm first size) n ≡ None
no_zero perm first size n out = page_at-absent (zero_pages perm first size) n (λ k d l e. apart out k d l e)
  where
    apart : (n < first) ⊎ (first + size ≤ n) → (k : ℕ) (d : Page) → k < length (zero_pages perm first size) → (get_or (zero_pages perm first size) k d).page ≢ n
    apart (inl low) k d l e =
        let here = ap (λ (p : Page). p.page) (get_zero perm first size k d (omega (arith, l, count perm first size))) in
        omega (arith, here, e)
    apart (inr high) k d l e =
        let here = ap (λ (p : Page). p.page) (get_zero perm first size k d (omega (arith, l, count perm first size))) in
        omega (arith, here, e, l, count perm first size)

first_alone : (x y : Option Page) → y ≡ None → option_or x y ≡ x
first_alone (Some p) y e = refl
first_alone None y e = e

pub kept_byte : (pages : Memory) (perm : Perm) (first size a : ℕ) → DoNotMeet pages (zero_pages perm first size) → (a < 4096 * first) ⊎ (4096 * (first + size) ≤ a) → byte_at (merged pages (zero_pages perm first size)) a ≡ byte_at pages a
kept_byte pages perm first size a not_met out =
    let zeros = zero_pages perm first size in
    ap (option_map (λ p. byte_of p a))
    (page_at-merged pages zeros (a / 4096) not_met ∙ first_alone (page_at pages (a / 4096)) (page_at zeros (a / 4096)) (no_zero perm first size (a / 4096) (outside out)))
  where
    outside : (a < 4096 * first) ⊎ (4096 * (first + size) ≤ a) → (a / 4096 < first) ⊎ (first + size ≤ a / 4096)
    outside (inl low) = inl (omega arith)
    outside (inr high) = inr (omega arith)
