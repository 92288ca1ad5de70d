-- The arrays of a sweep are mapped, and stay so.
use Rattle.std.proofs.Common.{◌≡◌, ℕ, zero, suc, ◌+◌, ◌/◌, ◌<◌, ◌≤◌, ◌^◌, Bool, true, List, [], ◌∷◌, ◌++◌, Option, Some, None, refl, ap, ◌∙◌, arith, inl, inr}
use Rattle.std.specs.List.{All}
use Rattle.std.specs.Option.{option_or}
use Rattle.std.proofs.Math.Nat.{mod-eq_of_lt}
use Rattle.std.proofs.lemmas.Bool.{eq-eqb}
use Rattle.std.proofs.lemmas.Bool.Decides.{leb_tells}
use Rattle.std.proofs.lemmas.List.Elements.{All-nil, All-cons, All-append}
use Rattle.guest_types.specs.Memory.{Page, Memory, page_at, is_writable, may_write, can_write, next_address, first_fault, merged, DoNotMeet}
use Rattle.guest_types.proofs.Writes.{All-page_at}
use Rattle.guest_types.proofs.Merges.{page_at-append, page_at-merged_right}
use Rattle.sweep_kernel.specs.Pages.{page_with, drawn_page, zero_page, pages_from, pages_of}

-- ---- pages that may be written

abbrev MayWrite : Page → Type 0
MayWrite p = is_writable p.perm ≡ true

all_may : (first : ℕ) (bytes : ℕ → List ℕ) (n : ℕ) → All MayWrite (pages_from first bytes n)
unfolding pages_from
all_may first bytes zero = All-nil MayWrite
all_may first bytes (suc n) =
    All-append MayWrite (pages_from first bytes n) (page_with (first + n) (bytes n) ∷ []) (all_may first bytes n)
    (All-cons MayWrite (page_with (first + n) (bytes n)) [] refl (All-nil MayWrite))

front_may : (x y : Option Page) → may_write x ≡ true → may_write (option_or x y) ≡ true
front_may (Some p) y h = h
front_may None y h = absurd cc

back_may : (x y : Option Page) → ((p : Page) → x ≡ Some p → is_writable p.perm ≡ true) → may_write y ≡ true → may_write (option_or x y) ≡ true
back_may (Some p) y each h = each p refl
back_may None y each h = h

in_front : (memory more : Memory) (k : ℕ) → may_write (page_at memory k) ≡ true → may_write (page_at (memory ++ more) k) ≡ true
in_front memory more k h = ap may_write (page_at-append memory more k) ∙ front_may (page_at memory k) (page_at more k) h

in_back : (memory more : Memory) (k : ℕ) → All MayWrite memory → may_write (page_at more k) ≡ true → may_write (page_at (memory ++ more) k) ≡ true
in_back memory more k all h =
    ap may_write (page_at-append memory more k)
    ∙ back_may (page_at memory k) (page_at more k) (λ p e. All-page_at MayWrite memory k p all e) h

one_page : (k : ℕ) (bytes : List ℕ) (j : ℕ) → k ≡ j → may_write (page_at (page_with k bytes ∷ []) j) ≡ true
one_page k bytes j e = rw (eq-eqb k j e) refl

in_pages : (first : ℕ) (bytes : ℕ → List ℕ) (n k : ℕ) → first ≤ k → k < first + n → may_write (page_at (pages_from first bytes n) k) ≡ true
unfolding pages_from
in_pages first bytes zero k low high = absurd (omega arith)
in_pages first bytes (suc n) k low high =
    elim (leb_tells (suc k) (first + n)) [
      | inl t ↦ in_front (pages_from first bytes n) (page_with (first + n) (bytes n) ∷ []) k (in_pages first bytes n k low (omega (arith, t.1)))
      | inr f ↦ in_back (pages_from first bytes n) (page_with (first + n) (bytes n) ∷ []) k (all_may first bytes n) (one_page (first + n) (bytes n) k (omega (arith, f.1)))
    ]

-- ---- the pages of a seed

first_may : (seed k : ℕ) → 0x1000 ≤ k → k < 4146 → may_write (page_at (pages_of seed) k) ≡ true
unfolding pages_of
first_may seed k low high =
    in_front (pages_from 0x1000 (drawn_page seed 6) 50) (pages_from 0x2000 (drawn_page seed 204806) 25 ++ pages_from 0x3000 zero_page 100) k
    (in_pages 0x1000 (drawn_page seed 6) 50 k low (omega arith))

second_may : (seed k : ℕ) → 0x2000 ≤ k → k < 8217 → may_write (page_at (pages_of seed) k) ≡ true
unfolding pages_of
second_may seed k low high =
    in_back (pages_from 0x1000 (drawn_page seed 6) 50) (pages_from 0x2000 (drawn_page seed 204806) 25 ++ pages_from 0x3000 zero_page 100) k (all_may 0x1000 (drawn_page seed 6) 50)
    (in_front (pages_from 0x2000 (drawn_page seed 204806) 25) (pages_from 0x3000 zero_page 100) k
    (in_pages 0x2000 (drawn_page seed 204806) 25 k low (omega arith)))

third_may : (seed k : ℕ) → 0x3000 ≤ k → k < 12388 → may_write (page_at (pages_of seed) k) ≡ true
unfolding pages_of
third_may seed k low high =
    in_back (pages_from 0x1000 (drawn_page seed 6) 50) (pages_from 0x2000 (drawn_page seed 204806) 25 ++ pages_from 0x3000 zero_page 100) k (all_may 0x1000 (drawn_page seed 6) 50)
    (in_back (pages_from 0x2000 (drawn_page seed 204806) 25) (pages_from 0x3000 zero_page 100) k (all_may 0x2000 (drawn_page seed 204806) 25)
    (in_pages 0x3000 zero_page 100 k low (omega arith)))

-- ---- a memory with the three arrays

pub record HasArrays (memory : Memory) : Type 0 where
  pub first : (x : ℕ) → 0x1000000 ≤ x → x < 16982016 → can_write memory x ≡ true
  pub second : (x : ℕ) → 0x2000000 ≤ x → x < 33656832 → can_write memory x ≡ true
  pub third : (x : ℕ) → 0x3000000 ≤ x → x < 50741248 → can_write memory x ≡ true

beside : (program memory : Memory) (k : ℕ) (o : Option Page) → DoNotMeet program memory → page_at memory k ≡ o → may_write o ≡ true → may_write (page_at (merged program memory) k) ≡ true
beside program memory k None apart e h = absurd cc
beside program memory k (Some q) apart e h = ap may_write (page_at-merged_right program memory k q apart e) ∙ h

pub has_arrays : (program : Memory) (seed : ℕ) → DoNotMeet program (pages_of seed) → HasArrays (merged program (pages_of seed))
has_arrays program seed apart = record {
  first = λ x low high. beside program (pages_of seed) (x / 4096) (page_at (pages_of seed) (x / 4096)) apart refl (first_may seed (x / 4096) (omega arith) (omega arith));
  second = λ x low high. beside program (pages_of seed) (x / 4096) (page_at (pages_of seed) (x / 4096)) apart refl (second_may seed (x / 4096) (omega arith) (omega arith));
  third = λ x low high. beside program (pages_of seed) (x / 4096) (page_at (pages_of seed) (x / 4096)) apart refl (third_may seed (x / 4096) (omega arith) (omega arith));
}

-- ---- accesses

-- the bytes that an access comes to pass a test
pub no_fault : (test : ℕ → Bool) (low high a n : ℕ) → ((x : ℕ) → low ≤ x → x < high → test x ≡ true) → low ≤ a → a + n ≤ high → high < 2 ^ 64 → first_fault test a n ≡ None
no_fault test low high a zero h from last_use small = refl
no_fault test low high a (suc n) h from last_use small =
    let e : next_address a ≡ a + 1 = mod-eq_of_lt (omega arith) in
    rw (h a from (omega arith), e) (no_fault test low high (a + 1) n h (omega arith) (omega arith) small)
