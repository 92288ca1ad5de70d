-- Lists of drawn bytes and of pages, one longer; and that the pages of a sweep are a memory.
use Rattle.std.proofs.Common.{◌≡◌, ℕ, zero, suc, ◌+◌, ◌*◌, ◌%◌, List, [], ◌∷◌, ◌++◌, length, replicate, refl, ap, ◌∙◌, arith, length-append}
use Rattle.guest_types.specs.Memory.{Memory, byte_or_zero}
use Rattle.sweep_kernel.specs.Numbers.{random}
use Rattle.sweep_kernel.specs.Pages.{page_with, low_bytes, drawn_page, zero_page, pages_from, sum_from}

low_bytes_suc : (seed j n : ℕ) → low_bytes seed j (suc n) ≡ low_bytes seed j n ++ random seed (j + n) % 256 ∷ []
unfolding low_bytes
low_bytes_suc seed j n = refl

pub low_bytes_none : (seed j : ℕ) → low_bytes seed j 0 ≡ []
unfolding low_bytes
low_bytes_none seed j = refl

pub low_bytes_more : (seed j n : ℕ) → low_bytes seed j (n + 1) ≡ low_bytes seed j n ++ random seed (j + n) % 256 ∷ []
low_bytes_more seed j n =
    let e : n + 1 ≡ suc n = omega arith in
    ap (low_bytes seed j) e ∙ low_bytes_suc seed j n

pages_from_suc : (first : ℕ) (bytes : ℕ → List ℕ) (n : ℕ) → pages_from first bytes (suc n) ≡ pages_from first bytes n ++ page_with (first + n) (bytes n) ∷ []
unfolding pages_from
pages_from_suc first bytes n = refl

pub pages_from_none : (first : ℕ) (bytes : ℕ → List ℕ) → pages_from first bytes 0 ≡ []
unfolding pages_from
pages_from_none first bytes = refl

pub pages_from_more : (first : ℕ) (bytes : ℕ → List ℕ) (n : ℕ) → pages_from first bytes (n + 1) ≡ pages_from first bytes n ++ page_with (first + n) (bytes n) ∷ []
pages_from_more first bytes n =
    let e : n + 1 ≡ suc n = omega arith in
    ap (pages_from first bytes) e ∙ pages_from_suc first bytes n

pub length_low_bytes : (seed j n : ℕ) → length (low_bytes seed j n) ≡ n
unfolding low_bytes
length_low_bytes seed j zero = refl
length_low_bytes seed j (suc n) =
    let i = length_low_bytes seed j n in
    omega (arith, i, length-append (low_bytes seed j n) (random seed (j + n) % 256 ∷ []))

pub drawn_page-is : (seed j p : ℕ) → drawn_page seed j p ≡ low_bytes seed (j + 4096 * p) 4096
unfolding drawn_page
drawn_page-is seed j p = refl

pub zero_page-is : (p : ℕ) → zero_page p ≡ replicate 4096 0
unfolding zero_page
zero_page-is p = refl

sum_from_suc : (memory : Memory) (address n : ℕ) → sum_from memory address (suc n) ≡ sum_from memory address n + byte_or_zero memory (address + n)
unfolding sum_from
sum_from_suc memory address n = refl

pub sum_from_none : (memory : Memory) (address : ℕ) → sum_from memory address 0 ≡ 0
unfolding sum_from
sum_from_none memory address = refl

pub sum_from_more : (memory : Memory) (address n : ℕ) → sum_from memory address (n + 1) ≡ sum_from memory address n + byte_or_zero memory (address + n)
sum_from_more memory address n =
    let e : n + 1 ≡ suc n = omega arith in
    ap (sum_from memory address) e ∙ sum_from_suc memory address n
