-- Reads and writes within one page of a memory.
use Rattle.std.proofs.Common.{◌≡◌, ℕ, zero, suc, ◌+◌, ◌*◌, ◌/◌, ◌%◌, ◌^◌, ◌<◌, ◌≤◌, Bool, true, false, List, length, take, Some, None, Result, Ok, Err, refl, sym, ap, ap₂, ◌∙◌, arith}
use Rattle.std.specs.Prelude.{is_some, option_map, unwrap_or, slice_index}
use Rattle.std.proofs.lemmas.Bool.{cond-true}
use Rattle.std.proofs.lemmas.List.{drop_more}
use Rattle.guest_types.specs.declared.memory.AccessFault.{AccessFault}
use Rattle.guest_types.specs.Elements.{number_of_bytes}
use Rattle.guest_types.specs.Memory.{Page, Memory, page_at, byte_of, byte_or_zero, number_at, next_address, first_fault, can_read, can_write, may_write, is_writable, loaded}
use Rattle.paged_memory.specs.Numbers.{number_in}

-- the address after one that is not the last of its page
next : (a s : ℕ) → a < 2 ^ 64 → a % 4096 + suc (suc s) ≤ 4096 → (next_address a / 4096 ≡ a / 4096) × (next_address a % 4096 ≡ a % 4096 + 1) × (next_address a < 2 ^ 64)
next a s low fits = (omega arith, omega arith, omega arith)

byte-within : (m : Memory) (a : ℕ) (p : Page) → page_at m (a / 4096) ≡ Some p → byte_or_zero m a ≡ slice_index p.bytes (a % 4096)
byte-within m a p found = ap (λ o. unwrap_or (option_map (λ page. byte_of page a) o) 0) found

first-byte : (bs : List ℕ) (o s : ℕ) → o < length bs → slice_index bs o + 256 * number_in bs (o + 1) s ≡ number_in bs o (suc s)
unfolding number_in
first-byte bs o s l = sym (ap (λ bs. number_of_bytes (take (suc s) bs)) (drop_more bs o 0 l))

number-none : (bs : List ℕ) (o : ℕ) → 0 ≡ number_in bs o 0
unfolding number_in
number-none bs o = refl

pub number-within : (m : Memory) (a s : ℕ) (p : Page) → a < 2 ^ 64 → page_at m (a / 4096) ≡ Some p → length p.bytes ≡ 4096 → a % 4096 + s ≤ 4096 → number_at m a s ≡ number_in p.bytes (a % 4096) s
number-within m a zero p low found whole fits = number-none p.bytes (a % 4096)
number-within m a (suc zero) p low found whole fits =
    ap₂ (λ b r. b + 256 * r) (byte-within m a p found) (number-none p.bytes (a % 4096 + 1)) ∙ first-byte p.bytes (a % 4096) 0 (omega arith)
number-within m a (suc (suc s)) p low found whole fits =
    let n = next a s low fits in
    let rest = number-within m (next_address a) (suc s) p n.2 (ap (page_at m) n.0 ∙ found) whole (omega (arith, n.1)) in
    ap₂ (λ b r. b + 256 * r) (byte-within m a p found) (rest ∙ ap (λ o. number_in p.bytes o (suc s)) n.1) ∙ first-byte p.bytes (a % 4096) (suc s) (omega arith)

no_fault : (test : ℕ → Bool) (a s n : ℕ) → ((c : ℕ) → c / 4096 ≡ n → test c ≡ true) → a < 2 ^ 64 → a / 4096 ≡ n → a % 4096 + s ≤ 4096 → first_fault test a s ≡ None
no_fault test a zero n each low here fits = refl
no_fault test a (suc zero) n each low here fits = cond-true _ _ _ (each a here)
no_fault test a (suc (suc s)) n each low here fits =
    let next = next a s low fits in
    cond-true _ _ _ (each a here) ∙ no_fault test (next_address a) (suc s) n each next.2 (next.0 ∙ here) (omega (arith, next.1))

pub readable-within : (m : Memory) (a s : ℕ) (p : Page) → a < 2 ^ 64 → page_at m (a / 4096) ≡ Some p → a % 4096 + s ≤ 4096 → first_fault (can_read m) a s ≡ None
readable-within m a s p low found fits = no_fault (can_read m) a s (a / 4096) (λ c e. ap is_some (ap (page_at m) e ∙ found)) low refl fits

pub writable-within : (m : Memory) (a s : ℕ) (p : Page) → a < 2 ^ 64 → page_at m (a / 4096) ≡ Some p → is_writable p.perm ≡ true → a % 4096 + s ≤ 4096 → first_fault (can_write m) a s ≡ None
writable-within m a s p low found writable fits = no_fault (can_write m) a s (a / 4096) (λ c e. ap may_write (ap (page_at m) e ∙ found) ∙ writable) low refl fits

-- a load within a page is its number
pub loaded-within : (m : Memory) (a s : ℕ) (p : Page) → a < 2 ^ 64 → page_at m (a / 4096) ≡ Some p → length p.bytes ≡ 4096 → a % 4096 + s ≤ 4096 → loaded m a s ≡ Ok (number_in p.bytes (a % 4096) s)
loaded-within m a s p low found whole fits =
    ap₂ (λ o x. elim o as (λ _. Result ℕ AccessFault) [ None ↦ Ok x | Some fault ↦ Err (record { address = fault; write = false }) ])
    (readable-within m a s p low found fits)
    (number-within m a s p low found whole fits)
