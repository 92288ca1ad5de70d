-- What a number written changes, and what it leaves.
use Rattle.std.proofs.Common.{◌≡◌, ◌≢◌, ℕ, zero, suc, ◌+◌, ◌*◌, ◌/◌, ◌%◌, ◌^◌, ◌<◌, Bool, true, false, cond, Option, Some, None, Result, Ok, Err, refl, sym, ap, ap₂, ◌∙◌, subst, arith}
use Rattle.std.specs.Prelude.{is_some, nat_eq, option_map, option_and_then, unwrap_or, if◌then◌else◌}
use Rattle.std.proofs.lemmas.Bool.{cond-true, cond-false, eqb-true}
use Rattle.std.proofs.Math.Nat.{pow-suc}
use Rattle.guest_types.specs.declared.memory.AccessFault.{AccessFault}
use Rattle.guest_types.specs.declared.memory.Perm.{Perm}
use Rattle.guest_types.specs.declared.memory.Perm.TheVariants.{Read}
use Rattle.guest_types.specs.Memory.{Page, Memory, IsPage, IsMemory, page_at, put_byte, with_byte, put_number, byte_at, number_at, next_address, first_fault, can_read, can_write, may_write, is_writable, is_executable, loaded, stored, fetched, Disjoint, byte_or_zero, byte_of}
use Rattle.guest_types.proofs.Writes.{after_write, page_at-put_byte, byte_at-put_byte_other, can_read-put_byte, can_write-put_byte, IsMemory-put_byte, put_byte-put_byte_other, All-page_at, page_at-number}

-- ---- addresses apart

-- a is none of the k addresses from c on
abbrev pub Misses : (a c k : ℕ) → Type 0
Misses a c zero = Unit {0}
Misses a c (suc k) = (c ≢ a) × Misses a (next_address c) k

-- nor is any of the n addresses from a on
abbrev pub AllMiss : (a n c k : ℕ) → Type 0
AllMiss a zero c k = Unit {0}
AllMiss a (suc n) c k = Misses a c k × AllMiss (next_address a) n c k

Misses-from : (a c k : ℕ) → c < 2 ^ 64 → ((j : ℕ) → j < k → a ≢ (c + j) % 2 ^ 64) → Misses a c k
Misses-from a c zero low h = tt
Misses-from a c (suc k) low h =
    (λ e. h 0 (omega arith) (omega arith), Misses-from a (next_address c) k (omega arith) (λ j l e. h (suc j) (omega arith) (omega arith)))

AllMiss-from : (a n c k : ℕ) → a < 2 ^ 64 → c < 2 ^ 64 → Disjoint a n c k → AllMiss a n c k
AllMiss-from a zero c k la lc h = tt
AllMiss-from a (suc n) c k la lc h =
    (Misses-from a c k lc (λ j l e. h 0 j (omega arith) l (omega arith)), AllMiss-from (next_address a) n c k (omega arith) lc (λ i j li lj e. h (suc i) j (omega arith) lj (omega arith)))

-- ---- faults

pub first_fault-ext : (f g : ℕ → Bool) (a n : ℕ) → ((c : ℕ) → f c ≡ g c) → first_fault f a n ≡ first_fault g a n
first_fault-ext f g a zero same = refl
first_fault-ext f g a (suc n) same = ap₂ (λ t r. cond t r (Some a)) (same a) (first_fault-ext f g (next_address a) n same)

pub can_read-put_number : (memory : Memory) (a n v c : ℕ) → can_read (put_number memory a n v) c ≡ can_read memory c
can_read-put_number memory a zero v c = refl
can_read-put_number memory a (suc n) v c = can_read-put_number (put_byte memory a (v % 256)) (next_address a) n (v / 256) c ∙ can_read-put_byte memory a (v % 256) c

pub can_write-put_number : (memory : Memory) (a n v c : ℕ) → can_write (put_number memory a n v) c ≡ can_write memory c
can_write-put_number memory a zero v c = refl
can_write-put_number memory a (suc n) v c = can_write-put_number (put_byte memory a (v % 256)) (next_address a) n (v / 256) c ∙ can_write-put_byte memory a (v % 256) c

pub IsMemory-put_number : (memory : Memory) (a n v : ℕ) → IsMemory memory → IsMemory (put_number memory a n v)
IsMemory-put_number memory a zero v is = is
IsMemory-put_number memory a (suc n) v is = IsMemory-put_number (put_byte memory a (v % 256)) (next_address a) n (v / 256) (IsMemory-put_byte memory a (v % 256) is (omega arith))

-- a store is done exactly where each byte is writable
stored_cases : (memory m : Memory) (a n v : ℕ) (o : Option ℕ) → elim o as (λ _. Result Memory AccessFault) [ None ↦ Ok (put_number memory a n v) | Some fault ↦ Err (record { address = fault; write = true }) ] ≡ Ok m → (o ≡ None) × (m ≡ put_number memory a n v)
stored_cases memory m a n v None h = (refl, cc)
stored_cases memory m a n v (Some f) h = cc

pub stored-Ok : (memory m : Memory) (a n v : ℕ) → stored memory a n v ≡ Ok m → (first_fault (can_write memory) a n ≡ None) × (m ≡ put_number memory a n v)
stored-Ok memory m a n v h = stored_cases memory m a n v (first_fault (can_write memory) a n) h

pub stored-done : (memory : Memory) (a n v : ℕ) → first_fault (can_write memory) a n ≡ None → stored memory a n v ≡ Ok (put_number memory a n v)
stored-done memory a n v h = ap (λ o. elim o as (λ _. Result Memory AccessFault) [ None ↦ Ok (put_number memory a n v) | Some fault ↦ Err (record { address = fault; write = true }) ]) h

-- a store leaves permissions, and so each fault, alone
pub can_read-stored : (memory m : Memory) (a n v c : ℕ) → stored memory a n v ≡ Ok m → can_read m c ≡ can_read memory c
can_read-stored memory m a n v c h = ap (λ m. can_read m c) (stored-Ok memory m a n v h).1 ∙ can_read-put_number memory a n v c

pub can_write-stored : (memory m : Memory) (a n v c : ℕ) → stored memory a n v ≡ Ok m → can_write m c ≡ can_write memory c
can_write-stored memory m a n v c h = ap (λ m. can_write m c) (stored-Ok memory m a n v h).1 ∙ can_write-put_number memory a n v c

pub IsMemory-stored : (memory m : Memory) (a n v : ℕ) → stored memory a n v ≡ Ok m → IsMemory memory → IsMemory m
IsMemory-stored memory m a n v h is = subst IsMemory (sym (stored-Ok memory m a n v h).1) (IsMemory-put_number memory a n v is)

pub read_faults-stored : (memory m : Memory) (a n v c k : ℕ) → stored memory a n v ≡ Ok m → first_fault (can_read m) c k ≡ first_fault (can_read memory) c k
read_faults-stored memory m a n v c k h = first_fault-ext (can_read m) (can_read memory) c k (λ x. can_read-stored memory m a n v x h)

pub write_faults-stored : (memory m : Memory) (a n v c k : ℕ) → stored memory a n v ≡ Ok m → first_fault (can_write m) c k ≡ first_fault (can_write memory) c k
write_faults-stored memory m a n v c k h = first_fault-ext (can_write m) (can_write memory) c k (λ x. can_write-stored memory m a n v x h)

-- ---- reads of other bytes

number_at-put_byte : (memory : Memory) (a b c k : ℕ) → Misses a c k → number_at (put_byte memory a b) c k ≡ number_at memory c k
number_at-put_byte memory a b c zero h = refl
number_at-put_byte memory a b c (suc k) h =
    ap₂ (λ low rest. low + 256 * rest) (ap (λ o. unwrap_or o 0) (byte_at-put_byte_other memory a b c h.0)) (number_at-put_byte memory a b (next_address c) k h.1)

number_at-apart : (memory : Memory) (a n v c k : ℕ) → AllMiss a n c k → number_at (put_number memory a n v) c k ≡ number_at memory c k
number_at-apart memory a zero v c k h = refl
number_at-apart memory a (suc n) v c k h =
    number_at-apart (put_byte memory a (v % 256)) (next_address a) n (v / 256) c k h.1 ∙ number_at-put_byte memory a (v % 256) c k h.0

-- the number of other bytes stays
pub number_at-put_number_other : (memory : Memory) (a n v c k : ℕ) → a < 2 ^ 64 → c < 2 ^ 64 → Disjoint a n c k → number_at (put_number memory a n v) c k ≡ number_at memory c k
number_at-put_number_other memory a n v c k la lc h = number_at-apart memory a n v c k (AllMiss-from a n c k la lc h)

-- a load of other bytes than those of a store gives what it gave
pub loaded-stored : (memory m : Memory) (a n v c k : ℕ) → a < 2 ^ 64 → c < 2 ^ 64 → Disjoint a n c k → stored memory a n v ≡ Ok m → loaded m c k ≡ loaded memory c k
loaded-stored memory m a n v c k la lc apart h =
    ap₂ (λ o x. elim o as (λ _. Result ℕ AccessFault) [ None ↦ Ok x | Some fault ↦ Err (record { address = fault; write = false }) ])
    (read_faults-stored memory m a n v c k h)
    (ap (λ m. number_at m c k) (stored-Ok memory m a n v h).1 ∙ number_at-put_number_other memory a n v c k la lc apart)

-- ---- two numbers written

put_number-put_byte : (memory : Memory) (a b c k w : ℕ) → Misses a c k → put_number (put_byte memory a b) c k w ≡ put_byte (put_number memory c k w) a b
put_number-put_byte memory a b c zero w h = refl
put_number-put_byte memory a b c (suc k) w h =
    ap (λ m. put_number m (next_address c) k (w / 256)) (put_byte-put_byte_other memory a b c (w % 256) (λ e. h.0 (sym e)))
    ∙ put_number-put_byte (put_byte memory c (w % 256)) a b (next_address c) k (w / 256) h.1

put_number-apart : (memory : Memory) (a n v c k w : ℕ) → AllMiss a n c k → put_number (put_number memory a n v) c k w ≡ put_number (put_number memory c k w) a n v
put_number-apart memory a zero v c k w h = refl
put_number-apart memory a (suc n) v c k w h =
    put_number-apart (put_byte memory a (v % 256)) (next_address a) n (v / 256) c k w h.1
    ∙ ap (λ m. put_number m (next_address a) n (v / 256)) (put_number-put_byte memory a (v % 256) c k w h.0)

-- two writes of different bytes commute
pub put_number-put_number_other : (memory : Memory) (a n v c k w : ℕ) → a < 2 ^ 64 → c < 2 ^ 64 → Disjoint a n c k → put_number (put_number memory a n v) c k w ≡ put_number (put_number memory c k w) a n v
put_number-put_number_other memory a n v c k w la lc h = put_number-apart memory a n v c k w (AllMiss-from a n c k la lc h)

-- two stores to different bytes commute: done in the other order they are done too, and leave the same memory
pub stored-stored : (memory m both : Memory) (a n v c k w : ℕ) → a < 2 ^ 64 → c < 2 ^ 64 → Disjoint a n c k → stored memory a n v ≡ Ok m → stored m c k w ≡ Ok both → (other : Memory) × (stored memory c k w ≡ Ok other) × (stored other a n v ≡ Ok both)
stored-stored memory m both a n v c k w la lc apart first second =
    let one = stored-Ok memory m a n v first in
    let two = stored-Ok m both c k w second in
    let other = put_number memory c k w in
    let done : stored memory c k w ≡ Ok other = stored-done memory c k w (sym (write_faults-stored memory m a n v c k first) ∙ two.0) in
    let faults : first_fault (can_write other) a n ≡ None = write_faults-stored memory other c k w a n done ∙ one.0 in
    let same : put_number other a n v ≡ both =
    sym (put_number-put_number_other memory a n v c k w la lc apart) ∙ ap (λ m. put_number m c k w) (sym one.1) ∙ sym two.1 in
    (other, done, stored-done other a n v faults ∙ ap Ok same)

-- ---- the number that was written

byte_at-apart : (memory : Memory) (a n v c : ℕ) → AllMiss a n c 1 → byte_at (put_number memory a n v) c ≡ byte_at memory c
byte_at-apart memory a zero v c h = refl
byte_at-apart memory a (suc n) v c h =
    byte_at-apart (put_byte memory a (v % 256)) (next_address a) n (v / 256) c h.1 ∙ byte_at-put_byte_other memory a (v % 256) c h.0.0

-- a byte that none of the bytes written is stays
pub byte_at-put_number_other : (memory : Memory) (a n v c : ℕ) → a < 2 ^ 64 → c < 2 ^ 64 → Disjoint a n c 1 → byte_at (put_number memory a n v) c ≡ byte_at memory c
byte_at-put_number_other memory a n v c la lc h = byte_at-apart memory a n v c (AllMiss-from a n c 1 la lc h)

-- what is writable is readable
reads_where_written : (o : Option Page) → may_write o ≡ true → is_some o ≡ true
reads_where_written None h = cc
reads_where_written (Some p) h = refl

pub read_where_written : (memory : Memory) (a n : ℕ) → first_fault (can_write memory) a n ≡ None → first_fault (can_read memory) a n ≡ None
read_where_written memory a zero h = refl
read_where_written memory a (suc n) h = go (can_write memory a) refl h (read_where_written memory (next_address a) n)
  where
    go : (t : Bool) → can_write memory a ≡ t → cond t (first_fault (can_write memory) (next_address a) n) (Some a) ≡ None → (first_fault (can_write memory) (next_address a) n ≡ None → first_fault (can_read memory) (next_address a) n ≡ None) → first_fault (can_read memory) a (suc n) ≡ None
    go false e h rest = cc
    go true e h rest = cond-true _ _ _ (reads_where_written (page_at memory (a / 4096)) e) ∙ rest h

-- ---- fetching

not_both : (p : Perm) → is_writable p ≡ true → is_executable p ≡ true → ⊥
not_both Read w x = cc
not_both other w x = cc

misses_word : (a pc : ℕ) → pc < 2 ^ 64 → pc % 4 ≡ 0 → pc / 4096 ≢ a / 4096 → Misses a pc 4
misses_word a pc low whole ne =
    Misses-from a pc 4 low (λ j l e. ne (omega arith))

abbrev word_of : Memory → ℕ → Option Page → Option ℕ
word_of memory pc o = option_and_then (λ page. if is_executable page.perm then Some (number_at memory pc 4) else None) o

word_kept : (memory : Memory) (a b pc : ℕ) (p : Page) (t : Bool) → is_executable p.perm ≡ t → (t ≡ true → number_at (put_byte memory a b) pc 4 ≡ number_at memory pc 4) → cond (is_executable p.perm) (Some (number_at (put_byte memory a b) pc 4)) None ≡ cond (is_executable p.perm) (Some (number_at memory pc 4)) None
word_kept memory a b pc p true e same = ap (λ w. cond (is_executable p.perm) (Some w) None) (same refl)
word_kept memory a b pc p false e same = cond-false _ _ _ e ∙ sym (cond-false _ _ _ e)

same_perm : (t : Bool) (p : Page) (a b : ℕ) → (cond t (with_byte p a b) p).perm ≡ p.perm
same_perm true p a b = refl
same_perm false p a b = refl

word_after : (memory : Memory) (a b pc : ℕ) (o : Option Page) → page_at memory (pc / 4096) ≡ o → pc < 2 ^ 64 → pc % 4 ≡ 0 → may_write (page_at memory (a / 4096)) ≡ true → word_of (put_byte memory a b) pc (option_map (after_write a b (pc / 4096)) o) ≡ word_of memory pc o
word_after memory a b pc None found low whole writable = refl
word_after memory a b pc (Some p) found low whole writable =
    ap (λ q. cond (is_executable q) (Some (number_at (put_byte memory a b) pc 4)) None) (same_perm (nat_eq (pc / 4096) (a / 4096)) p a b)
    ∙ word_kept memory a b pc p (is_executable p.perm) refl (λ runs. number_at-put_byte memory a b pc 4 (misses_word a pc low whole (λ e.
    not_both p.perm (let w : may_write (Some p) ≡ true = ap may_write (sym found ∙ ap (page_at memory) e) ∙ writable in w) runs)))

fetched-put_byte : (memory : Memory) (a b pc : ℕ) → pc < 2 ^ 64 → can_write memory a ≡ true → fetched (put_byte memory a b) pc ≡ fetched memory pc
fetched-put_byte memory a b pc low writable = go (nat_eq (pc % 4) 0) refl
  where
    go : (t : Bool) → nat_eq (pc % 4) 0 ≡ t → fetched (put_byte memory a b) pc ≡ fetched memory pc
    go false e = cond-false _ _ _ e ∙ sym (cond-false _ _ _ e)
    go true e =
        let whole : pc % 4 ≡ 0 = eqb-true (pc % 4) 0 e in
        ap (λ o. cond (nat_eq (pc % 4) 0) o None)
        (ap (word_of (put_byte memory a b) pc) (page_at-put_byte memory a b (pc / 4096)) ∙ word_after memory a b pc (page_at memory (pc / 4096)) refl low whole writable)

pub fetched-put_number : (memory : Memory) (a n v pc : ℕ) → pc < 2 ^ 64 → first_fault (can_write memory) a n ≡ None → fetched (put_number memory a n v) pc ≡ fetched memory pc
fetched-put_number memory a zero v pc low writable = refl
fetched-put_number memory a (suc n) v pc low writable = go (can_write memory a) refl writable (fetched-put_number (put_byte memory a (v % 256)) (next_address a) n (v / 256) pc low)
  where
    go : (t : Bool) → can_write memory a ≡ t → cond t (first_fault (can_write memory) (next_address a) n) (Some a) ≡ None → (first_fault (can_write (put_byte memory a (v % 256))) (next_address a) n ≡ None → fetched (put_number (put_byte memory a (v % 256)) (next_address a) n (v / 256)) pc ≡ fetched (put_byte memory a (v % 256)) pc) → fetched (put_number memory a (suc n) v) pc ≡ fetched memory pc
    go false e writable rest = cc
    go true e writable rest =
        rest (first_fault-ext (can_write (put_byte memory a (v % 256))) (can_write memory) (next_address a) n (λ c. can_write-put_byte memory a (v % 256) c) ∙ writable)
        ∙ fetched-put_byte memory a (v % 256) pc low e

-- a store leaves the words of executable pages alone
pub fetched-stored : (memory m : Memory) (a n v pc : ℕ) → pc < 2 ^ 64 → stored memory a n v ≡ Ok m → fetched m pc ≡ fetched memory pc
fetched-stored memory m a n v pc low h =
    ap (λ m. fetched m pc) (stored-Ok memory m a n v h).1 ∙ fetched-put_number memory a n v pc low (stored-Ok memory m a n v h).0

-- ---- bounds

-- a mapped address is below 2^48
pub can_read-below : (memory : Memory) (a : ℕ) → IsMemory memory → can_read memory a ≡ true → a < 2 ^ 48
can_read-below memory a is readable = go (page_at memory (a / 4096)) refl
  where
    go : (o : Option Page) → page_at memory (a / 4096) ≡ o → a < 2 ^ 48
    go None found = let clash : false ≡ true = sym (ap is_some found) ∙ readable in cc
    go (Some p) found =
        let below = (All-page_at IsPage memory (a / 4096) p is.pages found).below in
        omega (arith, below, page_at-number memory (a / 4096) p found)

pub byte_or_zero-below : (memory : Memory) (a : ℕ) → IsMemory memory → byte_or_zero memory a < 256
byte_or_zero-below memory a is = go (page_at memory (a / 4096)) refl
  where
    go : (o : Option Page) → page_at memory (a / 4096) ≡ o → byte_or_zero memory a < 256
    go None found = subst (λ b. b < 256) (ap (λ o. unwrap_or (option_map (λ page. byte_of page a) o) 0) (sym found)) (omega arith)
    go (Some p) found =
        let page = All-page_at IsPage memory (a / 4096) p is.pages found in
        subst (λ b. b < 256) (ap (λ o. unwrap_or (option_map (λ page. byte_of page a) o) 0) (sym found)) (page.small (a % 4096) 0 (omega (arith, page.whole)))

-- a number of n bytes
pub number_at-below : (memory : Memory) (a n : ℕ) → IsMemory memory → number_at memory a n < 256 ^ n
number_at-below memory a zero is = omega arith
number_at-below memory a (suc n) is =
    omega (arith, pow-suc 256 n, byte_or_zero-below memory a is, number_at-below memory (next_address a) n is)

loaded_cases : (memory : Memory) (a n v : ℕ) (o : Option ℕ) → elim o as (λ _. Result ℕ AccessFault) [ None ↦ Ok (number_at memory a n) | Some fault ↦ Err (record { address = fault; write = false }) ] ≡ Ok v → (o ≡ None) × (v ≡ number_at memory a n)
loaded_cases memory a n v None h = (refl, cc)
loaded_cases memory a n v (Some f) h = cc

-- a load is done exactly where each byte is readable
pub loaded-Ok : (memory : Memory) (a n v : ℕ) → loaded memory a n ≡ Ok v → (first_fault (can_read memory) a n ≡ None) × (v ≡ number_at memory a n)
loaded-Ok memory a n v h = loaded_cases memory a n v (first_fault (can_read memory) a n) h

pub loaded-done : (memory : Memory) (a n : ℕ) → first_fault (can_read memory) a n ≡ None → loaded memory a n ≡ Ok (number_at memory a n)
loaded-done memory a n h = ap (λ o. elim o as (λ _. Result ℕ AccessFault) [ None ↦ Ok (number_at memory a n) | Some fault ↦ Err (record { address = fault; write = false }) ]) h

-- where a byte is not readable, or not writable, the access is refused with the first such byte's address
pub loaded-fault : (memory : Memory) (a n f : ℕ) → first_fault (can_read memory) a n ≡ Some f → loaded memory a n ≡ Err (record { address = f; write = false })
loaded-fault memory a n f h = ap (λ o. elim o as (λ _. Result ℕ AccessFault) [ None ↦ Ok (number_at memory a n) | Some fault ↦ Err (record { address = fault; write = false }) ]) h

pub loaded-below : (memory : Memory) (a n v : ℕ) → IsMemory memory → loaded memory a n ≡ Ok v → v < 256 ^ n
loaded-below memory a n v is h = subst (λ x. x < 256 ^ n) (sym (loaded-Ok memory a n v h).1) (number_at-below memory a n is)
