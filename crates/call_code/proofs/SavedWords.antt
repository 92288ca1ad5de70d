-- Doublewords written one after another: what memory holds then, and what it keeps.
use Rattle.std.proofs.Common.{◌≡◌, ℕ, zero, suc, ◌+◌, ◌*◌, ◌/◌, ◌%◌, ◌^◌, ◌<◌, ◌≤◌, Bool, true, List, [], ◌∷◌, length, Some, None, refl, sym, ap, ap₂, ◌∙◌, arith}
use Rattle.std.specs.Prelude.{All, unwrap_or}
use Rattle.std.proofs.lemmas.Bool.{cond-true}
use Rattle.std.proofs.lemmas.List.Elements.{All-head, All-tail}
use Rattle.std.proofs.Math.Nat.{mod-eq_of_lt}
use Rattle.guest_types.specs.Elements.{number_of_bytes, bytes_of}
use Rattle.guest_types.specs.Memory.{Memory, IsMemory, byte_at, can_read, can_write, fetched, first_fault, next_address, number_at, put_byte, put_number, Disjoint}
use Rattle.guest_types.proofs.Numbers.{number-bytes_of}
use Rattle.guest_types.proofs.Stores.{can_read-put_number, can_write-put_number, IsMemory-put_number, byte_at-put_number_other, fetched-put_number}
use Rattle.guest_types.proofs.Writes.{byte_at-put_byte_same, IsMemory-put_byte, can_read-put_byte}
use Rattle.call_code.specs.Frame.{with_words}

-- ---- ranges of bytes

-- a test that holds of n bytes fails at none of them
pub none_faults : (test : ℕ → Bool) (a n : ℕ) → a + n ≤ 2 ^ 64 → ((x : ℕ) → a ≤ x → x < a + n → test x ≡ true) → first_fault test a n ≡ None
none_faults test a zero room h = refl
none_faults test a (suc zero) room h = cond-true _ _ _ (h a (omega arith) (omega arith))
none_faults test a (suc (suc n)) room h =
    let e : next_address a ≡ a + 1 = omega (arith, room) in
    cond-true _ _ _ (h a (omega arith) (omega arith))
    ∙ ap (λ c. first_fault test c (suc n)) e
    ∙ none_faults test (a + 1) (suc n) (omega (arith, room)) (λ x from until. h x (omega (arith, from)) (omega (arith, until)))

-- the number of bytes that are the same
pub doubleword_same : (m w : Memory) (a n : ℕ) → a + n ≤ 2 ^ 64 → ((x : ℕ) → a ≤ x → x < a + n → byte_at w x ≡ byte_at m x) → number_at w a n ≡ number_at m a n
doubleword_same m w a zero room h = refl
doubleword_same m w a (suc zero) room h = ap (λ o. unwrap_or o 0 + 256 * 0) (h a (omega arith) (omega arith))
doubleword_same m w a (suc (suc n)) room h =
    let e : next_address a ≡ a + 1 = omega (arith, room) in
    let rest : number_at w (next_address a) (suc n) ≡ number_at m (next_address a) (suc n) =
    ap (λ c. number_at w c (suc n)) e ∙ doubleword_same m w (a + 1) (suc n) (omega (arith, room)) (λ x from until. h x (omega (arith, from)) (omega (arith, until))) ∙ ap (λ c. number_at m c (suc n)) (sym e) in
    ap₂ (λ low high. low + 256 * high) (ap (λ o. unwrap_or o 0) (h a (omega arith) (omega arith))) rest

-- ---- one number written

pub below_apart : (a n c : ℕ) → a + n ≤ 2 ^ 64 → c < a → Disjoint a n c 1
below_apart a n c room lt i j hi hj e = let f = e in omega (arith, room, lt, hi, hj, f)

pub above_apart : (a n c : ℕ) → a + n ≤ c → c < 2 ^ 64 → Disjoint a n c 1
above_apart a n c le low i j hi hj e = let f = e in omega (arith, le, low, hi, hj, f)

-- what was written is read
number_written : (m : Memory) (a n v : ℕ) → IsMemory m → a + n < 2 ^ 64 → ((x : ℕ) → a ≤ x → x < a + n → can_read m x ≡ true) → number_at (put_number m a n v) a n ≡ number_of_bytes (bytes_of n v)
number_written m a zero v is room h = refl
number_written m a (suc n) v is room h =
    let e : next_address a ≡ a + 1 = omega (arith, room) in
    let first = put_byte m a (v % 256) in
    let small : v % 256 < 256 = omega arith in
    let low : byte_at (put_number first (next_address a) n (v / 256)) a ≡ Some (v % 256) =
    ap (λ c. byte_at (put_number first c n (v / 256)) a) e
    ∙ byte_at-put_number_other first (a + 1) n (v / 256) a (omega (arith, room)) (omega (arith, room)) (below_apart (a + 1) n a (omega (arith, room)) (omega arith))
    ∙ byte_at-put_byte_same m a (v % 256) is (h a (omega arith) (omega arith)) in
    let high : number_at (put_number first (next_address a) n (v / 256)) (next_address a) n ≡ number_of_bytes (bytes_of n (v / 256)) =
    ap (λ c. number_at (put_number first c n (v / 256)) c n) e
    ∙ number_written first (a + 1) n (v / 256) (IsMemory-put_byte m a (v % 256) is small) (omega (arith, room))
    (λ x from until. can_read-put_byte m a (v % 256) x ∙ h x (omega (arith, from)) (omega (arith, until))) in
    ap₂ (λ b r. b + 256 * r) (ap (λ o. unwrap_or o 0) low) high

-- ---- doublewords

-- these doublewords stand one after another from an address on
abbrev pub Holds : Memory → ℕ → List ℕ → Type 0
Holds m a [] = Unit {0}
Holds m a (v ∷ vs) = (number_at m a 8 ≡ v) × Holds m (a + 8) vs

pub words_read : (m : Memory) (a : ℕ) (vs : List ℕ) (c : ℕ) → can_read (with_words m a vs) c ≡ can_read m c
words_read m a [] c = refl
words_read m a (v ∷ vs) c = words_read (put_number m a 8 v) (a + 8) vs c ∙ can_read-put_number m a 8 v c

pub words_write : (m : Memory) (a : ℕ) (vs : List ℕ) (c : ℕ) → can_write (with_words m a vs) c ≡ can_write m c
words_write m a [] c = refl
words_write m a (v ∷ vs) c = words_write (put_number m a 8 v) (a + 8) vs c ∙ can_write-put_number m a 8 v c

pub words_memory : (m : Memory) (a : ℕ) (vs : List ℕ) → IsMemory m → IsMemory (with_words m a vs)
words_memory m a [] is = is
words_memory m a (v ∷ vs) is = words_memory (put_number m a 8 v) (a + 8) vs (IsMemory-put_number m a 8 v is)

-- bytes below and above stay
pub doublewords_spare : (m : Memory) (a : ℕ) (vs : List ℕ) (c : ℕ) → a + 8 * length vs ≤ 2 ^ 64 → c < a → byte_at (with_words m a vs) c ≡ byte_at m c
doublewords_spare m a [] c room lt = refl
doublewords_spare m a (v ∷ vs) c room lt =
    doublewords_spare (put_number m a 8 v) (a + 8) vs c (omega (arith, room)) (omega (arith, lt))
    ∙ byte_at-put_number_other m a 8 v c (omega (arith, room)) (omega (arith, room, lt)) (below_apart a 8 c (omega (arith, room)) lt)

pub words_above : (m : Memory) (a : ℕ) (vs : List ℕ) (c : ℕ) → a + 8 * length vs ≤ c → c < 2 ^ 64 → byte_at (with_words m a vs) c ≡ byte_at m c
words_above m a [] c le low = refl
words_above m a (v ∷ vs) c le low =
    words_above (put_number m a 8 v) (a + 8) vs c (omega (arith, le)) low
    ∙ byte_at-put_number_other m a 8 v c (omega (arith, le, low)) low (above_apart a 8 c (omega (arith, le)) low)

-- code stays
pub words_code : (m : Memory) (a : ℕ) (vs : List ℕ) (pc : ℕ) → pc < 2 ^ 64 → a + 8 * length vs ≤ 2 ^ 64 → ((x : ℕ) → a ≤ x → x < a + 8 * length vs → can_write m x ≡ true) → fetched (with_words m a vs) pc ≡ fetched m pc
words_code m a [] pc low room h = refl
words_code m a (v ∷ vs) pc low room h =
    words_code (put_number m a 8 v) (a + 8) vs pc low (omega (arith, room))
    (λ x from until. can_write-put_number m a 8 v x ∙ h x (omega (arith, from)) (omega (arith, until)))
    ∙ fetched-put_number m a 8 v pc low (none_faults (can_write m) a 8 (omega (arith, room)) (λ x from until. h x from (omega (arith, until))))

-- and the doublewords stand there
pub words_hold : (m : Memory) (a : ℕ) (vs : List ℕ) → IsMemory m → a + 8 * length vs < 2 ^ 64 → All (λ v. v < 2 ^ 64) vs → ((x : ℕ) → a ≤ x → x < a + 8 * length vs → can_read m x ≡ true) → Holds (with_words m a vs) a vs
words_hold m a [] is room small h = tt
words_hold m a (v ∷ vs) is room small h =
    let next = put_number m a 8 v in
    let kept : number_at (with_words next (a + 8) vs) a 8 ≡ number_at next a 8 =
    doubleword_same next (with_words next (a + 8) vs) a 8 (omega (arith, room)) (λ x from until. doublewords_spare next (a + 8) vs x (omega (arith, room)) until) in
    let fits : v % 256 ^ 8 ≡ v = mod-eq_of_lt (let lt : v < 256 ^ 8 = All-head (λ v. v < 2 ^ 64) v vs small in lt) in (
      kept ∙ number_written m a 8 v is (omega (arith, room)) (λ x from until. h x from (omega (arith, until))) ∙ number-bytes_of 8 v ∙ fits,
      words_hold next (a + 8) vs (IsMemory-put_number m a 8 v is) (omega (arith, room)) (All-tail (λ v. v < 2 ^ 64) v vs small) (λ x from until. can_read-put_number m a 8 v x ∙ h x (omega (arith, from)) (omega (arith, until))),
    )

-- also in a memory that has the same bytes there
pub held_in : (m w : Memory) (a : ℕ) (vs : List ℕ) → a + 8 * length vs ≤ 2 ^ 64 → ((x : ℕ) → a ≤ x → x < a + 8 * length vs → byte_at w x ≡ byte_at m x) → Holds m a vs → Holds w a vs
held_in m w a [] room same h = tt
held_in m w a (v ∷ vs) room same h = (
  doubleword_same m w a 8 (omega (arith, room)) (λ x from until. same x from (omega (arith, until))) ∙ h.0,
  held_in m w (a + 8) vs (omega (arith, room)) (λ x from until. same x (omega (arith, from)) (omega (arith, until))) h.1,
)
