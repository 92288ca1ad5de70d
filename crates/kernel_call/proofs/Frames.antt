-- A number written over some bytes: as doublewords one after another, and what the bytes are.
use Rattle.std.proofs.Common.{◌≡◌, ℕ, zero, suc, ◌+◌, ◌*◌, ◌/◌, ◌%◌, ◌^◌, ◌<◌, ◌≤◌, Bool, true, false, cond, List, [], ◌∷◌, length, Option, Some, None, refl, sym, ap, ◌∙◌, subst, arith, inl, inr, length-set, get_or-set_same}
use Rattle.std.specs.Prelude.{All, nat_eq, is_some, option_map}
use Rattle.std.proofs.lemmas.Bool.{cases_eq, cases_lt, cond-true, eq-eqb}
use Rattle.std.proofs.lemmas.List.Elements.{All-head, All-tail}
use Rattle.std.proofs.Math.Nat.{pow-suc, mul_comm, mul_assoc}
use Rattle.guest_types.specs.Memory.{Page, Memory, IsPage, IsMemory, byte_at, byte_of, can_read, next_address, page_at, put_byte, put_number, with_byte}
use Rattle.guest_types.proofs.Writes.{after_write, All-page_at, page_at-put_byte, can_read-put_byte}
use Rattle.guest_types.proofs.Stores.{byte_at-put_number_other}
use Rattle.call_code.specs.Frame.{with_words}
use Rattle.call_code.proofs.SavedWords.{below_apart}

-- ---- doublewords

-- the number of some doublewords, the lowest first
abbrev pub number_of : List ℕ → ℕ
number_of [] = 0
number_of (v ∷ vs) = v + 2 ^ 64 * number_of vs

-- a number of j bytes, and one of k bytes behind it
put_two : (j : ℕ) (m : Memory) (a k v u : ℕ) → v < 256 ^ j → a + j < 2 ^ 64 → put_number m a (j + k) (v + 256 ^ j * u) ≡ put_number (put_number m a j v) (a + j) k u
put_two zero m a k v u small room =
    let none : v + 1 * u ≡ u = omega (arith, small) in
    let e : 0 + k ≡ k = omega arith in
    let f : a ≡ a + 0 = omega arith in
    ap (λ n. put_number m a n (v + 1 * u)) e ∙ ap (put_number m a k) none ∙ ap (λ b. put_number m b k u) f
put_two (suc j) m a k v u small room =
    let wide : 256 ^ suc j * u ≡ 256 * (256 ^ j * u) = ap (λ n. n * u) (pow-suc 256 j ∙ mul_comm (256 ^ j) 256) ∙ mul_assoc 256 (256 ^ j) u in
    let low : (v + 256 ^ suc j * u) % 256 ≡ v % 256 = omega (arith, wide) in
    let high : (v + 256 ^ suc j * u) / 256 ≡ v / 256 + 256 ^ j * u = omega (arith, wide) in
    let fits : v / 256 < 256 ^ j = let p = pow-suc 256 j in omega (arith, p, small) in
    let next : next_address a ≡ a + 1 = omega (arith, room) in
    let more : suc j + k ≡ suc (j + k) = omega arith in
    let there : a + 1 + j ≡ a + suc j = omega arith in
    ap (λ n. put_number m a n (v + 256 ^ suc j * u)) more
    ∙ ap (λ b. put_number (put_byte m a b) (next_address a) (j + k) ((v + 256 ^ suc j * u) / 256)) low
    ∙ ap (λ n. put_number (put_byte m a (v % 256)) (next_address a) (j + k) n) high
    ∙ ap (λ b. put_number (put_byte m a (v % 256)) b (j + k) (v / 256 + 256 ^ j * u)) next
    ∙ put_two j (put_byte m a (v % 256)) (a + 1) k (v / 256) u fits (omega (arith, room))
    ∙ ap (λ b. put_number (put_number (put_byte m a (v % 256)) b j (v / 256)) (a + 1 + j) k u) (sym next)
    ∙ ap (λ b. put_number (put_number (put_byte m a (v % 256)) (next_address a) j (v / 256)) b k u) there

pub words_number : (m : Memory) (a : ℕ) (vs : List ℕ) → All (λ v. v < 2 ^ 64) vs → a + 8 * length vs < 2 ^ 64 → with_words m a vs ≡ put_number m a (8 * length vs) (number_of vs)
words_number m a [] small room = refl
words_number m a (v ∷ vs) small room =
    let count : 8 + 8 * length vs ≡ 8 * suc (length vs) = omega arith in
    let fits : v < 256 ^ 8 = All-head (λ v. v < 2 ^ 64) v vs small in
    words_number (put_number m a 8 v) (a + 8) vs (All-tail (λ v. v < 2 ^ 64) v vs small) (omega (arith, room))
    ∙ sym (put_two 8 m a (8 * length vs) v (number_of vs) fits (omega (arith, room)))
    ∙ ap (λ n. put_number m a n (v + 2 ^ 64 * number_of vs)) count

-- ---- bytes

-- each page has all its bytes
abbrev pub AreWhole : Memory → Type 0
AreWhole m = (n : ℕ) (p : Page) → page_at m n ≡ Some p → length p.bytes ≡ 4096

pub whole_memory : (m : Memory) → IsMemory m → AreWhole m
whole_memory m is n p found = (All-page_at IsPage m n p is.pages found).whole

written_length : (a b n : ℕ) (p : Page) → length (after_write a b n p).bytes ≡ length p.bytes
written_length a b n p = by (nat_eq n (a / 4096))
  where
    by : (t : Bool) → length (cond t (with_byte p a b) p).bytes ≡ length p.bytes
    by true = length-set p.bytes (a % 4096) b
    by false = refl

byte_before : (m : Memory) (a b : ℕ) → AreWhole (put_byte m a b) → AreWhole m
byte_before m a b whole n p found =
    let e : page_at (put_byte m a b) n ≡ Some (after_write a b n p) = page_at-put_byte m a b n ∙ ap (option_map (after_write a b n)) found in
    sym (written_length a b n p) ∙ whole n (after_write a b n p) e

byte_after : (m : Memory) (a b : ℕ) → AreWhole m → AreWhole (put_byte m a b)
byte_after m a b whole n q found = by (page_at m n) refl
  where
    by : (o : Option Page) → page_at m n ≡ o → length q.bytes ≡ 4096
    by None e = let none : None ≡ Some q = sym (page_at-put_byte m a b n ∙ ap (option_map (after_write a b n)) e) ∙ found in cc
    by (Some p) e =
        let same : Some (after_write a b n p) ≡ Some q = sym (page_at-put_byte m a b n ∙ ap (option_map (after_write a b n)) e) ∙ found in
        let is : after_write a b n p ≡ q = cc in
        ap (λ (p : Page). length p.bytes) (sym is) ∙ written_length a b n p ∙ whole n p e

-- also before a number was written
pub whole_before : (n : ℕ) (m : Memory) (a v : ℕ) → AreWhole (put_number m a n v) → AreWhole m
whole_before zero m a v whole = whole
whole_before (suc n) m a v whole = byte_before m a (v % 256) (whole_before n (put_byte m a (v % 256)) (next_address a) (v / 256) whole)

byte_same : (m : Memory) (a b : ℕ) → AreWhole m → can_read m a ≡ true → byte_at (put_byte m a b) a ≡ Some b
byte_same m a b whole readable = ap (option_map (λ page. byte_of page a)) (page_at-put_byte m a b (a / 4096)) ∙ by (page_at m (a / 4096)) refl readable
  where
    by : (o : Option Page) → page_at m (a / 4096) ≡ o → is_some o ≡ true → option_map (λ page. byte_of page a) (option_map (after_write a b (a / 4096)) o) ≡ Some b
    by None found readable = cc
    by (Some p) found readable =
        let long = whole (a / 4096) p found in
        ap Some (ap (λ q. byte_of q a) (cond-true _ _ _ (eq-eqb (a / 4096) (a / 4096) refl)) ∙ get_or-set_same p.bytes (a % 4096) b 0 (omega (arith, long)))

-- one number written over the same bytes of two memories
pub same_put : (n : ℕ) (m w : Memory) (a v x : ℕ) → AreWhole m → AreWhole w → can_read m x ≡ true → can_read w x ≡ true → a + n < 2 ^ 64 → a ≤ x → x < a + n → byte_at (put_number m a n v) x ≡ byte_at (put_number w a n v) x
same_put zero m w a v x hm hw rm rw room from until = absurd (omega (arith, from, until))
same_put (suc n) m w a v x hm hw rm rw room from until =
    elim (cases_eq x a) [
      | inl e ↦ first m hm (subst (λ y. can_read m y ≡ true) e rm) e ∙ sym (first w hw (subst (λ y. can_read w y ≡ true) e rw) e)
      | inr ne ↦
          ap (λ b. byte_at (put_number (put_byte m a (v % 256)) b n (v / 256)) x) next
          ∙ same_put n (put_byte m a (v % 256)) (put_byte w a (v % 256)) (a + 1) (v / 256) x (byte_after m a (v % 256) hm) (byte_after w a (v % 256) hw) (can_read-put_byte m a (v % 256) x ∙ rm) (can_read-put_byte w a (v % 256) x ∙ rw) (omega (arith, room)) (over ne) (omega (arith, until))
          ∙ ap (λ b. byte_at (put_number (put_byte w a (v % 256)) b n (v / 256)) x) (sym next)
    ]
  where
    next : next_address a ≡ a + 1
    next = omega (arith, room)

    over : (x ≡ a → ⊥) → a + 1 ≤ x
    over ne = elim (cases_lt a x) [ inl lt ↦ omega (arith, lt) | inr ge ↦ absurd (ne (omega (arith, from, ge))) ]

    first : (k : Memory) → AreWhole k → can_read k a ≡ true → x ≡ a → byte_at (put_number (put_byte k a (v % 256)) (next_address a) n (v / 256)) x ≡ Some (v % 256)
    first k whole readable e =
        ap (byte_at (put_number (put_byte k a (v % 256)) (next_address a) n (v / 256))) e
        ∙ ap (λ b. byte_at (put_number (put_byte k a (v % 256)) b n (v / 256)) a) next
        ∙ byte_at-put_number_other (put_byte k a (v % 256)) (a + 1) n (v / 256) a (omega (arith, room)) (omega (arith, room)) (below_apart (a + 1) n a (omega (arith, room)) (omega arith))
        ∙ byte_same k a (v % 256) whole readable
