-- Hexadecimal digits, from the high end and from the low end.
use Rattle.std.proofs.Common.{◌≡◌, ℕ, zero, suc, ◌+◌, ◌*◌, ◌/◌, ◌%◌, ◌^◌, ◌<◌, Bool, true, ◌&&◌, ◌==◌, [], ◌∷◌, ◌++◌, inl, inr, slice_index, refl, sym, ap, ◌∙◌, arith, append_assoc, append-nil}
use Rattle.std.proofs.lemmas.Bool.{and_parts, cases_lt, eqb-true}
use Rattle.std.proofs.lemmas.Nat.{pow-add, mul-pow}
use Rattle.std.proofs.Math.Nat.{pow-suc, mul_comm, div-one, div-div-eq-div-mul}
use Rattle.std.specs.Int.{byte_at, bytes_high_first, to_be_bytes, w64}
use Rattle.hex.specs.Hex.{encode_with, encode_lower, lower_digits}
use Rattle.number_text.specs.Hexadecimal.{hex_digit, hex_digits}

-- ---- the table of digits

abbrev is_same : ℕ → Bool
is_same d = slice_index lower_digits d == hex_digit d

abbrev are_same : ℕ → Bool
are_same zero = true
are_same (suc n) = is_same n && are_same n

same_below : (n d : ℕ) → are_same n ≡ true → d < n → slice_index lower_digits d ≡ hex_digit d
same_below zero d h lt = absurd (omega arith)
same_below (suc n) d h lt =
    let parts = and_parts (is_same n) (are_same n) h in
    elim (cases_lt d n) [
      | inl below ↦ same_below n d parts.1 below
      | inr top ↦
          let e : d ≡ n = omega arith in
          rw e (eqb-true _ _ parts.0)
    ]

in_table : (d : ℕ) → d < 16 → slice_index lower_digits d ≡ hex_digit d
in_table d h = same_below 16 d refl h

-- ---- digits of a number by their places

-- the digits before the last b of them are those of the number over 16 ^ b
split : (a b j n : ℕ) → j ≡ a + b → hex_digits j n ≡ hex_digits a (n / 16 ^ b) ++ hex_digits b n
unfolding hex_digits
split a zero j n e =
    let same : j ≡ a = omega arith in
    ap (λ k. hex_digits k n) same ∙ ap (hex_digits a) (sym (div-one n)) ∙ sym (append-nil (hex_digits a (n / 16 ^ zero)))
split a (suc b) zero n e = absurd (omega arith)
split a (suc b) (suc j) n e =
    let shifted : n / 16 / 16 ^ b ≡ n / 16 ^ suc b = div-div-eq-div-mul n 16 (16 ^ b) ∙ ap (λ k. n / k) (mul_comm 16 (16 ^ b) ∙ sym (pow-suc 16 b)) in
    ap (λ l. l ++ hex_digit (n % 16) ∷ []) (split a b j (n / 16) (omega arith) ∙ ap (λ m. hex_digits a m ++ hex_digits b (n / 16)) shifted)
    ∙ append_assoc (hex_digits a (n / 16 ^ suc b)) (hex_digits b (n / 16)) (hex_digit (n % 16) ∷ [])

-- the two digits of a number's lowest byte
two_hex_digits : (n : ℕ) → slice_index lower_digits (n % 256 / 16) ∷ slice_index lower_digits (n % 256 % 16) ∷ [] ≡ hex_digits 2 n
unfolding hex_digits
two_hex_digits n =
    let high : n % 256 / 16 ≡ n / 16 % 16 = omega arith in
    let low : n % 256 % 16 ≡ n % 16 = omega arith in
    ap (λ l. l ∷ slice_index lower_digits (n % 256 % 16) ∷ []) (in_table (n % 256 / 16) (omega arith) ∙ ap hex_digit high)
    ∙ ap (λ l. hex_digit (n / 16 % 16) ∷ l ∷ []) (in_table (n % 256 % 16) (omega arith) ∙ ap hex_digit low)

pub byte : (b : ℕ) → b < 256 → encode_lower (b ∷ []) ≡ hex_digits 2 b
unfolding encode_with
byte b h =
    let e : b % 256 ≡ b = omega arith in
    rw e at (two_hex_digits b)

place : (k n : ℕ) → byte_at k n ≡ n / 256 ^ k % 256
place zero n = ap (λ m. m % 256) (sym (div-one n))
place (suc k) n = refl

-- the text of the lowest bytes of a number
bytes : (k j n : ℕ) → j ≡ 2 * k → encode_lower (bytes_high_first k n) ≡ hex_digits j n
unfolding encode_with hex_digits
bytes zero zero n e = refl
bytes zero (suc j) n e = absurd (omega arith)
bytes (suc k) j n e =
    let power : 16 ^ (2 * k) ≡ 256 ^ k =
    let twice : 2 * k ≡ k + k = omega arith in
    ap (λ i. 16 ^ i) twice ∙ pow-add 16 k k ∙ sym (mul-pow 16 16 k) in
    let high = two_hex_digits (n / 256 ^ k) in
    ap (λ b. slice_index lower_digits (b / 16) ∷ slice_index lower_digits (b % 16) ∷ encode_lower (bytes_high_first k n)) (place k n)
    ∙ ap (λ l. (slice_index lower_digits (n / 256 ^ k % 256 / 16) ∷ slice_index lower_digits (n / 256 ^ k % 256 % 16) ∷ []) ++ l) (bytes k (2 * k) n refl)
    ∙ ap (λ l. l ++ hex_digits (2 * k) n) high
    ∙ ap (λ m. hex_digits 2 (n / m) ++ hex_digits (2 * k) n) (sym power)
    ∙ sym (split 2 (2 * k) j n (omega arith))

pub address : (n : ℕ) → encode_lower (to_be_bytes w64 n) ≡ hex_digits 16 n
address n = bytes 8 16 n refl
