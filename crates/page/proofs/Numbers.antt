-- Numbers of four bytes at the front of some bytes.
use Rattle.std.proofs.Common.{◌≡◌, ℕ, zero, suc, ◌<◌, ◌≤◌, List, [], ◌∷◌, ◌++◌, take, drop, length, get_or, refl, ap, sym, arith}
use Rattle.std.specs.Int.{to_le_bytes, from_le_bytes, w32}
use Rattle.std.proofs.lemmas.Nat.{le_bytes_4}

below_256_of_four : (a b c d : ℕ) → a < 256 → b < 256 → c < 256 → d < 256 → (i : ℕ) → get_or (a ∷ b ∷ c ∷ d ∷ []) i 0 < 256
below_256_of_four a b c d p q r s zero = p
below_256_of_four a b c d p q r s (suc zero) = q
below_256_of_four a b c d p q r s (suc (suc zero)) = r
below_256_of_four a b c d p q r s (suc (suc (suc zero))) = s
below_256_of_four a b c d p q r s (suc (suc (suc (suc i)))) = omega arith

-- bytes are the number that they begin with, and the rest
pub number_and_rest : (bytes : List ℕ) (n : ℕ) → 4 ≤ length bytes → ((i : ℕ) → get_or bytes i 0 < 256)
    → n ≡ from_le_bytes w32 (take 4 bytes) → bytes ≡ to_le_bytes w32 n ++ drop 4 bytes
number_and_rest [] n long small is = absurd (omega (arith, long))
number_and_rest (a ∷ []) n long small is = absurd (omega (arith, long))
number_and_rest (a ∷ b ∷ []) n long small is = absurd (omega (arith, long))
number_and_rest (a ∷ b ∷ c ∷ []) n long small is = absurd (omega (arith, long))
number_and_rest (a ∷ b ∷ c ∷ d ∷ rest) n long small is =
    ap (λ it. it ++ rest) (sym (le_bytes_4 (a ∷ b ∷ c ∷ d ∷ []) n refl (below_256_of_four a b c d (small 0) (small 1) (small 2) (small 3)) is))
