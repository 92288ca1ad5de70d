-- The walks over operands, one after another: each is less deep, its items have room, and the item after them.
use Rattle.std.proofs.Common.{◌≡◌, ℕ, ◌+◌, ◌*◌, ◌<◌, ◌^◌, arith}
use Rattle.std.specs.Prelude.{max}

pub three_1_to_0 : (t d : ℕ) → 3 * d + 1 ≡ t → 3 * d < t
three_1_to_0 t d h = omega arith

pub three_1_to_left_0 : (t d e : ℕ) → 3 * max d e + 1 ≡ t → 3 * d < t
three_1_to_left_0 t d e h = omega arith

pub three_1_to_right_0 : (t d e : ℕ) → 3 * max d e + 1 ≡ t → 3 * e < t
three_1_to_right_0 t d e h = omega arith

pub middle_below : (t f d e : ℕ) → 3 * max f (max d e) + 1 ≡ t → 3 * d < t
middle_below t f d e h = omega arith

pub last_below : (t f d e : ℕ) → 3 * max f (max d e) + 1 ≡ t → 3 * e < t
last_below t f d e h = omega arith

-- ---- one operand, which begins at a number and ends at another

pub one_end : (n a m : ℕ) → n + (a + 1) < 2 ^ 32 → m ≡ n + a → m + 1 < 2 ^ 32
one_end n a m h e = omega arith

pub past_item : (n m k size : ℕ) → m ≡ n + size → k ≡ m + 1 → k ≡ n + (size + 1)
past_item n m k size e f = omega arith

-- ---- two

module _ (n a b : ℕ) (h : n + (a + b + 1) < 2 ^ 32) where
  pub two_first : n + a < 2 ^ 32
  two_first = omega (arith, h)

  pub two_second : (m : ℕ) → m ≡ n + a → m + b < 2 ^ 32
  two_second m e = omega (arith, h, e)

  pub two_end : (m l : ℕ) → m ≡ n + a → l ≡ m + b → l + 1 < 2 ^ 32
  two_end m l e f = omega (arith, h, e, f)

pub two_next : (n a b m l k : ℕ) → m ≡ n + a → l ≡ m + b → k ≡ l + 1 → k ≡ n + (a + b + 1)
two_next n a b m l k e f g = omega arith

-- ---- two, and a mark after the first

module _ (n a b : ℕ) (h : n + (a + 1 + b + 1) < 2 ^ 32) where
  pub either_first : n + a < 2 ^ 32
  either_first = omega (arith, h)

  pub either_mark : (m : ℕ) → m ≡ n + a → m + 1 < 2 ^ 32
  either_mark m e = omega (arith, h, e)

  pub either_second : (m j : ℕ) → m ≡ n + a → j ≡ m + 1 → j + b < 2 ^ 32
  either_second m j e f = omega (arith, h, e, f)

  pub either_end : (m j l : ℕ) → m ≡ n + a → j ≡ m + 1 → l ≡ j + b → l + 1 < 2 ^ 32
  either_end m j l e f g = omega (arith, h, e, f, g)

pub either_next : (n a b m j l k : ℕ) → m ≡ n + a → j ≡ m + 1 → l ≡ j + b → k ≡ l + 1 → k ≡ n + (a + 1 + b + 1)
either_next n a b m j l k e f g i = omega arith

-- ---- three

module _ (n a b d : ℕ) (h : n + (a + b + d + 1) < 2 ^ 32) where
  pub three_first : n + a < 2 ^ 32
  three_first = omega (arith, h)

  pub three_second : (m : ℕ) → m ≡ n + a → m + b < 2 ^ 32
  three_second m e = omega (arith, h, e)

  pub three_third : (m l : ℕ) → m ≡ n + a → l ≡ m + b → l + d < 2 ^ 32
  three_third m l e f = omega (arith, h, e, f)

  pub three_end : (m l j : ℕ) → m ≡ n + a → l ≡ m + b → j ≡ l + d → j + 1 < 2 ^ 32
  three_end m l j e f g = omega (arith, h, e, f, g)

pub three_next : (n a b d m l j k : ℕ) → m ≡ n + a → l ≡ m + b → j ≡ l + d → k ≡ j + 1 → k ≡ n + (a + b + d + 1)
three_next n a b d m l j k e f g i = omega arith

-- ---- an `if` with one block

pub block_next : (n a b m k : ℕ) → m ≡ n + (a + 1) → k ≡ m + (b + 1) → k ≡ n + (a + 1 + b + 0 + 1)
block_next n a b m k e f = omega arith
