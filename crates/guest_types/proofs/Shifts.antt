-- Elements as numbers of so many bits.
use Rattle.std.proofs.Common.{◌≡◌, ℕ, zero, suc, ◌+◌, ◌-◌, ◌*◌, ◌/◌, ◌^◌, ◌<◌, ◌≤◌, refl, sym, ap, ◌∙◌, arith, bit_or, bit_xor}
use Rattle.std.proofs.lemmas.Nat.{or_lt, xor_lt, pow-add}
use Rattle.std.proofs.lemmas.Bool.{cond-false, le-ltb}
use Rattle.std.proofs.Math.Nat.{add-mul-div_left, div-eq_of_lt, mul-suc, one-le-pow, zero-add}
use Rattle.guest_types.specs.declared.length.Width.{Width}
use Rattle.guest_types.specs.declared.length.Width.TheVariants.{B, H, S, D}
use Rattle.guest_types.specs.declared.operation.ShiftOp.TheVariants.{Asr}
use Rattle.guest_types.specs.Length.{width_bits, modulus}
use Rattle.guest_types.specs.Lanes.{shifted}

pub modulus-power : (w : Width) → modulus w ≡ 2 ^ width_bits w
modulus-power B = refl
modulus-power other = refl

pub or-below : (w : Width) (a b : ℕ) → a < modulus w → b < modulus w → bit_or a b < modulus w
or-below B a b = or_lt 8 a b
or-below H a b = or_lt 16 a b
or-below S a b = or_lt 32 a b
or-below D a b = or_lt 64 a b

pub xor-below : (w : Width) (a b : ℕ) → a < modulus w → b < modulus w → bit_xor a b < modulus w
xor-below B a b = xor_lt 8 a b
xor-below H a b = xor_lt 16 a b
xor-below S a b = xor_lt 32 a b
xor-below D a b = xor_lt 64 a b

-- the number below a multiple, over the divisor
div_below : (p q top : ℕ) → 0 < p → top + 1 ≡ p * suc q → top / p ≡ q
div_below p q top some e =
    let low : p - 1 < p = omega arith in
    let whole : top ≡ (p - 1) + p * q = omega (arith, mul-suc p q) in
    ap (λ n. n / p) whole ∙ add-mul-div_left (p - 1) q some ∙ ap (λ n. n + q) (div-eq_of_lt low) ∙ zero-add q

div_whole : (p q m : ℕ) → 0 < p → m ≡ p * q → m / p ≡ q
div_whole p q m some e =
    let whole : m ≡ 0 + p * q = omega arith in
    ap (λ n. n / p) whole ∙ add-mul-div_left 0 q some ∙ ap (λ n. n + q) (div-eq_of_lt some) ∙ zero-add q

-- so many ones at the top are what the highest number loses by a shift
pub ones-above : (w : Width) (c top : ℕ) → c ≤ width_bits w → top + 1 ≡ modulus w → (top / 2 ^ c + 1 ≡ modulus w / 2 ^ c) × (top - top / 2 ^ c ≡ modulus w - modulus w / 2 ^ c)
ones-above w c top h e =
    let p = 2 ^ c in
    let some : 0 < p = omega (arith, one-le-pow c 2 (omega arith)) in
    let split : modulus w ≡ p * 2 ^ (width_bits w - c) = modulus-power w ∙ ap (λ n. 2 ^ n) (let all : width_bits w ≡ c + (width_bits w - c) = omega arith in all) ∙ pow-add 2 c (width_bits w - c) in
    go p (2 ^ (width_bits w - c)) some split (let q : 1 ≤ 2 ^ (width_bits w - c) = one-le-pow (width_bits w - c) 2 (omega arith) in q)
  where
    go : (p q : ℕ) → 0 < p → modulus w ≡ p * q → 1 ≤ q → (top / p + 1 ≡ modulus w / p) × (top - top / p ≡ modulus w - modulus w / p)
    go p zero some split least = absurd (omega arith)
    go p (suc q) some split least =
        let up = div_whole p (suc q) (modulus w) some split in
        let down = div_below p q top some (e ∙ split) in
        (omega (arith, up, down), omega (arith, up, down, e))

halves : (w : Width) (a top : ℕ) → top + 1 ≡ modulus w → top / 2 < a → modulus w / 2 ≤ a
halves B a top e h = omega arith
halves other a top e h = omega arith

-- a shift of a negative element fills with ones
pub shifted-negative : (w : Width) (a c top low fill : ℕ) → top + 1 ≡ modulus w → low ≡ a / 2 ^ c → fill ≡ top / 2 ^ c → c ≤ width_bits w → top / 2 < a → low + (top - fill) ≡ shifted Asr (modulus w) a c
shifted-negative w a c top low fill e is_low is_fill short negative =
    let ones = (ones-above w c top short e).1 in
    ap (λ n. low + (top - n)) is_fill ∙ ap (λ n. low + n) ones ∙ ap (λ n. n + (modulus w - modulus w / 2 ^ c)) is_low
    ∙ ap (λ n. a / 2 ^ c + n) (sym (cond-false _ _ _ (le-ltb a (modulus w / 2) (halves w a top e negative))))
