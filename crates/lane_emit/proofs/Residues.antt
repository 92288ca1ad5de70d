-- Integers modulo 2 to the width of a lane: what a lane holds of a sum, a product and the like.
use Rattle.std.proofs.Common.{◌≡◌, ℕ, suc, ◌+◌, ◌-◌, ◌*◌, ◌/◌, ◌%◌, ◌^◌, ◌<◌, ◌≤◌, ℤ, pos, negsuc, neg_ℤ, ◌+ℤ◌, ◌-ℤ◌, ◌*ℤ◌, true, false, refl, sym, ap, ap₂, ◌∙◌, subst, arith, bit_and, bit_or, bit_xor, unsigned_abs, mul-le-mul_right, inl, inr}
use Rattle.std.specs.Int.{int_shr}
use Rattle.std.proofs.lemmas.Bool.{cases_lt, cond-true, cond-false, lt-ltb, le-ltb}
use Rattle.std.proofs.lemmas.Nat.{and_mod, or_mod, xor_mod, mul-mod_first, mul-mod_second, pow-add}
use Rattle.std.proofs.Math.Nat.{mod-eq_of_lt, div-le_self, add-mul-div_left, div-eq_of_lt, mul-add, mul-le-mul_left, div-add-mod, mod-lt, one-le-pow, zero-add}
use Rattle.guest_types.specs.declared.length.Width.{Width}
use Rattle.guest_types.specs.declared.length.Width.TheVariants.{B, H, S, D}
use Rattle.guest_types.specs.declared.operation.LaneOp.TheVariants as lane_ops
use Rattle.guest_types.specs.declared.operation.LaneUnary.TheVariants as unaries
use Rattle.guest_types.specs.declared.operation.ShiftOp.TheVariants as shifts
use Rattle.guest_types.specs.Length.{width_bits, modulus}
use Rattle.guest_types.specs.Lanes.{lane, unary, shifted}
use Rattle.guest_types.proofs.Shifts.{modulus-power}
use Rattle.guest_types.proofs.Widths.{modulus_pos}
use Rattle.kernel_tree.specs.Wrap.{residue}
use Rattle.kernel_meaning.specs.Operators.{word}
use Rattle.kernel_meaning.proofs.Residues.{word-below, word-mul, word-add, word-shl, word-neg}
use Rattle.lane_emit.proofs.Ranges.{InBits}

-- what an element of a width holds of an integer
abbrev pub held : Width → ℤ → ℕ
held w z = residue (width_bits w) z

pub held-word : (w : Width) (z : ℤ) → held w z ≡ word z % modulus w
held-word B (pos n) = omega arith
held-word B (negsuc n) = omega arith
held-word H (pos n) = omega arith
held-word H (negsuc n) = omega arith
held-word S (pos n) = omega arith
held-word S (negsuc n) = omega arith
held-word D (pos n) = omega arith
held-word D (negsuc n) = omega arith

pub held-below : (w : Width) (z : ℤ) → held w z < modulus w
held-below w z = subst (λ n. n < modulus w) (sym (held-word w z)) (mod-lt (word z) (modulus_pos w))

pub held-whole : (w : Width) (z : ℤ) → held w z % modulus w ≡ held w z
held-whole w z = mod-eq_of_lt (held-below w z)

-- integers with the same word are one to a lane
pub held-same : (w : Width) (a b : ℤ) → word a ≡ word b → held w a ≡ held w b
held-same w a b e = held-word w a ∙ ap (λ n. n % modulus w) e ∙ sym (held-word w b)

-- the low bits of the low 64 bits
pub residue_of_word : (w : Width) (n : ℕ) → n % 2 ^ 64 % modulus w ≡ n % modulus w
residue_of_word B n = omega arith
residue_of_word other n = omega arith

held-of : (w : Width) (z : ℤ) (n : ℕ) → word z ≡ n % 2 ^ 64 → held w z ≡ n % modulus w
held-of w z n e = held-word w z ∙ ap (λ m. m % modulus w) e ∙ residue_of_word w n

-- ---- sums, differences and products

sum_low : (w : Width) (a b : ℕ) → (a % modulus w + b % modulus w) % modulus w ≡ (a + b) % modulus w
sum_low B a b = omega arith
sum_low other a b = omega arith

pub add-held : (w : Width) (x y : ℤ) → lane lane_ops.Add (modulus w) (held w x) (held w y) ≡ held w (x +ℤ y)
add-held w x y =
    ap₂ (λ a b. (a + b) % modulus w) (held-word w x) (held-word w y) ∙ sum_low w (word x) (word y) ∙ sym (held-of w (x +ℤ y) (word x + word y) (word-add x y))

difference_low : (w : Width) (a b : ℕ) → a < 2 ^ 64 → b < 2 ^ 64 → (a % modulus w + (modulus w - b % modulus w)) % modulus w ≡ (a + (2 ^ 64 - b) % 2 ^ 64) % modulus w
difference_low B a b h k = omega (arith, h, k)
difference_low other a b h k = omega (arith, h, k)

pub sub-held : (w : Width) (x y : ℤ) → lane lane_ops.Sub (modulus w) (held w x) (held w y) ≡ held w (x -ℤ y)
sub-held w x y =
    ap₂ (λ a b. (a + (modulus w - b)) % modulus w) (held-word w x) (held-word w y)
    ∙ difference_low w (word x) (word y) (word-below x) (word-below y)
    ∙ sym (held-of w (x -ℤ y) (word x + (2 ^ 64 - word y) % 2 ^ 64) (word-add x (neg_ℤ y) ∙ ap (λ n. (word x + n) % 2 ^ 64) (word-neg y)))

pub mul-held : (w : Width) (x y : ℤ) → lane lane_ops.Mul (modulus w) (held w x) (held w y) ≡ held w (x *ℤ y)
mul-held w x y =
    ap₂ (λ a b. a * b % modulus w) (held-word w x) (held-word w y)
    ∙ mul-mod_first (word x) (word y % modulus w) (modulus w) ∙ mul-mod_second (word x) (word y) (modulus w)
    ∙ sym (held-of w (x *ℤ y) (word x * word y) (word-mul x y))

-- ---- bits

held-power : (w : Width) (z : ℤ) → held w z ≡ word z % 2 ^ width_bits w
held-power w z = held-word w z ∙ ap (λ m. word z % m) (modulus-power w)

pub and-held : (w : Width) (x y : ℤ) → bit_and (held w x) (held w y) ≡ held w (pos (bit_and (word x) (word y)))
and-held w x y = ap₂ bit_and (held-power w x) (held-power w y) ∙ sym (and_mod (word x) (word y) (width_bits w))

pub or-held : (w : Width) (x y : ℤ) → bit_or (held w x) (held w y) ≡ held w (pos (bit_or (word x) (word y)))
or-held w x y = ap₂ bit_or (held-power w x) (held-power w y) ∙ sym (or_mod (word x) (word y) (width_bits w))

pub xor-held : (w : Width) (x y : ℤ) → bit_xor (held w x) (held w y) ≡ held w (pos (bit_xor (word x) (word y)))
xor-held w x y = ap₂ bit_xor (held-power w x) (held-power w y) ∙ sym (xor_mod (word x) (word y) (width_bits w))

-- ---- one operand

negated_low : (w : Width) (b : ℕ) → b < 2 ^ 64 → (modulus w - b % modulus w) % modulus w ≡ (2 ^ 64 - b) % modulus w
negated_low B b k = omega (arith, k)
negated_low other b k = omega (arith, k)

pub neg-held : (w : Width) (x : ℤ) → unary unaries.Neg (modulus w) (held w x) ≡ held w (neg_ℤ x)
neg-held w x =
    ap (λ b. (modulus w - b) % modulus w) (held-word w x) ∙ negated_low w (word x) (word-below x) ∙ sym (held-of w (neg_ℤ x) (2 ^ 64 - word x) (word-neg x))

word-flipped : (x : ℤ) → word (neg_ℤ x -ℤ pos 1) ≡ 2 ^ 64 - 1 - word x
word-flipped x = word-add (neg_ℤ x) (negsuc 0) ∙ ap (λ n. (n + (2 ^ 64 - 1)) % 2 ^ 64) (word-neg x) ∙ (let h = word-below x in omega arith)

flipped_low : (w : Width) (b : ℕ) → b < 2 ^ 64 → modulus w - 1 - b % modulus w ≡ (2 ^ 64 - 1 - b) % modulus w
flipped_low B b k = omega (arith, k)
flipped_low other b k = omega (arith, k)

pub not-held : (w : Width) (x : ℤ) → unary unaries.Not (modulus w) (held w x) ≡ held w (neg_ℤ x -ℤ pos 1)
not-held w x =
    ap (λ b. modulus w - 1 - b) (held-word w x) ∙ flipped_low w (word x) (word-below x)
    ∙ sym (held-word w (neg_ℤ x -ℤ pos 1) ∙ ap (λ n. n % modulus w) (word-flipped x))

-- ---- what a lane holds of a value in its range

pub held-up : (w : Width) (n : ℕ) → n < 2 ^ (width_bits w - 1) → held w (pos n) ≡ n
held-up B n h = omega (arith, h)
held-up other n h = omega (arith, h)

pub held-down : (w : Width) (n : ℕ) → n < 2 ^ (width_bits w - 1) → held w (negsuc n) ≡ modulus w - 1 - n
held-down B n h = omega (arith, h)
held-down other n h = omega (arith, h)

pub held-plain : (w : Width) (n : ℕ) → n < 2 ^ width_bits w → held w (pos n) ≡ n
held-plain w n h = mod-eq_of_lt h

-- half of the values of an element
pub half : (w : Width) → modulus w / 2 ≡ 2 ^ (width_bits w - 1)
half B = refl
half other = refl

pub halves : (w : Width) → 2 ^ (width_bits w - 1) + 2 ^ (width_bits w - 1) ≡ modulus w
halves B = refl
halves other = refl

-- the absolute value of one that is negative
up_again : (w : Width) (n : ℕ) → n < 2 ^ (width_bits w - 1) → (modulus w - (modulus w - 1 - n)) % modulus w ≡ held w (pos (suc n))
up_again B n h = omega (arith, h)
up_again other n h = omega (arith, h)

pub abs-held : (w : Width) (x : ℤ) → InBits true (width_bits w) x → unary unaries.Abs (modulus w) (held w x) ≡ held w (pos (unsigned_abs x))
abs-held w (pos n) h =
    ap (unary unaries.Abs (modulus w)) (held-up w n h) ∙ cond-true _ _ _ (lt-ltb n (modulus w / 2) (omega (arith, half w, h))) ∙ sym (held-up w n h)
abs-held w (negsuc n) h =
    ap (unary unaries.Abs (modulus w)) (held-down w n h)
    ∙ cond-false _ _ _ (le-ltb (modulus w - 1 - n) (modulus w / 2) (omega (arith, half w, halves w, h)))
    ∙ up_again w n h

-- ---- shifts

pub lsl-held : (w : Width) (x : ℤ) (c : ℕ) → shifted shifts.Lsl (modulus w) (held w x) c ≡ held w (x *ℤ pos (2 ^ c))
lsl-held w x c =
    ap (λ a. a * 2 ^ c % modulus w) (held-word w x) ∙ mul-mod_first (word x) (2 ^ c) (modulus w)
    ∙ sym (held-of w (x *ℤ pos (2 ^ c)) (word x * 2 ^ c) (sym (word-shl x c)))

pub lsr-held : (w : Width) (x : ℤ) (c : ℕ) → InBits false (width_bits w) x → shifted shifts.Lsr (modulus w) (held w x) c ≡ held w (int_shr x c)
lsr-held w (pos n) c h =
    let le = div-le_self n (2 ^ c) in
    ap (λ a. a / 2 ^ c) (held-plain w n h) ∙ sym (held-plain w (n / 2 ^ c) (omega (arith, h, le)))
lsr-held w (negsuc n) c h = absurd h

-- the quotient of what is left below a multiple
quotient_below : (p q n : ℕ) → 0 < p → n < p * q → (p * q - 1 - n) / p ≡ q - 1 - n / p
quotient_below p q n some h =
    let u = n / p in
    let v = n % p in
    let split : p * u + v ≡ n = div-add-mod n p in
    let small : v < p = mod-lt n some in
    let under : u < q = under_from u v split in
    let parts : q ≡ (q - 1 - u) + (u + 1) = omega arith in
    let whole : p * q ≡ p * (q - 1 - u) + (p * u + p) = ap (λ m. p * m) parts ∙ mul-add p (q - 1 - u) (u + 1) ∙ ap (λ m. p * (q - 1 - u) + m) (mul-add p u 1 ∙ ap (λ m. p * u + m) (let one : p * 1 ≡ p = omega arith in one)) in
    let rest : p * q - 1 - n ≡ (p - 1 - v) + p * (q - 1 - u) = omega arith in
    ap (λ m. m / p) rest ∙ add-mul-div_left (p - 1 - v) (q - 1 - u) some ∙ ap (λ m. m + (q - 1 - u)) (div-eq_of_lt (let lt : p - 1 - v < p = omega arith in lt)) ∙ zero-add (q - 1 - u)
  where
    under_from : (u v : ℕ) → p * u + v ≡ n → u < q
    under_from u v split = elim (cases_lt u q) [ inl lt ↦ lt | inr ge ↦ absurd (let m : p * q ≤ p * u = mul-le-mul_left p ge in omega arith) ]

pub asr-held : (w : Width) (x : ℤ) (c : ℕ) → c ≤ width_bits w → InBits true (width_bits w) x → shifted shifts.Asr (modulus w) (held w x) c ≡ held w (int_shr x c)
asr-held w (pos n) c short h =
    let le = div-le_self n (2 ^ c) in
    ap (λ a. shifted shifts.Asr (modulus w) a c) (held-up w n h)
    ∙ ap (λ m. n / 2 ^ c + m) (cond-true _ _ _ (lt-ltb n (modulus w / 2) (omega (arith, half w, h))))
    ∙ (let none : n / 2 ^ c + 0 ≡ n / 2 ^ c = omega arith in none) ∙ sym (held-up w (n / 2 ^ c) (omega (arith, h, le)))
asr-held w (negsuc n) c short h =
    let p = 2 ^ c in
    let q = 2 ^ (width_bits w - c) in
    let some : 0 < p = omega (arith, one-le-pow c 2 (omega arith)) in
    let more : 0 < q = omega (arith, one-le-pow (width_bits w - c) 2 (omega arith)) in
    let split : modulus w ≡ p * q = modulus-power w ∙ ap (λ n. 2 ^ n) (let all : width_bits w ≡ c + (width_bits w - c) = omega arith in all) ∙ pow-add 2 c (width_bits w - c) in
    let under : n < p * q = omega (arith, split, halves w, h) in
    let le = div-le_self n p in
    let quotient : modulus w / p ≡ q = ap (λ m. m / p) (split ∙ (let z : p * q ≡ 0 + p * q = omega arith in z)) ∙ add-mul-div_left 0 q some ∙ ap (λ m. m + q) (div-eq_of_lt some) ∙ zero-add q in
    let up : q ≤ modulus w = (let m : 1 * q ≤ p * q = mul-le-mul_right q (let one : 1 ≤ p = omega arith in one) in omega arith) in
    let low_part : (modulus w - 1 - n) / p ≡ q - 1 - n / p = ap (λ m. (m - 1 - n) / p) split ∙ quotient_below p q n some under in
    let small : n / p < q = quotient_under p q n some under in
    ap (λ a. shifted shifts.Asr (modulus w) a c) (held-down w n h)
    ∙ ap₂ (λ a m. a + m) low_part (cond-false _ _ _ (le-ltb (modulus w - 1 - n) (modulus w / 2) (omega (arith, half w, halves w, h))))
    ∙ ap (λ m. (q - 1 - n / p) + (modulus w - m)) quotient
    ∙ (let sum : (q - 1 - n / p) + (modulus w - q) ≡ modulus w - 1 - n / p = omega arith in sum)
    ∙ sym (held-down w (n / p) (omega (arith, h, le)))
  where
    quotient_under : (p q n : ℕ) → 0 < p → n < p * q → n / p < q
    quotient_under p q n some h =
        let split = div-add-mod n p in
        elim (cases_lt (n / p) q) [ inl lt ↦ lt | inr ge ↦ absurd (let m : p * q ≤ p * (n / p) = mul-le-mul_left p ge in omega (arith, split)) ]
