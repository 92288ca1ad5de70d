-- An operation of bits that is done on doublewords is done on the elements of each width.
use Rattle.std.proofs.Common.{◌≡◌, ℕ, zero, suc, ◌+◌, ◌-◌, ◌*◌, ◌/◌, ◌%◌, ◌^◌, ◌<◌, ◌≤◌, List, [], ◌∷◌, length, get_or, take, drop, refl, sym, ap, ap₂, ◌∙◌, subst, arith, bit_and, bit_or, bit_xor, inl, inr}
use Rattle.std.specs.Prelude.{All}
use Rattle.std.proofs.lemmas.Bool.{cases_lt}
use Rattle.std.proofs.lemmas.List.{get_or-drop, get_or_past}
use Rattle.std.proofs.lemmas.List.Elements.{All-get_or}
use Rattle.std.proofs.lemmas.Nat.{shr-shr, pow-add, pow_pos, and_shr, or_shr, xor_shr, and_mod, or_mod, xor_mod}
use Rattle.std.proofs.lemmas.Nat.{mod-pow-add}
use Rattle.std.proofs.Math.Pow.{mod-mod-pow}
use Rattle.std.proofs.Math.Nat.{pow-suc, div-one, mod-one, zero-div, zero-mod, add-mul-div_left, div-eq_of_lt, one-le-pow, mul_comm, mod-lt, zero-add}
use lib.Arith.{mod-mul}
use Rattle.guest_types.specs.declared.length.Width.{Width}
use Rattle.guest_types.specs.declared.length.Width.TheVariants.{B, H, S, D}
use Rattle.guest_types.specs.declared.operation.LaneOp.TheVariants as lane_ops
use Rattle.guest_types.specs.Length.{IsLength, width_bytes, lanes}
use Rattle.guest_types.specs.Elements.{number_of_bytes, element, register, at}
use Rattle.guest_types.specs.Lanes.{binary_at}
use Rattle.guest_types.proofs.Numbers.{shifted, digit}
use Rattle.guest_types.proofs.AtWidths.{at-register}

abbrev pub Small : List ℕ → Type 0
Small bs = (i : ℕ) → get_or bs i 0 < 256

pub small_all : (bs : List ℕ) → All (λ b. b < 256) bs → Small bs
small_all bs h i = elim (cases_lt i (length bs)) [
  | inl lt ↦ All-get_or (λ b. b < 256) bs i 0 lt h
  | inr ge ↦ subst (λ b. b < 256) (sym (get_or_past bs i 0 ge)) (omega arith)
]

-- ---- the number of a part

number-drop : (bs : List ℕ) (j : ℕ) → Small bs → number_of_bytes (drop j bs) ≡ number_of_bytes bs / 256 ^ j
number-drop bs zero h = sym (div-one (number_of_bytes bs))
number-drop [] (suc j) h = sym (zero-div (256 ^ suc j))
number-drop (b ∷ bs) (suc j) h =
    number-drop bs j (λ i. h (suc i)) ∙ ap (λ n. n / 256 ^ j) (sym (digit b (number_of_bytes bs) (h 0)).1) ∙ sym (shifted (b + 256 * number_of_bytes bs) j)

number-take : (bs : List ℕ) (k : ℕ) → Small bs → number_of_bytes (take k bs) ≡ number_of_bytes bs % 256 ^ k
number-take bs zero h = sym (mod-one (number_of_bytes bs))
number-take [] (suc k) h = sym (zero-mod (256 ^ suc k))
number-take (b ∷ bs) (suc k) h =
    let e = number-take bs k (λ i. h (suc i)) in
    let x = b + 256 * number_of_bytes bs in
    let d = digit b (number_of_bytes bs) (h 0) in
    let some : 0 < 256 ^ k = omega (arith, one-le-pow k 256 (omega arith)) in
    let m : x % 256 ^ suc k ≡ (x / 256 % 256 ^ k) * 256 + x % 256 = ap (λ n. x % n) (pow-suc 256 k) ∙ mod-mul x {m = 256 ^ k} {c = 256} some (omega arith) in
    let q : x / 256 % 256 ^ k ≡ number_of_bytes bs % 256 ^ k = ap (λ n. n % 256 ^ k) d.1 in
    omega (arith, e, m, q, d.0)

bytes_bits : (j : ℕ) → 256 ^ j ≡ 2 ^ (8 * j)
bytes_bits zero = refl
bytes_bits (suc j) = pow-suc 256 j ∙ ap (λ n. n * 256) (bytes_bits j) ∙ sym (ap (λ n. 2 ^ n) (let e : 8 * suc j ≡ 8 * j + 8 = omega arith in e) ∙ pow-add 2 (8 * j) 8)

-- an element as a part of the register's number
element-part : (k e : ℕ) (z : List ℕ) → Small z → element k z e ≡ number_of_bytes z / 2 ^ (8 * (k * e)) % 2 ^ (8 * k)
element-part k e z h =
    number-take (drop (k * e) z) k (λ i. subst (λ b. b < 256) (sym (get_or-drop (k * e) z i 0)) (h (k * e + i)))
    ∙ ap₂ (λ n m. n % m) (number-drop z (k * e) h ∙ ap (λ m. number_of_bytes z / m) (bytes_bits (k * e))) (bytes_bits k)

-- ---- a part of a part

part_of : (m a b c : ℕ) → b + c ≤ a → m % 2 ^ a / 2 ^ b % 2 ^ c ≡ m / 2 ^ b % 2 ^ c
part_of m a b c le =
    let j = a - b in
    let top : a ≡ j + b = omega arith in
    let inner : j ≡ (j - c) + c = omega arith in
    let some = pow_pos b in
    let cut : m % 2 ^ a ≡ m % 2 ^ b + 2 ^ b * (m / 2 ^ b % 2 ^ j) = ap (λ n. m % 2 ^ n) top ∙ mod-pow-add m j b ∙ (let e = mul_comm (m / 2 ^ b % 2 ^ j) (2 ^ b) in omega arith) in
    let quotient : m % 2 ^ a / 2 ^ b ≡ m / 2 ^ b % 2 ^ j =
    ap (λ n. n / 2 ^ b) cut ∙ add-mul-div_left (m % 2 ^ b) (m / 2 ^ b % 2 ^ j) some
    ∙ ap (λ n. n + m / 2 ^ b % 2 ^ j) (div-eq_of_lt (mod-lt m some)) ∙ zero-add (m / 2 ^ b % 2 ^ j) in
    ap (λ n. n % 2 ^ c) quotient ∙ ap (λ n. m / 2 ^ b % 2 ^ n % 2 ^ c) inner ∙ mod-mod-pow (m / 2 ^ b) (j - c) c

-- the doubleword in which an element stands, and the bit at which it begins there
abbrev block : Width → ℕ → ℕ
block B e = e / 8
block H e = e / 4
block S e = e / 2
block D e = e

abbrev offset : Width → ℕ → ℕ
offset B e = 8 * (e % 8)
offset H e = 16 * (e % 4)
offset S e = 32 * (e % 2)
offset D e = 0

lane_start_by_block : (w : Width) (e : ℕ) → 8 * (width_bytes w * e) ≡ 8 * (8 * block w e) + offset w e
lane_start_by_block B e = omega arith
lane_start_by_block other e = omega arith

lane_ends_within_64 : (w : Width) (e : ℕ) → offset w e + 8 * width_bytes w ≤ 64
lane_ends_within_64 B e = omega arith
lane_ends_within_64 other e = omega arith

pub at-part : (w : Width) (e : ℕ) (z : List ℕ) → Small z → at w z e ≡ at D z (block w e) / 2 ^ offset w e % 2 ^ (8 * width_bytes w)
at-part w e z h =
    let n = number_of_bytes z in
    let base = 8 * (8 * block w e) in
    element-part (width_bytes w) e z h
    ∙ ap (λ b. n / 2 ^ b % 2 ^ (8 * width_bytes w)) (lane_start_by_block w e)
    ∙ ap (λ m. m % 2 ^ (8 * width_bytes w)) (sym (shr-shr n base (offset w e)))
    ∙ sym (part_of (n / 2 ^ base) 64 (offset w e) (8 * width_bytes w) (lane_ends_within_64 w e))
    ∙ ap (λ m. m / 2 ^ offset w e % 2 ^ (8 * width_bytes w)) (sym (element-part 8 (block w e) z h))

module _ (f : ℕ → ℕ → ℕ) (shr : (a b k : ℕ) → f a b / 2 ^ k ≡ f (a / 2 ^ k) (b / 2 ^ k)) (cut : (a b k : ℕ) → f a b % 2 ^ k ≡ f (a % 2 ^ k) (b % 2 ^ k)) where
  bits_at : (w : Width) (l r : List ℕ) (g : ℕ → ℕ) (n e : ℕ) → ((i : ℕ) → g i ≡ f (at D l i) (at D r i)) → Small l → Small r → Small (register 8 g n) → block w e < n → at w (register 8 g n) e ≡ f (at w l e) (at w r e)
  bits_at w l r g n e is sl sr sz lt =
      let b = offset w e in
      let c = 8 * width_bytes w in
      let i = block w e in
      at-part w e (register 8 g n) sz
      ∙ ap (λ m. m / 2 ^ b % 2 ^ c) (at-register D g n i lt ∙ ap (λ m. m % 2 ^ 64) (is i))
      ∙ part_of (f (at D l i) (at D r i)) 64 b c (lane_ends_within_64 w e)
      ∙ ap (λ m. m % 2 ^ c) (shr (at D l i) (at D r i) b) ∙ cut (at D l i / 2 ^ b) (at D r i / 2 ^ b) c
      ∙ sym (ap₂ f (at-part w e l sl) (at-part w e r sr))

-- where the elements of a vector length stand
block-inside : (vl : ℕ) (w : Width) (e : ℕ) → IsLength vl → e < lanes vl w → block w e < lanes vl D
block-inside vl B e h lt = omega (arith, h, lt)
block-inside vl H e h lt = omega (arith, h, lt)
block-inside vl S e h lt = omega (arith, h, lt)
block-inside vl D e h lt = lt

pub and-at : (vl : ℕ) (w : Width) (l r : List ℕ) (e : ℕ) → IsLength vl → Small l → Small r → Small (register 8 (binary_at lane_ops.And D l r) (lanes vl D)) → e < lanes vl w → at w (register 8 (binary_at lane_ops.And D l r) (lanes vl D)) e ≡ bit_and (at w l e) (at w r e)
and-at vl w l r e h sl sr sz lt = bits_at bit_and and_shr and_mod w l r (binary_at lane_ops.And D l r) (lanes vl D) e (λ i. refl) sl sr sz (block-inside vl w e h lt)

pub or-at : (vl : ℕ) (w : Width) (l r : List ℕ) (e : ℕ) → IsLength vl → Small l → Small r → Small (register 8 (binary_at lane_ops.Or D l r) (lanes vl D)) → e < lanes vl w → at w (register 8 (binary_at lane_ops.Or D l r) (lanes vl D)) e ≡ bit_or (at w l e) (at w r e)
or-at vl w l r e h sl sr sz lt = bits_at bit_or or_shr or_mod w l r (binary_at lane_ops.Or D l r) (lanes vl D) e (λ i. refl) sl sr sz (block-inside vl w e h lt)

pub xor-at : (vl : ℕ) (w : Width) (l r : List ℕ) (e : ℕ) → IsLength vl → Small l → Small r → Small (register 8 (binary_at lane_ops.Xor D l r) (lanes vl D)) → e < lanes vl w → at w (register 8 (binary_at lane_ops.Xor D l r) (lanes vl D)) e ≡ bit_xor (at w l e) (at w r e)
xor-at vl w l r e h sl sr sz lt = bits_at bit_xor xor_shr xor_mod w l r (binary_at lane_ops.Xor D l r) (lanes vl D) e (λ i. refl) sl sr sz (block-inside vl w e h lt)
