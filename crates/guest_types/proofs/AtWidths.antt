-- Registers at the four widths, element by element.
use Rattle.std.proofs.Common.{◌≡◌, ℕ, zero, suc, ◌+◌, ◌-◌, ◌*◌, ◌/◌, ◌%◌, ◌<◌, ◌≤◌, Bool, true, false, ◌&&◌, eqb, ltb, List, ◌∷◌, ◌++◌, length, get_or, replicate, refl, sym, ap, ◌∙◌, arith, append_assoc}
use Rattle.std.proofs.lemmas.Bool.{eq-eqb, lt-ltb, ltb-true}
use Rattle.std.proofs.lemmas.List.{append-nil, replicate-append-replicate}
use Rattle.std.proofs.Math.Nat.{add-suc, add-zero, mul-suc, mul-le-mul_left, mul-mod_right, mul-div_cancel_left, div-one}
use Rattle.guest_types.specs.declared.length.Width.{Width}
use Rattle.guest_types.specs.declared.length.Width.TheVariants.{B}
use Rattle.guest_types.specs.Length.{IsLength, width_bytes, lanes, all_lanes, modulus}
use Rattle.guest_types.specs.Elements.{bytes_of, elements, register, at, bit, bits_of, active, element_bit, predicate}
use Rattle.guest_types.proofs.Registers.{element-register, elements-of}
use Rattle.guest_types.proofs.Predicates.{bits-ext, bit-bits_of, bits-small, length-bits_of}
use Rattle.guest_types.proofs.Widths.{modulus-is, whole-register, some-bytes, lane-inside}

-- ---- how many elements

-- the elements of a vector length fill its bytes
pub width_bytes-lanes : (vl : ℕ) (w : Width) → IsLength vl → width_bytes w * lanes vl w ≡ vl / 8
width_bytes-lanes vl B h = omega arith
width_bytes-lanes vl other h = omega arith

pub lanes-bound : (vl : ℕ) (w : Width) → IsLength vl → (2 ≤ lanes vl w) × (lanes vl w ≤ all_lanes w)
lanes-bound vl B h = (omega arith, omega arith)
lanes-bound vl other h = (omega arith, omega arith)

lanes_fit : (w : Width) (n : ℕ) → n ≤ all_lanes w → width_bytes w * n ≤ 256
lanes_fit w n h = omega (arith, whole-register w, mul-le-mul_left (width_bytes w) h)

-- ---- elements of a register that was made

-- element e of a made register is its number's lowest bits
pub at-register : (w : Width) (f : ℕ → ℕ) (n e : ℕ) → e < n → at w (register (width_bytes w) f n) e ≡ f e % modulus w
at-register w f n e l = element-register (width_bytes w) f n e l ∙ ap (λ m. f e % m) (sym (modulus-is w))

bytes_of-zero : (k : ℕ) → bytes_of k 0 ≡ replicate k 0
bytes_of-zero zero = refl
bytes_of-zero (suc k) = ap (λ l. 0 ∷ l) (bytes_of-zero k)

zeros_more : (xs : List ℕ) (k r s : ℕ) → k + r ≡ s → (xs ++ bytes_of k 0) ++ replicate r 0 ≡ xs ++ replicate s 0
zeros_more xs k r s room =
    ap (λ l. (xs ++ l) ++ replicate r 0) (bytes_of-zero k)
    ∙ append_assoc xs (replicate k 0) (replicate r 0)
    ∙ ap (λ l. xs ++ l) (replicate-append-replicate k r 0 ∙ ap (λ m. replicate m 0) room)

-- elements that are zero need not be made
pub register-zeros : (k : ℕ) (f : ℕ → ℕ) (n d : ℕ) → k * (n + d) ≤ 256 → ((e : ℕ) → n ≤ e → e < n + d → f e ≡ 0) → register k f (n + d) ≡ register k f n
unfolding elements
register-zeros k f n zero fits none = ap (register k f) (add-zero n)
register-zeros k f n (suc d) fits none =
    let next : n + suc d ≡ suc (n + d) = add-suc n d in
    let wide : k * (n + suc d) ≡ k * (n + d) + k = ap (λ j. k * j) next ∙ mul-suc k (n + d) in
    let room : k + (256 - k * (n + suc d)) ≡ 256 - k * (n + d) = omega (arith, wide, fits) in
    let rest : register k f (n + d) ≡ register k f n = register-zeros k f n d (omega (arith, wide, fits)) (λ e least below. none e least (omega arith)) in
    ap (λ j. elements k f j ++ replicate (256 - k * (n + suc d)) 0) next
    ∙ ap (λ v. (elements k f (n + d) ++ bytes_of k v) ++ replicate (256 - k * (n + suc d)) 0) (none (n + d) (omega arith) (omega arith))
    ∙ zeros_more (elements k f (n + d)) k (256 - k * (n + suc d)) (256 - k * (n + d)) room
    ∙ rest

-- a register is made of its own elements
pub register-of : (w : Width) (z : List ℕ) → length z ≡ 256 → ((i : ℕ) → get_or z i 0 < 256) → z ≡ register (width_bytes w) (at w z) (all_lanes w)
register-of w z long small =
    elements-of (width_bytes w) (at w z) (all_lanes w) z (long ∙ sym (whole-register w)) small (λ e l. refl)
    ∙ sym (append-nil (elements (width_bytes w) (at w z) (all_lanes w)))
    ∙ ap (λ r. elements (width_bytes w) (at w z) (all_lanes w) ++ replicate r 0) (let none : 0 ≡ 256 - width_bytes w * all_lanes w = omega (arith, whole-register w) in none)

-- ---- elements of a predicate that was made

pub length-predicate : (k : ℕ) (h : ℕ → Bool) (n : ℕ) → length (predicate k h n) ≡ 32
length-predicate k h n = length-bits_of (element_bit k h n) 32

pub bit-predicate : (k : ℕ) (h : ℕ → Bool) (n j : ℕ) → j < 256 → bit (predicate k h n) j ≡ element_bit k h n j
bit-predicate k h n j l = bit-bits_of (element_bit k h n) 32 j l

pub bits_of-ext : (h g : ℕ → Bool) (n : ℕ) → ((j : ℕ) → j < 8 * n → h j ≡ g j) → bits_of h n ≡ bits_of g n
bits_of-ext h g n same = bits-ext g n (bits_of h n) (length-bits_of h n) (bits-small h n) (λ j l. bit-bits_of h n j l ∙ same j l)

-- element e of a made predicate
pub active-predicate : (w : Width) (h : ℕ → Bool) (n e : ℕ) → e < n → e < all_lanes w → active w (predicate (width_bytes w) h n) e ≡ h e
active-predicate w h n e below inside =
    let k = width_bytes w in
    let some = some-bytes w in
    let low = lane-inside w e (all_lanes w) inside (lanes_fit w (all_lanes w) (omega arith)) in
    let group : k * e % k ≡ 0 = mul-mod_right k e in
    let place : k * e / k ≡ e = mul-div_cancel_left e some in
    let up : k * e < k * n = omega (arith, mul-suc k e, some, mul-le-mul_left k (let next : suc e ≤ n = below in next)) in
    bit-predicate k h n (k * e) low
    ∙ ap (λ b. b && ltb (k * e) (k * n) && h (k * e / k)) (eq-eqb (k * e % k) 0 group)
    ∙ ap (λ b. b && h (k * e / k)) (lt-ltb (k * e) (k * n) up) ∙ ap h place

and_same : (a b x y : Bool) → (b ≡ true → x ≡ y) → (a && b && x) ≡ (a && b && y)
and_same true true x y same = same refl
and_same true false x y same = refl
and_same false b x y same = refl

lane_of : (w : Width) (j n : ℕ) → j < width_bytes w * n → j / width_bytes w < n
lane_of B j n h = omega (arith, div-one j)
lane_of other j n h = omega arith

pub predicate-ext : (w : Width) (h g : ℕ → Bool) (n : ℕ) → ((e : ℕ) → e < n → h e ≡ g e) → predicate (width_bytes w) h n ≡ predicate (width_bytes w) g n
predicate-ext w h g n same =
    let k = width_bytes w in
    bits_of-ext (element_bit k h n) (element_bit k g n) 32 (λ j l.
    and_same (eqb (j % k) 0) (ltb j (k * n)) (h (j / k)) (g (j / k)) (λ e. same (j / k) (lane_of w j n (ltb-true j (k * n) e))))
