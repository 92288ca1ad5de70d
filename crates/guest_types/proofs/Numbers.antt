-- Numbers and their bytes.
use Rattle.std.proofs.Common.{◌≡◌, ℕ, zero, suc, ◌+◌, ◌*◌, ◌/◌, ◌%◌, ◌^◌, ◌<◌, ◌≤◌, List, [], ◌∷◌, ◌++◌, length, refl, sym, ap, ◌∙◌, arith, add-one}
use Rattle.std.proofs.Math.Nat.{pow-suc, pow-le-pow_right, one-le-pow, div-one, mod-one, mul_comm, div-div-eq-div-mul, add-mul-mod_self_left, mod-eq_of_lt, div-eq_of_lt, add-mul-div_left}
use lib.Arith.{mod-mul}
use lib.Lanes.{Each1}
use Rattle.guest_types.specs.Elements.{number_of_bytes, bytes_of}

pub length-bytes_of : (k x : ℕ) → length (bytes_of k x) ≡ k
length-bytes_of zero x = refl
length-bytes_of (suc k) x = ap suc (length-bytes_of k (x / 256))

pub power-below : (i : ℕ) → i < 8 → (v b : ℕ) → v < 256 ^ i → b < 256 → (v * 256 + b < 256 ^ (i + 1)) × (256 ^ (i + 1) ≤ 2 ^ 64)
power-below i h v b p q =
    let e : 256 ^ (i + 1) ≡ 256 ^ i * 256 = ap (λ n. 256 ^ n) (add-one i) ∙ pow-suc 256 i in
    let up : 256 ^ (i + 1) ≤ 256 ^ 8 = pow-le-pow_right {n = 256} (omega arith) {i = i + 1} {j = 8} (omega arith) in
    (omega arith, up)

pub shifted : (x k : ℕ) → x / 256 ^ suc k ≡ x / 256 / 256 ^ k
shifted x k = ap (λ n. x / n) (pow-suc 256 k ∙ mul_comm (256 ^ k) 256) ∙ sym (div-div-eq-div-mul x 256 (256 ^ k))

pub shifted-more : (x k : ℕ) → x / 256 ^ k / 256 ≡ x / 256 ^ (k + 1)
shifted-more x k = div-div-eq-div-mul x (256 ^ k) 256 ∙ ap (λ n. x / n) (sym (pow-suc 256 k) ∙ ap (λ n. 256 ^ n) (sym (add-one k)))

pub bytes_of-more : (k x : ℕ) → bytes_of (k + 1) x ≡ bytes_of k x ++ (x / 256 ^ k % 256) ∷ []
bytes_of-more k x = ap (λ n. bytes_of n x) (add-one k) ∙ go k x
  where
    go : (k x : ℕ) → bytes_of (suc k) x ≡ bytes_of k x ++ (x / 256 ^ k % 256) ∷ []
    go zero x = ap (λ n. n % 256 ∷ []) (sym (div-one x))
    go (suc k) x = ap (λ l. x % 256 ∷ l) (go k (x / 256) ∙ ap (λ n. bytes_of k (x / 256) ++ (n % 256) ∷ []) (sym (shifted x k)))

pub number-bytes_of : (k x : ℕ) → number_of_bytes (bytes_of k x) ≡ x % 256 ^ k
number-bytes_of zero x = sym (mod-one x)
number-bytes_of (suc k) x =
    let e = number-bytes_of k (x / 256) in
    let some : 0 < 256 ^ k = omega (arith, one-le-pow k 256 (omega arith)) in
    let m : x % 256 ^ suc k ≡ (x / 256 % 256 ^ k) * 256 + x % 256 = ap (λ n. x % n) (pow-suc 256 k) ∙ mod-mul x {m = 256 ^ k} {c = 256} some (omega arith) in
    omega arith

pub digit : (x r : ℕ) → x < 256 → ((x + 256 * r) % 256 ≡ x) × ((x + 256 * r) / 256 ≡ r)
digit x r lt = (add-mul-mod_self_left x 256 r ∙ mod-eq_of_lt lt, omega (arith, add-mul-div_left x r {y = 256} (omega arith), div-eq_of_lt lt))

pub bytes_of-number : (bs : List ℕ) → Each1 (λ b. b < 256) bs → bytes_of (length bs) (number_of_bytes bs) ≡ bs
bytes_of-number [] h = refl
bytes_of-number (b ∷ bs) h =
    let d = digit b (number_of_bytes bs) h.0 in
    ap (λ n. n ∷ bytes_of (length bs) ((b + 256 * number_of_bytes bs) / 256)) d.0 ∙ ap (λ n. b ∷ bytes_of (length bs) n) d.1 ∙ ap (λ l. b ∷ l) (bytes_of-number bs h.1)

pub number-below : (bs : List ℕ) → Each1 (λ b. b < 256) bs → number_of_bytes bs < 256 ^ length bs
number-below [] h = omega arith
number-below (b ∷ bs) h =
    let e : 256 ^ suc (length bs) ≡ 256 ^ length bs * 256 = pow-suc 256 (length bs) in
    let i = number-below bs h.1 in
    let l = h.0 in
    omega arith

-- only the low k bytes count
pub bytes_of-mod : (k x : ℕ) → bytes_of k (x % 256 ^ k) ≡ bytes_of k x
bytes_of-mod k x = ap (bytes_of k) (sym (number-bytes_of k x)) ∙ ap (λ n. bytes_of n (number_of_bytes (bytes_of k x))) (sym (length-bytes_of k x)) ∙ bytes_of-number (bytes_of k x) (below k x)
  where
    below : (k x : ℕ) → Each1 (λ b. b < 256) (bytes_of k x)
    below zero x = tt
    below (suc k) x = (omega arith, below k (x / 256))

-- a number is its lowest three bits, the two above, and the rest
pub split_at_3_and_5 : (v : ℕ) → 32 * (v / 32) + 8 * (v / 8 % 4) + v % 8 ≡ v
split_at_3_and_5 v = omega arith
