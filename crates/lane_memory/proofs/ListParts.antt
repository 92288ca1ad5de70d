-- Parts of a list in which others were written.
use Rattle.std.proofs.Common.{◌≡◌, ℕ, suc, ◌+◌, ◌-◌, ◌*◌, ◌%◌, ◌<◌, ◌≤◌, ◌⊎◌, inl, inr, List, ◌++◌, length, take, drop, sym, ap, ap₂, ◌∙◌, arith}
use Rattle.std.proofs.lemmas.List.{drop-drop, drop-take, take-take, take-append-le, drop-append-le, length-take-le, length-drop, take_all}
use Rattle.std.proofs.Math.Seq.{drop-append-add}
use Rattle.std.proofs.Math.Nat.{mul-suc, mul-add, mul-le-mul_left}
use lib.Lanes.{chunk}
use Rattle.guest_types.specs.declared.length.Width.{Width}
use Rattle.guest_types.specs.Length.{width_bytes, modulus, all_lanes}
use Rattle.guest_types.specs.Elements.{number_of_bytes, bytes_of, at}
use Rattle.guest_types.proofs.Widths.{whole-register, modulus-is}
use Rattle.guest_types.proofs.Numbers.{length-bytes_of, number-bytes_of}

-- n bytes from a place on replaced by others
abbrev pub put : ℕ → ℕ → List ℕ → List ℕ → List ℕ
put at n w bs = take at bs ++ (w ++ drop n (drop at bs))

pub chunk-before : (at n : ℕ) (w bs : List ℕ) (i m : ℕ) → i + m ≤ at → at ≤ length bs → chunk i m (put at n w bs) ≡ chunk i m bs
chunk-before at n w bs i m l fits =
    let front = take at bs in
    let rest = w ++ drop n (drop at bs) in
    let long = length-take-le at bs fits in
    let up : at ≡ i + (at - i) = omega arith in
    ap (take m) (drop-append-le i front rest (omega (arith, long)))
    ∙ take-append-le m (drop i front) rest (omega (arith, length-drop i front, long))
    ∙ ap (λ j. take m (drop i (take j bs))) up ∙ ap (take m) (drop-take i (at - i) bs) ∙ take-take m (at - i) (drop i bs) (omega arith)

pub chunk-inside : (at n : ℕ) (w bs : List ℕ) (i m : ℕ) → i + m ≤ length w → at ≤ length bs → chunk (at + i) m (put at n w bs) ≡ chunk i m w
chunk-inside at n w bs i m l fits =
    let front = take at bs in
    let tail = drop n (drop at bs) in
    let long = length-take-le at bs fits in
    ap (λ j. take m (drop (j + i) (front ++ (w ++ tail)))) (sym long)
    ∙ ap (take m) (drop-append-add front (w ++ tail) i ∙ drop-append-le i w tail (omega arith))
    ∙ take-append-le m (drop i w) tail (omega (arith, length-drop i w))

pub chunk-after : (at n : ℕ) (w bs : List ℕ) (i m : ℕ) → length w ≡ n → at + n ≤ i → at ≤ length bs → chunk i m (put at n w bs) ≡ chunk i m bs
chunk-after at n w bs i m size l fits =
    let front = take at bs in
    let tail = drop n (drop at bs) in
    let long = length-take-le at bs fits in
    let d = i - at - n in
    let split : i ≡ at + (n + d) = omega arith in
    ap (λ j. take m (drop j (front ++ (w ++ tail)))) (split ∙ ap (λ j. j + (n + d)) (sym long))
    ∙ ap (take m) (
    drop-append-add front (w ++ tail) (n + d)
    ∙ ap (λ j. drop (j + d) (w ++ tail)) (sym size) ∙ drop-append-add w tail d
    ∙ drop-drop d n (drop at bs) ∙ drop-drop (n + d) at bs ∙ ap (λ j. drop j bs) (sym split)
    )

-- elements of a register in which n elements from e on were written
module _ (w : Width) (z part : List ℕ) (e n : ℕ) (long : length z ≡ 256) (fits : e + n ≤ all_lanes w) (size : length part ≡ width_bytes w * n) where
  abbrev k : ℕ
  k = width_bytes w

  abbrev now : List ℕ
  now = put (width_bytes w * e) (width_bytes w * n) part z

  lanes_within_register : width_bytes w * e + width_bytes w * n ≤ 256
  lanes_within_register = omega (arith, whole-register w, mul-add (width_bytes w) e n, mul-le-mul_left (width_bytes w) fits)

  pub at-written : (i : ℕ) → i < n → at w (put (width_bytes w * e) (width_bytes w * n) part z) (e + i) ≡ number_of_bytes (chunk (width_bytes w * i) (width_bytes w) part)
  at-written i l =
      let k = width_bytes w in
      let up : k * suc i ≤ k * n = mul-le-mul_left k (let u : suc i ≤ n = l in u) in
      ap (λ j. number_of_bytes (chunk j k (put (k * e) (k * n) part z))) (mul-add k e i)
      ∙ ap number_of_bytes (chunk-inside (k * e) (k * n) part z (k * i) k (omega (arith, up, mul-suc k i, size)) (omega (arith, lanes_within_register, long)))

  pub at-unwritten : (i : ℕ) → (i < e) ⊎ (e + n ≤ i) → at w (put (width_bytes w * e) (width_bytes w * n) part z) i ≡ at w z i
  at-unwritten i (inl l) =
      let k = width_bytes w in
      let up : k * suc i ≤ k * e = mul-le-mul_left k (let u : suc i ≤ e = l in u) in
      ap number_of_bytes (chunk-before (k * e) (k * n) part z (k * i) k (omega (arith, up, mul-suc k i)) (omega (arith, lanes_within_register, long)))
  at-unwritten i (inr l) =
      let k = width_bytes w in
      let up : k * (e + n) ≤ k * i = mul-le-mul_left k l in
      ap number_of_bytes (chunk-after (k * e) (k * n) part z (k * i) k size (omega (arith, up, mul-add k e n)) (omega (arith, lanes_within_register, long)))

-- one element written
pub at-one : (w : Width) (z : List ℕ) (e x : ℕ) → length z ≡ 256 → e < all_lanes w → at w (put (width_bytes w * e) (width_bytes w) (bytes_of (width_bytes w) x) z) e ≡ x % modulus w
at-one w z e x long inside =
    let k = width_bytes w in
    let part = bytes_of k x in
    let size : length part ≡ k * 1 = length-bytes_of k x ∙ (let q : k ≡ k * 1 = omega arith in q) in
    ap₂ (λ m i. at w (put (k * e) m part z) i) (let q : k ≡ k * 1 = omega arith in q) (let q : e ≡ e + 0 = omega arith in q)
    ∙ at-written w z part e 1 long (omega arith) size 0 (omega arith)
    ∙ ap (λ j. number_of_bytes (chunk j k part)) (let q : k * 0 ≡ 0 = omega arith in q)
    ∙ ap number_of_bytes (take_all k part (omega (arith, length-bytes_of k x)))
    ∙ number-bytes_of k x ∙ ap (λ n. x % n) (sym (modulus-is w))

pub at-other : (w : Width) (z : List ℕ) (e x i : ℕ) → length z ≡ 256 → e < all_lanes w → (i < e) ⊎ (e < i) → at w (put (width_bytes w * e) (width_bytes w) (bytes_of (width_bytes w) x) z) i ≡ at w z i
at-other w z e x i long inside apart =
    let k = width_bytes w in
    let part = bytes_of k x in
    let size : length part ≡ k * 1 = length-bytes_of k x ∙ (let q : k ≡ k * 1 = omega arith in q) in
    ap (λ m. at w (put (k * e) m part z) i) (let q : k ≡ k * 1 = omega arith in q)
    ∙ at-unwritten w z part e 1 long (omega arith) size i (elim apart [ inl l ↦ inl l | inr g ↦ inr (omega arith) ])
