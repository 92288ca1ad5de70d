-- Registers as lists of elements.
use Rattle.std.proofs.Common.{◌≡◌, ℕ, zero, suc, ◌+◌, ◌-◌, ◌*◌, ◌%◌, ◌^◌, ◌<◌, ◌≤◌, List, [], ◌∷◌, ◌++◌, length, get_or, take, drop, replicate, refl, sym, ap, ap₂, ◌∙◌, arith, add-one, append_assoc, inl, inr, length-append, subst}
use Rattle.std.proofs.lemmas.List.{take_at, drop_at, drop-replicate, append-nil, length-replicate, drop-drop, drop-take, take-take, take_all, length-take-le, length-drop, take-append-drop}
use Rattle.std.proofs.lemmas.Bool.{cases_lt}
use Rattle.std.proofs.Math.Nat.{mul-suc, mul-add, mul-zero, mul-le-mul_left, mul_assoc, add-suc, add-zero}
use borrow.Rule.Slice.PartMut.{put_mid}
use lib.Lanes.{chunk}
use Rattle.guest_types.specs.Elements.{number_of_bytes, bytes_of}
use Rattle.guest_types.specs.Elements.{element, elements, register, with_element}
use lib.Lanes.{Each1}
use Rattle.std.proofs.lemmas.Simd.{Each1-from_get_or}
use Rattle.std.proofs.lemmas.List.{get_or-take, get_or-drop, length-take, get_or_past}
use Rattle.guest_types.proofs.Numbers.{length-bytes_of, number-bytes_of, bytes_of-number}

pub length-elements : (k : ℕ) (f : ℕ → ℕ) (n : ℕ) → length (elements k f n) ≡ k * n
unfolding elements
length-elements k f zero = omega arith
length-elements k f (suc n) = omega (arith, length-append (elements k f n) (bytes_of k (f n)), length-elements k f n, length-bytes_of k (f n), mul-suc k n)

pub elements-ext : (k : ℕ) (f g : ℕ → ℕ) (n : ℕ) → ((e : ℕ) → e < n → f e ≡ g e) → elements k f n ≡ elements k g n
unfolding elements
elements-ext k f g zero h = refl
elements-ext k f g (suc n) h = ap₂ ◌++◌ (elements-ext k f g n (λ e l. h e (omega arith))) (ap (bytes_of k) (h n (omega arith)))

pub elements-split : (k : ℕ) (f : ℕ → ℕ) (m n : ℕ) → elements k f (m + n) ≡ elements k f m ++ elements k (λ e. f (m + e)) n
unfolding elements
elements-split k f m zero = ap (elements k f) (add-zero m) ∙ sym (append-nil (elements k f m))
elements-split k f m (suc n) =
    ap (elements k f) (add-suc m n) ∙ ap (λ l. l ++ bytes_of k (f (m + n))) (elements-split k f m n)
    ∙ append_assoc (elements k f m) (elements k (λ e. f (m + e)) n) (bytes_of k (f (m + n)))

pub elements-more : (k : ℕ) (f : ℕ → ℕ) (n : ℕ) → elements k f (n + 1) ≡ elements k f n ++ bytes_of k (f n)
unfolding elements
elements-more k f n = ap (elements k f) (add-one n)

pub chunk-elements : (k : ℕ) (f : ℕ → ℕ) (n e : ℕ) (zs : List ℕ) → e < n → chunk (k * e) k (elements k f n ++ zs) ≡ bytes_of k (f e)
unfolding elements
chunk-elements k f zero e zs h = absurd (omega arith)
chunk-elements k f (suc n) e zs h =
    elim (cases_lt e n) [
      | inl l ↦ ap (chunk (k * e) k) (append_assoc (elements k f n) (bytes_of k (f n)) zs) ∙ chunk-elements k f n e (bytes_of k (f n) ++ zs) l
      | inr g ↦
          let same : n ≡ e = omega arith in
          ap (λ j. chunk (k * e) k (elements k f n ++ bytes_of k (f j) ++ zs)) same
          ∙ ap (take k) (ap (drop (k * e)) (append_assoc (elements k f n) (bytes_of k (f e)) zs) ∙ drop_at (elements k f n) (bytes_of k (f e) ++ zs) (k * e) (length-elements k f n ∙ ap (λ j. k * j) same))
          ∙ take_at (bytes_of k (f e)) zs k (length-bytes_of k (f e))
    ]

-- what element e of a register is
pub element-register : (k : ℕ) (f : ℕ → ℕ) (n e : ℕ) → e < n → element k (register k f n) e ≡ f e % 256 ^ k
element-register k f n e h = ap number_of_bytes (chunk-elements k f n e (replicate (256 - k * n) 0) h) ∙ number-bytes_of k (f e)

pub register-ext : (k : ℕ) (f g : ℕ → ℕ) (n : ℕ) → ((e : ℕ) → e < n → f e ≡ g e) → register k f n ≡ register k g n
register-ext k f g n h = ap (λ l. l ++ replicate (256 - k * n) 0) (elements-ext k f g n h)

pub length-register : (k : ℕ) (f : ℕ → ℕ) (n : ℕ) → k * n ≤ 256 → length (register k f n) ≡ 256
length-register k f n h = omega (arith, length-append (elements k f n) (replicate (256 - k * n) 0), length-elements k f n, length-replicate (256 - k * n) (let z : ℕ = 0 in z))

put-next : (xs ys : List ℕ) (a b m : ℕ) → length xs ≡ a → put_mid a b (xs ++ replicate m 0) ys ≡ (xs ++ ys) ++ replicate (m - b) 0
put-next xs ys a b m e =
    ap₂ (λ l r. l ++ (ys ++ r)) (take_at xs (replicate m 0) a e) (ap (drop b) (drop_at xs (replicate m 0) a e) ∙ drop-replicate b m 0)
    ∙ sym (append_assoc xs ys (replicate (m - b) 0))

-- the step of a loop that writes element n
pub register-more : (k : ℕ) (f : ℕ → ℕ) (n a b : ℕ) (ys : List ℕ) → a ≡ k * n → b ≡ k → ys ≡ bytes_of k (f n) → put_mid a b (register k f n) ys ≡ register k f (n + 1)
register-more k f n a b ys ea eb ey =
    put-next (elements k f n) ys a b (256 - k * n) (length-elements k f n ∙ sym ea)
    ∙ ap₂ (λ l r. l ++ replicate r 0) (ap (λ l. elements k f n ++ l) ey ∙ sym (elements-more k f n)) (omega (arith, ap (λ j. k * j) (add-one n), mul-suc k n))

-- the step of a loop that puts element n
pub put-register : (k : ℕ) (f : ℕ → ℕ) (n x : ℕ) → x ≡ f n → with_element k (register k f n) n x ≡ register k f (n + 1)
put-register k f n x e = register-more k f n (k * n) k (bytes_of k x) refl refl (ap (bytes_of k) e)

-- the same after a call of `put`, whose clause is `put`
pub put-more : (k : ℕ) (f : ℕ → ℕ) (n x : ℕ) (was now : List ℕ) → was ≡ register k f n → now ≡ with_element k was n x → x ≡ f n → now ≡ register k f (n + 1)
put-more k f n x was now inv put e = put ∙ ap (λ z. with_element k z n x) inv ∙ put-register k f n x e

-- ---- a list of bytes is the list of its elements
pub chunk-take : (i n m : ℕ) (z : List ℕ) → i + n ≤ m → chunk i n (take m z) ≡ chunk i n z
chunk-take i n m z h =
    ap (λ j. take n (drop i (take j z))) (let e : m ≡ i + (m - i) = omega arith in e) ∙ ap (take n) (drop-take i (m - i) z) ∙ take-take n (m - i) (drop i z) (omega arith)

pub chunk-all_bytes : (i n : ℕ) (z : List ℕ) → ((j : ℕ) → get_or z j 0 < 256) → Each1 (λ b. b < 256) (chunk i n z)
chunk-all_bytes i n z h =
    Each1-from_get_or (λ b. b < 256) (chunk i n z) 0 (λ j l.
    subst (λ b. b < 256) (sym (get_or-take n (drop i z) j 0 (omega (arith, length-take n (drop i z))) ∙ get_or-drop i z j 0)) (h (i + j)))

pub elements-of : (k : ℕ) (f : ℕ → ℕ) (n : ℕ) (z : List ℕ) → length z ≡ k * n → ((j : ℕ) → get_or z j 0 < 256) → ((e : ℕ) → e < n → element k z e ≡ f e) → z ≡ elements k f n
unfolding elements
elements-of k f zero z long small each = nil z (omega (arith, mul-zero k))
  where
    nil : (z : List ℕ) → length z ≡ 0 → z ≡ []
    nil [] e = refl
    nil (x ∷ z) e = absurd (omega arith)
elements-of k f (suc n) z long small each =
    let long' : length z ≡ k * n + k = omega (arith, mul-suc k n) in
    let front = take (k * n) z in
    let back = drop (k * n) z in
    let length-front : length front ≡ k * n = length-take-le (k * n) z (omega arith) in
    let length-back : length back ≡ k = omega (arith, length-drop (k * n) z) in
    let last : chunk (k * n) k z ≡ back = take_all k back (omega arith) in
    sym (take-append-drop (k * n) z)
    ∙ ap₂ ◌++◌
    (elements-of k f n front length-front
    (λ j. elim (cases_lt j (k * n)) [
      | inl l ↦ subst (λ b. b < 256) (sym (get_or-take (k * n) z j 0 l)) (small j)
      | inr g ↦ subst (λ b. b < 256) (sym (get_or_past front j 0 (omega arith))) (omega arith)
    ])
    (λ e l. ap number_of_bytes (chunk-take (k * e) k (k * n) z (omega (arith, mul-suc k e, mul-le-mul_left k (let u : suc e ≤ n = l in u)))) ∙ each e (omega arith)))
    (sym (bytes_of-number back (subst (λ l. Each1 (λ b. b < 256) l) last (chunk-all_bytes (k * n) k z small)))
    ∙ ap₂ bytes_of length-back (ap number_of_bytes (sym last) ∙ each n (omega arith)))

-- element e of block i, where a block has q elements
pub element-block : (k q i e : ℕ) (z : List ℕ) → e < q → element k (chunk (k * q * i) (k * q) z) e ≡ element k z (q * i + e)
element-block k q i e z l =
    ap number_of_bytes (chunk-take (k * e) k (k * q) (drop (k * q * i) z) (omega (arith, mul-suc k e, mul-le-mul_left k (let u : suc e ≤ q = l in u)))
    ∙ ap (take k) (drop-drop (k * e) (k * q * i) z ∙ ap (λ j. drop j z) (omega (arith, mul-add k (q * i) e, mul_assoc k q i))))
