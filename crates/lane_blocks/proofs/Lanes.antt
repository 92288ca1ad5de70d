-- Vectors of lanes, lane by lane, and the bytes that they are made of.
use Rattle.std.proofs.Common.{◌≡◌, ℕ, zero, suc, ◌+◌, ◌-◌, ◌*◌, ◌/◌, ◌%◌, ◌^◌, ◌<◌, ◌≤◌, Bool, false, cond, List, [], ◌∷◌, map, length, get_or, replicate, refl, sym, ap, ap₂, ◌∙◌, subst, arith}
use mir.Syntax.{Width as Bits}
use mir.Val.{bits, hbits}
use lib.Lanes.{zip2, sel_l, top, Each1, number_l, digits_l}
use Rattle.std.proofs.lemmas.List.{drop_more, get_or-map, length-map, append-nil}
use Rattle.std.proofs.lemmas.Nat.{pow-add}
use Rattle.std.proofs.lemmas.Simd.{tops_compared, get_or_wider, get_or-zip2, length-zip2, length-sel_l, get_or-sel_l, get_or-replicate, length-replicate, Each1-from_get_or}
use Rattle.std.proofs.Math.Nat.{pow-suc, pow-zero, mul-suc, mul-zero, mul_comm, mul-le-mul_left, add-mul-mod_self_left, mod-eq_of_lt, div-eq_of_lt, add-mul-div_left}
use Rattle.guest_types.specs.Elements.{element, elements, number_of_bytes, bytes_of}
use Rattle.guest_types.proofs.Registers.{elements-of, length-elements, chunk-elements}
use Rattle.guest_types.proofs.Numbers.{length-bytes_of, number-bytes_of}

-- n lanes, of which lane e is f e
pub record IsLanes (n : ℕ) (f : ℕ → ℕ) (xs : List ℕ) : Type 0 where
  pub long : length xs ≡ n
  pub lane : (e : ℕ) → e < n → get_or xs e 0 ≡ f e

pub lanes-is : {n : ℕ} {f : ℕ → ℕ} {xs ys : List ℕ} → xs ≡ ys → IsLanes n f ys → IsLanes n f xs
lanes-is {n} {f} is h = subst (IsLanes n f) (sym is) h

pub lanes-ext : {n : ℕ} {f : ℕ → ℕ} {xs : List ℕ} (g : ℕ → ℕ) → IsLanes n f xs → ((e : ℕ) → e < n → f e ≡ g e) → IsLanes n g xs
lanes-ext g h same = record { long = h.long; lane = λ e l. h.lane e l ∙ same e l }

pub lanes-list : (n : ℕ) (xs : List ℕ) → length xs ≡ n → IsLanes n (λ e. get_or xs e 0) xs
lanes-list n xs long = record { long = long; lane = λ e l. refl }

-- `splat`
pub lanes-splat : (n v : ℕ) → IsLanes n (λ e. v) (replicate n v)
lanes-splat n v = record { long = length-replicate {A = ℕ} n v; lane = λ e l. get_or-replicate {A = ℕ} n e v 0 l }

-- an operator on two vectors, and on one
pub lanes-zip : {n : ℕ} {f g : ℕ → ℕ} {xs ys : List ℕ} (op : ℕ → ℕ → ℕ) → IsLanes n f xs → IsLanes n g ys → IsLanes n (λ e. op (f e) (g e)) (zip2 op xs ys)
lanes-zip {n} {f} {g} {xs} {ys} op hx hy = record {
  long = length-zip2 op xs ys (hx.long ∙ sym hy.long) ∙ hx.long;
  lane = λ e l. get_or-zip2 op xs ys e 0 0 0 (omega (arith, hx.long)) (omega (arith, hy.long)) ∙ ap₂ op (hx.lane e l) (hy.lane e l);
}

pub lanes-map : {n : ℕ} {f : ℕ → ℕ} {xs : List ℕ} (op : ℕ → ℕ) → IsLanes n f xs → IsLanes n (λ e. op (f e)) (map op xs)
lanes-map {n} {f} {xs} op hx = record {
  long = length-map xs op ∙ hx.long;
  lane = λ e l. get_or-map op xs e 0 0 (omega (arith, hx.long)) ∙ ap op (hx.lane e l);
}

-- a comparison of two vectors and `select`
abbrev pub selected : Bits → (ℕ → ℕ → Bool) → (us vs xs ys : List ℕ) → List ℕ
selected w t us vs xs ys = sel_l (map (top (hbits w)) (zip2 (λ a b. cond (t a b) (2 ^ bits w - 1) 0) us vs)) xs ys

pub lanes-select : {n : ℕ} {f g p q : ℕ → ℕ} {us vs xs ys : List ℕ} (w : Bits) (t : ℕ → ℕ → Bool) → IsLanes n f us → IsLanes n g vs → IsLanes n p xs → IsLanes n q ys
    → IsLanes n (λ e. cond (t (f e) (g e)) (p e) (q e)) (selected w t us vs xs ys)
lanes-select {n} {f} {g} {p} {q} {us} {vs} {xs} {ys} w t hu hv hx hy =
    let tests = zip2 t us vs in
    let longer : length (zip2 t us vs) ≡ n = length-zip2 t us vs (hu.long ∙ sym hv.long) ∙ hu.long in
    lanes-is (ap (λ m. sel_l m xs ys) (tops_compared w t us vs)) (record {
      long = length-sel_l (zip2 t us vs) xs ys (longer ∙ sym hx.long) (longer ∙ sym hy.long) ∙ longer;
      lane = λ e l.
          get_or-sel_l (zip2 t us vs) xs ys e 0 (omega (arith, longer)) (omega (arith, hx.long)) (omega (arith, hy.long))
          ∙ ap₂ (cond (get_or (zip2 t us vs) e false)) (hx.lane e l) (hy.lane e l)
          ∙ ap (λ b. cond b (p e) (q e)) (get_or-zip2 t us vs e 0 0 false (omega (arith, hu.long)) (omega (arith, hv.long)) ∙ ap₂ t (hu.lane e l) (hv.lane e l));
    })

-- ---- numbers and their digits in base p

digit : (p x r : ℕ) → x < p → ((x + p * r) % p ≡ x) × ((x + p * r) / p ≡ r)
digit p x r lt = (add-mul-mod_self_left x p r ∙ mod-eq_of_lt lt, omega (arith, add-mul-div_left x r {y = p} (omega arith), div-eq_of_lt lt))

digits-number : (p : ℕ) (xs : List ℕ) → Each1 (λ x. x < p) xs → digits_l p (length xs) (number_l p xs) ≡ xs
digits-number p [] h = refl
digits-number p (x ∷ xs) h =
    let d = digit p x (number_l p xs) h.0 in
    ap (λ n. n ∷ digits_l p (length xs) ((x + p * number_l p xs) / p)) d.0 ∙ ap (λ n. x ∷ digits_l p (length xs) n) d.1 ∙ ap (λ l. x ∷ l) (digits-number p xs h.1)

number-digits-below : (p : ℕ) (xs : List ℕ) → Each1 (λ x. x < p) xs → number_l p xs < p ^ length xs
number-digits-below p [] h = omega (arith, pow-zero p)
number-digits-below p (x ∷ xs) h =
    let i = number-digits-below p xs h.1 in
    let l = h.0 in
    let up : p * suc (number_l p xs) ≤ p * p ^ length xs = mul-le-mul_left p i in
    omega (arith, pow-suc p (length xs), mul_comm (p ^ length xs) p, mul-suc p (number_l p xs))

pow-mul : (p k n : ℕ) → p ^ (k * n) ≡ (p ^ k) ^ n
pow-mul p k zero = ap (λ j. p ^ j) (mul-zero k) ∙ pow-zero p ∙ sym (pow-zero (p ^ k))
pow-mul p k (suc n) = ap (λ j. p ^ j) (mul-suc k n) ∙ pow-add p (k * n) k ∙ ap (λ j. j * p ^ k) (pow-mul p k n) ∙ sym (pow-suc (p ^ k) n)

bytes-below : (k x j : ℕ) → get_or (bytes_of k x) j 0 < 256
bytes-below zero x j = omega arith
bytes-below (suc k) x zero = omega arith
bytes-below (suc k) x (suc j) = bytes-below k (x / 256) j

length-digits : (q n x : ℕ) → length (digits_l q n x) ≡ n
length-digits q zero x = refl
length-digits q (suc n) x = ap suc (length-digits q n (x / q))

each-byte : (k x : ℕ) → Each1 (λ b. b < 256) (bytes_of k x)
each-byte zero x = tt
each-byte (suc k) x = (omega arith, each-byte k (x / 256))

-- ---- wide lanes

-- the wide lanes of bytes are their elements
pub lanes-wide : (k q n : ℕ) (a : List ℕ) → q ≡ 256 ^ k → Each1 (λ x. x < 256) a → IsLanes n (element k a) (digits_l q n (number_l 256 a))
lanes-wide k q n a eq small = record {
  long = length-digits q n (number_l 256 a);
  lane = λ e l. get_or_wider 256 k q n a e eq small l;
}

-- the bytes of wide lanes
pub lanes-to_bytes : {n : ℕ} {f : ℕ → ℕ} {xs : List ℕ} (k q : ℕ) → q ≡ 256 ^ k → IsLanes n f xs → Each1 (λ x. x < q) xs → digits_l 256 (k * n) (number_l q xs) ≡ elements k f n
lanes-to_bytes {n} {f} {xs} k q eq h small =
    let z = digits_l 256 (k * n) (number_l q xs) in
    let whole : number_l q xs < 256 ^ (k * n) = subst (λ m. number_l q xs < m) (ap₂ (λ a b. a ^ b) eq h.long ∙ sym (pow-mul 256 k n)) (number-digits-below q xs small) in
    let value : number_l 256 z ≡ number_l q xs = number-bytes_of (k * n) (number_l q xs) ∙ mod-eq_of_lt whole in
    let back : digits_l q n (number_l 256 z) ≡ xs = ap₂ (digits_l q) (sym h.long) value ∙ digits-number q xs small in
    elements-of k f n z (length-bytes_of (k * n) (number_l q xs)) (bytes-below (k * n) (number_l q xs))
    (λ e l. sym (get_or_wider 256 k q n z e eq (each-byte (k * n) (number_l q xs)) l) ∙ ap (λ l. get_or l e 0) back ∙ h.lane e l)

-- ---- bytes as lanes

pub below-at : (xs : List ℕ) → Each1 (λ x. x < 256) xs → (j : ℕ) → get_or xs j 0 < 256
below-at [] h j = omega arith
below-at (x ∷ xs) h zero = h.0
below-at (x ∷ xs) h (suc j) = below-at xs h.1 j

pub element-byte : (xs : List ℕ) (e : ℕ) → e < length xs → element 1 xs e ≡ get_or xs e 0
element-byte xs e l = ap (λ l. number_of_bytes (lib.ListN.take 1 l)) (ap (λ j. lib.ListN.drop j xs) (omega arith) ∙ drop_more xs e 0 l) ∙ omega arith

-- bytes are their own elements
pub lanes-bytes : (n : ℕ) (a : List ℕ) → length a ≡ n → IsLanes n (element 1 a) a
lanes-bytes n a long = record { long = long; lane = λ e l. sym (element-byte a e (omega arith)) }

pub lanes-elements : {n : ℕ} {f : ℕ → ℕ} {xs : List ℕ} → IsLanes n f xs → Each1 (λ x. x < 256) xs → xs ≡ elements 1 f n
lanes-elements {n} {f} {xs} h small =
    elements-of 1 f n xs (omega (arith, h.long)) (below-at xs small) (λ e l. element-byte xs e (omega (arith, h.long)) ∙ h.lane e l)

pub lanes-small : {n : ℕ} {f : ℕ → ℕ} {xs : List ℕ} (q : ℕ) → IsLanes n f xs → ((e : ℕ) → e < n → f e < q) → Each1 (λ x. x < q) xs
lanes-small {n} {f} {xs} q h below =
    Each1-from_get_or (λ x. x < q) xs 0 (λ e l. let inside : e < n = omega (arith, h.long) in subst (λ x. x < q) (sym (h.lane e inside)) (below e inside))

-- bytes that were made
pub lanes-made : (f : ℕ → ℕ) (n : ℕ) → ((e : ℕ) → e < n → f e < 256) → IsLanes n f (elements 1 f n)
lanes-made f n below = record {
  long = length-elements 1 f n ∙ omega arith;
  lane = λ e l.
      sym (element-byte (elements 1 f n) e (omega (arith, length-elements 1 f n)))
      ∙ ap (λ z. element 1 z e) (sym (append-nil (elements 1 f n))) ∙ ap number_of_bytes (chunk-elements 1 f n e [] l) ∙ number-bytes_of 1 (f e) ∙ mod-eq_of_lt (below e l);
}
