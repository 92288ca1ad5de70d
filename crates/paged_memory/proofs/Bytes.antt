-- Numbers among bytes, byte by byte.
use Rattle.std.proofs.Common.{◌≡◌, ℕ, zero, suc, ◌+◌, ◌-◌, ◌*◌, ◌/◌, ◌%◌, ◌^◌, ◌<◌, ◌≤◌, List, [], ◌∷◌, ◌++◌, length, take, drop, refl, sym, ap, ap₂, ◌∙◌, subst, arith, length-set}
use Rattle.std.specs.Prelude.{slice_index, slice_set}
use Rattle.std.specs.Int.{bytes_low_first, byte_at}
use Rattle.std.proofs.lemmas.List.{drop_more, take_more_set, drop-set-lt, append_assoc, drop-drop, take-append-drop}
use Rattle.std.proofs.Math.Nat.{pow-le-pow_right, pow-suc}
use Rattle.std.proofs.Math.Dec.{lit<}
use borrow.Rule.Slice.PartMut.{put_mid}
use Rattle.guest_types.proofs.Numbers.{shifted, bytes_of-mod}
use Rattle.guest_types.specs.Elements.{number_of_bytes, bytes_of}
use Rattle.paged_memory.specs.Numbers.{number_in, with_number}

-- the number of k bytes from place at + o on, lowest byte first
abbrev pub number_from : List ℕ → ℕ → ℕ → ℕ → ℕ
number_from bs at o zero = 0
number_from bs at o (suc k) = slice_index bs (at + o) + 256 * number_from bs at (suc o) k

numbers : (bs : List ℕ) (at o k : ℕ) → at + o + k ≤ length bs → number_of_bytes (take k (drop (at + o) bs)) ≡ number_from bs at o k
numbers bs at o zero l = refl
numbers bs at o (suc k) l =
    let e : (at + o) + 1 ≡ at + suc o = omega arith in
    ap (λ bs. number_of_bytes (take (suc k) bs)) (drop_more bs (at + o) 0 (omega arith))
    ∙ ap (λ n. slice_index bs (at + o) + 256 * number_of_bytes (take k (drop n bs))) e
    ∙ ap (λ n. slice_index bs (at + o) + 256 * n) (numbers bs at (suc o) k (omega arith))

pub number_in-bytes : (bs : List ℕ) (at k : ℕ) → at + suc k ≤ length bs → number_in bs at (suc k) ≡ slice_index bs at + 256 * number_from bs at 1 k
unfolding number_in
number_in-bytes bs at k l =
    let e : at + 0 ≡ at = omega arith in
    ap (λ n. number_of_bytes (take (suc k) (drop n bs))) (sym e) ∙ numbers bs at 0 (suc k) (omega arith) ∙ ap (λ n. slice_index bs n + 256 * number_from bs at 1 k) e

-- ---- bytes of numbers

byte_up : (i n : ℕ) → byte_at (suc i) n ≡ byte_at i (n / 256)
byte_up zero n = refl
byte_up (suc i) n = ap (λ m. m % 256) (shifted n (suc i))

bytes_up : (i k n : ℕ) → bytes_low_first (suc i) k n ≡ bytes_low_first i k (n / 256)
bytes_up i zero n = refl
bytes_up i (suc k) n = ap₂ (λ b bs. b ∷ bs) (byte_up i n) (bytes_up (suc i) k n)

pub low_bytes : (k n : ℕ) → bytes_low_first 0 k n ≡ bytes_of k n
low_bytes zero n = refl
low_bytes (suc k) n = ap (λ bs. n % 256 ∷ bs) (bytes_up 0 k n ∙ low_bytes k (n / 256))

-- ---- bytes written

-- the middle of a list replaced by the bytes of a number
pub put-number : (bs : List ℕ) (at n k v : ℕ) (ys : List ℕ) → n ≡ k → ys ≡ bytes_of k v → put_mid at n bs ys ≡ with_number bs at k v
unfolding with_number
put-number bs at n k v ys e h =
    ap₂ (λ n ys. take at bs ++ (ys ++ drop n (drop at bs))) e h ∙ ap (λ rest. take at bs ++ (bytes_of k v ++ rest)) (drop-drop k at bs)

pub with_number-zero : (bs : List ℕ) (at v : ℕ) → with_number bs at 0 v ≡ bs
unfolding with_number
with_number-zero bs at v = ap (λ n. take at bs ++ drop n bs) (let e : at + 0 ≡ at = omega arith in e) ∙ take-append-drop at bs

-- a number written byte by byte
pub with_number-suc : (bs : List ℕ) (at k v : ℕ) → at < length bs → with_number bs at (suc k) v ≡ with_number (slice_set bs at (v % 256)) (at + 1) k (v / 256)
unfolding with_number
with_number-suc bs at k v l =
    let b = v % 256 in
    let more = bytes_of k (v / 256) in
    let e : at + suc k ≡ (at + 1) + k = omega arith in
    ap (λ n. take at bs ++ ((b ∷ more) ++ drop n bs)) e
    ∙ sym (append_assoc (take at bs) (b ∷ []) (more ++ drop ((at + 1) + k) bs))
    ∙ sym (ap₂ (λ front rest. front ++ (more ++ rest)) (take_more_set bs at b l) (drop-set-lt ((at + 1) + k) bs at b (omega arith)))

pub length-with_number : (bs : List ℕ) (at k v : ℕ) → at + k ≤ length bs → length (with_number bs at k v) ≡ length bs
length-with_number bs at zero v l = ap length (with_number-zero bs at v)
length-with_number bs at (suc k) v l =
    ap length (with_number-suc bs at k v (omega arith)) ∙ length-with_number (slice_set bs at (v % 256)) (at + 1) k (v / 256) (omega (arith, length-set bs at (v % 256))) ∙ length-set bs at (v % 256)

-- the low bytes of a number, of which more was cut off
pub low_bytes-mod : (k n m : ℕ) → m ≡ n % 256 ^ k → bytes_low_first 0 k m ≡ bytes_of k n
low_bytes-mod k n m e = low_bytes k m ∙ ap (bytes_of k) e ∙ bytes_of-mod k n

-- ---- one byte more

pub more_bytes : (s b r : ℕ) → 0 < s → b < 256 → r < 256 ^ (s - 1) → b + 256 * r < 256 ^ s
more_bytes zero b r z h k = absurd (omega arith)
more_bytes (suc s) b r z h k =
    let e : 256 ^ suc s ≡ 256 ^ s * 256 = pow-suc 256 s in
    let d : suc s - 1 ≡ s = omega arith in
    let lt = subst (λ n. r < 256 ^ n) d k in
    omega (arith, e, lt)

pub eight_bytes : (s : ℕ) → s ≤ 8 → 256 ^ s ≤ 2 ^ 64
eight_bytes s h = pow-le-pow_right (lit< tt) h
