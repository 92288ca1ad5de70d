-- How many bits are set.
use Rattle.std.proofs.Common.{◌≡◌, ℕ, zero, suc, ◌+◌, ◌-◌, ◌*◌, ◌^◌, ◌<◌, ◌≤◌, List, [], ◌∷◌, Bool, true, false, cond, ◌&&◌, map, length, get_or, bit_and, refl, sym, ap, ap₂, ◌∙◌, subst, arith}
use Rattle.std.specs.Int.RustNames.{count_ones}
use Rattle.std.specs.List.{range_with_len, count_by}
use Rattle.std.proofs.lemmas.List.{get_or-map, length-map}
use Rattle.std.proofs.lemmas.Simd.{ones-mask_l, sum_bound, Each1-from_get_or}
use lib.Lanes.{zip2, sum_l, Each1}
use Rattle.guest_types.specs.declared.length.Width.{Width}
use Rattle.guest_types.specs.declared.length.Width.TheVariants.{B}
use Rattle.guest_types.specs.Length.{width_bytes, all_lanes}
use Rattle.guest_types.specs.Elements.{bit, active, element_bit, predicate}
use Rattle.guest_types.specs.Lanes.{folded, plus, count_at, count_of, all_at}
use Rattle.guest_types.proofs.Folds.{folded-none, folded-more}
use Rattle.guest_types.proofs.Predicates.{byte-bits_of}
use Rattle.lane_blocks.proofs.Bits.{IsBits, bits-are, bits-and}
use Rattle.lane_preds.specs.Bits.{bit_number, bit_count}
use Rattle.lane_preds.proofs.Flags.{elements-of-mask, element-on, element-off}

-- ---- sums

fold-ext : (f g : ℕ → ℕ) (n : ℕ) → ((j : ℕ) → j < n → f j ≡ g j) → folded plus 0 f n ≡ folded plus 0 g n
fold-ext f g zero same = folded-none plus 0 f ∙ sym (folded-none plus 0 g)
fold-ext f g (suc n) same =
    let next : suc n ≡ n + 1 = omega arith in
    ap (folded plus 0 f) next ∙ folded-more plus 0 f n ∙ ap₂ plus (fold-ext f g n (λ j l. same j (omega arith))) (same n (omega arith))
    ∙ sym (ap (folded plus 0 g) next ∙ folded-more plus 0 g n)

-- terms that are 0 add nothing
fold-zeros : (f : ℕ → ℕ) (n d : ℕ) → ((j : ℕ) → n ≤ j → j < n + d → f j ≡ 0) → folded plus 0 f (n + d) ≡ folded plus 0 f n
fold-zeros f n zero none = ap (folded plus 0 f) (let same : n + 0 ≡ n = omega arith in same)
fold-zeros f n (suc d) none =
    let next : n + suc d ≡ n + d + 1 = omega arith in
    ap (folded plus 0 f) next ∙ folded-more plus 0 f (n + d)
    ∙ ap₂ plus (fold-zeros f n d (λ j a b. none j a (omega arith))) (none (n + d) (omega arith) (omega arith)) ∙ omega arith

-- ---- the bits of elements

module _ (w : Width) (g : ℕ → Bool) (n : ℕ) where
  number : ℕ → ℕ
  number j = cond (element_bit (width_bytes w) g n j) 1 0

  -- the bits of the first m elements
  fold-lanes : (m : ℕ) → m ≤ n → folded plus 0 (λ j. cond (element_bit (width_bytes w) g n j) 1 0) (width_bytes w * m) ≡ folded plus 0 (λ e. cond (g e) 1 0) m
  fold-lanes zero l = ap (folded plus 0 (λ j. cond (element_bit (width_bytes w) g n j) 1 0)) (nothing w) ∙ folded-none plus 0 (λ j. cond (element_bit (width_bytes w) g n j) 1 0) ∙ sym (folded-none plus 0 (λ e. cond (g e) 1 0))
    where
      nothing : (w : Width) → width_bytes w * 0 ≡ 0
      nothing B = refl
      nothing other = refl
  fold-lanes (suc m) l =
      let f : ℕ → ℕ = λ j. cond (element_bit (width_bytes w) g n j) 1 0 in
      let next : suc m ≡ m + 1 = omega arith in
      ap (folded plus 0 f) (wider w m)
      ∙ fold-zeros f (width_bytes w * m + 1) (width_bytes w - 1) (λ j a b. ap (λ t. cond t 1 0) (element-off w g n j (λ e u same. absurd (between w m e j a b same))))
      ∙ folded-more plus 0 f (width_bytes w * m)
      ∙ ap₂ plus (fold-lanes m (omega arith)) (ap (λ t. cond t 1 0) (element-on w g n m (omega arith)))
      ∙ sym (ap (folded plus 0 (λ e. cond (g e) 1 0)) next ∙ folded-more plus 0 (λ e. cond (g e) 1 0) m)
    where
      wider : (w : Width) (m : ℕ) → width_bytes w * suc m ≡ width_bytes w * m + 1 + (width_bytes w - 1)
      wider B m = omega arith
      wider other m = omega arith

      between : (w : Width) (m e j : ℕ) → width_bytes w * m + 1 ≤ j → j < width_bytes w * m + 1 + (width_bytes w - 1) → width_bytes w * e ≡ j → ⊥
      between B m e j a b same = omega arith
      between other m e j a b same = omega arith

  pub fold-elements : n ≤ all_lanes w → folded plus 0 (λ j. cond (element_bit (width_bytes w) g n j) 1 0) 256 ≡ folded plus 0 (λ e. cond (g e) 1 0) n
  fold-elements fits =
      let f : ℕ → ℕ = λ j. cond (element_bit (width_bytes w) g n j) 1 0 in
      let k = width_bytes w in
      let short : k * n ≤ 256 = under w n fits in
      ap (folded plus 0 f) (let whole : 256 ≡ k * n + (256 - k * n) = omega arith in whole)
      ∙ fold-zeros f (k * n) (256 - k * n) (λ j a b. ap (λ t. cond t 1 0) (element-off w g n j (λ e u same. absurd (past w e n j u a same))))
      ∙ fold-lanes n (omega arith)
    where
      under : (w : Width) (n : ℕ) → n ≤ all_lanes w → width_bytes w * n ≤ 256
      under B n l = omega arith
      under other n l = omega arith

      past : (w : Width) (e n j : ℕ) → e < n → width_bytes w * n ≤ j → width_bytes w * e ≡ j → ⊥
      past B e n j u a same = omega arith
      past other e n j u a same = omega arith

-- the elements that are true in both predicates
pub count-is : (w : Width) (n : ℕ) (pg p s x y : List ℕ) → n ≤ all_lanes w → s ≡ predicate (width_bytes w) all_at n → IsBits (bit pg) x → IsBits (bit p) y → bit_count (zip2 bit_and s (zip2 bit_and x y)) ≡ count_of w n pg p
count-is w n pg p s x y fits is hx hy =
    let k = width_bytes w in
    let xy = zip2 bit_and x y in
    let g : ℕ → Bool = λ e. active w pg e && active w p e in
    let pair = bits-and hx hy in
    let own : IsBits (bit xy) xy = record { long = pair.long; small = pair.small; bits = λ j l. refl } in
    let h = elements-of-mask w n (λ e. bit xy (k * e)) xy s xy (λ e. refl) is own in
    fold-ext (bit_number (zip2 bit_and s xy)) (λ j. cond (element_bit k (λ e. bit xy (k * e)) n j) 1 0) 256 (λ j l. ap (λ t. cond t 1 0) (h.bits j l))
    ∙ fold-elements w (λ e. bit xy (k * e)) n fits
    ∙ fold-ext (λ e. cond (bit xy (k * e)) 1 0) (count_at w pg p) n (λ e l. ap (λ t. cond t 1 0) (pair.bits (k * e) (low w e n l fits)))
  where
    low : (w : Width) (e n : ℕ) → e < n → n ≤ all_lanes w → width_bytes w * e < 256
    low B e n l f = omega arith
    low other e n l f = omega arith

-- ---- the bits of a byte

-- how many of the 8 bits of byte i are set
abbrev pub byte_number : List ℕ → ℕ → ℕ
byte_number x i = count_by (λ t. bit x (8 * i + t)) (range_with_len 0 8)

pub ones-byte : (x : List ℕ) (i : ℕ) → length x ≡ 32 → ((i : ℕ) → get_or x i 0 < 256) → i < 32 → count_ones (get_or x i 0) ≡ byte_number x i
ones-byte x i long small l =
    let own : IsBits (bit x) x = record { long = long; small = small; bits = λ j l. refl } in
    ap count_ones (ap (λ z. get_or z i 0) (bits-are own) ∙ byte-bits_of (bit x) 32 i l)
    ∙ ones-mask_l (λ t. bit x (8 * i + t)) (range_with_len 0 8)

cond-small : (t : Bool) → cond t 1 0 ≤ 1
cond-small true = omega arith
cond-small false = omega arith

fold-next : (f : ℕ → Bool) (n m : ℕ) → m ≡ n + 1 → folded plus 0 (λ j. cond (f j) 1 0) m ≡ folded plus 0 (λ j. cond (f j) 1 0) n + cond (f n) 1 0
fold-next f n m e = ap (folded plus 0 (λ j. cond (f j) 1 0)) e ∙ folded-more plus 0 (λ j. cond (f j) 1 0) n

-- eight bits more
fold-byte : (f : ℕ → Bool) (i : ℕ) → folded plus 0 (λ j. cond (f j) 1 0) (8 * (i + 1)) ≡ folded plus 0 (λ j. cond (f j) 1 0) (8 * i) + count_by (λ t. f (8 * i + t)) (range_with_len 0 8)
fold-byte f i =
    let c : ℕ → ℕ = λ j. cond (f j) 1 0 in
    let start : folded plus 0 c (8 * i + 0) ≡ folded plus 0 c (8 * i) = ap (folded plus 0 c) (let same : 8 * i + 0 ≡ 8 * i = omega arith in same) in
    let s0 = fold-next f (8 * i + 0) (8 * i + 1) (omega arith) in
    let s1 = fold-next f (8 * i + 1) (8 * i + 2) (omega arith) in
    let s2 = fold-next f (8 * i + 2) (8 * i + 3) (omega arith) in
    let s3 = fold-next f (8 * i + 3) (8 * i + 4) (omega arith) in
    let s4 = fold-next f (8 * i + 4) (8 * i + 5) (omega arith) in
    let s5 = fold-next f (8 * i + 5) (8 * i + 6) (omega arith) in
    let s6 = fold-next f (8 * i + 6) (8 * i + 7) (omega arith) in
    let s7 = fold-next f (8 * i + 7) (8 * (i + 1)) (omega arith) in
    omega (arith, start, s0, s1, s2, s3, s4, s5, s6, s7)

byte-small : (f : ℕ → Bool) (i : ℕ) → count_by (λ t. f (8 * i + t)) (range_with_len 0 8) ≤ 8
byte-small f i = omega (arith, cond-small (f (8 * i + 0)), cond-small (f (8 * i + 1)), cond-small (f (8 * i + 2)), cond-small (f (8 * i + 3)), cond-small (f (8 * i + 4)), cond-small (f (8 * i + 5)), cond-small (f (8 * i + 6)), cond-small (f (8 * i + 7)))

-- the sum of the counts of all bytes
pub sum-bytes : (f : ℕ → Bool) (n : ℕ) (xs : List ℕ) (i : ℕ) → length xs ≡ n → ((e : ℕ) → e < n → get_or xs e 0 ≡ count_by (λ t. f (8 * (i + e) + t)) (range_with_len 0 8)) → folded plus 0 (λ j. cond (f j) 1 0) (8 * i) + sum_l xs ≡ folded plus 0 (λ j. cond (f j) 1 0) (8 * (i + n))
sum-bytes f zero [] i long each =
    let same : folded plus 0 (λ j. cond (f j) 1 0) (8 * i) ≡ folded plus 0 (λ j. cond (f j) 1 0) (8 * (i + 0)) = ap (λ m. folded plus 0 (λ j. cond (f j) 1 0) (8 * m)) (let none : i ≡ i + 0 = omega arith in none) in
    omega (arith, same)
sum-bytes f (suc n) [] i long each = absurd (omega arith)
sum-bytes f zero (x ∷ xs) i long each = absurd (omega arith)
sum-bytes f (suc n) (x ∷ xs) i long each =
    let first : x ≡ count_by (λ t. f (8 * i + t)) (range_with_len 0 8) = each 0 (omega arith) ∙ ap (λ m. count_by (λ t. f (8 * m + t)) (range_with_len 0 8)) (let same : i + 0 ≡ i = omega arith in same) in
    let rest = sum-bytes f n xs (i + 1) (omega arith) (λ e l. each (suc e) (omega arith) ∙ ap (λ m. count_by (λ t. f (8 * m + t)) (range_with_len 0 8)) (let same : i + suc e ≡ i + 1 + e = omega arith in same)) in
    let whole : folded plus 0 (λ j. cond (f j) 1 0) (8 * (i + 1 + n)) ≡ folded plus 0 (λ j. cond (f j) 1 0) (8 * (i + suc n)) = ap (λ m. folded plus 0 (λ j. cond (f j) 1 0) (8 * m)) (let same : i + 1 + n ≡ i + suc n = omega arith in same) in
    omega (arith, fold-byte f i, rest, whole, first)

map-same : (f : ℕ → ℕ) (xs : List ℕ) → ((a : ℕ) → f a ≡ a) → map f xs ≡ xs
map-same f [] same = refl
map-same f (x ∷ xs) same = ap₂ (λ (a : ℕ) (l : List ℕ). a ∷ l) (same x) (map-same f xs same)

module _ (x : List ℕ) (long : length x ≡ 32) (small : (i : ℕ) → get_or x i 0 < 256) where
  byte-at : (e : ℕ) → e < 32 → get_or (map count_ones x) e 0 ≡ byte_number x e
  byte-at e l = get_or-map count_ones x e 0 0 (omega arith) ∙ ones-byte x e long small l

  pub ones-fit : Each1 (λ n. n ≤ 8) (map count_ones x)
  ones-fit = Each1-from_get_or (λ n. n ≤ 8) (map count_ones x) 0 (λ e l. let inside : e < 32 = omega (arith, length-map x count_ones) in subst (λ n. n ≤ 8) (sym (byte-at e inside)) (byte-small (bit x) e))

  pub ones-few : sum_l (map count_ones x) ≤ 8 * 32
  ones-few = subst (λ n. sum_l (map count_ones x) ≤ 8 * n) (length-map x count_ones ∙ long) (sum_bound 8 (map count_ones x) ones-fit)

  pub ones-sum : sum_l (map count_ones x) ≡ bit_count x
  ones-sum =
      let h = sum-bytes (bit x) 32 (map count_ones x) 0 (length-map x count_ones ∙ long) (λ e l. byte-at e l ∙ ap (byte_number x) (let same : e ≡ 0 + e = omega arith in same)) in
      let start : folded plus 0 (λ j. cond (bit x j) 1 0) (8 * 0) ≡ 0 = folded-none plus 0 (λ j. cond (bit x j) 1 0) in
      let end : folded plus 0 (λ j. cond (bit x j) 1 0) (8 * (0 + 32)) ≡ folded plus 0 (λ j. cond (bit x j) 1 0) 256 = refl in
      omega (arith, h, start, end)

  -- the same of the counts in wider lanes
  pub wider-few : (f g : ℕ → ℕ) → ((a : ℕ) → f a ≡ a) → ((a : ℕ) → g a ≡ a) → 0 + sum_l (map f (map g (map count_ones x))) < 2 ^ 16
  wider-few f g same_f same_g =
      let same = map-same f (map g (map count_ones x)) same_f ∙ map-same g (map count_ones x) same_g in
      subst (λ l. 0 + sum_l l < 2 ^ 16) (sym same) (omega (arith, ones-few))

  pub wider-sum : (f g : ℕ → ℕ) → ((a : ℕ) → f a ≡ a) → ((a : ℕ) → g a ≡ a) → 0 + sum_l (map f (map g (map count_ones x))) ≡ bit_count x
  wider-sum f g same_f same_g =
      let same = map-same f (map g (map count_ones x)) same_f ∙ map-same g (map count_ones x) same_g in
      ap (λ l. 0 + sum_l l) same ∙ omega (arith, ones-sum)

  pub wider-fit : (g : ℕ → ℕ) → ((a : ℕ) → g a ≡ a) → Each1 (λ n. n ≤ 8) (map g (map count_ones x))
  wider-fit g same = subst (Each1 (λ n. n ≤ 8)) (sym (map-same g (map count_ones x) same)) ones-fit
