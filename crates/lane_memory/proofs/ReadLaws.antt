-- Elements that were read, one by one and a part of a page at once.
use Rattle.std.proofs.Common.{◌≡◌, ℕ, zero, suc, ◌+◌, ◌-◌, ◌*◌, ◌/◌, ◌%◌, ◌^◌, ◌<◌, ◌≤◌, inl, inr, Bool, true, false, cond, List, ◌++◌, length, take, drop, get_or, Ok, refl, sym, ap, ap₂, ◌∙◌, subst, arith}
use Rattle.std.specs.Prelude.{nat_lt, is_some}
use Rattle.std.proofs.lemmas.Bool.{cases_lt, cond-true, cond-false, and_left, false≢true, and_right}
use Rattle.std.proofs.lemmas.List.{drop-drop, length-take}
use Rattle.std.proofs.Math.Nat.{mod-eq_of_lt, pow-le-pow_right, mul-suc, mul-le-mul_left}
use lib.Lanes.{chunk}
use Rattle.guest_types.specs.declared.length.Width.{Width}
use Rattle.guest_types.specs.declared.length.Width.TheVariants.{B}
use Rattle.guest_types.specs.Length.{width_bytes, modulus, all_lanes}
use Rattle.guest_types.specs.Memory.{Memory, IsMemory, loaded, number_at}
use Rattle.guest_types.specs.Elements.{number_of_bytes, bytes_of, at, elements, register}
use Rattle.guest_types.specs.Spans.{has_span, span_of}
use Rattle.guest_types.specs.Lanes.{sign_extended}
use Rattle.guest_types.specs.LaneMemory.{extended}
use Rattle.guest_types.proofs.Numbers.{bytes_of-mod, number-below}
use Rattle.guest_types.proofs.Stores.{loaded-Ok}
use Rattle.guest_types.proofs.Widths.{modulus-is, whole-register}
use Rattle.guest_types.proofs.Registers.{chunk-all_bytes}
use Rattle.paged_memory.specs.Numbers.{number_in, with_number}
use Rattle.paged_memory.proofs.Bytes.{length-with_number}
use Rattle.lane_memory.specs.declared.reading.Reading.{Reading}
use Rattle.lane_memory.specs.Readings.{form_of, place_of, on_of, faults_of, refused_of, lane_of, lanes_of, raw_of, HoldsLanes, IsCopied, IsRead, IsActiveRange, masked_at, masked_of}
use Rattle.lane_memory.proofs.ListParts.{put, at-written, at-unwritten, at-one, at-other}
use Rattle.lane_memory.proofs.Places.{part-number, part-read}

-- ---- numbers of a part

pub chunk-below : (w : Width) (i : ℕ) (bs : List ℕ) → ((j : ℕ) → get_or bs j 0 < 256) → number_of_bytes (chunk i (width_bytes w) bs) < modulus w
chunk-below w i bs small =
    let k = width_bytes w in
    let part = chunk i k bs in
    let short : length part ≤ k = omega (arith, length-take k (drop i bs)) in
    let up : 256 ^ length part ≤ 256 ^ k = pow-le-pow_right {n = 256} (omega arith) {i = length part} {j = k} short in
    omega (arith, number-below part (chunk-all_bytes i k bs small), up, modulus-is w)

pub number_in-chunk : (bs : List ℕ) (at size : ℕ) → number_in bs at size ≡ number_of_bytes (chunk at size bs)
unfolding number_in
number_in-chunk bs at size = refl

pub with_number-put : (bs : List ℕ) (at size v : ℕ) → with_number bs at size v ≡ put at size (bytes_of size v) bs
unfolding with_number
with_number-put bs at size v = ap (λ l. take at bs ++ (bytes_of size v ++ l)) (sym (drop-drop size at bs))

-- ---- elements of one width

same-signed : (s v : ℕ) → v < s → sign_extended s s v % s ≡ v
same-signed s v l =
    let low : v % s ≡ v = mod-eq_of_lt l in
    let more : v % s + (s - s) ≡ v = omega (arith, low) in
    go (nat_lt (v % s) (s / 2)) low more
  where
    go : (t : Bool) → v % s ≡ v → v % s + (s - s) ≡ v → cond t (v % s) (v % s + (s - s)) % s ≡ v
    go true low more = ap (λ n. n % s) low ∙ mod-eq_of_lt l
    go false low more = ap (λ n. n % s) more ∙ mod-eq_of_lt l

same-extended : (w : Width) (signed : Bool) (v : ℕ) → v < modulus w → extended (record { memory = w; element = w; signed = signed }) v % modulus w ≡ v
same-extended w true v l = same-signed (modulus w) v l
same-extended w false v l = mod-eq_of_lt l

pub copied-whole : (r : Reading) (part : List ℕ) (from n : ℕ) (old new : List ℕ) → r.memory ≡ r.element → length part ≡ width_bytes r.memory * n → from + n ≤ all_lanes r.element → length old ≡ 256 → ((j : ℕ) → get_or part j 0 < 256) → new ≡ put (width_bytes r.element * from) (width_bytes r.element * n) part old → IsCopied r part from n old new
copied-whole r part from n old new same size fits long small is =
    let w = r.element in
    let wide : length part ≡ width_bytes w * n = size ∙ ap (λ w. width_bytes w * n) same in
    record {
      copied = λ i l.
          ap (λ z. at w z (from + i)) is ∙ at-written w old part from n long fits wide i l
          ∙ sym (same-extended w r.signed (number_of_bytes (chunk (width_bytes w * i) (width_bytes w) part)) (chunk-below w (width_bytes w * i) part small))
          ∙ ap (λ v. extended (record { memory = v; element = w; signed = r.signed }) (number_of_bytes (chunk (width_bytes v * i) (width_bytes v) part)) % modulus w) (sym same);
      kept = λ i apart. ap (λ z. at w z i) is ∙ at-unwritten w old part from n long fits wide i apart;
    }

-- ---- one element more

pub copied-more : (r : Reading) (part : List ℕ) (from i : ℕ) (old was now : List ℕ) (v x : ℕ) → IsCopied r part from i old was → length was ≡ 256 → from + i < all_lanes r.element
    → v ≡ number_in part (width_bytes r.memory * i) (width_bytes r.memory) → x ≡ extended (form_of r) v → now ≡ with_number was (width_bytes r.element * (from + i)) (width_bytes r.element) x → IsCopied r part from (i + 1) old now
copied-more r part from i old was now v x h long inside read is written =
    let w = r.element in
    let m = width_bytes r.memory in
    let new : now ≡ put (width_bytes w * (from + i)) (width_bytes w) (bytes_of (width_bytes w) x) was = written ∙ with_number-put was (width_bytes w * (from + i)) (width_bytes w) x in
    record {
      copied = λ j l. elim (cases_lt j i) [
        | inl before ↦
            ap (λ z. at w z (from + j)) new ∙ at-other w was (from + i) x (from + j) long inside (inl (omega arith)) ∙ h.copied j before
        | inr least ↦
            let q : i ≡ j = omega arith in
            ap₂ (λ z e. at w z (from + e)) new (sym q) ∙ at-one w was (from + i) x long inside
            ∙ ap (λ y. y % modulus w) (is ∙ ap (extended (form_of r)) (read ∙ number_in-chunk part (m * i) m))
            ∙ ap (λ e. extended (form_of r) (number_of_bytes (chunk (m * e) m part)) % modulus w) q
      ];
      kept = λ j apart.
          ap (λ z. at w z j) new
          ∙ at-other w was (from + i) x j long inside (elim apart [ inl l ↦ inl (omega arith) | inr g ↦ inr (omega arith) ])
          ∙ h.kept j (elim apart [ inl l ↦ inl l | inr g ↦ inr (omega arith) ]);
    }

pub length-written : (bs now : List ℕ) (w : Width) (e x : ℕ) → length bs ≡ 256 → e < all_lanes w → now ≡ with_number bs (width_bytes w * e) (width_bytes w) x → length now ≡ 256
length-written bs now w e x long inside is = ap length is ∙ length-with_number bs (width_bytes w * e) (width_bytes w) x (omega (arith, whole-register w, mul-suc (width_bytes w) e, mul-le-mul_left (width_bytes w) (let u : suc e ≤ all_lanes w = inside in u))) ∙ long

pub read-one : (r : Reading) (memory : Memory) (pg : List ℕ) (e a n v x : ℕ) (old new : List ℕ) → length old ≡ 256 → e < all_lanes r.element → a ≡ place_of r e → n ≡ width_bytes r.memory → Ok v ≡ loaded memory a n → x ≡ extended (form_of r) v
    → new ≡ put (width_bytes r.element * e) (width_bytes r.element) (bytes_of (width_bytes r.element) x) old → IsRead r memory pg e old new
read-one r memory pg e a n v x old new long inside place size read is written =
    let w = r.element in
    let number : v ≡ number_at memory (place_of r e) (width_bytes r.memory) = (loaded-Ok memory a n v (sym read)).1 ∙ ap₂ (number_at memory) place size in
    record {
      read = λ on. ap (λ z. at w z e) written ∙ at-one w old e x long inside ∙ ap (λ y. y % modulus w) (is ∙ ap (extended (form_of r)) number);
      kept = λ i l. ap (λ z. at w z i) written ∙ at-other w old e x i long inside (inl l);
    }

-- ---- the active elements as far as the loop has come

pub holds-none : (r : Reading) (memory : Memory) (pg : List ℕ) (from : ℕ) (z : List ℕ) → HoldsLanes r memory pg from from z
holds-none r memory pg from z e least most on = absurd (omega arith)

pub holds-part : (r : Reading) (memory : Memory) (pg part : List ℕ) (from e n a len : ℕ) (old new : List ℕ) → IsMemory memory → HoldsLanes r memory pg from e old → a ≡ place_of r e → len ≡ width_bytes r.memory * n → has_span memory a len ≡ true → part ≡ span_of memory a len → IsCopied r part e n old new → HoldsLanes r memory pg from (e + n) new
holds-part r memory pg part from e n a len old new is h place size has bytes copied j least most on =
    let m = width_bytes r.memory in
    elim (cases_lt j e) [
      | inl before ↦ copied.kept j (inl before) ∙ h j least before on
      | inr after ↦
          let i = j - e in
          let q : e + i ≡ j = omega arith in
          let inside : i < n = omega arith in
          let span : has_span memory (place_of r e) (m * n) ≡ true = sym (ap₂ (has_span memory) place size) ∙ has in
          let same : part ≡ span_of memory (place_of r e) (m * n) = bytes ∙ ap₂ (span_of memory) place size in
          let number : number_of_bytes (chunk (m * i) m part) ≡ number_at memory (place_of r (e + i)) m = ap (λ l. number_of_bytes (chunk (m * i) m l)) same ∙ sym (part-number memory r.base r.index r.memory e n i inside is span) in
          ap (at r.element new) (sym q) ∙ copied.copied i inside ∙ ap (λ v. extended (form_of r) v % modulus r.element) number
          ∙ ap (λ j. raw_of r memory j % modulus r.element) q
    ]

pub holds-one : (r : Reading) (memory : Memory) (pg : List ℕ) (from e : ℕ) (old new : List ℕ) → HoldsLanes r memory pg from e old → IsRead r memory pg e old new → HoldsLanes r memory pg from (e + 1) new
holds-one r memory pg from e old new h read j least most on = elim (cases_lt j e) [
  | inl before ↦ read.kept j before ∙ h j least before on
  | inr after ↦
      let q : e ≡ j = omega arith in
      subst (λ j. at r.element new j ≡ raw_of r memory j % modulus r.element) q (read.read (ap (on_of r pg) q ∙ on))
]

-- ---- the whole load

-- only what an element keeps of its number counts
register-mod : (w : Width) (f g : ℕ → ℕ) (n : ℕ) → ((e : ℕ) → e < n → f e ≡ g e % modulus w) → register (width_bytes w) f n ≡ register (width_bytes w) g n
unfolding elements
register-mod w f g n same = ap (λ l. l ++ lib.ListN.replicate (256 - width_bytes w * n) 0) (go n same)
  where
    go : (n : ℕ) → ((e : ℕ) → e < n → f e ≡ g e % modulus w) → elements (width_bytes w) f n ≡ elements (width_bytes w) g n
    go zero same = refl
    go (suc n) same = ap₂ ◌++◌ (go n (λ e l. same e (omega arith)))
        (ap (bytes_of (width_bytes w)) (same n (omega arith) ∙ ap (λ m. g n % m) (modulus-is w)) ∙ bytes_of-mod (width_bytes w) (g n))

pub filled : (r : Reading) (memory : Memory) (pg z : List ℕ) (lanes from to : ℕ) → IsActiveRange r.element pg lanes from to → HoldsLanes r memory pg from to z → masked_of r.element pg z lanes ≡ lanes_of r memory pg lanes
filled r memory pg z lanes from to range h = register-mod r.element (masked_at r.element pg z) (lane_of r memory pg) lanes each
  where
    zero_mod : (w : Width) → 0 ≡ 0 % modulus w
    zero_mod B = refl
    zero_mod other = refl

    each : (e : ℕ) → e < lanes → masked_at r.element pg z e ≡ lane_of r memory pg e % modulus r.element
    each e l = go (on_of r pg e) refl
      where
        go : (t : Bool) → on_of r pg e ≡ t → masked_at r.element pg z e ≡ lane_of r memory pg e % modulus r.element
        go false off = cond-false _ _ _ off ∙ zero_mod r.element ∙ ap (λ v. v % modulus r.element) (sym (cond-false _ _ _ off))
        go true on =
            let least : from ≤ e = elim (cases_lt e from) [ inl b ↦ absurd (false≢true (sym (range.before e b) ∙ on)) | inr g ↦ g ] in
            let most : e < to = elim (cases_lt e to) [ inl b ↦ b | inr g ↦ absurd (false≢true (sym (range.after e g l) ∙ on)) ] in
            cond-true _ _ _ on ∙ h e least most on ∙ ap (λ v. v % modulus r.element) (sym (cond-true _ _ _ on))

-- ---- elements that cannot be refused

-- in a part of one page no access faults
pub part-free : (r : Reading) (memory : Memory) (pg : List ℕ) (e n a len j : ℕ) → a ≡ place_of r e → len ≡ width_bytes r.memory * n → has_span memory a len ≡ true → e ≤ j → j < e + n → refused_of r memory pg j ≡ false
part-free r memory pg e n a len j place size has least most =
    let i = j - e in
    let span : has_span memory (place_of r e) (width_bytes r.memory * n) ≡ true = sym (ap₂ (has_span memory) place size) ∙ has in
    let free : faults_of r memory (e + i) ≡ false = ap is_some (part-read memory r.base r.index r.memory e n i (omega arith) span) in
    and_right (on_of r pg j) (faults_of r memory j) (ap (faults_of r memory) (let q : j ≡ e + i = omega arith in q) ∙ free)

pub refused-inactive : (r : Reading) (memory : Memory) (pg : List ℕ) (j : ℕ) → on_of r pg j ≡ false → refused_of r memory pg j ≡ false
refused-inactive r memory pg j off = and_left (on_of r pg j) (faults_of r memory j) off

-- one element more
pub below-next : (P : ℕ → Type 0) (e j : ℕ) → (j < e → P j) → P e → j < e + 1 → P j
below-next P e j before here l = elim (cases_lt j e) [ inl b ↦ before b | inr g ↦ subst P (let q : e ≡ j = omega arith in q) here ]
