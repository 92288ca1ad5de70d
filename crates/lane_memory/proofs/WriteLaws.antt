-- Elements that are written to a part of one page, and what they leave of the memory.
use Rattle.std.proofs.Common.{◌≡◌, ℕ, suc, ◌+◌, ◌-◌, ◌*◌, ◌/◌, ◌<◌, ◌≤◌, Bool, true, false, cond, List, ◌++◌, length, take, drop, get_or, refl, sym, ap, ◌∙◌, subst, arith}
use Rattle.std.proofs.lemmas.Bool.{cond-true, cond-false, and_parts}
use Rattle.std.proofs.lemmas.List.{drop-drop, drop-take, take-take, take_all, length-take-le, length-drop, length-append, get_or-take, get_or-drop, length-take}
use Rattle.std.proofs.lemmas.Simd.{Each1-from_get_or}
use Rattle.std.proofs.Math.Nat.{mul-suc, mul-add, mul-le-mul_left}
use lib.Lanes.{chunk}
use Rattle.guest_types.specs.Length.{width_bytes, all_lanes}
use Rattle.guest_types.specs.Memory.{Memory, IsMemory, can_write}
use Rattle.guest_types.specs.Elements.{number_of_bytes, bytes_of, at, active}
use Rattle.guest_types.specs.Spans.{in_one_page, has_span_mut, span_of, with_span}
use Rattle.guest_types.specs.LaneMemory.{store_lanes}
use Rattle.guest_types.proofs.Numbers.{length-bytes_of, bytes_of-number}
use Rattle.guest_types.proofs.SpanLaws.{in_one_page-fits}
use Rattle.guest_types.proofs.Widths.{some-bytes, whole-register}
use Rattle.paged_memory.specs.Numbers.{number_in, with_number}
use Rattle.lane_memory.specs.declared.writing.Writing.{Writing}
use Rattle.lane_memory.specs.Writings.{target_of, stored_of, written_at, IsWritten, IsMerged, IsSpanWritten}
use Rattle.lane_memory.specs.Readings.{IsActiveRange}
use Rattle.lane_memory.proofs.ListParts.{put, chunk-before, chunk-inside, chunk-after, at-written}
use Rattle.lane_memory.proofs.Places.{address-low, address-step, room-in_page}
use Rattle.lane_memory.proofs.ReadLaws.{number_in-chunk, with_number-put, below-next}
use Rattle.lane_memory.proofs.SpanWrites.{length-span, merged, merged-is, stored-merged, store-skip, store-tail}

-- ---- one element more

-- as far as the loop has come: the elements below i are done, and the others stand as they were
pub record Under (w : Writing) (pg z : List ℕ) (from count i : ℕ) (old new : List ℕ) : Type 0 where
  pub done : IsWritten w pg z from i old new
  pub kept : (j : ℕ) → i ≤ j → j < count → chunk (width_bytes w.memory * j) (width_bytes w.memory) new ≡ chunk (width_bytes w.memory * j) (width_bytes w.memory) old

pub under-none : (w : Writing) (pg z : List ℕ) (from count : ℕ) (part : List ℕ) → Under w pg z from count 0 part part
under-none w pg z from count part = record {
  done = record { long = refl; written = λ i l. absurd (omega arith) };
  kept = λ j l u. refl;
}

pub under-on : (w : Writing) (pg z : List ℕ) (from count i x : ℕ) (old was now : List ℕ) → Under w pg z from count i old was → i < count → length old ≡ width_bytes w.memory * count → active w.element pg (from + i) ≡ true
    → x ≡ number_in z (width_bytes w.element * (from + i)) (width_bytes w.element) → now ≡ with_number was (width_bytes w.memory * i) (width_bytes w.memory) x → Under w pg z from count (i + 1) old now
under-on w pg z from count i x old was now h l size on number is =
    let m = width_bytes w.memory in
    let part = bytes_of m x in
    let new : now ≡ put (m * i) m part was = is ∙ with_number-put was (m * i) m x in
    let long = length-bytes_of m x in
    let wide : length was ≡ m * count = h.done.long ∙ size in
    let up : m * suc i ≤ m * count = mul-le-mul_left m (let u : suc i ≤ count = l in u) in
    let fits : m * i ≤ length was = omega (arith, wide, up, mul-suc m i) in
    let here : chunk (m * i) m now ≡ written_at w pg z old from i =
    ap (chunk (m * i) m) new ∙ ap (λ j. chunk j m (put (m * i) m part was)) (let q : m * i ≡ m * i + 0 = omega arith in q)
    ∙ chunk-inside (m * i) m part was 0 m (omega (arith, long)) fits ∙ take_all m part (omega (arith, long))
    ∙ ap (bytes_of m) (number ∙ number_in-chunk z (width_bytes w.element * (from + i)) (width_bytes w.element)) ∙ sym (cond-true _ _ _ on) in
    record {
      done = record {
        long = ap length new ∙ omega (arith, length-append (take (m * i) was) (part ++ drop m (drop (m * i) was)), length-append part (drop m (drop (m * i) was)), long, length-take-le (m * i) was fits, length-drop m (drop (m * i) was), length-drop (m * i) was, wide, up, mul-suc m i) ∙ h.done.long;
        written = λ j u. below-next (λ j. chunk (m * j) m now ≡ written_at w pg z old from j) i j
            (λ b. ap (chunk (m * j) m) new ∙ chunk-before (m * i) m part was (m * j) m (let q : m * suc j ≤ m * i = mul-le-mul_left m (let u : suc j ≤ i = b in u) in omega (arith, mul-suc m j)) fits ∙ h.done.written j b)
            here u;
      };
      kept = λ j least most. ap (chunk (m * j) m) new ∙ chunk-after (m * i) m part was (m * j) m long (let q : m * suc i ≤ m * j = mul-le-mul_left m (let u : suc i ≤ j = omega arith in u) in omega (arith, mul-suc m i)) fits ∙ h.kept j (omega arith) most;
    }

pub under-off : (w : Writing) (pg z : List ℕ) (from count i : ℕ) (old was : List ℕ) → Under w pg z from count i old was → i < count → active w.element pg (from + i) ≡ false → Under w pg z from count (i + 1) old was
under-off w pg z from count i old was h l off =
    let m = width_bytes w.memory in
    record {
      done = record {
        long = h.done.long;
        written = λ j u. below-next (λ j. chunk (m * j) m was ≡ written_at w pg z old from j) i j (h.done.written j) (h.kept i (omega arith) l ∙ sym (cond-false _ _ _ off)) u;
      };
      kept = λ j least most. h.kept j (omega arith) most;
    }

-- ---- a part that is merged as a register

chunk-own : (i k : ℕ) (l : List ℕ) → ((j : ℕ) → get_or l j 0 < 256) → i + k ≤ length l → bytes_of k (number_of_bytes (chunk i k l)) ≡ chunk i k l
chunk-own i k l small fits =
    let part = chunk i k l in
    let long : length part ≡ k = length-take-le k (drop i l) (omega (arith, length-drop i l)) in
    ap (λ n. bytes_of n (number_of_bytes part)) (sym long)
    ∙ bytes_of-number part (Each1-from_get_or (λ b. b < 256) part 0 (λ j u. subst (λ b. b < 256) (sym (get_or-take k (drop i l) j 0 (omega (arith, length-take k (drop i l))) ∙ get_or-drop i l j 0)) (small (i + j))))

pub merged-part : (w : Writing) (pg z : List ℕ) (from n blocks : ℕ) (old zeros before after new : List ℕ) → w.memory ≡ w.element → length old ≡ width_bytes w.memory * n → from + n ≤ all_lanes w.element → ((j : ℕ) → get_or old j 0 < 256) → length zeros ≡ 256
    → before ≡ put (width_bytes w.element * from) (width_bytes w.element * n) old zeros → blocks ≡ (width_bytes w.element * from + width_bytes w.element * n + 31) / 32 → IsMerged w.element pg z blocks before after → new ≡ chunk (width_bytes w.element * from) (width_bytes w.element * n) after → IsWritten w pg z from n old new
merged-part w pg z from n blocks old zeros before after new same size fits small none is count h is_new =
    let k = width_bytes w.element in
    let m = width_bytes w.memory in
    let one : m ≡ k = ap width_bytes same in
    let wide : length old ≡ k * n = size ∙ ap (λ k. k * n) one in
    let inside : k * from + k * n ≤ 256 = omega (arith, whole-register w.element, mul-add k from n, mul-le-mul_left k fits) in
    let part : (i : ℕ) → i < n → chunk (k * i) k new ≡ cond (active w.element pg (from + i)) (bytes_of k (at w.element z (from + i))) (chunk (k * i) k old) = λ i l.
    let up : k * suc i ≤ k * n = mul-le-mul_left k (let u : suc i ≤ n = l in u) in
    let rest : k * n ≡ k * i + (k * n - k * i) = omega arith in
    let low : k * (from + i) < 32 * blocks = omega (arith, count, mul-add k from i, mul-suc k i, some-bytes w.element) in
    let own : bytes_of k (at w.element before (from + i)) ≡ chunk (k * i) k old =
    ap (bytes_of k) (ap (λ b. at w.element b (from + i)) is ∙ at-written w.element zeros old from n none fits wide i l) ∙ chunk-own (k * i) k old small (omega (arith, wide, mul-suc k i)) in
    ap (chunk (k * i) k) is_new
    ∙ ap (λ j. take k (drop (k * i) (take j (drop (k * from) after)))) rest
    ∙ ap (take k) (drop-take (k * i) (k * n - k * i) (drop (k * from) after))
    ∙ take-take k (k * n - k * i) (drop (k * i) (drop (k * from) after)) (omega (arith, mul-suc k i))
    ∙ ap (take k) (drop-drop (k * i) (k * from) after ∙ ap (λ j. drop j after) (sym (mul-add k from i)))
    ∙ h.chosen (from + i) low
    ∙ bytes_cond k (active w.element pg (from + i)) (at w.element z (from + i)) (at w.element before (from + i))
    ∙ ap (cond (active w.element pg (from + i)) (bytes_of k (at w.element z (from + i)))) own in
    record {
      long = ap length is_new ∙ length-take-le (k * n) (drop (k * from) after) (omega (arith, length-drop (k * from) after, h.long)) ∙ sym wide;
      written = λ i l. subst (λ m. chunk (m * i) m new ≡ cond (active w.element pg (from + i)) (bytes_of m (at w.element z (from + i))) (chunk (m * i) m old)) (sym one) (part i l);
    }
  where
    bytes_cond : (k : ℕ) (t : Bool) (x y : ℕ) → bytes_of k (cond t x y) ≡ cond t (bytes_of k x) (bytes_of k y)
    bytes_cond k true x y = refl
    bytes_cond k false x y = refl

-- a part of which all elements are active
pub whole-part : (w : Writing) (pg z : List ℕ) (from n : ℕ) (old new : List ℕ) → w.memory ≡ w.element → length old ≡ width_bytes w.memory * n → from + n ≤ all_lanes w.element → length z ≡ 256 → ((j : ℕ) → get_or z j 0 < 256) → ((e : ℕ) → e < from + n → active w.element pg e ≡ true)
    → new ≡ chunk (width_bytes w.element * from) (width_bytes w.element * n) z → IsWritten w pg z from n old new
whole-part w pg z from n old new same size fits long small on is_new =
    let k = width_bytes w.element in
    let m = width_bytes w.memory in
    let one : m ≡ k = ap width_bytes same in
    let wide : length old ≡ k * n = size ∙ ap (λ k. k * n) one in
    let inside : k * from + k * n ≤ 256 = omega (arith, whole-register w.element, mul-add k from n, mul-le-mul_left k fits) in
    let part : (i : ℕ) → i < n → chunk (k * i) k new ≡ cond (active w.element pg (from + i)) (bytes_of k (at w.element z (from + i))) (chunk (k * i) k old) = λ i l.
    let up : k * suc i ≤ k * n = mul-le-mul_left k (let u : suc i ≤ n = l in u) in
    let rest : k * n ≡ k * i + (k * n - k * i) = omega arith in
    ap (chunk (k * i) k) is_new
    ∙ ap (λ j. take k (drop (k * i) (take j (drop (k * from) z)))) rest
    ∙ ap (take k) (drop-take (k * i) (k * n - k * i) (drop (k * from) z))
    ∙ take-take k (k * n - k * i) (drop (k * i) (drop (k * from) z)) (omega (arith, mul-suc k i))
    ∙ ap (take k) (drop-drop (k * i) (k * from) z ∙ ap (λ j. drop j z) (sym (mul-add k from i)))
    ∙ sym (chunk-own (k * (from + i)) k z small (omega (arith, long, mul-add k from i, mul-suc k i)))
    ∙ sym (cond-true _ _ _ (on (from + i) (omega arith))) in
    record {
      long = ap length is_new ∙ length-take-le (k * n) (drop (k * from) z) (omega (arith, length-drop (k * from) z, long)) ∙ sym wide;
      written = λ i l. subst (λ m. chunk (m * i) m new ≡ cond (active w.element pg (from + i)) (bytes_of m (at w.element z (from + i))) (chunk (m * i) m old)) (sym one) (part i l);
    }

-- ---- what a part leaves of the memory

pub part-stored : (w : Writing) (pg z : List ℕ) (from n left : ℕ) (old new : Memory) → IsMemory old → has_span_mut old (target_of w from) (width_bytes w.memory * n) ≡ true → IsSpanWritten w pg z from n old new → stored_of w pg z (n + left) from old ≡ stored_of w pg z left (from + n) new
part-stored w pg z from n left old new is has h =
    let k = width_bytes w.memory in
    let a = target_of w from in
    let on = active w.element pg in
    let v = at w.element z in
    let parts = and_parts (in_one_page a (k * n)) (can_write old a) has in
    let fits = in_one_page-fits a (k * n) parts.0 in
    let some = some-bytes w.memory in
    let long : length (span_of old a (k * n)) ≡ k * n = length-span old a (k * n) is parts.1 fits.1 in
    let same : h.bytes ≡ merged on v k n from (span_of old a (k * n)) = merged-is on v k n from (span_of old a (k * n)) h.bytes (h.part.long ∙ long) h.part.written in
    stored-merged on (target_of w) v k n left from a old is (address-low w.base w.index k from) parts.1 fits.1 some
    (λ i l. address-step w.base w.index w.memory from i (room-in_page a k n i some l parts.0))
    ∙ ap (λ l. stored_of w pg z left (from + n) (with_span old a l)) (sym same)
    ∙ ap (stored_of w pg z left (from + n)) (sym h.memory)

-- ---- only the active elements count

pub range-stored : (w : Writing) (pg z : List ℕ) (lanes from to : ℕ) (memory : Memory) → IsActiveRange w.element pg lanes from to → stored_of w pg z (lanes - 0) 0 memory ≡ stored_of w pg z (to - from) from memory
range-stored w pg z lanes from to memory range =
    let on = active w.element pg in
    let f = target_of w in
    let v = at w.element z in
    let k = width_bytes w.memory in
    ap (λ n. store_lanes on f v k n 0 memory) (let q : lanes - 0 ≡ from + ((to - from) + (lanes - to)) = omega (arith, range.order, range.inside) in q)
    ∙ store-skip on f v k from ((to - from) + (lanes - to)) 0 memory (λ j l u. range.before j (omega arith))
    ∙ ap (λ e. store_lanes on f v k ((to - from) + (lanes - to)) e memory) (let q : 0 + from ≡ from = omega arith in q)
    ∙ store-tail on f v k (to - from) (lanes - to) from memory (λ j l u. range.after j (omega (arith, range.order)) (omega (arith, range.order, range.inside)))
