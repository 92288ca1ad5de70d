-- Elements that stand in one page.
use Rattle.std.proofs.Common.{◌≡◌, ℕ, suc, ◌+◌, ◌-◌, ◌*◌, ◌/◌, ◌%◌, ◌^◌, ◌<◌, ◌≤◌, true, ◌&&◌, take, drop, None, sym, ap, ap₂, ◌∙◌, subst, arith}
use Rattle.std.proofs.lemmas.Bool.{and_parts, le-leb}
use Rattle.std.proofs.lemmas.List.{drop-drop, drop-take, take-take}
use Rattle.std.proofs.Math.Nat.{mul-suc, mul-le-mul_left}
use lib.Lanes.{chunk}
use Rattle.guest_types.specs.declared.length.Width.{Width}
use Rattle.guest_types.specs.declared.length.Width.TheVariants.{B}
use Rattle.guest_types.specs.Length.{width_bytes}
use Rattle.guest_types.specs.Memory.{Memory, IsMemory, page_at, can_read, first_fault, number_at}
use Rattle.guest_types.specs.Elements.{number_of_bytes}
use Rattle.guest_types.specs.Spans.{in_one_page, has_span, bytes_or_none, span_of}
use Rattle.guest_types.specs.LaneMemory.{lane_address}
use Rattle.guest_types.proofs.SpanLaws.{in_one_page-fits, read_faults-span, number_at-span}
use Rattle.guest_types.proofs.Widths.{some-bytes}

pub address-low : (base index k e : ℕ) → lane_address base index k e < 2 ^ 64
address-low base index k e = omega arith

-- the address of a later element in the same page
pub address-step : (base index : ℕ) (w : Width) (e i : ℕ) → let k = width_bytes w in lane_address base index k e % 4096 + k * i < 4096 → lane_address base index k (e + i) ≡ lane_address base index k e + k * i
address-step base index B e i h = omega arith
address-step base index other e i h = omega arith

-- part of what stands in one page
in_part : (a k n i : ℕ) → 0 < k → i < n → in_one_page a (k * n) ≡ true → (in_one_page (a + k * i) k ≡ true) × ((a + k * i) / 4096 ≡ a / 4096) × ((a + k * i) % 4096 ≡ a % 4096 + k * i)
in_part a k n i some l h =
    let fits = in_one_page-fits a (k * n) h in
    let up : k * suc i ≤ k * n = mul-le-mul_left k (let u : suc i ≤ n = l in u) in
    let room : a % 4096 + k * i + k ≤ 4096 = omega (arith, fits.1, up, mul-suc k i) in
    let page : (a + k * i) / 4096 ≡ a / 4096 = omega arith in
    let place : (a + k * i) % 4096 ≡ a % 4096 + k * i = omega arith in
    (ap₂ (λ a b. a && b) (le-leb 1 k some) (le-leb ((a + k * i) % 4096 + k) 4096 (omega (arith, place, room))), page, place)

pub room-in_page : (a k n i : ℕ) → 0 < k → i < n → in_one_page a (k * n) ≡ true → a % 4096 + k * i < 4096
room-in_page a k n i some l h =
    let fits = in_one_page-fits a (k * n) h in
    let up : k * suc i ≤ k * n = mul-le-mul_left k (let u : suc i ≤ n = l in u) in
    omega (arith, fits.1, up, mul-suc k i)

pub has_part : (memory : Memory) (a k n i : ℕ) → 0 < k → i < n → has_span memory a (k * n) ≡ true → has_span memory (a + k * i) k ≡ true
has_part memory a k n i some l h =
    let parts = and_parts (in_one_page a (k * n)) (can_read memory a) h in
    let inside = in_part a k n i some l parts.0 in
    ap₂ (λ a b. a && b) inside.0 (ap (λ n. Rattle.std.specs.Prelude.is_some (page_at memory n)) inside.1 ∙ parts.1)

span-part : (memory : Memory) (a k n i : ℕ) → 0 < k → i < n → in_one_page a (k * n) ≡ true → span_of memory (a + k * i) k ≡ chunk (k * i) k (span_of memory a (k * n))
span-part memory a k n i some l h =
    let inside = in_part a k n i some l h in
    let up : k * suc i ≤ k * n = mul-le-mul_left k (let u : suc i ≤ n = l in u) in
    let rest : k * n ≡ k * i + (k * n - k * i) = omega (arith, up, mul-suc k i) in
    let bytes = drop (a % 4096) (bytes_or_none (page_at memory (a / 4096))) in
    ap₂ (λ p o. take k (drop o (bytes_or_none (page_at memory p)))) inside.1 inside.2
    ∙ sym (
    ap (λ m. take k (drop (k * i) (take m bytes))) rest
    ∙ ap (take k) (drop-take (k * i) (k * n - k * i) bytes)
    ∙ take-take k (k * n - k * i) (drop (k * i) bytes) (omega (arith, up, mul-suc k i))
    ∙ ap (take k) (drop-drop (k * i) (a % 4096) (bytes_or_none (page_at memory (a / 4096))))
    )

-- elements that stand in one readable page
module _ (memory : Memory) (base index : ℕ) (w : Width) (e n i : ℕ) (l : i < n) where
  k : ℕ
  k = width_bytes w

  pub part-number : IsMemory memory → let k = width_bytes w in let a = lane_address base index k e in has_span memory a (k * n) ≡ true → number_at memory (lane_address base index k (e + i)) k ≡ number_of_bytes (chunk (k * i) k (span_of memory a (k * n)))
  part-number is has =
      let k = width_bytes w in
      let a = lane_address base index k e in
      let some = some-bytes w in
      let one = (and_parts (in_one_page a (k * n)) (can_read memory a) has).0 in
      let room = room-in_page a k n i some l one in
      let step = address-step base index w e i room in
      ap (λ x. number_at memory x k) step
      ∙ number_at-span memory (a + k * i) k is (subst (λ x. x < 2 ^ 64) step (address-low base index k (e + i))) (has_part memory a k n i some l has)
      ∙ ap number_of_bytes (span-part memory a k n i some l one)

  pub part-read : let k = width_bytes w in let a = lane_address base index k e in has_span memory a (k * n) ≡ true → first_fault (can_read memory) (lane_address base index k (e + i)) k ≡ None
  part-read has =
      let k = width_bytes w in
      let a = lane_address base index k e in
      let some = some-bytes w in
      let one = (and_parts (in_one_page a (k * n)) (can_read memory a) has).0 in
      let step = address-step base index w e i (room-in_page a k n i some l one) in
      ap (λ x. first_fault (can_read memory) x k) step
      ∙ read_faults-span memory (a + k * i) k (subst (λ x. x < 2 ^ 64) step (address-low base index k (e + i))) (has_part memory a k n i some l has)
