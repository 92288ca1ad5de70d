-- The elements outside of the bytes of a predicate that are not zero.
use Rattle.std.proofs.Common.{◌≡◌, ℕ, suc, ◌+◌, ◌*◌, ◌/◌, ◌%◌, ◌^◌, ◌<◌, ◌≤◌, min, false, List, sym, ap, ◌∙◌, arith}
use Rattle.std.specs.Prelude.{nat_eq, slice_index}
use Rattle.std.proofs.Math.Nat.{zero-div, mul-suc, mul_assoc, mul-le-mul_left}
use Rattle.guest_types.specs.declared.length.Width.{Width}
use Rattle.guest_types.specs.declared.length.Width.TheVariants.{B, H, S, D}
use Rattle.guest_types.specs.Length.{width_bytes, all_lanes}
use Rattle.guest_types.specs.Elements.{bit}
use Rattle.guest_types.proofs.Widths.{some-bytes, whole-register}
use Rattle.lane_memory.specs.Readings.{IsActiveRange}

zero_bit : (bits : List ℕ) (j : ℕ) → slice_index bits (j / 8) ≡ 0 → bit bits j ≡ false
zero_bit bits j zero = ap (λ b. nat_eq (b / 2 ^ (j % 8) % 2) 1) zero ∙ ap (λ b. nat_eq (b % 2) 1) (zero-div (2 ^ (j % 8)))

-- elements of k bytes, `each` of which have their bits in one byte
below_first : (k each first e : ℕ) → 0 < k → k * each ≡ 8 → e < each * first → k * e / 8 < first
below_first k each first e some whole l =
    let up : k * suc e ≤ k * (each * first) = mul-le-mul_left k (let u : suc e ≤ each * first = l in u) in
    let same : k * (each * first) ≡ 8 * first = sym (mul_assoc k each first) ∙ ap (λ n. n * first) whole in
    omega (arith, up, same, mul-suc k e, some)

from_last : (k each last e : ℕ) → k * each ≡ 8 → each * last ≤ e → last ≤ k * e / 8
from_last k each last e whole l =
    let up : k * (each * last) ≤ k * e = mul-le-mul_left k l in
    let same : k * (each * last) ≡ 8 * last = sym (mul_assoc k each last) ∙ ap (λ n. n * last) whole in
    omega (arith, up, same)

below_bytes : (k lanes e : ℕ) → 0 < k → e < lanes → k * e / 8 < (k * lanes + 7) / 8
below_bytes k lanes e some l =
    let up : k * suc e ≤ k * lanes = mul-le-mul_left k (let u : suc e ≤ lanes = l in u) in
    omega (arith, up, mul-suc k e, some)

pub range-active : (w : Width) (bits : List ℕ) (lanes each bytes first last from to : ℕ) → width_bytes w * each ≡ 8 → bytes ≡ (width_bytes w * lanes + 7) / 8 → first ≤ last → ((i : ℕ) → i < first → slice_index bits i ≡ 0) → ((i : ℕ) → last ≤ i → i < bytes → slice_index bits i ≡ 0)
    → from ≡ min lanes (each * first) → to ≡ min lanes (each * last) → IsActiveRange w bits lanes from to
range-active w bits lanes each bytes first last from to whole count order before after is_from is_to =
    let k = width_bytes w in
    let some = some-bytes w in
    record {
      order = omega (arith, is_from, is_to, mul-le-mul_left each order);
      inside = omega (arith, is_to);
      before = λ e l. zero_bit bits (k * e) (before (k * e / 8) (below_first k each first e some whole (omega (arith, l, is_from))));
      after = λ e l u. zero_bit bits (k * e)
          (after (k * e / 8) (from_last k each last e whole (omega (arith, l, is_to, u))) (omega (arith, count, below_bytes k lanes e some u)));
    }

-- the bytes that hold the bits of so many elements
pub bytes_few : (w : Width) (lanes : ℕ) → lanes ≤ all_lanes w → (width_bytes w * lanes + 7) / 8 ≤ 32
bytes_few w lanes l = omega (arith, mul-le-mul_left (width_bytes w) l, whole-register w)

-- and the elements before a byte
pub each_few : (w : Width) (each n : ℕ) → width_bytes w * each ≡ 8 → n ≤ 32 → each * n ≤ 256
each_few w each n whole l =
    let most : each ≤ 8 = go w whole in
    let up : each * n ≤ each * 32 = mul-le-mul_left each l in
    omega (arith, most, up)
  where
    go : (w : Width) → width_bytes w * each ≡ 8 → each ≤ 8
    go B e = omega (arith, e)
    go H e = omega (arith, e)
    go S e = omega (arith, e)
    go D e = omega (arith, e)
