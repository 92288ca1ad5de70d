-- How many bytes elements take.
use Rattle.std.proofs.Common.{◌≡◌, ℕ, suc, ◌+◌, ◌*◌, ◌<◌, ◌≤◌, ◌⊎◌, inl, inr, ap, arith}
use Rattle.std.proofs.Math.Nat.{mul-suc, mul-add, mul-le-mul_left}
use Rattle.guest_types.specs.declared.length.Width.{Width}
use Rattle.guest_types.specs.declared.length.Width.TheVariants.{B, H, S, D}
use Rattle.guest_types.specs.Length.{width_bytes, all_lanes}
use Rattle.guest_types.proofs.Widths.{whole-register}

pub byte_size : (w : Width) (n : ℕ) → n ≡ width_bytes w → (n ≡ 1) ⊎ (n ≡ 2) ⊎ (n ≡ 4) ⊎ (n ≡ 8)
byte_size B n e = inl e
byte_size H n e = inr (inl e)
byte_size S n e = inr (inr (inl e))
byte_size D n e = inr (inr (inr e))

pub lanes_most : (w : Width) → all_lanes w ≤ 256
lanes_most B = omega arith
lanes_most H = omega arith
lanes_most S = omega arith
lanes_most D = omega arith

bytes_most : (w : Width) → width_bytes w ≤ 8
bytes_most B = omega arith
bytes_most H = omega arith
bytes_most S = omega arith
bytes_most D = omega arith

-- of one width in memory and of another in the register
pub few_bytes : (w u : Width) (n : ℕ) → n ≤ all_lanes u → width_bytes w * n ≤ 2048
few_bytes w u n l =
    let up : width_bytes w * n ≤ width_bytes w * 256 = mul-le-mul_left (width_bytes w) (omega (arith, l, lanes_most u)) in
    omega (arith, up, bytes_most w)

-- an element of some, which take n bytes each
pub element_end : (k n i count size : ℕ) → n ≡ k → i < count → size ≡ k * count → n * i + n ≤ size
element_end k n i count size e l whole =
    let up : k * suc i ≤ k * count = mul-le-mul_left k (let u : suc i ≤ count = l in u) in
    omega (arith, up, mul-suc k i, whole, e, ap (λ n. n * i) e)

-- and one of a register
pub lane_end : (w : Width) (n i : ℕ) → n ≡ width_bytes w → i < all_lanes w → n * i + n ≤ 256
lane_end w n i e l =
    let up : width_bytes w * suc i ≤ width_bytes w * all_lanes w = mul-le-mul_left (width_bytes w) (let u : suc i ≤ all_lanes w = l in u) in
    omega (arith, up, mul-suc (width_bytes w) i, whole-register w, e, ap (λ n. n * i) e)

-- and some of a register, from a place on
pub lanes_end : (w : Width) (from count : ℕ) → from + count ≤ all_lanes w → width_bytes w * from + width_bytes w * count ≤ 256
lanes_end w from count l = omega (arith, mul-le-mul_left (width_bytes w) l, mul-add (width_bytes w) from count, whole-register w)
