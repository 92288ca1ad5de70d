-- Facts at each of the four widths.
use Rattle.std.proofs.Common.{◌≡◌, ℕ, ◌*◌, ◌^◌, ◌<◌, ◌≤◌, List, length, get_or, refl, arith, Fits, w8}
use Rattle.std.proofs.lemmas.List.{length-take}
use Rattle.std.proofs.lemmas.Simd.{chunk-fits, below_from_Fits}
use Rattle.std.proofs.Math.Nat.{pow-le-pow_right}
use lib.ListN.{drop}
use lib.Lanes.{chunk}
use Rattle.guest_types.specs.Elements.{element}
use Rattle.guest_types.specs.Length.{width_bytes, modulus, all_lanes}
use Rattle.guest_types.specs.declared.length.Width.{Width}
use Rattle.guest_types.specs.declared.length.Width.TheVariants.{B}
use Rattle.guest_types.proofs.Numbers.{number-below}

pub modulus-is : (w : Width) → modulus w ≡ 256 ^ width_bytes w
modulus-is B = refl
modulus-is other = refl

pub whole-register : (w : Width) → width_bytes w * all_lanes w ≡ 256
whole-register B = refl
whole-register other = refl

pub element-below : (w : Width) (z : List ℕ) (e : ℕ) → ((i : ℕ) → Fits w8 (get_or z i 0)) → element (width_bytes w) z e < modulus w
element-below w z e h =
    let k = width_bytes w in
    let part = chunk (k * e) k z in
    let short : length part ≤ k = omega (arith, length-take k (drop (k * e) z)) in
    let up : 256 ^ length part ≤ 256 ^ k = pow-le-pow_right {n = 256} (omega arith) {i = length part} {j = k} short in
    omega (arith, number-below part (below_from_Fits w8 part (chunk-fits w8 (k * e) k z h)), modulus-is w)

pub some-bytes : (w : Width) → 0 < width_bytes w
some-bytes B = omega arith
some-bytes other = omega arith

pub lane-inside : (w : Width) (e n : ℕ) → e < n → width_bytes w * n ≤ 256 → width_bytes w * e < 256
lane-inside B e n l h = omega arith
lane-inside other e n l h = omega arith

pub modulus_pos : (w : Width) → 0 < modulus w
modulus_pos B = omega arith
modulus_pos other = omega arith
