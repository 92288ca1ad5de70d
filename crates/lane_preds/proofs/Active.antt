-- Elements that are all active, by the bits that a predicate has in common with the first elements.
use Rattle.std.proofs.Common.{◌≡◌, ℕ, ◌*◌, ◌<◌, ◌≤◌, ◌&&◌, true, List, length, sym, ap, ◌∙◌, arith}
use mathlib.Core.Bool.{and-true}
use Rattle.guest_types.specs.declared.length.Width.{Width}
use Rattle.guest_types.specs.Length.{width_bytes, all_lanes}
use Rattle.guest_types.specs.Elements.{active, bit, predicate}
use Rattle.guest_types.specs.Lanes.{all_at}
use Rattle.guest_types.proofs.AtWidths.{active-predicate, length-predicate}
use Rattle.guest_types.proofs.Widths.{whole-register, lane-inside}
use Rattle.lane_blocks.proofs.Masks.{bit-and}
use Rattle.lane_preds.specs.Bits.{both_of}

pub active-common : (w : Width) (n e : ℕ) (p all : List ℕ) → n ≤ all_lanes w → length p ≡ 32 → all ≡ predicate (width_bytes w) all_at n → both_of p all ≡ all → e < n → active w p e ≡ true
active-common w n e p all fits size is common l =
    let j = width_bytes w * e in
    let inside : e < all_lanes w = omega arith in
    let low = lane-inside w e (all_lanes w) inside (omega (arith, whole-register w)) in
    let set : bit all j ≡ true = ap (λ z. bit z j) is ∙ active-predicate w all_at n e l inside in
    let long : length all ≡ 32 = ap length is ∙ length-predicate (width_bytes w) all_at n in
    let both : (bit p j && bit all j) ≡ bit all j = sym (bit-and p all j size long low) ∙ ap (λ z. bit z j) common in
    sym (and-true (bit p j)) ∙ ap (λ b. bit p j && b) (sym set) ∙ both ∙ set
