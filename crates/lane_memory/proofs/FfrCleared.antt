-- The first-fault register with its bits clear from one on.
use Rattle.std.proofs.Common.{◌≡◌, ℕ, ◌*◌, ◌<◌, ◌≤◌, true, not, List, Some, None, ap, ◌∙◌, arith}
use Rattle.std.specs.Prelude.{nat_lt}
use Rattle.std.proofs.lemmas.Bool.{lt-ltb, le-ltb, and_right}
use Rattle.std.proofs.Math.Nat.{mul-le-mul_left}
use Rattle.guest_types.specs.declared.length.Width.{Width}
use Rattle.guest_types.specs.Length.{width_bytes, all_lanes}
use Rattle.guest_types.specs.Elements.{bit, bits_of, first_true}
use Rattle.guest_types.specs.LaneMemory.{kept_bit, cleared_from, is_clear}
use Rattle.guest_types.proofs.Predicates.{bit-bits_of}
use Rattle.guest_types.proofs.Widths.{lane-inside, whole-register}
use Rattle.lane_blocks.specs.Blocks.{is_below}
use Rattle.lane_memory.proofs.FirstTrue.{first_true-absent}
use Rattle.lane_memory.proofs.KeepLaws.{scaled_lt}

-- the bit of the element is clear then
pub clear-there : (w : Width) (ffr : List ℕ) (e : ℕ) → e < all_lanes w → is_clear w (cleared_from w (Some e) ffr) e ≡ true
clear-there w ffr e l =
    let at = width_bytes w * e in
    let low : at < 256 = lane-inside w e (all_lanes w) l (omega (arith, whole-register w)) in
    ap not (bit-bits_of (kept_bit ffr at) 32 at low ∙ and_right (bit ffr at) (nat_lt at at) (le-ltb at at (omega arith)))

-- and none is clear where each bit below the limit is set
pub none-clear : (w : Width) (ffr : List ℕ) (lanes : ℕ) → lanes ≤ all_lanes w → ffr ≡ bits_of (is_below (width_bytes w * lanes)) 32 → first_true (is_clear w ffr) lanes 0 ≡ None
none-clear w ffr lanes fits is = first_true-absent (is_clear w ffr) lanes 0 (λ e _ l.
    let k = width_bytes w in
    let low : k * e < 256 = lane-inside w e lanes (omega (arith, l)) (omega (arith, whole-register w, mul-le-mul_left k fits)) in
    ap not (ap (λ p. bit p (k * e)) is ∙ bit-bits_of (is_below (k * lanes)) 32 (k * e) low ∙ lt-ltb (k * e) (k * lanes) (scaled_lt w e lanes (omega (arith, l)))))
