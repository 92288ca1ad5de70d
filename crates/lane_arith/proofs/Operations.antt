-- Operations of two vectors, lane by lane.
use Rattle.std.proofs.Common.{min, max, ◌≡◌, ℕ, ◌+◌, ◌-◌, ◌*◌, ◌<◌, cond, ltb, List, sym, subst, arith}
use Rattle.std.proofs.lemmas.Bool.{cond_both, ltb-true, ltb-false}
use Rattle.std.proofs.lemmas.Nat.{and_le_l}
use Rattle.std.proofs.Math.Nat.{mod-lt}
use lib.Lanes.{Each1}
use Rattle.guest_types.specs.declared.length.Width.{Width}
use Rattle.guest_types.specs.declared.operation.LaneOp.{LaneOp}
use Rattle.guest_types.specs.declared.operation.LaneOp.TheVariants.{Add, Sub, Mul, And, Or, Xor, Bic, SMin, SMax, UMin, UMax}
use Rattle.guest_types.specs.Length.{modulus}
use Rattle.guest_types.specs.Elements.{at}
use Rattle.guest_types.specs.Lanes.{lane, signed_lt, binary_at}
use Rattle.guest_types.proofs.Shifts.{or-below, xor-below}
use Rattle.guest_types.proofs.Widths.{modulus_pos}
use Rattle.lane_blocks.proofs.Lanes.{IsLanes}
use Rattle.lane_blocks.proofs.Masks.{element-small}

-- the lanes of one operation are those of the operation that it is
pub by-op : {n : ℕ} {xs : List ℕ} {op known : LaneOp} (w : Width) (a b : List ℕ) → op ≡ known → IsLanes n (binary_at known w a b) xs → IsLanes n (binary_at op w a b) xs
by-op {n} {xs} w a b is h = subst (λ o. IsLanes n (binary_at o w a b) xs) (sym is) h

-- an operation of elements is an element
pub lane-below : (op : LaneOp) (w : Width) (a b : ℕ) → a < modulus w → b < modulus w → lane op (modulus w) a b < modulus w
lane-below Add w a b p q = mod-lt (a + b) (modulus_pos w)
lane-below Sub w a b p q = mod-lt (a + (modulus w - b)) (modulus_pos w)
lane-below Mul w a b p q = mod-lt (a * b) (modulus_pos w)
lane-below And w a b p q = omega (arith, and_le_l a b)
lane-below Or w a b p q = or-below w a b p q
lane-below Xor w a b p q = xor-below w a b p q
lane-below Bic w a b p q = omega (arith, and_le_l a (modulus w - 1 - b))
lane-below SMin w a b p q = cond_both (signed_lt (modulus w) a b) a b (λ x. x < modulus w) (λ _. p) (λ _. q)
lane-below SMax w a b p q = cond_both (signed_lt (modulus w) a b) b a (λ x. x < modulus w) (λ _. q) (λ _. p)
lane-below UMin w a b p q = omega arith
lane-below UMax w a b p q = omega arith

pub binary-below : (op : LaneOp) (w : Width) (a b : List ℕ) (e : ℕ) → Each1 (λ x. x < 256) a → Each1 (λ x. x < 256) b → binary_at op w a b e < modulus w
binary-below op w a b e sa sb = lane-below op w (at w a e) (at w b e) (element-small w a e sa) (element-small w b e sb)

pub cond-min : (a b : ℕ) → cond (ltb a b) a b ≡ min a b
cond-min a b = cond_both (ltb a b) a b (λ x. x ≡ min a b) (λ e. omega (arith, ltb-true a b e)) (λ e. omega (arith, ltb-false a b e))

pub cond-max : (a b : ℕ) → cond (ltb a b) b a ≡ max a b
cond-max a b = cond_both (ltb a b) b a (λ x. x ≡ max a b) (λ e. omega (arith, ltb-true a b e)) (λ e. omega (arith, ltb-false a b e))
