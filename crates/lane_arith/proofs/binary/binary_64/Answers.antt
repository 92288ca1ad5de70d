use Rattle.std.proofs.Common.{ℕ, ◌-◌, ◌/◌, ltb, refl, bit_and, w8, w64}
use Rattle.std.proofs.lemmas.Simd.{below_from_Fits}
use Rattle.guest_types.specs.declared.length.Width.TheVariants.{D}
use Rattle.guest_types.specs.declared.operation.LaneOp.TheVariants.{Add, Sub, Mul, And, Or, Xor, UMin, UMax}
use Rattle.guest_types.specs.Elements.{at}
use Rattle.guest_types.specs.Lanes.{lane, binary_at}
use Rattle.lane_blocks.proofs.Lanes.{IsLanes, lanes-is, lanes-ext, lanes-wide, lanes-zip, lanes-map, lanes-splat, lanes-select, lanes-to_bytes}
use Rattle.lane_arith.proofs.Operations.{by-op, cond-min, cond-max}
use Rattle.lane_arith.proofs.binary.binary_64.Goals as goal
use Rattle.lane_arith.proofs.binary.binary_64.Goals.{in-Add, in-Sub, in-Mul, in-And, in-Or, in-Xor, in-Bic, in-SMin, in-SMax, in-UMin, in-UMax}

pub returns : goal.returns
returns c =
    let a = c.args.a in
    let b = c.args.b in
    let m : ℕ = 18446744073709551616 in
    let x = lanes-wide 8 m 4 a refl (below_from_Fits w8 a c.fits-a.1) in
    let y = lanes-wide 8 m 4 b refl (below_from_Fits w8 b c.fits-b.1) in
    let half = lanes-splat 4 (m / 2) in
    let up_x = lanes-zip (lane Add m) x half in
    let up_y = lanes-zip (lane Add m) y half in
    let lanes : IsLanes 4 (binary_at c.args.op D a b) c.match-op.outcome =
    elim c.match-op.branch [
      | in-Add w ↦ by-op D a b w.in-Add.is (lanes-is w.outcome-is (lanes-zip (lane Add m) x y))
      | in-Sub w ↦ by-op D a b w.in-Sub.is (lanes-is w.outcome-is (lanes-zip (lane Sub m) x y))
      | in-Mul w ↦ by-op D a b w.in-Mul.is (lanes-is w.outcome-is (lanes-zip (lane Mul m) x y))
      | in-And w ↦ by-op D a b w.in-And.is (lanes-is w.outcome-is (lanes-zip (lane And m) x y))
      | in-Or w ↦ by-op D a b w.in-Or.is (lanes-is w.outcome-is (lanes-zip (lane Or m) x y))
      | in-Xor w ↦ by-op D a b w.in-Xor.is (lanes-is w.outcome-is (lanes-zip (lane Xor m) x y))
      | in-Bic w ↦ by-op D a b w.in-Bic.is (lanes-is w.outcome-is (lanes-zip bit_and x (lanes-map (λ n. m - 1 - n) y)))
      | in-SMin w ↦ by-op D a b w.in-SMin.is (lanes-is w.outcome-is (lanes-select w64 ltb up_x up_y x y))
      | in-SMax w ↦ by-op D a b w.in-SMax.is (lanes-is w.outcome-is (lanes-select w64 ltb up_x up_y y x))
      | in-UMin w ↦ by-op D a b w.in-UMin.is (lanes-is w.outcome-is (lanes-ext (binary_at UMin D a b) (lanes-select w64 ltb x y x y) (λ e l. cond-min (at D a e) (at D b e))))
      | in-UMax w ↦ by-op D a b w.in-UMax.is (lanes-is w.outcome-is (lanes-ext (binary_at UMax D a b) (lanes-select w64 ltb x y y x) (λ e l. cond-max (at D a e) (at D b e))))
    ] in
    lanes-to_bytes 8 m refl lanes (below_from_Fits w64 c.match-op.outcome c.match-op.auto.outcome.1)
