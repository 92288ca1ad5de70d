use Rattle.std.proofs.Common.{ℕ, ◌-◌, ◌/◌, ltb, bit_and, w8}
use Rattle.std.proofs.lemmas.Simd.{below_from_Fits}
use Rattle.guest_types.specs.declared.length.Width.TheVariants.{B}
use Rattle.guest_types.specs.declared.operation.LaneOp.TheVariants.{Add, Sub, Mul, And, Or, Xor, UMin, UMax}
use Rattle.guest_types.specs.Elements.{at}
use Rattle.guest_types.specs.Lanes.{lane, binary_at}
use Rattle.lane_blocks.proofs.Lanes.{IsLanes, lanes-is, lanes-ext, lanes-bytes, lanes-zip, lanes-map, lanes-splat, lanes-select, lanes-elements}
use Rattle.lane_arith.proofs.Operations.{by-op, cond-min, cond-max}
use Rattle.lane_arith.proofs.binary.binary_8.Goals as goal
use Rattle.lane_arith.proofs.binary.binary_8.Goals.{in-Add, in-Sub, in-Mul, in-And, in-Or, in-Xor, in-Bic, in-SMin, in-SMax, in-UMin, in-UMax}

pub returns : goal.returns
returns c =
    let a = c.args.a in
    let b = c.args.b in
    let m : ℕ = 256 in
    let x = lanes-bytes 32 a c.fits-a.0 in
    let y = lanes-bytes 32 b c.fits-b.0 in
    let half = lanes-splat 32 (m / 2) in
    let up_x = lanes-zip (lane Add m) x half in
    let up_y = lanes-zip (lane Add m) y half in
    let lanes : IsLanes 32 (binary_at c.args.op B a b) c.match-op.result =
    elim c.match-op.branch [
      | in-Add w ↦ by-op B a b w.in-Add.is (lanes-is w.result-is (lanes-zip (lane Add m) x y))
      | in-Sub w ↦ by-op B a b w.in-Sub.is (lanes-is w.result-is (lanes-zip (lane Sub m) x y))
      | in-Mul w ↦ by-op B a b w.in-Mul.is (lanes-is w.result-is (lanes-zip (lane Mul m) x y))
      | in-And w ↦ by-op B a b w.in-And.is (lanes-is w.result-is (lanes-zip (lane And m) x y))
      | in-Or w ↦ by-op B a b w.in-Or.is (lanes-is w.result-is (lanes-zip (lane Or m) x y))
      | in-Xor w ↦ by-op B a b w.in-Xor.is (lanes-is w.result-is (lanes-zip (lane Xor m) x y))
      | in-Bic w ↦ by-op B a b w.in-Bic.is (lanes-is w.result-is (lanes-zip bit_and x (lanes-map (λ n. m - 1 - n) y)))
      | in-SMin w ↦ by-op B a b w.in-SMin.is (lanes-is w.result-is (lanes-select w8 ltb up_x up_y x y))
      | in-SMax w ↦ by-op B a b w.in-SMax.is (lanes-is w.result-is (lanes-select w8 ltb up_x up_y y x))
      | in-UMin w ↦ by-op B a b w.in-UMin.is (lanes-is w.result-is (lanes-ext (binary_at UMin B a b) (lanes-select w8 ltb x y x y) (λ e l. cond-min (at B a e) (at B b e))))
      | in-UMax w ↦ by-op B a b w.in-UMax.is (lanes-is w.result-is (lanes-ext (binary_at UMax B a b) (lanes-select w8 ltb x y y x) (λ e l. cond-max (at B a e) (at B b e))))
    ] in
    lanes-elements lanes (below_from_Fits w8 c.match-op.result c.match-op.auto.result.1)
