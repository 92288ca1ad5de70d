use Rattle.std.proofs.Common.{ℕ, ap, cond, ◌-◌, ◌/◌, ◌%◌, ◌+◌, ◌^◌, ltb, bit_and, refl, arith, w8, w64}
use Rattle.std.proofs.lemmas.Simd.{below_from_Fits}
use Rattle.std.proofs.Math.Nat.{zero-add}
use Rattle.std.proofs.lemmas.Nat.{and_mask}
use Rattle.guest_types.specs.declared.length.Width.TheVariants.{D}
use Rattle.guest_types.specs.declared.operation.LaneUnary.TheVariants.{Abs, Neg, SxtB, UxtB, SxtH, UxtH, SxtW, UxtW}
use Rattle.guest_types.specs.Elements.{at}
use Rattle.lane_blocks.proofs.Lanes.{IsLanes, lanes-is, lanes-ext, lanes-wide, lanes-zip, lanes-map, lanes-splat, lanes-select, lanes-to_bytes}
use Rattle.lane_arith.specs.Blocks.{unary_at}
use Rattle.lane_arith.proofs.Shifted.{by-unary, signed}
use Rattle.lane_arith.proofs.unary.unary_64.Goals as goal
use Rattle.lane_arith.proofs.unary.unary_64.Goals.{in-Abs, in-Neg, in-Not, in-SxtB, in-UxtB, in-SxtH, in-UxtH, in-SxtW, in-UxtW}

pub returns : goal.returns
returns c =
    let a = c.args.a in
    let m : ℕ = 18446744073709551616 in
    let x = lanes-wide 8 m 4 a refl (below_from_Fits w8 a c.fits-a.1) in
    let minus = lanes-zip (λ x y. (x + (m - y)) % m) (lanes-splat 4 0) x in
    let lanes : IsLanes 4 (unary_at c.args.op D a) c.match-op.outcome =
    elim c.match-op.branch [
      | in-Abs w ↦
          by-unary D a w.in-Abs.is
          (lanes-ext (unary_at Abs D a) (lanes-is w.outcome-is (lanes-select w64 ltb x (lanes-splat 4 (m / 2)) x minus))
          (λ e l. ap (λ n. cond (ltb (at D a e) (m / 2)) (at D a e) (n % m)) (zero-add (m - at D a e))))
      | in-Neg w ↦
          by-unary D a w.in-Neg.is (lanes-ext (unary_at Neg D a) (lanes-is w.outcome-is minus) (λ e l. ap (λ n. n % m) (zero-add (m - at D a e))))
      | in-Not w ↦ by-unary D a w.in-Not.is (lanes-is w.outcome-is (lanes-map (λ n. m - 1 - n) x))
      | in-SxtB w ↦
          let low = lanes-zip bit_and x (lanes-splat 4 (2 ^ 8 - 1)) in
          let high = lanes-zip (λ x y. (x + y) % m) low (lanes-splat 4 (m - 2 ^ 8)) in
          by-unary D a w.in-SxtB.is
          (lanes-ext (unary_at SxtB D a) (lanes-is w.outcome-is (lanes-select w64 ltb low (lanes-splat 4 (2 ^ 8 / 2)) low high)) (λ e l. signed 8 m (at D a e) (omega arith) (omega arith)))
      | in-UxtB w ↦
          by-unary D a w.in-UxtB.is
          (lanes-ext (unary_at UxtB D a) (lanes-is w.outcome-is (lanes-zip bit_and x (lanes-splat 4 (2 ^ 8 - 1)))) (λ e l. and_mask (at D a e) 8))
      | in-SxtH w ↦
          let low = lanes-zip bit_and x (lanes-splat 4 (2 ^ 16 - 1)) in
          let high = lanes-zip (λ x y. (x + y) % m) low (lanes-splat 4 (m - 2 ^ 16)) in
          by-unary D a w.in-SxtH.is
          (lanes-ext (unary_at SxtH D a) (lanes-is w.outcome-is (lanes-select w64 ltb low (lanes-splat 4 (2 ^ 16 / 2)) low high)) (λ e l. signed 16 m (at D a e) (omega arith) (omega arith)))
      | in-UxtH w ↦
          by-unary D a w.in-UxtH.is
          (lanes-ext (unary_at UxtH D a) (lanes-is w.outcome-is (lanes-zip bit_and x (lanes-splat 4 (2 ^ 16 - 1)))) (λ e l. and_mask (at D a e) 16))
      | in-SxtW w ↦
          let low = lanes-zip bit_and x (lanes-splat 4 (2 ^ 32 - 1)) in
          let high = lanes-zip (λ x y. (x + y) % m) low (lanes-splat 4 (m - 2 ^ 32)) in
          by-unary D a w.in-SxtW.is
          (lanes-ext (unary_at SxtW D a) (lanes-is w.outcome-is (lanes-select w64 ltb low (lanes-splat 4 (2 ^ 32 / 2)) low high)) (λ e l. signed 32 m (at D a e) (omega arith) (omega arith)))
      | in-UxtW w ↦
          by-unary D a w.in-UxtW.is
          (lanes-ext (unary_at UxtW D a) (lanes-is w.outcome-is (lanes-zip bit_and x (lanes-splat 4 (2 ^ 32 - 1)))) (λ e l. and_mask (at D a e) 32))
    ] in
    lanes-to_bytes 8 m refl lanes (below_from_Fits w64 c.match-op.outcome c.match-op.auto.outcome.1)
