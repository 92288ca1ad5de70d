use Rattle.std.proofs.Common.{ℕ, ap, cond, ◌-◌, ◌/◌, ◌%◌, ◌+◌, ◌^◌, ◌<◌, ltb, bit_and, refl, subst, arith, w8, w32}
use Rattle.std.proofs.lemmas.Simd.{below_from_Fits}
use Rattle.std.proofs.Math.Nat.{zero-add}
use Rattle.std.proofs.lemmas.Nat.{and_mask}
use Rattle.guest_types.specs.declared.length.Width.TheVariants.{S}
use Rattle.guest_types.specs.declared.operation.LaneUnary.TheVariants.{Abs, Neg, SxtB, UxtB, SxtH, UxtH}
use Rattle.guest_types.specs.Elements.{at}
use Rattle.guest_types.specs.Lanes.{source_bits}
use Rattle.lane_blocks.proofs.Lanes.{IsLanes, lanes-is, lanes-ext, lanes-wide, lanes-zip, lanes-map, lanes-splat, lanes-select, lanes-to_bytes}
use Rattle.lane_arith.specs.Blocks.{unary_at}
use Rattle.lane_arith.proofs.Shifted.{by-unary, signed}
use Rattle.lane_arith.proofs.unary.unary_32.Goals as goal
use Rattle.lane_arith.proofs.unary.unary_32.Goals.{in-Abs, in-Neg, in-Not, in-SxtB, in-UxtB, in-SxtH, in-UxtH, in-SxtW, in-UxtW}

pub returns : goal.returns
returns c =
    let a = c.args.a in
    let m : ℕ = 4294967296 in
    let x = lanes-wide 4 m 8 a refl (below_from_Fits w8 a c.fits-a.1) in
    let minus = lanes-zip (λ x y. (x + (m - y)) % m) (lanes-splat 8 0) x in
    let lanes : IsLanes 8 (unary_at c.args.op S a) c.match-op.outcome =
    elim c.match-op.branch [
      | in-Abs w ↦
          by-unary S a w.in-Abs.is
          (lanes-ext (unary_at Abs S a) (lanes-is w.outcome-is (lanes-select w32 ltb x (lanes-splat 8 (m / 2)) x minus))
          (λ e l. ap (λ n. cond (ltb (at S a e) (m / 2)) (at S a e) (n % m)) (zero-add (m - at S a e))))
      | in-Neg w ↦
          by-unary S a w.in-Neg.is (lanes-ext (unary_at Neg S a) (lanes-is w.outcome-is minus) (λ e l. ap (λ n. n % m) (zero-add (m - at S a e))))
      | in-Not w ↦ by-unary S a w.in-Not.is (lanes-is w.outcome-is (lanes-map (λ n. m - 1 - n) x))
      | in-SxtB w ↦
          let low = lanes-zip bit_and x (lanes-splat 8 (2 ^ 8 - 1)) in
          let high = lanes-zip (λ x y. (x + y) % m) low (lanes-splat 8 (m - 2 ^ 8)) in
          by-unary S a w.in-SxtB.is
          (lanes-ext (unary_at SxtB S a) (lanes-is w.outcome-is (lanes-select w32 ltb low (lanes-splat 8 (2 ^ 8 / 2)) low high)) (λ e l. signed 8 m (at S a e) (omega arith) (omega arith)))
      | in-UxtB w ↦
          by-unary S a w.in-UxtB.is
          (lanes-ext (unary_at UxtB S a) (lanes-is w.outcome-is (lanes-zip bit_and x (lanes-splat 8 (2 ^ 8 - 1)))) (λ e l. and_mask (at S a e) 8))
      | in-SxtH w ↦
          let low = lanes-zip bit_and x (lanes-splat 8 (2 ^ 16 - 1)) in
          let high = lanes-zip (λ x y. (x + y) % m) low (lanes-splat 8 (m - 2 ^ 16)) in
          by-unary S a w.in-SxtH.is
          (lanes-ext (unary_at SxtH S a) (lanes-is w.outcome-is (lanes-select w32 ltb low (lanes-splat 8 (2 ^ 16 / 2)) low high)) (λ e l. signed 16 m (at S a e) (omega arith) (omega arith)))
      | in-UxtH w ↦
          by-unary S a w.in-UxtH.is
          (lanes-ext (unary_at UxtH S a) (lanes-is w.outcome-is (lanes-zip bit_and x (lanes-splat 8 (2 ^ 16 - 1)))) (λ e l. and_mask (at S a e) 16))
      | in-SxtW w ↦ absurd (let wide = subst (λ op. source_bits op < 32) w.in-SxtW.is c.requires in omega arith)
      | in-UxtW w ↦ absurd (let wide = subst (λ op. source_bits op < 32) w.in-UxtW.is c.requires in omega arith)
    ] in
    lanes-to_bytes 4 m refl lanes (below_from_Fits w32 c.match-op.outcome c.match-op.auto.outcome.1)
