use Rattle.std.proofs.Common.{ℕ, ap, cond, ◌-◌, ◌/◌, ◌%◌, ◌+◌, ◌^◌, ◌<◌, ltb, bit_and, refl, subst, arith, w8, w16}
use Rattle.std.proofs.lemmas.Simd.{below_from_Fits}
use Rattle.std.proofs.Math.Nat.{zero-add}
use Rattle.std.proofs.lemmas.Nat.{and_mask}
use Rattle.guest_types.specs.declared.length.Width.TheVariants.{H}
use Rattle.guest_types.specs.declared.operation.LaneUnary.TheVariants.{Abs, Neg, SxtB, UxtB}
use Rattle.guest_types.specs.Elements.{at}
use Rattle.guest_types.specs.Lanes.{source_bits}
use Rattle.lane_blocks.proofs.Lanes.{IsLanes, lanes-is, lanes-ext, lanes-wide, lanes-zip, lanes-map, lanes-splat, lanes-select, lanes-to_bytes}
use Rattle.lane_arith.specs.Blocks.{unary_at}
use Rattle.lane_arith.proofs.Shifted.{by-unary, signed}
use Rattle.lane_arith.proofs.unary.unary_16.Goals as goal
use Rattle.lane_arith.proofs.unary.unary_16.Goals.{in-Abs, in-Neg, in-Not, in-SxtB, in-UxtB, in-SxtH, in-UxtH, in-SxtW, in-UxtW}

pub returns : goal.returns
returns c =
    let a = c.args.a in
    let m : ℕ = 65536 in
    let x = lanes-wide 2 m 16 a refl (below_from_Fits w8 a c.fits-a.1) in
    let minus = lanes-zip (λ x y. (x + (m - y)) % m) (lanes-splat 16 0) x in
    let lanes : IsLanes 16 (unary_at c.args.op H a) c.match-op.outcome =
    elim c.match-op.branch [
      | in-Abs w ↦
          by-unary H a w.in-Abs.is
          (lanes-ext (unary_at Abs H a) (lanes-is w.outcome-is (lanes-select w16 ltb x (lanes-splat 16 (m / 2)) x minus))
          (λ e l. ap (λ n. cond (ltb (at H a e) (m / 2)) (at H a e) (n % m)) (zero-add (m - at H a e))))
      | in-Neg w ↦
          by-unary H a w.in-Neg.is (lanes-ext (unary_at Neg H a) (lanes-is w.outcome-is minus) (λ e l. ap (λ n. n % m) (zero-add (m - at H a e))))
      | in-Not w ↦ by-unary H a w.in-Not.is (lanes-is w.outcome-is (lanes-map (λ n. m - 1 - n) x))
      | in-SxtB w ↦
          let low = lanes-zip bit_and x (lanes-splat 16 (2 ^ 8 - 1)) in
          let high = lanes-zip (λ x y. (x + y) % m) low (lanes-splat 16 (m - 2 ^ 8)) in
          by-unary H a w.in-SxtB.is
          (lanes-ext (unary_at SxtB H a) (lanes-is w.outcome-is (lanes-select w16 ltb low (lanes-splat 16 (2 ^ 8 / 2)) low high)) (λ e l. signed 8 m (at H a e) (omega arith) (omega arith)))
      | in-UxtB w ↦
          by-unary H a w.in-UxtB.is
          (lanes-ext (unary_at UxtB H a) (lanes-is w.outcome-is (lanes-zip bit_and x (lanes-splat 16 (2 ^ 8 - 1)))) (λ e l. and_mask (at H a e) 8))
      | in-SxtH w ↦ absurd (let wide = subst (λ op. source_bits op < 16) w.in-SxtH.is c.requires in omega arith)
      | in-UxtH w ↦ absurd (let wide = subst (λ op. source_bits op < 16) w.in-UxtH.is c.requires in omega arith)
      | in-SxtW w ↦ absurd (let wide = subst (λ op. source_bits op < 16) w.in-SxtW.is c.requires in omega arith)
      | in-UxtW w ↦ absurd (let wide = subst (λ op. source_bits op < 16) w.in-UxtW.is c.requires in omega arith)
    ] in
    lanes-to_bytes 2 m refl lanes (below_from_Fits w16 c.match-op.outcome c.match-op.auto.outcome.1)
