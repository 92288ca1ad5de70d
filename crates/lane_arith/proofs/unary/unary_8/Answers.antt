use Rattle.std.proofs.Common.{ℕ, ap, cond, ◌-◌, ◌/◌, ◌%◌, ◌+◌, ◌<◌, ltb, subst, arith, w8}
use Rattle.std.proofs.lemmas.Simd.{below_from_Fits}
use Rattle.std.proofs.Math.Nat.{zero-add}
use Rattle.guest_types.specs.declared.length.Width.TheVariants.{B}
use Rattle.guest_types.specs.declared.operation.LaneUnary.TheVariants.{Abs, Neg}
use Rattle.guest_types.specs.Elements.{at}
use Rattle.guest_types.specs.Lanes.{source_bits}
use Rattle.lane_blocks.proofs.Lanes.{IsLanes, lanes-is, lanes-ext, lanes-bytes, lanes-zip, lanes-map, lanes-splat, lanes-select, lanes-elements}
use Rattle.lane_arith.specs.Blocks.{unary_at}
use Rattle.lane_arith.proofs.Shifted.{by-unary}
use Rattle.lane_arith.proofs.unary.unary_8.Goals as goal
use Rattle.lane_arith.proofs.unary.unary_8.Goals.{in-Abs, in-Neg, in-Not, in-SxtB, in-UxtB, in-SxtH, in-UxtH, in-SxtW, in-UxtW}

pub returns : goal.returns
returns c =
    let a = c.args.a in
    let m : ℕ = 256 in
    let x = lanes-bytes 32 a c.fits-a.0 in
    let minus = lanes-zip (λ x y. (x + (m - y)) % m) (lanes-splat 32 0) x in
    let lanes : IsLanes 32 (unary_at c.args.op B a) c.match-op.result =
    elim c.match-op.branch [
      | in-Abs w ↦
          by-unary B a w.in-Abs.is
          (lanes-ext (unary_at Abs B a) (lanes-is w.result-is (lanes-select w8 ltb x (lanes-splat 32 (m / 2)) x minus))
          (λ e l. ap (λ n. cond (ltb (at B a e) (m / 2)) (at B a e) (n % m)) (zero-add (m - at B a e))))
      | in-Neg w ↦
          by-unary B a w.in-Neg.is (lanes-ext (unary_at Neg B a) (lanes-is w.result-is minus) (λ e l. ap (λ n. n % m) (zero-add (m - at B a e))))
      | in-Not w ↦ by-unary B a w.in-Not.is (lanes-is w.result-is (lanes-map (λ n. m - 1 - n) x))
      | in-SxtB w ↦ absurd (let wide = subst (λ op. source_bits op < 8) w.in-SxtB.is c.requires in omega arith)
      | in-UxtB w ↦ absurd (let wide = subst (λ op. source_bits op < 8) w.in-UxtB.is c.requires in omega arith)
      | in-SxtH w ↦ absurd (let wide = subst (λ op. source_bits op < 8) w.in-SxtH.is c.requires in omega arith)
      | in-UxtH w ↦ absurd (let wide = subst (λ op. source_bits op < 8) w.in-UxtH.is c.requires in omega arith)
      | in-SxtW w ↦ absurd (let wide = subst (λ op. source_bits op < 8) w.in-SxtW.is c.requires in omega arith)
      | in-UxtW w ↦ absurd (let wide = subst (λ op. source_bits op < 8) w.in-UxtW.is c.requires in omega arith)
    ] in
    lanes-elements lanes (below_from_Fits w8 c.match-op.result c.match-op.auto.result.1)
