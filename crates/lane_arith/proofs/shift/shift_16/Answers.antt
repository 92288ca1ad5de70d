use Rattle.std.proofs.Common.{ℕ, ◌-◌, ◌*◌, ◌/◌, ◌%◌, ◌+◌, ◌^◌, ltb, refl, subst, w8, w16}
use Rattle.std.proofs.lemmas.Simd.{below_from_Fits}
use Rattle.guest_types.specs.declared.length.Width.TheVariants.{H}
use Rattle.guest_types.specs.declared.operation.ShiftOp.TheVariants.{Lsr, Asr}
use Rattle.guest_types.specs.Elements.{at}
use Rattle.guest_types.specs.Lanes.{ShiftFits, shift_at}
use Rattle.lane_blocks.proofs.Lanes.{IsLanes, lanes-is, lanes-ext, lanes-wide, lanes-zip, lanes-splat, lanes-select, lanes-to_bytes}
use Rattle.lane_blocks.proofs.Masks.{element-small}
use Rattle.lane_arith.proofs.Shifted.{by-shift, two-steps, shifted_with_fill}
use Rattle.lane_arith.proofs.shift.shift_16.Goals as goal
use Rattle.lane_arith.proofs.shift.shift_16.Goals.{in-Lsl, in-Lsr, in-Asr}

pub returns : goal.returns
returns c =
    let a = c.args.a in
    let count = c.args.count in
    let m : ℕ = 65536 in
    let sa = below_from_Fits w8 a c.fits-a.1 in
    let x = lanes-wide 2 m 16 a refl sa in
    let down : ℕ → ℕ → ℕ = λ x s. x / 2 ^ s in
    let low = lanes-zip down (lanes-zip down x (lanes-splat 16 (count - 1))) (lanes-splat 16 1) in
    let lanes : IsLanes 16 (shift_at c.args.op H a count) c.match-op.outcome =
    elim c.match-op.branch [
      | in-Lsl w ↦ by-shift H a count w.in-Lsl.is (lanes-is w.outcome-is (lanes-zip (λ x s. x * 2 ^ s % m) x (lanes-splat 16 count)))
      | in-Lsr w ↦
          let fits = subst (λ op. ShiftFits op H count) w.in-Lsr.is c.requires in
          by-shift H a count w.in-Lsr.is (lanes-ext (shift_at Lsr H a count) (lanes-is w.outcome-is low) (λ e l. two-steps (at H a e) count fits.0))
      | in-Asr w ↦
          let fits = subst (λ op. ShiftFits op H count) w.in-Asr.is c.requires in
          let top = w.max-top.result in
          let fill : ℕ = top - w.shifted_down.result in
          let sign = lanes-select w16 ltb x (lanes-splat 16 (m / 2)) (lanes-splat 16 0) (lanes-splat 16 fill) in
          by-shift H a count w.in-Asr.is
          (lanes-ext (shift_at Asr H a count) (lanes-is w.outcome-is (lanes-zip (λ x y. (x + y) % m) low sign))
          (λ e l. shifted_with_fill H (at H a e) count top w.shifted_down.result fill (element-small H a e sa) w.max-top.ensures fits.0 fits.1 w.shifted_down.ensures refl))
    ] in
    lanes-to_bytes 2 m refl lanes (below_from_Fits w16 c.match-op.outcome c.match-op.auto.outcome.1)
