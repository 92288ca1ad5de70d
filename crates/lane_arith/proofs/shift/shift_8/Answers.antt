use Rattle.std.proofs.Common.{ℕ, ◌-◌, ◌*◌, ◌/◌, ◌%◌, ◌+◌, ◌^◌, ltb, refl, subst, w8}
use Rattle.std.proofs.lemmas.Simd.{below_from_Fits}
use Rattle.guest_types.specs.declared.length.Width.TheVariants.{B}
use Rattle.guest_types.specs.declared.operation.ShiftOp.TheVariants.{Lsr, Asr}
use Rattle.guest_types.specs.Elements.{at}
use Rattle.guest_types.specs.Lanes.{ShiftFits, shift_at}
use Rattle.lane_blocks.proofs.Lanes.{IsLanes, lanes-is, lanes-ext, lanes-bytes, lanes-zip, lanes-splat, lanes-select, lanes-elements}
use Rattle.lane_blocks.proofs.Masks.{element-small}
use Rattle.lane_arith.proofs.Shifted.{by-shift, two-steps, shifted_with_fill}
use Rattle.lane_arith.proofs.shift.shift_8.Goals as goal
use Rattle.lane_arith.proofs.shift.shift_8.Goals.{in-Lsl, in-Lsr, in-Asr}

pub returns : goal.returns
returns c =
    let a = c.args.a in
    let count = c.args.count in
    let m : ℕ = 256 in
    let sa = below_from_Fits w8 a c.fits-a.1 in
    let x = lanes-bytes 32 a c.fits-a.0 in
    let down : ℕ → ℕ → ℕ = λ x s. x / 2 ^ s in
    let low = lanes-zip down (lanes-zip down x (lanes-splat 32 (count - 1))) (lanes-splat 32 1) in
    let lanes : IsLanes 32 (shift_at c.args.op B a count) c.match-op.result =
    elim c.match-op.branch [
      | in-Lsl w ↦ by-shift B a count w.in-Lsl.is (lanes-is w.result-is (lanes-zip (λ x s. x * 2 ^ s % m) x (lanes-splat 32 count)))
      | in-Lsr w ↦
          let fits = subst (λ op. ShiftFits op B count) w.in-Lsr.is c.requires in
          by-shift B a count w.in-Lsr.is (lanes-ext (shift_at Lsr B a count) (lanes-is w.result-is low) (λ e l. two-steps (at B a e) count fits.0))
      | in-Asr w ↦
          let fits = subst (λ op. ShiftFits op B count) w.in-Asr.is c.requires in
          let top = w.max-top.result in
          let fill : ℕ = top - w.shifted_down.result in
          let sign = lanes-select w8 ltb x (lanes-splat 32 (m / 2)) (lanes-splat 32 0) (lanes-splat 32 fill) in
          by-shift B a count w.in-Asr.is
          (lanes-ext (shift_at Asr B a count) (lanes-is w.result-is (lanes-zip (λ x y. (x + y) % m) low sign))
          (λ e l. shifted_with_fill B (at B a e) count top w.shifted_down.result fill (element-small B a e sa) w.max-top.ensures fits.0 fits.1 w.shifted_down.ensures refl))
    ] in
    lanes-elements lanes (below_from_Fits w8 c.match-op.result c.match-op.auto.result.1)
