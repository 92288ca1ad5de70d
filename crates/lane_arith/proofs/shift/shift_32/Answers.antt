use Rattle.std.proofs.Common.{ℕ, ◌-◌, ◌*◌, ◌/◌, ◌%◌, ◌+◌, ◌^◌, ltb, refl, subst, w8, w32}
use Rattle.std.proofs.lemmas.Simd.{below_from_Fits}
use Rattle.guest_types.specs.declared.length.Width.TheVariants.{S}
use Rattle.guest_types.specs.declared.operation.ShiftOp.TheVariants.{Lsr, Asr}
use Rattle.guest_types.specs.Elements.{at}
use Rattle.guest_types.specs.Lanes.{ShiftFits, shift_at}
use Rattle.lane_blocks.proofs.Lanes.{IsLanes, lanes-is, lanes-ext, lanes-wide, lanes-zip, lanes-splat, lanes-select, lanes-to_bytes}
use Rattle.lane_blocks.proofs.Masks.{element-small}
use Rattle.lane_arith.proofs.Shifted.{by-shift, two-steps, shifted_with_fill}
use Rattle.lane_arith.proofs.shift.shift_32.Goals as goal
use Rattle.lane_arith.proofs.shift.shift_32.Goals.{in-Lsl, in-Lsr, in-Asr}

pub returns : goal.returns
returns c =
    let a = c.args.a in
    let count = c.args.count in
    let m : ℕ = 4294967296 in
    let sa = below_from_Fits w8 a c.fits-a.1 in
    let x = lanes-wide 4 m 8 a refl sa in
    let down : ℕ → ℕ → ℕ = λ x s. x / 2 ^ s in
    let low = lanes-zip down (lanes-zip down x (lanes-splat 8 (count - 1))) (lanes-splat 8 1) in
    let lanes : IsLanes 8 (shift_at c.args.op S a count) c.match-op.outcome =
    elim c.match-op.branch [
      | in-Lsl w ↦ by-shift S a count w.in-Lsl.is (lanes-is w.outcome-is (lanes-zip (λ x s. x * 2 ^ s % m) x (lanes-splat 8 count)))
      | in-Lsr w ↦
          let fits = subst (λ op. ShiftFits op S count) w.in-Lsr.is c.requires in
          by-shift S a count w.in-Lsr.is (lanes-ext (shift_at Lsr S a count) (lanes-is w.outcome-is low) (λ e l. two-steps (at S a e) count fits.0))
      | in-Asr w ↦
          let fits = subst (λ op. ShiftFits op S count) w.in-Asr.is c.requires in
          let top = w.max-top.result in
          let fill : ℕ = top - w.shifted_down.result in
          let sign = lanes-select w32 ltb x (lanes-splat 8 (m / 2)) (lanes-splat 8 0) (lanes-splat 8 fill) in
          by-shift S a count w.in-Asr.is
          (lanes-ext (shift_at Asr S a count) (lanes-is w.outcome-is (lanes-zip (λ x y. (x + y) % m) low sign))
          (λ e l. shifted_with_fill S (at S a e) count top w.shifted_down.result fill (element-small S a e sa) w.max-top.ensures fits.0 fits.1 w.shifted_down.ensures refl))
    ] in
    lanes-to_bytes 4 m refl lanes (below_from_Fits w32 c.match-op.outcome c.match-op.auto.outcome.1)
