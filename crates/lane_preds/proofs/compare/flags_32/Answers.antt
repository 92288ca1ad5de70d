use Rattle.std.proofs.Common.{ℕ, ◌+◌, ◌/◌, ◌%◌, not, eqb, leb, ltb, refl, w8, w32}
use Rattle.std.proofs.lemmas.Simd.{below_from_Fits}
use Rattle.guest_types.specs.declared.length.Width.TheVariants.{S}
use Rattle.lane_blocks.proofs.Lanes.{IsLanes, lanes-is, lanes-wide, lanes-zip, lanes-splat, lanes-select, lanes-to_bytes}
use Rattle.lane_preds.specs.Bits.{flag_at}
use Rattle.lane_preds.proofs.Compares.{by-compare}
use Rattle.lane_preds.proofs.compare.flags_32.Goals as goal
use Rattle.lane_preds.proofs.compare.flags_32.Goals.{in-Hs, in-Hi, in-Ge, in-Gt, in-Eq, in-Ne}

pub returns : goal.returns
returns c =
    let a = c.args.a in
    let b = c.args.b in
    let m : ℕ = 4294967296 in
    let x = lanes-wide 4 m 8 a refl (below_from_Fits w8 a c.fits-a.1) in
    let y = lanes-wide 4 m 8 b refl (below_from_Fits w8 b c.fits-b.1) in
    let half = lanes-splat 8 (m / 2) in
    let up_x = lanes-zip (λ x y. (x + y) % m) x half in
    let up_y = lanes-zip (λ x y. (x + y) % m) y half in
    let one = lanes-splat 8 1 in
    let none = lanes-splat 8 0 in
    let lanes : IsLanes 8 (flag_at c.args.op S a b) c.match-op.outcome =
    elim c.match-op.branch [
      | in-Hs w ↦ by-compare S a b w.in-Hs.is (lanes-is w.outcome-is (lanes-select w32 leb y x one none))
      | in-Hi w ↦ by-compare S a b w.in-Hi.is (lanes-is w.outcome-is (lanes-select w32 ltb y x one none))
      | in-Ge w ↦ by-compare S a b w.in-Ge.is (lanes-is w.outcome-is (lanes-select w32 leb up_y up_x one none))
      | in-Gt w ↦ by-compare S a b w.in-Gt.is (lanes-is w.outcome-is (lanes-select w32 ltb up_y up_x one none))
      | in-Eq w ↦ by-compare S a b w.in-Eq.is (lanes-is w.outcome-is (lanes-select w32 eqb x y one none))
      | in-Ne w ↦ by-compare S a b w.in-Ne.is (lanes-is w.outcome-is (lanes-select w32 (λ x y. not (eqb x y)) x y one none))
    ] in
    lanes-to_bytes 4 m refl lanes (below_from_Fits w32 c.match-op.outcome c.match-op.auto.outcome.1)
