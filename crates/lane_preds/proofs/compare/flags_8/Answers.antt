use Rattle.std.proofs.Common.{ℕ, ◌+◌, ◌/◌, ◌%◌, not, eqb, leb, ltb, w8}
use Rattle.std.proofs.lemmas.Simd.{below_from_Fits}
use Rattle.guest_types.specs.declared.length.Width.TheVariants.{B}
use Rattle.lane_blocks.proofs.Lanes.{IsLanes, lanes-is, lanes-bytes, lanes-zip, lanes-splat, lanes-select, lanes-elements}
use Rattle.lane_preds.specs.Bits.{flag_at}
use Rattle.lane_preds.proofs.Compares.{by-compare}
use Rattle.lane_preds.proofs.compare.flags_8.Goals as goal
use Rattle.lane_preds.proofs.compare.flags_8.Goals.{in-Hs, in-Hi, in-Ge, in-Gt, in-Eq, in-Ne}

pub returns : goal.returns
returns c =
    let a = c.args.a in
    let b = c.args.b in
    let m : ℕ = 256 in
    let x = lanes-bytes 32 a c.fits-a.0 in
    let y = lanes-bytes 32 b c.fits-b.0 in
    let half = lanes-splat 32 (m / 2) in
    let up_x = lanes-zip (λ x y. (x + y) % m) x half in
    let up_y = lanes-zip (λ x y. (x + y) % m) y half in
    let one = lanes-splat 32 1 in
    let none = lanes-splat 32 0 in
    let lanes : IsLanes 32 (flag_at c.args.op B a b) c.match-op.result =
    elim c.match-op.branch [
      | in-Hs w ↦ by-compare B a b w.in-Hs.is (lanes-is w.result-is (lanes-select w8 leb y x one none))
      | in-Hi w ↦ by-compare B a b w.in-Hi.is (lanes-is w.result-is (lanes-select w8 ltb y x one none))
      | in-Ge w ↦ by-compare B a b w.in-Ge.is (lanes-is w.result-is (lanes-select w8 leb up_y up_x one none))
      | in-Gt w ↦ by-compare B a b w.in-Gt.is (lanes-is w.result-is (lanes-select w8 ltb up_y up_x one none))
      | in-Eq w ↦ by-compare B a b w.in-Eq.is (lanes-is w.result-is (lanes-select w8 eqb x y one none))
      | in-Ne w ↦ by-compare B a b w.in-Ne.is (lanes-is w.result-is (lanes-select w8 (λ x y. not (eqb x y)) x y one none))
    ] in
    lanes-elements lanes (below_from_Fits w8 c.match-op.result c.match-op.auto.result.1)
