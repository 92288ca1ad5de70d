use Rattle.std.proofs.Common.{◌≡◌, ◌+◌, ◌-◌, ◌*◌, ◌∙◌, ap, take, drop, arith}
use Rattle.std.proofs.lemmas.List.{take_all, length-take}
use Rattle.lane_blocks.proofs.mask.mask_at.Goals as goal

pub returns : goal.returns
returns c =
    let p = c.args.p.now.bits in
    let i = c.args.i in
    let size : 4 * i + 4 - 4 * i ≡ 4 = omega arith in
    ap (λ n. take 4 (take n (drop (4 * i) p))) size ∙ take_all 4 (take 4 (drop (4 * i) p)) (omega (arith, length-take 4 (drop (4 * i) p)))
