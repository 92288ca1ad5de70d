use Rattle.std.proofs.Common.{◌≡◌, ◌/◌, ◌^◌, ◌∙◌, ap, subst, sym, arith}
use Rattle.guest_types.specs.Length.{modulus}
use Rattle.guest_types.specs.Lanes.{shifted, ShiftFits}
use Rattle.guest_types.proofs.Shifts.{shifted-negative}
use Rattle.guest_types.proofs.operation.ShiftOp.apply.Goals as goal

pub returns-else-a-max : goal.returns-else-a-max
returns-else-a-max c =
    let fits = subst (λ op. ShiftFits op c.args.width c.args.count) c.in-Asr.is c.requires.count in
    let w = c.args.width in
    let top = c.max-else-a-max.result in
    let same : c.max.result ≡ top = omega arith in
    let same' : c.max-else-a-max-2.result ≡ top = omega arith in
    shifted-negative w c.args.a c.args.count top c.shifted_down-else-a-max.result c.shifted_down-else-a-max-2.result c.max-else-a-max.ensures c.shifted_down-else-a-max.ensures (c.shifted_down-else-a-max-2.ensures ∙ ap (λ n. n / 2 ^ c.args.count) same') fits.1 (omega arith)
    ∙ ap (λ op. shifted op (modulus w) c.args.a c.args.count) (sym c.in-Asr.is)
