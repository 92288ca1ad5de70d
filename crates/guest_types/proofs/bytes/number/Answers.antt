use Rattle.std.proofs.Common.{arith, Fits, w8, get_or, length, ◌-◌}
use Rattle.guest_types.proofs.Numbers.{power-below}
use Rattle.guest_types.proofs.bytes.number.Goals as goal

pub overflow_mul-value : goal.overflow_mul-value
overflow_mul-value c =
    let r = power-below c.loop-i.i (omega arith) c.loop-i.value 0 c.loop-i.invariant.1 (omega arith) in
    record { fits = omega (arith, r.0, r.1) }

pub overflow_add-value : goal.overflow_add-value
overflow_add-value c =
    let b : Fits w8 (get_or c.args.bytes.now (length c.args.bytes.now - 1 - c.loop-i.i) 0) = c.type_inv.bytes _ in
    let r = power-below c.loop-i.i (omega arith) c.loop-i.value _ c.loop-i.invariant.1 b.fits in
    record { fits = omega (arith, r.0, r.1) }
