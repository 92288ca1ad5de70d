use Rattle.std.proofs.Common.{◌+◌, ◌*◌, ◌^◌, ◌≤◌, get_or, arith}
use Rattle.number_text.specs.Numbers.{digit_value}
use Rattle.number_text.proofs.Digits.{too_large, not_below}
use Rattle.kernel_tokens.proofs.number.value.Goals as goal

pub returns-then-n-ge-LIMIT : goal.returns-then-n-ge-LIMIT
returns-then-n-ge-LIMIT c =
    let k : 2 ^ 127 ≤ c.args.base * c.loop-d.n + digit_value (get_or c.args.digits.now c.loop-d.d-index 0) = omega (arith, c.in_ok-n.ensures, c.in_ok-shifted.ensures, c.from.ensures, c.digit.ensures) in
    too_large c.args.base c.args.digits.now c.loop-d.d-index c.loop-d.n (2 ^ 127) c.requires (omega arith) c.loop-d.invariant.1 k

pub returns-in_err-shifted : goal.returns-in_err-shifted
returns-in_err-shifted c =
    let h : 2 ^ 128 ≤ c.args.base * c.loop-d.n = not_below (c.args.base * c.loop-d.n) (2 ^ 128) c.in_err-shifted.ensures in
    let k : 2 ^ 127 ≤ c.args.base * c.loop-d.n + digit_value (get_or c.args.digits.now c.loop-d.d-index 0) = omega arith in
    rw c.from_residual.ensures (too_large c.args.base c.args.digits.now c.loop-d.d-index c.loop-d.n (2 ^ 127) c.requires (omega arith) c.loop-d.invariant.1 k)

pub returns-in_err-n : goal.returns-in_err-n
returns-in_err-n c =
    let h : 2 ^ 128 ≤ c.in_ok-shifted.shifted + c.from.result = not_below (c.in_ok-shifted.shifted + c.from.result) (2 ^ 128) c.in_err-n.ensures in
    let k : 2 ^ 127 ≤ c.args.base * c.loop-d.n + digit_value (get_or c.args.digits.now c.loop-d.d-index 0) = omega (arith, c.in_ok-shifted.ensures, c.from.ensures, c.digit.ensures) in
    rw c.from_residual-in_err-n.ensures (too_large c.args.base c.args.digits.now c.loop-d.d-index c.loop-d.n (2 ^ 127) c.requires (omega arith) c.loop-d.invariant.1 k)
