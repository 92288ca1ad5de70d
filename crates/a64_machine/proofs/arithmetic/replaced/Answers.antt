use Rattle.std.proofs.Common.{arith}
use Rattle.a64_machine.proofs.Replacing.{in_zero, in_one, in_two, in_rest}
use Rattle.a64_machine.proofs.arithmetic.replaced.Goals as goal

pub overflow_mul-result : goal.overflow_mul-result
overflow_mul-result c = omega (arith, c.ranges.value.fits)

pub overflow_mul-result-in-1 : goal.overflow_mul-result-in-1
overflow_mul-result-in-1 c = omega (arith, c.ranges.value.fits)

pub overflow_mul-result-in-2 : goal.overflow_mul-result-in-2
overflow_mul-result-in-2 c = omega (arith, c.ranges.value.fits)

pub overflow_add-result : goal.overflow_add-result
overflow_add-result c = omega (arith, c.ranges.value.fits, c.requires.imm16, c.from-imm.ensures)

pub overflow_mul-result-in-1-2 : goal.overflow_mul-result-in-1-2
overflow_mul-result-in-1-2 c = omega (arith, c.ranges.value.fits, c.requires.imm16, c.from-imm.ensures)

pub overflow_add-result-in-1 : goal.overflow_add-result-in-1
overflow_add-result-in-1 c = omega (arith, c.ranges.value.fits, c.requires.imm16, c.from-imm.ensures)

pub overflow_add-result-in-1-2 : goal.overflow_add-result-in-1-2
overflow_add-result-in-1-2 c = omega (arith, c.ranges.value.fits, c.requires.imm16, c.from-imm.ensures)

pub overflow_mul-result-in-2-2 : goal.overflow_mul-result-in-2-2
overflow_mul-result-in-2-2 c = omega (arith, c.ranges.value.fits, c.requires.imm16, c.from-imm.ensures)

pub overflow_add-result-in-2 : goal.overflow_add-result-in-2
overflow_add-result-in-2 c = omega (arith, c.ranges.value.fits, c.requires.imm16, c.from-imm.ensures)

pub overflow_add-result-in-2-2 : goal.overflow_add-result-in-2-2
overflow_add-result-in-2-2 c = omega (arith, c.ranges.value.fits, c.requires.imm16, c.from-imm.ensures)

pub overflow_mul-result-in_default : goal.overflow_mul-result-in_default
overflow_mul-result-in_default c = omega (arith, c.ranges.value.fits, c.requires.imm16, c.from-imm.ensures)

pub overflow_add-result-in_default : goal.overflow_add-result-in_default
overflow_add-result-in_default c = omega (arith, c.ranges.value.fits, c.requires.imm16, c.from-imm.ensures)

pub returns-in-0 : goal.returns-in-0
returns-in-0 c = in_zero c.args.value c.from-imm.result c.args.imm16 c.args.hw c.from-imm.ensures c.in-0.is

pub returns-in-1 : goal.returns-in-1
returns-in-1 c = in_one c.args.value c.from-imm.result c.args.imm16 c.args.hw c.from-imm.ensures c.in-1.is

pub returns-in-2 : goal.returns-in-2
returns-in-2 c = in_two c.args.value c.from-imm.result c.args.imm16 c.args.hw c.from-imm.ensures c.in-2.is

pub returns-in_default : goal.returns-in_default
returns-in_default c = in_rest c.args.value c.from-imm.result c.args.imm16 c.args.hw c.ranges.value.fits c.from-imm.ensures c.requires.hw c.in_default.in_default-own.rest.0.0.1 c.in_default.in_default-own.rest.0.1 c.in_default.in_default-own.rest.1
