use Rattle.std.proofs.Common.{arith}
use Rattle.loop_form.specs.View.{program}
use Rattle.scalar_words.proofs.Layouts.{each_register}
use Rattle.scalar_words.proofs.laws.each_has_a_register.Goals as goal

pub returns : goal.returns
returns c =
    let count = each_register (program c.args.kernel.now) c.args.regs.now c.requires.fits in
    record { count = count; vars = omega (arith, count) }
