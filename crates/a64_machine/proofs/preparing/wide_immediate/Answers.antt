use Rattle.std.proofs.Common.{◌*◌, ◌%◌, ◌^◌, ap, sym, ◌∙◌}
use Rattle.machine_model.specs.Arithmetic.{sum}
use Rattle.machine_model.specs.Machine.{x_at}
use Rattle.a64_machine.specs.Accesses.{access}
use Rattle.a64_machine.proofs.AddressForms.{ready_wide_immediate}
use Rattle.a64_machine.proofs.preparing.wide_immediate.Goals as goal

pub returns : goal.returns
returns c pc s at =
    let rn = c.in_ok-rn.rn in
    ready_wide_immediate c.args.op c.args.rt.number c.args.rn.number c.args.imm12.number rn.number c.logarithm.result s rn.in_range c.in_ok-rn.ensures c.args.imm12.in_range c.logarithm.ensures.value
    ∙ ap (λ n. access c.args.op s c.args.rt.number (sum (x_at s rn.number) (n * 2 ^ c.logarithm.result % 2 ^ 64))) (sym c.from.ensures)
