use Rattle.std.proofs.Common.{[], ◌∷◌, ◌*◌, ◌%◌, ◌^◌, sym, ap, ap₂, ◌∙◌}
use Rattle.a64_code.specs.View.{multiply_add_name}
use Rattle.machine_model.specs.Arithmetic.{sum}
use Rattle.machine_model.specs.Machine.{x_at}
use Rattle.machine_model.specs.Effects.{act, write}
use Rattle.a64_machine.proofs.Nothing.{if_some_of_none}
use Rattle.a64_machine.proofs.preparing.multiply_add.Goals as goal

pub returns-in_err-rd : goal.returns-in_err-rd
returns-in_err-rd c pc = if_some_of_none _ c.from_residual.result c.from_residual.ensures

pub returns-in_err-rn : goal.returns-in_err-rn
returns-in_err-rn c pc = if_some_of_none _ c.from_residual-in_err-rn.result c.from_residual-in_err-rn.ensures

pub returns-in_err-rm : goal.returns-in_err-rm
returns-in_err-rm c pc = if_some_of_none _ c.from_residual-in_err-rm.result c.from_residual-in_err-rm.ensures

pub returns-in-Madd : goal.returns-in-Madd
returns-in-Madd c pc s at =
    ap (λ o. act (multiply_add_name o) (c.args.rd.number ∷ c.args.rn.number ∷ c.args.ra.number ∷ c.args.rm.number ∷ []) s) c.in-Madd.is
    ∙ ap (λ d. write s d (sum (x_at s c.args.ra.number) (x_at s c.args.rn.number * x_at s c.args.rm.number % 2 ^ 64))) (sym c.in_ok-rd.ensures)
    ∙ ap₂ (λ n m. write s c.in_ok-rd.rd.number (sum (x_at s c.args.ra.number) (x_at s n * x_at s m % 2 ^ 64))) (sym c.in_ok-rn.ensures) (sym c.in_ok-rm.ensures)

pub returns-in-Msub : goal.returns-in-Msub
returns-in-Msub c pc = tt
