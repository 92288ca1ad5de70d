use Rattle.std.proofs.Common.{not, sym, ap, ◌∙◌}
use Rattle.a64_code.specs.View.{cond_number}
use Rattle.machine_model.specs.Arithmetic.{holds}
use Rattle.a64_machine.specs.Cores.{flags_in}
use Rattle.a64_machine.proofs.conditions.holds.Goals as goal

pub returns-in-Eq : goal.returns-in-Eq
returns-in-Eq c = c.flag-z.ensures ∙ ap (λ k. holds (cond_number k) (flags_in c.args.nzcv)) (sym c.in-Eq.is)

pub returns-in-Ne : goal.returns-in-Ne
returns-in-Ne c = ap not c.flag-z.ensures ∙ ap (λ k. holds (cond_number k) (flags_in c.args.nzcv)) (sym c.in-Ne.is)

pub returns-in-Hs : goal.returns-in-Hs
returns-in-Hs c = c.flag-c.ensures ∙ ap (λ k. holds (cond_number k) (flags_in c.args.nzcv)) (sym c.in-Hs.is)

pub returns-in-Lo : goal.returns-in-Lo
returns-in-Lo c = ap not c.flag-c.ensures ∙ ap (λ k. holds (cond_number k) (flags_in c.args.nzcv)) (sym c.in-Lo.is)

pub returns-in-Mi : goal.returns-in-Mi
returns-in-Mi c = c.flag-n.ensures ∙ ap (λ k. holds (cond_number k) (flags_in c.args.nzcv)) (sym c.in-Mi.is)

pub returns-in-Pl : goal.returns-in-Pl
returns-in-Pl c = ap not c.flag-n.ensures ∙ ap (λ k. holds (cond_number k) (flags_in c.args.nzcv)) (sym c.in-Pl.is)

pub returns-in-Vs : goal.returns-in-Vs
returns-in-Vs c = c.flag-v.ensures ∙ ap (λ k. holds (cond_number k) (flags_in c.args.nzcv)) (sym c.in-Vs.is)

pub returns-in-Vc : goal.returns-in-Vc
returns-in-Vc c = ap not c.flag-v.ensures ∙ ap (λ k. holds (cond_number k) (flags_in c.args.nzcv)) (sym c.in-Vc.is)
