use Rattle.std.proofs.Common.{length, sym, ap, ◌∙◌}
use Rattle.machine_model.specs.Debugged.{View}
use Rattle.sve_machine.proofs.PastLaws.{length-past_by, seen-past, never-kept, beside}
use Rattle.sve_machine.proofs.machine.Machine.kept.Goals as goal

pub returns-in-Some : goal.returns-in-Some
returns-in-Some c =
    let ms = c.self.inside.pages.past in
    let h = c.self.inside.history in
    let rs = c.in-Some.history in
    c.len.ensures
    ∙ sym (length-past_by ms rs (beside ms h rs c.in-Some.is c.self.invariant.beside))
    ∙ ap length (seen-past ms h rs c.args.self.now.past (ap (λ (v : View). v.past) c.self.view_is) c.in-Some.is)

pub returns-in-None : goal.returns-in-None
returns-in-None c = sym (never-kept c.self.inside.pages.past c.self.inside.history c.args.self.now.past (ap (λ (v : View). v.past) c.self.view_is) c.in-None.is)
