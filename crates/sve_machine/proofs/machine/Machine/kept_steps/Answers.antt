use Rattle.std.proofs.Common.{◌<◌, [], length, get_or, sym, ap, ◌∙◌, arith}
use Rattle.std.proofs.lemmas.List.{get_or_default}
use Rattle.machine_model.specs.Debugged.{View, Past}
use Rattle.sve_machine.specs.Pasts.{past_by}
use Rattle.sve_machine.proofs.PastLaws.{length-past_by, past_by-at, seen-past, never-kept, beside}
use Rattle.sve_machine.proofs.machine.Machine.kept_steps.Goals as goal

pub at-requires : goal.at-requires
at-requires c =
    let ms = c.self.inside.pages.past in
    let h = c.self.inside.history in
    let rs = c.in-Some.history in
    let seen = seen-past ms h rs c.args.self.now.past (ap (λ (v : View). v.past) c.self.view_is) c.in-Some.is in
    let long = length-past_by ms rs (beside ms h rs c.in-Some.is c.self.invariant.beside) in
    omega (arith, c.requires, long, ap length seen)

pub returns-in-Some : goal.returns-in-Some
returns-in-Some c = λ d.
    let ms = c.self.inside.pages.past in
    let h = c.self.inside.history in
    let rs = c.in-Some.history in
    let n = c.args.n in
    let seen = seen-past ms h rs c.args.self.now.past (ap (λ (v : View). v.past) c.self.view_is) c.in-Some.is in
    let same = beside ms h rs c.in-Some.is c.self.invariant.beside in
    let long = length-past_by ms rs same in
    let inside : n < length (past_by ms rs) = omega (arith, c.requires, ap length seen) in
    ap (λ l. (get_or l n d).steps) (sym seen)
    ∙ ap (λ (p : Past). p.steps) (past_by-at ms rs n (get_or ms n []) c.at.result.now d inside (λ e. get_or_default ms n e [] (omega (arith, inside, long, same))) c.at.ensures)

pub returns-in-None : goal.returns-in-None
returns-in-None c = λ d.
    let none = never-kept c.self.inside.pages.past c.self.inside.history c.args.self.now.past (ap (λ (v : View). v.past) c.self.view_is) c.in-None.is in
    absurd (omega (arith, c.requires, none))
