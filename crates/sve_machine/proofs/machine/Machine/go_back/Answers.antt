use Rattle.std.proofs.Common.{◌+◌, ◌<◌, ◌≤◌, length, take, get_or, sym, ap, ap₂, ◌∙◌, arith}
use Rattle.std.proofs.lemmas.List.{length-take-le}
use Rattle.machine_model.specs.Debugged.{View, is_never}
use Rattle.a64_machine.specs.Cores.{state_of}
use Rattle.sve_machine.specs.Pasts.{past_by}
use Rattle.sve_machine.proofs.PastLaws.{length-past_by, past_by-take, past_by-at, seen-past, never-kept, beside}
use Rattle.sve_machine.proofs.machine.Machine.go_back.Goals as goal

pub at-rest-requires : goal.at-rest-requires
at-rest-requires c =
    let ms = c.self.inside.pages.past in
    let h = c.self.inside.history in
    let rs = c.in-Some.history in
    let seen = seen-past ms h rs c.args.self.now.past (ap (λ (v : View). v.past) c.self.view_is) c.in-Some.is in
    let long = length-past_by ms rs (beside ms h rs c.in-Some.is c.self.invariant.beside) in
    omega (arith, c.requires, long, ap length seen)

pub cut-requires : goal.cut-requires
cut-requires c =
    let ms = c.self.inside.pages.past in
    let h = c.self.inside.history in
    let rs = c.in-Some.history in
    let seen = seen-past ms h rs c.args.self.now.past (ap (λ (v : View). v.past) c.self.view_is) c.in-Some.is in
    let long = length-past_by ms rs (beside ms h rs c.in-Some.is c.self.invariant.beside) in
    omega (arith, c.requires, long, ap length seen)

pub back-requires : goal.back-requires
back-requires c =
    let ms = c.self.inside.pages.past in
    let h = c.self.inside.history in
    let rs = c.in-Some.history in
    let seen = seen-past ms h rs c.args.self.now.past (ap (λ (v : View). v.past) c.self.view_is) c.in-Some.is in
    let same = beside ms h rs c.in-Some.is c.self.invariant.beside in
    let long = length-past_by ms rs same in
    omega (arith, c.requires, long, same, ap length seen)

pub invariant_of-self : goal.invariant_of-self
invariant_of-self c =
    let ms = c.self.inside.pages.past in
    let h = c.self.inside.history in
    let rs = c.in-Some.history in
    let n = c.args.n in
    let seen = seen-past ms h rs c.args.self.now.past (ap (λ (v : View). v.past) c.self.view_is) c.in-Some.is in
    let same = beside ms h rs c.in-Some.is c.self.invariant.beside in
    let long = length-past_by ms rs same in
    let inside : n + 1 ≤ length rs = omega (arith, c.requires, long, ap length seen) in
    record {
      decoded = c.no_words-self-inside.ensures c.back.new.self.memory;
      beside = ap length c.back.ensures.past ∙ length-take-le (n + 1) ms (omega (arith, inside, same)) ∙ sym (ap length c.cut.ensures ∙ length-take-le (n + 1) rs inside);
    }

pub returns-in-Some-clause-now : goal.returns-in-Some-clause-now
returns-in-Some-clause-now c = λ d.
    let ms = c.self.inside.pages.past in
    let h = c.self.inside.history in
    let rs = c.in-Some.history in
    let n = c.args.n in
    let seen = seen-past ms h rs c.args.self.now.past (ap (λ (v : View). v.past) c.self.view_is) c.in-Some.is in
    let rest = c.at-rest.result.now in
    let m = c.back.new.self.memory in
    let inside : n < length (past_by ms rs) = omega (arith, c.requires, ap length seen) in
    ap (λ l. get_or l n d) (sym seen)
    ∙ past_by-at ms rs n m rest d inside c.back.ensures.memory c.at-rest.ensures
    ∙ ap (λ v. record { state = state_of rest.core m v; steps = rest.steps; over = rest.over; quiet = is_never v.stops }) (sym c.copy-self-inside.ensures)

pub returns-in-Some-clause-past : goal.returns-in-Some-clause-past
returns-in-Some-clause-past c =
    let ms = c.self.inside.pages.past in
    let h = c.self.inside.history in
    let rs = c.in-Some.history in
    let n = c.args.n in
    let seen = seen-past ms h rs c.args.self.now.past (ap (λ (v : View). v.past) c.self.view_is) c.in-Some.is in
    ap₂ past_by c.back.ensures.past c.cut.ensures
    ∙ past_by-take (n + 1) ms rs
    ∙ ap (take (n + 1)) seen

pub returns-in_default-clause-now : goal.returns-in_default-clause-now
returns-in_default-clause-now c = λ d.
    let none = never-kept c.self.inside.pages.past c.self.inside.history c.args.self.now.past (ap (λ (v : View). v.past) c.self.view_is) c.in_default.is in
    absurd (omega (arith, c.requires, none))

pub returns-in_default-clause-past : goal.returns-in_default-clause-past
returns-in_default-clause-past c =
    let none = never-kept c.self.inside.pages.past c.self.inside.history c.args.self.now.past (ap (λ (v : View). v.past) c.self.view_is) c.in_default.is in
    absurd (omega (arith, c.requires, none))
