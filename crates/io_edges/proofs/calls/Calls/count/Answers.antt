use Rattle.std.proofs.Common.{arith, ap, ◌∙◌, ◌≤◌, nat_eq}
use Rattle.std.specs.List.{list_any}
use Rattle.io_edges.proofs.CallCounts.{stays_steady}
use Rattle.io_edges.proofs.calls.Calls.count.Goals as goal

pub returns-then-failed-clause-steady : goal.returns-then-failed-clause-steady
returns-then-failed-clause-steady c =
    let later : c.self.inside.made ≤ c.saturating_add-self-inside.result = omega arith in
    rw (← c.self.view_is) (stays_steady c.self.inside.fail.items c.self.inside.made _ c.contains-planned.result c.args.refused later (c.contains-planned.ensures.value ∙ ap (list_any (λ n. nat_eq n c.self.inside.made)) c.deref.ensures.value))

pub returns-else-failed-clause-steady : goal.returns-else-failed-clause-steady
returns-else-failed-clause-steady c =
    let later : c.self.inside.made ≤ c.saturating_add-self-inside.result = omega arith in
    rw (← c.self.view_is) (stays_steady c.self.inside.fail.items c.self.inside.made _ c.contains-planned.result c.args.refused later (c.contains-planned.ensures.value ∙ ap (list_any (λ n. nat_eq n c.self.inside.made)) c.deref.ensures.value))
