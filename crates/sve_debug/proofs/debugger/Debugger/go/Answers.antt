use Rattle.std.proofs.Common.{◌≡◌, List, ℕ, sym, ap, ◌∙◌, subst, arith}
use Rattle.sve_debug.specs.DebuggerState.{Stands, held_by}
use Rattle.sve_debug.specs.Replies.{counted_steps}
use Rattle.sve_debug.proofs.debugger.Debugger.go.Goals as goal

pub returns-then-is_empty-clause-session : goal.returns-then-is_empty-clause-session
returns-then-is_empty-clause-session g c start d h =
    let stops : c.as_slice-stops.result.now ≡ d.breaks = c.as_slice-stops.ensures.value ∙ ap (λ held. held.breaks) c.self.view_is ∙ h.shows.breaks in
    subst (λ (l : List ℕ). Stands (held_by (g.D.Debuggee.view_of c.run_kept.new.machine) c.self.inside.breaks.items c.run_kept.new.places.items) start (counted_steps l c.args.most d)) stops
    (c.run_kept.ensures.session c.self.inside.breaks.items start d (subst (λ held. Stands held start d) (sym c.self.view_is) h))

pub returns-clause-session : goal.returns-clause-session
returns-clause-session g c start d h =
    let stops : c.as_slice-stops.result.now ≡ d.breaks = c.as_slice-stops.ensures.value ∙ ap (λ held. held.breaks) c.self.view_is ∙ h.shows.breaks in
    subst (λ (l : List ℕ). Stands (held_by (g.D.Debuggee.view_of c.run_kept-2.new.machine) c.self.inside.breaks.items c.run_kept-2.new.places.items) start (counted_steps l c.args.most d)) stops
    (c.run_kept-2.ensures.session c.self.inside.breaks.items start d (subst (λ held. Stands held start d) (sym c.self.view_is) h))

-- ---- the steps, and what is required

pub returns-then-is_empty-clause-steps : goal.returns-then-is_empty-clause-steps
returns-then-is_empty-clause-steps g c =
    let whole = ap (λ held. held.machine.steps) c.self.view_is in
    omega (arith, whole, c.run_kept.ensures.steps)

pub returns-clause-steps : goal.returns-clause-steps
returns-clause-steps g c =
    let whole = ap (λ held. held.machine.steps) c.self.view_is in
    omega (arith, whole, c.run_kept-2.ensures.steps)

pub run_kept-requires-clause-few : goal.run_kept-requires-clause-few
run_kept-requires-clause-few g c =
    let whole = ap (λ held. held.machine.steps) c.self.view_is in
    omega (arith, whole, c.requires)

pub run_kept-requires-clause-room : goal.run_kept-requires-clause-room
run_kept-requires-clause-room g c = c.self.invariant.0

pub run_kept-requires-clause-quiet : goal.run_kept-requires-clause-quiet
run_kept-requires-clause-quiet g c = c.self.invariant.1

pub run_kept-requires-clause-some : goal.run_kept-requires-clause-some
run_kept-requires-clause-some g c = c.self.invariant.2

pub run_kept-requires-clause-twins : goal.run_kept-requires-clause-twins
run_kept-requires-clause-twins g c = c.self.invariant.3

pub run_kept-requires-2-clause-few : goal.run_kept-requires-2-clause-few
run_kept-requires-2-clause-few g c =
    let whole = ap (λ held. held.machine.steps) c.self.view_is in
    omega (arith, whole, c.requires)

pub run_kept-requires-2-clause-room : goal.run_kept-requires-2-clause-room
run_kept-requires-2-clause-room g c = c.self.invariant.0

pub run_kept-requires-2-clause-quiet : goal.run_kept-requires-2-clause-quiet
run_kept-requires-2-clause-quiet g c = c.self.invariant.1

pub run_kept-requires-2-clause-some : goal.run_kept-requires-2-clause-some
run_kept-requires-2-clause-some g c = c.self.invariant.2

pub run_kept-requires-2-clause-twins : goal.run_kept-requires-2-clause-twins
run_kept-requires-2-clause-twins g c = c.self.invariant.3
