use Rattle.std.proofs.Common.{◌≡◌, ◌-◌, ◌<◌, ◌≤◌, length, false, sym, ap, ◌∙◌, subst, arith}
use Rattle.std.specs.List.{All}
use Rattle.debug_history.specs.Kept.{IsLast}
use Rattle.machine_model.specs.Debugged.{now}
use Rattle.sve_debug.specs.DebuggerState.{Stands, Shows, IsTwin, held_by}
use Rattle.sve_debug.specs.Replies.{is_too_far}
use Rattle.sve_debug.proofs.Kept.{back_is, back_twins, back_stands, near_enough, goes_back}
use Rattle.sve_debug.proofs.debugger.Debugger.back.Goals as goal

pub overflow_sub-left : goal.overflow_sub-left
overflow_sub-left g c =
    let v = g.D.Debuggee.view_of c.self.inside.machine in
    let w = g.D.Debuggee.view_of c.back.new.machine in
    let target = c.steps_done-steps.result - c.args.count in
    let few : target < v.steps = omega (arith, c.steps_done-steps.ensures, c.requires, c.if-steps-count.false) in
    let kept = c.back.ensures.kept c.if-not-back.false in
    let last = subst (IsLast (now w)) kept (c.back.ensures.machine c.if-not-back.false) in
    let b = back_is v (now w) target v.past few last c.self.invariant.3 in
    let before = b.before in
    omega (arith, before, c.steps_done.ensures)

pub invariant_of-self-2 : goal.invariant_of-self-2
invariant_of-self-2 g c =
    let v = g.D.Debuggee.view_of c.self.inside.machine in
    let w = g.D.Debuggee.view_of c.back.new.machine in
    let target = c.steps_done-steps.result - c.args.count in
    let few : target < v.steps = omega (arith, c.steps_done-steps.ensures, c.requires, c.if-steps-count.false) in
    let kept = c.back.ensures.kept c.if-not-back.false in
    let last = subst (IsLast (now w)) kept (c.back.ensures.machine c.if-not-back.false) in
    let b = back_is v (now w) target v.past few last c.self.invariant.3 in
    let x = g.D.Debuggee.view_of c.run.new.machine in
    let run = c.run.ensures in
    let some = last.0 in
    let size = ap length (run.past ∙ kept) in (
      run.room,
      run.quiet b.quiet,
      omega (arith, some, size),
      subst (All (IsTwin x)) (sym (run.past ∙ kept)) (back_twins v x target v.past few c.self.invariant.3),
    )

pub returns-clause-session : goal.returns-clause-session
returns-clause-session g c start d h =
    let v = g.D.Debuggee.view_of c.self.inside.machine in
    let w = g.D.Debuggee.view_of c.back.new.machine in
    let target = c.steps_done-steps.result - c.args.count in
    let few : target < v.steps = omega (arith, c.steps_done-steps.ensures, c.requires, c.if-steps-count.false) in
    let kept = c.back.ensures.kept c.if-not-back.false in
    let last = subst (IsLast (now w)) kept (c.back.ensures.machine c.if-not-back.false) in
    let b = back_is v (now w) target v.past few last c.self.invariant.3 in
    let x = g.D.Debuggee.view_of c.run.new.machine in
    let breaks = c.self.inside.breaks.items in
    let enough : c.args.count ≤ v.steps = omega (arith, c.steps_done-steps.ensures, c.if-steps-count.false) in
    let at : target ≡ v.steps - c.args.count = ap (λ n. n - c.args.count) c.steps_done-steps.ensures in
    let stands : Stands (held_by v breaks c.self.inside.places.items) start d = subst (λ held. Stands held start d) (sym c.self.view_is) h in
    let near = near_enough c.args.count v.steps target v.past d.counts enough at (sym c.back.ensures.can ∙ c.if-not-back.false) stands.counts in
    let steps = stands.shows.steps in
    let gone = back_stands v w x target _ breaks _ _ start d last (c.run.ensures.past ∙ kept) b.before (ap (λ n. target - n) c.steps_done.ensures) stands
    (λ e s. c.run.ensures.session breaks start e (subst (λ l. Shows (held_by w breaks l) start e) (sym (ap (λ p. p.items) c.clear.ensures)) s)) in
    goes_back c.args.count target d _ start (subst (λ n. is_too_far c.args.count n d.counts ≡ false) steps near) (at ∙ ap (λ n. n - c.args.count) steps) gone

pub returns-clause-steps : goal.returns-clause-steps
returns-clause-steps g c =
    let v = g.D.Debuggee.view_of c.self.inside.machine in
    let w = g.D.Debuggee.view_of c.back.new.machine in
    let target = c.steps_done-steps.result - c.args.count in
    let few : target < v.steps = omega (arith, c.steps_done-steps.ensures, c.requires, c.if-steps-count.false) in
    let kept = c.back.ensures.kept c.if-not-back.false in
    let last = subst (IsLast (now w)) kept (c.back.ensures.machine c.if-not-back.false) in
    let b = back_is v (now w) target v.past few last c.self.invariant.3 in
    let before = b.before in
    let steps = c.run.ensures.steps in
    let whole = ap (λ held. held.machine.steps) c.self.view_is in
    omega (arith, before, steps, few, whole, c.steps_done.ensures)
