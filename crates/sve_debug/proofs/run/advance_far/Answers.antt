use Rattle.std.proofs.Common.{rules, ◌≡◌, ℕ, ◌+◌, ◌-◌, ◌<◌, ◌≤◌, ◌++◌, List, Option, None, Some, length, take, Bool, true, false, refl, sym, ap, ◌∙◌, subst, arith}
use Rattle.std.specs.Prelude.{IsTrue, is_some, is_none}
use Rattle.machine_model.specs.declared.outcome.Ending.{Ending}
use Rattle.circular_buffer.specs.Buffer.{keep_last}
use Rattle.sve_debug.specs.DebuggerState.{held_by}
use Rattle.sve_debug.specs.Reaches.{Reaches}
use Rattle.sve_debug.specs.Replies.{is_break}
use Rattle.sve_debug.proofs.Runs.{counted_by, counted_is, shows_counted, kept_by, stood_on, told, reaches_now, reaches_first, reaches_next, reaches_break, reaches_last}
use Rattle.sve_debug.proofs.run.advance_far.Goals as goal

is_end : (o : Option Ending) → is_none o ≡ false → is_some o ≡ true
is_end None h = absurd cc
is_end (Some ending) h = refl

is_on : (o : Option Ending) → is_none o ≡ true → o ≡ None
is_on None h = refl
is_on (Some ending) h = absurd cc

at_place : (stops : List ℕ) (pc place : ℕ) (b wanted : Bool) → pc ≡ place → b ≡ is_break stops pc → b ≡ wanted → is_break stops place ≡ wanted
at_place stops pc place b wanted same is h = ap (is_break stops) (sym same) ∙ sym is ∙ h

pub loop-done-init : goal.loop-done-init
loop-done-init g c = record {
  running = c.requires.running;
  quiet = λ q. q;
  past = refl;
  steps = refl;
  session = λ breaks last start d h.
      let v = g.D.Debuggee.view_of c.args.machine.now in
      reaches_first _ start d c.args.stops.now c.args.left _ (omega arith) (kept_by (counted_by 0 v) breaks last _ start d refl (shows_counted v breaks last start d h));
}

pub returns-then-not-goes_on-clause-session : goal.returns-then-not-goes_on-clause-session
returns-then-not-goes_on-clause-session g c breaks last start d h =
    let view = g.D.Debuggee.view_of in
    let k = c.loop-done.done in
    let v = view c.loop-done.machine in
    let w = view c.goes_on.new.self in
    let one = c.goes_on.ensures in
    let held = c.loop-done.invariant in
    let inside : k + 1 ≤ c.args.left = omega (arith, c.min-near.ensures, c.min-most.ensures, c.loop-done-test.true) in
    let over : is_some w.over ≡ true = is_end w.over (sym one.goes_on ∙ c.if-not-goes_on.true) in
    let room : k < length c.loop-done.recent = search rules in
    let all = c.count.ensures in
    reaches_now (counted_by (k + 1) w) (view c.count.new.self) breaks _ start d c.args.stops.now c.args.left 0 (counted_is (k + 1) w (view c.count.new.self) all.state all.steps all.over all.quiet)
    (reaches_last (counted_by k v) (counted_by (k + 1) w) breaks _ _ start d c.args.stops.now c.args.left k inside held.running over
    (told (counted_by k v) (counted_by (k + 1) w) breaks last c.loop-done.recent start k c.goes_on.new.place one.place room (stood_on v w k breaks start held.running one.answer one.steps one.quiet))
    (held.session breaks last start d h))

pub returns-then-is_stop-clause-session : goal.returns-then-is_stop-clause-session
returns-then-is_stop-clause-session g c breaks last start d h =
    let view = g.D.Debuggee.view_of in
    let k = c.loop-done.done in
    let v = view c.loop-done.machine in
    let w = view c.goes_on.new.self in
    let one = c.goes_on.ensures in
    let held = c.loop-done.invariant in
    let inside : k + 1 ≤ c.args.left = omega (arith, c.min-near.ensures, c.min-most.ensures, c.loop-done-test.true) in
    let here = at_place c.args.stops.now c.pc.result w.state.pc c.is_stop.result true c.pc.ensures c.is_stop.ensures c.if-is_stop.true in
    let room : k < length c.loop-done.recent = search rules in
    let all = c.count-then-is_stop.ensures in
    reaches_now (counted_by (k + 1) w) (view c.count-then-is_stop.new.self) breaks _ start d c.args.stops.now c.args.left 0 (counted_is (k + 1) w (view c.count-then-is_stop.new.self) all.state all.steps all.over all.quiet)
    (reaches_break (counted_by k v) (counted_by (k + 1) w) breaks _ _ start d c.args.stops.now c.args.left k inside held.running here
    (told (counted_by k v) (counted_by (k + 1) w) breaks last c.loop-done.recent start k c.goes_on.new.place one.place room (stood_on v w k breaks start held.running one.answer one.steps one.quiet))
    (held.session breaks last start d h))

pub loop-done-preserved : goal.loop-done-preserved
loop-done-preserved g c =
    let view = g.D.Debuggee.view_of in
    let k = c.loop-done.done in
    let v = view c.loop-done.machine in
    let w = view c.goes_on.new.self in
    let one = c.goes_on.ensures in
    let held = c.loop-done.invariant in
    let inside : k + 1 ≤ c.args.left = omega (arith, c.min-near.ensures, c.min-most.ensures, c.loop-done-test.true) in
    let here = at_place c.args.stops.now c.pc.result w.state.pc c.is_stop.result false c.pc.ensures c.is_stop.ensures c.if-is_stop.false in
    let room : k < length c.loop-done.recent = search rules in
    let none = is_on w.over (sym one.goes_on ∙ c.if-not-goes_on.false) in
    record {
      running = none;
      quiet = λ q. one.quiet (held.quiet q);
      past = one.past ∙ held.past;
      steps = one.steps ∙ held.steps;
      session = λ breaks last start d h.
          reaches_next (counted_by k v) (counted_by (k + 1) w) breaks _ _ start d c.args.stops.now c.args.left k inside held.running here
          (told (counted_by k v) (counted_by (k + 1) w) breaks last c.loop-done.recent start k c.goes_on.new.place one.place room (stood_on v w k breaks start held.running one.answer one.steps one.quiet))
          (held.session breaks last start d h);
    }

pub returns-clause-session : goal.returns-clause-session
returns-clause-session g c breaks last start d h =
    let view = g.D.Debuggee.view_of in
    let k = c.loop-done.done in
    let n = c.min-most.result in
    let v = view c.loop-done.machine in
    let x = view c.count-2.new.self in
    let all = c.count-2.ensures in
    let at : k ≡ n = omega arith in
    subst (λ m. Reaches (held_by x breaks (keep_last 64 (last ++ take m c.loop-done.recent))) start d c.args.stops.now c.args.left (c.args.left - m)) at
    (reaches_now (counted_by k v) x breaks (keep_last 64 (last ++ take k c.loop-done.recent)) start d c.args.stops.now c.args.left (c.args.left - k) (counted_is k v x all.state (all.steps ∙ ap (λ m. v.steps + m) (sym at)) all.over all.quiet)
    (c.loop-done.invariant.session breaks last start d h))

-- ---- the counts

pub returns-then-not-goes_on-clause-running : goal.returns-then-not-goes_on-clause-running
returns-then-not-goes_on-clause-running g c more = absurd (omega (arith, more))

pub returns-then-not-goes_on-clause-count : goal.returns-then-not-goes_on-clause-count
returns-then-not-goes_on-clause-count g c = omega (arith, c.min-near.ensures, c.min-most.ensures, c.loop-done-test.true)

pub returns-then-not-goes_on-clause-near : goal.returns-then-not-goes_on-clause-near
returns-then-not-goes_on-clause-near g c = omega (arith, c.min-near.ensures, c.min-most.ensures, c.loop-done-test.true)

pub returns-then-not-goes_on-clause-exact : goal.returns-then-not-goes_on-clause-exact
returns-then-not-goes_on-clause-exact g c = c.count.ensures.steps ∙ ap (λ m. m + (c.loop-done.done + 1)) (c.goes_on.ensures.steps ∙ c.loop-done.invariant.steps)

pub returns-then-not-goes_on-clause-past : goal.returns-then-not-goes_on-clause-past
returns-then-not-goes_on-clause-past g c = c.count.ensures.past ∙ c.goes_on.ensures.past ∙ c.loop-done.invariant.past

pub returns-then-not-goes_on-clause-less : goal.returns-then-not-goes_on-clause-less
returns-then-not-goes_on-clause-less g c = c.requires.some

pub returns-then-not-goes_on-clause-steps : goal.returns-then-not-goes_on-clause-steps
returns-then-not-goes_on-clause-steps g c =
    let exact = c.count.ensures.steps ∙ ap (λ m. m + (c.loop-done.done + 1)) (c.goes_on.ensures.steps ∙ c.loop-done.invariant.steps) in
    omega (arith, exact, c.min-near.ensures, c.min-most.ensures, c.loop-done-test.true)

pub returns-then-is_stop-clause-running : goal.returns-then-is_stop-clause-running
returns-then-is_stop-clause-running g c more = absurd (omega (arith, more))

pub returns-then-is_stop-clause-count : goal.returns-then-is_stop-clause-count
returns-then-is_stop-clause-count g c = omega (arith, c.min-near.ensures, c.min-most.ensures, c.loop-done-test.true)

pub returns-then-is_stop-clause-near : goal.returns-then-is_stop-clause-near
returns-then-is_stop-clause-near g c = omega (arith, c.min-near.ensures, c.min-most.ensures, c.loop-done-test.true)

pub returns-then-is_stop-clause-exact : goal.returns-then-is_stop-clause-exact
returns-then-is_stop-clause-exact g c = c.count-then-is_stop.ensures.steps ∙ ap (λ m. m + (c.loop-done.done + 1)) (c.goes_on.ensures.steps ∙ c.loop-done.invariant.steps)

pub returns-then-is_stop-clause-past : goal.returns-then-is_stop-clause-past
returns-then-is_stop-clause-past g c = c.count-then-is_stop.ensures.past ∙ c.goes_on.ensures.past ∙ c.loop-done.invariant.past

pub returns-then-is_stop-clause-less : goal.returns-then-is_stop-clause-less
returns-then-is_stop-clause-less g c = c.requires.some

pub returns-then-is_stop-clause-steps : goal.returns-then-is_stop-clause-steps
returns-then-is_stop-clause-steps g c =
    let exact = c.count-then-is_stop.ensures.steps ∙ ap (λ m. m + (c.loop-done.done + 1)) (c.goes_on.ensures.steps ∙ c.loop-done.invariant.steps) in
    omega (arith, exact, c.min-near.ensures, c.min-most.ensures, c.loop-done-test.true)

pub returns-clause-running : goal.returns-clause-running
returns-clause-running g c more = c.count-2.ensures.over ∙ c.loop-done.invariant.running

pub returns-clause-count : goal.returns-clause-count
returns-clause-count g c = omega (arith, c.min-near.ensures, c.min-most.ensures)

pub returns-clause-some : goal.returns-clause-some
returns-clause-some g c = omega (arith, c.min-near.ensures, c.min-most.ensures, c.requires.some, c.requires.near)

pub returns-clause-near : goal.returns-clause-near
returns-clause-near g c = omega (arith, c.min-near.ensures, c.min-most.ensures)

pub returns-clause-exact : goal.returns-clause-exact
returns-clause-exact g c = c.count-2.ensures.steps ∙ ap (λ m. m + c.min-most.result) c.loop-done.invariant.steps

pub returns-clause-past : goal.returns-clause-past
returns-clause-past g c = c.count-2.ensures.past ∙ c.loop-done.invariant.past

pub returns-clause-less : goal.returns-clause-less
returns-clause-less g c = omega (arith, c.min-near.ensures, c.min-most.ensures, c.requires.some, c.requires.near)

pub returns-clause-steps : goal.returns-clause-steps
returns-clause-steps g c =
    let exact = c.count-2.ensures.steps ∙ ap (λ m. m + c.min-most.result) c.loop-done.invariant.steps in
    omega (arith, exact, c.min-near.ensures, c.min-most.ensures)

pub returns-then-not-goes_on-clause-quiet : goal.returns-then-not-goes_on-clause-quiet
returns-then-not-goes_on-clause-quiet g c q = subst IsTrue (sym c.count.ensures.quiet) (c.goes_on.ensures.quiet (c.loop-done.invariant.quiet q))

pub returns-then-is_stop-clause-quiet : goal.returns-then-is_stop-clause-quiet
returns-then-is_stop-clause-quiet g c q = subst IsTrue (sym c.count-then-is_stop.ensures.quiet) (c.goes_on.ensures.quiet (c.loop-done.invariant.quiet q))

pub returns-clause-quiet : goal.returns-clause-quiet
returns-clause-quiet g c q = subst IsTrue (sym c.count-2.ensures.quiet) (c.loop-done.invariant.quiet q)
