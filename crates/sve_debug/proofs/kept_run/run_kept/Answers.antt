use Rattle.std.proofs.Common.{◌≡◌, ◌-◌, ◌++◌, ◌≤◌, ◌%◌, length, Option, None, Some, true, false, take, refl, sym, ap, ◌∙◌, subst, arith}
use Rattle.std.specs.Prelude.{IsTrue, is_some}
use Rattle.circular_buffer.specs.Buffer.{keep_last}
use Rattle.machine_model.specs.declared.outcome.Ending.{Ending}
use Rattle.machine_model.specs.Debugged.{Past}
use Rattle.sve_debug.specs.DebuggerState.{held_by}
use Rattle.sve_debug.specs.Reaches.{ReachesCounted}
use Rattle.sve_debug.proofs.Runs.{is_over}
use Rattle.sve_debug.proofs.Kept.{counted_first, counted_end, counted_over_end, counted_on, twins_noted, some_noted}
use Rattle.sve_debug.proofs.kept_run.run_kept.Goals as goal

none_of : (o : Option Ending) → is_some o ≡ false → o ≡ None
none_of None h = refl
none_of (Some ending) h = absurd cc

pub returns-then-is_some-clause-session : goal.returns-then-is_some-clause-session
returns-then-is_some-clause-session g c breaks start d h =
    let over : is_some (g.D.Debuggee.view_of c.args.machine.now).over ≡ true = ap is_some (sym c.over.ensures) ∙ sym c.is_some.ensures ∙ c.if-is_some.true in
    counted_over_end _ start d c.args.stops.now c.args.most (is_over (g.D.Debuggee.view_of c.args.machine.now) breaks c.args.places.now.items start d over h.shows) h

pub loop-left-init : goal.loop-left-init
loop-left-init g c = record {
  running = λ some. none_of (g.D.Debuggee.view_of c.args.machine.now).over (ap is_some (sym c.over.ensures) ∙ sym c.is_some.ensures ∙ c.if-is_some.false);
  room = c.requires.room;
  quiet = c.requires.quiet;
  some = c.requires.some;
  twins = c.requires.twins;
  steps = omega arith;
  session = λ breaks start d h. counted_first _ start d c.args.stops.now c.args.most h;
}

pub note-requires : goal.note-requires
note-requires g c =
    let same = ap length c.advance_far-done.ensures.past in
    let some = c.loop-left.invariant.some in
    omega (arith, same, some)

pub loop-left-preserved : goal.loop-left-preserved
loop-left-preserved g c =
    let view = g.D.Debuggee.view_of in
    let held = c.loop-left.invariant in
    let far = c.advance_far-done.ensures in
    let before = held.steps in
    let more = far.steps in
    let v = view c.loop-left.machine in
    let w = view c.advance_far-done.new.machine in
    let x = view c.note.new.machine in
    let same = c.note.ensures.now in
    let noted = c.note.ensures.past in
    let steps = ap (λ (p : Past). p.steps) same in
    let running : v.over ≡ None = held.running (omega (arith, c.loop-left-test.true)) in
    let kept : keep_last 64 (c.loop-left.places.items ++ take c.advance_far-done.result.0 c.advance_far-done.new.recent) ≡ c.extend_from_slice.new.self.items =
    ap (λ n. keep_last n (c.loop-left.places.items ++ take c.advance_far-done.result.0 c.advance_far-done.new.recent)) (sym held.room)
    ∙ ap (λ b. b.items) (sym c.extend_from_slice.ensures) in
    let near : c.advance_far-done.result.0 ≤ 10000 - v.steps % 10000 = subst (λ k. c.advance_far-done.result.0 ≤ 10000 - k % 10000) c.steps_done.ensures far.near in
    record {
      running = λ more. ap (λ (p : Past). p.over) same ∙ far.running more;
      room = ap (λ b. b.capacity) c.extend_from_slice.ensures ∙ held.room;
      quiet = subst (λ (p : Past). IsTrue p.quiet) (sym same) (far.quiet held.quiet);
      some = some_noted v w x far.past noted held.some;
      twins = twins_noted v w x running far.past same noted (far.quiet held.quiet) held.twins;
      steps = omega (arith, before, more, steps);
      session = λ breaks start d h.
          subst (λ last. ReachesCounted (held_by x breaks last) start d c.args.stops.now c.args.most c.advance_far-done.result.1) kept
          (counted_on v w x breaks c.loop-left.places.items _ start d c.args.stops.now c.args.most c.loop-left.left c.advance_far-done.result.1 c.advance_far-done.result.0 far.past same noted far.exact far.some near
          (held.session breaks start d h)
          (far.session breaks c.loop-left.places.items start));
    }

pub returns-clause-session : goal.returns-clause-session
returns-clause-session g c breaks start d h =
    let none : c.loop-left.left ≡ 0 = omega (arith, c.loop-left-test.false) in
    counted_end _ start d c.args.stops.now c.args.most c.loop-left.left none (c.loop-left.invariant.session breaks start d h)

-- ---- what goes on to hold

pub returns-then-is_some-clause-quiet : goal.returns-then-is_some-clause-quiet
returns-then-is_some-clause-quiet g c = c.requires.quiet

pub returns-clause-quiet : goal.returns-clause-quiet
returns-clause-quiet g c = c.loop-left.invariant.quiet

pub returns-then-is_some-clause-room : goal.returns-then-is_some-clause-room
returns-then-is_some-clause-room g c = c.requires.room

pub returns-clause-room : goal.returns-clause-room
returns-clause-room g c = c.loop-left.invariant.room

pub returns-then-is_some-clause-some : goal.returns-then-is_some-clause-some
returns-then-is_some-clause-some g c = c.requires.some

pub returns-clause-some : goal.returns-clause-some
returns-clause-some g c = c.loop-left.invariant.some

pub returns-then-is_some-clause-twins : goal.returns-then-is_some-clause-twins
returns-then-is_some-clause-twins g c = c.requires.twins

pub returns-clause-twins : goal.returns-clause-twins
returns-clause-twins g c = c.loop-left.invariant.twins

pub returns-clause-steps : goal.returns-clause-steps
returns-clause-steps g c = omega (arith, c.loop-left.invariant.steps)
