use Rattle.std.proofs.Common.{◌≡◌, [], ◌++◌, Option, None, Some, true, false, take, refl, sym, ap, ◌∙◌, subst, arith}
use Rattle.std.specs.Prelude.{is_some}
use Rattle.circular_buffer.specs.Buffer.{keep_last}
use Rattle.machine_model.specs.declared.outcome.Ending.{Ending}
use Rattle.sve_debug.specs.DebuggerState.{held_by}
use Rattle.sve_debug.specs.Reaches.{Reaches}
use Rattle.sve_debug.proofs.Runs.{stands_over, reaches_first, reaches_on, reaches_end}
use Rattle.sve_debug.proofs.run.run.Goals as goal

none_of : (o : Option Ending) → is_some o ≡ false → o ≡ None
none_of None h = refl
none_of (Some ending) h = absurd cc

pub returns-then-is_some-clause-session : goal.returns-then-is_some-clause-session
returns-then-is_some-clause-session g c breaks start d h =
    let over : is_some (g.D.Debuggee.view_of c.args.machine.now).over ≡ true = ap is_some (sym c.over.ensures) ∙ sym c.is_some.ensures ∙ c.if-is_some.true in
    stands_over (g.D.Debuggee.view_of c.args.machine.now) breaks c.args.places.now.items start d [] c.args.most over h

pub loop-left-init : goal.loop-left-init
loop-left-init g c = record {
  running = λ some. none_of (g.D.Debuggee.view_of c.args.machine.now).over (ap is_some (sym c.over.ensures) ∙ sym c.is_some.ensures ∙ c.if-is_some.false);
  room = c.requires.room;
  quiet = λ q. q;
  past = refl;
  steps = omega arith;
  session = λ breaks start d h. reaches_first _ start d [] c.args.most c.args.most refl h;
}

pub loop-left-preserved : goal.loop-left-preserved
loop-left-preserved g c =
    let view = g.D.Debuggee.view_of in
    let held = c.loop-left.invariant in
    let far = c.advance_far-done.ensures in
    let before = held.steps in
    let more = far.steps in
    let kept : keep_last 64 (c.loop-left.places.items ++ take c.advance_far-done.result.0 c.advance_far-done.new.recent) ≡ c.extend_from_slice.new.self.items =
    ap (λ n. keep_last n (c.loop-left.places.items ++ take c.advance_far-done.result.0 c.advance_far-done.new.recent)) (sym held.room)
    ∙ ap (λ b. b.items) (sym c.extend_from_slice.ensures) in
    record {
      running = far.running;
      room = ap (λ b. b.capacity) c.extend_from_slice.ensures ∙ held.room;
      quiet = λ q. far.quiet (held.quiet q);
      past = far.past ∙ held.past;
      steps = omega (arith, before, more);
      session = λ breaks start d h.
          subst (λ last. Reaches (held_by (view c.advance_far-done.new.machine) breaks last) start d [] c.args.most c.advance_far-done.result.1) kept
          (reaches_on _ start d [] c.args.most c.loop-left.left c.advance_far-done.result.1 _ (held.session breaks start d h)
          (far.session breaks c.loop-left.places.items start));
    }

pub returns-clause-session : goal.returns-clause-session
returns-clause-session g c breaks start d h =
    let none : c.loop-left.left ≡ 0 = omega (arith, c.loop-left-test.false) in
    reaches_end _ start d [] c.args.most c.loop-left.left none (c.loop-left.invariant.session breaks start d h)
