use Rattle.std.proofs.Common.{◌≡◌, ℕ, ◌+◌, ◌-◌, ◌≤◌, List, Some, None, Ok, take, sym, subst, arith}
use Rattle.std.specs.Prelude.{IfSome, slice_get}
use Rattle.sve_debug.specs.Replies.{Session, line_text}
use Rattle.sve_debug.specs.Sessions.{Tells, AsItCame, most_input, session_text}
use Rattle.io_edges.proofs.Puts.{later_rose}
use Rattle.sve_debug.specs.declared.session.SessionFault.TheVariants.{Input, Output}
use Rattle.sve_debug.proofs.Told.{ok_no_err}
use Rattle.sve_debug.proofs.Answered.{so_far_first, so_far_next, so_far_failed, in_time}
use Rattle.sve_debug.proofs.Sessions.{IsPending, under_first, under_next, under_quit, under_cut, under_unread, under_end, under_limit, pends, if_some, limit}
use Rattle.sve_debug.proofs.session.answer_lines.Goals as goal

pub returns-in_err-byte-clause-told : goal.returns-in_err-byte-clause-told
returns-in_err-byte-clause-told g c start d h =
    let taken = g.S.Sink.taken in
    if_some (g.I.Source.left c.args.input.now) (λ (bytes : List ℕ). Tells (taken c.args.out.now) (taken c.loop-taken.out) (session_text d bytes) c.from_residual.result)
    (λ bytes is. under_unread c.loop-taken.debugger start d (take most_input bytes) c.loop-taken.line.items (most_input - c.loop-taken.taken) (g.I.Source.left c.loop-taken.input) (taken c.args.out.now) (taken c.loop-taken.out) c.from_residual.result c.from_residual.ensures.0
    (c.loop-taken.invariant.session start d h bytes is))

pub returns-in_default-clause-told : goal.returns-in_default-clause-told
returns-in_default-clause-told g c start d h =
    let taken = g.S.Sink.taken in
    let input = g.I.Source.left c.loop-taken.input in
    let next : IfSome input (λ (bytes : List ℕ). None ≡ slice_get bytes 0) =
    subst (λ b. IfSome input (λ (bytes : List ℕ). b ≡ slice_get bytes 0)) c.in_default.is c.in_ok-byte.ensures.byte in
    let line = c.as_slice.ensures.value in
    if_some (g.I.Source.left c.args.input.now) (λ (bytes : List ℕ). Tells (taken c.args.out.now) (taken c.finish.new.out) (session_text d bytes) c.finish.result)
    (λ bytes is. under_end c.loop-taken.debugger start d (take most_input bytes) c.loop-taken.line.items (most_input - c.loop-taken.taken) input (taken c.args.out.now) (taken c.loop-taken.out) (taken c.finish.new.out) c.finish.result c.loop-taken.invariant.pending next
    (λ (e : Session) hold. subst (λ (l : List ℕ). Tells (taken c.loop-taken.out) (taken c.finish.new.out) (line_text l e) c.finish.result) line (c.finish.ensures.told start e hold))
    (c.loop-taken.invariant.session start d h bytes is))

pub returns-in_err-on-clause-told : goal.returns-in_err-on-clause-told
returns-in_err-on-clause-told g c start d h =
    let taken = g.S.Sink.taken in
    let input = g.I.Source.left c.loop-taken.input in
    let next : IfSome input (λ (bytes : List ℕ). Some c.in-Some.byte ≡ slice_get bytes 0) =
    subst (λ b. IfSome input (λ (bytes : List ℕ). b ≡ slice_get bytes 0)) c.in-Some.is c.in_ok-byte.ensures.byte in
    let test = c.loop-taken-test.true in
    let inside : c.loop-taken.taken + 1 ≤ most_input = omega (arith, limit, test) in
    if_some (g.I.Source.left c.args.input.now) (λ (bytes : List ℕ). Tells (taken c.args.out.now) (taken c.answer_byte.new.out) (session_text d bytes) c.from_residual-in_err-on.result)
    (λ bytes is. under_cut c.loop-taken.debugger c.answer_byte.new.debugger start d (take most_input bytes) c.loop-taken.line.items most_input c.loop-taken.taken c.in-Some.byte input (taken c.args.out.now) (taken c.loop-taken.out) (taken c.answer_byte.new.out) c.answer_byte.result c.from_residual-in_err-on.result inside c.loop-taken.invariant.pending next c.from_residual-in_err-on.ensures.0
    (record { stands = c.answer_byte.ensures.session start; told = c.answer_byte.ensures.told start })
    (c.loop-taken.invariant.session start d h bytes is))

pub returns-then-not-on-clause-told : goal.returns-then-not-on-clause-told
returns-then-not-on-clause-told g c start d h =
    let taken = g.S.Sink.taken in
    let input = g.I.Source.left c.loop-taken.input in
    let next : IfSome input (λ (bytes : List ℕ). Some c.in-Some.byte ≡ slice_get bytes 0) =
    subst (λ b. IfSome input (λ (bytes : List ℕ). b ≡ slice_get bytes 0)) c.in-Some.is c.in_ok-byte.ensures.byte in
    let test = c.loop-taken-test.true in
    let inside : c.loop-taken.taken + 1 ≤ most_input = omega (arith, limit, test) in
    if_some (g.I.Source.left c.args.input.now) (λ (bytes : List ℕ). Tells {T = Unit {0}} (taken c.args.out.now) (taken c.answer_byte.new.out) (session_text d bytes) (Ok tt))
    (λ bytes is. under_quit {T = Unit {0}} c.loop-taken.debugger c.answer_byte.new.debugger start d (take most_input bytes) c.loop-taken.line.items most_input c.loop-taken.taken c.in-Some.byte c.in_ok-on.on input (taken c.args.out.now) (taken c.loop-taken.out) (taken c.answer_byte.new.out) tt inside c.loop-taken.invariant.pending next c.if-not-on.true c.in_ok-on.ensures.goes_on
    (record { stands = c.answer_byte.ensures.session start; told = c.in_ok-on.ensures.told start })
    (c.loop-taken.invariant.session start d h bytes is))

pub next-requires : goal.next-requires
next-requires g c =
    let h = c.requires.in_time in
    let test = c.loop-taken-test.true in
    let inside : c.loop-taken.taken + 1 ≤ most_input = omega (arith, limit, test) in
    in_time g.I.Source.may_take c.loop-taken.input c.loop-taken.debugger h.start h.begun c.loop-taken.line.items c.loop-taken.taken (g.I.Source.left c.args.input.now) (g.I.Source.left c.loop-taken.input) (g.S.Sink.taken c.args.out.now) (g.S.Sink.taken c.loop-taken.out) c.loop-taken.invariant.pending inside
    (c.loop-taken.invariant.answered h.start h.begun h.stands) (h.may c.loop-taken.input c.loop-taken.out)

pub loop-taken-init : goal.loop-taken-init
loop-taken-init g c =
    let held = c.args.debugger.now in
    let line = c.args.line.now.items in
    let left = g.I.Source.left c.args.input.now in
    let old = g.S.Sink.taken c.args.out.now in
    let none = c.requires.steps in
    record {
      pending = subst (λ (l : List ℕ). IsPending l) (sym c.requires.empty) (λ k d lt. absurd (omega (arith, lt)));
      steps = omega (arith, none);
      later = omega arith;
      input_later = omega arith;
      session = λ start d h bytes is. under_first held start d line bytes most_input left old c.requires.empty h is;
      answered = λ start d h bytes is. so_far_first held start d line bytes left old c.requires.empty h is;
    }

pub loop-taken-preserved : goal.loop-taken-preserved
loop-taken-preserved g c =
    let taken = g.S.Sink.taken in
    let input = g.I.Source.left c.loop-taken.input in
    let next : IfSome input (λ (bytes : List ℕ). Some c.in-Some.byte ≡ slice_get bytes 0) =
    subst (λ b. IfSome input (λ (bytes : List ℕ). b ≡ slice_get bytes 0)) c.in-Some.is c.in_ok-byte.ensures.byte in
    let test = c.loop-taken-test.true in
    let inside : c.loop-taken.taken + 1 ≤ most_input = omega (arith, limit, test) in
    let steps = c.loop-taken.invariant.steps in
    let more = c.answer_byte.ensures.steps in
    let later = c.loop-taken.invariant.later in
    let out_later = c.answer_byte.ensures.later in
    let input_later = c.loop-taken.invariant.input_later in
    let next_later = c.next.ensures.later in
    record {
      pending = pends c.loop-taken.line.items c.answer_byte.new.line.items c.in-Some.byte c.in_ok-on.ensures.line c.loop-taken.invariant.pending;
      steps = omega (arith, steps, more);
      later = omega (arith, later, out_later);
      input_later = omega (arith, input_later, next_later);
      session = λ start d h bytes is.
          under_next c.loop-taken.debugger c.answer_byte.new.debugger start d (take most_input bytes) c.loop-taken.line.items c.answer_byte.new.line.items most_input c.loop-taken.taken c.in-Some.byte c.in_ok-on.on input (g.I.Source.left c.next.new.input) (taken c.args.out.now) (taken c.loop-taken.out) (taken c.answer_byte.new.out) inside c.loop-taken.invariant.pending next c.in_ok-byte.ensures.left c.in_ok-on.ensures.line c.if-not-on.false c.in_ok-on.ensures.goes_on
          (record { stands = c.answer_byte.ensures.session start; told = c.in_ok-on.ensures.told start })
          (c.loop-taken.invariant.session start d h bytes is);
      answered = λ start d h bytes is.
          so_far_next c.loop-taken.debugger c.answer_byte.new.debugger start d bytes c.loop-taken.line.items c.answer_byte.new.line.items c.loop-taken.taken c.in-Some.byte c.in_ok-on.on input (g.I.Source.left c.next.new.input) (taken c.args.out.now) (taken c.loop-taken.out) (taken c.answer_byte.new.out) c.loop-taken.invariant.pending next c.in_ok-byte.ensures.left c.in_ok-on.ensures.line c.if-not-on.false c.in_ok-on.ensures.goes_on
          (record { stands = c.answer_byte.ensures.session start; told = c.in_ok-on.ensures.told start })
          (c.loop-taken.invariant.answered start d h bytes is);
    }

pub returns-clause-told : goal.returns-clause-told
returns-clause-told g c start d h =
    let taken = g.S.Sink.taken in
    let test = c.loop-taken-test.false in
    let all : most_input ≤ c.loop-taken.taken = omega (arith, limit, test) in
    let line = c.as_slice-2.ensures.value in
    if_some (g.I.Source.left c.args.input.now) (λ (bytes : List ℕ). Tells (taken c.args.out.now) (taken c.finish-2.new.out) (session_text d bytes) c.finish-2.result)
    (λ bytes is. under_limit c.loop-taken.debugger start d (take most_input bytes) c.loop-taken.line.items most_input c.loop-taken.taken (g.I.Source.left c.loop-taken.input) (taken c.args.out.now) (taken c.loop-taken.out) (taken c.finish-2.new.out) c.finish-2.result all c.loop-taken.invariant.pending
    (λ (e : Session) hold. subst (λ (l : List ℕ). Tells (taken c.loop-taken.out) (taken c.finish-2.new.out) (line_text l e) c.finish-2.result) line (c.finish-2.ensures.told start e hold))
    (c.loop-taken.invariant.session start d h bytes is))

pub returns-in_err-byte-clause-as_it_comes : goal.returns-in_err-byte-clause-as_it_comes
returns-in_err-byte-clause-as_it_comes g c start d h err =
    let taken = g.S.Sink.taken in
    let input' = g.I.Source.left c.next.new.input in
    if_some (g.I.Source.left c.args.input.now) (λ (bytes : List ℕ). AsItCame d bytes input' (taken c.args.out.now) (taken c.loop-taken.out))
    (λ bytes is. so_far_failed c.loop-taken.debugger start d bytes c.loop-taken.line.items c.loop-taken.taken (g.I.Source.left c.loop-taken.input) input' (taken c.args.out.now) (taken c.loop-taken.out) c.loop-taken.invariant.pending c.in_err-byte.ensures.unread
    (c.loop-taken.invariant.answered start d h bytes is))

-- ---- faults

pub returns-in_default-clause-as_it_comes : goal.returns-in_default-clause-as_it_comes
returns-in_default-clause-as_it_comes g c start d h e = absurd (c.finish.ensures.input e)

pub returns-in_default-clause-output : goal.returns-in_default-clause-output
returns-in_default-clause-output g c e = later_rose (g.S.Sink.faults c.args.out.now) (g.S.Sink.faults c.loop-taken.out) (g.S.Sink.faults c.finish.new.out) c.loop-taken.invariant.later (c.finish.ensures.output e)

pub returns-in_default-clause-input : goal.returns-in_default-clause-input
returns-in_default-clause-input g c e = absurd (c.finish.ensures.input e)

pub returns-clause-as_it_comes : goal.returns-clause-as_it_comes
returns-clause-as_it_comes g c start d h e = absurd (c.finish-2.ensures.input e)

pub returns-clause-output : goal.returns-clause-output
returns-clause-output g c e = later_rose (g.S.Sink.faults c.args.out.now) (g.S.Sink.faults c.loop-taken.out) (g.S.Sink.faults c.finish-2.new.out) c.loop-taken.invariant.later (c.finish-2.ensures.output e)

pub returns-clause-input : goal.returns-clause-input
returns-clause-input g c e = absurd (c.finish-2.ensures.input e)

pub returns-then-not-on-clause-as_it_comes : goal.returns-then-not-on-clause-as_it_comes
returns-then-not-on-clause-as_it_comes g c start d h e = absurd (ok_no_err tt Input e)

pub returns-then-not-on-clause-output : goal.returns-then-not-on-clause-output
returns-then-not-on-clause-output g c e = absurd (ok_no_err tt Output e)

pub returns-then-not-on-clause-input : goal.returns-then-not-on-clause-input
returns-then-not-on-clause-input g c e = absurd (ok_no_err tt Input e)
