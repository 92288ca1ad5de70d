use Rattle.std.proofs.Common.{◌+◌, take, get_or, arith, refl, sym, subst}
use Rattle.reg_assign.specs.Taking.{Takes}
use Rattle.reg_assign.proofs.Walk.{IsWalk, walk_of_suc, walk_stops_without_register, arrives}
use Rattle.reg_assign.proofs.linear_scan.assign.Goals as goal

pub returns-in_default-clause-refusal : goal.returns-in_default-clause-refusal
returns-in_default-clause-refusal c =
    let more = walk_stops_without_register c.args.n c.args.intervals.now c.loop-interval.interval-index (record { from = 0; last_use = 0 }) c.loop-interval.registers.items c.loop-interval.ends.items c.take_register.new.ends.items c.requires.ascending c.loop-interval.invariant c.loop-interval-test.true (subst (λ o. Takes c.args.n (get_or c.args.intervals.now c.loop-interval.interval-index (record { from = 0; last_use = 0 })) c.loop-interval.ends.items c.take_register.new.ends.items o) c.in_default.is c.in_ok-register.ensures) in
    (refl, c.need-need.ensures, (let e = c.need-need.ensures in omega (arith, more, e)))

pub loop-interval-preserved : goal.loop-interval-preserved
loop-interval-preserved c =
    let w = walk_of_suc c.args.n c.args.intervals.now c.loop-interval.interval-index (record { from = 0; last_use = 0 }) c.loop-interval.registers.items c.loop-interval.ends.items c.take_register.new.ends.items c.requires.ascending c.loop-interval.invariant c.in-Some.register c.requires.some c.loop-interval-test.true (subst (Takes c.args.n (get_or c.args.intervals.now c.loop-interval.interval-index (record { from = 0; last_use = 0 })) c.loop-interval.ends.items c.take_register.new.ends.items) c.in-Some.is c.in_ok-register.ensures) in
    subst (λ l. IsWalk c.args.n (take (c.loop-interval.interval-index + 1) c.args.intervals.now) l c.take_register.new.ends.items) (sym c.in_ok-push.ensures.items) w

pub returns-clause-enough : goal.returns-clause-enough
returns-clause-enough c = arrives c.args.n c.args.intervals.now c.loop-interval.interval-index (record { from = 0; last_use = 0 }) c.loop-interval.registers.items c.loop-interval.ends.items c.loop-interval.ends.items c.requires.ascending c.loop-interval.invariant (omega arith)
