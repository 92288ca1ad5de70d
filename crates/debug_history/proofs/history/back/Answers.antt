use Rattle.std.proofs.Common.{◌≤◌, arith}
use Rattle.machine_model.specs.Debugged.{now}
use Rattle.debug_history.proofs.Reached.{reached_bounds, last_left}
use Rattle.debug_history.proofs.history.back.Goals as goal

pub overflow_sub-count : goal.overflow_sub-count
overflow_sub-count g c =
    let v = g.D.Debuggee.view_of c.args.machine.now in
    let below : c.first.result ≤ c.args.target = omega (arith, c.if-target-first.false) in
    let bounds = reached_bounds v.past c.args.target c.first.result c.reached-count.result c.requires c.first.ensures below c.reached-count.ensures in
    bounds.0

pub go_back-requires : goal.go_back-requires
go_back-requires g c =
    let v = g.D.Debuggee.view_of c.args.machine.now in
    let below : c.first.result ≤ c.args.target = omega (arith, c.if-target-first.false) in
    let bounds = reached_bounds v.past c.args.target c.first.result c.reached-count.result c.requires c.first.ensures below c.reached-count.ensures in
    let some = bounds.0 in
    let few = bounds.1 in
    omega (arith, some, few)

pub returns-clause-machine : goal.returns-clause-machine
returns-clause-machine g c done =
    let v = g.D.Debuggee.view_of c.args.machine.now in
    let w = g.D.Debuggee.view_of c.go_back.new.self in
    let below : c.first.result ≤ c.args.target = omega (arith, c.if-target-first.false) in
    let bounds = reached_bounds v.past c.args.target c.first.result c.reached-count.result c.requires c.first.ensures below c.reached-count.ensures in
    last_left v.past w.past c.reached-count.result (now w) bounds.0 bounds.1 c.go_back.ensures.past c.go_back.ensures.now
