use Rattle.std.proofs.Common.{◌<◌, ◌≤◌, length, arith}
use Rattle.machine_model.specs.Debugged.{now}
use Rattle.debug_history.proofs.Reached.{reached_count_of_cons, reached_count_ends}
use Rattle.debug_history.proofs.history.reached.Goals as goal

pub loop-n-preserved : goal.loop-n-preserved
loop-n-preserved g c =
    let v = g.D.Debuggee.view_of c.args.machine.now in
    let n = c.loop-n.n in
    let inside : n < length v.past = omega (arith, c.loop-n-test.true, c.kept-count.ensures) in
    let few : c.kept_steps.result ≤ c.args.target = omega (arith, c.if-kept_steps-target.true) in
    record {
      few = omega (arith, c.loop-n-test.true);
      so_far = reached_count_of_cons c.args.target n c.kept_steps.result v.past (now v) inside (c.kept_steps.ensures (now v)) few c.loop-n.invariant.so_far;
    }

pub returns-else-kept_steps-target : goal.returns-else-kept_steps-target
returns-else-kept_steps-target g c =
    let v = g.D.Debuggee.view_of c.args.machine.now in
    let n = c.loop-n.n in
    let inside : n < length v.past = omega (arith, c.loop-n-test.true, c.kept-count.ensures) in
    let past : c.args.target < c.kept_steps.result = omega (arith, c.if-kept_steps-target.false) in
    reached_count_ends c.args.target n c.kept_steps.result v.past (now v) inside (c.kept_steps.ensures (now v)) past c.loop-n.invariant.so_far
