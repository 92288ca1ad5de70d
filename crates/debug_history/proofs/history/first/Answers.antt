use Rattle.std.proofs.Common.{arith}
use Rattle.machine_model.specs.Debugged.{now}
use Rattle.debug_history.proofs.Reached.{count_at}
use Rattle.debug_history.proofs.history.first.Goals as goal

pub returns : goal.returns
returns g c =
    let v = g.D.Debuggee.view_of c.args.machine.now in
    count_at v.past 0 c.kept_steps.result (now v) (omega (arith, c.requires)) (c.kept_steps.ensures (now v))
