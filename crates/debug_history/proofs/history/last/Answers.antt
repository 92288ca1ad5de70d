use Rattle.machine_model.specs.Debugged.{now}
use Rattle.debug_history.proofs.Reached.{last_count}
use Rattle.debug_history.proofs.history.last.Goals as goal

pub returns : goal.returns
returns g c =
    let v = g.D.Debuggee.view_of c.args.machine.now in
    last_count v.past c.kept.result c.kept_steps.result (now v) c.kept.ensures c.requires (c.kept_steps.ensures (now v))
