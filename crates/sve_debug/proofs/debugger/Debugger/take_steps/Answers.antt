use Rattle.std.proofs.Common.{sym, subst}
use Rattle.sve_debug.specs.DebuggerState.{Stands}
use Rattle.sve_debug.proofs.debugger.Debugger.take_steps.Goals as goal

pub returns-clause-session : goal.returns-clause-session
returns-clause-session g c start d h =
    c.run_kept.ensures.session c.self.inside.breaks.items start d (subst (λ held. Stands held start d) (sym c.self.view_is) h)
