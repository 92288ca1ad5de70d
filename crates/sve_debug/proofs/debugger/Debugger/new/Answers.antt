use Rattle.std.proofs.Common.{[], ◌∷◌, length, refl, sym, ap, ◌∙◌, subst, arith}
use Rattle.std.specs.Prelude.{IsTrue}
use Rattle.debug_history.specs.Kept.{counts_of}
use Rattle.machine_model.specs.Debugged.{Past}
use Rattle.sve_debug.specs.Replies.{started}
use Rattle.sve_debug.proofs.Kept.{shows_started, twins_alone, kept_alone}
use Rattle.sve_debug.proofs.Runs.{shows_now}
use Rattle.sve_debug.proofs.debugger.Debugger.new.Goals as goal

pub invariant_of-result : goal.invariant_of-result
invariant_of-result g c =
    let v = g.D.Debuggee.view_of c.args.machine in
    let w = g.D.Debuggee.view_of c.begin.new.self in
    let same = c.in_ok-begin.ensures.now in
    let alone = c.in_ok-begin.ensures.begun in
    let size = ap length alone in (
      ap (λ b. b.capacity) c.in_ok-places.ensures,
      subst (λ (p : Past). IsTrue p.quiet) (sym same) c.requires.quiet,
      omega (arith, size),
      twins_alone v w c.requires.quiet same alone,
    )

pub returns : goal.returns
returns g c =
    let v = g.D.Debuggee.view_of c.args.machine in
    let w = g.D.Debuggee.view_of c.begin.new.self in
    let same = c.in_ok-begin.ensures.now in
    let alone = c.in_ok-begin.ensures.begun in
    let shows = shows_started v _ _ c.requires.steps c.requires.over c.requires.quiet c.new.ensures (ap (λ b. b.items) c.in_ok-places.ensures) in
    record {
      shows = shows_now v w _ _ v.state (started v.state) same shows;
      start_is = refl;
      counts = ap counts_of alone ∙ ap (λ n. n ∷ []) c.requires.steps;
      each = kept_alone v w _ _ v.state (started v.state) alone shows;
    }
