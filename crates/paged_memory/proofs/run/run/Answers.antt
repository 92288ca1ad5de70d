use Rattle.std.proofs.Common.{◌+◌, sym, subst}
use Rattle.guest_types.specs.Memory.{Memory}
use Rattle.paged_memory.specs.Runs.{IsRun}
use Rattle.paged_memory.proofs.RunLaws.{run-push}
use Rattle.std.proofs.lemmas.Result.{IfOk-from_err}
use Rattle.paged_memory.proofs.run.run.Goals as goal

pub loop-k-preserved : goal.loop-k-preserved
loop-k-preserved c =
    let from = c.args.from in
    let k = c.loop-k.k in
    subst (λ (pages : Memory). IsRun from (k + 1) c.args.perm c.args.front.now pages) (sym {A = Memory} c.in_ok-push.ensures.items)
    (run-push from k c.args.perm c.args.front.now c.loop-k.pages.items c.in_ok-page.field-0 c.loop-k.invariant c.in_ok-page.ensures.valid c.in_ok-page.ensures.number c.in_ok-page.ensures.begins)

pub returns-in_err-page : goal.returns-in_err-page
returns-in_err-page c = IfOk-from_err _ _ c.from_residual.ensures.0

pub returns-in_err-push : goal.returns-in_err-push
returns-in_err-push c = IfOk-from_err _ _ c.from_residual-in_err-push.ensures.0
