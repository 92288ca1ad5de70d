use Rattle.std.proofs.Common.{Some, ap}
use Rattle.sve_top.specs.Asked.{asked}
use Rattle.page.proofs.Inputs.{is_input, anew, completes_anew}
use Rattle.page.proofs.call.call.Goals as goal

pub returns-clause-does : goal.returns-clause-does
returns-clause-does c = anew c.args.request.input.items _ _ (asked c.args.request.words.items) (asked c.deref.result.now) _ _ _ _ _ _ _ _
    (ap asked c.deref.ensures.value) c.new-files.ensures.held (ap (λ it. it.faults) c.new-files.ensures.calls)
    (ap (λ it. it.faults) c.in_ok-out.ensures.calls) (ap (λ it. it.faults) c.in_ok-err.ensures.calls) (ap (λ it. it.faults) c.new-input.ensures.calls)
    c.in_ok-out.ensures.empty c.in_ok-err.ensures.empty
    (c.top-status.ensures.does c.args.request.input.items (is_input _ _ _ (ap Some c.new-input.ensures.left)))

pub returns-clause-complete : goal.returns-clause-complete
returns-clause-complete c = completes_anew c.args.request.input.items _ _ _ _ (asked c.args.request.words.items) (asked c.deref.result.now) _ _ _ _ _
    (ap asked c.deref.ensures.value) c.new-files.ensures.held (ap (λ it. it.faults) c.in_ok-out.ensures.calls) (ap (λ it. it.faults) c.new-input.ensures.calls)
    c.in_ok-out.ensures.empty
    (c.top-status.ensures.complete c.args.request.input.items (is_input _ _ _ (ap Some c.new-input.ensures.left)) (c.new-files.ensures.steady.1 c.new.ensures.items))
