use Rattle.std.proofs.Common.{ap, ◌∙◌}
use Rattle.guest_types.specs.Length.{width_bytes, lanes}
use Rattle.guest_types.specs.Elements.{predicate}
use Rattle.guest_types.specs.Lanes.{all_at}
use Rattle.sve_machine.proofs.PredicateRows.{truths_are, true_row}
use Rattle.sve_machine.proofs.predicates.all_true.Goals as goal

pub set_p-requires-clause-shape : goal.set_p-requires-clause-shape
set_p-requires-clause-shape c = (truths_are c.args.vectors.now c.width_of-width.result all_at c.all_true_into.new.out.bits c.vl-vl.ensures.sized (c.all_true_into.ensures ∙ ap (λ n. predicate (width_bytes c.width_of-width.result) all_at (lanes n c.width_of-width.result)) c.vl-vl.ensures.value)).shape

pub returns : goal.returns
returns c core memory =
    true_row c.args.pd.number _ c.args.vectors.now c.set_p.new.self c.width_of-width.result c.all_true_into.new.out.bits c.width_of-width.ensures c.set_p.ensures
    (c.all_true_into.ensures ∙ ap (λ n. predicate (width_bytes c.width_of-width.result) all_at (lanes n c.width_of-width.result)) c.vl-vl.ensures.value) core memory
