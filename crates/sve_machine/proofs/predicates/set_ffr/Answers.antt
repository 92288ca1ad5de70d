use Rattle.std.proofs.Common.{ap, ◌∙◌}
use Rattle.guest_types.specs.declared.length.Width.TheVariants.{B}
use Rattle.guest_types.specs.Length.{lanes}
use Rattle.guest_types.specs.Elements.{predicate}
use Rattle.guest_types.specs.Lanes.{all_at}
use Rattle.sve_machine.proofs.PredicateRows.{truths_are, set_ffr_row}
use Rattle.sve_machine.proofs.predicates.set_ffr.Goals as goal

pub set_ffr-requires : goal.set_ffr-requires
set_ffr-requires c = (truths_are c.args.vectors.now B all_at c.all_true_into.new.out.bits c.vl-vl.ensures.sized (c.all_true_into.ensures ∙ ap (λ n. predicate 1 all_at (lanes n B)) c.vl-vl.ensures.value)).shape

pub returns : goal.returns
returns c core memory = set_ffr_row c.args.vectors.now c.set_ffr.new.self c.all_true_into.new.out.bits c.set_ffr.ensures (c.all_true_into.ensures ∙ ap (λ n. predicate 1 all_at (lanes n B)) c.vl-vl.ensures.value) core memory
