use Rattle.std.proofs.Common.{ap, ◌∙◌}
use Rattle.guest_types.specs.declared.length.Width.TheVariants.{B}
use Rattle.guest_types.specs.Length.{lanes}
use Rattle.guest_types.specs.Elements.{active, pred_test}
use Rattle.sve_machine.proofs.PredicateRows.{test_row}
use Rattle.sve_machine.proofs.predicates.test.Goals as goal

pub returns : goal.returns
returns c =
    test_row c.args.pn.number c.args.pg.number c.args.core.now c.set_flags.new.core c.args.vectors.now c.p-mask.result.now.bits c.p-outcome.result.now.bits c.p-mask.ensures.value c.p-outcome.ensures.value c.set_flags.ensures.kept
    (c.set_flags.ensures.flags ∙ ap (λ n. pred_test (active B c.p-mask.result.now.bits) (active B c.p-outcome.result.now.bits) (lanes n B)) c.vl-vl.ensures.value)
