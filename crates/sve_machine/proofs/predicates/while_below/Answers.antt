use Rattle.std.proofs.Common.{refl, ap, ◌∙◌}
use Rattle.guest_types.specs.Length.{width_bytes, lanes}
use Rattle.guest_types.specs.Elements.{predicate, pred_test}
use Rattle.guest_types.specs.Lanes.{all_at, while_at}
use Rattle.a64_machine.specs.Cores.{flags_in}
use Rattle.a64_machine.specs.declared.core_state.FlagState.TheVariants.{Bits}
use Rattle.sve_machine.proofs.PredicateRows.{truths_are, while_row}
use Rattle.sve_machine.proofs.predicates.while_below.Goals as goal

pub set_p-requires-clause-shape : goal.set_p-requires-clause-shape
set_p-requires-clause-shape c =
    (truths_are c.args.vectors.now c.width_of-width.result (while_at c.register-from.result c.register-to.result) c.while_lo_test-flags.new.out.bits c.vl-vl.ensures.sized
    (c.while_lo_test-flags.ensures.predicate ∙ ap (λ n. predicate (width_bytes c.width_of-width.result) (while_at c.register-from.result c.register-to.result) (lanes n c.width_of-width.result)) c.vl-vl.ensures.value)).shape

pub returns : goal.returns
returns c =
    let w = c.width_of-width.result in
    let f = while_at c.register-from.result c.register-to.result in
    while_row c.args.pd.number c.args.rn.number c.args.rm.number _ c.args.core.now (record c.args.core.now { nzcv = Bits c.while_lo_test-flags.result }) c.args.vectors.now c.set_p.new.self w c.register-from.result c.register-to.result
    c.while_lo_test-flags.new.out.bits c.width_of-width.ensures c.register-from.ensures c.register-to.ensures
    (c.while_lo_test-flags.ensures.predicate ∙ ap (λ n. predicate (width_bytes w) f (lanes n w)) c.vl-vl.ensures.value)
    c.set_p.ensures refl
    (ap flags_in c.while_lo_test-flags.ensures.flags ∙ c.flags_are_kept.ensures _ ∙ ap (λ n. pred_test all_at f (lanes n w)) c.vl-vl.ensures.value)
