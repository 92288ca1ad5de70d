use Rattle.std.proofs.Common.{option_map, sym, ap, ◌∙◌}
use Rattle.loop_form.specs.LoopView.{op_of, view_of}
use Rattle.chunk_emit.specs.Steps.{with_op, is_op, chosen, takes_next}
use Rattle.chunk_emit.proofs.items.choose.Goals as goal

pub returns-in-None-clause-item : goal.returns-in-None-clause-item
returns-in-None-clause-item c = ap (λ o. chosen (view_of c.args.item) (option_map view_of o)) (sym c.in-None.is)

pub returns-in-None-clause-next : goal.returns-in-None-clause-next
returns-in-None-clause-next c = ap (λ o. takes_next (view_of c.args.item) (option_map view_of o)) (sym c.in-None.is)

pub returns-in-None-past_cast-clause-item : goal.returns-in-None-past_cast-clause-item
returns-in-None-past_cast-clause-item c =
    let it = view_of c.args.item in
    let op = ap (λ o. option_map op_of o) (sym c.in-None-past_cast.is) ∙ c.past_cast.ensures in
    ap (with_op it (view_of c.in-Some.next)) op ∙ ap (λ o. chosen it (option_map view_of o)) (sym c.in-Some.is)

pub returns-in-None-past_cast-clause-next : goal.returns-in-None-past_cast-clause-next
returns-in-None-past_cast-clause-next c =
    let op = ap (λ o. option_map op_of o) (sym c.in-None-past_cast.is) ∙ c.past_cast.ensures in
    ap is_op op ∙ ap (λ o. takes_next (view_of c.args.item) (option_map view_of o)) (sym c.in-Some.is)

pub returns-in-Some-past_cast-clause-item : goal.returns-in-Some-past_cast-clause-item
returns-in-Some-past_cast-clause-item c =
    let it = view_of c.args.item in
    let op = ap (λ o. option_map op_of o) (sym c.in-Some-past_cast.is) ∙ c.past_cast.ensures in
    ap (with_op it (view_of c.in-Some.next)) op ∙ ap (λ o. chosen it (option_map view_of o)) (sym c.in-Some.is)

pub returns-in-Some-past_cast-clause-next : goal.returns-in-Some-past_cast-clause-next
returns-in-Some-past_cast-clause-next c =
    let op = ap (λ o. option_map op_of o) (sym c.in-Some-past_cast.is) ∙ c.past_cast.ensures in
    ap is_op op ∙ ap (λ o. takes_next (view_of c.args.item) (option_map view_of o)) (sym c.in-Some.is)
