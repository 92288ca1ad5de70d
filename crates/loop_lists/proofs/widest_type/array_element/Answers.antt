use Rattle.std.proofs.Common.{List, ℕ, ap, sym, ◌∙◌}
use Rattle.std.specs.Prelude.{bytes_eq}
use Rattle.loop_lists.proofs.Steps.{other_array, that_array, no_array}
use Rattle.loop_lists.proofs.widest_type.array_element.Goals as goal

pub loop-param-preserved : goal.loop-param-preserved
loop-param-preserved c =
    let other = ap (λ (x : List ℕ). bytes_eq x c.args.array.now) (sym c.text.ensures) ∙ sym c.eq.ensures ∙ c.if-eq.false in
    other_array c.args.params.now c.loop-param.param-index c.args.array.now _ c.loop-param.invariant c.param-item.result c.loop-param-test.true c.param-item.is other

pub returns : goal.returns
returns c = no_array c.args.params.now c.loop-param.param-index c.args.array.now _ c.loop-param.invariant c.loop-param-test.false

pub returns-then-eq : goal.returns-then-eq
returns-then-eq c =
    let that = ap (λ (x : List ℕ). bytes_eq x c.args.array.now) (sym c.text.ensures) ∙ sym c.eq.ensures ∙ c.if-eq.true in
    c.element.ensures ∙ that_array c.args.params.now c.loop-param.param-index c.args.array.now _ c.loop-param.invariant c.param-item.result c.loop-param-test.true c.param-item.is that
