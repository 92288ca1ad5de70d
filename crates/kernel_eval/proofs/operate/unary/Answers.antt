use Rattle.std.proofs.Common.{rules, sym, ap, ◌∙◌, Some, FitsSigned}
use Rattle.std.specs.Prelude.{option_map}
use Rattle.std.specs.Int.{w128}
use Rattle.std.proofs.lemmas.Int.{to_z-of_z}
use Rattle.kernel_meaning.specs.Operators.{word, unary_on, unary_value}
use Rattle.kernel_meaning.proofs.Residues.{at-type}
use Rattle.kernel_eval.proofs.operate.unary.Goals as goal

pub returns-in-Some : goal.returns-in-Some
returns-in-Some c =
    let v = c.in-Some.value in
    let f : FitsSigned w128 c.wrapped.result = search rules in
    let g : FitsSigned w128 c.unary_on.result = search rules in
    let h : FitsSigned w128 c.in-Some.value = search rules in
    ap Some (at-type c.args.ty c.wrapped.result c.unary_on.result (unary_on c.args.op v) f g c.wrapped.ensures (c.unary_on.ensures ∙ ap (λ z. word (unary_on c.args.op z)) (to_z-of_z w128 v h)))
    ∙ ap (option_map (unary_value c.args.op c.args.ty)) (sym c.in-Some.is)
