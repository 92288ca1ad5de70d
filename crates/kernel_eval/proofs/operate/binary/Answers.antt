use Rattle.std.proofs.Common.{rules, sym, ap, ap₂, ◌∙◌, Some, FitsSigned}
use Rattle.std.specs.Int.{w128}
use Rattle.std.proofs.lemmas.Int.{to_z-of_z}
use Rattle.kernel_meaning.specs.Operators.{word, binary_on, binary_value}
use Rattle.kernel_meaning.specs.Eval.{on_both}
use Rattle.kernel_meaning.proofs.Residues.{at-type}
use Rattle.kernel_eval.proofs.operate.binary.Goals as goal

pub returns-in-Some-Some : goal.returns-in-Some-Some
returns-in-Some-Some c =
    let a = c.in-Some-Some.left in
    let b = c.in-Some-Some.right in
    let f : FitsSigned w128 c.wrapped.result = search rules in
    let g : FitsSigned w128 c.binary_on.result = search rules in
    let h : FitsSigned w128 c.in-Some-Some.left = search rules in
    let k : FitsSigned w128 c.in-Some-Some.right = search rules in
    ap Some (at-type c.args.ty c.wrapped.result c.binary_on.result (binary_on c.args.op a b) f g c.wrapped.ensures (c.binary_on.ensures ∙ ap₂ (λ x y. word (binary_on c.args.op x y)) (to_z-of_z w128 a h) (to_z-of_z w128 b k)))
    ∙ ap₂ (on_both (binary_value c.args.op c.args.ty)) (sym c.in-Some-Some.is-0) (sym c.in-Some-Some.is-1)
