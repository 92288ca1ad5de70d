use Rattle.std.proofs.Common.{rules, sym, ap, ap₂, ◌∙◌, Some, FitsSigned}
use Rattle.std.specs.Prelude.{option_map}
use Rattle.std.specs.Int.{w128}
use Rattle.std.proofs.lemmas.Int.{to_z-of_z}
use Rattle.kernel_meaning.specs.Operators.{word, shift_on, shift_count, shift_value}
use Rattle.kernel_meaning.proofs.Residues.{at-type}
use Rattle.kernel_eval.proofs.operate.shift.Goals as goal

pub returns-in-Some : goal.returns-in-Some
returns-in-Some c =
    let v = c.in-Some.value in
    let f : FitsSigned w128 c.wrapped.result = search rules in
    let g : FitsSigned w128 c.shift_on.result = search rules in
    let h : FitsSigned w128 c.in-Some.value = search rules in
    let count = c.shift_count.ensures.value ∙ ap shift_count (to_z-of_z w128 c.args.count c.ranges.count) in
    ap Some (at-type c.args.ty c.wrapped.result c.shift_on.result (shift_on c.args.left_shift (shift_count c.args.count) v) f g c.wrapped.ensures
    (c.shift_on.ensures ∙ ap₂ (λ k z. word (shift_on c.args.left_shift k z)) count (to_z-of_z w128 v h)))
    ∙ ap (option_map (shift_value c.args.left_shift c.args.count c.args.ty)) (sym c.in-Some.is)
