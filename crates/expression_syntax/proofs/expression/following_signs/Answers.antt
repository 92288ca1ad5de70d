use Rattle.std.proofs.Common.{◌≡◌, List, [], sym, ap, ◌∙◌, arith}
use Rattle.std.proofs.lemmas.List.{nil_from_length}
use Rattle.kernel_tree.specs.declared.mark.Sign.{Sign}
use Rattle.kernel_tree.specs.Plain.{term_of}
use Rattle.expression_syntax.specs.Signs.{all_signed}
use Rattle.expression_syntax.proofs.SignRows.{all_signed-push}
use Rattle.expression_syntax.proofs.expression.following_signs.Goals as goal

pub more-preserved : goal.more-preserved
more-preserved c = rw (ap term_of c.in_ok-expr.ensures.ok ∙ c.sign.ensures) (sym (all_signed-push c.pop.new.self.items c.in-Some.sign (term_of c.more.expr.value)) ∙ ap (λ (ss : List Sign). all_signed ss (term_of c.more.expr.value)) (sym c.in-Some.ensures.items) ∙ c.more.invariant)

pub returns : goal.returns
returns c =
    let n : c.more.left.items ≡ [] = nil_from_length c.more.left.items (omega (arith, c.more.left.ok, c.in_default.ensures.cases.0)) in
    ap (λ (ss : List Sign). all_signed ss (term_of c.more.expr.value)) (sym n) ∙ c.more.invariant
