use Rattle.std.proofs.Common.{sym, ap, ◌∙◌, lit≤}
use Rattle.sve_code.specs.View.{instruction_view}
use Rattle.sve_code.specs.declared.Sve.{Sve}
use Rattle.list_text.specs.SveText.{sve_text}
use Rattle.list_text.proofs.sve.unary_predicated.Goals as goal

pub merging_unary-requires : goal.merging_unary-requires
merging_unary-requires c = lit≤ tt

pub merging_unary-requires-in-Neg : goal.merging_unary-requires-in-Neg
merging_unary-requires-in-Neg c = lit≤ tt

pub merging_unary-requires-in-Not : goal.merging_unary-requires-in-Not
merging_unary-requires-in-Not c = lit≤ tt

pub returns-in-Abs : goal.returns-in-Abs
returns-in-Abs c = c.merging_unary.ensures ∙ ap (λ o. sve_text (instruction_view (Sve.UnaryPredicated o c.args.zd c.args.zn c.args.pg c.args.size))) (sym c.in-Abs.is)

pub returns-in-Neg : goal.returns-in-Neg
returns-in-Neg c =
    c.merging_unary-in-Neg.ensures
    ∙ ap (λ o. sve_text (instruction_view (Sve.UnaryPredicated o c.args.zd c.args.zn c.args.pg c.args.size))) (sym c.in-Neg.is)

pub returns-in-Not : goal.returns-in-Not
returns-in-Not c =
    c.merging_unary-in-Not.ensures
    ∙ ap (λ o. sve_text (instruction_view (Sve.UnaryPredicated o c.args.zd c.args.zn c.args.pg c.args.size))) (sym c.in-Not.is)
