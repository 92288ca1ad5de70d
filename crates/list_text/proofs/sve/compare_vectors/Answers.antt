use Rattle.std.proofs.Common.{sym, ap, ◌∙◌, lit≤}
use Rattle.sve_code.specs.View.{instruction_view}
use Rattle.sve_code.specs.declared.Sve.{Sve}
use Rattle.list_text.specs.SveText.{sve_text}
use Rattle.list_text.proofs.sve.compare_vectors.Goals as goal

pub compare_to-requires : goal.compare_to-requires
compare_to-requires c = lit≤ tt

pub compare_to-requires-in-Hi : goal.compare_to-requires-in-Hi
compare_to-requires-in-Hi c = lit≤ tt

pub compare_to-requires-in-Ge : goal.compare_to-requires-in-Ge
compare_to-requires-in-Ge c = lit≤ tt

pub compare_to-requires-in-Gt : goal.compare_to-requires-in-Gt
compare_to-requires-in-Gt c = lit≤ tt

pub compare_to-requires-in-Eq : goal.compare_to-requires-in-Eq
compare_to-requires-in-Eq c = lit≤ tt

pub compare_to-requires-in-Ne : goal.compare_to-requires-in-Ne
compare_to-requires-in-Ne c = lit≤ tt

pub returns-in-Hs : goal.returns-in-Hs
returns-in-Hs c = c.compare_to.ensures ∙ ap (λ o. sve_text (instruction_view (Sve.CompareVectors o c.args.pd c.args.zn c.args.pg c.args.zm c.args.size))) (sym c.in-Hs.is)

pub returns-in-Hi : goal.returns-in-Hi
returns-in-Hi c =
    c.compare_to-in-Hi.ensures
    ∙ ap (λ o. sve_text (instruction_view (Sve.CompareVectors o c.args.pd c.args.zn c.args.pg c.args.zm c.args.size))) (sym c.in-Hi.is)

pub returns-in-Ge : goal.returns-in-Ge
returns-in-Ge c =
    c.compare_to-in-Ge.ensures
    ∙ ap (λ o. sve_text (instruction_view (Sve.CompareVectors o c.args.pd c.args.zn c.args.pg c.args.zm c.args.size))) (sym c.in-Ge.is)

pub returns-in-Gt : goal.returns-in-Gt
returns-in-Gt c =
    c.compare_to-in-Gt.ensures
    ∙ ap (λ o. sve_text (instruction_view (Sve.CompareVectors o c.args.pd c.args.zn c.args.pg c.args.zm c.args.size))) (sym c.in-Gt.is)

pub returns-in-Eq : goal.returns-in-Eq
returns-in-Eq c =
    c.compare_to-in-Eq.ensures
    ∙ ap (λ o. sve_text (instruction_view (Sve.CompareVectors o c.args.pd c.args.zn c.args.pg c.args.zm c.args.size))) (sym c.in-Eq.is)

pub returns-in-Ne : goal.returns-in-Ne
returns-in-Ne c =
    c.compare_to-in-Ne.ensures
    ∙ ap (λ o. sve_text (instruction_view (Sve.CompareVectors o c.args.pd c.args.zn c.args.pg c.args.zm c.args.size))) (sym c.in-Ne.is)
