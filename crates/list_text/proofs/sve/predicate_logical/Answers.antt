use Rattle.std.proofs.Common.{sym, ap, ◌∙◌, lit≤}
use Rattle.sve_code.specs.View.{instruction_view}
use Rattle.sve_code.specs.declared.Sve.{Sve}
use Rattle.list_text.specs.SveText.{sve_text}
use Rattle.list_text.proofs.sve.predicate_logical.Goals as goal

pub four_predicates-requires : goal.four_predicates-requires
four_predicates-requires c = lit≤ tt

pub four_predicates-requires-in-Bic : goal.four_predicates-requires-in-Bic
four_predicates-requires-in-Bic c = lit≤ tt

pub four_predicates-requires-in-Eor : goal.four_predicates-requires-in-Eor
four_predicates-requires-in-Eor c = lit≤ tt

pub four_predicates-requires-in-Orr : goal.four_predicates-requires-in-Orr
four_predicates-requires-in-Orr c = lit≤ tt

pub four_predicates-requires-in-Ands : goal.four_predicates-requires-in-Ands
four_predicates-requires-in-Ands c = lit≤ tt

pub returns-in-And : goal.returns-in-And
returns-in-And c = c.four_predicates.ensures ∙ ap (λ o. sve_text (instruction_view (Sve.PredicateLogical o c.args.pd c.args.pn c.args.pg c.args.pm))) (sym c.in-And.is)

pub returns-in-Bic : goal.returns-in-Bic
returns-in-Bic c =
    c.four_predicates-in-Bic.ensures
    ∙ ap (λ o. sve_text (instruction_view (Sve.PredicateLogical o c.args.pd c.args.pn c.args.pg c.args.pm))) (sym c.in-Bic.is)

pub returns-in-Eor : goal.returns-in-Eor
returns-in-Eor c =
    c.four_predicates-in-Eor.ensures
    ∙ ap (λ o. sve_text (instruction_view (Sve.PredicateLogical o c.args.pd c.args.pn c.args.pg c.args.pm))) (sym c.in-Eor.is)

pub returns-in-Orr : goal.returns-in-Orr
returns-in-Orr c =
    c.four_predicates-in-Orr.ensures
    ∙ ap (λ o. sve_text (instruction_view (Sve.PredicateLogical o c.args.pd c.args.pn c.args.pg c.args.pm))) (sym c.in-Orr.is)

pub returns-in-Ands : goal.returns-in-Ands
returns-in-Ands c =
    c.four_predicates-in-Ands.ensures
    ∙ ap (λ o. sve_text (instruction_view (Sve.PredicateLogical o c.args.pd c.args.pn c.args.pg c.args.pm))) (sym c.in-Ands.is)
