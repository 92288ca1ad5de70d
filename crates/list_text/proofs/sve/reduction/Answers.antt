use Rattle.std.proofs.Common.{[], ◌∷◌, codes, sym, ap, ◌∙◌, lit≤, le_of_eq}
use Rattle.sve_code.specs.View.{instruction_view}
use Rattle.sve_code.specs.declared.Sve.{Sve}
use Rattle.list_text.specs.SveText.{sve_text, reduction}
use Rattle.sve_code.specs.Numbers.{size_number}
use Rattle.list_text.proofs.sve.reduction.Goals as goal

pub reduction_to-requires : goal.reduction_to-requires
reduction_to-requires c = record { short = lit≤ tt; one = lit≤ tt }

pub reduction_to-requires-in-Smaxv : goal.reduction_to-requires-in-Smaxv
reduction_to-requires-in-Smaxv c = record { short = lit≤ tt; one = le_of_eq c.letter_of.ensures.len }

pub reduction_to-requires-in-Umaxv : goal.reduction_to-requires-in-Umaxv
reduction_to-requires-in-Umaxv c = record { short = lit≤ tt; one = le_of_eq c.letter_of-in-Umaxv.ensures.len }

pub reduction_to-requires-in-Sminv : goal.reduction_to-requires-in-Sminv
reduction_to-requires-in-Sminv c = record { short = lit≤ tt; one = le_of_eq c.letter_of-in-Sminv.ensures.len }

pub reduction_to-requires-in-Uminv : goal.reduction_to-requires-in-Uminv
reduction_to-requires-in-Uminv c = record { short = lit≤ tt; one = le_of_eq c.letter_of-in-Uminv.ensures.len }

pub reduction_to-requires-in-Orv : goal.reduction_to-requires-in-Orv
reduction_to-requires-in-Orv c = record { short = lit≤ tt; one = le_of_eq c.letter_of-in-Orv.ensures.len }

pub reduction_to-requires-in-Eorv : goal.reduction_to-requires-in-Eorv
reduction_to-requires-in-Eorv c = record { short = lit≤ tt; one = le_of_eq c.letter_of-in-Eorv.ensures.len }

pub reduction_to-requires-in-Andv : goal.reduction_to-requires-in-Andv
reduction_to-requires-in-Andv c = record { short = lit≤ tt; one = le_of_eq c.letter_of-in-Andv.ensures.len }

pub returns-in-Uaddv : goal.returns-in-Uaddv
returns-in-Uaddv c = c.reduction_to.ensures ∙ ap (λ o. sve_text (instruction_view (Sve.Reduction o c.args.zd c.args.zn c.args.pg c.args.size))) (sym c.in-Uaddv.is)

pub returns-in-Smaxv : goal.returns-in-Smaxv
returns-in-Smaxv c =
    c.reduction_to-in-Smaxv.ensures
    ∙ ap (λ l. reduction (codes "smaxv ") l (c.args.zd.number ∷ c.args.zn.number ∷ c.args.pg.number ∷ size_number c.args.size ∷ [])) c.letter_of.ensures.name
    ∙ ap (λ o. sve_text (instruction_view (Sve.Reduction o c.args.zd c.args.zn c.args.pg c.args.size))) (sym c.in-Smaxv.is)

pub returns-in-Umaxv : goal.returns-in-Umaxv
returns-in-Umaxv c =
    c.reduction_to-in-Umaxv.ensures
    ∙ ap (λ l. reduction (codes "umaxv ") l (c.args.zd.number ∷ c.args.zn.number ∷ c.args.pg.number ∷ size_number c.args.size ∷ [])) c.letter_of-in-Umaxv.ensures.name
    ∙ ap (λ o. sve_text (instruction_view (Sve.Reduction o c.args.zd c.args.zn c.args.pg c.args.size))) (sym c.in-Umaxv.is)

pub returns-in-Sminv : goal.returns-in-Sminv
returns-in-Sminv c =
    c.reduction_to-in-Sminv.ensures
    ∙ ap (λ l. reduction (codes "sminv ") l (c.args.zd.number ∷ c.args.zn.number ∷ c.args.pg.number ∷ size_number c.args.size ∷ [])) c.letter_of-in-Sminv.ensures.name
    ∙ ap (λ o. sve_text (instruction_view (Sve.Reduction o c.args.zd c.args.zn c.args.pg c.args.size))) (sym c.in-Sminv.is)

pub returns-in-Uminv : goal.returns-in-Uminv
returns-in-Uminv c =
    c.reduction_to-in-Uminv.ensures
    ∙ ap (λ l. reduction (codes "uminv ") l (c.args.zd.number ∷ c.args.zn.number ∷ c.args.pg.number ∷ size_number c.args.size ∷ [])) c.letter_of-in-Uminv.ensures.name
    ∙ ap (λ o. sve_text (instruction_view (Sve.Reduction o c.args.zd c.args.zn c.args.pg c.args.size))) (sym c.in-Uminv.is)

pub returns-in-Orv : goal.returns-in-Orv
returns-in-Orv c =
    c.reduction_to-in-Orv.ensures
    ∙ ap (λ l. reduction (codes "orv ") l (c.args.zd.number ∷ c.args.zn.number ∷ c.args.pg.number ∷ size_number c.args.size ∷ [])) c.letter_of-in-Orv.ensures.name
    ∙ ap (λ o. sve_text (instruction_view (Sve.Reduction o c.args.zd c.args.zn c.args.pg c.args.size))) (sym c.in-Orv.is)

pub returns-in-Eorv : goal.returns-in-Eorv
returns-in-Eorv c =
    c.reduction_to-in-Eorv.ensures
    ∙ ap (λ l. reduction (codes "eorv ") l (c.args.zd.number ∷ c.args.zn.number ∷ c.args.pg.number ∷ size_number c.args.size ∷ [])) c.letter_of-in-Eorv.ensures.name
    ∙ ap (λ o. sve_text (instruction_view (Sve.Reduction o c.args.zd c.args.zn c.args.pg c.args.size))) (sym c.in-Eorv.is)

pub returns-in-Andv : goal.returns-in-Andv
returns-in-Andv c =
    c.reduction_to-in-Andv.ensures
    ∙ ap (λ l. reduction (codes "andv ") l (c.args.zd.number ∷ c.args.zn.number ∷ c.args.pg.number ∷ size_number c.args.size ∷ [])) c.letter_of-in-Andv.ensures.name
    ∙ ap (λ o. sve_text (instruction_view (Sve.Reduction o c.args.zd c.args.zn c.args.pg c.args.size))) (sym c.in-Andv.is)
