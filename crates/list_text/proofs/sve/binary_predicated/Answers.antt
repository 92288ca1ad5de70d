use Rattle.std.proofs.Common.{sym, ap, ◌∙◌, lit≤}
use Rattle.sve_code.specs.View.{instruction_view}
use Rattle.sve_code.specs.declared.Sve.{Sve}
use Rattle.list_text.specs.SveText.{sve_text}
use Rattle.list_text.proofs.sve.binary_predicated.Goals as goal

pub merging_binary-requires : goal.merging_binary-requires
merging_binary-requires c = lit≤ tt

pub merging_binary-requires-in-Sub : goal.merging_binary-requires-in-Sub
merging_binary-requires-in-Sub c = lit≤ tt

pub merging_binary-requires-in-Smax : goal.merging_binary-requires-in-Smax
merging_binary-requires-in-Smax c = lit≤ tt

pub merging_binary-requires-in-Umax : goal.merging_binary-requires-in-Umax
merging_binary-requires-in-Umax c = lit≤ tt

pub merging_binary-requires-in-Smin : goal.merging_binary-requires-in-Smin
merging_binary-requires-in-Smin c = lit≤ tt

pub merging_binary-requires-in-Umin : goal.merging_binary-requires-in-Umin
merging_binary-requires-in-Umin c = lit≤ tt

pub merging_binary-requires-in-Mul : goal.merging_binary-requires-in-Mul
merging_binary-requires-in-Mul c = lit≤ tt

pub merging_binary-requires-in-Orr : goal.merging_binary-requires-in-Orr
merging_binary-requires-in-Orr c = lit≤ tt

pub merging_binary-requires-in-Eor : goal.merging_binary-requires-in-Eor
merging_binary-requires-in-Eor c = lit≤ tt

pub merging_binary-requires-in-And : goal.merging_binary-requires-in-And
merging_binary-requires-in-And c = lit≤ tt

pub returns-in-Add : goal.returns-in-Add
returns-in-Add c = c.merging_binary.ensures ∙ ap (λ o. sve_text (instruction_view (Sve.BinaryPredicated o c.args.zdn c.args.zm c.args.pg c.args.size))) (sym c.in-Add.is)

pub returns-in-Sub : goal.returns-in-Sub
returns-in-Sub c =
    c.merging_binary-in-Sub.ensures
    ∙ ap (λ o. sve_text (instruction_view (Sve.BinaryPredicated o c.args.zdn c.args.zm c.args.pg c.args.size))) (sym c.in-Sub.is)

pub returns-in-Smax : goal.returns-in-Smax
returns-in-Smax c =
    c.merging_binary-in-Smax.ensures
    ∙ ap (λ o. sve_text (instruction_view (Sve.BinaryPredicated o c.args.zdn c.args.zm c.args.pg c.args.size))) (sym c.in-Smax.is)

pub returns-in-Umax : goal.returns-in-Umax
returns-in-Umax c =
    c.merging_binary-in-Umax.ensures
    ∙ ap (λ o. sve_text (instruction_view (Sve.BinaryPredicated o c.args.zdn c.args.zm c.args.pg c.args.size))) (sym c.in-Umax.is)

pub returns-in-Smin : goal.returns-in-Smin
returns-in-Smin c =
    c.merging_binary-in-Smin.ensures
    ∙ ap (λ o. sve_text (instruction_view (Sve.BinaryPredicated o c.args.zdn c.args.zm c.args.pg c.args.size))) (sym c.in-Smin.is)

pub returns-in-Umin : goal.returns-in-Umin
returns-in-Umin c =
    c.merging_binary-in-Umin.ensures
    ∙ ap (λ o. sve_text (instruction_view (Sve.BinaryPredicated o c.args.zdn c.args.zm c.args.pg c.args.size))) (sym c.in-Umin.is)

pub returns-in-Mul : goal.returns-in-Mul
returns-in-Mul c =
    c.merging_binary-in-Mul.ensures
    ∙ ap (λ o. sve_text (instruction_view (Sve.BinaryPredicated o c.args.zdn c.args.zm c.args.pg c.args.size))) (sym c.in-Mul.is)

pub returns-in-Orr : goal.returns-in-Orr
returns-in-Orr c =
    c.merging_binary-in-Orr.ensures
    ∙ ap (λ o. sve_text (instruction_view (Sve.BinaryPredicated o c.args.zdn c.args.zm c.args.pg c.args.size))) (sym c.in-Orr.is)

pub returns-in-Eor : goal.returns-in-Eor
returns-in-Eor c =
    c.merging_binary-in-Eor.ensures
    ∙ ap (λ o. sve_text (instruction_view (Sve.BinaryPredicated o c.args.zdn c.args.zm c.args.pg c.args.size))) (sym c.in-Eor.is)

pub returns-in-And : goal.returns-in-And
returns-in-And c =
    c.merging_binary-in-And.ensures
    ∙ ap (λ o. sve_text (instruction_view (Sve.BinaryPredicated o c.args.zdn c.args.zm c.args.pg c.args.size))) (sym c.in-And.is)
