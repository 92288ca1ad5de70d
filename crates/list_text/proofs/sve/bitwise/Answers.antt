use Rattle.std.proofs.Common.{sym, ap, ◌∙◌, lit≤}
use Rattle.sve_code.specs.View.{instruction_view}
use Rattle.sve_code.specs.declared.Sve.{Sve}
use Rattle.list_text.specs.SveText.{sve_text}
use Rattle.list_text.proofs.sve.bitwise.Goals as goal

pub three_registers-requires : goal.three_registers-requires
three_registers-requires c = lit≤ tt

pub three_registers-requires-in-Orr : goal.three_registers-requires-in-Orr
three_registers-requires-in-Orr c = lit≤ tt

pub three_registers-requires-in-Eor : goal.three_registers-requires-in-Eor
three_registers-requires-in-Eor c = lit≤ tt

pub three_registers-requires-in-Bic : goal.three_registers-requires-in-Bic
three_registers-requires-in-Bic c = lit≤ tt

pub returns-in-And : goal.returns-in-And
returns-in-And c = c.three_registers.ensures ∙ ap (λ o. sve_text (instruction_view (Sve.Bitwise o c.args.zd c.args.zn c.args.zm))) (sym c.in-And.is)

pub returns-in-Orr : goal.returns-in-Orr
returns-in-Orr c = c.three_registers-in-Orr.ensures ∙ ap (λ o. sve_text (instruction_view (Sve.Bitwise o c.args.zd c.args.zn c.args.zm))) (sym c.in-Orr.is)

pub returns-in-Eor : goal.returns-in-Eor
returns-in-Eor c = c.three_registers-in-Eor.ensures ∙ ap (λ o. sve_text (instruction_view (Sve.Bitwise o c.args.zd c.args.zn c.args.zm))) (sym c.in-Eor.is)

pub returns-in-Bic : goal.returns-in-Bic
returns-in-Bic c = c.three_registers-in-Bic.ensures ∙ ap (λ o. sve_text (instruction_view (Sve.Bitwise o c.args.zd c.args.zn c.args.zm))) (sym c.in-Bic.is)
