use Rattle.std.proofs.Common.{sym, ap, ◌∙◌, lit≤}
use Rattle.a64_code.specs.View.{instruction_view}
use Rattle.a64_code.specs.declared.A64.{A64}
use Rattle.list_text.specs.A64Text.{a64_text}
use Rattle.list_text.proofs.a64.shift_variable.Goals as goal

pub three_registers-requires : goal.three_registers-requires
three_registers-requires c = lit≤ tt

pub three_registers-requires-in-Lsrv : goal.three_registers-requires-in-Lsrv
three_registers-requires-in-Lsrv c = lit≤ tt

pub three_registers-requires-in-Asrv : goal.three_registers-requires-in-Asrv
three_registers-requires-in-Asrv c = lit≤ tt

pub returns-in-Lslv : goal.returns-in-Lslv
returns-in-Lslv c = c.three_registers.ensures ∙ ap (λ o. a64_text (instruction_view (A64.ShiftVariable o c.args.rd c.args.rn c.args.rm))) (sym c.in-Lslv.is)

pub returns-in-Lsrv : goal.returns-in-Lsrv
returns-in-Lsrv c = c.three_registers-in-Lsrv.ensures ∙ ap (λ o. a64_text (instruction_view (A64.ShiftVariable o c.args.rd c.args.rn c.args.rm))) (sym c.in-Lsrv.is)

pub returns-in-Asrv : goal.returns-in-Asrv
returns-in-Asrv c = c.three_registers-in-Asrv.ensures ∙ ap (λ o. a64_text (instruction_view (A64.ShiftVariable o c.args.rd c.args.rn c.args.rm))) (sym c.in-Asrv.is)
