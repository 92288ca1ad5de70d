use Rattle.std.proofs.Common.{sym, ap}
use Rattle.a64_code.specs.View.{add_sub_shift_number}
use Rattle.machine_model.specs.Arithmetic.{shifted_word}
use Rattle.a64_machine.proofs.arithmetic.shifted_to_add.Goals as goal

pub returns-in-Lsl : goal.returns-in-Lsl
returns-in-Lsl c = ap (λ s. shifted_word (add_sub_shift_number s) c.args.value c.args.by) (sym c.in-Lsl.is)

pub returns-in-Lsr : goal.returns-in-Lsr
returns-in-Lsr c = ap (λ s. shifted_word (add_sub_shift_number s) c.args.value c.args.by) (sym c.in-Lsr.is)
