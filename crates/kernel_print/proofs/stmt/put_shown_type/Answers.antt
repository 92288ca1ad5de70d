use Rattle.std.proofs.Common.{◌++◌, Option, sym, ap, ◌∙◌}
use Rattle.std.specs.Prelude.{string_bytes}
use Rattle.std.proofs.lemmas.Result.{IfOk-weaker, IfOk-from_err}
use Rattle.kernel_tree.specs.declared.ops.Ty.{Ty}
use Rattle.kernel_tree.specs.Printing.{spaced, print_type}
use Rattle.kernel_print.proofs.stmt.put_shown_type.Goals as goal

pub returns-in_err-put_mark-in-Some : goal.returns-in_err-put_mark-in-Some
returns-in_err-put_mark-in-Some c = IfOk-from_err _ _ c.from_residual.ensures.0

pub returns-in-None : goal.returns-in-None
returns-in-None c = λ rest. ap (λ (o : Option Ty). string_bytes c.args.out.now ++ spaced (print_type o rest)) (sym c.in-None.is)

pub returns-in_ok-put_mark-in-Some : goal.returns-in_ok-put_mark-in-Some
returns-in_ok-put_mark-in-Some c = IfOk-weaker c.put_type.result _ _ (λ _ h rest. h rest ∙ c.in_ok-put_mark-in-Some.ensures _ ∙ ap (λ (o : Option Ty). string_bytes c.args.out.now ++ spaced (print_type o rest)) (sym c.in-Some.is)) c.put_type.ensures
