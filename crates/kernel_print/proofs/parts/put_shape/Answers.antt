use Rattle.std.proofs.Common.{◌++◌, sym, ap, ◌∙◌}
use Rattle.std.specs.Prelude.{string_bytes}
use Rattle.std.proofs.lemmas.Result.{IfOk-weaker, IfOk-from_err}
use Rattle.kernel_tree.specs.declared.ast.Shape.{Shape}
use Rattle.kernel_tree.specs.Printing.{spaced, print_shape}
use Rattle.kernel_print.proofs.parts.put_shape.Goals as goal

pub returns-in_err-put_mark-in-Array : goal.returns-in_err-put_mark-in-Array
returns-in_err-put_mark-in-Array c = IfOk-from_err _ _ c.from_residual.ensures.0

pub returns-in_err-put_type-in-Array : goal.returns-in_err-put_type-in-Array
returns-in_err-put_type-in-Array c = IfOk-from_err _ _ c.from_residual-in_err-put_type-in-Array.ensures.0

pub returns-in-Scalar : goal.returns-in-Scalar
returns-in-Scalar c = IfOk-weaker c.put_type.result _ _ (λ _ h rest. h rest ∙ ap (λ (s : Shape). string_bytes c.args.out.now ++ spaced (print_shape s rest)) (sym c.in-Scalar.is)) c.put_type.ensures

pub returns-in_ok-put_type-in-Array : goal.returns-in_ok-put_type-in-Array
returns-in_ok-put_type-in-Array c = IfOk-weaker c.put_mark-in-Array.result _ _ (λ _ h rest. h rest ∙ c.in_ok-put_type-in-Array.ensures _ ∙ c.in_ok-put_mark-in-Array.ensures _ ∙ ap (λ (s : Shape). string_bytes c.args.out.now ++ spaced (print_shape s rest)) (sym c.in-Array.is)) c.put_mark-in-Array.ensures
