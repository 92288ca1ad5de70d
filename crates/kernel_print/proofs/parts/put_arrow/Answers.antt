use Rattle.std.proofs.Common.{◌++◌, Option, sym, ap, ◌∙◌}
use Rattle.std.specs.Prelude.{string_bytes, option_map}
use Rattle.std.proofs.lemmas.Result.{IfOk-weaker, IfOk-from_err}
use Rattle.kernel_tree.specs.declared.ast.Answer.{Answer}
use Rattle.kernel_tree.specs.Plain.{returned_of}
use Rattle.kernel_tree.specs.Printing.{spaced, print_arrow}
use Rattle.kernel_print.proofs.parts.put_arrow.Goals as goal

pub returns-in_err-put_mark-in-Some : goal.returns-in_err-put_mark-in-Some
returns-in_err-put_mark-in-Some c = IfOk-from_err _ _ c.from_residual.ensures.0

pub returns-in-None : goal.returns-in-None
returns-in-None c = λ rest. ap (λ (o : Option Answer). string_bytes c.args.out.now ++ spaced (print_arrow (option_map returned_of o) rest)) (sym c.in-None.is)

pub returns-in_ok-put_mark-in-Some : goal.returns-in_ok-put_mark-in-Some
returns-in_ok-put_mark-in-Some c = IfOk-weaker c.put_type.result _ _ (λ _ h rest. h rest ∙ c.in_ok-put_mark-in-Some.ensures _ ∙ ap (λ (o : Option Answer). string_bytes c.args.out.now ++ spaced (print_arrow (option_map returned_of o) rest)) (sym c.in-Some.is)) c.put_type.ensures
