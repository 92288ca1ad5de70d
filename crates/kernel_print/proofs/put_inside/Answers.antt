use Rattle.std.proofs.Common.{◌∷◌, ◌++◌, List, ap, ◌∙◌}
use Rattle.std.specs.Prelude.{string_bytes, option_map}
use Rattle.std.proofs.lemmas.Result.{IfOk-weaker, IfOk-from_err}
use Rattle.kernel_tree.specs.declared.ast.Var.{Var}
use Rattle.kernel_tree.specs.declared.mark.Mark.TheVariants as mark
use Rattle.kernel_tree.specs.TextToken.{IsMark}
use Rattle.kernel_tree.specs.Plain.{accumulators_of, for_loop_of, returned_of}
use Rattle.kernel_tree.specs.Printing.{spaced, print_vars, print_for_loop, print_answer}
use Rattle.kernel_print.proofs.put_inside.Goals as goal

pub returns-in_err-put_vars : goal.returns-in_err-put_vars
returns-in_err-put_vars c = IfOk-from_err _ _ c.from_residual.ensures.0

pub returns-in_err-put_loop : goal.returns-in_err-put_loop
returns-in_err-put_loop c = IfOk-from_err _ _ c.from_residual-in_err-put_loop.ensures.0

pub returns-in_err-put_answer : goal.returns-in_err-put_answer
returns-in_err-put_answer c = IfOk-from_err _ _ c.from_residual-in_err-put_answer.ensures.0

pub returns : goal.returns
returns c = IfOk-weaker c.put_mark.result _ _ (λ _ h rest. h rest ∙ c.in_ok-put_answer.ensures _ ∙ c.in_ok-put_loop.ensures _ ∙ c.in_ok-put_vars.ensures _ ∙ ap (λ (vs : List Var). string_bytes c.args.out.now ++ spaced (print_vars (accumulators_of vs) (print_for_loop (option_map for_loop_of c.args.kernel.now.body) (print_answer (option_map returned_of c.args.kernel.now.answer) (IsMark mark.CloseBrace ∷ rest))))) c.deref.ensures.value) c.put_mark.ensures
