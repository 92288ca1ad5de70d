use Rattle.std.proofs.Common.{◌++◌, List, Option, sym, ap, ◌∙◌}
use Rattle.std.specs.Prelude.{string_bytes, option_map}
use Rattle.std.proofs.lemmas.Result.{IfOk-weaker, IfOk-from_err}
use Rattle.kernel_tree.specs.declared.ast.Loop.{Loop}
use Rattle.kernel_tree.specs.declared.ast.Stmt.{Stmt}
use Rattle.kernel_tree.specs.Plain.{block_of, for_loop_of}
use Rattle.kernel_tree.specs.Printing.{spaced, print_block, print_for_loop}
use Rattle.kernel_print.proofs.parts.put_loop.Goals as goal

pub returns-in_err-put_range-in-Some : goal.returns-in_err-put_range-in-Some
returns-in_err-put_range-in-Some c = IfOk-from_err _ _ c.from_residual.ensures.0

pub returns-in-None : goal.returns-in-None
returns-in-None c = λ rest. ap (λ (o : Option Loop). string_bytes c.args.out.now ++ spaced (print_for_loop (option_map for_loop_of o) rest)) (sym c.in-None.is)

pub returns-in_ok-put_range-in-Some : goal.returns-in_ok-put_range-in-Some
returns-in_ok-put_range-in-Some c = IfOk-weaker c.print_statements.result _ _ (λ _ h rest. h rest ∙ ap (λ (b : List Stmt). string_bytes c.put_range.new.out ++ spaced (print_block (block_of b) rest)) c.deref.ensures.value ∙ c.in_ok-put_range-in-Some.ensures _ ∙ ap (λ (o : Option Loop). string_bytes c.args.out.now ++ spaced (print_for_loop (option_map for_loop_of o) rest)) (sym c.in-Some.is)) c.print_statements.ensures
