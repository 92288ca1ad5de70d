use Rattle.std.proofs.Common.{◌++◌, List, refl, sym, ap, ◌∙◌}
use Rattle.std.specs.Prelude.{string_bytes}
use Rattle.std.proofs.Math.ListN.{drop_of_length-le}
use Rattle.std.proofs.lemmas.Result.{IfOk-from_err}
use Rattle.kernel_tree.specs.declared.ast.Var.{Var}
use Rattle.kernel_tree.specs.Plain.{accumulators_of}
use Rattle.kernel_tree.specs.Printing.{spaced, print_vars}
use Rattle.kernel_tree.proofs.Walks.{next_item}
use Rattle.kernel_print.proofs.parts.put_vars.Goals as goal

pub loop-var-init : goal.loop-var-init
loop-var-init c = λ rest. refl

pub returns-in_err-put_var : goal.returns-in_err-put_var
returns-in_err-put_var c = IfOk-from_err _ _ c.from_residual.ensures.0

pub loop-var-preserved : goal.loop-var-preserved
loop-var-preserved c = λ rest.
    let l = c.loop-var in
    let e = next_item c.args.vars.now l.var-index c.var-item.result c.loop-var-test.true c.var-item.is in
    c.in_ok-put_var.ensures _ ∙ sym (ap (λ (xs : List Var). string_bytes l.out ++ spaced (print_vars (accumulators_of xs) rest)) e) ∙ l.invariant rest

pub returns : goal.returns
returns c = λ rest.
    let l = c.loop-var in
    ap (λ (xs : List Var). string_bytes l.out ++ spaced (print_vars (accumulators_of xs) rest)) (sym (drop_of_length-le c.args.vars.now c.loop-var-test.false)) ∙ l.invariant rest
