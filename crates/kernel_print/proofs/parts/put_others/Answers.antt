use Rattle.std.proofs.Common.{◌++◌, List, refl, sym, ap, ◌∙◌}
use Rattle.std.specs.Prelude.{string_bytes}
use Rattle.std.proofs.Math.ListN.{drop_of_length-le}
use Rattle.std.proofs.lemmas.Result.{IfOk-from_err}
use Rattle.kernel_tree.specs.declared.ast.Param.{Param}
use Rattle.kernel_tree.specs.Plain.{parameters_of}
use Rattle.kernel_tree.specs.Printing.{spaced, print_others}
use Rattle.kernel_tree.proofs.Walks.{next_item}
use Rattle.kernel_print.proofs.parts.put_others.Goals as goal

pub loop-param-init : goal.loop-param-init
loop-param-init c = λ rest. refl

pub returns-in_err-put_mark : goal.returns-in_err-put_mark
returns-in_err-put_mark c = IfOk-from_err _ _ c.from_residual.ensures.0

pub returns-in_err-put_param : goal.returns-in_err-put_param
returns-in_err-put_param c = IfOk-from_err _ _ c.from_residual-in_err-put_param.ensures.0

pub loop-param-preserved : goal.loop-param-preserved
loop-param-preserved c = λ rest.
    let l = c.loop-param in
    let e = next_item c.args.others.now l.param-index c.param-item.result c.loop-param-test.true c.param-item.is in
    c.in_ok-put_param.ensures _ ∙ c.in_ok-put_mark.ensures _ ∙ sym (ap (λ (xs : List Param). string_bytes l.out ++ spaced (print_others (parameters_of xs) rest)) e) ∙ l.invariant rest

pub returns : goal.returns
returns c = λ rest.
    let l = c.loop-param in
    ap (λ (xs : List Param). string_bytes l.out ++ spaced (print_others (parameters_of xs) rest)) (sym (drop_of_length-le c.args.others.now c.loop-param-test.false)) ∙ l.invariant rest
