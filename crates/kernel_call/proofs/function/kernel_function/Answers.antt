use Rattle.std.proofs.Common.{length, sym, ap, ◌∙◌, subst, arith}
use Rattle.loop_form.specs.View.{program}
use Rattle.call_code.specs.Called.{function_words}
use Rattle.promises.specs.Function.{CloseFunction, FunctionEnds}
use Rattle.kernel_call.proofs.Lengths.{function_length}
use Rattle.kernel_call.proofs.function.kernel_function.Goals as goal

pub returns-clause-close : goal.returns-clause-close
returns-clause-close c =
    let k = program c.args.kernel.now in
    subst (CloseFunction k) (sym (c.in_ok-words.ensures ∙ ap function_words c.deref.ensures.value)) (c.functions.ensures k c.in_ok-code.code.words.items c.in_ok-code.ensures.drafted).0

pub returns-clause-ends : goal.returns-clause-ends
returns-clause-ends c =
    let k = program c.args.kernel.now in
    subst (FunctionEnds k) (sym (c.in_ok-words.ensures ∙ ap function_words c.deref.ensures.value)) (c.functions.ensures k c.in_ok-code.code.words.items c.in_ok-code.ensures.drafted).1

pub returns-clause-short : goal.returns-clause-short
returns-clause-short c =
    let e = ap length (c.in_ok-words.ensures ∙ ap function_words c.deref.ensures.value) in
    let n = function_length c.in_ok-code.code.words.items in
    let few = c.in_ok-code.ensures.short in
    omega (arith, e, n, few)
