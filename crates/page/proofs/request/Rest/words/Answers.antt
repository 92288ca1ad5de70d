use Rattle.std.proofs.Common.{arith}
use Rattle.std.specs.Prelude.{string_bytes}
use Rattle.command_line.specs.View.{texts}
use Rattle.std.proofs.lemmas.List.{length-map}
use Rattle.page.proofs.NoForm.{on_form, no_count, no_form_of_words}
use Rattle.page.proofs.request.Rest.words.Goals as goal

pub returns-in_err-word-clause-form : goal.returns-in_err-word-clause-form
returns-in_err-word-clause-form c = on_form _ _ c.from_residual-in_err-word.ensures.1
    (λ is. no_form_of_words c.args.self.now.bytes.now _ c.loop-alloc.self.bytes.now c.in_ok-count.count (texts c.loop-alloc.words.items) c.in_ok-count.ensures.small c.in_ok-count.ensures.found c.loop-alloc.invariant.0
    (omega (arith, c.loop-alloc-test.true, c.len.ensures, length-map c.loop-alloc.words.items string_bytes)) (c.in_err-word.ensures.form is))

pub returns-in_err-count-clause-form : goal.returns-in_err-count-clause-form
returns-in_err-count-clause-form c = on_form _ _ c.from_residual.ensures.1 (λ is. no_count _ (c.in_err-count.ensures.form is))
