use Rattle.std.proofs.Common.{arith}
use Rattle.std.proofs.lemmas.List.{length-map}
use Rattle.io_edges.specs.NamedFile.{entry_of, entries}
use Rattle.page.proofs.NoForm.{on_form, no_file_count, no_form_of_files, no_contents}
use Rattle.page.proofs.request.Rest.files.Goals as goal

pub returns-in_err-name-clause-form : goal.returns-in_err-name-clause-form
returns-in_err-name-clause-form c = on_form _ _ c.from_residual-in_err-name.ensures.1
    (λ is. no_form_of_files c.args.self.now.bytes.now _ c.loop-alloc.self.bytes.now c.in_ok-count.count (entries c.loop-alloc.files.items) c.in_ok-count.ensures.small c.in_ok-count.ensures.found c.loop-alloc.invariant.0
    (omega (arith, c.loop-alloc-test.true, c.len.ensures, length-map c.loop-alloc.files.items entry_of)) (c.in_err-name.ensures.form is))

pub returns-in_err-field-clause-form : goal.returns-in_err-field-clause-form
returns-in_err-field-clause-form c = on_form _ _ c.from_residual-in_err-field.ensures.1
    (λ is. no_contents c.args.self.now.bytes.now _ c.loop-alloc.self.bytes.now _ _ c.in_ok-count.count (entries c.loop-alloc.files.items) c.in_ok-count.ensures.small c.in_ok-count.ensures.found c.loop-alloc.invariant.0
    (omega (arith, c.loop-alloc-test.true, c.len.ensures, length-map c.loop-alloc.files.items entry_of)) c.in_ok-name.ensures.found
    (c.in_err-field.ensures.form is))

pub returns-in_err-count-clause-form : goal.returns-in_err-count-clause-form
returns-in_err-count-clause-form c = on_form _ _ c.from_residual.ensures.1 (λ is. no_file_count _ (c.in_err-count.ensures.form is))
