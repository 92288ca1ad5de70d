use Rattle.std.proofs.Common.{◌∙◌, ap}
use Rattle.io_edges.specs.Files.{names_differ}
use Rattle.io_edges.specs.NamedFile.{entries}
use Rattle.page.proofs.NoForm.{not_empty, names_meet, on_form, without_words, without_files, without_input, without_name, with_more}
use Rattle.page.proofs.request.read_request.Goals.{then-not-is_empty-via-then-not-is_empty, then-not-is_empty-via-else-not-is_empty+then-not-have_different_names}
use Rattle.page.proofs.request.read_request.Goals as goal

pub returns-in_err-words-clause-form : goal.returns-in_err-words-clause-form
returns-in_err-words-clause-form c = on_form _ _ c.from_residual.ensures.1 (λ is. without_words _ (c.in_err-words.ensures.form is))

pub returns-in_err-files-clause-form : goal.returns-in_err-files-clause-form
returns-in_err-files-clause-form c = on_form _ _ c.from_residual-in_err-files.ensures.1
    (λ is. without_files _ _ _ c.in_ok-words.ensures.found (c.in_err-files.ensures.form is))

pub returns-in_err-field-clause-form : goal.returns-in_err-field-clause-form
returns-in_err-field-clause-form c = on_form _ _ c.from_residual-in_err-field.ensures.1
    (λ is. without_input _ _ _ _ _ c.in_ok-words.ensures.found c.in_ok-files.ensures.found (c.in_err-field.ensures.form is))

pub returns-in_err-wanted-clause-form : goal.returns-in_err-wanted-clause-form
returns-in_err-wanted-clause-form c = on_form _ _ c.from_residual-in_err-wanted.ensures.1
    (λ is. without_name _ _ _ _ _ _ _ c.in_ok-words.ensures.found c.in_ok-files.ensures.found c.in_ok-field.ensures.found (c.in_err-wanted.ensures.form is))

pub returns-then-not-is_empty-clause-form : goal.returns-then-not-is_empty-clause-form
returns-then-not-is_empty-clause-form c = λ is. with_more _ _ _ _ _ _ _ _ _ c.in_ok-words.ensures.found c.in_ok-files.ensures.found c.in_ok-field.ensures.found
    c.in_ok-wanted.ensures.found (elim c.then-not-is_empty.branch [
      | then-not-is_empty-via-then-not-is_empty w ↦ (λ empty differ. not_empty _ w.if-not-is_empty.ensures empty)
      | then-not-is_empty-via-else-not-is_empty+then-not-have_different_names w ↦ (λ empty differ. names_meet (entries c.in_ok-files.files.items) (w.if-not-have_different_names.ensures ∙ ap (λ it. names_differ (entries it)) w.deref.ensures.value) differ)
    ])
