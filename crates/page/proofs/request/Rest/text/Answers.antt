use Rattle.std.proofs.Common.{sym, subst, true≢false}
use Rattle.std.specs.Str.{IsUtf8}
use Rattle.page.proofs.NoForm.{on_form, no_utf8, no_form_of_text}
use Rattle.page.proofs.request.Rest.text.Goals as goal

pub returns-clause-form : goal.returns-clause-form
returns-clause-form c = λ is. no_form_of_text _ _ _ c.in_ok-field.ensures.found (λ good. true≢false (sym (c.in-Err.ensures.succeeds (subst IsUtf8 (sym c.in_ok-bytes.ensures.items) good))))

pub returns-in_err-field-clause-form : goal.returns-in_err-field-clause-form
returns-in_err-field-clause-form c = on_form _ _ c.from_residual.ensures.1 (λ is. no_utf8 _ (c.in_err-field.ensures.form is))
